use Rattle.std.proofs.Common.{◌≡◌, ◌∙◌, ℕ, ◌+◌, ◌<◌, ◌≤◌, List, [], ◌∷◌, length, length-append, get_or, sym, ap, subst, arith}
use Rattle.std.specs.Prelude.{IfSome}
use Rattle.std.proofs.lemmas.Option.{get_or_from_slice_get}
use Rattle.segment_queue.specs.declared.desk.Segment.{Segment}
use Rattle.segment_queue.specs.Queue.{DeskData}
use Rattle.segment_queue.specs.Traced.{no_segment, segment_of}
use Rattle.reach_all.specs.Swept.{AreRounds}
use Rattle.reach_all.proofs.Ridden.{few_rounds, rounds_more}
use Rattle.reach_all.proofs.sweeping.note_rounds.Goals as goal

pub round_after-round-requires-clause-inside : goal.round_after-round-requires-clause-inside
round_after-round-requires-clause-inside c =
    let D : DeskData = c.args.desk.now in
    let n : ℕ = c.loop-n.n in
    let same : segment_of D.segments n ≡ c.in-Some.segment = get_or_from_slice_get D.segments n c.in-Some.segment no_segment (sym c.in-Some.ensures) in
    let long : length c.as_slice.result.now ≡ n = ap length c.as_slice.ensures.value ∙ c.loop-n.invariant.all in
    subst (λ k. IfSome c.in-Some.segment.parent (λ p. p.0 < k)) (sym long) (subst (λ (s : Segment). IfSome s.parent (λ p. p.0 < n)) same (c.requires.parents n c.loop-n-test.true))

pub round_after-round-requires-clause-few : goal.round_after-round-requires-clause-few
round_after-round-requires-clause-few c =
    subst (λ (rs : List ℕ). (n d : ℕ) → n < length rs → get_or rs n d ≤ n + 1) (sym c.as_slice.ensures.value) (few_rounds c.args.desk.now c.loop-n.rounds.items c.loop-n.invariant.rounds)

pub loop-n-preserved : goal.loop-n-preserved
loop-n-preserved c =
    let D : DeskData = c.args.desk.now in
    let n : ℕ = c.loop-n.n in
    let rounds : List ℕ = c.loop-n.rounds.items in
    let s : Segment = c.in-Some.segment in
    let round : ℕ = c.round_after-round.result in
    let same : segment_of D.segments n ≡ s = get_or_from_slice_get D.segments n s no_segment (sym c.in-Some.ensures) in
    let pushed = c.in_ok-push.ensures {u = tt} in
    let later : IfSome s.parent (λ p. round ≡ get_or rounds p.0 0 + 1) = subst (λ (rs : List ℕ). IfSome s.parent (λ p. round ≡ get_or rs p.0 0 + 1)) c.as_slice.ensures.value c.round_after-round.ensures.later in
    record {
      rounds = subst (AreRounds D) (sym pushed.items) (rounds_more D rounds n s round c.loop-n.invariant.rounds c.loop-n.invariant.all (omega (arith, c.loop-n-test.true, c.requires.total)) same
          (subst (λ (x : Segment). IfSome x.parent (λ p. p.0 < n)) same (c.requires.parents n c.loop-n-test.true)) c.round_after-round.ensures.first later);
      all = ap length pushed.items ∙ (length-append rounds (round ∷ []) ∙ ap (λ k. k + 1) c.loop-n.invariant.all);
    }
