use Rattle.std.proofs.Common.{◌∙◌, inl, inr, sym, subst, arith}
use Rattle.std.specs.Prelude.{All}
use Rattle.line_split.specs.Bitmaps.{IsOutBy, IsPicked}
use Rattle.line_split.specs.Buckets.{may_join_line}
use Rattle.line_split.specs.Floors.{IsPassed}
use Rattle.line_split.proofs.FloorLemmas.{passed_unjoined, find_nowhere, before_or_from, first_behind}
use Rattle.line_split.proofs.place.first_line.Goals as goal

pub loop-place-preserved-then-later-gt0 : goal.loop-place-preserved-then-later-gt0
loop-place-preserved-then-later-gt0 c = record {
  whole = omega (arith, c.loop-place.invariant.whole, c.later_from-later.ensures.whole);
  none = λ k low below inside.
      elim (before_or_from k c.loop-place.place) [
        | inl before ↦ c.loop-place.invariant.none k low before inside
        | inr behind ↦
            let chosen = subst (λ es. All (IsPicked c.args.floors.now.bitmaps es) c.in_ok-picked.picked.items) c.events_of-events.ensures c.in_ok-picked.ensures in
            let passed = c.later_from-later.ensures.later k behind below (omega (arith, inside, c.requires.floors.room)) in
            passed_unjoined c.args.table.now c.args.lines.now c.args.among.now c.args.floors.now c.in_ok-picked.picked.items c.requires.floors c.args.trip k inside chosen
            (subst (λ es. IsPassed c.args.floors.now es c.in_ok-picked.picked.items k) c.events_of-events.ensures (subst (λ is. IsPassed c.args.floors.now c.events_of-events.result.now is k) c.as_slice.ensures.value passed))
      ];
}

pub first_of_word-found-requires-clause-out : goal.first_of_word-found-requires-clause-out
first_of_word-found-requires-clause-out c = λ k inside word one.
    let chosen = subst (λ es. All (IsPicked c.args.floors.now.bitmaps es) c.in_ok-picked.picked.items) c.events_of-events.ensures c.in_ok-picked.ensures in
    passed_unjoined c.args.table.now c.args.lines.now c.args.among.now c.args.floors.now c.in_ok-picked.picked.items c.requires.floors c.args.trip k inside chosen
    (inr (subst (λ is. IsOutBy c.args.floors.now.bitmaps is k) c.as_slice-in-loop-place.ensures.value (c.out_at-out.ensures k word one)))

pub returns-then-is_some : goal.returns-then-is_some
returns-then-is_some c =
    first_behind (may_join_line c.args.table.now c.args.lines.now c.args.trip) c.args.among.now c.loop-place.place c.first_of_word-found.result c.loop-place.invariant.none c.first_of_word-found.ensures (sym c.is_some.ensures ∙ c.if-is_some.true)

pub returns : goal.returns
returns c = find_nowhere (may_join_line c.args.table.now c.args.lines.now c.args.trip) c.args.among.now (λ k below. c.loop-place.invariant.none k (omega arith) (omega (arith, below, c.loop-place-test.false)) below)
