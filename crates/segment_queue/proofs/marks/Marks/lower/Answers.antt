use Rattle.std.proofs.Common.{◌≡◌, ◌∙◌, ℕ, List, ◌+◌, ◌<◌, ◌≤◌, length, map, sym, ap, subst, arith}
use Rattle.std.specs.Prelude.{All}
use Rattle.std.proofs.lemmas.List.{length-map, with_items_is}
use Rattle.std.proofs.lemmas.List.Elements.{All-weaker}
use Rattle.segment_queue.specs.Words.{lowered_words, mark_in}
use Rattle.segment_queue.proofs.MarkWords.{lowered_above, lowered_seen}
use Rattle.segment_queue.proofs.marks.Marks.lower.Goals as goal

pub invariant_of-self : goal.invariant_of-self
invariant_of-self c =
    let f : ℕ = c.self.inside.floor in
    let items : List ℕ = c.self.inside.words.items in
    let same = with_items_is c.self.inside.words c.lower_words.new.words (c.lower_words.auto.words ∙ c.as_mut_slice.ensures.len) in
    let are = c.lower_words.ensures ∙ ap (lowered_words c.args.trips.now (f + c.args.at)) c.as_mut_slice.ensures.value in
    (c.self.invariant.0, subst (λ (ws : List ℕ). All (λ w. f ≤ w) ws) (sym (same ∙ are)) (lowered_above f c.args.at c.args.trips.now items c.self.invariant.1))

pub returns : goal.returns
returns c =
    let f : ℕ = c.self.inside.floor in
    let items : List ℕ = c.self.inside.words.items in
    let same = with_items_is c.self.inside.words c.lower_words.new.words (c.lower_words.auto.words ∙ c.as_mut_slice.ensures.len) in
    let are = c.lower_words.ensures ∙ ap (lowered_words c.args.trips.now (f + c.args.at)) c.as_mut_slice.ensures.value in
    let long : length (map (mark_in f) items) ≡ length c.args.self.now = ap length c.self.view_is in
    let inside : All (λ t. t < length items) c.args.trips.now
    = All-weaker (λ t. t < length c.args.self.now) (λ t. t < length items) (λ t h. omega (arith, h, long, length-map items (mark_in f))) c.args.trips.now c.requires.trips in
    rw (← c.self.view_is) (ap (map (mark_in f)) (same ∙ are) ∙ lowered_seen f c.args.at c.args.trips.now items c.requires.at inside)
