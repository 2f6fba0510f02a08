use Rattle.std.proofs.Common.{◌∙◌, ◌-◌, sym, ap, arith, length, replicate, map, None}
use Rattle.std.proofs.lemmas.List.{length-map, with_items_is}
use Rattle.transfer_reduce.specs.Words.{time_in}
use Rattle.transfer_reduce.proofs.WordLaws.{none_timed}
use Rattle.transfer_reduce.proofs.times.Times.clear.Goals as goal

pub returns-then-self-ge-TIMES : goal.returns-then-self-ge-TIMES
returns-then-self-ge-TIMES c =
    let floor = c.self.inside.floor in
    let words = c.self.inside.words.items in
    none_timed (floor - 446400) words (λ k d h. let low = (c.self.invariant.1 k d h).low in omega (arith, low, c.if-self-ge-TIMES.true))
    ∙ ap (λ n. replicate n None) (sym (length-map words (time_in floor)) ∙ ap length c.self.view_is)

pub returns-else-self-ge-TIMES : goal.returns-else-self-ge-TIMES
returns-else-self-ge-TIMES c =
    let words = c.self.inside.words.items in
    let wiped = c.wipe.new.words in
    let long = c.wipe.auto.words in
    ap (map (time_in 4294434495)) (with_items_is c.self.inside.words wiped (long ∙ c.as_mut_slice.ensures.len))
    ∙ none_timed 4294434495 wiped (λ k d h. let w = c.wipe.ensures k d h in omega (arith, w))
    ∙ ap (λ n. replicate n None) (long ∙ ap length c.as_mut_slice.ensures.value ∙ sym (length-map words (time_in c.self.inside.floor)) ∙ ap length c.self.view_is)
