use Rattle.std.proofs.Common.{◌≡◌, ◌∙◌, ◌<◌, ◌⊎◌, sym, ap, subst, arith, length, map, set, get_or, min, pos, ◌+ℤ◌, ◌≤ℤ◌}
use Rattle.std.specs.Int.{w32}
use Rattle.std.proofs.lemmas.Int.{to_z-of_z}
use Rattle.std.proofs.lemmas.List.{get_or_default, length-map}
use Rattle.transfer_reduce.specs.Reached.{IsBy}
use Rattle.transfer_reduce.specs.Words.{time_in}
use Rattle.transfer_reduce.proofs.WordLaws.{lesser_written}
use Rattle.transfer_reduce.proofs.times.Times.lower.Goals as goal

pub returns-clause-times : goal.returns-clause-times
returns-clause-times c = λ p x.
    let f = c.self.inside.floor in
    let ws = c.self.inside.words.items in
    let w = c.word_of-word.result in
    let v = c.min.result in
    let stop = c.args.stop in
    let time = c.args.time in
    let inside : c.args.stop < length c.self.inside.words.items = omega (arith, c.requires.stop, sym (length-map ws (time_in f)) ∙ ap length c.self.view_is) in
    let at : c.index-before.result.now ≡ get_or c.self.inside.words.items c.args.stop 0 = c.index-before.ensures ∙ ap (λ i. get_or ws i c.index-before.result.now) c.index.ensures ∙ get_or_default ws stop c.index-before.result.now 0 inside in
    let least : c.min.result ≡ min c.word_of-word.result (get_or c.self.inside.words.items c.args.stop 0) = c.min.ensures ∙ ap (min w) at in
    let is = c.word_of-word.ensures.word ∙ ap (λ t. (pos f +ℤ t) +ℤ pos 86400) (to_z-of_z w32 c.args.time c.ranges.time) in
    let one = lesser_written f ws stop w time inside c.word_of-word.ensures.above c.word_of-word.ensures.below is (λ k d h. (c.self.invariant.1 k d h).low) v least p x in
    subst (λ ts. (IsBy (map (time_in f) (set ws c.index-2.result v)) p x → IsBy ts p x ⊎ ((stop ≡ p) × (time ≤ℤ x))) × (IsBy ts p x ⊎ ((stop ≡ p) × (time ≤ℤ x)) → IsBy (map (time_in f) (set ws c.index-2.result v)) p x)) c.self.view_is
    (subst (λ i. (IsBy (map (time_in f) (set ws i v)) p x → IsBy (map (time_in f) ws) p x ⊎ ((stop ≡ p) × (time ≤ℤ x))) × (IsBy (map (time_in f) ws) p x ⊎ ((stop ≡ p) × (time ≤ℤ x)) → IsBy (map (time_in f) (set ws i v)) p x)) (sym c.index-2.ensures) one)
