use Rattle.std.proofs.Common.{subst, sym}
use Rattle.std.proofs.lemmas.List.{get_or_read}
use Rattle.std.proofs.lemmas.Option.{slice_get_within}
use Rattle.line_split.specs.LinesOf.{StandsAt}
use Rattle.line_split.proofs.RunLemmas.{stands_inside}
use Rattle.line_split.proofs.before.befores_of.Goals as goal

pub before_of-requires-clause-line : goal.before_of-requires-clause-line
before_of-requires-clause-line c =
    let item = get_or_read c.args.places.now c.loop-place.place-index c.place-item.result c.loop-place-test.true c.place-item.is (0, 0) in
    let stands : StandsAt c.args.lines.now c.loop-place.place-index c.place-item.result = subst (λ p. StandsAt c.args.lines.now c.loop-place.place-index p) (sym item) (c.requires c.loop-place.place-index c.loop-place-test.true) in
    stands_inside c.args.lines.now c.place-item.result.0 c.place-item.result.1 c.loop-place.place-index stands

pub before_of-requires-clause-place : goal.before_of-requires-clause-place
before_of-requires-clause-place c =
    let item = get_or_read c.args.places.now c.loop-place.place-index c.place-item.result c.loop-place-test.true c.place-item.is (0, 0) in
    let stands : StandsAt c.args.lines.now c.loop-place.place-index c.place-item.result = subst (λ p. StandsAt c.args.lines.now c.loop-place.place-index p) (sym item) (c.requires c.loop-place.place-index c.loop-place-test.true) in
    slice_get_within _ c.place-item.result.1 c.loop-place.place-index stands
