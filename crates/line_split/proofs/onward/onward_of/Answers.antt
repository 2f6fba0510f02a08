use Rattle.std.proofs.Common.{arith, sym, subst}
use Rattle.std.proofs.lemmas.Grind.{common_steps}
use Rattle.std.proofs.lemmas.List.{get_or_read}
use Rattle.std.proofs.lemmas.Option.{slice_get_within}
use Rattle.line_split.specs.LinesOf.{StandsAt}
use Rattle.line_split.proofs.RunLemmas.{run_from, run_more, stands_inside}
use Rattle.line_split.proofs.onward.onward_of.Goals as goal

pub run_of-requires-clause-line : goal.run_of-requires-clause-line
run_of-requires-clause-line c =
    let item = get_or_read c.args.places.now c.loop-place.place-index c.place-item.result c.loop-place-test.true c.place-item.is (0, 0) in
    let stands : StandsAt c.args.lines.now c.loop-place.place-index c.place-item.result = subst (λ p. StandsAt c.args.lines.now c.loop-place.place-index p) (sym item) (c.requires.stand c.loop-place.place-index c.loop-place-test.true) in
    stands_inside c.args.lines.now c.place-item.result.0 c.place-item.result.1 c.loop-place.place-index stands

pub run_of-requires-clause-place : goal.run_of-requires-clause-place
run_of-requires-clause-place c =
    let item = get_or_read c.args.places.now c.loop-place.place-index c.place-item.result c.loop-place-test.true c.place-item.is (0, 0) in
    let stands : StandsAt c.args.lines.now c.loop-place.place-index c.place-item.result = subst (λ p. StandsAt c.args.lines.now c.loop-place.place-index p) (sym item) (c.requires.stand c.loop-place.place-index c.loop-place-test.true) in
    slice_get_within _ c.place-item.result.1 c.loop-place.place-index stands

pub loop-place-preserved : goal.loop-place-preserved
loop-place-preserved c =
    let item = get_or_read c.args.places.now c.loop-place.place-index c.place-item.result c.loop-place-test.true c.place-item.is (0, 0) in
    let stands : StandsAt c.args.lines.now c.loop-place.place-index c.place-item.result = subst (λ p. StandsAt c.args.lines.now c.loop-place.place-index p) (sym item) (c.requires.stand c.loop-place.place-index c.loop-place-test.true) in
    let inv = c.loop-place.invariant in
    let run = run_from c.args.lines.now c.in_ok-starts.in_order.items c.loop-place.place-index c.place-item.result c.run_of.result stands c.in_ok-starts.ensures.trips c.run_of.ensures.from c.run_of.ensures.to in
    record {
      long = grind (arith, common_steps);
      runs = run_more c.args.lines.now c.in_ok-starts.in_order.items c.loop-place.place-index c.loop-place.runs.items c.push.new.self.items c.run_of.result inv.long inv.runs c.in_ok-push.ensures.items run;
    }
