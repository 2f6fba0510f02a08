use Rattle.std.specs.Option.{option_copied}
use Rattle.std.proofs.lemmas.List.{take_rest}
use Rattle.journey_read.proofs.Passes.{one_passed, broken_here}
use Rattle.journey_read.proofs.rules.first_broken.Goals as goal

pub returns-in-Some : goal.returns-in-Some
returns-in-Some c =
    broken_here c.args.table.now c.args.query.now c.args.legs.now c.loop-n.n (option_copied c.loop-n.previous) (option_copied c.loop-n.earlier) c.index-legs-n.result c.loop-n-test.true c.index-legs-n.is
    c.loop-n.invariant.passed c.in-Some.rule (rw take_rest at c.in-Some.ensures.rule)

pub loop-n-preserved : goal.loop-n-preserved
loop-n-preserved c = record {
  passed =
      one_passed c.args.table.now c.args.query.now c.args.legs.now c.loop-n.n (option_copied c.loop-n.previous) (option_copied c.loop-n.earlier) c.index-legs-n.result c.loop-n-test.true c.index-legs-n.is
      c.loop-n.invariant.passed (rw take_rest at c.in_default.ensures.rule);
  previous = c.in_default.ensures.known;
  earlier = c.loop-n.invariant.previous;
}
