use Rattle.std.proofs.Common.{arith}
use Rattle.std.proofs.lemmas.Grind.{common_steps}
use Rattle.segment_queue.proofs.KeptLevels.{level_falls, one_lowered}
use Rattle.segment_queue.proofs.levels.Levels.lower.Goals as goal

pub lower_marks-requires-clause-falling : goal.lower_marks-requires-clause-falling
lower_marks-requires-clause-falling g c =
    level_falls (g.S.Scan.net c.args.scan.now).table (g.S.Scan.net c.args.scan.now).lines c.loop-k.self-inside.levels.items c.loop-k.k c.index_mut.result.now c.args.trip c.loop-k.invariant.falling
    (grind (arith, common_steps)) c.index_mut.ensures.value

pub loop-k-preserved : goal.loop-k-preserved
loop-k-preserved g c =
    one_lowered (g.S.Scan.net c.args.scan.now) c.args.level c.loop-k.k c.args.trip c.args.at c.self.inside.levels.items c.loop-k.self-inside.levels.items c.index_mut.result.now c.lower_marks.new.marks c.requires.divided c.loop-k.invariant
    (grind (arith, common_steps)) (grind (arith, common_steps)) c.index_mut.ensures.value c.lower_marks.ensures.trips c.lower_marks.ensures.marks
