use Rattle.segment_queue.proofs.KeptLevels.{AreLowered}
use Rattle.segment_queue.proofs.levels.Levels.lower.Given as goal

abbrev pub invariant-loop-k : goal.invariant-loop-k
invariant-loop-k g l = AreLowered (g.S.Scan.net l.scan) l.level l.k l.trip l.at l.initial.self-inside.levels.items l.self-inside.levels.items
