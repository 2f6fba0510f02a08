use Rattle.std.proofs.Common.{◌≡◌, map, take, None}
use Rattle.std.specs.Prelude.{slice_index_or}
use Rattle.reach_all.specs.Ranks.{reached_times}
use Rattle.reach_all.proofs.figures.gather.Given as goal

abbrev pub invariant-loop-list : goal.invariant-loop-list
invariant-loop-list l = l.times.items ≡ reached_times (map (λ list. slice_index_or list.items l.stop None) (take l.list-index l.lists))
