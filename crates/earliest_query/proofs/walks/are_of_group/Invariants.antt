use Rattle.std.proofs.Common.{◌≡◌, ℕ, ◌<◌, get_or, Some}
use Rattle.std.specs.Prelude.{slice_get}
use Rattle.earliest_query.proofs.walks.are_of_group.Given as goal

abbrev pub invariant-loop-stop : goal.invariant-loop-stop
invariant-loop-stop l = (k d : ℕ) → k < l.stop-index → slice_get l.groups (get_or l.stops k d) ≡ Some l.group
