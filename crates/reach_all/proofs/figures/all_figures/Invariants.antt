use Rattle.std.proofs.Common.{◌≡◌, ◌<◌, ℕ, length, map, get_or, None}
use Rattle.std.specs.Prelude.{slice_index_or}
use Rattle.reach_all.specs.declared.figures.Figures.{Figures}
use Rattle.reach_all.specs.TravelTimes.{AreFigures}
use Rattle.reach_all.proofs.figures.all_figures.Given as goal

abbrev pub invariant-loop-stop : goal.invariant-loop-stop
invariant-loop-stop l = record {
  each_stop : length l.figures.items ≡ l.stop;
  figures : (p : ℕ) (d : Figures) → p < l.stop → AreFigures (map (λ list. slice_index_or list.items p None) l.lists) (get_or l.figures.items p d);
}
