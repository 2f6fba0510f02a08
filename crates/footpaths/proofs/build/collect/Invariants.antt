use Rattle.std.proofs.Common.{◌≡◌, ◌<◌, ◌++◌, ℕ, [], None, length, get_or}
use Rattle.std.specs.Prelude.{count_by, is_some}
use Rattle.std.specs.Option.{option_to_list}
use Rattle.footpaths.specs.Footpaths.{path_to}
use Rattle.footpaths.specs.BestRules.{slot, ranked_secs}
use Rattle.footpaths.proofs.build.collect.Given as goal

abbrev pub invariant-loop-from : goal.invariant-loop-from
invariant-loop-from l = record {
  marks : length l.marks ≡ length l.fn.marks;
  many : length l.rows ≡ length l.fn.rows;
  away : slot l.marks l.to ≡ None;
  rows : (p : ℕ) → p < length l.fn.rows → get_or l.rows p [] ++ option_to_list (path_to p l.to (ranked_secs (slot l.marks p))) ≡ get_or l.fn.rows p [] ++ option_to_list (path_to p l.to (ranked_secs (slot l.fn.marks p)));
}

abbrev pub decreases-loop-from : goal.decreases-loop-from
decreases-loop-from l = count_by (λ v. is_some v) l.marks
