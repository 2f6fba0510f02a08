use Rattle.std.proofs.Common.{◌≡◌, ℕ, ◌<◌, true, Some, None, pos, ◌+ℤ◌, get_or}
use Rattle.std.specs.Option.{option_map}
use Rattle.tb_base.specs.declared.table.Path.{Path}
use Rattle.tb_base.specs.Transfers.{is_sooner}
use Rattle.transfer_reduce.proofs.labels.Labels.is_sooner.Given as goal

abbrev pub invariant-loop-path : goal.invariant-loop-path
invariant-loop-path l = (j : ℕ) (d : Path) → j < l.path-index → is_sooner (Some l.fn.time) (option_map (λ t. t +ℤ pos (get_or l.path-items j d).secs) (get_or l.fn.self.times (get_or l.path-items j d).to None)) ≡ true
