-- A folder's count of faults, and one that begins at 0.
use Rattle.std.specs.Prelude.{◌≡◌, ℕ, ◌<◌, ◌≤◌}
use Rattle.tb_io.specs.Causes.{Rose}
use Rattle.edition_build.specs.declared.finding.PlanEnd.{PlanEnd}
use Rattle.edition_build.specs.declared.finding.PlanEnd.TheVariants as ended

-- the folder's count never fell; where faults were counted, it rose or stands at its last value, and
-- where none were, it is the same
abbrev pub Counts : ℕ → ℕ → ℕ → Type 0
Counts start now own = (start ≤ now) × (0 < own → Rose start now) × (own ≡ 0 → now ≡ start)

-- a read failed only where the count rose, or stands at its last value; for want of memory it is the
-- same
abbrev pub HasFailedBy : ℕ → ℕ → PlanEnd → Type 0
HasFailedBy before now ended.ReadFault = Rose before now
HasFailedBy before now ended.Memory = now ≡ before
