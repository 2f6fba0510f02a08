use Rattle.std.proofs.Common.{◌≡◌, ℕ, List, take}
use Rattle.std.specs.Prelude.{◌||◌, bytes_eq}
use Rattle.std.specs.List.{list_any}
use Rattle.gtfs_rows.specs.CalendarFile.{CalendarData}
use Rattle.gtfs_rows.specs.DatesFile.{DateData}
use Rattle.trip_table.proofs.warnings.named_services.Given as goal

abbrev pub invariant-loop-row : goal.invariant-loop-row
invariant-loop-row l = (id : List ℕ) → list_any (bytes_eq id) l.ids ≡ list_any (λ c. bytes_eq id (CalendarData.service c)) (take l.row-index l.rows.calendar)

abbrev pub invariant-loop-date : goal.invariant-loop-date
invariant-loop-date l = (id : List ℕ) → list_any (bytes_eq id) l.ids
    ≡ (list_any (λ c. bytes_eq id (CalendarData.service c)) l.rows.calendar || list_any (λ d. bytes_eq id (DateData.service d)) (take l.date-index l.rows.dates))
