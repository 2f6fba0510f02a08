-- What a file of a folder says of trips.
use Rattle.std.specs.Prelude.{◌≡◌, ℕ, ◌<◌, List, length, nat_lt, Option, Some, None, IfSome, Result, Ok, Err, if◌then◌else◌}
use Rattle.tb_io.specs.Files.{FileList, file_at}
use Rattle.late_edit.specs.Updates.{updates_of}
use Rattle.late_edit.specs.declared.late.LateFault.{LateFault}
use Rattle.late_edit.specs.declared.late.LateFault.TheVariants as fault
use Rattle.late_edit.specs.declared.taking.LateTaken.{LateTaken}
use Rattle.late_edit.specs.declared.taking.LateTaken.TheVariants as taken
use Rattle.late_edit.specs.declared.update.Update.{Update}

-- what a file says of trips, or its first fault: that it isn't there, then its size, then its
-- first bad line
abbrev pub updates_in : Option (List ℕ) → Result (List Update) LateFault
updates_in None = Err fault.MissingFile
updates_in (Some bytes) =
    if nat_lt 33554432 (length bytes) then Err fault.TooLarge else updates_of bytes

-- where the folder tells its files, the one at this path says this of trips
abbrev pub UpdatesGive : Option FileList → List ℕ → Result (List Update) LateFault → Type 0
UpdatesGive files path updates = IfSome files (λ fs. updates_in (file_at fs path) ≡ updates)

-- why a file says nothing of trips, by the folder's count of faults before and now
abbrev pub IsNoUpdates : Option FileList → List ℕ → ℕ → ℕ → LateTaken → Type 0
IsNoUpdates files path before now (taken.Fault f) = UpdatesGive files path (Err f) × (now ≡ before)
IsNoUpdates files path before now taken.ReadFault = before < now
IsNoUpdates files path before now taken.Memory = now ≡ before
