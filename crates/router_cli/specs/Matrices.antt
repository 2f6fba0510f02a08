-- What the program's status says of a matrix: travel times from many origins to every stop.
use Rattle.std.specs.Prelude.{◌≡◌, ◌⊎◌, ℕ, ◌<◌, List, length, Option, None, Some, IfSome, Result, Ok, Err, if◌then◌else◌, ⊤}
use Rattle.std.specs.Io.KnownBytes.{Consumes}
use Rattle.std.specs.Option.{option_map}
use Rattle.tb_base.specs.TimetableData.{TimetableData}
use Rattle.gtfs_rows.specs.declared.fault.FeedFault.{FeedFault}
use Rattle.tb_io.specs.Files.{FileList, file_at}
use Rattle.command_line.specs.Matrices.{MatrixRequestData}
use Rattle.command_line.specs.declared.request.Departing.{Departing}
use Rattle.command_line.specs.declared.request.OriginsNamed.{OriginsNamed}
use Rattle.command_line.specs.declared.request.OriginsNamed.TheVariants as by
use Rattle.lane_serve.specs.Matrix.{HasCutMatrix, HasMatrix}
use Rattle.lane_serve.specs.Origins.{origins_of}
use Rattle.lane_serve.specs.declared.matrix.MatrixFault.TheVariants as cause
use Rattle.lane_serve.specs.declared.rows.RowForm.{RowForm}
use Rattle.lane_serve.specs.declared.rows.RowForm.TheVariants as form
use Rattle.lane_serve.specs.declared.rows.TimesAsked.{TimesAsked}
use Rattle.lane_serve.specs.declared.script.ScriptFault.{ScriptFault}
use Rattle.lane_serve.specs.declared.script.ScriptFault.TheVariants as fault
use Rattle.router_cli.specs.Outcome.{EndsBy, GivesDay}
use Rattle.router_cli.specs.Verifying.{LeavesClaim}
use Rattle.router_cli.specs.declared.status.Status.{Status}
use Rattle.router_cli.specs.declared.status.Status.TheVariants as status

-- in which form the rows are written
abbrev pub form_of : MatrixRequestData → RowForm
form_of r = if r.csv then form.Csv else if r.json then form.Json else form.Lines

-- what each origin is asked
abbrev pub asked_of : Departing → TimesAsked
asked_of d = record { first = d.first; last = d.last; step = d.step; rides = d.rides }

-- origins, in order, or the first fault of what names them
abbrev pub Origins : Type 0
Origins = Result (List (List ℕ)) ScriptFault

-- the origins of a file, or its first fault: that it isn't there, or that of its text
abbrev pub origins_in : Option (List ℕ) → Origins
origins_in None = Err fault.MissingFile
origins_in (Some bytes) = origins_of bytes

-- the bytes that name origins, where they are told: those of the source, or those of a file of the
-- folder, if it is there
abbrev pub naming_bytes : Option FileList → Option (List ℕ) → OriginsNamed
    → Option (Option (List ℕ))
naming_bytes files told by.Source = option_map Some told
naming_bytes files told (by.File path) = option_map (λ fs. file_at fs path) files

-- where the bytes are told, they name these origins, or have this first fault
abbrev pub NameOrigins : Option (Option (List ℕ)) → Origins → Type 0
NameOrigins naming result = IfSome naming (λ found. origins_in found ≡ result)

-- the bytes are more than those of any origins
abbrev pub IsTooLong : Option (List ℕ) → Type 0
IsTooLong None = ⊥
IsTooLong (Some bytes) = 33554432 < length bytes

-- why bytes name no origins
abbrev pub NameNone : Option (Option (List ℕ)) → Status → Type 0
NameNone naming (status.ScriptRefused f) = NameOrigins naming (Err f)
NameNone naming status.ReadFault = ⊤
NameNone naming status.Memory = ⊤
NameNone naming s = ⊥

-- what is written of origins over a timetable, by how the writing ended
abbrev pub WritesRows : MatrixRequestData → TimetableData → List (List ℕ) → Status →
    Option (List ℕ) → Option (List ℕ) → Type 0
WritesRows r T origins status.Done before now =
    HasMatrix (form_of r) T (asked_of r.departing) origins before now
WritesRows r T origins status.WriteFault before now =
    HasCutMatrix cause.WriteFault (form_of r) T (asked_of r.departing) origins before now
WritesRows r T origins status.Memory before now =
    HasCutMatrix cause.Memory (form_of r) T (asked_of r.departing) origins before now
WritesRows r T origins s before now = ⊥

-- the bytes name origins, and this was written of them over a timetable
pub record IsWrittenOver (r : MatrixRequestData) (T : TimetableData)
    (naming : Option (Option (List ℕ))) (s : Status) (before now : Option (List ℕ))
    : Type 0 where
  pub origins : List (List ℕ)
  pub named : NameOrigins naming (Ok origins)
  pub written : WritesRows r T origins s before now

-- what a status says of the origins that bytes name, over the timetable of a day
abbrev pub IsMatrixOver : MatrixRequestData → TimetableData → Option (Option (List ℕ)) → Status →
    Option (List ℕ) → Option (List ℕ) → Type 0
IsMatrixOver r T naming status.Memory before now =
    (now ≡ before) ⊎ IsWrittenOver r T naming status.Memory before now
IsMatrixOver r T naming (status.ScriptRefused f) before now =
    NameOrigins naming (Err f) × (now ≡ before)
IsMatrixOver r T naming status.ReadFault before now = now ≡ before
IsMatrixOver r T naming status.Done before now = IsWrittenOver r T naming status.Done before now
IsMatrixOver r T naming status.WriteFault before now =
    IsWrittenOver r T naming status.WriteFault before now
IsMatrixOver r T naming s before now = ⊥

-- the same over the timetable of the day
pub record IsMatrixWritten (files : Option FileList) (told : Option (List ℕ)) (r : MatrixRequestData)
    (s : Status) (before now : Option (List ℕ)) : Type 0 where
  pub table : TimetableData
  pub day : GivesDay files r.dir r.date r.options (Ok table)
  pub rows : IsWrittenOver r table (naming_bytes files told r.origins) s before now

-- the day of a request has a timetable: any sound one, where the folder doesn't tell its files
abbrev pub HasMatrixDay : Option FileList → MatrixRequestData → Type 0
HasMatrixDay files r = (T : TimetableData) × GivesDay files r.dir r.date r.options (Ok T)

-- What a status says of the bytes that a sink held before and holds now. Done: the rows of all
-- origins were written. WriteFault: a first part of them. Memory: nothing, or the rows of some
-- first origins. Any other one: nothing, since the feed is refused; since the day has a timetable,
-- and no origins are named, for this first fault; or since a read failed.
abbrev pub IsMatrixOutcome : Option FileList → Option (List ℕ) → MatrixRequestData → Status →
    Option (List ℕ) → Option (List ℕ) → Type 0
IsMatrixOutcome files told r status.Done before now =
    IsMatrixWritten files told r status.Done before now
IsMatrixOutcome files told r status.WriteFault before now =
    IsMatrixWritten files told r status.WriteFault before now
IsMatrixOutcome files told r status.Memory before now =
    (now ≡ before) ⊎ IsMatrixWritten files told r status.Memory before now
IsMatrixOutcome files told r (status.FeedRefused f) before now =
    GivesDay files r.dir r.date r.options (Err f) × (now ≡ before)
IsMatrixOutcome files told r (status.ScriptRefused f) before now =
    HasMatrixDay files r × NameOrigins (naming_bytes files told r.origins) (Err f)
    × (now ≡ before)
IsMatrixOutcome files told r status.ReadFault before now = now ≡ before
IsMatrixOutcome files told r s before now = ⊥

-- What is left of a source, and its count of faults, before and now, once origins are read, or a
-- read failed: nothing is taken of it where a file names them.
abbrev pub LeavesNaming : OriginsNamed → Type 0 → Option (List ℕ) → Option (List ℕ) → ℕ → ℕ
    → Type 0
LeavesNaming by.Source Failed before now faults risen =
    (Failed → faults < risen) × ((bs : List ℕ) × Consumes before now bs)
LeavesNaming (by.File path) Failed before now faults risen = (now ≡ before) × (risen ≡ faults)

-- the same of a request: of a source that names the origins is left what is of that of a claim
abbrev pub LeavesOrigins : OriginsNamed → Status → Option (List ℕ) → Option (List ℕ) → ℕ → ℕ
    → Type 0
LeavesOrigins by.Source s before now faults risen = LeavesClaim s before now faults risen
LeavesOrigins (by.File path) s before now faults risen = (now ≡ before) × (risen ≡ faults)

-- How a matrix may end where nothing fails outside: by the first fault of the origins, or with all
-- rows; or for want of memory.
abbrev pub IsOriginsEnding : Origins → Status → Type 0
IsOriginsEnding (Ok origins) = EndsBy status.Done
IsOriginsEnding (Err f) = EndsBy (status.ScriptRefused f)

-- The same of a request: by the feed's first fault; else as its origins say.
abbrev pub IsMatrixEnding : Option (Option (List ℕ)) → Result TimetableData FeedFault → Status
    → Type 0
IsMatrixEnding naming (Ok T) s = IfSome naming (λ found. IsOriginsEnding (origins_in found) s)
IsMatrixEnding naming (Err f) s = EndsBy (status.FeedRefused f) s
