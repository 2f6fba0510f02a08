-- What the program's status says of the words, the files and the bytes written.
use Rattle.std.specs.Prelude.{◌≡◌, ℕ, ◌<◌, ◌≤◌, ◌⊎◌, List, [], ◌++◌, codes, length, take, Option, Some, None, IsSome, Result, Err, Ok, IfOk, ⊤}
use Rattle.std.specs.Fmt.{decimal}
use Rattle.std.specs.Io.KnownBytes.{Appends}
use Rattle.tb_base.specs.Soundness.{IsSound}
use Rattle.tb_base.specs.TimetableData.{TimetableData}
use Rattle.answer_text.specs.Faults.{fault_text}
use Rattle.footpaths.specs.declared.paths.Options.{Options}
use Rattle.gtfs_rows.specs.declared.fault.FeedFault.{FeedFault}
use Rattle.tb_io.specs.Files.{FileList}
use Rattle.trip_table.specs.Answers.{feed_of}
use Rattle.trip_table.specs.AskedDay.{IsAskedDay, IsAskedOf}
use Rattle.command_line.specs.DayCommands.{DayRequestData}
use Rattle.journey_read.specs.declared.claim.JourneyFault.{JourneyFault}
use Rattle.journey_read.specs.declared.claim.JourneyFault.TheVariants as claim
use Rattle.late_edit.specs.declared.late.LateFault.{LateFault}
use Rattle.edition_build.specs.LateFaults.{late_fault_text}
use Rattle.lane_serve.specs.declared.script.ScriptFault.{ScriptFault}
use Rattle.lane_serve.specs.declared.script.ScriptFault.TheVariants as fault
use Rattle.router_cli.specs.Answers.{IsAnswer}
use Rattle.router_cli.specs.declared.status.Status.{Status}
use Rattle.router_cli.specs.declared.status.Status.TheVariants as status

-- the number with which the program ends
abbrev pub status_code : Status → ℕ
status_code status.Done = 0
status_code status.Usage = 2
status_code (status.FeedRefused f) = 3
status_code status.ReadFault = 4
status_code status.WriteFault = 5
status_code status.Memory = 6
status_code (status.ScriptRefused f) = 7
status_code (status.LateRefused f) = 8
status_code (status.JourneyRefused f) = 9
status_code status.FaultsFound = 10

-- the text of a fault by its number and name, and by its line where it has one
abbrev pub row_text : List ℕ → Option ℕ → List ℕ
row_text name None = name
row_text name (Some n) = name ++ codes " line " ++ decimal n

-- the number and the name of a script's fault, and its line where it has one
abbrev pub script_fault_text : ScriptFault → List ℕ
script_fault_text (fault.BadLine n) = codes "1 BadLine line " ++ decimal n
script_fault_text (fault.TooManyLanes n) = codes "2 TooManyLanes line " ++ decimal n
script_fault_text (fault.TooManyLines n) = codes "3 TooManyLines line " ++ decimal n
script_fault_text (fault.BadTime n) = codes "4 BadTime line " ++ decimal n
script_fault_text fault.TooLong = codes "5 TooLong"
script_fault_text fault.MissingFile = codes "6 MissingFile"

-- the same of a claim's fault
abbrev pub journey_fault_text : JourneyFault → List ℕ
journey_fault_text (claim.BadLine n) = codes "1 BadLine line " ++ decimal n
journey_fault_text (claim.UnknownStop n) = codes "2 UnknownStop line " ++ decimal n
journey_fault_text (claim.NoSuchRide n) = codes "3 NoSuchRide line " ++ decimal n
journey_fault_text claim.TooLong = codes "4 TooLong"

-- the line that it writes to standard error
abbrev pub status_text : Status → List ℕ
status_text status.Done = []
status_text status.Usage =
    codes "usage: router [--change SECS] [--station SECS] [--close] [--lenient] [--days N]"
    ++ codes " [--workers N] [--plain] [--lanes N] [--mirror] [--csv] COMMAND WORDS\n"
status_text (status.FeedRefused f) = codes "router: feed refused: " ++ fault_text f ++ codes "\n"
status_text status.ReadFault = codes "router: read fault\n"
status_text status.WriteFault = codes "router: write fault\n"
status_text status.Memory = codes "router: out of memory\n"
status_text (status.ScriptRefused f) =
    codes "router: script refused: " ++ script_fault_text f ++ codes "\n"
status_text (status.LateRefused f) =
    codes "router: late refused: " ++ late_fault_text f ++ codes "\n"
status_text (status.JourneyRefused f) =
    codes "router: journey refused: " ++ journey_fault_text f ++ codes "\n"
status_text status.FaultsFound = []

-- Whether a text is written whole, or only some first bytes of it, by the bytes that a sink held
-- before and holds now.
abbrev pub WritesText : List ℕ → Status → Option (List ℕ) → Option (List ℕ) → Type 0
WritesText text status.Done before now = Appends before now text
WritesText text status.WriteFault before now =
    (n : ℕ) × (n ≤ length text) × Appends before now (take n text)
WritesText text s before now = ⊥

-- such a status tells that nothing was written
abbrev pub IsUnwritten : Status → Type 0
IsUnwritten status.Done = ⊥
IsUnwritten status.WriteFault = ⊥
IsUnwritten status.FaultsFound = ⊥
IsUnwritten s = ⊤

-- the status of a request whose text is written whole, or that has none for this reason
abbrev pub status_of_text : {A : Type 0} → Result A Status → Status
status_of_text (Ok text) = status.Done
status_of_text (Err s) = s

-- What a status says of the bytes that a sink held before and holds now. Done: a text of this kind
-- was written whole. WriteFault: some first bytes of one. Any other status comes as Comes says.
abbrev pub Writes : (List ℕ → Type 0) → (Status → Type 0) → Status → Option (List ℕ)
    → Option (List ℕ) → Type 0
Writes IsText Comes status.Done before now =
    (bytes : List ℕ) × IsText bytes × Appends before now bytes
Writes IsText Comes status.WriteFault before now =
    (bytes : List ℕ) × (n : ℕ) × IsText bytes × (n ≤ length bytes)
    × Appends before now (take n bytes)
Writes IsText Comes s before now = Comes s

-- the status is the expected one, or it tells of want of memory
abbrev pub EndsBy : Status → Status → Type 0
EndsBy expected s = (s ≡ expected) ⊎ (s ≡ status.Memory)

-- what becomes of a day, by the files that a folder tells: its timetable, or the fault for which
-- the feed is refused, as the options ask for it
pub record IsDayOf (files : Option FileList) (dir : List ℕ) (date : ℕ) (options : Options)
    (day : Result TimetableData FeedFault) : Type 0 where
  pub asked : IsAskedDay (feed_of files dir) date options day

-- rows are left out of a day for these faults, and it has a timetable
pub record IsLeftOut (files : Option FileList) (dir : List ℕ) (date : ℕ) (options : Options)
    (faults : List FeedFault) : Type 0 where
  pub table : TimetableData
  pub asked : IsAskedOf (feed_of files dir) date options faults (Ok table)

-- the same where the folder tells its files
abbrev pub LeavesOut : Option FileList → List ℕ → ℕ → Options → List FeedFault → Type 0
LeavesOut files dir date options faults = IsSome files → IsLeftOut files dir date options faults

-- a day of a folder gives this: a sound timetable, that of the day where the folder tells its
-- files; or, where it tells them, the feed's first fault
abbrev pub GivesDay : Option FileList → List ℕ → ℕ → Options → Result TimetableData FeedFault
    → Type 0
GivesDay files dir date options day =
    IfOk day IsSound × (IsSome files → IsDayOf files dir date options day)

-- why a day gives no timetable, by the folder's count of faults before and now
abbrev pub IsNoTable : Option FileList → List ℕ → ℕ → Options → ℕ → ℕ → Status → Type 0
IsNoTable files dir date options before now (status.FeedRefused f) =
    GivesDay files dir date options (Err f) × (now ≡ before)
IsNoTable files dir date options before now status.ReadFault = before < now
IsNoTable files dir date options before now status.Memory = now ≡ before
IsNoTable files dir date options before now s = ⊥

-- What a call leaves of a folder: its files, and its count of faults before and now, which rises
-- where a read failed.
pub record LeavesFolder (Failed : Type 0) (files_before files_now : Option FileList)
    (faults faults_now : ℕ) : Type 0 where
  pub files : files_now ≡ files_before
  pub read : Failed → faults < faults_now
  pub kept : Failed ⊎ (faults_now ≡ faults)

-- What a call leaves of a folder and of a source: the folder's files, and the counts of faults of
-- both before and now, of which one rises where a read failed, and never both.
pub record LeavesOutside (Failed : Type 0) (files_before files_now : Option FileList)
    (folder folder_now source source_now : ℕ) : Type 0 where
  pub files : files_now ≡ files_before
  pub read : Failed → (folder < folder_now) ⊎ (source < source_now)
  pub alone : (folder_now ≡ folder) ⊎ (source_now ≡ source)
  pub folder_kept : Failed ⊎ (folder_now ≡ folder)
  pub source_kept : Failed ⊎ (source_now ≡ source)

-- the bytes are the answer to the request over a timetable that its day gives
pub record IsDayAnswer (files : Option FileList) (r : DayRequestData) (bytes : List ℕ) : Type 0 where
  pub table : TimetableData
  pub day : GivesDay files r.dir r.date r.options (Ok table)
  pub answer : IsAnswer table r bytes

-- Why a request about a day has no answer: the feed is refused. Of ReadFault and Memory nothing is
-- said here.
abbrev pub IsNoDayAnswer : Option FileList → DayRequestData → Status → Type 0
IsNoDayAnswer files r (status.FeedRefused f) = GivesDay files r.dir r.date r.options (Err f)
IsNoDayAnswer files r status.ReadFault = ⊤
IsNoDayAnswer files r status.Memory = ⊤
IsNoDayAnswer files r s = ⊥

-- How the program may end where nothing fails outside: with the answer on a lawful day, and else
-- with the feed's first fault; or for want of memory.
abbrev pub IsDayEnding : Result TimetableData FeedFault → Status → Type 0
IsDayEnding (Ok T) = EndsBy status.Done
IsDayEnding (Err f) = EndsBy (status.FeedRefused f)
