-- What the program promises of a request.
use Rattle.std.specs.Prelude.{◌≡◌, ℕ, List, [], Option, Some, IfSome, Result, ⊤}
use Rattle.std.specs.Io.KnownBytes.{Consumes}
use Rattle.tb_base.specs.TimetableData.{TimetableData}
use Rattle.gtfs_rows.specs.declared.fault.FeedFault.{FeedFault}
use Rattle.tb_io.specs.Files.{FileList}
use Rattle.trip_table.specs.Answers.{feed_of}
use Rattle.trip_table.specs.AskedDay.{AreFaultsOf}
use Rattle.command_line.specs.declared.request.Request.{Request}
use Rattle.command_line.specs.declared.request.Request.TheVariants as request
use Rattle.live_turns.specs.Live.{HasLivedUntil, HasToldFirst}
use Rattle.live_turns.specs.declared.live.lived.LiveFault.TheVariants as live
use Rattle.lane_serve.specs.Script.{script_of}
use Rattle.edition_build.specs.Plans.{FirstGives}
use Rattle.router_cli.specs.Checks.{IsCheckEnding, IsCheckOutcome}
use Rattle.router_cli.specs.Cities.{IsCityText, IsNoCityText}
use Rattle.router_cli.specs.LateTrips.{IsLateAnswer, IsLateEnding, IsNoLateAnswer}
use Rattle.router_cli.specs.Living.{IsLiveOutcome, first_items, mode_of}
use Rattle.router_cli.specs.Matrices.{HasMatrixDay, IsMatrixEnding, IsMatrixOutcome, LeavesOrigins, naming_bytes}
use Rattle.router_cli.specs.Outcome.{EndsBy, IsDayAnswer, IsDayEnding, IsDayOf, IsNoDayAnswer, LeavesOut, Writes}
use Rattle.router_cli.specs.Serving.{IsNoRunAnswer, IsRunAnswer, IsRunEnding, TellsScript, plan_of}
use Rattle.router_cli.specs.Verifying.{HasDay, IsNoVerifyAnswer, IsVerifyAnswer, IsVerifyEnding, LeavesClaim}
use Rattle.router_cli.specs.declared.status.Status.{Status}
use Rattle.router_cli.specs.declared.status.Status.TheVariants as status

-- a request whose text alone says how it ends, and is gathered before its first byte is written:
-- any one but a check, and those for a process that lives and for a matrix, which write as they go
abbrev pub IsGathered : Request → Type 0
IsGathered (request.Live r) = ⊥
IsGathered (request.Matrix r) = ⊥
IsGathered (request.Check r) = ⊥
IsGathered r = ⊤

-- the words ask for a process that lives, and the news of its first day were written, by the bytes
-- that a sink held before and holds now
abbrev pub HasLivedOn : Option Request → Option (List ℕ) → Option (List ℕ) → Type 0
HasLivedOn (Some (request.Live r)) before now = HasToldFirst r.json (first_items r) before now
HasLivedOn asked before now = ⊥

-- the words ask for what is written as it is found
abbrev pub WriteAsTheyGo : Option Request → Type 0
WriteAsTheyGo (Some (request.Live r)) = ⊤
WriteAsTheyGo (Some (request.Matrix r)) = ⊤
WriteAsTheyGo asked = ⊥

-- the bytes are what is written for a request whose text is gathered, by the files of a folder,
-- where it tells them, and the bytes of a script, where its source tells them
abbrev pub IsRequestAnswer : Option FileList → Option (List ℕ) → Request → List ℕ → Type 0
IsRequestAnswer files told (request.Day r) = IsDayAnswer files r
IsRequestAnswer files told (request.Serve r) = IsRunAnswer files told r
IsRequestAnswer files told (request.Live r) = λ bytes. ⊥
IsRequestAnswer files told (request.Matrix r) = λ bytes. ⊥
IsRequestAnswer files told (request.Check r) = λ bytes. ⊥
IsRequestAnswer files told (request.City r) = IsCityText r.json r.side
IsRequestAnswer files told (request.Verify r) = IsVerifyAnswer files told r
IsRequestAnswer files told (request.Late r) = IsLateAnswer files r

-- why nothing is written for it
abbrev pub IsNoRequestAnswer : Option FileList → Option (List ℕ) → Request → Status → Type 0
IsNoRequestAnswer files told (request.Day r) = IsNoDayAnswer files r
IsNoRequestAnswer files told (request.Serve r) = IsNoRunAnswer files told r
IsNoRequestAnswer files told (request.Live r) = λ s. ⊥
IsNoRequestAnswer files told (request.Matrix r) = λ s. ⊥
IsNoRequestAnswer files told (request.Check r) = λ s. ⊥
IsNoRequestAnswer files told (request.City r) = IsNoCityText
IsNoRequestAnswer files told (request.Verify r) = IsNoVerifyAnswer files told r
IsNoRequestAnswer files told (request.Late r) = IsNoLateAnswer files r

-- What a status says of a request, of the files of a folder, where it tells them, and its count of
-- faults before and now, of the bytes of a script, and what is left of them, where its source tells
-- them, and of the bytes that a sink held before and holds now.
abbrev pub IsRequestOutcome : Option FileList → ℕ → ℕ → Option (List ℕ) → Option (List ℕ) → Request
    → Status → Option (List ℕ) → Option (List ℕ) → Type 0
IsRequestOutcome files faults risen told left (request.Live r) =
    IsLiveOutcome files r.options (mode_of r) (first_items r) faults risen told left
IsRequestOutcome files faults risen told left (request.Matrix r) = IsMatrixOutcome files told r
IsRequestOutcome files faults risen told left (request.Check r) = IsCheckOutcome files r
IsRequestOutcome files faults risen told left r =
    Writes (IsRequestAnswer files told r) (IsNoRequestAnswer files told r)

-- how a request may end where nothing fails outside, by what its day or its first day gives
abbrev pub IsRequestEnding : Option FileList → Option (List ℕ) → Request → Status → Type 0
IsRequestEnding files told (request.Day r) s =
    (day : Result TimetableData FeedFault) → IsDayOf files r.dir r.date r.options day →
    IsDayEnding day s
IsRequestEnding files told (request.Serve r) s = IfSome told (λ bytes.
    (day : Result TimetableData FeedFault) → FirstGives files r.options (plan_of r) day →
    IsRunEnding (script_of r.json bytes) day s)
IsRequestEnding files told (request.Live r) s =
    (day : Result TimetableData FeedFault) → FirstGives files r.options (first_items r) day →
    IsDayEnding day s
IsRequestEnding files told (request.Matrix r) s =
    (day : Result TimetableData FeedFault) → IsDayOf files r.dir r.date r.options day →
    IsMatrixEnding (naming_bytes files told r.origins) day s
IsRequestEnding files told (request.Check r) s =
    (faults : List FeedFault) → AreFaultsOf (feed_of files r.dir) r.date r.options faults →
    IsCheckEnding faults s
IsRequestEnding files told (request.City r) s = EndsBy status.Done s
IsRequestEnding files told (request.Verify r) s =
    (day : Result TimetableData FeedFault) → IsDayOf files r.dir r.date r.options day →
    IsVerifyEnding r.json told day s
IsRequestEnding files told (request.Late r) s =
    (day : Result TimetableData FeedFault) → IsDayOf files r.dir r.date r.options day →
    IsLateEnding files r day s

-- for which faults rows are left out of the day of a request; of the days of a run nothing is told
abbrev pub TellsLeftOut : Option FileList → Request → List FeedFault → Type 0
TellsLeftOut files (request.Day r) faults = LeavesOut files r.dir r.date r.options faults
TellsLeftOut files (request.Verify r) faults = LeavesOut files r.dir r.date r.options faults
TellsLeftOut files (request.Late r) faults = LeavesOut files r.dir r.date r.options faults
TellsLeftOut files (request.Matrix r) faults = LeavesOut files r.dir r.date r.options faults
TellsLeftOut files r faults = faults ≡ []

-- a script's first fault comes before what the feeds give
abbrev pub TellsFirst : Option (List ℕ) → Request → Status → Type 0
TellsFirst told (request.Serve r) s = TellsScript r.json told s
TellsFirst told r s = ⊤

-- what holds where a source failed: a claim and origins are read only once the day has a timetable
abbrev pub ReadsBehind : Option FileList → Request → Type 0
ReadsBehind files (request.Verify r) = HasDay files r
ReadsBehind files (request.Matrix r) = HasMatrixDay files r
ReadsBehind files r = ⊤

-- The same by the bytes of the source before and now, and those that a sink held before and holds
-- now: lines of a process that lives are read only once the first day is published, and what was
-- written is that of the lines before the fault.
abbrev pub HasReadBehind : Option FileList → Option (List ℕ) → Option (List ℕ) → Request →
    Option (List ℕ) → Option (List ℕ) → Type 0
HasReadBehind files told left (request.Live r) before now =
    HasLivedUntil live.ReadFault files r.options (mode_of r) (first_items r) [] told left before now
HasReadBehind files told left r before now = ReadsBehind files r

-- What is left of a source, and its count of faults, before and now: only a run, a process that
-- lives, a claim and origins take bytes of it, or meet its faults.
abbrev pub LeavesScript : Option Request → Status → Option (List ℕ) → Option (List ℕ) → ℕ → ℕ
    → Type 0
LeavesScript (Some (request.Serve r)) s before now faults risen =
    (bs : List ℕ) × Consumes before now bs
LeavesScript (Some (request.Live r)) s before now faults risen =
    (bs : List ℕ) × Consumes before now bs
LeavesScript (Some (request.Verify r)) s before now faults risen =
    LeavesClaim s before now faults risen
LeavesScript (Some (request.Matrix r)) s before now faults risen =
    LeavesOrigins r.origins s before now faults risen
LeavesScript asked s before now faults risen = (now ≡ before) × (risen ≡ faults)
