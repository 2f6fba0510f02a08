-- What the program's status says of a day amended by late trips.
use Rattle.std.specs.Prelude.{◌≡◌, Bool, false, ℕ, ◌⊎◌, List, ◌++◌, codes, Option, IfSome, Result, Ok, Err, if◌then◌else◌, ⊤}
use Rattle.std.specs.Fmt.{decimal}
use Rattle.tb_base.specs.Lines.{AreLines}
use Rattle.tb_base.specs.Soundness.{IsSound}
use Rattle.tb_base.specs.TimetableData.{TimetableData}
use Rattle.answer_json.specs.Frames.{count_json}
use Rattle.answer_text.specs.declared.question.Question.{Question}
use Rattle.answer_text.specs.declared.question.Question.TheVariants as question
use Rattle.gtfs_rows.specs.Steps.{and_then}
use Rattle.gtfs_rows.specs.declared.fault.FeedFault.{FeedFault}
use Rattle.tb_io.specs.Files.{FileList, file_at}
use Rattle.late_edit.specs.Amended.{amended}
use Rattle.late_edit.specs.LateFiles.{IsNoUpdates, UpdatesGive, updates_in}
use Rattle.late_edit.specs.declared.update.Update.{Update}
use Rattle.late_edit.specs.declared.late.LateFault.{LateFault}
use Rattle.late_edit.specs.declared.taking.LateTaken.TheVariants as taken
use Rattle.late_edit.specs.Touched.{touched_count}
use Rattle.edition_store.specs.Editions.{kept_count}
use Rattle.command_line.specs.Inquiries.{InquiryData}
use Rattle.command_line.specs.LateTrips.{LateRequestData}
use Rattle.router_cli.specs.Answers.{ShowsReply}
use Rattle.router_cli.specs.Outcome.{EndsBy, GivesDay}
use Rattle.router_cli.specs.declared.status.Status.{Status}
use Rattle.router_cli.specs.declared.status.Status.TheVariants as status

-- the question that an inquiry asks
abbrev pub ask_of : InquiryData → Question
ask_of i = question.Ask i.from i.to i.time

-- what is told of the second edition: how many trips are touched, and how many transfers are kept
abbrev pub amended_text : ℕ → ℕ → List ℕ
amended_text redone kept =
    codes "edition 2 redone " ++ decimal redone ++ codes " kept " ++ decimal kept ++ codes "\n"

-- `{"edition":2,"redone":N,"kept":N}`
unfoldable pub amended_json : ℕ → ℕ → List ℕ
amended_json redone kept =
    codes "{\"edition\":2" ++ count_json (codes "redone") redone ++ count_json (codes "kept") kept
    ++ codes "}\n"

abbrev pub amended_shown : Bool → ℕ → ℕ → List ℕ
amended_shown json redone kept =
    if json then amended_json redone kept else amended_text redone kept

-- What is written where timetable T becomes U: the trips that this touches are counted, and the
-- kept transfers of U; then comes what U answers.
pub record IsAmendedText (json : Bool) (T U : TimetableData) (i : InquiryData) (bytes : List ℕ)
    : Type 0 where
  pub before : List (List ℕ)
  pub lines_before : AreLines T before
  pub after : List (List ℕ)
  pub lines_after : AreLines U after
  pub redone : ℕ
  pub touched : redone ≡ touched_count (record { table = T; lines = before })
      (record { table = U; lines = after })
  pub answer : List ℕ
  pub shown : ShowsReply json U false (ask_of i) answer
  pub text : bytes ≡ amended_shown json redone (kept_count U after) ++ answer

-- the updates make a sound timetable of this one, and the bytes are what is written of the two
pub record IsLateText (json : Bool) (T : TimetableData) (updates : List Update) (i : InquiryData)
    (bytes : List ℕ) : Type 0 where
  pub table : TimetableData
  pub amended : amended T updates ≡ Ok table
  pub sound : IsSound table
  pub text : IsAmendedText json T table i bytes

-- the bytes are what is written over the day's timetable, amended by what the file says
pub record IsLateAnswer (files : Option FileList) (r : LateRequestData) (bytes : List ℕ)
    : Type 0 where
  pub table : TimetableData
  pub day : GivesDay files r.dir r.date r.options (Ok table)
  pub updates : List Update
  pub file : UpdatesGive files r.file (Ok updates)
  pub text : IsLateText r.json table updates r.inquiry bytes

-- the fault is the first one of the file, or the file is good and it is the first one of an update
abbrev pub LateRefused : Option FileList → LateRequestData → LateFault → Type 0
LateRefused files r f =
    (T : TimetableData) × GivesDay files r.dir r.date r.options (Ok T)
    × (UpdatesGive files r.file (Err f)
    ⊎ ((updates : List Update) × UpdatesGive files r.file (Ok updates)
    × (amended T updates ≡ Err f)))

-- Why nothing is written of such a day: the feed is refused; or the day has a timetable, and its
-- late trips are refused. Of ReadFault and Memory nothing is said here.
abbrev pub IsNoLateAnswer : Option FileList → LateRequestData → Status → Type 0
IsNoLateAnswer files r (status.FeedRefused f) = GivesDay files r.dir r.date r.options (Err f)
IsNoLateAnswer files r (status.LateRefused f) = LateRefused files r f
IsNoLateAnswer files r status.ReadFault = ⊤
IsNoLateAnswer files r status.Memory = ⊤
IsNoLateAnswer files r s = ⊥

-- How late trips may end where nothing fails outside: by their first fault, or with what is written
-- of the timetable that they make; or for want of memory.
abbrev pub IsAmendEnding : Result TimetableData LateFault → Status → Type 0
IsAmendEnding (Ok U) = EndsBy status.Done
IsAmendEnding (Err f) = EndsBy (status.LateRefused f)

-- The same of a request: by the feed's first fault; else as the late trips of the file, over the
-- day's timetable.
abbrev pub IsLateEnding : Option FileList → LateRequestData → Result TimetableData FeedFault
    → Status → Type 0
IsLateEnding files r (Ok T) s = IfSome files (λ fs.
    IsAmendEnding (and_then (updates_in (file_at fs r.file)) (λ updates. amended T updates)) s)
IsLateEnding files r (Err f) s = EndsBy (status.FeedRefused f) s

-- why a file says nothing of trips, by the folder's count of faults before and now
abbrev pub HasNoUpdates : Option FileList → List ℕ → ℕ → ℕ → Status → Type 0
HasNoUpdates files path before now (status.LateRefused f) =
    IsNoUpdates files path before now (taken.Fault f)
HasNoUpdates files path before now status.ReadFault =
    IsNoUpdates files path before now taken.ReadFault
HasNoUpdates files path before now status.Memory = IsNoUpdates files path before now taken.Memory
HasNoUpdates files path before now s = ⊥

-- why updates make no text of a timetable
abbrev pub IsNotAmended : TimetableData → List Update → Status → Type 0
IsNotAmended T updates (status.LateRefused f) = amended T updates ≡ Err f
IsNotAmended T updates status.Memory = ⊤
IsNotAmended T updates s = ⊥
