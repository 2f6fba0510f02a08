-- A plan of days of feeds and of files that amend them, and what becomes of each item.
use Rattle.std.specs.Prelude.{◌≡◌, ◌⊎◌, ℕ, ◌+◌, ◌<◌, List, [], ◌∷◌, ◌++◌, length, Bool, true, Option, Some, None, IsSome, Result, Ok, Err, ⊤}
use Rattle.tb_base.specs.TimetableData.{TimetableData}
use Rattle.tb_io.specs.Files.{FileList}
use Rattle.gtfs_rows.specs.Steps.{and_then}
use Rattle.gtfs_rows.specs.declared.fault.FeedFault.{FeedFault}
use Rattle.footpaths.specs.Limits.{AreWithinADay}
use Rattle.footpaths.specs.declared.paths.Options.{Options}
use Rattle.tb_base.specs.Workers.{AreWorkers}
use Rattle.trip_table.specs.Answers.{feed_of}
use Rattle.trip_table.specs.AskedDay.{IsAskedDay}
use Rattle.trip_table.specs.declared.day_fault.DayFault.{DayFault}
use Rattle.trip_table.specs.declared.day_fault.DayFault.TheVariants as why
use Rattle.edition_store.specs.Editions.{EditionData, IsEdition}
use Rattle.late_edit.specs.Amended.{amended}
use Rattle.late_edit.specs.Amending.{edition_lines}
use Rattle.late_edit.specs.LateFiles.{UpdatesGive}
use Rattle.late_edit.specs.Touched.{touched_count}
use Rattle.late_edit.specs.declared.late.LateFault.{LateFault}
use Rattle.late_edit.specs.declared.taking.LateTaken.{LateTaken}
use Rattle.late_edit.specs.declared.taking.LateTaken.TheVariants as taken
use Rattle.late_edit.specs.declared.update.Update.{Update}
use Rattle.edition_build.specs.FeedDays.{FeedDayData}
use Rattle.edition_build.specs.declared.plan.ItemSource.{ItemSource}
use Rattle.edition_build.specs.declared.plan.ItemSource.TheVariants as source
use Rattle.edition_build.specs.declared.plan.Outcome.{Outcome}
use Rattle.edition_build.specs.declared.plan.Outcome.TheVariants.{Amended, LateRefused, Published, Refused}
use Rattle.edition_build.specs.declared.finding.Building.{Building}
use Rattle.edition_build.specs.declared.finding.PlanEnd.{PlanEnd}
use Rattle.edition_build.specs.declared.finding.PlanEnd.TheVariants as ended

-- the word that names an item, and what its edition is made of
pub record ItemData : Type 0 where
  pub word : List ℕ
  pub source : ItemSource

-- what holds of the day of a feed that an item is
abbrev pub OfDay : ItemSource → (FeedDayData → Type 0) → Type 0
OfDay (source.Day d) Holds = Holds d
OfDay (source.Late path) Holds = ⊥

-- the first item of a plan is a day of a feed
abbrev pub BeginsWithDay : List ItemData → Type 0
BeginsWithDay [] = ⊥
BeginsWithDay (item ∷ items) = OfDay item.source (λ d. ⊤)

-- it is this one
abbrev pub BeginsWithFeed : List ItemData → FeedDayData → Type 0
BeginsWithFeed [] d = ⊥
BeginsWithFeed (item ∷ items) d = item.source ≡ source.Day d

-- where the folder tells its files, the feed gives on the day, as the options ask for it, this
-- timetable or fault
abbrev pub DayGives :
    Option FileList → Options → FeedDayData → Result TimetableData FeedFault → Type 0
DayGives files options d result =
    IsSome files → IsAskedDay (feed_of files d.dir) d.day options result

-- a timetable amended by what a file says, or the first fault of the file or of an update
pub record LateGives (files : Option FileList) (T : TimetableData) (path : List ℕ)
    (result : Result TimetableData LateFault) : Type 0 where
  pub said : Result (List Update) LateFault
  pub file : UpdatesGive files path said
  pub made : and_then said (λ updates. amended T updates) ≡ result

-- where mirrors are wanted, an edition has one
abbrev pub HasMirror : Bool → EditionData → Type 0
HasMirror mirrored e = mirrored ≡ true → IsSome e.mirror

-- the edition of a day of a feed: that of its timetable, with its lines and its kept transfers, and
-- the same of its mirror where mirrors are wanted
abbrev pub IsEditionOfDay : Option FileList → Options → Bool → FeedDayData → EditionData → Type 0
IsEditionOfDay files options mirrored d e =
    DayGives files options d (Ok e.table) × IsEdition e × HasMirror mirrored e

-- the same of the timetable of a day's edition, amended by what a file says
abbrev pub IsAmendedEdition : Option FileList → Bool → EditionData → List ℕ → EditionData → Type 0
IsAmendedEdition files mirrored day path e =
    LateGives files day.table path (Ok e.table) × IsEdition e × HasMirror mirrored e

-- the outcome of a day that was published as edition number: that, and the edition's counts
abbrev pub outcome_of : ℕ → EditionData → Outcome
outcome_of number e = Published number (length e.table.trips) (length e.lines) e.kept

-- the outcome of a file by which a day's edition is amended to the one of this number: that, how
-- many trips this touches, and how many transfers are kept
abbrev pub amended_outcome_of : EditionData → ℕ → EditionData → Outcome
amended_outcome_of day number e =
    Amended number (touched_count (edition_lines day) (edition_lines e)) e.kept

-- What becomes of a day of a feed, where n editions were published before, and the edition that it
-- adds: a lawful one is published as the next edition; of another one its first fault is told.
abbrev pub HasDayOutcome : Option FileList → Options → Bool → ℕ → FeedDayData → Outcome →
    List EditionData → Type 0
HasDayOutcome files options mirrored n d o es =
    ((e : EditionData) × (es ≡ e ∷ []) × IsEditionOfDay files options mirrored d e
    × (o ≡ outcome_of (n + 1) e))
    ⊎ ((f : FeedFault) × (es ≡ []) × (o ≡ Refused f) × DayGives files options d (Err f))

-- The same of a file that amends the edition of a day.
abbrev pub HasLateOutcome : Option FileList → Bool → EditionData → ℕ → List ℕ → Outcome →
    List EditionData → Type 0
HasLateOutcome files mirrored day n path o es =
    ((e : EditionData) × (es ≡ e ∷ []) × IsAmendedEdition files mirrored day path e
    × (o ≡ amended_outcome_of day (n + 1) e))
    ⊎ ((f : LateFault) × (es ≡ []) × (o ≡ LateRefused f) × LateGives files day.table path (Err f))

-- What becomes of an item by what it is made of, where the edition of the last day that was
-- published is known: a file amends that one. Before the first day there is none to be amended.
abbrev pub HasSourceOutcome : Option FileList → Options → Bool → Option EditionData → ℕ →
    ItemSource → Outcome → List EditionData → Type 0
HasSourceOutcome files options mirrored day n (source.Day d) o es =
    HasDayOutcome files options mirrored n d o es
HasSourceOutcome files options mirrored (Some day) n (source.Late path) o es =
    HasLateOutcome files mirrored day n path o es
HasSourceOutcome files options mirrored None n (source.Late path) o es = ⊥

abbrev pub HasOutcome : Option FileList → Options → Bool → Option EditionData → ℕ → ItemData →
    Outcome → List EditionData → Type 0
HasOutcome files options mirrored day n item o es =
    HasSourceOutcome files options mirrored day n item.source o es

-- the edition of the last day that was published, behind an item that added these editions: files
-- that amend it leave it as it is, so they don't add up
abbrev pub day_after : Option EditionData → ItemSource → List EditionData → Option EditionData
day_after day (source.Day d) [] = day
day_after day (source.Day d) (e ∷ es) = Some e
day_after day (source.Late path) es = day

-- One thing is told of each item in order, where n editions were published before, and this is the
-- edition of the last day among them. The editions are those that the items add, in order.
abbrev pub AreTold : {O : Type 0} →
    (Option EditionData → ℕ → ItemData → O → List EditionData → Type 0) → Option EditionData → ℕ →
    List ItemData → List O → List EditionData → Type 0
AreTold Tells day n [] [] es = es ≡ []
AreTold Tells day n [] (o ∷ os) es = ⊥
AreTold Tells day n (item ∷ items) [] es = ⊥
AreTold Tells day n (item ∷ items) (o ∷ os) es =
    (added : List EditionData) × (rest : List EditionData) × (es ≡ added ++ rest)
    × Tells day n item o added
    × AreTold Tells (day_after day item.source added) (n + length added) items os rest

-- one outcome for each item of a plan in order
abbrev pub AreOutcomes : Option FileList → Options → Bool → List ItemData → List Outcome →
    List EditionData → Type 0
AreOutcomes files options mirrored items os es =
    AreTold (HasOutcome files options mirrored) None 0 items os es

-- What is told of some first items, the last day of which has this edition: with what is told of
-- further items behind them it is what is told of all.
abbrev pub AreSoFar : {O : Type 0} →
    (Option EditionData → ℕ → ItemData → O → List EditionData → Type 0) → List ItemData → List O →
    List EditionData → EditionData → Type 0
AreSoFar {O} Tells items os es day =
    (more : List ItemData) (ps : List O) (fs : List EditionData) →
    AreTold Tells (Some day) (length es) more ps fs →
    AreTold Tells None 0 (items ++ more) (os ++ ps) (es ++ fs)

-- one more item: its outcome behind the others, and its edition, if it has one, behind the others;
-- and the edition of the last day then
abbrev pub Takes : Option FileList → Options → Bool → ItemData → List EditionData →
    List EditionData → List Outcome → List Outcome → EditionData → EditionData → Type 0
Takes files options mirrored item es now os told day next =
    (added : List EditionData) × (o : Outcome) × (now ≡ es ++ added) × (told ≡ os ++ o ∷ [])
    × HasOutcome files options mirrored (Some day) (length es) item o added
    × (day_after (Some day) item.source added ≡ Some next)

-- a day was published
abbrev pub IsPublished : Outcome → Type 0
IsPublished (Published number trips lines kept) = ⊤
IsPublished o = ⊥

-- the first item was published
abbrev pub BeginsPublished : List Outcome → Type 0
BeginsPublished [] = ⊥
BeginsPublished (o ∷ os) = IsPublished o

-- A plan ends for a failed read only where the folder's count of faults rose; for want of memory
-- only where that count stands.
abbrev pub HasStopped : ℕ → ℕ → PlanEnd → Type 0
HasStopped before now ended.ReadFault = before < now
HasStopped before now ended.Memory = now ≡ before

-- why there is no edition of a day, by the folder's count of faults before and now
abbrev pub IsNoDay : Option FileList → Options → FeedDayData → ℕ → ℕ → DayFault → Type 0
IsNoDay files options d before now (why.Feed f) =
    DayGives files options d (Err f) × (now ≡ before)
IsNoDay files options d before now why.ReadFault = before < now
IsNoDay files options d before now why.Memory = now ≡ before

-- the same of a timetable that a file amends
abbrev pub IsNotAmended : Option FileList → TimetableData → List ℕ → ℕ → ℕ → LateTaken → Type 0
IsNotAmended files T path before now (taken.Fault f) =
    LateGives files T path (Err f) × (now ≡ before)
IsNotAmended files T path before now taken.ReadFault = before < now
IsNotAmended files T path before now taken.Memory = now ≡ before

-- what is said of footpaths and of workers is within its limits
pub record IsGoodBuilding (building : Building) : Type 0 where
  pub options : AreWithinADay building.options
  pub workers : AreWorkers building.workers

-- the first item of a plan is a day, which gives this timetable or first fault
abbrev pub FirstGives :
    Option FileList → Options → List ItemData → Result TimetableData FeedFault → Type 0
FirstGives files options [] result = ⊥
FirstGives files options (item ∷ items) result =
    OfDay item.source (λ d. DayGives files options d result)

-- the edition of the first item is the first one of the list
abbrev pub BeginsWithFirst : Option FileList → Options → Bool → List ItemData →
    List EditionData → Type 0
BeginsWithFirst files options mirrored [] es = ⊥
BeginsWithFirst files options mirrored (item ∷ items) [] = ⊥
BeginsWithFirst files options mirrored (item ∷ items) (e ∷ es) =
    OfDay item.source (λ d. IsEditionOfDay files options mirrored d e)
