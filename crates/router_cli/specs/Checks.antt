-- What the program's status says of a check of a feed.
use Rattle.std.specs.Prelude.{◌≡◌, ◌≤◌, ℕ, List, [], ◌∷◌, ◌++◌, length, take, Bool, Option, IsSome, ⊤}
use Rattle.std.specs.Io.KnownBytes.{Appends}
use Rattle.gtfs_rows.specs.Told.{none_told, tell_all}
use Rattle.gtfs_rows.specs.declared.fault.FeedFault.{FeedFault}
use Rattle.tb_io.specs.Files.{FileList}
use Rattle.trip_table.specs.Answers.{feed_of}
use Rattle.trip_table.specs.AskedDay.{AreFaultsOf}
use Rattle.trip_table.specs.Warnings.{AreWarningsOf}
use Rattle.trip_table.specs.declared.warning.Warning.{Warning}
use Rattle.answer_json.specs.Checks.{shown_check}
use Rattle.command_line.specs.Checks.{CheckRequestData}
use Rattle.router_cli.specs.Outcome.{EndsBy}
use Rattle.router_cli.specs.Warnings.{warnings_shown}
use Rattle.router_cli.specs.declared.status.Status.{Status}
use Rattle.router_cli.specs.declared.status.Status.TheVariants as status

-- where the folder tells its files, these are all faults of the feed on the day of the request
abbrev pub ChecksTo : Option FileList → CheckRequestData → List FeedFault → Type 0
ChecksTo files r faults =
    IsSome files → AreFaultsOf (feed_of files r.dir) r.date r.options faults

-- and these what is read of it, but likely not meant
abbrev pub WarnsOf : Option FileList → CheckRequestData → List Warning → Type 0
WarnsOf files r warnings =
    IsSome files → AreWarningsOf (feed_of files r.dir) r.date r.options warnings

-- of each number the first 10,000 in order, then how many more, then how many there are of all; and
-- then likewise the warnings
abbrev pub check_shown : Bool → List FeedFault → List Warning → List ℕ
check_shown json faults warnings =
    shown_check json (tell_all none_told faults) (length faults) ++ warnings_shown json warnings

-- the status of a check that is written whole
abbrev pub whole_status : List FeedFault → Status
whole_status [] = status.Done
whole_status (f ∷ faults) = status.FaultsFound

-- the check was written whole
pub record IsWholeCheck (files : Option FileList) (r : CheckRequestData) (s : Status)
    (before now : Option (List ℕ)) : Type 0 where
  pub faults : List FeedFault
  pub are : ChecksTo files r faults
  pub warnings : List Warning
  pub warned : WarnsOf files r warnings
  pub ends : s ≡ whole_status faults
  pub text : Appends before now (check_shown r.json faults warnings)

-- some first bytes of it were
pub record IsCheckInPart (files : Option FileList) (r : CheckRequestData)
    (before now : Option (List ℕ)) : Type 0 where
  pub faults : List FeedFault
  pub are : ChecksTo files r faults
  pub warnings : List Warning
  pub warned : WarnsOf files r warnings
  pub count : ℕ
  pub few : count ≤ length (check_shown r.json faults warnings)
  pub text : Appends before now (take count (check_shown r.json faults warnings))

-- What a status says of a check, of the files of a folder and of the bytes that a sink held before
-- and holds now. Of ReadFault and Memory nothing is said here.
abbrev pub IsCheckOutcome : Option FileList → CheckRequestData → Status → Option (List ℕ) →
    Option (List ℕ) → Type 0
IsCheckOutcome files r status.Done before now = IsWholeCheck files r status.Done before now
IsCheckOutcome files r status.FaultsFound before now =
    IsWholeCheck files r status.FaultsFound before now
IsCheckOutcome files r status.WriteFault before now = IsCheckInPart files r before now
IsCheckOutcome files r status.ReadFault before now = ⊤
IsCheckOutcome files r status.Memory before now = ⊤
IsCheckOutcome files r s before now = ⊥

-- how a check may end where nothing fails outside
abbrev pub IsCheckEnding : List FeedFault → Status → Type 0
IsCheckEnding faults = EndsBy (whole_status faults)
