-- The line of standard error as JSON.
use Rattle.std.specs.Prelude.{ℕ, List, [], ◌++◌, codes, Bool, Some, None, if◌then◌else◌}
use Rattle.std.specs.Fmt.{decimal}
use Rattle.answer_json.specs.Checks.{shown_left_out}
use Rattle.answer_json.specs.Faults.{fault_json, line_fault_json}
use Rattle.answer_json.specs.Frames.{member_json}
use Rattle.gtfs_rows.specs.declared.fault.FeedFault.{FeedFault}
use Rattle.journey_read.specs.declared.claim.JourneyFault.{JourneyFault}
use Rattle.journey_read.specs.declared.claim.JourneyFault.TheVariants as claim
use Rattle.edition_build.specs.LateFaults.{late_fault_json}
use Rattle.lane_serve.specs.declared.script.ScriptFault.{ScriptFault}
use Rattle.lane_serve.specs.declared.script.ScriptFault.TheVariants as fault
use Rattle.router_cli.specs.Outcome.{status_text}
use Rattle.router_cli.specs.declared.status.Status.{Status}
use Rattle.router_cli.specs.declared.status.Status.TheVariants as status

-- a fault of a script
abbrev pub script_fault_json : ScriptFault → List ℕ
script_fault_json (fault.BadLine n) = line_fault_json 1 (codes "BadLine") (Some n)
script_fault_json (fault.TooManyLanes n) = line_fault_json 2 (codes "TooManyLanes") (Some n)
script_fault_json (fault.TooManyLines n) = line_fault_json 3 (codes "TooManyLines") (Some n)
script_fault_json (fault.BadTime n) = line_fault_json 4 (codes "BadTime") (Some n)
script_fault_json fault.TooLong = line_fault_json 5 (codes "TooLong") None
script_fault_json fault.MissingFile = line_fault_json 6 (codes "MissingFile") None

-- a claim's fault
abbrev pub journey_fault_json : JourneyFault → List ℕ
journey_fault_json (claim.BadLine n) = line_fault_json 1 (codes "BadLine") (Some n)
journey_fault_json (claim.UnknownStop n) = line_fault_json 2 (codes "UnknownStop") (Some n)
journey_fault_json (claim.NoSuchRide n) = line_fault_json 3 (codes "NoSuchRide") (Some n)
journey_fault_json claim.TooLong = line_fault_json 4 (codes "TooLong") None

-- `{"status":N,"message":TEXT`
abbrev pub status_head : ℕ → List ℕ → List ℕ
status_head number message =
    codes "{\"status\":" ++ decimal number ++ member_json (codes "message") message

-- with no more: `}`
abbrev pub ending_json : ℕ → List ℕ → List ℕ
ending_json number message = status_head number message ++ codes "}\n"

-- with a fault that something is refused for: `,"fault":FAULT}`
abbrev pub refusal_json : ℕ → List ℕ → List ℕ → List ℕ
refusal_json number message fault =
    status_head number message ++ codes ",\"fault\":" ++ fault ++ codes "}\n"

-- the line that it writes to standard error
abbrev pub status_json : Status → List ℕ
status_json status.Done = []
status_json status.FaultsFound = []
status_json status.Usage =
    ending_json 2 (codes "usage: router [--change SECS] [--station SECS] [--close] [--lenient]"
    ++ codes " [--days N] [--workers N] [--plain] [--lanes N] [--mirror] [--csv] [--json] COMMAND WORDS")
status_json (status.FeedRefused f) = refusal_json 3 (codes "feed refused") (fault_json f)
status_json status.ReadFault = ending_json 4 (codes "read fault")
status_json status.WriteFault = ending_json 5 (codes "write fault")
status_json status.Memory = ending_json 6 (codes "out of memory")
status_json (status.ScriptRefused f) =
    refusal_json 7 (codes "script refused") (script_fault_json f)
status_json (status.LateRefused f) = refusal_json 8 (codes "late refused") (late_fault_json f)
status_json (status.JourneyRefused f) =
    refusal_json 9 (codes "journey refused") (journey_fault_json f)

-- the line as JSON, or as a text
abbrev pub status_shown : Bool → Status → List ℕ
status_shown json s = if json then status_json s else status_text s

-- all that it writes to standard error: with an answer for which faults rows were left out
abbrev pub end_shown : Bool → List FeedFault → Status → List ℕ
end_shown json left_out status.Done = shown_left_out json left_out
end_shown json left_out s = status_shown json s
