-- What the program's status says of a run of several items.
use Rattle.std.specs.Prelude.{◌≡◌, Bool, ℕ, ◌<◌, List, map, Option, IfSome, Result, Ok, Err, ⊤}
use Rattle.tb_base.specs.TimetableData.{TimetableData}
use Rattle.gtfs_rows.specs.declared.fault.FeedFault.{FeedFault}
use Rattle.tb_io.specs.Files.{FileList}
use Rattle.footpaths.specs.declared.paths.Options.{Options}
use Rattle.command_line.specs.Plans.{PlannedItemData, ServeRequestData}
use Rattle.command_line.specs.declared.request.PlannedSource.{PlannedSource}
use Rattle.command_line.specs.declared.request.PlannedSource.TheVariants as planned
use Rattle.edition_build.specs.Plans.{ItemData}
use Rattle.lane_serve.specs.Script.{LaneData, script_of}
use Rattle.edition_build.specs.Plans.{FirstGives}
use Rattle.lane_serve.specs.Served.{IsServed, ServedData}
use Rattle.lane_serve.specs.Json.{served_shown}
use Rattle.edition_build.specs.declared.plan.ItemSource.{ItemSource}
use Rattle.edition_build.specs.declared.plan.ItemSource.TheVariants as source
use Rattle.lane_serve.specs.declared.run.ServeFault.{ServeFault}
use Rattle.lane_serve.specs.declared.run.ServeFault.TheVariants as serve
use Rattle.lane_serve.specs.declared.script.ScriptFault.{ScriptFault}
use Rattle.router_cli.specs.Outcome.{EndsBy, IsDayEnding}
use Rattle.router_cli.specs.declared.status.Status.{Status}
use Rattle.router_cli.specs.declared.status.Status.TheVariants as status

-- what an item of the words is made of
abbrev pub source_of : PlannedSource → ItemSource
source_of (planned.Day d) = source.Day (record { dir = d.dir; day = d.date })
source_of (planned.Late path) = source.Late path

-- the item of a plan that one of the words is
abbrev pub item_of : PlannedItemData → ItemData
item_of i = record { word = i.word; source = source_of i.source }

abbrev pub plan_of : ServeRequestData → List ItemData
plan_of r = map item_of r.plan

-- where the source tells its bytes, they are a script that says this
abbrev pub ScriptGives : Bool → Option (List ℕ) → Result (List LaneData) ScriptFault → Type 0
ScriptGives json told result = IfSome told (λ bytes. script_of json bytes ≡ result)

-- the bytes show a run of these lanes beside the plan, as JSON or as a text
pub record IsRunText (json : Bool) (files : Option FileList) (options : Options)
    (plan : List ItemData) (lanes : List LaneData) (bytes : List ℕ) : Type 0 where
  pub served : ServedData
  pub run : IsServed files options plan lanes served
  pub text : bytes ≡ served_shown json plan served

-- the bytes are the text of a run of the request's days beside the lanes of the script
pub record IsRunAnswer (files : Option FileList) (told : Option (List ℕ)) (r : ServeRequestData)
    (bytes : List ℕ) : Type 0 where
  pub lanes : List LaneData
  pub script : ScriptGives r.json told (Ok lanes)
  pub text : IsRunText r.json files r.options (plan_of r) lanes bytes

-- Why a request for a run has no answer: the script is refused; or it is good, and the feed of the
-- first day is refused. Of ReadFault and Memory nothing is said here.
abbrev pub IsNoRunAnswer : Option FileList → Option (List ℕ) → ServeRequestData → Status → Type 0
IsNoRunAnswer files told r (status.ScriptRefused f) = ScriptGives r.json told (Err f)
IsNoRunAnswer files told r (status.FeedRefused f) =
    ((lanes : List LaneData) × ScriptGives r.json told (Ok lanes))
    × FirstGives files r.options (plan_of r) (Err f)
IsNoRunAnswer files told r status.ReadFault = ⊤
IsNoRunAnswer files told r status.Memory = ⊤
IsNoRunAnswer files told r s = ⊥

-- How a run may end where nothing fails outside: by the script's first fault; else, as a request
-- about the first day, by that feed's first fault or with the text; or for want of memory.
abbrev pub IsRunEnding : Result (List LaneData) ScriptFault → Result TimetableData FeedFault
    → Status → Type 0
IsRunEnding (Err f) day = EndsBy (status.ScriptRefused f)
IsRunEnding (Ok lanes) day = IsDayEnding day

-- where the source tells a script with a fault, the run ends by it or for want of memory
abbrev pub TellsScript : Bool → Option (List ℕ) → Status → Type 0
TellsScript json told s = IfSome told (λ bytes. (f : ScriptFault) → script_of json bytes ≡ Err f →
    EndsBy (status.ScriptRefused f) s)

-- why a source gives no script, by its count of faults before and now
abbrev pub IsNoScript : Bool → Option (List ℕ) → ℕ → ℕ → Status → Type 0
IsNoScript json told before now (status.ScriptRefused f) =
    ScriptGives json told (Err f) × (now ≡ before)
IsNoScript json told before now status.ReadFault = before < now
IsNoScript json told before now status.Memory = now ≡ before
IsNoScript json told before now s = ⊥

-- why a run has no text, by the folder's count of faults before and now
abbrev pub IsNoRun : Option FileList → Options → List ItemData → ℕ → ℕ → Status → Type 0
IsNoRun files options plan before now (status.FeedRefused f) =
    FirstGives files options plan (Err f) × (now ≡ before)
IsNoRun files options plan before now status.ReadFault = before < now
IsNoRun files options plan before now status.Memory = now ≡ before
IsNoRun files options plan before now s = ⊥

-- the status that a fault of a run is told as
abbrev pub status_for : ServeFault → Status
status_for (serve.Feed f) = status.FeedRefused f
status_for serve.ReadFault = status.ReadFault
status_for serve.Memory = status.Memory
