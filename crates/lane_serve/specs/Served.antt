-- What a run of lanes beside a publisher gives.
use Rattle.std.specs.Prelude.{◌≡◌, ℕ, ◌<◌, List, [], ◌∷◌, length, Option, Some, None, Result, Ok, Err, Vec, ⊤}
use Rattle.std.specs.Global.{Global}
use Rattle.tb_io.specs.Files.{FileList}
use Rattle.gtfs_rows.specs.declared.fault.FeedFault.{FeedFault}
use Rattle.footpaths.specs.declared.paths.Options.{Options}
use Rattle.history.specs.Lists.{Shown}
use Rattle.edition_store.specs.Editions.{EditionData}
use Rattle.lane_serve.specs.declared.lane.ReplyText.{ReplyText}
use Rattle.edition_build.specs.declared.plan.Outcome.{Outcome}
use Rattle.edition_build.specs.declared.finding.PlanEnd.{PlanEnd}
use Rattle.edition_build.specs.declared.finding.PlanEnd.TheVariants as ended
use Rattle.query_gate.specs.declared.said.Line.{Line}
use Rattle.lane_serve.specs.declared.run.ServeFault.{ServeFault}
use Rattle.lane_serve.specs.declared.run.ServeFault.TheVariants as fault
use Rattle.lane_serve.specs.Lanes.{IsClosing, IsLaneRun, ReportData, to_close}
use Rattle.edition_build.specs.Plans.{FirstGives, AreOutcomes, BeginsPublished, ItemData}
use Rattle.lane_serve.specs.Script.{LaneData, needs_mirrors}

-- the outcomes of a plan's items, what each lane was answered, how many editions there were in the
-- end, and what each lane was answered by the last one
pub record ServedData : Type 0 where
  pub outcomes : List Outcome
  pub lanes : List ReportData
  pub last : ℕ
  pub closing : List ReportData

-- a lane's run over the whole list, and its closing replies
pub record IsServedLane (es : List EditionData) (lane : LaneData) (report closing : ReportData)
    : Type 0 where
  pub name : report.name ≡ lane.name
  pub run : IsLaneRun es lane.lines report.replies
  pub same_name : closing.name ≡ lane.name
  pub closed : IsClosing es (to_close 1 lane.lines report.replies) closing.replies

-- the same for each lane, in order
abbrev pub AreServed :
    List EditionData → List LaneData → List ReportData → List ReportData → Type 0
AreServed es [] [] [] = ⊤
AreServed es [] [] (c ∷ cs) = ⊥
AreServed es [] (r ∷ rs) cs = ⊥
AreServed es (l ∷ ls) [] cs = ⊥
AreServed es (l ∷ ls) (r ∷ rs) [] = ⊥
AreServed es (l ∷ ls) (r ∷ rs) (c ∷ cs) = IsServedLane es l r c × AreServed es ls rs cs

-- One outcome for each item of the plan, the first of which is a lawful day; and over the editions
-- of the lawful items, in order, which have their mirrors where a request needs one, each lane's
-- run and its closing replies.
pub record IsServed (files : Option FileList) (options : Options) (plan : List ItemData)
    (script : List LaneData) (s : ServedData) : Type 0 where
  pub editions : List EditionData
  pub outcomes : AreOutcomes files options (needs_mirrors script) plan s.outcomes editions
  pub first : BeginsPublished s.outcomes
  pub last : s.last ≡ length editions
  pub lanes : AreServed editions script s.lanes s.closing

-- Why there is no answer: the first item's first fault; or a failed read, where the count of faults
-- rose; or want of memory.
abbrev pub IsServeFault :
    Option FileList → Options → List ItemData → ℕ → ℕ → ServeFault → Type 0
IsServeFault files options plan before now (fault.Feed f) =
    FirstGives files options plan (Err f) × (now ≡ before)
IsServeFault files options plan before now fault.ReadFault = before < now
IsServeFault files options plan before now fault.Memory = now ≡ before

-- Where the first item gives a fault and the folder didn't fail: that fault, or want of memory.
abbrev pub TellsFault : FeedFault → Result ServedData ServeFault → Type 0
TellsFault f (Ok s) = ⊥
TellsFault f (Err (fault.Feed g)) = g ≡ f
TellsFault f (Err fault.ReadFault) = ⊥
TellsFault f (Err fault.Memory) = ⊤

-- the replies of a lane, where there are some, are its run over the list that its caller keeps
abbrev pub HasRun : List Line → Shown EditionData → Option (Vec ReplyText Global) → Type 0
HasRun requests kept None = ⊤
HasRun requests kept (Some replies) = IsLaneRun kept.list requests replies.items

-- the fault that a plan's end is told as
abbrev pub fault_for : PlanEnd → ServeFault
fault_for ended.ReadFault = fault.ReadFault
fault_for ended.Memory = fault.Memory
