-- How the program ends about a run of several days.
use Rattle.std.proofs.Common.{◌≡◌, ℕ, true, inl, inr, List, [], ◌∷◌, map, Option, Some, Result, Ok, Err, refl, sym, subst}
use Rattle.std.specs.Prelude.{IsSome, ⊤}
use Rattle.tb_base.specs.TimetableData.{TimetableData}
use Rattle.footpaths.specs.declared.paths.Options.{Options}
use Rattle.gtfs_rows.specs.declared.fault.FeedFault.{FeedFault}
use Rattle.tb_io.specs.Files.{FileList}
use Rattle.trip_table.specs.Answers.{feed_of}
use Rattle.command_line.specs.Plans.{PlannedItemData, ServeRequestData, begins_with_day, is_day}
use Rattle.command_line.specs.declared.request.PlannedSource.{PlannedSource}
use Rattle.command_line.specs.declared.request.PlannedSource.TheVariants as planned
use Rattle.edition_build.proofs.FirstDay.{published_table}
use Rattle.edition_build.specs.Plans.{BeginsWithDay, DayGives, ItemData, OfDay}
use Rattle.lane_serve.specs.Script.{LaneData, needs_mirrors, script_of}
use Rattle.edition_build.specs.Plans.{FirstGives}
use Rattle.edition_build.specs.declared.plan.ItemSource.{ItemSource}
use Rattle.edition_build.specs.declared.plan.ItemSource.TheVariants as source
use Rattle.lane_serve.specs.declared.script.ScriptFault.{ScriptFault}
use Rattle.router_cli.proofs.Endings.{IsDetermined, out_of_memory}
use Rattle.router_cli.specs.Outcome.{IsDayEnding, Writes}
use Rattle.router_cli.specs.Serving.{IsNoRunAnswer, IsRunAnswer, IsRunEnding, item_of, source_of}
use Rattle.router_cli.specs.declared.status.Status.{Status}
use Rattle.router_cli.specs.declared.status.Status.TheVariants as status

-- an item of the words is a day just where the item of the plan is one
day_of_words : (s : PlannedSource) → is_day s ≡ true → OfDay (source_of s) (λ d. ⊤)
day_of_words (planned.Day d) h = tt
day_of_words (planned.Late path) h = absurd (cc h)

-- a plan of the words begins with a day
pub begins_so : (items : List PlannedItemData) → begins_with_day items ≡ true → BeginsWithDay (map item_of items)
begins_so [] h = absurd (cc h)
begins_so (item ∷ items) h = day_of_words item.source h

one_day : IsDetermined → (files : Option FileList) → IsSome files → (options : Options) (s : ItemSource) (a b : Result TimetableData FeedFault) →
    OfDay s (λ d. DayGives files options d a) → OfDay s (λ d. DayGives files options d b) → a ≡ b
one_day same files told options (source.Day d) a b is other = same (feed_of files d.dir) d.day options a b (is told) (other told)
one_day same files told options (source.Late path) a b is other = absurd is

pub first_day : IsDetermined → (files : Option FileList) → IsSome files → (options : Options) (plan : List ItemData) (a b : Result TimetableData FeedFault) →
    FirstGives files options plan a → FirstGives files options plan b → a ≡ b
first_day same files told options [] a b is other = absurd is
first_day same files told options (item ∷ items) a b is other = one_day same files told options item.source a b is other

for_memory : (m : Result (List LaneData) ScriptFault) (day : Result TimetableData FeedFault) → IsRunEnding m day status.Memory
for_memory (Ok lanes) day = out_of_memory day
for_memory (Err f) day = inr refl

by_script : (m : Result (List LaneData) ScriptFault) (lanes : List LaneData) (day : Result TimetableData FeedFault) (s : Status) → m ≡ Ok lanes → IsDayEnding day s → IsRunEnding m day s
by_script m lanes day s is h = subst (λ n. IsRunEnding n day s) (sym is) h

pub by_day : (day other : Result TimetableData FeedFault) (s : Status) → other ≡ day → IsDayEnding other s → IsDayEnding day s
by_day day other s same h = subst (λ d. IsDayEnding d s) same h

pub run_completed : IsDetermined → (files : Option FileList) → IsSome files → (bytes : List ℕ) (r : ServeRequestData) (s : Status) (before now : Option (List ℕ)) →
    Writes (IsRunAnswer files (Some bytes) r) (IsNoRunAnswer files (Some bytes) r) s before now → (s ≡ status.ReadFault → ⊥) → (s ≡ status.WriteFault → ⊥) →
    (day : Result TimetableData FeedFault) → FirstGives files r.options (map item_of r.plan) day → IsRunEnding (script_of r.json bytes) day s
run_completed same files told bytes r status.Done before now (text, ran, added) read write day is =
    let plan = map item_of r.plan in
    let run = ran.text in
    let first = published_table files r.options (needs_mirrors ran.lanes) plan run.served.outcomes run.run.editions run.run.outcomes run.run.first in
    by_script (script_of r.json bytes) ran.lanes day status.Done ran.script
    (by_day day (Ok first.0) status.Done (first_day same files told r.options plan (Ok first.0) day first.1 is) (inl refl))
run_completed same files told bytes r status.Usage before now h read write day is = absurd h
run_completed same files told bytes r (status.LateRefused f) before now h read write day is = absurd h
run_completed same files told bytes r (status.JourneyRefused f) before now h read write day is = absurd h
run_completed same files told bytes r status.FaultsFound before now h read write day is = absurd h
run_completed same files told bytes r (status.FeedRefused f) before now ((lanes, script), refused) read write day is =
    let plan = map item_of r.plan in
    by_script (script_of r.json bytes) lanes day (status.FeedRefused f) script
    (by_day day (Err f) (status.FeedRefused f) (first_day same files told r.options plan (Err f) day refused is) (inl refl))
run_completed same files told bytes r status.ReadFault before now h read write day is = absurd (read refl)
run_completed same files told bytes r status.WriteFault before now h read write day is = absurd (write refl)
run_completed same files told bytes r status.Memory before now h read write day is = for_memory (script_of r.json bytes) day
run_completed same files told bytes r (status.ScriptRefused f) before now h read write day is =
    subst (λ m. IsRunEnding m day (status.ScriptRefused f)) (sym h) (inl refl)
