-- How the program ends where nothing fails outside.
use Rattle.std.proofs.Common.{◌≡◌, ℕ, inl, inr, List, Option, Result, Ok, Err, refl, subst}
use Rattle.std.specs.Prelude.{IsSome}
use Rattle.tb_base.specs.TimetableData.{TimetableData}
use Rattle.footpaths.specs.declared.paths.Options.{Options}
use Rattle.gtfs_rows.specs.declared.fault.FeedFault.{FeedFault}
use Rattle.tb_io.specs.Files.{FileList}
use Rattle.trip_table.specs.Answers.{feed_of}
use Rattle.trip_table.specs.Feed.{Feed}
use Rattle.trip_table.specs.AskedDay.{IsAskedDay}
use Rattle.command_line.specs.DayCommands.{DayRequestData}
use Rattle.router_cli.specs.Outcome.{IsDayAnswer, IsDayEnding, IsDayOf, IsNoDayAnswer, Writes}
use Rattle.router_cli.specs.declared.status.Status.{Status}
use Rattle.router_cli.specs.declared.status.Status.TheVariants as status

-- there is at most one timetable or fault, as the options ask
abbrev pub IsDetermined : Type 0
IsDetermined = (feed : Feed) (day : ℕ) (options : Options) (a b : Result TimetableData FeedFault) →
    IsAskedDay feed day options a → IsAskedDay feed day options b → a ≡ b

pub same_day : IsDetermined → (files : Option FileList) (dir : List ℕ) (date : ℕ) (options : Options) (a b : Result TimetableData FeedFault) →
    IsDayOf files dir date options a → IsDayOf files dir date options b → a ≡ b
same_day same files dir date options a b x y = same (feed_of files dir) date options a b x.asked y.asked

pub out_of_memory : (day : Result TimetableData FeedFault) → IsDayEnding day status.Memory
out_of_memory (Ok T) = inr refl
out_of_memory (Err f) = inr refl

pub day_completed : IsDetermined → (files : Option FileList) → IsSome files → (r : DayRequestData) (s : Status) (before now : Option (List ℕ)) →
    Writes (IsDayAnswer files r) (IsNoDayAnswer files r) s before now → (s ≡ status.ReadFault → ⊥) → (s ≡ status.WriteFault → ⊥) →
    (day : Result TimetableData FeedFault) → IsDayOf files r.dir r.date r.options day → IsDayEnding day s
day_completed same files shown r status.Done before now (bytes, is, added) read write day given =
    subst (λ d. IsDayEnding d status.Done) (same_day same files r.dir r.date r.options (Ok is.table) day (is.day.1 shown) given) (inl refl)
day_completed same files shown r (status.FeedRefused f) before now h read write day given =
    subst (λ d. IsDayEnding d (status.FeedRefused f)) (same_day same files r.dir r.date r.options (Err f) day (h.1 shown) given) (inl refl)
day_completed same files shown r status.ReadFault before now h read write day given = absurd (read refl)
day_completed same files shown r status.WriteFault before now h read write day given = absurd (write refl)
day_completed same files shown r status.Memory before now h read write day given = out_of_memory day
day_completed same files shown r status.Usage before now h read write day given = absurd h
day_completed same files shown r (status.ScriptRefused f) before now h read write day given = absurd h
day_completed same files shown r (status.LateRefused f) before now h read write day given = absurd h
day_completed same files shown r (status.JourneyRefused f) before now h read write day given = absurd h
day_completed same files shown r status.FaultsFound before now h read write day given = absurd h
