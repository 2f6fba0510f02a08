-- How the program ends as a process that lives.
use Rattle.std.proofs.Common.{◌≡◌, ◌∙◌, ◌⊎◌, ℕ, inl, inr, List, Option, Result, Ok, Err, refl, sym}
use Rattle.std.specs.Prelude.{IsSome}
use Rattle.tb_base.specs.TimetableData.{TimetableData}
use Rattle.gtfs_rows.specs.declared.fault.FeedFault.{FeedFault}
use Rattle.tb_io.specs.Files.{FileList}
use Rattle.command_line.specs.Plans.{LiveRequestData}
use Rattle.edition_build.specs.Plans.{FirstGives}
use Rattle.live_turns.proofs.LiveFirst.{first_table}
use Rattle.live_turns.specs.declared.live.lived.LiveFault.{LiveFault}
use Rattle.live_turns.specs.declared.live.lived.LiveFault.TheVariants as fault
use Rattle.router_cli.proofs.Endings.{IsDetermined, out_of_memory}
use Rattle.router_cli.proofs.Runs.{by_day, first_day}
use Rattle.router_cli.specs.Living.{IsLiveOutcome, first_items, mode_of}
use Rattle.router_cli.specs.Outcome.{IsDayEnding}
use Rattle.router_cli.specs.declared.status.Status.{Status}
use Rattle.router_cli.specs.declared.status.Status.TheVariants as status

pub live_completed : IsDetermined → (files : Option FileList) → IsSome files → (faults risen : ℕ) (told left : Option (List ℕ)) (r : LiveRequestData) (s : Status) (before now : Option (List ℕ)) →
    IsLiveOutcome files r.options (mode_of r) (first_items r) faults risen told left s before now → (s ≡ status.ReadFault → ⊥) → (s ≡ status.WriteFault → ⊥) →
    (day : Result TimetableData FeedFault) → FirstGives files r.options (first_items r) day → IsDayEnding day s
live_completed same files shown faults risen told left r status.Done before now h read write day is =
    let first = first_table files r.options r.mirror (first_items r) _ h.news h.editions h.published.outcomes h.published.first day is in
    by_day day (Ok first.0) status.Done (first_day same files shown r.options (first_items r) (Ok first.0) day first.1 is) (inl refl)
live_completed same files shown faults risen told left r (status.FeedRefused f) before now h read write day is =
    by_day day (Err f) (status.FeedRefused f) (first_day same files shown r.options (first_items r) (Err f) day h.0 is) (inl refl)
live_completed same files shown faults risen told left r status.ReadFault before now h read write day is = absurd (read refl)
live_completed same files shown faults risen told left r status.WriteFault before now h read write day is = absurd (write refl)
live_completed same files shown faults risen told left r status.Memory before now h read write day is = out_of_memory day
live_completed same files shown faults risen told left r status.Usage before now h read write day is = absurd h
live_completed same files shown faults risen told left r (status.ScriptRefused f) before now h read write day is = absurd h
live_completed same files shown faults risen told left r (status.LateRefused f) before now h read write day is = absurd h
live_completed same files shown faults risen told left r (status.JourneyRefused f) before now h read write day is = absurd h
live_completed same files shown faults risen told left r status.FaultsFound before now h read write day is = absurd h

-- what holds unless a read failed holds where a write failed
pub kept_else : {A Other Kept : Type 0} (result : Result A LiveFault) → (result ≡ Err fault.ReadFault) ⊎ Kept → result ≡ Err fault.WriteFault → Other ⊎ Kept
kept_else result (inl failed) is = absurd (cc (sym is ∙ failed))
kept_else result (inr kept) is = inr kept
