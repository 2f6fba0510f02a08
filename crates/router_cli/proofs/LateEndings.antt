-- How the program ends about a day amended by late trips.
use Rattle.std.proofs.Common.{◌≡◌, ℕ, ◌⊎◌, inl, inr, List, Option, Some, None, Result, Ok, Err, refl, sym, subst}
use Rattle.std.specs.Prelude.{IsSome}
use Rattle.tb_base.specs.TimetableData.{TimetableData}
use Rattle.gtfs_rows.specs.Steps.{and_then}
use Rattle.gtfs_rows.specs.declared.fault.FeedFault.{FeedFault}
use Rattle.tb_io.specs.Files.{FileList, file_at}
use Rattle.late_edit.specs.Amended.{amended}
use Rattle.late_edit.specs.declared.update.Update.{Update}
use Rattle.late_edit.specs.declared.late.LateFault.{LateFault}
use Rattle.command_line.specs.LateTrips.{LateRequestData}
use Rattle.router_cli.proofs.Endings.{IsDetermined, same_day}
use Rattle.router_cli.specs.Outcome.{IsDayOf, Writes}
use Rattle.late_edit.specs.LateFiles.{UpdatesGive, updates_in}
use Rattle.router_cli.specs.LateTrips.{IsAmendEnding, IsLateAnswer, IsLateEnding, IsNoLateAnswer}
use Rattle.router_cli.specs.declared.status.Status.{Status}
use Rattle.router_cli.specs.declared.status.Status.TheVariants as status

for_memory : (m : Result TimetableData LateFault) → IsAmendEnding m status.Memory
for_memory (Ok U) = inr refl
for_memory (Err f) = inr refl

out_of_memory : (files : Option FileList) (r : LateRequestData) (day : Result TimetableData FeedFault) → IsLateEnding files r day status.Memory
out_of_memory None r (Ok T) = tt
out_of_memory (Some fs) r (Ok T) = for_memory (and_then (updates_in (file_at fs r.file)) (λ updates. amended T updates))
out_of_memory files r (Err f) = inr refl

-- the late trips that are read make a timetable
make : (m : Result (List Update) LateFault) (T U : TimetableData) (updates : List Update) → m ≡ Ok updates → amended T updates ≡ Ok U →
    IsAmendEnding (and_then m (λ ls. amended T ls)) status.Done
make m T U updates read made =
    subst (λ n. IsAmendEnding (and_then n (λ ls. amended T ls)) status.Done) (sym read) (subst (λ n. IsAmendEnding n status.Done) (sym made) (inl refl))

-- none are read
unread : (m : Result (List Update) LateFault) (T : TimetableData) (f : LateFault) → m ≡ Err f → IsAmendEnding (and_then m (λ ls. amended T ls)) (status.LateRefused f)
unread m T f read = subst (λ n. IsAmendEnding (and_then n (λ ls. amended T ls)) (status.LateRefused f)) (sym read) (inl refl)

-- those that are read make none
unmade : (m : Result (List Update) LateFault) (T : TimetableData) (updates : List Update) (f : LateFault) → m ≡ Ok updates → amended T updates ≡ Err f →
    IsAmendEnding (and_then m (λ ls. amended T ls)) (status.LateRefused f)
unmade m T updates f read made =
    subst (λ n. IsAmendEnding (and_then n (λ ls. amended T ls)) (status.LateRefused f)) (sym read)
    (subst (λ n. IsAmendEnding n (status.LateRefused f)) (sym made) (inl refl))

amends : (files : Option FileList) (r : LateRequestData) (T U : TimetableData) (updates : List Update) → UpdatesGive files r.file (Ok updates) → amended T updates ≡ Ok U →
    IsLateEnding files r (Ok T) status.Done
amends None r T U updates read made = tt
amends (Some fs) r T U updates read made = make (updates_in (file_at fs r.file)) T U updates read made

refuses : (files : Option FileList) (r : LateRequestData) (T : TimetableData) (f : LateFault) →
    UpdatesGive files r.file (Err f) ⊎ ((updates : List Update) × UpdatesGive files r.file (Ok updates) × (amended T updates ≡ Err f)) →
    IsLateEnding files r (Ok T) (status.LateRefused f)
refuses None r T f why = tt
refuses (Some fs) r T f (inl read) = unread (updates_in (file_at fs r.file)) T f read
refuses (Some fs) r T f (inr (updates, read, made)) = unmade (updates_in (file_at fs r.file)) T updates f read made

pub late_completed : IsDetermined → (files : Option FileList) → IsSome files → (r : LateRequestData) (s : Status) (before now : Option (List ℕ)) →
    Writes (IsLateAnswer files r) (IsNoLateAnswer files r) s before now → (s ≡ status.ReadFault → ⊥) → (s ≡ status.WriteFault → ⊥) →
    (day : Result TimetableData FeedFault) → IsDayOf files r.dir r.date r.options day → IsLateEnding files r day s
late_completed same files shown r status.Done before now (bytes, is, added) read write day given =
    subst (λ d. IsLateEnding files r d status.Done) (same_day same files r.dir r.date r.options (Ok is.table) day (is.day.1 shown) given)
    (amends files r is.table is.text.table is.updates is.file is.text.amended)
late_completed same files shown r status.Usage before now h read write day given = absurd h
late_completed same files shown r (status.FeedRefused f) before now h read write day given =
    subst (λ d. IsLateEnding files r d (status.FeedRefused f)) (same_day same files r.dir r.date r.options (Err f) day (h.1 shown) given) (inl refl)
late_completed same files shown r status.ReadFault before now h read write day given = absurd (read refl)
late_completed same files shown r status.WriteFault before now h read write day given = absurd (write refl)
late_completed same files shown r status.Memory before now h read write day given = out_of_memory files r day
late_completed same files shown r (status.ScriptRefused f) before now h read write day given = absurd h
late_completed same files shown r (status.JourneyRefused f) before now h read write day given = absurd h
late_completed same files shown r status.FaultsFound before now h read write day given = absurd h
late_completed same files shown r (status.LateRefused f) before now (T, is, why) read write day given =
    subst (λ d. IsLateEnding files r d (status.LateRefused f)) (same_day same files r.dir r.date r.options (Ok T) day (is.1 shown) given)
    (refuses files r T f why)
