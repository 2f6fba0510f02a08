-- How the program ends about a matrix, and what it leaves of the source.
use Rattle.std.proofs.Common.{◌≡◌, ℕ, ◌⊎◌, inl, inr, List, Option, Some, None, Result, Ok, Err, refl, sym, subst}
use Rattle.std.specs.Prelude.{IsSome}
use Rattle.tb_base.specs.TimetableData.{TimetableData}
use Rattle.gtfs_rows.specs.declared.fault.FeedFault.{FeedFault}
use Rattle.tb_io.specs.Files.{FileList}
use Rattle.command_line.specs.Matrices.{MatrixRequestData}
use Rattle.command_line.specs.declared.request.OriginsNamed.{OriginsNamed}
use Rattle.command_line.specs.declared.request.OriginsNamed.TheVariants as by
use Rattle.lane_serve.specs.declared.script.ScriptFault.{ScriptFault}
use Rattle.router_cli.proofs.Claims.{claim_unread}
use Rattle.router_cli.proofs.Endings.{IsDetermined, same_day}
use Rattle.router_cli.specs.Matrices.{IsMatrixEnding, IsMatrixOutcome, IsMatrixOver, IsOriginsEnding, LeavesOrigins, NameNone, NameOrigins, Origins, WritesRows, naming_bytes, origins_in}
use Rattle.router_cli.specs.Outcome.{GivesDay, IsDayOf, IsNoTable}
use Rattle.router_cli.specs.declared.status.Status.{Status}
use Rattle.router_cli.specs.declared.status.Status.TheVariants as status

for_memory : (m : Origins) → IsOriginsEnding m status.Memory
for_memory (Ok origins) = inr refl
for_memory (Err f) = inr refl

out_of_memory : (naming : Option (Option (List ℕ))) (day : Result TimetableData FeedFault) → IsMatrixEnding naming day status.Memory
out_of_memory None (Ok T) = tt
out_of_memory (Some found) (Ok T) = for_memory (origins_in found)
out_of_memory naming (Err f) = inr refl

with_origins : (naming : Option (Option (List ℕ))) (T : TimetableData) (origins : List (List ℕ)) → NameOrigins naming (Ok origins) → IsMatrixEnding naming (Ok T) status.Done
with_origins None T origins h = tt
with_origins (Some found) T origins h = subst (λ m. IsOriginsEnding m status.Done) (sym h) (inl refl)

without_origins : (naming : Option (Option (List ℕ))) (T : TimetableData) (f : ScriptFault) → NameOrigins naming (Err f) → IsMatrixEnding naming (Ok T) (status.ScriptRefused f)
without_origins None T f h = tt
without_origins (Some found) T f h = subst (λ m. IsOriginsEnding m (status.ScriptRefused f)) (sym h) (inl refl)

pub matrix_completed : IsDetermined → (files : Option FileList) → IsSome files → (told : Option (List ℕ)) (r : MatrixRequestData) (s : Status) (before now : Option (List ℕ)) →
    IsMatrixOutcome files told r s before now → (s ≡ status.ReadFault → ⊥) → (s ≡ status.WriteFault → ⊥) →
    (day : Result TimetableData FeedFault) → IsDayOf files r.dir r.date r.options day → IsMatrixEnding (naming_bytes files told r.origins) day s
matrix_completed same files shown told r status.Done before now h read write day given =
    subst (λ d. IsMatrixEnding (naming_bytes files told r.origins) d status.Done) (same_day same files r.dir r.date r.options (Ok h.table) day (h.day.1 shown) given)
    (with_origins (naming_bytes files told r.origins) h.table h.rows.origins h.rows.named)
matrix_completed same files shown told r status.Usage before now h read write day given = absurd h
matrix_completed same files shown told r (status.FeedRefused f) before now h read write day given =
    subst (λ d. IsMatrixEnding (naming_bytes files told r.origins) d (status.FeedRefused f)) (same_day same files r.dir r.date r.options (Err f) day (h.0.1 shown) given) (inl refl)
matrix_completed same files shown told r status.ReadFault before now h read write day given = absurd (read refl)
matrix_completed same files shown told r status.WriteFault before now h read write day given = absurd (write refl)
matrix_completed same files shown told r status.Memory before now h read write day given = out_of_memory (naming_bytes files told r.origins) day
matrix_completed same files shown told r (status.ScriptRefused f) before now h read write day given =
    subst (λ d. IsMatrixEnding (naming_bytes files told r.origins) d (status.ScriptRefused f)) (same_day same files r.dir r.date r.options (Ok h.0.0) day (h.0.1.1 shown) given)
    (without_origins (naming_bytes files told r.origins) h.0.0 f h.1)
matrix_completed same files shown told r (status.LateRefused f) before now h read write day given = absurd h
matrix_completed same files shown told r (status.JourneyRefused f) before now h read write day given = absurd h
matrix_completed same files shown told r status.FaultsFound before now h read write day given = absurd h

-- over the timetable of the day
pub over_day : (files : Option FileList) (told : Option (List ℕ)) (r : MatrixRequestData) (T : TimetableData) (s : Status) (before now : Option (List ℕ)) →
    GivesDay files r.dir r.date r.options (Ok T) → IsMatrixOver r T (naming_bytes files told r.origins) s before now → IsMatrixOutcome files told r s before now
over_day files told r T status.Done before now day h = record { table = T; day = day; rows = h }
over_day files told r T status.WriteFault before now day h = record { table = T; day = day; rows = h }
over_day files told r T status.Memory before now day (inl same) = inl same
over_day files told r T status.Memory before now day (inr rows) = inr (record { table = T; day = day; rows = rows })
over_day files told r T status.ReadFault before now day h = h
over_day files told r T (status.ScriptRefused f) before now day h = ((T, day), h.0, h.1)
over_day files told r T status.Usage before now day h = absurd h
over_day files told r T (status.FeedRefused f) before now day h = absurd h
over_day files told r T (status.LateRefused f) before now day h = absurd h
over_day files told r T (status.JourneyRefused f) before now day h = absurd h
over_day files told r T status.FaultsFound before now day h = absurd h

-- what was written of origins that are named
pub written_over : (r : MatrixRequestData) (T : TimetableData) (naming : Option (Option (List ℕ))) (origins : List (List ℕ)) (s : Status) (before now : Option (List ℕ)) → NameOrigins naming (Ok origins) →
    ((s ≡ status.Memory) × (now ≡ before)) ⊎ WritesRows r T origins s before now → IsMatrixOver r T naming s before now
written_over r T naming origins status.Done before now names (inl none) = absurd (let is = none.0 in cc)
written_over r T naming origins status.Done before now names (inr rows) = record { origins = origins; named = names; written = rows }
written_over r T naming origins status.Usage before now names (inl none) = absurd (let is = none.0 in cc)
written_over r T naming origins status.Usage before now names (inr rows) = absurd rows
written_over r T naming origins (status.FeedRefused f) before now names (inl none) = absurd (let is = none.0 in cc)
written_over r T naming origins (status.FeedRefused f) before now names (inr rows) = absurd rows
written_over r T naming origins status.ReadFault before now names (inl none) = absurd (let is = none.0 in cc)
written_over r T naming origins status.ReadFault before now names (inr rows) = absurd rows
written_over r T naming origins status.WriteFault before now names (inl none) = absurd (let is = none.0 in cc)
written_over r T naming origins status.WriteFault before now names (inr rows) = record { origins = origins; named = names; written = rows }
written_over r T naming origins status.Memory before now names (inl none) = inl none.1
written_over r T naming origins status.Memory before now names (inr rows) = inr (record { origins = origins; named = names; written = rows })
written_over r T naming origins (status.ScriptRefused f) before now names (inl none) = absurd (let is = none.0 in cc)
written_over r T naming origins (status.ScriptRefused f) before now names (inr rows) = absurd rows
written_over r T naming origins (status.LateRefused f) before now names (inl none) = absurd (let is = none.0 in cc)
written_over r T naming origins (status.LateRefused f) before now names (inr rows) = absurd rows
written_over r T naming origins (status.JourneyRefused f) before now names (inl none) = absurd (let is = none.0 in cc)
written_over r T naming origins (status.JourneyRefused f) before now names (inr rows) = absurd rows
written_over r T naming origins status.FaultsFound before now names (inl none) = absurd (let is = none.0 in cc)
written_over r T naming origins status.FaultsFound before now names (inr rows) = absurd rows

-- no origins are named
pub unnamed_over : (r : MatrixRequestData) (T : TimetableData) (naming : Option (Option (List ℕ))) (s : Status) (before : Option (List ℕ)) → NameNone naming s → IsMatrixOver r T naming s before before
unnamed_over r T naming status.Done before h = absurd h
unnamed_over r T naming status.Usage before h = absurd h
unnamed_over r T naming (status.FeedRefused f) before h = absurd h
unnamed_over r T naming status.ReadFault before h = refl
unnamed_over r T naming status.WriteFault before h = absurd h
unnamed_over r T naming status.Memory before h = inl refl
unnamed_over r T naming (status.ScriptRefused f) before h = (h, refl)
unnamed_over r T naming (status.LateRefused f) before h = absurd h
unnamed_over r T naming (status.JourneyRefused f) before h = absurd h
unnamed_over r T naming status.FaultsFound before h = absurd h

-- what is left is the same where the rows are written in part
pub origins_in_part : (o : OriginsNamed) (before now : Option (List ℕ)) (faults risen : ℕ) → LeavesOrigins o status.Done before now faults risen → LeavesOrigins o status.WriteFault before now faults risen
origins_in_part by.Source before now faults risen h = h
origins_in_part (by.File path) before now faults risen h = h

-- what is left of a source of which nothing was read
pub origins_unread : (o : OriginsNamed) (s : Status) (told : Option (List ℕ)) (faults : ℕ) → LeavesOrigins o s told told faults faults
origins_unread by.Source s told faults = claim_unread s told faults
origins_unread (by.File path) s told faults = (refl, refl)

-- a day that has no timetable
pub without_day : (files : Option FileList) (told : Option (List ℕ)) (r : MatrixRequestData) (faults risen : ℕ) (s : Status) (before : Option (List ℕ)) → IsNoTable files r.dir r.date r.options faults risen s → IsMatrixOutcome files told r s before before
without_day files told r faults risen status.Done before h = absurd h
without_day files told r faults risen status.Usage before h = absurd h
without_day files told r faults risen (status.FeedRefused f) before h = (h.0, refl)
without_day files told r faults risen status.ReadFault before h = refl
without_day files told r faults risen status.WriteFault before h = absurd h
without_day files told r faults risen status.Memory before h = inl refl
without_day files told r faults risen (status.ScriptRefused f) before h = absurd h
without_day files told r faults risen (status.LateRefused f) before h = absurd h
without_day files told r faults risen (status.JourneyRefused f) before h = absurd h
without_day files told r faults risen status.FaultsFound before h = absurd h
