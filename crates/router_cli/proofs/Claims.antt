-- How the program ends about a claimed journey, and what it leaves of the source.
use Rattle.std.proofs.Common.{◌≡◌, ◌∙◌, Bool, ℕ, inl, inr, List, [], Option, Some, None, Result, Ok, Err, refl, sym, subst}
use Rattle.std.specs.Prelude.{IfSome, IsSome}
use Rattle.std.specs.Io.KnownBytes.{Consumes}
use Rattle.tb_base.specs.BestValues.{ChoiceData}
use Rattle.tb_base.specs.TimetableData.{TimetableData}
use Rattle.gtfs_rows.specs.declared.fault.FeedFault.{FeedFault}
use Rattle.tb_io.specs.Files.{FileList}
use Rattle.journey_read.specs.declared.claim.JourneyFault.{JourneyFault}
use Rattle.command_line.specs.Verifications.{VerifyRequestData}
use Rattle.router_cli.proofs.Endings.{IsDetermined, same_day}
use Rattle.router_cli.specs.Outcome.{IsDayOf, Writes}
use Rattle.router_cli.specs.Verifying.{ClaimGives, IsClaimEnding, IsNoVerifyAnswer, IsVerifyAnswer, IsVerifyEnding, LeavesClaim, claim_as}
use Rattle.router_cli.specs.declared.status.Status.{Status}
use Rattle.router_cli.specs.declared.status.Status.TheVariants as status

pub none_taken : (told : Option (List ℕ)) → (bs : List ℕ) × Consumes told told bs
none_taken None = ([], tt)
none_taken (Some bytes) = ([], refl)

-- a source of which nothing was read
pub claim_unread : (s : Status) (told : Option (List ℕ)) (faults : ℕ) → LeavesClaim s told told faults faults
claim_unread status.Done told faults = none_taken told
claim_unread status.Usage told faults = none_taken told
claim_unread (status.FeedRefused f) told faults = refl
claim_unread status.ReadFault told faults = (λ still. refl, none_taken told)
claim_unread status.WriteFault told faults = none_taken told
claim_unread status.Memory told faults = none_taken told
claim_unread (status.ScriptRefused f) told faults = none_taken told
claim_unread (status.LateRefused f) told faults = none_taken told
claim_unread (status.JourneyRefused f) told faults = none_taken told
claim_unread status.FaultsFound told faults = none_taken told

-- what a source tells is what was taken of it
pub claim_given : (json : Bool) (T : TimetableData) (told : Option (List ℕ)) (bytes taken : List ℕ) (claimed : ChoiceData) → IfSome told (λ all. bytes ≡ all) → taken ≡ bytes → claim_as json T taken ≡ Ok claimed → ClaimGives json T told (Ok claimed)
claim_given json T None bytes taken claimed whole same is = tt
claim_given json T (Some all) bytes taken claimed whole same is = subst (λ b. claim_as json T b ≡ Ok claimed) (same ∙ whole) is

for_memory : (m : Result ChoiceData JourneyFault) → IsClaimEnding m status.Memory
for_memory (Ok claimed) = inr refl
for_memory (Err f) = inr refl

out_of_memory : (json : Bool) (told : Option (List ℕ)) (day : Result TimetableData FeedFault) → IsVerifyEnding json told day status.Memory
out_of_memory json None (Ok T) = tt
out_of_memory json (Some bytes) (Ok T) = for_memory (claim_as json T bytes)
out_of_memory json told (Err f) = inr refl

with_claim : (json : Bool) (told : Option (List ℕ)) (T : TimetableData) (claimed : ChoiceData) → ClaimGives json T told (Ok claimed) → IsVerifyEnding json told (Ok T) status.Done
with_claim json None T claimed h = tt
with_claim json (Some bytes) T claimed h = subst (λ m. IsClaimEnding m status.Done) (sym h) (inl refl)

without_claim : (json : Bool) (told : Option (List ℕ)) (T : TimetableData) (f : JourneyFault) → ClaimGives json T told (Err f) → IsVerifyEnding json told (Ok T) (status.JourneyRefused f)
without_claim json None T f h = tt
without_claim json (Some bytes) T f h = subst (λ m. IsClaimEnding m (status.JourneyRefused f)) (sym h) (inl refl)

pub verify_completed : IsDetermined → (files : Option FileList) → IsSome files → (told : Option (List ℕ)) (r : VerifyRequestData) (s : Status) (before now : Option (List ℕ)) →
    Writes (IsVerifyAnswer files told r) (IsNoVerifyAnswer files told r) s before now → (s ≡ status.ReadFault → ⊥) → (s ≡ status.WriteFault → ⊥) →
    (day : Result TimetableData FeedFault) → IsDayOf files r.dir r.date r.options day → IsVerifyEnding r.json told day s
verify_completed same files shown told r status.Done before now (bytes, is, added) read write day given =
    subst (λ d. IsVerifyEnding r.json told d status.Done) (same_day same files r.dir r.date r.options (Ok is.table) day (is.day.1 shown) given)
    (with_claim r.json told is.table is.claimed is.claim)
verify_completed same files shown told r status.Usage before now h read write day given = absurd h
verify_completed same files shown told r (status.FeedRefused f) before now h read write day given =
    subst (λ d. IsVerifyEnding r.json told d (status.FeedRefused f)) (same_day same files r.dir r.date r.options (Err f) day (h.1 shown) given) (inl refl)
verify_completed same files shown told r status.ReadFault before now h read write day given = absurd (read refl)
verify_completed same files shown told r status.WriteFault before now h read write day given = absurd (write refl)
verify_completed same files shown told r status.Memory before now h read write day given = out_of_memory r.json told day
verify_completed same files shown told r (status.ScriptRefused f) before now h read write day given = absurd h
verify_completed same files shown told r (status.LateRefused f) before now h read write day given = absurd h
verify_completed same files shown told r status.FaultsFound before now h read write day given = absurd h
verify_completed same files shown told r (status.JourneyRefused f) before now (T, is, claim) read write day given =
    subst (λ d. IsVerifyEnding r.json told d (status.JourneyRefused f)) (same_day same files r.dir r.date r.options (Ok T) day (is.1 shown) given)
    (without_claim r.json told T f claim)
