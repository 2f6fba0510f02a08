-- How the program ends about a request where nothing fails outside.
use Rattle.std.proofs.Common.{◌≡◌, ℕ, ◌<◌, ◌⊎◌, inl, inr, List, Option, Some, None, refl, arith}
use Rattle.std.specs.Prelude.{IfSome, IsSome}
use Rattle.tb_io.specs.Files.{FileList}
use Rattle.command_line.specs.declared.request.Request.{Request}
use Rattle.command_line.specs.declared.request.Request.TheVariants as request
use Rattle.router_cli.proofs.Endings.{IsDetermined, day_completed}
use Rattle.router_cli.proofs.CheckEndings.{IsToldOnce, check_completed}
use Rattle.router_cli.proofs.Claims.{claim_unread, none_taken, verify_completed}
use Rattle.router_cli.proofs.LateEndings.{late_completed}
use Rattle.router_cli.proofs.Lives.{live_completed}
use Rattle.router_cli.proofs.Matrices.{matrix_completed, origins_unread}
use Rattle.router_cli.proofs.Runs.{run_completed}
use Rattle.command_line.specs.Cities.{CityRequestData}
use Rattle.router_cli.specs.Cities.{IsCityText, IsNoCityText}
use Rattle.router_cli.specs.Outcome.{EndsBy, Writes}
use Rattle.router_cli.specs.Promise.{IsRequestEnding, IsRequestOutcome, LeavesScript}
use Rattle.router_cli.specs.declared.status.Status.{Status}
use Rattle.router_cli.specs.declared.status.Status.TheVariants as status

-- a source of which nothing was read
pub unread : (asked : Option Request) (s : Status) (told : Option (List ℕ)) (faults : ℕ) → LeavesScript asked s told told faults faults
unread None s told faults = (refl, refl)
unread (Some (request.Day r)) s told faults = (refl, refl)
unread (Some (request.City r)) s told faults = (refl, refl)
unread (Some (request.Check r)) s told faults = (refl, refl)
unread (Some (request.Late r)) s told faults = (refl, refl)
unread (Some (request.Serve r)) s told faults = none_taken told
unread (Some (request.Live r)) s told faults = none_taken told
unread (Some (request.Verify r)) s told faults = claim_unread s told faults
unread (Some (request.Matrix r)) s told faults = origins_unread r.origins s told faults

-- neither count rose
none_rose : (a b c d : ℕ) → (a < b) ⊎ (c < d) → b ≡ a → d ≡ c → ⊥
none_rose a b c d (inl rose) one other = absurd (omega (arith, rose, one))
none_rose a b c d (inr rose) one other = absurd (omega (arith, rose, other))

not_risen : (a b : ℕ) → a < b → b ≡ a → ⊥
not_risen a b rose still = absurd (omega (arith, rose, still))

city_ending : (r : CityRequestData) (s : Status) (before now : Option (List ℕ)) →
    Writes (IsCityText r.json r.side) IsNoCityText s before now → (s ≡ status.WriteFault → ⊥) → EndsBy status.Done s
city_ending r status.Done before now out write = inl refl
city_ending r status.WriteFault before now out write = absurd (write refl)
city_ending r status.Usage before now out write = absurd out
city_ending r (status.FeedRefused f) before now out write = absurd out
city_ending r (status.ScriptRefused f) before now out write = absurd out
city_ending r (status.LateRefused f) before now out write = absurd out
city_ending r (status.JourneyRefused f) before now out write = absurd out
city_ending r status.FaultsFound before now out write = absurd out
city_ending r status.ReadFault before now out write = absurd out
city_ending r status.Memory before now out write = inr refl

pub completed : IsDetermined → IsToldOnce → (asked : Option Request) (files : Option FileList) (told left : Option (List ℕ)) (s : Status) (before now : Option (List ℕ))
    (reads reads_now takes takes_now writes writes_now : ℕ) →
    IfSome asked (λ r. IsRequestOutcome files reads reads_now told left r s before now) →
    (s ≡ status.ReadFault → (reads < reads_now) ⊎ (takes < takes_now)) → (s ≡ status.WriteFault → writes < writes_now) →
    IfSome asked (λ r. IsSome files → reads_now ≡ reads → takes_now ≡ takes → writes_now ≡ writes → IsRequestEnding files told r s)
completed determined once None files told left s before now a b c d e f promise read write = tt
completed determined once (Some (request.Day r)) files told left s before now a b c d e f promise read write =
    λ shown read_still take_still write_still day is.
    day_completed determined files shown r s before now promise
    (λ h. none_rose a b c d (read h) read_still take_still) (λ h. not_risen e f (write h) write_still) day is
completed determined once (Some (request.Check r)) files told left s before now a b c d e f promise read write =
    λ shown read_still take_still write_still faults are.
    check_completed once files shown r s before now promise
    (λ h. none_rose a b c d (read h) read_still take_still) (λ h. not_risen e f (write h) write_still) faults are
completed determined once (Some (request.City r)) files told left s before now a b c d e f promise read write =
    λ shown read_still take_still write_still. city_ending r s before now promise (λ h. not_risen e f (write h) write_still)
completed determined once (Some (request.Verify r)) files told left s before now a b c d e f promise read write =
    λ shown read_still take_still write_still day is.
    verify_completed determined files shown told r s before now promise
    (λ h. none_rose a b c d (read h) read_still take_still) (λ h. not_risen e f (write h) write_still) day is
completed determined once (Some (request.Late r)) files told left s before now a b c d e f promise read write =
    λ shown read_still take_still write_still day is.
    late_completed determined files shown r s before now promise
    (λ h. none_rose a b c d (read h) read_still take_still) (λ h. not_risen e f (write h) write_still) day is
completed determined once (Some (request.Live r)) files told left s before now a b c d e f promise read write =
    λ shown read_still take_still write_still day is.
    live_completed determined files shown a b told left r s before now promise
    (λ h. none_rose a b c d (read h) read_still take_still) (λ h. not_risen e f (write h) write_still) day is
completed determined once (Some (request.Matrix r)) files told left s before now a b c d e f promise read write =
    λ shown read_still take_still write_still day is.
    matrix_completed determined files shown told r s before now promise
    (λ h. none_rose a b c d (read h) read_still take_still) (λ h. not_risen e f (write h) write_still) day is
completed determined once (Some (request.Serve r)) files None left s before now a b c d e f promise read write =
    λ shown read_still take_still write_still. tt
completed determined once (Some (request.Serve r)) files (Some bytes) left s before now a b c d e f promise read write =
    λ shown read_still take_still write_still day is.
    run_completed determined files shown bytes r s before now promise
    (λ h. none_rose a b c d (read h) read_still take_still) (λ h. not_risen e f (write h) write_still) day is
