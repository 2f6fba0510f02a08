-- Names of commands about one day.
use Rattle.std.proofs.Common.{◌≡◌, List, ℕ, Bool, true, false, codes, refl}
use Rattle.std.specs.Prelude.{Decides, bytes_eq}
use Rattle.std.specs.Option.{option_map}
use Rattle.clap.specs.Words.{Text}
use Rattle.std.proofs.lemmas.Slice.Eq.{bytes_eq-Decides}
use Rattle.command_line.specs.DayCommands.{day_request_from}
use Rattle.command_line.specs.Requests.{request_named}
use Rattle.command_line.specs.declared.request.Request.TheVariants as request
use Rattle.command_line.specs.declared.settings.Settings.{Settings}

differ : (xs ys : List ℕ) → (xs ≡ ys → ⊥) → bytes_eq xs ys ≡ false
differ xs ys other = by (bytes_eq xs ys) (bytes_eq-Decides xs ys) where
  by : (b : Bool) → Decides b (xs ≡ ys) → b ≡ false
  by true same = absurd (other (same.0 refl))
  by false same = refl

-- a name that is none of those of other requests asks about one day
pub about_a_day : (s : Settings) (name : Text) (words : List Text) → (name ≡ codes "serve" → ⊥) → (name ≡ codes "live" → ⊥) → (name ≡ codes "matrix" → ⊥) → (name ≡ codes "city" → ⊥) → (name ≡ codes "verify" → ⊥) → (name ≡ codes "check" → ⊥) → (name ≡ codes "late" → ⊥) →
    request_named s name words ≡ option_map request.Day (day_request_from s name words)
about_a_day s name words serve live matrix city verify check late =
    rw (differ name (codes "serve") serve, differ name (codes "live") live, differ name (codes "matrix") matrix, differ name (codes "city") city, differ name (codes "verify") verify, differ name (codes "check") check, differ name (codes "late") late) refl
