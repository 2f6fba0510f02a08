-- What a text that is JSON claims, and one that is none.
use Rattle.std.proofs.Common.{◌≡◌, refl, ℕ, ◌≤◌, List, length, Bool, true, false, Some, None, Err, if◌then◌else◌, arith}
use Rattle.std.specs.Str.{IsUtf8, is_utf8}
use Rattle.std.proofs.lemmas.Grind.{common_steps}
use Rattle.std.proofs.lemmas.Str.{IsUtf8-from_is_utf8, is_utf8-from_IsUtf8}
use Rattle.json.specs.Json.{Json, document}
use Rattle.tb_base.specs.TimetableData.{TimetableData}
use Rattle.journey_read.specs.JsonClaims.{json_claim, json_claim_of, json_of}
use Rattle.journey_read.specs.declared.claim.JourneyFault.TheVariants as fault

pub is_json : (bytes : List ℕ) (j : Json) → IsUtf8 bytes → document bytes ≡ Some j → json_of bytes ≡ Some j
is_json bytes j utf8 is = rw (is_utf8-from_IsUtf8 bytes utf8) is

pub no_json : (bytes : List ℕ) → (IsUtf8 bytes → document bytes ≡ None) → json_of bytes ≡ None
no_json bytes none = by (is_utf8 bytes) refl where
  by : (b : Bool) → is_utf8 bytes ≡ b → (if b then document bytes else None) ≡ None
  by true is = none (IsUtf8-from_is_utf8 bytes is)
  by false is = refl

module _ (T : TimetableData) (bytes : List ℕ) (short : length bytes ≤ 1048576) where
  pub claimed : (j : Json) → json_of bytes ≡ Some j → json_claim_of T bytes ≡ json_claim T j
  claimed j is = grind (arith, common_steps, short, is)

  pub no_claim : json_of bytes ≡ None → json_claim_of T bytes ≡ Err (fault.BadLine 0)
  no_claim is = grind (arith, common_steps, short, is)
