use Rattle.std.proofs.Common.{◌≡◌, ◌∙◌, sym, ℕ, List, inl, inr}
use Rattle.std.specs.Prelude.{MatchResult, Result, Ok, Err, is_ok, IsUtf8}
use Rattle.std.specs.Str.{is_utf8}
use Rattle.std.proofs.lemmas.Bool.{cases_Bool}
use Rattle.std.proofs.lemmas.Str.{IsUtf8-from_is_utf8, is_utf8-from_IsUtf8}
use Rattle.text_lines.proofs.words.is_text.Goals as goal

told : {T E : Type 0} (r : Result T E) (bytes : List ℕ) (P : T → Type 0) (Q : E → Type 0) → MatchResult r (λ s. P s × IsUtf8 bytes) (λ e. ¬ (IsUtf8 bytes) × Q e) → is_ok r ≡ is_utf8 bytes
told (Ok s) bytes P Q h = sym (is_utf8-from_IsUtf8 bytes h.1)
told (Err e) bytes P Q h =
    elim (cases_Bool (is_utf8 bytes)) [
      | inl t ↦ absurd (h.0 (IsUtf8-from_is_utf8 bytes t))
      | inr f ↦ sym f
    ]

pub returns : goal.returns
returns c = c.is_ok.ensures.value ∙ told c.from_utf8.result c.args.bytes.now _ _ c.from_utf8.ensures.cases
