-- A claim is read from line to line.
use Rattle.std.proofs.Common.{◌≡◌, ◌∙◌, refl, ap, sym, ℕ, ◌+◌, ◌<◌, List, [], ◌∷◌, ◌++◌, length, Option, Some, None, Result, Ok, Err, append_assoc, arith}
use Rattle.std.specs.Option.{option_map}
use Rattle.gtfs_rows.specs.Steps.{prepend}
use Rattle.tb_base.specs.BestValues.{ChoiceData}
use Rattle.text_lines.specs.LineWords.{line_words}
use Rattle.tb_base.specs.TimetableData.{TimetableData}
use Rattle.tb_base.specs.declared.query.Leg.{Leg}
use Rattle.tb_base.specs.declared.query.Value.{Value}
use Rattle.journey_read.specs.declared.claim.JourneyFault.{JourneyFault}
use Rattle.journey_read.specs.declared.claim.JourneyFault.TheVariants as fault
use Rattle.journey_read.specs.Claims.{claim_behind, claim_so_far, claim_with, claim_with_words, leg_of, legs_from, value_claimed}

prepend-nothing : {A E : Type 0} (r : Result (List A) E) → prepend [] r ≡ r
prepend-nothing (Ok ys) = refl
prepend-nothing (Err e) = refl

-- legs before one more leg
one_leg_more : (v : Value) (legs : List Leg) (leg : Leg) (further : Result (List Leg) JourneyFault) → claim_with v legs (prepend (leg ∷ []) further) ≡ claim_with v (legs ++ leg ∷ []) further
one_leg_more v legs leg (Ok ys) = ap (λ (ls : List Leg). Ok (record { value = v; legs = ls })) (sym (append_assoc legs (leg ∷ []) ys))
one_leg_more v legs leg (Err e) = refl

-- the words of a line, as they are handed on
pub words_found : {V : Type 0} (items : V → List (List ℕ)) (found : Option V) (v : V) (words : List (List ℕ)) (meant : Option (List (List ℕ))) → option_map items found ≡ meant → found ≡ Some v → words ≡ items v → meant ≡ Some words
words_found items found v words meant e is same = sym e ∙ ap (option_map items) is ∙ ap Some (sym same)

module _ (T : TimetableData) (n : ℕ) where
  pub leg_refused : (c : ChoiceData) (words lines : List (List ℕ)) (f : JourneyFault) → 0 < length words → leg_of T n words ≡ Err f → claim_with_words T n (Some c) words lines ≡ Err f
  leg_refused c [] lines f some is = absurd (omega (arith, some))
  leg_refused c (w ∷ words) lines f some is = rw is refl

  pub leg_added : (c : ChoiceData) (words lines : List (List ℕ)) (leg : Leg) → 0 < length words → leg_of T n words ≡ Ok leg
      → claim_with_words T n (Some c) words lines ≡ claim_behind T (Some (record { value = c.value; legs = c.legs ++ leg ∷ [] })) (n + 1) lines
  leg_added c [] lines leg some is = absurd (omega (arith, some))
  leg_added c (w ∷ words) lines leg some is = rw is (one_leg_more c.value c.legs leg (legs_from T (n + 1) lines))

  pub value_refused : (words lines : List (List ℕ)) → 0 < length words → value_claimed words ≡ None → claim_with_words T n None words lines ≡ Err (fault.BadLine n)
  value_refused [] lines some is = absurd (omega (arith, some))
  value_refused (w ∷ words) lines some is = rw is refl

  pub value_taken : (words lines : List (List ℕ)) (v : Value) → 0 < length words → value_claimed words ≡ Some v → claim_with_words T n None words lines ≡ claim_behind T (Some (record { value = v; legs = [] })) (n + 1) lines
  value_taken [] lines v some is = absurd (omega (arith, some))
  value_taken (w ∷ words) lines v some is = rw is refl

module _ (T : TimetableData) (n : ℕ) (claimed : Option ChoiceData) (text : List ℕ) (lines : List (List ℕ)) where
  abbrev so_far : Option ChoiceData → ℕ → List (List ℕ) → Result ChoiceData JourneyFault
  so_far c k ls = claim_so_far T (record { lines = k; claimed = c }) ls

  pub bad_line : line_words text ≡ None → so_far claimed n (text ∷ lines) ≡ Err (fault.BadLine (n + 1))
  bad_line is = by claimed where
    by : (c : Option ChoiceData) → so_far c n (text ∷ lines) ≡ Err (fault.BadLine (n + 1))
    by None = rw is refl
    by (Some c) = rw is refl

  pub passed_over : line_words text ≡ Some [] → so_far claimed n (text ∷ lines) ≡ so_far claimed (n + 1) lines
  passed_over is = by claimed where
    by : (c : Option ChoiceData) → so_far c n (text ∷ lines) ≡ so_far c (n + 1) lines
    by None = rw is refl
    by (Some c) = rw is (ap (claim_with c.value c.legs) (prepend-nothing (legs_from T (n + 1 + 1) lines)))

  pub has_words : (words : List (List ℕ)) → 0 < length words → line_words text ≡ Some words → so_far claimed n (text ∷ lines) ≡ claim_with_words T (n + 1) claimed words lines
  has_words words some is = by claimed where
    by : (c : Option ChoiceData) → so_far c n (text ∷ lines) ≡ claim_with_words T (n + 1) c words lines
    by None = rw is refl
    by (Some c) = rw is refl
