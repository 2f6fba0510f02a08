-- A claim has at most one leg for each line of its text.
use Rattle.std.proofs.Common.{◌≡◌, subst, ℕ, suc, ◌+◌, ◌^◌, ◌<◌, ◌≤◌, ◌==◌, List, [], ◌∷◌, ◌++◌, length, Bool, true, false, Option, Some, None, Result, Ok, Err, if◌then◌else◌, arith}
use Rattle.std.specs.Prelude.{IfOk, MatchResult, ⊤}
use Rattle.std.proofs.lemmas.List.{length-append}
use Rattle.gtfs_rows.specs.Steps.{and_then, prepend}
use Rattle.tb_base.specs.BestValues.{ChoiceData}
use Rattle.text_lines.specs.LineWords.{line_words}
use Rattle.tb_base.specs.TimetableData.{TimetableData}
use Rattle.tb_base.specs.declared.query.Leg.{Leg}
use Rattle.tb_base.specs.declared.query.Value.{Value}
use Rattle.journey_read.specs.Claims.{claim_at, claim_from, claim_with, good, leg_of, legs_from, legs_on, value_claimed}
use Rattle.text_lines.specs.Lines.{last_line, lines_from, lines_of, without_cr}
use Rattle.tb_base.specs.declared.refused.Refused.{Refused}
use Rattle.journey_read.specs.declared.claim.JourneyFault.{JourneyFault}

abbrev HasAtMost : {A : Type 0} → ℕ → Result (List A) JourneyFault → Type 0
HasAtMost k (Ok xs) = length xs ≤ k
HasAtMost k (Err f) = ⊤

one_leg : (r : Result Leg JourneyFault) → HasAtMost 1 (and_then r (λ leg. Ok (leg ∷ [])))
one_leg (Ok leg) = omega arith
one_leg (Err f) = tt

on_line : (T : TimetableData) (n : ℕ) (words : Option (List (List ℕ))) → HasAtMost 1 (legs_on T n words)
on_line T n None = tt
on_line T n (Some []) = omega arith
on_line T n (Some (word ∷ words)) = one_leg (leg_of T n (word ∷ words))

one_more : (a b : Result (List Leg) JourneyFault) (k : ℕ) → HasAtMost 1 a → HasAtMost k b → HasAtMost (suc k) (and_then a (λ legs. prepend legs b))
one_more (Ok xs) (Ok ys) k one more = let sum = length-append xs ys in omega (arith, sum, one, more)
one_more (Ok xs) (Err f) k one more = tt
one_more (Err f) b k one more = tt

behind : (T : TimetableData) (n : ℕ) (lines : List (List ℕ)) → HasAtMost (length lines) (legs_from T n lines)
behind T n [] = omega arith
behind T n (line ∷ lines) =
    one_more (legs_on T n (line_words line)) (legs_from T (n + 1) lines) (length lines) (on_line T n (line_words line)) (behind T (n + 1) lines)

abbrev ClaimsAtMost : ℕ → Result ChoiceData JourneyFault → Type 0
ClaimsAtMost k (Ok c) = length c.legs ≤ k
ClaimsAtMost k (Err f) = ⊤

with_value : (v : Option Value) (n k : ℕ) (further : Result (List Leg) JourneyFault) → HasAtMost k further → ClaimsAtMost (suc k) (and_then (good n v) (λ w. claim_with w [] further))
with_value None n k further few = tt
with_value (Some v) n k (Err f) few = tt
with_value (Some v) n k (Ok legs) few = omega (arith, few)

one_later : (k : ℕ) (later : Result ChoiceData JourneyFault) → ClaimsAtMost k later → ClaimsAtMost (suc k) later
one_later k (Ok c) few = omega (arith, few)
one_later k (Err f) few = tt

at_line : (n k : ℕ) (words : Option (List (List ℕ))) (further : Result (List Leg) JourneyFault) (later : Result ChoiceData JourneyFault) →
    HasAtMost k further → ClaimsAtMost k later → ClaimsAtMost (suc k) (claim_at n words further later)
at_line n k None further later few fewer = tt
at_line n k (Some []) further later few fewer = one_later k later fewer
at_line n k (Some (word ∷ words)) further later few fewer = with_value (value_claimed (word ∷ words)) n k further few

in_lines : (T : TimetableData) (n : ℕ) (lines : List (List ℕ)) → ClaimsAtMost (length lines) (claim_from T n lines)
in_lines T n [] = tt
in_lines T n (line ∷ lines) =
    at_line n (length lines) (line_words line) (legs_from T (n + 1) lines) (claim_from T (n + 1) lines) (behind T (n + 1) lines) (in_lines T (n + 1) lines)

one_line : (begun : List ℕ) → length (last_line begun) ≤ 1
one_line [] = omega arith
one_line (b ∷ begun) = omega arith

by_feed : (feed : Bool) (k : ℕ) (begun : List ℕ) (done more : List (List ℕ)) → length done ≤ k → length more ≤ k → length (if feed then without_cr begun ∷ done else more) ≤ suc k
by_feed true k begun done more few fewer = omega (arith, few)
by_feed false k begun done more few fewer = omega (arith, fewer)

-- a text has at most one line more than bytes
few_lines : (begun text : List ℕ) → length (lines_from begun text) ≤ suc (length text)
few_lines begun [] = one_line begun
few_lines begun (b ∷ rest) =
    by_feed (b == 10) (suc (length rest)) begun (lines_from [] rest) (lines_from (begun ++ b ∷ []) rest) (few_lines [] rest) (few_lines (begun ++ b ∷ []) rest)

fewer : (k m : ℕ) (r : Result ChoiceData JourneyFault) → k ≤ m → ClaimsAtMost k r → ClaimsAtMost m r
fewer k m (Ok c) less few = omega (arith, less, few)
fewer k m (Err f) less few = tt

-- nor has a claim more legs than that
few_legs : (T : TimetableData) (bytes : List ℕ) → ClaimsAtMost (suc (length bytes)) (claim_from T 1 (lines_of bytes))
few_legs T bytes = fewer (length (lines_of bytes)) (suc (length bytes)) (claim_from T 1 (lines_of bytes)) (few_lines [] bytes) (in_lines T 1 (lines_of bytes))

-- a claim of a text that isn't too long has fewer legs than 2 ^ 32
pub few_claimed : (T : TimetableData) (bytes : List ℕ) (r : Result ChoiceData (Refused JourneyFault)) (P : Refused JourneyFault → Type 0) → length bytes ≤ 1048576
    → MatchResult r (λ c. claim_from T 1 (lines_of bytes) ≡ Ok c) P → IfOk r (λ c. length c.legs < 2 ^ 32)
few_claimed T bytes (Ok c) P short is =
    let few : length c.legs ≤ suc (length bytes) = subst (ClaimsAtMost (suc (length bytes))) is (few_legs T bytes) in
    omega (arith, few, short)
few_claimed T bytes (Err f) P short is = tt
