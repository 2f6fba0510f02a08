-- Hours in digits, and the seconds that they count.
use Rattle.std.proofs.Common.{◌≡◌, ◌∙◌, refl, ap, sym, ℕ, ◌+◌, ◌-◌, ◌*◌, ◌<◌, ◌≤◌, List, [], ◌∷◌, length, take, drop, get_or, Some, None, true, false, inl, inr, min, arith}
use Rattle.std.specs.Prelude.{nat_le, if◌then◌else◌}
use Rattle.std.specs.Int.{IsInRange}
use Rattle.std.specs.Str.{all_ascii_digits}
use Rattle.std.specs.Str.Parse.{AllDigits, digits_value}
use Rattle.std.proofs.lemmas.Bool.{cases_Bool}
use Rattle.std.proofs.lemmas.Bool.Decides.{nat_tests}
use Rattle.std.proofs.lemmas.List.{length-take}
use Rattle.std.proofs.lemmas.Str.Parse.{tells_digits, tells_all_ascii_digits}
use Rattle.gtfs_rows.proofs.Digits.{value_more}
use Rattle.gtfs_rows.specs.Numbers.{after_hours}
use Rattle.journey_read.specs.Times.{at_most, clock_of, seconds_of}

to_test : (xs : List ℕ) → AllDigits 10 xs → all_ascii_digits xs ≡ true
to_test [] h = refl
to_test (x ∷ xs) h = let k = tells_digits.parts x xs h in tells_all_ascii_digits.more x xs k.0 (to_test xs k.1)

from_test : (xs : List ℕ) → all_ascii_digits xs ≡ true → AllDigits 10 xs
from_test [] h = tt
from_test (x ∷ xs) h = let k = tells_all_ascii_digits.parts x xs h in tells_digits.more x xs k.0 (from_test xs k.1)

-- one digit more
pub hours_more : (text : List ℕ) (i n : ℕ) → i < length text → IsInRange 48 57 (get_or text i 0) → n ≡ min (digits_value 10 (take i text)) 200 → min (n * 10 + (get_or text i 0 - 48)) 200 ≡ min (digits_value 10 (take (i + 1) text)) 200
hours_more text i n h d e = let m = value_more text i h d in omega (arith, e, m, d.0, d.1)

-- fewer than two digits, none that are digits, or no minutes and seconds
few_digits : (hours rest : List ℕ) (most : ℕ) → length hours < 2 → None ≡ at_most most (clock_of hours rest)
few_digits hours rest most few = let long : nat_le 2 (length hours) ≡ false = grind (arith, nat_tests, few) in rw long refl

pub too_short : (text : List ℕ) (most : ℕ) → length text < 8 → None ≡ at_most most (seconds_of text)
too_short text most short =
    few_digits (take (length text - 6) text) (drop (length text - 6) text) most (omega (arith, short, length-take (length text - 6) text))

pub not_hours : (hours rest : List ℕ) (most : ℕ) → 2 ≤ length hours → (AllDigits 10 hours → ⊥) → None ≡ at_most most (clock_of hours rest)
not_hours hours rest most long wrong =
    let two : nat_le 2 (length hours) ≡ true = grind (arith, nat_tests, long) in
    elim (cases_Bool (all_ascii_digits hours)) [
      | inl t ↦ absurd (wrong (from_test hours t))
      | inr f ↦ rw (two, f) refl
    ]

pub not_behind : (hours rest : List ℕ) (most : ℕ) → 2 ≤ length hours → AllDigits 10 hours → None ≡ after_hours rest → None ≡ at_most most (clock_of hours rest)
not_behind hours rest most long all none =
    let two : nat_le 2 (length hours) ≡ true = grind (arith, nat_tests, long) in
    rw (two, to_test hours all, ← none) refl

-- the hours and what is behind them
counted : (hours rest : List ℕ) (most n secs : ℕ) → 2 ≤ length hours → AllDigits 10 hours → after_hours rest ≡ Some secs → at_most most (clock_of hours rest) ≡ (if nat_le (digits_value 10 hours * 3600 + secs) most then Some (digits_value 10 hours * 3600 + secs) else None)
counted hours rest most n secs long all is =
    let two : nat_le 2 (length hours) ≡ true = grind (arith, nat_tests, long) in
    rw (two, to_test hours all, is) refl

pub few_seconds : (hours rest : List ℕ) (most n secs : ℕ) → most ≤ 446399 → 2 ≤ length hours → AllDigits 10 hours → n ≡ min (digits_value 10 hours) 200 → after_hours rest ≡ Some secs → n * 3600 + secs ≤ most → Some (n * 3600 + secs) ≡ at_most most (clock_of hours rest)
few_seconds hours rest most n secs small long all e is le =
    let same : digits_value 10 hours ≡ n = omega (arith, e, le, small) in
    let in_time : nat_le (digits_value 10 hours * 3600 + secs) most ≡ true = grind (arith, nat_tests, same, le) in
    sym (counted hours rest most n secs long all is ∙ rw in_time (ap (λ k. Some (k * 3600 + secs)) same))

pub many_seconds : (hours rest : List ℕ) (most n secs : ℕ) → most ≤ 446399 → 2 ≤ length hours → AllDigits 10 hours → n ≡ min (digits_value 10 hours) 200 → after_hours rest ≡ Some secs → most < n * 3600 + secs → None ≡ at_most most (clock_of hours rest)
many_seconds hours rest most n secs small long all e is more =
    let least : n ≤ digits_value 10 hours = omega (arith, e) in
    let late : nat_le (digits_value 10 hours * 3600 + secs) most ≡ false = grind (arith, nat_tests, least, more) in
    sym (counted hours rest most n secs long all is ∙ rw late refl)
