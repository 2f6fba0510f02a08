-- The times of departures, one after another.
use Rattle.std.proofs.Common.{◌≡◌, ◌∙◌, ℕ, ◌+◌, ◌*◌, ◌<◌, ◌≤◌, inl, inr, List, [], ◌∷◌, ◌++◌, length, get_or, sym, ap, subst, arith, ℤ, pos, ◌+ℤ◌, ◌-ℤ◌, ◌≤ℤ◌, ◌<ℤ◌, All, AllPairs}
use Rattle.std.proofs.lemmas.Bool.{cases_lt}
use Rattle.std.proofs.lemmas.Int.{ints}
use Rattle.std.proofs.lemmas.List.{get_or_append_left, get_or_push, length-append}
use Rattle.std.proofs.lemmas.List.Elements.{All-from_get_or}
use Rattle.std.proofs.lemmas.Nat.{mul-le}
use Rattle.tb_base.proofs.NumberFacts.{below_or_at}
use Rattle.reach_all.specs.declared.departures.Departures.{Departures}
use Rattle.reach_all.specs.TravelTimes.{AreDepartures}

-- the times of the first departures, and that of the next
pub record AreFirst (d : Departures) (times : List ℤ) (time : ℤ) : Type 0 where
  pub each : (k : ℕ) (t : ℤ) → k < length times → get_or times k t ≡ d.first +ℤ pos (k * d.step)
  pub last : (k : ℕ) → k < length times → (d.first +ℤ pos (k * d.step)) ≤ℤ d.last
  pub next : time ≡ d.first +ℤ pos (length times * d.step)
  pub few : pos (length times) ≤ℤ (time -ℤ d.first)
  pub most : length times ≤ 360000

none_yet : (s : ℕ) → 0 * s ≡ 0
none_yet s = grind arith

one_more : (k s : ℕ) → (k + 1) * s ≡ k * s + s
one_more k s = grind arith

pub first_none : (d : Departures) → AreFirst d [] d.first
first_none d = record {
  each = λ k t below. absurd (omega (arith, below));
  last = λ k below. absurd (omega (arith, below));
  next = (let n = none_yet d.step in omega (arith, ints, n));
  few = omega (arith, ints);
  most = omega arith;
}

module _ (d : Departures) (times : List ℤ) (time : ℤ) (before : AreFirst d times time) where
  fits : (n : ℕ) (a t l : ℤ) → pos n ≤ℤ (t -ℤ a) → pos 0 ≤ℤ a → t ≤ℤ l → l ≤ℤ pos 359999 → n < 360000
  fits n a t l g h j k = omega (arith, ints, g, h, j, k)

  -- there is room for one more
  pub fewer : pos 0 ≤ℤ d.first → time ≤ℤ d.last → d.last ≤ℤ pos 359999 → length times < 360000
  fewer first on last = fits (length times) d.first time d.last before.few first on last

  -- one more
  pub first_more : (next : ℤ) → next ≡ (time +ℤ pos d.step) → pos 0 ≤ℤ d.first → time ≤ℤ d.last → d.last ≤ℤ pos 359999 → 1 ≤ d.step → AreFirst d (times ++ time ∷ []) next
  first_more next next_is first on last some = record {
    each = λ k t below. elim (below_or_at k (length times) (subst (λ n. k < n) long below)) [
      | inl h ↦ get_or_append_left times (time ∷ []) t k h ∙ before.each k t h
      | inr e ↦ get_or_push times time t k (sym e) ∙ (before.next ∙ ap (λ j. d.first +ℤ pos (j * d.step)) (sym e))
    ];
    last = λ k below. elim (below_or_at k (length times) (subst (λ n. k < n) long below)) [
      | inl h ↦ before.last k h
      | inr e ↦ subst (λ j. (d.first +ℤ pos (j * d.step)) ≤ℤ d.last) (sym e) (subst (λ z. z ≤ℤ d.last) before.next on)
    ];
    next = subst (λ n. next ≡ d.first +ℤ pos (n * d.step)) (sym long) (onward d.first time next (length times * d.step) ((length times + 1) * d.step) d.step before.next next_is (one_more (length times) d.step));
    few = subst (λ n. pos n ≤ℤ (next -ℤ d.first)) (sym long) (grown (length times) d.step d.first time next before.few next_is some);
    most = subst (λ n. n ≤ 360000) (sym long) (let f = fewer first on last in omega (arith, f));
  }
    where
      long : length (times ++ time ∷ []) ≡ length times + 1
      long = length-append times (time ∷ [])

      onward : (a t n : ℤ) (p q s : ℕ) → t ≡ (a +ℤ pos p) → n ≡ (t +ℤ pos s) → q ≡ p + s → n ≡ (a +ℤ pos q)
      onward a t n p q s e f g = omega (arith, ints, e, f, g)

      grown : (k s : ℕ) (a t n : ℤ) → pos k ≤ℤ (t -ℤ a) → n ≡ (t +ℤ pos s) → 1 ≤ s → pos (k + 1) ≤ℤ (n -ℤ a)
      grown k s a t n g e h = omega (arith, ints, g, e, h)

  -- the next one is too late
  pub first_all : d.last <ℤ time → AreDepartures d times
  first_all late = record {
    each = before.each;
    all = λ k. (before.last k, λ on. elim (cases_lt k (length times)) [ inl h ↦ h | inr h ↦ absurd (too_late d.first time d.last (length times * d.step) (k * d.step) before.next late (mul-le (length times) d.step k d.step h (omega arith)) on) ]);
  }
    where
      too_late : (a t l : ℤ) (p q : ℕ) → t ≡ (a +ℤ pos p) → l <ℤ t → p ≤ q → (a +ℤ pos q) ≤ℤ l → ⊥
      too_late a t l p q e f g h = omega (arith, ints, e, f, g, h)

-- what follows for the times of all departures
module _ (d : Departures) (times : List ℤ) (are : AreDepartures d times) where
  pub some_time : d.first ≤ℤ d.last → 0 < length times
  some_time le = (are.all 0).1 (from_first d.first d.last (0 * d.step) (none_yet d.step) le)
    where
      from_first : (a l : ℤ) (p : ℕ) → p ≡ 0 → a ≤ℤ l → (a +ℤ pos p) ≤ℤ l
      from_first a l p e h = omega (arith, ints, e, h)

  pub in_order : AllPairs (λ m n. m ≤ℤ n) times
  in_order = λ i j t before inside. later d.first (i * d.step) (j * d.step) (get_or times i t) (get_or times j t) (are.each i t (omega (arith, before, inside))) (are.each j t inside) (mul-le i d.step j d.step (omega (arith, before)) (omega arith))
    where
      later : (a : ℤ) (p q : ℕ) (m n : ℤ) → m ≡ (a +ℤ pos p) → n ≡ (a +ℤ pos q) → p ≤ q → m ≤ℤ n
      later a p q m n e f h = omega (arith, ints, e, f, h)

  pub not_before : pos 0 ≤ℤ d.first → All (λ t. pos 0 ≤ℤ t) times
  not_before first = All-from_get_or (λ t. pos 0 ≤ℤ t) times (pos 0) (λ i inside. after d.first (i * d.step) (get_or times i (pos 0)) first (are.each i (pos 0) inside))
    where
      after : (a : ℤ) (p : ℕ) (t : ℤ) → pos 0 ≤ℤ a → t ≡ (a +ℤ pos p) → pos 0 ≤ℤ t
      after a p t h e = omega (arith, ints, h, e)

  pub latest : d.last ≤ℤ pos 359999 → All (λ t. t ≤ℤ pos 359999) times
  latest last = All-from_get_or (λ t. t ≤ℤ pos 359999) times (pos 0) (λ i inside. within d.first d.last (i * d.step) (get_or times i (pos 0)) ((are.all i).0 inside) (are.each i (pos 0) inside) last)
    where
      within : (a l : ℤ) (p : ℕ) (t : ℤ) → (a +ℤ pos p) ≤ℤ l → t ≡ (a +ℤ pos p) → l ≤ℤ pos 359999 → t ≤ℤ pos 359999
      within a l p t g e h = omega (arith, ints, g, e, h)
