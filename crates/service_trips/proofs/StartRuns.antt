-- The starts of a row are a run of headways.
use Rattle.std.proofs.Common.{◌≡◌, ◌∙◌, sym, ap, refl, subst, ℕ, zero, suc, ◌+◌, ◌-◌, ◌*◌, ◌/◌, ◌<◌, ◌≤◌, List, [], ◌∷◌, map, min, Bool, true, false, ◌&&◌, inl, inr, arith}
use Rattle.std.specs.Prelude.{filter, nat_lt, nat_le}
use Rattle.std.specs.List.{range_with_len}
use Rattle.std.proofs.Math.Nat.{div-mul-le_self, lt-div-mul-add, mul-le-mul_right, le-mul_of_pos_right}
use Rattle.std.proofs.lemmas.Bool.{cases_Bool}
use Rattle.std.proofs.lemmas.Bool.Decides.{nat_tests}
use Rattle.service_trips.specs.declared.frequency.TripFrequency.{TripFrequency}
use Rattle.service_trips.specs.declared.starts.StartSpan.TheVariants as span
use Rattle.service_trips.specs.Starts.{IsGoodFrequency, cut_at, starts_from, starts_in, headways_to, first_from}
use Rattle.service_trips.proofs.Runs.{none_of_run, filter_run, map_runs, filters_map}

abbrev start_at : TripFrequency → ℕ → ℕ
start_at f k = f.start + k * f.headway

-- the first headway that reaches a time: no earlier one does
reached : (least : ℕ) (f : TripFrequency) → 1 ≤ f.headway → least ≤ first_from least f
reached least f good =
    let x = least - f.start + (f.headway - 1) in
    let up : x < x / f.headway * f.headway + f.headway = lt-div-mul-add good in
    omega (arith, up, good)

-- a headway no earlier starts no earlier
later : (f : TripFrequency) (j k : ℕ) → j ≤ k → f.start + j * f.headway ≤ f.start + k * f.headway
later f j k h = let m = mul-le-mul_right f.headway h in omega (arith, m)

not_reached : (least : ℕ) (f : TripFrequency) (k : ℕ) → 1 ≤ f.headway → k < headways_to least f → f.start + k * f.headway < least
not_reached least f k good h =
    let x = least - f.start + (f.headway - 1) in
    let down : x / f.headway * f.headway ≤ x = div-mul-le_self x f.headway in
    let step : suc k * f.headway ≤ headways_to least f * f.headway = mul-le-mul_right f.headway h in
    let next : suc k * f.headway ≡ f.headway + k * f.headway = omega arith in
    omega (arith, down, step, next, good)

and_true : (a b : Bool) → a ≡ true → b ≡ true → (a && b) ≡ true
and_true true true e f = refl
and_true true false e f = cc
and_true false b e f = cc

and_right : (a b : Bool) → b ≡ false → (a && b) ≡ false
and_right true b e = e
and_right false b e = refl

and_left : (a b : Bool) → a ≡ false → (a && b) ≡ false
and_left true b e = cc
and_left false b e = refl

-- the starts that are not before a time, by the headways that lead to them
module _ (least : ℕ) (f : TripFrequency) (good : IsGoodFrequency f) where
  abbrev passes : ℕ → Bool
  passes k = nat_lt (start_at f k) f.end && nat_le least (start_at f k)

  enough : (k : ℕ) → headways_to least f ≤ k → nat_le least (start_at f k) ≡ true
  enough k h =
      let a = reached least f good.headway in
      let b = later f (headways_to least f) k h in
      grind (arith, nat_tests, a, b)

  too_early : (k : ℕ) → k < headways_to least f → passes k ≡ false
  too_early k h =
      let a = not_reached least f k good.headway h in
      and_right (nat_lt (start_at f k) f.end) (nat_le least (start_at f k)) (grind (arith, nat_tests, a))

  too_late : (k : ℕ) → f.end ≤ start_at f k → passes k ≡ false
  too_late k h = and_left (nat_lt (start_at f k) f.end) (nat_le least (start_at f k)) (grind (arith, nat_tests, h))

  by_headways : (c : ℕ) → filter passes (range_with_len 0 f.end) ≡ range_with_len (headways_to least f) c → map (λ k. first_from least f + k * f.headway) (range_with_len 0 c) ≡ starts_from least f
  by_headways c run =
      sym (filters_map (nat_le least) (λ start. nat_lt start f.end) (start_at f) (range_with_len 0 f.end)
      ∙ ap (map (start_at f)) run
      ∙ map_runs (start_at f) (λ k. first_from least f + k * f.headway) (headways_to least f) 0 c (λ k. omega arith))

  -- none, where the first is at the end or after it
  pub no_starts : f.end ≤ first_from least f → [] ≡ starts_from least f
  no_starts past =
      by_headways 0 (none_of_run passes 0 f.end (λ k h. elim (cases_Bool (nat_lt k (headways_to least f))) [
        | inl t ↦ too_early k (grind (arith, nat_tests, t))
        | inr e ↦
            let on : headways_to least f ≤ k = grind (arith, nat_tests, e) in
            let b = later f (headways_to least f) k on in
            too_late k (omega (arith, b, past))
      ]))

  -- else as many as headways fit before the end, and one more
  pub some_starts : first_from least f < f.end →
      map (λ k. first_from least f + k * f.headway) (range_with_len 0 ((f.end - 1 - first_from least f) / f.headway + 1)) ≡ starts_from least f
  some_starts fits =
      let x = f.end - 1 - first_from least f in
      let a = headways_to least f in
      let c = x / f.headway + 1 in
      let down : x / f.headway * f.headway ≤ x = div-mul-le_self x f.headway in
      let up : x < x / f.headway * f.headway + f.headway = lt-div-mul-add good.headway in
      let last : start_at f (a + x / f.headway) < f.end = omega (arith, down, fits) in
      let wide = le-mul_of_pos_right (a + x / f.headway) good.headway in
      by_headways c (filter_run passes a c 0 f.end (omega arith) (omega (arith, last, wide))
      (λ k h h'.
      let b = later f k (a + x / f.headway) (omega (arith, h')) in
      and_true (nat_lt (start_at f k) f.end) (nat_le least (start_at f k)) (grind (arith, nat_tests, b, last)) (enough k h))
      (λ k h h'. too_early k h')
      (λ k h.
      let b = later f (a + c) k h in
      let n : (a + c) * f.headway ≡ a * f.headway + x / f.headway * f.headway + f.headway = omega arith in
      too_late k (omega (arith, b, n, up, fits))))

-- the same, by the first start
pub no_starts_by : (least : ℕ) (f : TripFrequency) (first : ℕ) → IsGoodFrequency f → first ≡ first_from least f → f.end ≤ first → map (λ k. first + k * f.headway) (range_with_len 0 0) ≡ starts_from least f
no_starts_by least f first good is past = no_starts least f good (omega (arith, is, past))

pub some_starts_by : (least : ℕ) (f : TripFrequency) (first : ℕ) → IsGoodFrequency f → first ≡ first_from least f → first < f.end
    → map (λ k. first + k * f.headway) (range_with_len 0 ((f.end - 1 - first) / f.headway + 1)) ≡ starts_from least f
some_starts_by least f first good is fits = rw is (some_starts least f good (omega (arith, is, fits)))

-- numbers that pass a test that none from a number on passes
passes_below : (p : ℕ → Bool) (i m n : ℕ) → m ≤ n → ((k : ℕ) → i + m ≤ k → p k ≡ false) → filter p (range_with_len i m) ≡ filter p (range_with_len i n)
passes_below p i zero n h none = sym (none_of_run p i n (λ k low. none k (omega (arith, low))))
passes_below p i (suc m) zero h none = absurd (omega (arith, h))
passes_below p i (suc m) (suc n) h none =
    let rest = passes_below p (i + 1) m n (omega (arith, h)) (λ k low. none k (omega (arith, low))) in
    elim (cases_Bool (p i)) [
      | inl t ↦ rw t (ap (λ xs. i ∷ xs) rest)
      | inr f ↦ rw f rest
    ]

same_passes : (p q : ℕ → Bool) (xs : List ℕ) → ((x : ℕ) → p x ≡ q x) → filter p xs ≡ filter q xs
same_passes p q [] same = refl
same_passes p q (x ∷ xs) same =
    let rest = same_passes p q xs same in
    elim (cases_Bool (q x)) [
      | inl t ↦ rw (same x, t) (ap (λ ys. x ∷ ys) rest)
      | inr f ↦ rw (same x, f) rest
    ]

-- the starts of a row that is cut at a time are those before it
cut_starts : (end : ℕ) (f : TripFrequency) → IsGoodFrequency f → starts_from 0 (cut_at end f) ≡ starts_in (span.Until end) f
cut_starts end f good =
    let m = min f.end end in
    let early : ℕ → Bool = λ k. nat_lt (start_at f k) m && nat_le 0 (start_at f k) in
    let both : ℕ → Bool = λ k. nat_lt (start_at f k) f.end && nat_lt (start_at f k) end in
    let same : (k : ℕ) → early k ≡ both k = λ k. grind (arith, nat_tests) in
    let late : (k : ℕ) → 0 + m ≤ k → early k ≡ false =
    λ k low.
    let wide = le-mul_of_pos_right k good.headway in
    and_left (nat_lt (start_at f k) m) (nat_le 0 (start_at f k)) (grind (arith, nat_tests, wide, low)) in
    filters_map (nat_le 0) (λ start. nat_lt start m) (start_at f) (range_with_len 0 m)
    ∙ ap (map (start_at f)) (passes_below early 0 m f.end (omega arith) late ∙ same_passes early both (range_with_len 0 f.end) same)
    ∙ sym (filters_map (λ start. nat_lt start end) (λ start. nat_lt start f.end) (start_at f) (range_with_len 0 f.end))

pub cut_run : (end first count : ℕ) (f g : TripFrequency) → IsGoodFrequency f → g ≡ cut_at end f → map (λ k. first + k * g.headway) (range_with_len 0 count) ≡ starts_from 0 g
    → map (λ k. first + k * f.headway) (range_with_len 0 count) ≡ starts_in (span.Until end) f
cut_run end first count f g good is run =
    let cut : map (λ k. first + k * f.headway) (range_with_len 0 count) ≡ starts_from 0 (cut_at end f) = subst (λ (h : TripFrequency). map (λ k. first + k * h.headway) (range_with_len 0 count) ≡ starts_from 0 h) is run in
    cut ∙ cut_starts end f good
