-- Eight bytes that write a time, tested at once.
use Rattle.std.proofs.Common.{◌≡◌, ◌∙◌, sym, ap, refl, ℕ, ◌+◌, ◌-◌, ◌*◌, ◌%◌, ◌^◌, ◌<◌, ◌≤◌, List, [], ◌∷◌, length, take, get_or, map, Bool, true, false, cond, leb, nat_eq, pos, Some, suc, inl, inr, arith, w8}
use Rattle.std.specs.Prelude.{nat_le, ◌&&◌}
use Rattle.std.specs.Int.{is_in_range, IsInRange}
use Rattle.std.specs.List.{list_all}
use Rattle.std.specs.Simd.Lanes.{zip2, mask_l, top}
use Rattle.std.proofs.lemmas.Bool.{le-leb, lt-leb}
use Rattle.std.proofs.lemmas.Bool.Decides.{leb_tells, eqb_tells}
use Rattle.std.proofs.lemmas.Simd.{mask_l-mod, tops_compared}
use Rattle.std.proofs.Math.Nat.{pow-suc}
use Rattle.std.specs.Char.{digit_value, is_ascii_digit}
use Rattle.std.proofs.lemmas.Str.{digit_value_digit}
use Rattle.gtfs_rows.specs.Numbers.{IsClock, number_of, sixtieth, clock_of, time_of}
use Rattle.gtfs_rows.proofs.NumberTests.{eight_timed}

-- the tests of eight bytes
abbrev pub is_clock : List ℕ → Bool
is_clock text =
    list_all (λ fits. fits)
    (is_in_range 48 57 (get_or text 0 0)
    ∷ is_in_range 48 57 (get_or text 1 0)
    ∷ is_in_range 58 58 (get_or text 2 0)
    ∷ is_in_range 48 53 (get_or text 3 0)
    ∷ is_in_range 48 57 (get_or text 4 0)
    ∷ is_in_range 58 58 (get_or text 5 0)
    ∷ is_in_range 48 53 (get_or text 6 0)
    ∷ is_in_range 48 57 (get_or text 7 0)
    ∷ [])

-- a byte less a least one, at most some more
lane : (least more byte : ℕ) → least + more < 256 → byte < 256 → leb ((byte + (256 - least)) % 256) more ≡ is_in_range least (least + more) byte
lane least more byte room fits =
    elim (leb_tells ((byte + (256 - least)) % 256) more) [
      | inl p ↦
          let low : nat_le least byte ≡ true = le-leb least byte (omega (arith, room, fits, p.1)) in
          let high : nat_le byte (least + more) ≡ true = le-leb byte (least + more) (omega (arith, room, fits, p.1)) in
          p.0 ∙ rw (low, high) refl
      | inr p ↦
          p.0
          ∙ elim (leb_tells least byte) [
            | inl q ↦
                let low : nat_le least byte ≡ true = q.0 in
                let high : nat_le byte (least + more) ≡ false = lt-leb byte (least + more) (omega (arith, room, fits, p.1, q.1)) in
                rw (low, high) refl
            | inr q ↦ let low : nat_le least byte ≡ false = q.0 in rw low refl
          ]
    ]

same_test : (a b c d : ℕ) → (a ≡ b → c ≡ d) → (c ≡ d → a ≡ b) → nat_eq c d ≡ nat_eq a b
same_test a b c d f g =
    elim (eqb_tells a b) [
      | inl p ↦
          elim (eqb_tells c d) [
            | inl q ↦ q.0 ∙ sym p.0
            | inr q ↦ absurd (q.1 (f p.1))
          ]
      | inr p ↦
          elim (eqb_tells c d) [
            | inl q ↦ absurd (p.1 (g q.1))
            | inr q ↦ q.0 ∙ sym p.0
          ]
    ]

-- all of some marks
full : (marks : List Bool) → nat_eq (mask_l marks + 1) (2 ^ length marks) ≡ list_all (λ fits. fits) marks
full [] = refl
full (true ∷ marks) =
    let twice = pow-suc 2 (length marks) in
    same_test (mask_l marks + 1) (2 ^ length marks) (1 + 2 * mask_l marks + 1) (2 ^ suc (length marks)) (λ e. omega (arith, e, twice)) (λ e. omega (arith, e, twice))
    ∙ full marks
full (false ∷ marks) =
    elim (eqb_tells (0 + 2 * mask_l marks + 1) (2 ^ suc (length marks))) [
      | inl q ↦ absurd (let twice = pow-suc 2 (length marks) in let e = q.1 in omega (arith, e, twice))
      | inr q ↦ q.0
    ]

abbrev pub lanes : List ℕ → List ℕ
lanes text = zip2 (λ a b. (a + (256 - b)) % 256) (take 8 text) (48 ∷ 48 ∷ 58 ∷ 48 ∷ 48 ∷ 58 ∷ 48 ∷ 48 ∷ [])

pub clock_tested : (text : List ℕ) → length text ≡ 8 → ((i : ℕ) → get_or text i 0 < 256)
    → nat_eq (mask_l (map (top 7) (zip2 (λ a b. cond (leb a b) 255 0) (lanes text) (9 ∷ 9 ∷ 0 ∷ 5 ∷ 9 ∷ 0 ∷ 5 ∷ 9 ∷ []))) % 2 ^ 64) 255 ≡ is_clock text
clock_tested [] long fits = absurd (omega (arith, long))
clock_tested (a ∷ []) long fits = absurd (omega (arith, long))
clock_tested (a ∷ b ∷ []) long fits = absurd (omega (arith, long))
clock_tested (a ∷ b ∷ c ∷ []) long fits = absurd (omega (arith, long))
clock_tested (a ∷ b ∷ c ∷ d ∷ []) long fits = absurd (omega (arith, long))
clock_tested (a ∷ b ∷ c ∷ d ∷ e ∷ []) long fits = absurd (omega (arith, long))
clock_tested (a ∷ b ∷ c ∷ d ∷ e ∷ f ∷ []) long fits = absurd (omega (arith, long))
clock_tested (a ∷ b ∷ c ∷ d ∷ e ∷ f ∷ g ∷ []) long fits = absurd (omega (arith, long))
clock_tested (a ∷ b ∷ c ∷ d ∷ e ∷ f ∷ g ∷ h ∷ x ∷ rest) long fits = absurd (omega (arith, long))
clock_tested (a ∷ b ∷ c ∷ d ∷ e ∷ f ∷ g ∷ h ∷ []) long fits =
    let text = a ∷ b ∷ c ∷ d ∷ e ∷ f ∷ g ∷ h ∷ [] in
    let limits = 9 ∷ 9 ∷ 0 ∷ 5 ∷ 9 ∷ 0 ∷ 5 ∷ 9 ∷ [] in
    let marks = zip2 leb (lanes text) limits in
    let p0 = lane 48 9 a (omega arith) (fits 0) in
    let p1 = lane 48 9 b (omega arith) (fits 1) in
    let p2 = lane 58 0 c (omega arith) (fits 2) in
    let p3 = lane 48 5 d (omega arith) (fits 3) in
    let p4 = lane 48 9 e (omega arith) (fits 4) in
    let p5 = lane 58 0 f (omega arith) (fits 5) in
    let p6 = lane 48 5 g (omega arith) (fits 6) in
    let p7 = lane 48 9 h (omega arith) (fits 7) in
    ap (λ ms. nat_eq (mask_l ms % 2 ^ 64) 255) (tops_compared w8 leb (lanes text) limits)
    ∙ ap (λ m. nat_eq m 255) (mask_l-mod marks 64 (omega arith))
    ∙ same_test (mask_l marks + 1) 256 (mask_l marks) 255 (λ e. omega (arith, e)) (λ e. omega (arith, e))
    ∙ full marks
    ∙ (λ i. list_all (λ fits. fits) (p0 i ∷ p1 i ∷ p2 i ∷ p3 i ∷ p4 i ∷ p5 i ∷ p6 i ∷ p7 i ∷ []))

first_test : (least most byte : ℕ) (rest : Bool) → (is_in_range least most byte && rest) ≡ true → IsInRange least most byte × (rest ≡ true)
first_test least most byte rest h =
    elim (leb_tells least byte) [
      | inl p ↦
          elim (leb_tells byte most) [
            | inl q ↦
                let low : nat_le least byte ≡ true = p.0 in
                let high : nat_le byte most ≡ true = q.0 in
                ((p.1, q.1), rw (low, high) at h)
            | inr q ↦
                absurd (let low : nat_le least byte ≡ true = p.0 in let high : nat_le byte most ≡ false = q.0 in let no : false ≡ true = rw (low, high) at h in cc)
          ]
      | inr p ↦ absurd (let low : nat_le least byte ≡ false = p.0 in let no : false ≡ true = rw low at h in cc)
    ]

pub clock_parts : (text : List ℕ) → is_clock text ≡ true → IsClock text
clock_parts text h =
    let a = first_test 48 57 (get_or text 0 0) _ h in
    let b = first_test 48 57 (get_or text 1 0) _ a.1 in
    let c = first_test 58 58 (get_or text 2 0) _ b.1 in
    let d = first_test 48 53 (get_or text 3 0) _ c.1 in
    let e = first_test 48 57 (get_or text 4 0) _ d.1 in
    let f = first_test 58 58 (get_or text 5 0) _ e.1 in
    let g = first_test 48 53 (get_or text 6 0) _ f.1 in
    let i = first_test 48 57 (get_or text 7 0) _ g.1 in
    record {
      hour_tens = a.0;
      hour_ones = b.0;
      first_colon = c.0;
      minute_tens = d.0;
      minute_ones = e.0;
      second_colon = f.0;
      second_tens = g.0;
      second_ones = i.0;
    }

digit_test : (c : ℕ) → 48 ≤ c → c ≤ 57 → is_ascii_digit c ≡ true
digit_test c low high =
    let a : nat_le 48 c ≡ true = le-leb 48 c low in
    let b : nat_le c 57 ≡ true = le-leb c 57 high in
    rw (a, b) refl

hours_read : (a b : ℕ) → IsInRange 48 57 a → IsInRange 48 57 b → number_of (a ∷ b ∷ []) ≡ Some ((a - 48) * 10 + (b - 48))
hours_read a b p q =
    let x = digit_value_digit a p in
    let y = digit_value_digit b q in
    let value : (0 * 10 + digit_value a) * 10 + digit_value b ≡ (a - 48) * 10 + (b - 48) = omega (arith, x, y) in
    rw (digit_test a p.0 p.1, digit_test b q.0 q.1) (ap (λ n. Some n) value)

sixtieth_read : (a b : ℕ) → IsInRange 48 53 a → IsInRange 48 57 b → sixtieth a b ≡ Some ((a - 48) * 10 + (b - 48))
sixtieth_read a b p q =
    let most : nat_le a 53 ≡ true = le-leb a 53 p.1 in
    rw (digit_test a p.0 (omega (arith, p.1)), digit_test b q.0 q.1, most) refl

abbrev pub pair : List ℕ → ℕ → ℕ
pair text i = (get_or text i 0 - 48) * 10 + (get_or text (i + 1) 0 - 48)

pub clock_read : (text : List ℕ) → length text ≡ 8 → IsClock text → Some (pos (pair text 0 * 3600 + (pair text 3 * 60 + pair text 6))) ≡ time_of text
clock_read text long h =
    let hours = hours_read (get_or text 0 0) (get_or text 1 0) h.hour_tens h.hour_ones in
    let minutes = sixtieth_read (get_or text 3 0) (get_or text 4 0) h.minute_tens h.minute_ones in
    let seconds = sixtieth_read (get_or text 6 0) (get_or text 7 0) h.second_tens h.second_ones in
    let first = h.first_colon in
    let second = h.second_colon in
    let read : Some (pos (pair text 0 * 3600 + (pair text 3 * 60 + pair text 6))) ≡ clock_of (get_or text 0 0 ∷ get_or text 1 0 ∷ []) (58 ∷ get_or text 3 0 ∷ get_or text 4 0 ∷ 58 ∷ get_or text 6 0 ∷ get_or text 7 0 ∷ []) = rw (hours, minutes, seconds) refl in
    read ∙ eight_timed text long (omega (arith, first.0, first.1)) (omega (arith, second.0, second.1))
