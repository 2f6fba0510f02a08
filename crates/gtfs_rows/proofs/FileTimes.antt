-- A time of a file is at most 99:59:59.
use Rattle.std.proofs.Common.{◌≡◌, refl, ℕ, ◌+◌, ◌-◌, ◌*◌, ◌<◌, ◌≤◌, List, [], ◌∷◌, length, take, drop, Option, Some, None, Bool, true, false, arith, rules, w32, ◌&&◌, length-take}
use Rattle.std.specs.Prelude.{◌==◌, nat_le, pos, ℤ, option_map, option_and_then, IfSome, FitsSigned}
use Rattle.std.specs.Char.{is_ascii_digit}
use Rattle.std.specs.Bool.{if◌then◌else◌}
use Rattle.std.proofs.lemmas.Bool.Decides.{nat_tests}
use Rattle.std.proofs.lemmas.Int.{ints}
use Rattle.std.proofs.lemmas.Bool.{and_parts}
use Rattle.gtfs_rows.specs.Numbers.{IsFileTime, number_of, sixtieth, after_hours, clock_of, time_of}
use Rattle.gtfs_rows.specs.Fields.{or_empty}
use Rattle.gtfs_rows.proofs.NumberTests.{is_number}
use Rattle.gtfs_rows.proofs.Digits.{small}

-- where a test chooses a value, it passed
pub chosen : {A : Type 0} (b : Bool) (o : Option A) (x : A) → (if b then o else None) ≡ Some x → (b ≡ true) × (o ≡ Some x)
chosen true o x e = (refl, e)
chosen false o x e = absurd (cc)

sixty : (a b n : ℕ) → sixtieth a b ≡ Some n → n < 60
sixty a b n e =
    let c = chosen (is_ascii_digit a && is_ascii_digit b && nat_le a 53) (Some ((a - 48) * 10 + (b - 48))) n e in
    let t = and_parts (is_ascii_digit a && is_ascii_digit b) (nat_le a 53) c.0 in
    let d = and_parts (is_ascii_digit a) (is_ascii_digit b) t.0 in
    let p = and_parts (nat_le 48 b) (nat_le b 57) d.1 in
    let q : b ≤ 57 = grind (arith, nat_tests, p.1) in
    let r : a ≤ 53 = grind (arith, nat_tests, t.1) in
    let v : (a - 48) * 10 + (b - 48) ≡ n = cc (c.1) in
    omega (arith, v, q, r)

pub mapped : {A B : Type 0} (f : A → B) (o : Option A) (y : B) → option_map f o ≡ Some y → (x : A) × (o ≡ Some x) × (f x ≡ y)
mapped f None y e = absurd (cc)
mapped f (Some x) y e = (x, refl, cc)

pub followed : {A B : Type 0} (f : A → Option B) (o : Option A) (y : B) → option_and_then f o ≡ Some y → (x : A) × (o ≡ Some x) × (f x ≡ Some y)
followed f None y e = absurd (cc)
followed f (Some x) y e = (x, refl, e)

hour : (rest : List ℕ) (n : ℕ) → after_hours rest ≡ Some n → n < 3600
hour (c ∷ m ∷ n ∷ d ∷ s ∷ t ∷ []) k e =
    let h = chosen ((c == 58) && (d == 58)) (option_and_then (λ minutes. option_map (λ seconds. minutes * 60 + seconds) (sixtieth s t)) (sixtieth m n)) k e in
    let f = followed (λ minutes. option_map (λ seconds. minutes * 60 + seconds) (sixtieth s t)) (sixtieth m n) k h.1 in
    let g = mapped (λ seconds. f.0 * 60 + seconds) (sixtieth s t) k f.2 in
    let p = sixty m n f.0 f.1 in
    let q = sixty s t g.0 g.1 in
    let v : f.0 * 60 + g.0 ≡ k = g.2 in
    omega (arith, p, q, v)
hour [] k e = absurd (cc)
hour (a ∷ []) k e = absurd (cc)
hour (a ∷ b ∷ []) k e = absurd (cc)
hour (a ∷ b ∷ c ∷ []) k e = absurd (cc)
hour (a ∷ b ∷ c ∷ d ∷ []) k e = absurd (cc)
hour (a ∷ b ∷ c ∷ d ∷ f ∷ []) k e = absurd (cc)
hour (a ∷ b ∷ c ∷ d ∷ f ∷ g ∷ h ∷ rest) k e = absurd (cc)

two_digits : (text : List ℕ) (n : ℕ) → length text ≤ 2 → number_of text ≡ Some n → n < 100
two_digits text n short e =
    let h = is_number text n e in
    let s = small text 2 short h.0.2 in
    let v = h.1 in
    omega (arith, s, v)

clock : (hours rest : List ℕ) (z : ℤ) → length hours ≤ 2 → clock_of hours rest ≡ Some z → IsFileTime z
clock hours rest z short e =
    let f = followed (λ h. option_map (λ secs. pos (h * 3600 + secs)) (after_hours rest)) (number_of hours) z e in
    let g = mapped (λ secs. pos (f.0 * 3600 + secs)) (after_hours rest) z f.2 in
    let p = two_digits hours f.0 short f.1 in
    let q = hour rest g.0 g.1 in
    let bound : f.0 * 3600 + g.0 ≤ 359999 = omega (arith, p, q) in
    rw (← g.2) (record { least = omega (arith, ints); most = omega (arith, ints, bound) })

pub file_time : (text : List ℕ) (z : ℤ) → time_of text ≡ Some z → IsFileTime z
file_time text z e =
    let c = chosen (nat_le 7 (length text) && nat_le (length text) 8) (clock_of (take (length text - 6) text) (drop (length text - 6) text)) z e in
    let t = and_parts (nat_le 7 (length text)) (nat_le (length text) 8) c.0 in
    let l : length text ≤ 8 = grind (arith, nat_tests, t.1) in
    let k = length-take (length text - 6) text in
    clock (take (length text - 6) text) (drop (length text - 6) text) z (omega (arith, l, k)) c.1

pub file_time-fits : (z : ℤ) → IsFileTime z → FitsSigned w32 z
file_time-fits z h = let least = h.least in let most = h.most in search (rules, least, most)

pub time_or_none : (text : List ℕ) (o : Option ℤ) → or_empty time_of text ≡ Some o → IfSome o IsFileTime
time_or_none [] o e = by_none o (let q : Some None ≡ Some o = e in cc)
  where
    by_none : (o : Option ℤ) → None ≡ o → IfSome o IsFileTime
    by_none None q = tt
    by_none (Some z) q = absurd (cc)
time_or_none (b ∷ rest) None e = tt
time_or_none (b ∷ rest) (Some z) e =
    let m = mapped (λ x. Some x) (time_of (b ∷ rest)) (Some z) e in
    let same : m.0 ≡ z = cc (m.2) in
    rw (← same) (file_time (b ∷ rest) m.0 m.1)
