-- Stops of the city have different names.
use Rattle.std.proofs.Common.{◌≡◌, ◌≢◌, ◌∙◌, sym, ℕ, ◌+◌, ◌*◌, ◌/◌, ◌%◌, ◌<◌, ◌≤◌, ◌∷◌, ◌++◌, [], List, arith, refl, ◌^◌, append_assoc}
use Rattle.std.specs.Fmt.{decimal}
use Rattle.std.proofs.Math.Nat.{mod-add-div', mod-lt, div-le_self}
use Rattle.std.proofs.lemmas.Fmt.{decimal_by_steps, decimal_injective}
use Rattle.feed_maker.specs.City.{city_stop}

-- no byte is a hyphen
abbrev HasNoHyphen : List ℕ → Type 0
HasNoHyphen [] = Unit {0}
HasNoHyphen (b ∷ bs) = (b ≢ 45) × HasNoHyphen bs

with_digit : (bs : List ℕ) (b : ℕ) → HasNoHyphen bs → b ≢ 45 → HasNoHyphen (bs ++ b ∷ [])
with_digit [] b h n = (n, tt)
with_digit (c ∷ bs) b h n = (h.0, with_digit bs b h.1 n)

decimal-hyphen : (n : ℕ) → n < 2 ^ 64 → HasNoHyphen (decimal n)
decimal-hyphen n small = decimal_by_steps (λ _ ds. HasNoHyphen ds) (λ m h. (omega arith, tt)) (λ m ds h no. with_digit ds (48 + m % 10) no (omega arith)) n small

-- what stands before the first hyphen, and what stands behind it
split_at_hyphen : (xs ys us vs : List ℕ) → HasNoHyphen xs → HasNoHyphen ys → xs ++ 45 ∷ us ≡ ys ++ 45 ∷ vs → (xs ≡ ys) × (us ≡ vs)
split_at_hyphen [] [] us vs h k e = (refl, cc)
split_at_hyphen [] (y ∷ ys) us vs h k e = absurd (k.0 cc)
split_at_hyphen (x ∷ xs) [] us vs h k e = absurd (h.0 cc)
split_at_hyphen (x ∷ xs) (y ∷ ys) us vs h k e =
    let heads : x ≡ y = cc in
    let tails : xs ++ 45 ∷ us ≡ ys ++ 45 ∷ vs = cc in
    let rest = split_at_hyphen xs ys us vs h.1 k.1 tails in
    ((λ i. heads i ∷ rest.0 i), rest.1)

-- of a column and a row
crossing_named : (x y u v : ℕ) → x < 2 ^ 64 → y < 2 ^ 64 → u < 2 ^ 64 → v < 2 ^ 64 → decimal x ++ 45 ∷ decimal y ≡ decimal u ++ 45 ∷ decimal v → (x ≡ u) × (y ≡ v)
crossing_named x y u v hx hy hu hv e =
    let parts = split_at_hyphen (decimal x) (decimal u) (decimal y) (decimal v) (decimal-hyphen x hx) (decimal-hyphen u hu) e in
    (decimal_injective x u hx hu parts.0, decimal_injective y v hy hv parts.1)

part_fits : (n p : ℕ) → 0 < n → p < 2 ^ 64 → p / n < 2 ^ 64
part_fits n p some h = let least : p / n ≤ p = div-le_self p n in omega (arith, h, least)

rest_fits : (n p : ℕ) → 0 < n → n < 2 ^ 64 → p % n < 2 ^ 64
rest_fits n p some h = let below : p % n < n = mod-lt p some in omega (arith, h, below)

pub named_apart : (n p q : ℕ) → 0 < n → n < 2 ^ 64 → p < 2 ^ 64 → q < 2 ^ 64 → p < q → (city_stop n p).name ≢ (city_stop n q).name
named_apart n p q some small hp hq less e =
    let behind : (decimal (p % n) ++ 45 ∷ []) ++ decimal (p / n) ≡ (decimal (q % n) ++ 45 ∷ []) ++ decimal (q / n) = cc in
    let tails : decimal (p % n) ++ 45 ∷ decimal (p / n) ≡ decimal (q % n) ++ 45 ∷ decimal (q / n) = sym (append_assoc (decimal (p % n)) (45 ∷ []) (decimal (p / n))) ∙ behind ∙ append_assoc (decimal (q % n)) (45 ∷ []) (decimal (q / n)) in
    let crossing = crossing_named (p % n) (p / n) (q % n) (q / n) (rest_fits n p some small) (part_fits n p some hp) (rest_fits n q some small) (part_fits n q some hq) tails in
    let same : p ≡ q = sym (mod-add-div' p n) ∙ (λ i. crossing.0 i + crossing.1 i * n) ∙ mod-add-div' q n in
    omega (arith, same, less)
