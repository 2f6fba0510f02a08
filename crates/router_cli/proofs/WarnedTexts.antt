-- Warnings of a kind, one after another.
use Rattle.std.proofs.Common.{◌≡◌, ◌∙◌, ◌<◌, ◌≤◌, ◌+◌, ap, refl, sym, subst, ℕ, List, [], ◌∷◌, ◌++◌, append-nil, append_assoc, Bool, true, false, arith, flat_map, length, take, get_or}
use Rattle.std.specs.Prelude.{filter, nat_lt, if◌then◌else◌}
use Rattle.std.proofs.lemmas.Grind.{common_steps, flat_map-append}
use Rattle.std.proofs.lemmas.List.{take_all, take-append-le}
use Rattle.footpaths.proofs.StopPlaces.{kind_new}

-- the first so many, one more
kept_by : {X : Type 0} (f : X → List ℕ) (most : ℕ) (xs : List X) (x : X) (few : Bool) → nat_lt (length xs) most ≡ few → flat_map f (take most (xs ++ x ∷ [])) ≡ flat_map f (take most xs) ++ (if few then f x else [])
kept_by f most xs x true e =
    let below : length (xs ++ x ∷ []) ≤ most = grind (arith, common_steps, e) in
    let before : length xs ≤ most = grind (arith, common_steps, e) in
    ap (flat_map f) (take_all most (xs ++ x ∷ []) below) ∙ flat_map-append f xs (x ∷ []) ∙ ap (λ ys. flat_map f xs ++ ys) (append-nil (f x)) ∙ ap (λ ys. flat_map f ys ++ f x) (sym (take_all most xs before))
kept_by f most xs x false e =
    let full : most ≤ length xs = grind (arith, common_steps, e) in
    ap (flat_map f) (take-append-le most xs (x ∷ []) full) ∙ sym (append-nil (flat_map f (take most xs)))

-- one more of the kind
pub kept_more : {X : Type 0} (f : X → List ℕ) (t : X → Bool) (most : ℕ) (xs : List X) (i count : ℕ) (x : X) (first old now : List ℕ) → i < length xs → x ≡ get_or xs i x → t x ≡ true → count ≡ length (filter t (take i xs))
    → old ≡ first ++ flat_map f (take most (filter t (take i xs))) → now ≡ old ++ (if nat_lt count most then f x else []) → now ≡ first ++ flat_map f (take most (filter t (take (i + 1) xs)))
kept_more f t most xs i count x first old now h at is e before added =
    let ys = filter t (take i xs) in
    let more : flat_map f (take most (filter t (take (i + 1) xs))) ≡ flat_map f (take most ys) ++ (if nat_lt count most then f x else []) =
    ap (λ zs. flat_map f (take most zs)) (kind_new t xs i x h at is) ∙ kept_by f most ys x (nat_lt count most) (ap (λ n. nat_lt n most) (sym e)) in
    added ∙ ap (λ zs. zs ++ (if nat_lt count most then f x else [])) before ∙ append_assoc first (flat_map f (take most ys)) (if nat_lt count most then f x else []) ∙ ap (λ zs. first ++ zs) (sym more)

pub counted_more : {X : Type 0} (t : X → Bool) (xs : List X) (i count now : ℕ) (x : X) → i < length xs → x ≡ get_or xs i x → t x ≡ true → count ≡ length (filter t (take i xs)) → now ≡ count + 1 → now ≡ length (filter t (take (i + 1) xs))
counted_more t xs i count now x h at is e n =
    let more : length (filter t (take (i + 1) xs)) ≡ length (filter t (take i xs) ++ x ∷ []) = ap length (kind_new t xs i x h at is) in
    grind (arith, common_steps, more, e, n)
