-- What is wrong with one row more.
use Rattle.std.proofs.Common.{◌≡◌, ◌∙◌, sym, ap, refl, ℕ, suc, ◌+◌, ◌<◌, List, [], ◌∷◌, ◌++◌, length, take, drop, get_or, Option, add-one, drop-cons}
use Rattle.std.proofs.lemmas.List.{take_more}
use Rattle.gtfs_rows.specs.declared.fault.FeedFault.{FeedFault}
use Rattle.gtfs_rows.specs.Faults.{wrong_after}

pub next_row : {A : Type 0} (wrong : List A → A → List (Option FeedFault)) (xs : List A) (i : ℕ) (x : A) → i < length xs → x ≡ get_or xs i x
    → wrong_after wrong (take i xs) (drop i xs) ≡ wrong (take i xs) x ++ wrong_after wrong (take (i + 1) xs) (drop (i + 1) xs)
next_row wrong xs i x h at =
    let front : take i xs ++ x ∷ [] ≡ take (i + 1) xs = sym (take_more xs i x h ∙ ap (λ y. take i xs ++ y ∷ []) (sym at)) in
    let rest : drop i xs ≡ x ∷ drop (i + 1) xs = rw add-one (drop-cons xs i x h ∙ ap (λ y. y ∷ drop (suc i) xs) (sym at)) in
    rw (rest, front) refl
