-- Rows put one behind the other.
use Rattle.std.proofs.Common.{◌≡◌, ◌∙◌, ℕ, suc, ◌+◌, ◌-◌, ◌<◌, ◌≤◌, inl, inr, List, [], ◌∷◌, ◌++◌, length, get_or, take, drop, sym, ap, arith, length-append}
use Rattle.std.proofs.lemmas.List.{drop-append-le, get_or_append_left, length-drop, take-append-le, take_all}
use Rattle.std.proofs.Math.Seq.{drop-append_seam}
use Rattle.tb_base.specs.declared.table.Path.{Path}
use Rattle.tb_base.proofs.NumberFacts.{below_or_last}
use Rattle.transfer_pack.specs.PackedRows.{ArePacked}
use Rattle.transfer_pack.proofs.Ends.{last_one}

-- a row stays where it is when another comes behind
row_stays : (paths more : List Path) (a b : ℕ) → b ≤ length paths → a ≤ b → take (b - a) (drop a (paths ++ more)) ≡ take (b - a) (drop a paths)
row_stays paths more a b inside up =
    ap (take (b - a)) (drop-append-le a paths more (omega (arith, inside, up)))
    ∙ take-append-le (b - a) (drop a paths) more (omega (arith, inside, up, length-drop a paths))

-- and the new one stands behind all others
row_comes : (paths row : List Path) (a b : ℕ) → a ≡ length paths → b ≡ length paths + length row → take (b - a) (drop a (paths ++ row)) ≡ row
row_comes paths row a b from to =
    (λ i. take (count i) (drop (from i) (paths ++ row))) ∙ ap (take (length row)) (drop-append_seam paths row) ∙ take_all (length row) row (omega arith)
  where
    count : b - a ≡ length row
    count = omega (arith, from, to)

pub packed_more : (rows : List (List Path)) (n : ℕ) (bounds : List ℕ) (paths row : List Path) (end : ℕ) → ArePacked rows n bounds paths → get_or bounds n 0 ≡ length paths → row ≡ get_or rows n [] → end ≡ length paths + length row
    → ArePacked rows (n + 1) (bounds ++ end ∷ []) (paths ++ row)
packed_more rows n bounds paths row end are last is end_is = record {
  long = omega (arith, length-append bounds (end ∷ []), are.long);
  up = λ q below. elim (below_or_last q n (omega (arith, below))) [
    | inl h ↦ omega (arith, are.up q h, early q (omega (arith, h)), early (suc q) (omega (arith, h)))
    | inr e ↦ omega (arith, here q e, behind q e, end_is)
  ];
  inside = λ q below. elim (below_or_last q n (omega (arith, below))) [
    | inl h ↦ omega (arith, are.inside q h, early (suc q) (omega (arith, h)), length-append paths row)
    | inr e ↦ omega (arith, behind q e, end_is, length-append paths row)
  ];
  each = λ q below. elim (below_or_last q n (omega (arith, below))) [
    | inl h ↦
        (λ i. take (early (suc q) (omega (arith, h)) i - early q (omega (arith, h)) i) (drop (early q (omega (arith, h)) i) (paths ++ row)))
        ∙ row_stays paths row (get_or bounds q 0) (get_or bounds (suc q) 0) (are.inside q h) (are.up q h) ∙ are.each q h
    | inr e ↦ row_comes paths row _ _ (here q e) (behind q e ∙ end_is) ∙ is ∙ ap (λ k. get_or rows k []) (sym e)
  ];
}
  where
    early : (q : ℕ) → q < suc n → get_or (bounds ++ end ∷ []) q 0 ≡ get_or bounds q 0
    early q h = get_or_append_left bounds (end ∷ []) 0 q (omega (arith, h, are.long))

    here : (q : ℕ) → q ≡ n → get_or (bounds ++ end ∷ []) q 0 ≡ length paths
    here q e = early q (omega (arith, e)) ∙ ap (λ k. get_or bounds k 0) e ∙ last

    behind : (q : ℕ) → q ≡ n → get_or (bounds ++ end ∷ []) (suc q) 0 ≡ end
    behind q e = last_one bounds end 0 (suc q) (omega (arith, e, are.long))

pub last_more : (n : ℕ) (bounds : List ℕ) (paths row : List Path) (end : ℕ) → length bounds ≡ suc n → end ≡ length paths + length row → get_or (bounds ++ end ∷ []) (n + 1) 0 ≡ length (paths ++ row)
last_more n bounds paths row end long is = last_one bounds end 0 (n + 1) (omega (arith, long)) ∙ is ∙ sym (length-append paths row)
