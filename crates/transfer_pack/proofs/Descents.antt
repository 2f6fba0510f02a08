-- A trip's transfers by their events, the last event first.
use Rattle.std.proofs.Common.{◌≡◌, ◌≢◌, ◌∙◌, ℕ, suc, ◌+◌, ◌-◌, ◌<◌, ◌≤◌, ◌==◌, ◌⊎◌, inl, inr, List, [], ◌∷◌, ◌++◌, false, cond, length, map, get_or, take, drop, refl, sym, ap, subst, arith}
use Rattle.std.specs.Prelude.{All, filter}
use Rattle.std.specs.List.{AllWithin}
use Rattle.std.proofs.lemmas.Bool.Decides.{nat_tests}
use Rattle.std.proofs.lemmas.List.{append-nil, drop-drop, get_or-drop, get_or-take, get_or_default, length-drop, length-take-le, map-append, take-append-drop}
use Rattle.std.proofs.lemmas.List.Elements.{filter-append}
use Rattle.tb_base.specs.declared.transfer.Transfer.{Transfer}
use Rattle.tb_base.specs.OutSets.{hops_at}
use Rattle.tb_base.proofs.Listing.{hop_of}
use Rattle.tb_base.proofs.NumberFacts.{below_or_at, less_or_same}
use Rattle.transfer_pack.specs.Descending.{AreLeft, Descend}

-- a row descends so far, and with one transfer more
pub one_lower : (row : List Transfer) (k : ℕ) (e f : Transfer) → 1 ≤ k → k < length row → (get_or row k e).at ≤ (get_or row (k - 1) f).at → ((i j : ℕ) (d : Transfer) → i < j → j < k → (get_or row j d).at ≤ (get_or row i d).at)
    → (i j : ℕ) (d : Transfer) → i < j → j < k + 1 → (get_or row j d).at ≤ (get_or row i d).at
one_lower row k e f some inside lower so_far i j d order below = elim (below_or_at j k below) [
  | inl h ↦ so_far i j d order h
  | inr is ↦ subst (λ n. (get_or row n d).at ≤ (get_or row i d).at) (sym is) (last (omega (arith, order, is)))
]
  where
    here : (get_or row k d).at ≤ (get_or row (k - 1) d).at
    here = omega (arith, lower, ap (λ (r : Transfer). r.at) (get_or_default row k d e inside), ap (λ (r : Transfer). r.at) (get_or_default row (k - 1) d f (omega (arith, inside, some))))

    last : i < k → (get_or row k d).at ≤ (get_or row i d).at
    last h = elim (less_or_same i (k - 1) (omega (arith, h))) [
      | inl more ↦ omega (arith, here, so_far i (k - 1) d more (omega (arith, some)))
      | inr same ↦ subst (λ n. (get_or row k d).at ≤ (get_or row n d).at) (sym same) here
    ]

none_of : (row : List Transfer) (i : ℕ) → All (λ (r : Transfer). r.at ≢ i) row → hops_at row i ≡ []
none_of [] i all = refl
none_of (r ∷ row) i all =
    let other : r.at ≢ i = all 0 r (omega arith) in
    let test : (r.at == i) ≡ false = grind (arith, nat_tests, other) in
    ap (λ b. map hop_of (cond b (r ∷ filter (λ q. q.at == i) row) (filter (λ q. q.at == i) row))) test ∙ none_of row i (λ k d h. all (suc k) d (omega (arith, h)))

hops_of_both : (xs ys : List Transfer) (i : ℕ) → hops_at (xs ++ ys) i ≡ hops_at xs i ++ hops_at ys i
hops_of_both xs ys i = ap (map hop_of) (filter-append (λ q. q.at == i) xs ys) ∙ map-append hop_of (filter (λ q. q.at == i) xs) (filter (λ q. q.at == i) ys)

-- what is left of a row ends with a run of transfers from event i
module _ (row : List Transfer) (i first left : ℕ) (descends : Descend row) (are : AreLeft row i left) (order : first ≤ left) (here : AllWithin (λ (r : Transfer). r.at ≡ i) row first left) (before : 0 < first → (d : Transfer) → (get_or row (first - 1) d).at ≢ i) where
  later : (k : ℕ) (d : Transfer) → k < first → i + 1 ≤ (get_or row k d).at
  later k d below = elim (less_or_same k (first - 1) (omega (arith, below))) [
    | inl h ↦ omega (arith, top, descends k (first - 1) d h (omega (arith, below, order, are.within)))
    | inr same ↦ subst (λ n. i + 1 ≤ (get_or row n d).at) (sym same) top
  ]
    where
      top : i + 1 ≤ (get_or row (first - 1) d).at
      top = (let other : (get_or row (first - 1) d).at ≢ i = before (omega (arith, below)) d in omega (arith, other, are.from (first - 1) d (omega arith) (omega (arith, below, order))))

  -- what is left before the run
  pub left_before : AreLeft row (i + 1) first
  left_before = record {
    within = omega (arith, order, are.within);
    from = λ k d zero_k below. later k d below;
    earlier = λ k d from below. elim (below_or_past k) [
      | inl h ↦ omega (arith, here k d from h)
      | inr h ↦ omega (arith, are.earlier k d h below)
    ];
  }
    where
      below_or_past : (k : ℕ) → (k < left) ⊎ (left ≤ k)
      below_or_past k = grind arith

  -- the run has all hops from the event
  pub run_hops : (run : List Transfer) → run ≡ take (left - first) (drop first row) → hops_at run i ≡ hops_at row i
  run_hops run is = sym (
      ap (λ rs. hops_at rs i) parts
      ∙ hops_of_both (take first row) (run ++ drop left row) i
      ∙ ap (λ hs. hs ++ hops_at (run ++ drop left row) i) (none_of (take first row) i no_earlier)
      ∙ hops_of_both run (drop left row) i
      ∙ ap (λ hs. hops_at run i ++ hs) (none_of (drop left row) i none_behind)
      ∙ append-nil (hops_at run i)
      )
    where
      rest : drop first row ≡ run ++ drop left row
      rest = (let ends : first + (left - first) ≡ left = omega (arith, order) in
          sym (take-append-drop (left - first) (drop first row)) ∙ ap (λ xs. xs ++ drop (left - first) (drop first row)) (sym is)
          ∙ ap (λ xs. run ++ xs) (drop-drop (left - first) first row ∙ ap (λ n. drop n row) ends))

      parts : row ≡ take first row ++ (run ++ drop left row)
      parts = sym (take-append-drop first row) ∙ ap (λ xs. take first row ++ xs) rest

      no_earlier : All (λ (r : Transfer). r.at ≢ i) (take first row)
      no_earlier k d h e =
          let below : k < first = omega (arith, h, length-take-le first row (omega (arith, order, are.within))) in
          absurd (omega (arith, e, later k d below, ap (λ (r : Transfer). r.at) (get_or-take first row k d below)))

      none_behind : All (λ (r : Transfer). r.at ≢ i) (drop left row)
      none_behind k d h e =
          let below : left + k < length row = omega (arith, h, length-drop left row) in
          absurd (omega (arith, e, are.earlier (left + k) d (omega arith) below, ap (λ (r : Transfer). r.at) (get_or-drop left row k d)))

-- the whole row is left for event 0
pub all_left : (row : List Transfer) (n : ℕ) → n ≡ length row → AreLeft row 0 n
all_left row n is = record {
  within = omega (arith, is);
  from = λ k d zero_k below. omega arith;
  earlier = λ k d from below. absurd (omega (arith, is, from, below));
}
