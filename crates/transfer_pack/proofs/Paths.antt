-- Footpaths that lead back: each is found from the other end, and the rows are in order.
use Rattle.std.proofs.Common.{◌≡◌, ◌≢◌, ◌∙◌, sym, ap, subst, refl, ℕ, zero, suc, ◌+◌, ◌<◌, ◌≤◌, ◌==◌, ◌⊎◌, inl, inr, Bool, true, false, cond, List, [], ◌∷◌, ◌++◌, length, get_or, set, take, map, Option, Some, None, find, arith}
use Rattle.std.specs.Prelude.{AllPairs, filter, slice_get, sum_by}
use Rattle.std.specs.Option.{option_map, option_or}
use Rattle.std.proofs.lemmas.Bool.{cases_Bool, eq-eqb, ne_eqb}
use Rattle.std.proofs.lemmas.Bool.Decides.{nat_tests}
use Rattle.std.proofs.lemmas.List.{append_assoc, append-nil, get_or-set_other, get_or-set_same, length-append, map-append, take_more}
use Rattle.std.proofs.lemmas.List.Elements.{filter-append}
use Rattle.std.proofs.lemmas.List.Folds.{find-append}
use Rattle.std.proofs.lemmas.List.Sums.{sum_by-set, sum_by_more}
use Rattle.std.proofs.lemmas.Option.{get_or_from_slice_get, slice_get_within}
use Rattle.tb_base.specs.declared.table.Path.{Path}
use Rattle.tb_base.proofs.Members.{AllPairs-append, AllPairs-cons, Member-append, Member-filter_back, Member-map_back}
use Rattle.tb_base.proofs.NumberFacts.{below_or_last}
use Rattle.tb_base.proofs.Ordered.{AllPairs-head, AllPairs-tail, Contains-from_Member, Member}
use Rattle.transfer_pack.specs.TurnedPaths.{turned, turned_into}

-- a footpath from p, turned round
abbrev pub back : ℕ → Path → Path
back p f = record { to = p; secs = f.secs }

-- a footpath more that leaves p
turned_more : (p q : ℕ) (paths : List Path) (k : ℕ) (f : Path) → k < length paths → f ≡ get_or paths k f → turned p q (take (k + 1) paths) ≡ turned p q (take k paths) ++ turned p q (f ∷ [])
turned_more p q paths k f inside at =
    ap (turned p q) (take_more paths k f inside ∙ ap (λ x. take k paths ++ x ∷ []) (sym at))
    ∙ (ap (map (back p)) (filter-append (λ g. g.to == q) (take k paths) (f ∷ [])) ∙ map-append (back p) (filter (λ g. g.to == q) (take k paths)) (filter (λ g. g.to == q) (f ∷ [])))

pub path_added : (p : ℕ) (paths : List Path) (k : ℕ) (f : Path) (rows old new : List (List Path)) → k < length paths → f ≡ get_or paths k f → f.to < length rows
    → new ≡ set rows f.to (get_or rows f.to [] ++ back p f ∷ []) → ((q : ℕ) → get_or rows q [] ≡ get_or old q [] ++ turned p q (take k paths))
    → (q : ℕ) → get_or new q [] ≡ get_or old q [] ++ turned p q (take (k + 1) paths)
path_added p paths k f rows old new inside at below e so_far q =
    elim (cases_Bool (f.to == q)) [
      | inl t ↦
          let same : f.to ≡ q = grind (arith, nat_tests, t) in
          let here : get_or new q [] ≡ get_or rows q [] ++ back p f ∷ [] =
          subst (λ j. get_or new j [] ≡ get_or rows j [] ++ back p f ∷ []) same (rw e (get_or-set_same rows f.to (get_or rows f.to [] ++ back p f ∷ []) [] below)) in
          let one : turned p q (f ∷ []) ≡ back p f ∷ [] = rw t refl in
          here ∙ (ap (λ xs. xs ++ back p f ∷ []) (so_far q) ∙ (append_assoc (get_or old q []) (turned p q (take k paths)) (back p f ∷ [])
          ∙ ap (λ xs. get_or old q [] ++ xs) (sym (turned_more p q paths k f inside at ∙ ap (λ xs. turned p q (take k paths) ++ xs) one))))
      | inr t ↦
          let other : q ≢ f.to = (λ s. let u : (f.to == q) ≡ true = grind (arith, nat_tests, s) in let c : false ≡ true = sym t ∙ u in cc) in
          let here : get_or new q [] ≡ get_or rows q [] = rw e (get_or-set_other rows f.to q (get_or rows f.to [] ++ back p f ∷ []) [] other) in
          let none : turned p q (f ∷ []) ≡ [] = rw t refl in
          here ∙ (so_far q ∙ ap (λ xs. get_or old q [] ++ xs) (sym (turned_more p q paths k f inside at ∙ (ap (λ xs. turned p q (take k paths) ++ xs) none ∙ append-nil (turned p q (take k paths))))))
    ]

-- the footpaths of one more stop
pub into_more : (rows : List (List Path)) (q n : ℕ) (row : List Path) (old new : List Path) → row ≡ get_or rows n [] → old ≡ turned_into rows q n → new ≡ old ++ turned n q row → new ≡ turned_into rows q (n + 1)
into_more rows q n row old new at before after =
    let next : n + 1 ≡ suc n = omega arith in
    after ∙ (ap (λ xs. xs ++ turned n q row) before ∙ (ap (λ fs. turned_into rows q n ++ turned n q fs) at ∙ sym (ap (turned_into rows q) next)))

-- how many there are
pub total_added : (rows new : List (List Path)) (i : ℕ) (x : Path) → i < length rows → new ≡ set rows i (get_or rows i [] ++ x ∷ []) → sum_by (λ row. length {A = Path} row) new ≡ sum_by (λ row. length {A = Path} row) rows + 1
total_added rows new i x inside e =
    let one : length (get_or rows i [] ++ x ∷ []) ≡ length (get_or rows i []) + 1 = length-append (get_or rows i []) (x ∷ []) in
    let all = sum_by-set (λ row. length {A = Path} row) rows i (get_or rows i [] ++ x ∷ []) [] inside in
    ap (sum_by (λ row. length {A = Path} row)) e ∙ omega (arith, one, all)

pub total_more : (rows : List (List Path)) (p : ℕ) (row : List Path) (old new : ℕ) → slice_get rows p ≡ Some row → old ≡ sum_by (λ row. length {A = Path} row) (take p rows) → new ≡ old + length row
    → new ≡ sum_by (λ row. length {A = Path} row) (take (p + 1) rows)
total_more rows p row old new at before after =
    after ∙ (ap (λ n. n + length row) before
    ∙ sym (sum_by_more (λ row. length {A = Path} row) rows p [] (slice_get_within rows p row at) ∙ ap (λ fs. sum_by (λ row. length {A = Path} row) (take p rows) + length {A = Path} fs) (get_or_from_slice_get rows p row [] at)))

-- where they come from
turned_to : (n q : ℕ) (row : List Path) (f : Path) → Member f (turned n q row) → (g : Path) × Member g row × (g.to ≡ q) × (f ≡ back n g)
turned_to n q row f h =
    let r : (g : Path) × Member g (filter (λ g. g.to == q) row) × (back n g ≡ f) = Member-map_back (back n) f (filter (λ g. g.to == q) row) h in
    let s : Member r.0 row × ((r.0.to == q) ≡ true) = Member-filter_back (λ g. g.to == q) r.0 row r.1 in
    let same : r.0.to ≡ q = grind (arith, nat_tests, s.1) in
    (r.0, s.0, same, sym r.2)

pub into_from : (rows : List (List Path)) (q n : ℕ) (f : Path) → Member f (turned_into rows q n) → (f.to < n) × ((g : Path) × Member g (get_or rows f.to []) × (g.to ≡ q) × (f.secs ≡ g.secs))
into_from rows q zero f h = absurd h
into_from rows q (suc n) f h = elim (Member-append f (turned_into rows q n) (turned n q (get_or rows n [])) h) [
  | inl k ↦ let r = into_from rows q n f k in (omega (arith, r.0), r.1)
  | inr k ↦
      let r : (g : Path) × Member g (get_or rows n []) × (g.to ≡ q) × (f ≡ back n g) = turned_to n q (get_or rows n []) f k in
      let at : f.to ≡ n = ap (λ (x : Path). x.to) r.3 in
      (omega (arith, at), (r.0, subst (λ m. Member r.0 (get_or rows m [])) (sym at) r.1, r.2, ap (λ (x : Path). x.secs) r.3))
]

-- they are in order
turned_ascends : (n q : ℕ) (row : List Path) → AllPairs (λ (f g : Path). f.to < g.to) row → AllPairs (λ (f g : Path). f.to < g.to) (turned n q row)
turned_ascends n q [] up = λ i j d before inside. absurd (omega (arith, inside))
turned_ascends n q (f ∷ fs) up = by_test (turned_ascends n q fs (AllPairs-tail (λ (g h : Path). g.to < h.to) f fs up)) (f.to == q) refl
  where
    alone : f.to ≡ q → (g : Path) → Member g (turned n q fs) → (back n f).to < g.to
    alone same g h =
        let r : (x : Path) × Member x fs × (x.to ≡ q) × (g ≡ back n x) = turned_to n q fs g h in
        let after : f.to < r.0.to = AllPairs-head (λ (a b : Path). a.to < b.to) f fs up r.0 (Contains-from_Member r.0 fs r.1) in
        absurd (omega (arith, after, same, r.2))

    by_test : AllPairs (λ (g h : Path). g.to < h.to) (turned n q fs) → (b : Bool) → b ≡ (f.to == q) → AllPairs (λ (g h : Path). g.to < h.to) (map (back n) (cond b (f ∷ filter (λ g. g.to == q) fs) (filter (λ g. g.to == q) fs)))
    by_test rest true e =
        let same : f.to ≡ q = grind (arith, nat_tests, e) in
        AllPairs-cons (λ (g h : Path). g.to < h.to) (back n f) (turned n q fs) (alone same) rest
    by_test rest false e = rest

pub into_ascends : (rows : List (List Path)) (q n : ℕ) → ((p : ℕ) → AllPairs (λ (f g : Path). f.to < g.to) (get_or rows p [])) → AllPairs (λ (f g : Path). f.to < g.to) (turned_into rows q n)
into_ascends rows q zero up = λ i j d before inside. absurd (omega (arith, inside))
into_ascends rows q (suc n) up =
    AllPairs-append (λ (f g : Path). f.to < g.to) (turned_into rows q n) (turned n q (get_or rows n [])) (into_ascends rows q n up) (turned_ascends n q (get_or rows n []) (up n))
    (λ f g h k.
    let from : f.to < n = (into_from rows q n f h).0 in
    let r : (x : Path) × Member x (get_or rows n []) × (x.to ≡ q) × (g ≡ back n x) = turned_to n q (get_or rows n []) g k in
    let at : g.to ≡ n = ap (λ (x : Path). x.to) r.3 in
    omega (arith, from, at))

-- the seconds of the footpath from p to q, by the rows
abbrev pub secs_in : List (List Path) → ℕ → ℕ → Option ℕ
secs_in rows p q = option_map (λ (f : Path). f.secs) (find (λ (f : Path). f.to == q) (get_or rows p []))

turned_apart : (n p q : ℕ) (row : List Path) → n ≢ p → find (λ (g : Path). g.to == p) (turned n q row) ≡ None
turned_apart n p q [] other = refl
turned_apart n p q (f ∷ fs) other =
    elim (f.to == q) as (λ b. find (λ (g : Path). g.to == p) (map (back n) (cond b (f ∷ filter (λ g. g.to == q) fs) (filter (λ g. g.to == q) fs))) ≡ None) [
      | true ↦ ap (λ c. cond c (Some (back n f)) (find (λ (g : Path). g.to == p) (turned n q fs))) (ne_eqb n p other) ∙ turned_apart n p q fs other
      | false ↦ turned_apart n p q fs other
    ]

turned_here : (n q : ℕ) (row : List Path) → option_map (λ (f : Path). f.secs) (find (λ (g : Path). g.to == n) (turned n q row)) ≡ option_map (λ (f : Path). f.secs) (find (λ (f : Path). f.to == q) row)
turned_here n q [] = refl
turned_here n q (f ∷ fs) =
    elim (f.to == q) as (λ b. option_map (λ (f : Path). f.secs) (find (λ (g : Path). g.to == n) (map (back n) (cond b (f ∷ filter (λ g. g.to == q) fs) (filter (λ g. g.to == q) fs))))
    ≡ option_map (λ (f : Path). f.secs) (cond b (Some f) (find (λ (f : Path). f.to == q) fs))) [
      | true ↦ ap (λ c. option_map (λ (f : Path). f.secs) (cond c (Some (back n f)) (find (λ (g : Path). g.to == n) (turned n q fs)))) (eq-eqb n n refl)
      | false ↦ turned_here n q fs
    ]

pub into_none : (rows : List (List Path)) (q p n : ℕ) → n ≤ p → find (λ (g : Path). g.to == p) (turned_into rows q n) ≡ None
into_none rows q p zero past = refl
into_none rows q p (suc n) past =
    find-append (λ (g : Path). g.to == p) (turned_into rows q n) (turned n q (get_or rows n []))
    ∙ (ap (λ o. option_or o (find (λ (g : Path). g.to == p) (turned n q (get_or rows n [])))) (into_none rows q p n (omega (arith, past)))
    ∙ turned_apart n p q (get_or rows n []) (λ e. absurd (omega (arith, e, past))))

or_none : {X : Type 0} (o : Option X) → option_or o None ≡ o
or_none None = refl
or_none (Some x) = refl

pub into_found : (rows : List (List Path)) (q p n : ℕ) → p < n → option_map (λ (f : Path). f.secs) (find (λ (g : Path). g.to == p) (turned_into rows q n)) ≡ secs_in rows p q
into_found rows q p zero inside = absurd (omega (arith, inside))
into_found rows q p (suc n) inside =
    ap (option_map (λ (f : Path). f.secs)) (find-append (λ (g : Path). g.to == p) (turned_into rows q n) (turned n q (get_or rows n []))) ∙ by_place (into_found rows q p n) (below_or_last p n inside)
  where
    by_place : (p < n → option_map (λ (f : Path). f.secs) (find (λ (g : Path). g.to == p) (turned_into rows q n)) ≡ secs_in rows p q) → (p < n) ⊎ (p ≡ n) → option_map (λ (f : Path). f.secs) (option_or (find (λ (g : Path). g.to == p) (turned_into rows q n)) (find (λ (g : Path). g.to == p) (turned n q (get_or rows n [])))) ≡ secs_in rows p q
    by_place more (inl below) =
        ap (λ o. option_map (λ (f : Path). f.secs) (option_or (find (λ (g : Path). g.to == p) (turned_into rows q n)) o)) (turned_apart n p q (get_or rows n []) (λ e. absurd (omega (arith, e, below))))
        ∙ (ap (option_map (λ (f : Path). f.secs)) (or_none (find (λ (g : Path). g.to == p) (turned_into rows q n))) ∙ more below)
    by_place more (inr at) =
        ap (λ o. option_map (λ (f : Path). f.secs) (option_or o (find (λ (g : Path). g.to == p) (turned n q (get_or rows n []))))) (into_none rows q p n (omega (arith, at)))
        ∙ subst (λ k. option_map (λ (f : Path). f.secs) (find (λ (g : Path). g.to == k) (turned n q (get_or rows n []))) ≡ secs_in rows k q) (sym at) (turned_here n q (get_or rows n []))
