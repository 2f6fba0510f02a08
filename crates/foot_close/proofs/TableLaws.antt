-- What is read off the stops that were reached.
use Rattle.std.proofs.Common.{◌≡◌, ◌≢◌, ◌∙◌, sym, ap, subst, refl, ℕ, ◌+◌, ◌<◌, ◌≤◌, List, [], ◌∷◌, ◌++◌, length, get_or, map, take, drop, Bool, true, false, Option, Some, None, find, arith, inl, inr}
use Rattle.std.specs.Prelude.{◌==◌, All, filter_map, count_by, sum_by, IfSome, nat_lt}
use Rattle.std.specs.Option.{option_map}
use Rattle.std.proofs.lemmas.Bool.{cases_Bool, cases_lt}
use Rattle.std.proofs.lemmas.Bool.Decides.{nat_tests}
use Rattle.std.proofs.lemmas.List.{length-append, append-nil, get_or-map, length-map, take_all, map-append}
use Rattle.std.proofs.lemmas.List.FromFn.{map-range_with_len_more, length-range_with_len, get_or-map-range_with_len, length-map-range_with_len}
use Rattle.std.proofs.lemmas.List.Sums.{sum_by-append, sum_by-cons, count_by-le-length}
use Rattle.std.proofs.Math.ListN.{drop_of_length-le}
use Rattle.footpaths.specs.Footpaths.{path_to, numbers, paths_from}
use Rattle.tb_base.specs.TimetableData.{FootpathData}
use Rattle.tb_base.specs.Walking.{change_between}
use Rattle.tb_base.specs.Soundness.{IsSoundFootpaths}
use Rattle.footpaths.proofs.NumberLists.{numbers_more}
use Rattle.foot_close.specs.declared.search.Reached.{Reached}
use Rattle.foot_close.specs.Shortest.{closure_of}
use Rattle.foot_close.specs.Tables.{path_of, reached_from}
use Rattle.foot_close.specs.Closing.{is_added, is_lowered, IsNear, IsFirstFar}
use Rattle.foot_close.proofs.ReachedLaws.{filter_more}
use Rattle.foot_close.proofs.Ranges.{over_reached, count_reached, reached_length, own_reached, IsFirstIn, far_range, reached_secs, find_here}
use Rattle.foot_close.proofs.ClosedLaws.{none_past}

pub path_there : (p : ℕ) (r : Reached) → p ≢ Reached.stop r → path_of p r ≡ Some (record { to = Reached.stop r; secs = Reached.secs r })
path_there p r apart = (let fails : (p == Reached.stop r) ≡ false = grind (arith, nat_tests, apart) in rw fails refl)

pub path_not : (p : ℕ) (r : Reached) → p ≡ Reached.stop r → path_of p r ≡ None
path_not p r same = (let passes : (p == Reached.stop r) ≡ true = grind (arith, nat_tests, same) in rw passes refl)

-- how many are made of the first elements of a list, one more
pub length_some : {A X : Type 0} (h : A → Option X) (xs : List A) (i : ℕ) (x : A) (y : X) → i < length xs → x ≡ get_or xs i x → h x ≡ Some y → length (filter_map h (take (i + 1) xs)) ≡ length (filter_map h (take i xs)) + 1
length_some h xs i x y below at e =
    ap length (sym (filter_more h xs i x x (filter_map h (take i xs)) (filter_map h (take i xs) ++ y ∷ []) (Some y) below at refl e refl)) ∙ length-append (filter_map h (take i xs)) (y ∷ [])

pub length_none : {A X : Type 0} (h : A → Option X) (xs : List A) (i : ℕ) (x : A) → i < length xs → x ≡ get_or xs i x → h x ≡ None → length (filter_map h (take (i + 1) xs)) ≡ length (filter_map h (take i xs))
length_none h xs i x below at e =
    ap length (sym (filter_more h xs i x x (filter_map h (take i xs)) (filter_map h (take i xs) ++ []) None below at refl e refl)) ∙ ap length (append-nil (filter_map h (take i xs)))

-- the footpaths to the stops that were reached are the closure's
pub row_paths : (P : FootpathData) (p : ℕ) → filter_map (path_of p) (reached_from P p) ≡ paths_from (length P.change) (closure_of P) p
row_paths P p = over_reached (closure_of P p) (path_to p) (none p) (numbers (length P.change))
  where
    none : (p q : ℕ) → path_to p q None ≡ None
    none p q = elim (cases_Bool (p == q)) [ inl t ↦ rw t refl | inr f ↦ rw f refl ]

pub row_length : (P : FootpathData) (p : ℕ) → length (reached_from P p) ≤ length P.change
row_length P p = (let l = reached_length (closure_of P p) (numbers (length P.change)) in omega (arith, l, length-range_with_len 0 (length P.change)))

pub row_change : (P : FootpathData) (p : ℕ) → p < length P.change → option_map Reached.secs (find (λ r. Reached.stop r == p) (reached_from P p)) ≡ closure_of P p p
row_change P p h = own_reached (closure_of P p) (length P.change) p h

pub row_added : (P : FootpathData) (p : ℕ) → count_by (λ r. is_added (change_between P p (Reached.stop r)) (Some (Reached.secs r))) (reached_from P p) ≡ count_by (λ q. is_added (change_between P p q) (closure_of P p q)) (numbers (length P.change))
row_added P p = count_reached (closure_of P p) (λ q o. is_added (change_between P p q) o) (λ q. none (change_between P p q)) (numbers (length P.change))
  where
    none : (o : Option ℕ) → is_added o None ≡ false
    none None = refl
    none (Some s) = refl

pub row_lowered : (P : FootpathData) (p : ℕ) → count_by (λ r. is_lowered (change_between P p (Reached.stop r)) (Some (Reached.secs r))) (reached_from P p) ≡ count_by (λ q. is_lowered (change_between P p q) (closure_of P p q)) (numbers (length P.change))
row_lowered P p = count_reached (closure_of P p) (λ q o. is_lowered (change_between P p q) o) (λ q. none (change_between P p q)) (numbers (length P.change))
  where
    none : (o : Option ℕ) → is_lowered o None ≡ false
    none None = refl
    none (Some s) = refl

-- a sum over the first numbers, one more
pub sum_numbers_more : (f : ℕ → ℕ) (k : ℕ) → sum_by f (numbers (k + 1)) ≡ sum_by f (numbers k) + f k
sum_numbers_more f k = ap (sum_by f) (numbers_more k) ∙ (sum_by-append f (numbers k) (k ∷ []) ∙ (let e : sum_by f (numbers k) + sum_by f (k ∷ []) ≡ sum_by f (numbers k) + f k = omega (arith, sum_by-cons f k []) in e))

pub count_numbers : (t : ℕ → Bool) (n : ℕ) → count_by t (numbers n) ≤ n
count_numbers t n = omega (arith, count_by-le-length t (numbers n), length-range_with_len 0 n)

-- a stop without a far one
pub near_row : (P : FootpathData) (p : ℕ) → IsSoundFootpaths P → option_map Reached.stop (find (λ r. nat_lt 86400 (Reached.secs r)) (reached_from P p)) ≡ None → (q : ℕ) → IsNear (closure_of P) p q
near_row P p sound e q =
    let h : (b : ℕ) → 0 ≤ b → b < 0 + length P.change → IfSome (closure_of P p b) (λ secs. secs ≤ 86400) = rw e at (far_range (closure_of P p) (length P.change) 0) in
    elim (cases_lt q (length P.change)) [
      | inl l ↦ h q (omega arith) (omega (arith, l))
      | inr l ↦ (let n : closure_of P p q ≡ None = none_past P p q sound (inr l) in subst (λ o. IfSome o (λ secs. secs ≤ 86400)) (sym n) tt)
    ]

-- the first far stop
pub far_row : (P : FootpathData) (p q : ℕ) → option_map Reached.stop (find (λ r. nat_lt 86400 (Reached.secs r)) (reached_from P p)) ≡ Some q → ((a b : ℕ) → a < p → IsNear (closure_of P) a b) → IsFirstFar (closure_of P) p q
far_row P p q e earlier =
    let h : IsFirstIn (closure_of P p) 0 q = rw e at (far_range (closure_of P p) (length P.change) 0) in
    record { far = h.far; earlier_start = earlier; earlier_end = λ b l. h.earlier b (omega arith) l }

-- a stop that was reached is near, where all are
pub near_secs : (P : FootpathData) (p i : ℕ) (r : Reached) (row : List Reached) → row ≡ reached_from P p → i < length row → r ≡ get_or row i r → ((q : ℕ) → IsNear (closure_of P) p q) → Reached.secs r ≤ 86400
near_secs P p i r row is below at near =
    let all : All (λ r. closure_of P p (Reached.stop r) ≡ Some (Reached.secs r)) row = subst (λ rs. All (λ r. closure_of P p (Reached.stop r) ≡ Some (Reached.secs r)) rs) (sym is) (reached_secs (closure_of P p) (numbers (length P.change))) in
    let here : closure_of P p (Reached.stop r) ≡ Some (Reached.secs r) = subst (λ x. closure_of P p (Reached.stop x) ≡ Some (Reached.secs x)) (sym at) (all i r below) in
    let day : IfSome (Some (Reached.secs r)) (λ secs. secs ≤ 86400) = subst (λ o. IfSome o (λ secs. secs ≤ 86400)) here (near (Reached.stop r)) in
    day

-- the row of a stop among all rows
pub row_at : {V : Type 0} (items : V → List Reached) (P : FootpathData) (rows : List V) (p : ℕ) (v : V) → map items rows ≡ map (reached_from P) (numbers (length P.change)) → p < length P.change → v ≡ get_or rows p v → items v ≡ reached_from P p
row_at items P rows p v is inside at =
    let many : length rows ≡ length P.change = sym (length-map rows items) ∙ (ap length is ∙ length-map-range_with_len (reached_from P) 0 (length P.change)) in
    let there : get_or (map items rows) p [] ≡ items v = get_or-map items rows p v [] (omega (arith, inside, many)) ∙ ap items (sym at) in
    let here : get_or (map (reached_from P) (numbers (length P.change))) p [] ≡ reached_from P p = get_or-map-range_with_len (reached_from P) 0 (length P.change) p p [] inside (omega arith) in
    sym there ∙ (ap (λ rs. get_or rs p []) is ∙ here)

pub rows_count : {V : Type 0} (items : V → List Reached) (P : FootpathData) (rows : List V) → map items rows ≡ map (reached_from P) (numbers (length P.change)) → length rows ≡ length P.change
rows_count items P rows is = sym (length-map rows items) ∙ (ap length is ∙ length-map-range_with_len (reached_from P) 0 (length P.change))

pub near_past : (P : FootpathData) (p q : ℕ) → IsSoundFootpaths P → length P.change ≤ p → IsNear (closure_of P) p q
near_past P p q sound past = (let n : closure_of P p q ≡ None = none_past P p q sound (inl past) in subst (λ o. IfSome o (λ secs. secs ≤ 86400)) (sym n) tt)

-- the first stops' own seconds: found at a place, or nowhere
pub own_found : (P : FootpathData) (p i : ℕ) (r : Reached) (row : List Reached) → row ≡ reached_from P p → p < length P.change → i < length row → r ≡ get_or row i r → Reached.stop r ≡ p
    → find (λ r. Reached.stop r == p) (reached_from P p) ≡ find (λ r. Reached.stop r == p) (drop i (reached_from P p)) → Some (Reached.secs r) ≡ closure_of P p p
own_found P p i r row is inside below at same so_far =
    let passes : (Reached.stop r == p) ≡ true = grind (arith, nat_tests, same) in
    let here : find (λ r. Reached.stop r == p) (drop i (reached_from P p)) ≡ Some r = find_here (λ r. Reached.stop r == p) (reached_from P p) i r (omega (arith, below, ap length is)) (at ∙ ap (λ rs. get_or rs i r) is) passes in
    sym (sym (row_change P p inside) ∙ ap (option_map Reached.secs) (so_far ∙ here))

pub own_none : (P : FootpathData) (p i : ℕ) (row : List Reached) → row ≡ reached_from P p → p < length P.change → length row ≤ i → find (λ r. Reached.stop r == p) (reached_from P p) ≡ find (λ r. Reached.stop r == p) (drop i (reached_from P p)) → None ≡ closure_of P p p
own_none P p i row is inside end so_far =
    let nothing : drop i (reached_from P p) ≡ [] = drop_of_length-le (reached_from P p) (omega (arith, end, ap length is)) in
    sym (sym (row_change P p inside) ∙ ap (option_map Reached.secs) (so_far ∙ ap (find (λ r. Reached.stop r == p)) nothing))

-- what was made of all that was reached
pub whole_row : (P : FootpathData) (p i : ℕ) (row : List Reached) → row ≡ reached_from P p → length row ≤ i → take i (reached_from P p) ≡ reached_from P p
whole_row P p i row is end = take_all i (reached_from P p) (omega (arith, end, ap length is))

-- a list made for the first numbers, one more
pub numbers_push : {X : Type 0} (f : ℕ → X) (xs new : List X) (x : X) (k : ℕ) → xs ≡ map f (numbers k) → new ≡ xs ++ x ∷ [] → x ≡ f k → new ≡ map f (numbers (k + 1))
numbers_push f xs new x k so_far e is = e ∙ (ap (λ ys. ys ++ x ∷ []) so_far ∙ (ap (λ y. map f (numbers k) ++ y ∷ []) is ∙ sym (map-range_with_len_more f 0 k k (omega arith))))

pub rows_push : {V X : Type 0} (items : V → X) (f : ℕ → X) (rows new : List V) (v : V) (k : ℕ) → map items rows ≡ map f (numbers k) → new ≡ rows ++ v ∷ [] → items v ≡ f k → map items new ≡ map f (numbers (k + 1))
rows_push items f rows new v k so_far e is = numbers_push f (map items rows) (map items new) (items v) k so_far (ap (map items) e ∙ map-append items rows (v ∷ [])) is
