-- A row of stops.txt lacks its parent in its turn.
use Rattle.std.proofs.Common.{◌≡◌, ◌≢◌, ◌∙◌, refl, sym, ap, ℕ, suc, ◌+◌, ◌-◌, ◌<◌, ◌≤◌, ◌==◌, ◌&&◌, ◌||◌, min, List, [], ◌∷◌, ◌++◌, length, map, take, get_or, cond, Bool, true, false, arith, inl, inr}
use Rattle.std.specs.Prelude.{All, None, Some, bytes_eq, filter, not, nat_le, nat_lt, position}
use Rattle.std.specs.List.{list_any, position_or_len}
use Rattle.std.proofs.lemmas.Bool.{cases_Bool, or_right}
use Rattle.std.proofs.lemmas.Bool.Decides.{nat_tests}
use Rattle.std.proofs.lemmas.List.{length-append, length-map, get_or_at, get_or_append_left, get_or-append_right, get_or-map, get_or_default, map_more}
use Rattle.std.proofs.lemmas.List.Elements.{All-append, All-map, All-cons, All-nil, filter_agree}
use Rattle.std.proofs.lemmas.List.Folds.{list_any-append}
use Rattle.std.proofs.lemmas.List.Sums.{prefix_len-le-length}
use Rattle.std.proofs.lemmas.Slice.Eq.{bytes_eq-Decides}
use Rattle.gtfs_rows.specs.StopsFile.{StopData}
use Rattle.gtfs_rows.specs.TransfersFile.{is_filled}
use Rattle.footpaths.specs.Stops.{stop_id, has_stop_id, lacks_parent}
use Rattle.footpaths.proofs.StopPlaces.{none_kept}
use Rattle.trip_table.specs.Turns.{base_of, bases_of, steps_to, turn_of, is_there}
use Rattle.trip_table.proofs.StopsRight.{IsApart}
use Rattle.trip_table.proofs.WalkSteps.{steps_held, steps_last, steps_min}

-- the places of bases
pub long_bases : (rows : List StopData) → length (bases_of rows) ≡ length rows + 2
long_bases rows =
    let bases = map (base_of (map stop_id rows)) rows in
    omega (arith, length-append bases (length rows ∷ suc (length rows) ∷ []), length-map rows (base_of (map stop_id rows)))

pub last_base : (rows : List StopData) → get_or (bases_of rows) (length rows) 0 ≡ length rows
last_base rows = get_or_at (map (base_of (map stop_id rows)) rows) (length rows) (suc (length rows) ∷ []) 0 (length rows) (length-map rows (base_of (map stop_id rows)))

held_base : (rows : List StopData) → get_or (bases_of rows) (suc (length rows)) 0 ≡ suc (length rows)
held_base rows =
    let one : suc (length rows) - length rows ≡ 1 = omega arith in
    get_or-append_right (map (base_of (map stop_id rows)) rows) (length rows ∷ suc (length rows) ∷ []) (length rows) (suc (length rows)) 0 (length-map rows (base_of (map stop_id rows))) (omega arith)
    ∙ ap (λ n. get_or (length rows ∷ suc (length rows) ∷ []) n 0) one

pub row_base : (rows : List StopData) (i : ℕ) (d : StopData) → i < length rows → get_or (bases_of rows) i 0 ≡ base_of (map stop_id rows) (get_or rows i d)
row_base rows i d lt =
    let long = length-map rows (base_of (map stop_id rows)) in
    get_or_append_left (map (base_of (map stop_id rows)) rows) (length rows ∷ suc (length rows) ∷ []) 0 i (omega (arith, long)) ∙ get_or-map (base_of (map stop_id rows)) rows i d 0 lt

pub base_within : (ids : List (List ℕ)) (s : StopData) → base_of ids s < length ids + 2
base_within ids s =
    let most = prefix_len-le-length (λ (id : List ℕ). not (bytes_eq s.parent id)) ids in
    elim (cases_Bool (is_filled s.parent)) [
      | inl t ↦ rw t (omega (arith, most))
      | inr f ↦ rw f (omega arith)
    ]

pub bases_within : (rows : List StopData) → All (λ place. place < length (bases_of rows)) (bases_of rows)
bases_within rows =
    let ids = map stop_id rows in
    let long = long_bases rows in
    let as_many = length-map rows stop_id in
    let n = length rows in
    let Below : ℕ → Type 0 = λ place. place < length (bases_of rows) in
    All-append Below (map (base_of ids) rows) (n ∷ suc n ∷ []) (All-map Below (base_of ids) rows (λ k d lt. let h = base_within ids (get_or rows k d) in omega (arith, h, long, as_many)))
    (All-cons Below n (suc n ∷ []) (omega (arith, long)) (All-cons Below (suc n) [] (omega (arith, long)) (All-nil Below)))

-- the first row that has an id
first_is : (StopData → Bool) → List ℕ → List StopData → Bool
first_is q id [] = false
first_is q id (s ∷ rest) = cond (has_stop_id id s) (q s) (first_is q id rest)

by_place : (q : StopData → Bool) (id : List ℕ) (rows : List StopData) (v : ℕ → Bool) → ((i : ℕ) (d : StopData) → i < length rows → q (get_or rows i d) ≡ v i) → v (length rows) ≡ false → first_is q id rows ≡ v (position_or_len (bytes_eq id) (map stop_id rows))
unfolding first_is
by_place q id [] v each last = sym last
by_place q id (s ∷ rest) v each last =
    let place = position_or_len (bytes_eq id) (map stop_id rest) in
    let more : suc place ≡ 1 + place = omega arith in
    elim (cases_Bool (bytes_eq id s.id)) [
      | inl t ↦ rw t (each 0 s (omega arith))
      | inr f ↦ rw f (by_place q id rest (λ i. v (suc i)) (λ i d lt. each (suc i) d (omega (arith, lt))) last ∙ ap v more)
    ]

any_cond : (p : StopData → Bool) (s : StopData) (kept : List StopData) (b : Bool) → list_any p (cond b (s ∷ kept) kept) ≡ ((b && p s) || list_any p kept)
any_cond p s kept true = refl
any_cond p s kept false = refl

-- later rows have other ids
other_ids : (id : List ℕ) (earlier rows : List StopData) → IsApart earlier rows → list_any (has_stop_id id) earlier ≡ true → list_any (has_stop_id id) rows ≡ false
unfolding IsApart
other_ids id earlier [] h e = refl
other_ids id earlier (r ∷ rest) h e =
    let later = other_ids id (earlier ++ r ∷ []) rest h.1 (list_any-append (has_stop_id id) earlier (r ∷ []) ∙ ap (λ b. b || list_any (has_stop_id id) (r ∷ [])) e) in
    elim (cases_Bool (bytes_eq id r.id)) [
      | inl t ↦
          let same : id ≡ r.id = (bytes_eq-Decides id r.id).0 t in
          let no : list_any (has_stop_id id) earlier ≡ false = ap (λ (i : List ℕ). list_any (has_stop_id i) earlier) same ∙ h.0 in
          absurd (cc)
      | inr f ↦ rw f later
    ]

-- of rows whose ids differ one that has an id is kept if the first one is
any_kept : (q : StopData → Bool) (id : List ℕ) (earlier rows : List StopData) → IsApart earlier rows → list_any (has_stop_id id) (filter q rows) ≡ first_is q id rows
unfolding IsApart first_is
any_kept q id earlier [] h = refl
any_kept q id earlier (s ∷ rest) h =
    any_cond (has_stop_id id) s (filter q rest) (q s)
    ∙ elim (cases_Bool (bytes_eq id s.id)) [
      | inl t ↦
          let here : list_any (has_stop_id id) (earlier ++ s ∷ []) ≡ true = list_any-append (has_stop_id id) earlier (s ∷ []) ∙ ap (λ b. list_any (has_stop_id id) earlier || (b || false)) t ∙ or_right (list_any (has_stop_id id) earlier) true refl in
          let none = none_kept (has_stop_id id) q rest (other_ids id (earlier ++ s ∷ []) rest h.1 here) in
          rw (t, none) (last (q s))
      | inr f ↦ rw f (not_here (q s) (list_any (has_stop_id id) (filter q rest)) ∙ any_kept q id (earlier ++ s ∷ []) rest h.1)
    ]
  where
    last : (b : Bool) → ((b && true) || false) ≡ b
    last true = refl
    last false = refl

    not_here : (b c : Bool) → ((b && false) || c) ≡ c
    not_here true c = refl
    not_here false c = refl

-- a row is there while its place is farther from the last one
cut : (k m turn steps n : ℕ) → k < n → n ≡ suc m → steps ≡ suc (min m turn) → nat_le k turn ≡ nat_lt k steps
cut k m turn steps n below e is = grind (arith, nat_tests)

there_at : (rows : List StopData) (k i : ℕ) (d : StopData) → k < length rows → i < length rows → is_there rows k (get_or rows i d) ≡ nat_lt k (steps_to (bases_of rows) (length rows) (length rows) i)
there_at rows k i d below lt =
    let n = length rows in
    let m = n - 1 in
    let bases = bases_of rows in
    let s = get_or rows i d in
    let base = base_of (map stop_id rows) s in
    let e : n ≡ suc m = omega (arith, lt) in
    let f : (i == n) ≡ false = grind (arith, nat_tests, lt) in
    let more : m + 1 ≡ n = omega (arith, lt) in
    let first : steps_to bases n n i ≡ suc (steps_to bases n m (get_or bases i 0)) = ap (λ most. steps_to bases n most i) e ∙ ap (λ b. cond b 0 (suc (steps_to bases n m (get_or bases i 0)))) f in
    let next : steps_to bases n m (get_or bases i 0) ≡ min m (turn_of rows s) = ap (steps_to bases n m) (row_base rows i d lt) ∙ steps_min bases n m 1 base ∙ ap (λ most. min m (steps_to bases n most base)) more in
    cut k m (turn_of rows s) (steps_to bases n n i) n below e (first ∙ ap suc next)

-- what isn't above isn't below
opposite : (k t : ℕ) → not (nat_lt k t) ≡ nat_le t k
opposite k t = grind (arith, nat_tests)

never : (k n t : ℕ) → k < n → t ≡ n → false ≡ nat_le t k
never k n t h e = grind (arith, nat_tests)

-- among the rows that are there in a turn one lacks its parent if that is its turn, or was
lacks_by : (rows : List StopData) (k : ℕ) (s : StopData) → IsApart [] rows → k < length rows → lacks_parent (filter (is_there rows k) rows) s ≡ nat_le (turn_of rows s) k
lacks_by rows k s apart below =
    let n = length rows in
    let bases = bases_of rows in
    let ids = map stop_id rows in
    elim (cases_Bool (is_filled s.parent)) [
      | inl t ↦
          let place = position_or_len (bytes_eq s.parent) ids in
          let base : base_of ids s ≡ place = ap (λ b. cond b place (suc (length ids))) t in
          let none : nat_lt k (steps_to bases n n n) ≡ false = ap (nat_lt k) (steps_last bases n n) ∙ none_below k in
          let there : list_any (has_stop_id s.parent) (filter (is_there rows k) rows) ≡ nat_lt k (steps_to bases n n place) = any_kept (is_there rows k) s.parent [] rows apart
          ∙ by_place (is_there rows k) s.parent rows (λ i. nat_lt k (steps_to bases n n i)) (λ i d lt. there_at rows k i d below lt) none in
          ap (λ b. b && not (list_any (has_stop_id s.parent) (filter (is_there rows k) rows))) t ∙ ap not there ∙ opposite k (steps_to bases n n place) ∙ ap (λ b. nat_le (steps_to bases n n b) k) (sym base)
      | inr f ↦
          let base : base_of ids s ≡ suc (length ids) = ap (λ b. cond b (position_or_len (bytes_eq s.parent) ids) (suc (length ids))) f in
          let held : base_of ids s ≡ suc n = base ∙ ap suc (length-map rows stop_id) in
          let other : suc n ≢ n = (λ e. absurd (omega (arith, e))) in
          let turn : turn_of rows s ≡ n = ap (steps_to bases n n) held ∙ steps_held bases n (suc n) n (held_base rows) other in
          ap (λ b. b && not (list_any (has_stop_id s.parent) (filter (is_there rows k) rows))) f ∙ never k n (turn_of rows s) below turn
    ]
  where
    none_below : (k : ℕ) → nat_lt k 0 ≡ false
    none_below k = grind (arith, nat_tests)

filter_twice : (p q : StopData → Bool) (rows : List StopData) → filter p (filter q rows) ≡ filter (λ s. q s && p s) rows
filter_twice p q [] = refl
filter_twice p q (s ∷ rest) =
    elim (cases_Bool (q s)) [
      | inl t ↦ rw t (ap (λ kept. cond (p s) (s ∷ kept) kept) (filter_twice p q rest))
      | inr f ↦ rw f (filter_twice p q rest)
    ]

still : (k t : ℕ) → (nat_le k t && not (nat_le t k)) ≡ nat_le (k + 1) t
still k t = grind (arith, nat_tests)

now : (k t : ℕ) → (nat_le k t && nat_le t k) ≡ (t == k)
now k t = grind (arith, nat_tests)

-- those that stay
pub rows_after : (rows : List StopData) (k : ℕ) → IsApart [] rows → k < length rows → filter (λ s. not (lacks_parent (filter (is_there rows k) rows) s)) (filter (is_there rows k) rows) ≡ filter (is_there rows (k + 1)) rows
rows_after rows k apart below =
    let R = filter (is_there rows k) rows in
    filter_twice (λ s. not (lacks_parent R s)) (is_there rows k) rows
    ∙ filter_agree (λ s. is_there rows k s && not (lacks_parent R s)) (is_there rows (k + 1)) (λ s. ap (λ b. is_there rows k s && not b) (lacks_by rows k s apart below) ∙ still k (turn_of rows s)) rows

-- those that go
pub rows_in : (rows : List StopData) (k : ℕ) → IsApart [] rows → k < length rows → filter (lacks_parent (filter (is_there rows k) rows)) (filter (is_there rows k) rows) ≡ filter (λ s. turn_of rows s == k) rows
rows_in rows k apart below =
    let R = filter (is_there rows k) rows in
    filter_twice (lacks_parent R) (is_there rows k) rows
    ∙ filter_agree (λ s. is_there rows k s && lacks_parent R s) (λ s. turn_of rows s == k) (λ s. ap (λ b. is_there rows k s && b) (lacks_by rows k s apart below) ∙ now k (turn_of rows s)) rows

zero_le : (n : ℕ) → nat_le 0 n ≡ true
zero_le n = grind (arith, nat_tests)

-- before the first turn all are there
pub rows_before : (rows some : List StopData) → filter (is_there rows 0) some ≡ some
rows_before rows [] = refl
rows_before rows (s ∷ more) = let t = zero_le (turn_of rows s) in rw t (ap (λ l. s ∷ l) (rows_before rows more))

-- a parent that isn't there
pub base_none : (ids : List (List ℕ)) (s : StopData) (count : ℕ) → count ≡ length ids → is_filled s.parent ≡ true → position (bytes_eq s.parent) ids ≡ None → count ≡ base_of ids s
base_none ids s count e t none =
    let place = position_or_len (bytes_eq s.parent) ids in
    let most : place ≤ length ids = prefix_len-le-length (λ (id : List ℕ). not (bytes_eq s.parent id)) ids in
    let past : length ids ≤ place =
    elim (cases_Bool (nat_lt place (length ids))) [
      | inl lt ↦ let there : cond true (Some place) None ≡ None = ap (λ b. cond b (Some place) None) (sym lt) ∙ none in absurd (cc)
      | inr f ↦ grind (arith, nat_tests, f)
    ] in
    rw t (omega (arith, e, most, past))

-- one row's turn more
pub turn_more : (rows : List StopData) (i base turn : ℕ) (steps old new : List ℕ) → i < length rows → base ≡ get_or (bases_of rows) i base
    → ((place : ℕ) → place < length (bases_of rows) → min (length rows) (get_or steps place 0) ≡ steps_to (bases_of rows) (length rows) (length rows) place)
    → turn ≡ min (length rows) (get_or steps base 0) → old ≡ map (turn_of rows) (take i rows) → new ≡ old ++ turn ∷ [] → new ≡ map (turn_of rows) (take (i + 1) rows)
turn_more [] i base turn steps old new lt at are is so_far e = absurd (omega arith)
turn_more (first ∷ others) i base turn steps old new lt at are is so_far e =
    let rows = first ∷ others in
    let bases = bases_of rows in
    let row = get_or rows i first in
    let many = long_bases rows in
    let place : i < length bases = omega (arith, many, lt) in
    let here : base ≡ base_of (map stop_id rows) row = at ∙ get_or_default bases i base 0 place ∙ row_base rows i first lt in
    let within : base < length bases = (let h = bases_within rows i base place in omega (arith, at, h)) in
    let turned : turn ≡ turn_of rows row = is ∙ are base within ∙ ap (steps_to bases (length rows) (length rows)) here in
    e ∙ ap (λ turns. turns ++ turn ∷ []) so_far ∙ ap (λ (t : ℕ). map (turn_of rows) (take i rows) ++ t ∷ []) turned ∙ sym (map_more (turn_of rows) rows i first lt)
