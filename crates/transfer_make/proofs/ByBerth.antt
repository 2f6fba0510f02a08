-- The candidates of an event are the transfers onto the lines where they call, stop by stop.
use Rattle.std.proofs.Common.{◌≡◌, ◌≢◌, ◌∙◌, sym, ap, refl, ℕ, zero, suc, ◌+◌, ◌-◌, ◌<◌, ◌≤◌, inl, inr, Bool, true, false, cond, ◌==◌, ◌&&◌, List, [], ◌∷◌, ◌++◌, length, map, get_or, take, drop, Option, Some, None, ℤ, pos, ◌+ℤ◌, arith, append_assoc}
use Rattle.std.specs.Prelude.{All, AllPairs, filter, filter_map, flat_map, find, nat_lt, slice_get}
use Rattle.std.specs.List.{AllWithin, cons_option}
use Rattle.std.specs.Option.{option_map, option_and_then, option_to_list}
use Rattle.std.proofs.lemmas.List.{take_more, take_all, take_rest}
use Rattle.std.proofs.lemmas.Option.{get_or_from_slice_get}
use Rattle.std.proofs.lemmas.List.Elements.{filter_map-append, All-contains}
use Rattle.std.proofs.lemmas.List.Concat.{flat_map-append}
use Rattle.std.proofs.lemmas.Bool.{eqb-true, and_from}
use Rattle.tb_base.specs.declared.table.Path.{Path}
use Rattle.tb_base.specs.declared.transfer.Transfer.{Transfer}
use Rattle.tb_base.specs.Soundness.{IsSoundPath}
use Rattle.tb_base.specs.TimetableData.{TimetableData, events_of, event_at, stop_at, arrival_at}
use Rattle.tb_base.specs.Transfers.{candidates, boarding_indexes, earliest_trip, hop_onto, is_own_line_onward, may_be_boarded, numbers_below, numbers_down}
use Rattle.tb_base.specs.Walking.{change}
use Rattle.tb_base.proofs.Ordered.{Member, Contains-from_Member}
use Rattle.tb_laws.proofs.Triangles.{change-same, change-other}
use Rattle.tb_laws.specs.Rows.{transfer_by_hop}
use Rattle.line_split.specs.declared.boardings.Boarding.{Boarding}
use Rattle.line_split.specs.declared.lines.Berth.{Berth}
use Rattle.line_split.specs.Layout.{AreBoardings, berth_of}
use Rattle.line_split.specs.LinesOf.{berths_at, calls_at, is_boarded}
use Rattle.transfer_make.specs.ByBerth.{hop_at, own_rows, row_by, rows_after, rows_at}
use Rattle.transfer_make.proofs.Sparse.{flat_map-sparse, stops_between, targets, find-own, find-none, Member-from_at}
use Rattle.tb_base.proofs.Lists.{map-flat_map, numbers_below-range}

-- ---- lists

flat_map-same : {X Y : Type 0} (f g : X → List Y) (xs : List X) → ((x : X) → Member x xs → f x ≡ g x) → flat_map f xs ≡ flat_map g xs
flat_map-same f g [] h = refl
flat_map-same f g (x ∷ xs) h = (λ k. h x (inl refl) k ++ flat_map-same f g xs (λ y m. h y (inr m)) k)

flat_map-map : {X Y Z : Type 0} (f : Y → List Z) (g : X → Y) (xs : List X) → flat_map f (map g xs) ≡ flat_map (λ x. f (g x)) xs
flat_map-map f g [] = refl
flat_map-map f g (x ∷ xs) = ap (λ ys. f (g x) ++ ys) (flat_map-map f g xs)

flat_map-nothing : {X Y : Type 0} (f : X → List Y) (xs : List X) → ((x : X) → f x ≡ []) → flat_map f xs ≡ []
flat_map-nothing f [] h = refl
flat_map-nothing f (x ∷ xs) h = ap (λ ys. ys ++ flat_map f xs) (h x) ∙ flat_map-nothing f xs h

filter_map-flat_map : {X Y Z : Type 0} (h : Y → Option Z) (f : X → List Y) (xs : List X) → filter_map h (flat_map f xs) ≡ flat_map (λ x. filter_map h (f x)) xs
filter_map-flat_map h f [] = refl
filter_map-flat_map h f (x ∷ xs) = filter_map-append h (f x) (flat_map f xs) ∙ ap (λ ys. filter_map h (f x) ++ ys) (filter_map-flat_map h f xs)

filter_map-map : {X Y Z : Type 0} (h : Y → Option Z) (f : X → Y) (xs : List X) → filter_map h (map f xs) ≡ filter_map (λ x. h (f x)) xs
filter_map-map h f [] = refl
filter_map-map h f (x ∷ xs) = ap (cons_option (h (f x))) (filter_map-map h f xs)

map-cons_option : {X Y : Type 0} (f : X → Y) (o : Option X) (xs : List X) → map f (cons_option o xs) ≡ cons_option (option_map f o) (map f xs)
map-cons_option f None xs = refl
map-cons_option f (Some x) xs = refl

-- a list by its indexes
flat_map-indexes : {X Y : Type 0} (f : X → List Y) (xs : List X) (d : X) (n : ℕ) → n ≤ length xs → flat_map (λ i. f (get_or xs i d)) (numbers_below n) ≡ flat_map f (take n xs)
flat_map-indexes f xs d zero h = refl
flat_map-indexes f xs d (suc n) h =
    flat_map-append (λ i. f (get_or xs i d)) (numbers_below n) (n ∷ [])
    ∙ ap (λ ys. ys ++ flat_map (λ i. f (get_or xs i d)) (n ∷ [])) (flat_map-indexes f xs d n (omega (arith, h)))
    ∙ sym (flat_map-append f (take n xs) (get_or xs n d ∷ [])) ∙ ap (flat_map f) (sym (take_more xs n d (omega (arith, h))) ∙ ap (λ k. take k xs) (one_more n))
  where
    one_more : (n : ℕ) → n + 1 ≡ suc n
    one_more n = omega arith

pub filter_map_more : {X Y : Type 0} (h : X → Option Y) (xs : List X) (i : ℕ) (d : X) → i < length xs → filter_map h (take (i + 1) xs) ≡ filter_map h (take i xs) ++ option_to_list (h (get_or xs i d))
filter_map_more h xs i d below = ap (filter_map h) (take_more xs i d below) ∙ filter_map-append h (take i xs) (get_or xs i d ∷ []) ∙ ap (λ ys. filter_map h (take i xs) ++ ys) (one (h (get_or xs i d)))
  where
    one : {Y : Type 0} (o : Option Y) → cons_option o [] ≡ option_to_list o
    one None = refl
    one (Some y) = refl

-- ---- one line

-- the transfer from t@i onto the line at its index j
abbrev row_on : TimetableData → ℕ → ℕ → ℤ → List ℕ → ℕ → Option Transfer
row_on T t i time line j = option_map (λ u. record { trip = t; at = i; to_trip = u; to_at = j })
    (cond (may_be_boarded T (get_or line 0 0) j) (option_and_then (λ u. cond (is_own_line_onward line t i u j) None (Some u)) (earliest_trip T line j time)) None)

same_row : (t i j : ℕ) (own : ℕ → Bool) (o : Option ℕ) → option_map (transfer_by_hop t i) (option_and_then (λ u. cond (own u) None (Some (record { trip = u; at = j }))) o)
    ≡ option_map (λ u. record { trip = t; at = i; to_trip = u; to_at = j }) (option_and_then (λ u. cond (own u) None (Some u)) o)
same_row t i j own None = refl
same_row t i j own (Some u) = by_test (own u)
  where
    by_test : (b : Bool) → option_map (transfer_by_hop t i) (cond b None (Some (record { trip = u; at = j }))) ≡ option_map (λ u. record { trip = t; at = i; to_trip = u; to_at = j }) (cond b None (Some u))
    by_test true = refl
    by_test false = refl

module _ (T : TimetableData) (t i q : ℕ) where
  -- where one can change to q
  indexes_rows : (secs x : ℕ) (xs : List ℕ) → change T (stop_at T t i) q ≡ Some secs → (ns : List ℕ) →
      map (transfer_by_hop t i) (filter_map (λ j. hop_onto T t i (x ∷ xs) j) (filter (λ j. (stop_at T x j == q) && may_be_boarded T x j) ns))
      ≡ filter_map (row_on T t i (arrival_at T t i +ℤ pos secs) (x ∷ xs)) (filter (λ j. stop_at T x j == q) ns)
  indexes_rows secs x xs changes [] = refl
  indexes_rows secs x xs changes (n ∷ ns) = by_tests (indexes_rows secs x xs changes ns) (stop_at T x n == q) refl (may_be_boarded T x n) refl
    where
      here : (stop_at T x n == q) ≡ true → hop_onto T t i (x ∷ xs) n ≡ option_and_then (λ u. cond (is_own_line_onward (x ∷ xs) t i u n) None (Some (record { trip = u; at = n }))) (earliest_trip T (x ∷ xs) n (arrival_at T t i +ℤ pos secs))
      here e = ap (option_and_then (λ secs. option_and_then (λ u. cond (is_own_line_onward (x ∷ xs) t i u n) None (Some (record { trip = u; at = n }))) (earliest_trip T (x ∷ xs) n (arrival_at T t i +ℤ pos secs))))
          (ap (change T (stop_at T t i)) (eqb-true (stop_at T x n) q e) ∙ changes)

      by_tests : map (transfer_by_hop t i) (filter_map (λ j. hop_onto T t i (x ∷ xs) j) (filter (λ j. (stop_at T x j == q) && may_be_boarded T x j) ns)) ≡ filter_map (row_on T t i (arrival_at T t i +ℤ pos secs) (x ∷ xs)) (filter (λ j. stop_at T x j == q) ns)
          → (a : Bool) → a ≡ (stop_at T x n == q) → (b : Bool) → b ≡ may_be_boarded T x n →
          map (transfer_by_hop t i) (filter_map (λ j. hop_onto T t i (x ∷ xs) j) (cond (a && b) (n ∷ filter (λ j. (stop_at T x j == q) && may_be_boarded T x j) ns) (filter (λ j. (stop_at T x j == q) && may_be_boarded T x j) ns)))
          ≡ filter_map (row_on T t i (arrival_at T t i +ℤ pos secs) (x ∷ xs)) (cond a (n ∷ filter (λ j. stop_at T x j == q) ns) (filter (λ j. stop_at T x j == q) ns))
      by_tests more true e true f =
          map-cons_option (transfer_by_hop t i) (hop_onto T t i (x ∷ xs) n) (filter_map (λ j. hop_onto T t i (x ∷ xs) j) (filter (λ j. (stop_at T x j == q) && may_be_boarded T x j) ns))
          ∙ (λ k. cons_option (option_map (transfer_by_hop t i) (here (sym e) k)) (more k))
          ∙ ap (λ o. cons_option o (filter_map (row_on T t i (arrival_at T t i +ℤ pos secs) (x ∷ xs)) (filter (λ j. stop_at T x j == q) ns)))
          (same_row t i n (λ u. is_own_line_onward (x ∷ xs) t i u n) (earliest_trip T (x ∷ xs) n (arrival_at T t i +ℤ pos secs))
          ∙ ap (λ b. option_map (λ u. record { trip = t; at = i; to_trip = u; to_at = n }) (cond b (option_and_then (λ u. cond (is_own_line_onward (x ∷ xs) t i u n) None (Some u)) (earliest_trip T (x ∷ xs) n (arrival_at T t i +ℤ pos secs))) None)) f)
      by_tests more true e false f =
          more ∙ ap (λ b. cons_option (option_map (λ u. record { trip = t; at = i; to_trip = u; to_at = n }) (cond b (option_and_then (λ u. cond (is_own_line_onward (x ∷ xs) t i u n) None (Some u)) (earliest_trip T (x ∷ xs) n (arrival_at T t i +ℤ pos secs))) None))
          (filter_map (row_on T t i (arrival_at T t i +ℤ pos secs) (x ∷ xs)) (filter (λ j. stop_at T x j == q) ns))) f
      by_tests more false e b f = more

  no_line : (time : ℤ) (ns : List ℕ) → [] ≡ filter_map (row_on T t i time []) ns
  no_line time [] = refl
  no_line time (n ∷ ns) = by_test (may_be_boarded T 0 n) (no_line time ns)
    where
      by_test : (b : Bool) → [] ≡ filter_map (row_on T t i time []) ns → [] ≡ cons_option (option_map (λ u. record { trip = t; at = i; to_trip = u; to_at = n }) (cond b None None)) (filter_map (row_on T t i time []) ns)
      by_test true more = more
      by_test false more = more

  line_rows : (secs : ℕ) → change T (stop_at T t i) q ≡ Some secs → (line : List ℕ) →
      map (transfer_by_hop t i) (filter_map (λ j. hop_onto T t i line j) (boarding_indexes T line q)) ≡ filter_map (row_on T t i (arrival_at T t i +ℤ pos secs) line) (calls_at T line q)
  line_rows secs changes [] = no_line (arrival_at T t i +ℤ pos secs) (calls_at T [] q)
  line_rows secs changes (x ∷ xs) = indexes_rows secs x xs changes (numbers_below (length (events_of T x)))

  -- where one cannot
  indexes_none : (x : ℕ) (xs : List ℕ) → change T (stop_at T t i) q ≡ None → (ns : List ℕ) → filter_map (λ j. hop_onto T t i (x ∷ xs) j) (filter (λ j. (stop_at T x j == q) && may_be_boarded T x j) ns) ≡ []
  indexes_none x xs none [] = refl
  indexes_none x xs none (n ∷ ns) = by_tests (indexes_none x xs none ns) (stop_at T x n == q) refl (may_be_boarded T x n)
    where
      by_tests : filter_map (λ j. hop_onto T t i (x ∷ xs) j) (filter (λ j. (stop_at T x j == q) && may_be_boarded T x j) ns) ≡ []
          → (a : Bool) → a ≡ (stop_at T x n == q) → (b : Bool) → filter_map (λ j. hop_onto T t i (x ∷ xs) j) (cond (a && b) (n ∷ filter (λ j. (stop_at T x j == q) && may_be_boarded T x j) ns) (filter (λ j. (stop_at T x j == q) && may_be_boarded T x j) ns)) ≡ []
      by_tests more true e true =
          ap (λ o. cons_option (option_and_then (λ secs. option_and_then (λ u. cond (is_own_line_onward (x ∷ xs) t i u n) None (Some (record { trip = u; at = n }))) (earliest_trip T (x ∷ xs) n (arrival_at T t i +ℤ pos secs))) o)
          (filter_map (λ j. hop_onto T t i (x ∷ xs) j) (filter (λ j. (stop_at T x j == q) && may_be_boarded T x j) ns))) (ap (change T (stop_at T t i)) (eqb-true (stop_at T x n) q (sym e)) ∙ none) ∙ more
      by_tests more true e false = more
      by_tests more false e b = more

  line_none : change T (stop_at T t i) q ≡ None → (line : List ℕ) → filter_map (λ j. hop_onto T t i line j) (boarding_indexes T line q) ≡ []
  line_none none [] = refl
  line_none none (x ∷ xs) = indexes_none x xs none (numbers_below (length (events_of T x)))

  -- ---- one stop

  berths_rows : (lines : List (List ℕ)) (time : ℤ) → flat_map (λ line. filter_map (row_on T t i time line) (calls_at T line q)) lines ≡ filter_map (row_by T lines t i time) (berths_at T lines q)
  berths_rows lines time =
      ap (flat_map (λ line. filter_map (row_on T t i time line) (calls_at T line q))) (sym (take_all (length lines) lines (omega arith)))
      ∙ sym (flat_map-indexes (λ line. filter_map (row_on T t i time line) (calls_at T line q)) lines [] (length lines) (omega arith))
      ∙ flat_map-same (λ l. filter_map (row_on T t i time (get_or lines l [])) (calls_at T (get_or lines l []) q)) (λ l. filter_map (row_by T lines t i time) (map (λ j. record { line = l; at = j }) (calls_at T (get_or lines l []) q))) (numbers_below (length lines))
      (λ l m. sym (filter_map-map (row_by T lines t i time) (λ j. record { line = l; at = j }) (calls_at T (get_or lines l []) q)))
      ∙ sym (filter_map-flat_map (row_by T lines t i time) (λ l. map (λ j. record { line = l; at = j }) (calls_at T (get_or lines l []) q)) (numbers_below (length lines)))

  stop_rows : (lines : List (List ℕ)) (o : Option ℕ) → change T (stop_at T t i) q ≡ o →
      map (transfer_by_hop t i) (flat_map (λ line. filter_map (λ j. hop_onto T t i line j) (boarding_indexes T line q)) lines) ≡ rows_after T lines t i q (arrival_at T t i) o
  stop_rows lines None none = ap (map (transfer_by_hop t i)) (flat_map-nothing (λ line. filter_map (λ j. hop_onto T t i line j) (boarding_indexes T line q)) lines (line_none none))
  stop_rows lines (Some secs) changes =
      map-flat_map (transfer_by_hop t i) (λ line. filter_map (λ j. hop_onto T t i line j) (boarding_indexes T line q)) lines
      ∙ flat_map-same (λ line. map (transfer_by_hop t i) (filter_map (λ j. hop_onto T t i line j) (boarding_indexes T line q))) (λ line. filter_map (row_on T t i (arrival_at T t i +ℤ pos secs) line) (calls_at T line q)) lines (λ line m. line_rows secs changes line)
      ∙ berths_rows lines (arrival_at T t i +ℤ pos secs)

-- ---- one event

above : (p to : ℕ) → p ≤ to → to ≢ p → p < to
above p to h k = grind arith

module _ (T : TimetableData) (lines : List (List ℕ)) (t i p n : ℕ) (fs : List Path) (is : p ≡ stop_at T t i) (row : get_or T.footpaths.paths p [] ≡ fs) (inside : p < length T.stops)
    (up : AllPairs (λ (f g : Path). f.to < g.to) fs) (sound : All (IsSoundPath (length T.stops) p) fs)
    (below : AllWithin (λ f. f.to < p) fs 0 n) (from : AllWithin (λ f. p ≤ f.to) fs n (length fs)) where
  abbrev stops : List ℕ
  stops = targets (take n fs) ++ p ∷ targets (drop n fs)

  changes_to : (g : Path) → Member g fs → change T p g.to ≡ Some g.secs
  changes_to g m =
      let away : p ≢ g.to = λ e. (All-contains (IsSoundPath (length T.stops) p) fs g sound (Contains-from_Member g fs m)).away (sym e) in
      change-other T p g.to away ∙ ap (λ row. option_map (λ (f : Path). f.secs) (find (λ f. f.to == g.to) row)) row ∙ ap (option_map (λ (f : Path). f.secs)) (find-own fs g up m)

  changes_none : (q : ℕ) → (Member q stops → ⊥) → change T p q ≡ None
  changes_none q out =
      let away : p ≢ q = λ e. out (Member-from_at q p (targets (take n fs)) (targets (drop n fs)) e) in
      change-other T p q away ∙ ap (λ row. option_map (λ (f : Path). f.secs) (find (λ f. f.to == q) row)) row ∙ ap (option_map (λ (f : Path). f.secs)) (find-none n q p fs out)

  abbrev rows_to : ℕ → List Transfer
  rows_to q = rows_after T lines t i q (arrival_at T t i) (change T p q)

  targets_rows : (gs : List Path) → ((g : Path) → Member g gs → Member g fs) → flat_map rows_to (targets gs) ≡ flat_map (λ g. rows_at T lines t i g.to g.secs (arrival_at T t i)) gs
  targets_rows gs part =
      flat_map-map rows_to (λ (g : Path). g.to) gs
      ∙ flat_map-same (λ (g : Path). rows_to g.to) (λ g. rows_at T lines t i g.to g.secs (arrival_at T t i)) gs (λ g m. ap (rows_after T lines t i g.to (arrival_at T t i)) (changes_to g (part g m)))

  taken : (k : ℕ) (gs : List Path) (g : Path) → Member g (take k gs) → Member g gs
  taken zero gs g m = absurd m
  taken (suc k) [] g m = m
  taken (suc k) (f ∷ gs) g (inl e) = inl e
  taken (suc k) (f ∷ gs) g (inr m) = inr (taken k gs g m)

  dropped : (k : ℕ) (gs : List Path) (g : Path) → Member g (drop k gs) → Member g gs
  dropped zero gs g m = m
  dropped (suc k) [] g m = m
  dropped (suc k) (f ∷ gs) g m = inr (dropped k gs g m)

  all_stops : flat_map rows_to (numbers_below (length T.stops)) ≡ flat_map rows_to stops
  all_stops =
      ap (flat_map rows_to) (numbers_below-range (length T.stops))
      ∙ flat_map-sparse rows_to (length T.stops) 0 (length T.stops) stops (omega arith)
      (stops_between 0 (length T.stops) p n fs up (λ k d h. omega arith) (λ k d h. (sound k d h).to) (omega arith) inside below
      (λ k d low high. above p (get_or fs k d).to (from k d low high) (sound k d high).away))
      (λ q low high out. ap (rows_after T lines t i q (arrival_at T t i)) (changes_none q out))

  pub event_rows : (0 < i) → (event_at T t i).alight ≡ true → map (transfer_by_hop t i) (candidates T lines t i)
      ≡ flat_map (λ f. rows_at T lines t i f.to f.secs (arrival_at T t i)) (take n fs) ++ (own_rows T lines t i p (arrival_at T t i) ++ flat_map (λ f. rows_at T lines t i f.to f.secs (arrival_at T t i)) (drop n fs))
  event_rows later alights =
      ap (λ b. map (transfer_by_hop t i) (cond b (flat_map (λ q. flat_map (λ line. filter_map (λ j. hop_onto T t i line j) (boarding_indexes T line q)) lines) (numbers_below (length T.stops))) [])) (and_from (nat_lt 0 i) (event_at T t i).alight (first i later) alights)
      ∙ map-flat_map (transfer_by_hop t i) (λ q. flat_map (λ line. filter_map (λ j. hop_onto T t i line j) (boarding_indexes T line q)) lines) (numbers_below (length T.stops))
      ∙ flat_map-same (λ q. map (transfer_by_hop t i) (flat_map (λ line. filter_map (λ j. hop_onto T t i line j) (boarding_indexes T line q)) lines)) rows_to (numbers_below (length T.stops))
      (λ q m. stop_rows T t i q lines (change T p q) (ap (λ s. change T s q) (sym is)))
      ∙ all_stops
      ∙ flat_map-append rows_to (targets (take n fs)) (p ∷ targets (drop n fs))
      ∙ (λ k. targets_rows (take n fs) (taken n fs) k ++ (rows_after T lines t i p (arrival_at T t i) (change-same T p k) ++ targets_rows (drop n fs) (dropped n fs) k))
    where
      first : (i : ℕ) → 0 < i → nat_lt 0 i ≡ true
      first i h = grind arith

-- ---- where lines are boarded

filter_map-filter : {X Y : Type 0} (h : X → Option Y) (test : X → Bool) → ((x : X) → test x ≡ false → h x ≡ None) → (xs : List X) → filter_map h (filter test xs) ≡ filter_map h xs
filter_map-filter h test none [] = refl
filter_map-filter h test none (x ∷ xs) = by_test (test x) refl (filter_map-filter h test none xs)
  where
    by_test : (b : Bool) → b ≡ test x → filter_map h (filter test xs) ≡ filter_map h xs → filter_map h (cond b (x ∷ filter test xs) (filter test xs)) ≡ cons_option (h x) (filter_map h xs)
    by_test true e more = ap (cons_option (h x)) more
    by_test false e more = more ∙ ap (λ o. cons_option o (filter_map h xs)) (sym (none x (sym e)))

-- the rows by the boardings at a stop are those by all berths there
pub boarded_rows : (T : TimetableData) (lines : List (List ℕ)) (t i : ℕ) (time : ℤ) (berths : List Berth) (row : List Boarding) → AreBoardings T lines berths row →
    filter_map (λ b. row_by T lines t i time (berth_of b)) row ≡ filter_map (row_by T lines t i time) berths
boarded_rows T lines t i time berths row are =
    sym (filter_map-map (row_by T lines t i time) berth_of row) ∙ ap (filter_map (row_by T lines t i time)) are.called ∙ filter_map-filter (row_by T lines t i time) (is_boarded T lines) none berths
  where
    none : (b : Berth) → is_boarded T lines b ≡ false → row_by T lines t i time b ≡ None
    none b e =
        ap (λ c. option_map (λ u. record { trip = t; at = i; to_trip = u; to_at = b.at })
        (cond c (option_and_then (λ u. cond (is_own_line_onward (get_or lines b.line []) t i u b.at) None (Some u)) (earliest_trip T (get_or lines b.line []) b.at time)) None)) e

-- ---- a trip, from its last event down

pub events_more : {X : Type 0} (f : ℕ → List X) (n : ℕ) (done all : List X) (more : List X) → all ≡ done ++ flat_map f (numbers_down (suc n)) → more ≡ done ++ f n → all ≡ more ++ flat_map f (numbers_down n)
events_more f n done all more e h = e ∙ sym (append_assoc done (f n) (flat_map f (numbers_down n))) ∙ ap (λ xs. xs ++ flat_map f (numbers_down n)) (sym h)

-- ---- steps of the loops

pub hop_at-found : (T : TimetableData) (lines : List (List ℕ)) (t i : ℕ) (time : ℤ) (b : Berth) (u : ℕ) (own : Bool) → may_be_boarded T (get_or (get_or lines b.line []) 0 0) b.at ≡ true → earliest_trip T (get_or lines b.line []) b.at time ≡ Some u
    → is_own_line_onward (get_or lines b.line []) t i u b.at ≡ own → hop_at T lines t i time b ≡ cond own None (Some u)
hop_at-found T lines t i time b u own m e o =
    ap (λ x. cond x (option_and_then (λ u. cond (is_own_line_onward (get_or lines b.line []) t i u b.at) None (Some u)) (earliest_trip T (get_or lines b.line []) b.at time)) None) m
    ∙ ap (option_and_then (λ u. cond (is_own_line_onward (get_or lines b.line []) t i u b.at) None (Some u))) e ∙ ap (λ x. cond x None (Some u)) o

pub rows_more : {X Y : Type 0} (h : X → Option Y) (xs : List X) (i : ℕ) (x : X) (old before new : List Y) → i < length xs → x ≡ get_or xs i x → before ≡ old ++ filter_map h (take i xs) → new ≡ before ++ option_to_list (h x) → new ≡ old ++ filter_map h (take (i + 1) xs)
rows_more h xs i x old before new below is e k =
    k ∙ ap (λ ys. ys ++ option_to_list (h x)) e ∙ append_assoc old (filter_map h (take i xs)) (option_to_list (h x))
    ∙ ap (λ ys. old ++ ys) (ap (λ y. filter_map h (take i xs) ++ option_to_list (h y)) is ∙ sym (filter_map_more h xs i x below))

module _ (T : TimetableData) (lines : List (List ℕ)) (t i p n : ℕ) (fs : List Path) (is : p ≡ stop_at T t i) (row : slice_get T.footpaths.paths p ≡ Some fs) (inside : p < length T.stops)
    (up : AllPairs (λ (f g : Path). f.to < g.to) fs) (sound : All (IsSoundPath (length T.stops) p) fs)
    (below : AllWithin (λ f. f.to < p) fs 0 n) (from : AllWithin (λ f. p ≤ f.to) fs n (length fs)) where
  -- the rows before the stop, at it and behind it
  pub alighting_rows : 0 < i → (event_at T t i).alight ≡ true → (arr : ℤ) → arr ≡ arrival_at T t i → (old before own : List Transfer) → before ≡ old ++ flat_map (λ f. rows_at T lines t i f.to f.secs arr) (take n fs) →
      own ≡ before ++ own_rows T lines t i p arr → own ++ flat_map (λ f. rows_at T lines t i f.to f.secs arr) (take (length fs - n) (drop n fs)) ≡ old ++ map (transfer_by_hop t i) (candidates T lines t i)
  alighting_rows later alights arr e old before own g h =
      ap (λ ys. ys ++ flat_map (λ f. rows_at T lines t i f.to f.secs arr) (take (length fs - n) (drop n fs))) (h ∙ ap (λ ys. ys ++ own_rows T lines t i p arr) g)
      ∙ ap (λ gs. (old ++ flat_map (λ f. rows_at T lines t i f.to f.secs arr) (take n fs)) ++ own_rows T lines t i p arr ++ flat_map (λ f. rows_at T lines t i f.to f.secs arr) gs) (take_rest fs n)
      ∙ append_assoc (old ++ flat_map (λ f. rows_at T lines t i f.to f.secs arr) (take n fs)) (own_rows T lines t i p arr) (flat_map (λ f. rows_at T lines t i f.to f.secs arr) (drop n fs))
      ∙ append_assoc old (flat_map (λ f. rows_at T lines t i f.to f.secs arr) (take n fs)) (own_rows T lines t i p arr ++ flat_map (λ f. rows_at T lines t i f.to f.secs arr) (drop n fs))
      ∙ ap (λ a. old ++ (flat_map (λ f. rows_at T lines t i f.to f.secs a) (take n fs) ++ (own_rows T lines t i p a ++ flat_map (λ f. rows_at T lines t i f.to f.secs a) (drop n fs)))) e
      ∙ ap (λ ys. old ++ ys) (sym (event_rows T lines t i p n fs is (get_or_from_slice_get T.footpaths.paths p fs [] row) inside up sound below from later alights))
