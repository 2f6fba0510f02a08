-- Nothing is wrong with the rows of stops.txt that are left.
use Rattle.std.proofs.Common.{◌≡◌, ◌∙◌, refl, ap, subst, ℕ, zero, suc, ◌+◌, ◌≤◌, List, [], ◌∷◌, ◌++◌, length, Bool, true, false, cond, Option, arith, append-nil}
use Rattle.std.specs.Prelude.{Result, Ok, All, filter, not}
use Rattle.std.specs.List.{list_any}
use Rattle.std.proofs.lemmas.List.Elements.{All-cons, All-nil, All-head, All-tail, filter-append}
use Rattle.gtfs_rows.specs.Faults.{fault_if, unless_wrong, wrong_after}
use Rattle.gtfs_rows.specs.StopsFile.{StopData}
use Rattle.gtfs_rows.specs.declared.fault.FeedFault.{FeedFault}
use Rattle.footpaths.specs.Stops.{check_stops, has_stop_id, lacks_parent, stop_id, wrong_stop}
use Rattle.footpaths.proofs.StopPlaces.{none_kept}
use Rattle.trip_table.specs.LeftFeed.{duplicate_stop, leave_found, leave_orphans, sift}
use Rattle.trip_table.specs.References.{wrong_twice}
use Rattle.trip_table.proofs.SiftedRight.{sifted_right}

-- along rows after earlier ones, each has an id of its own
unfoldable pub IsApart : List StopData → List StopData → Type 0
IsApart earlier [] = Unit {0}
IsApart earlier (r ∷ rest) = (list_any (has_stop_id r.id) earlier ≡ false) × IsApart (earlier ++ r ∷ []) rest

one_id : (b : Bool) (f : FeedFault) (rest : List (Option FeedFault)) (all : List StopData) → unless_wrong ((fault_if b f ∷ []) ++ rest) all ≡ Ok all → (b ≡ false) × (unless_wrong rest all ≡ Ok all)
one_id true f rest all e = absurd (cc)
one_id false f rest all e = (refl, e)

pub apart_by : (earlier rows all : List StopData) → unless_wrong (wrong_after (wrong_twice stop_id duplicate_stop) earlier rows) all ≡ Ok all → IsApart earlier rows
unfolding IsApart
apart_by earlier [] all e = tt
apart_by earlier (r ∷ rest) all e =
    let p = one_id (list_any (has_stop_id r.id) earlier) (duplicate_stop r) (wrong_after (wrong_twice stop_id duplicate_stop) (earlier ++ r ∷ []) rest) all e in
    (p.0, apart_by (earlier ++ r ∷ []) rest all p.1)

-- the same of some of the rows
apart_kept : (p : StopData → Bool) (earlier rows : List StopData) → IsApart earlier rows → IsApart (filter p earlier) (filter p rows)
unfolding IsApart
apart_kept p earlier [] h = tt
apart_kept p earlier (r ∷ rest) h = by_test (p r) refl (apart_kept p (earlier ++ r ∷ []) rest h.1)
  where
    last : (b : Bool) → p r ≡ b → filter p (earlier ++ r ∷ []) ≡ filter p earlier ++ cond b (r ∷ []) []
    last b e = filter-append p earlier (r ∷ []) ∙ ap (λ b. filter p earlier ++ cond b (r ∷ []) []) e

    by_test : (b : Bool) → p r ≡ b → IsApart (filter p (earlier ++ r ∷ [])) (filter p rest) → IsApart (filter p earlier) (cond b (r ∷ filter p rest) (filter p rest))
    by_test true e later = (none_kept (has_stop_id r.id) p earlier h.0, subst (λ l. IsApart l (filter p rest)) (last true e) later)
    by_test false e later = subst (λ l. IsApart l (filter p rest)) (last false e ∙ append-nil (filter p earlier)) later

one_list : (xs ys : List StopData) → (let r : Result (List StopData) FeedFault = Ok xs in r) ≡ Ok ys → xs ≡ ys
one_list xs ys e = cc

apart_left : (n : ℕ) (rows ys : List StopData) → (leave_orphans n rows).end ≡ Ok ys → IsApart [] rows → IsApart [] ys
apart_left zero rows ys e h = subst (λ l. IsApart [] l) (one_list rows ys e) h
apart_left (suc n) rows ys e h = by_found (filter (lacks_parent rows) rows) (λ q. apart_left n (filter (λ s. not (lacks_parent rows s)) rows) ys q (apart_kept (λ s. not (lacks_parent rows s)) [] rows h)) e
  where
    by_found : (found : List StopData) → ((leave_orphans n (filter (λ s. not (lacks_parent rows s)) rows)).end ≡ Ok ys → IsApart [] ys) → (leave_found found rows (leave_orphans n (filter (λ s. not (lacks_parent rows s)) rows))).end ≡ Ok ys → IsApart [] ys
    by_found [] later q = subst (λ l. IsApart [] l) (one_list rows ys q) h
    by_found (s ∷ more) later q = later q

parted : (p : StopData → Bool) (rows : List StopData) → length (filter p rows) + length (filter (λ s. not (p s)) rows) ≡ length rows
parted p [] = refl
parted p (r ∷ rest) = by_test (p r) (parted p rest)
  where
    by_test : (b : Bool) → length (filter p rest) + length (filter (λ s. not (p s)) rest) ≡ length rest
        → length (cond b (r ∷ filter p rest) (filter p rest)) + length (cond (not b) (r ∷ filter (λ s. not (p s)) rest) (filter (λ s. not (p s)) rest)) ≡ suc (length rest)
    by_test true h = omega (arith, h)
    by_test false h = omega (arith, h)

-- at last no row lacks its parent
orphans_gone : (n : ℕ) (rows ys : List StopData) → length rows ≤ n → (leave_orphans n rows).end ≡ Ok ys → filter (lacks_parent ys) ys ≡ []
orphans_gone zero [] ys few e = subst (λ l. filter (lacks_parent l) l ≡ []) (one_list [] ys e) refl
orphans_gone zero (r ∷ rest) ys few e = absurd (omega (arith, few))
orphans_gone (suc n) rows ys few e = by_found (filter (lacks_parent rows) rows) refl (λ fewer q. orphans_gone n (filter (λ s. not (lacks_parent rows s)) rows) ys fewer q) e
  where
    by_found : (found : List StopData) → filter (lacks_parent rows) rows ≡ found → (length (filter (λ s. not (lacks_parent rows s)) rows) ≤ n → (leave_orphans n (filter (λ s. not (lacks_parent rows s)) rows)).end ≡ Ok ys → filter (lacks_parent ys) ys ≡ [])
        → (leave_found found rows (leave_orphans n (filter (λ s. not (lacks_parent rows s)) rows))).end ≡ Ok ys → filter (lacks_parent ys) ys ≡ []
    by_found [] is later q = subst (λ l. filter (lacks_parent l) l ≡ []) (one_list rows ys q) is
    by_found (s ∷ more) is later q =
        let parts = parted (lacks_parent rows) rows in
        let some = ap length is in
        later (omega (arith, few, parts, some)) q

none_lacks : (p : StopData → Bool) (rows : List StopData) → filter p rows ≡ [] → All (λ s. p s ≡ false) rows
none_lacks p [] e = All-nil (λ s. p s ≡ false)
none_lacks p (r ∷ rest) e = by_test (p r) refl (λ q. none_lacks p rest q) e
  where
    by_test : (b : Bool) → p r ≡ b → (filter p rest ≡ [] → All (λ s. p s ≡ false) rest) → cond b (r ∷ filter p rest) (filter p rest) ≡ [] → All (λ s. p s ≡ false) (r ∷ rest)
    by_test true is later q = absurd (cc)
    by_test false is later q = All-cons (λ s. p s ≡ false) r rest is (later q)

right_by : (all earlier rows : List StopData) → IsApart earlier rows → All (λ s. lacks_parent all s ≡ false) rows → unless_wrong (wrong_after (wrong_stop all) earlier rows) all ≡ Ok all
unfolding IsApart
right_by all earlier [] h k = refl
right_by all earlier (r ∷ rest) h k = rw (h.0, All-head (λ s. lacks_parent all s ≡ false) r rest k) (right_by all (earlier ++ r ∷ []) rest h.1 (All-tail (λ s. lacks_parent all s ≡ false) r rest k))

-- the rows of stops.txt that are left are right
pub left_right : (rows distinct kept : List StopData) → (sift (wrong_twice stop_id duplicate_stop) [] rows).end ≡ Ok distinct → (leave_orphans (length distinct) distinct).end ≡ Ok kept → check_stops kept ≡ Ok kept
left_right rows distinct kept sifted left =
    let apart = apart_by [] distinct distinct (sifted_right (wrong_twice stop_id duplicate_stop) rows distinct sifted) in
    right_by kept [] kept (apart_left (length distinct) distinct kept left apart) (none_lacks (lacks_parent kept) kept (orphans_gone (length distinct) distinct kept (omega arith) left))

-- a fault never ends it
pub orphans_never : (n : ℕ) (rows : List StopData) → (ys : List StopData) × ((leave_orphans n rows).end ≡ Ok ys)
orphans_never zero rows = (rows, refl)
orphans_never (suc n) rows = by_found (filter (lacks_parent rows) rows) (orphans_never n (filter (λ s. not (lacks_parent rows s)) rows))
  where
    by_found : (found : List StopData) → ((ys : List StopData) × ((leave_orphans n (filter (λ s. not (lacks_parent rows s)) rows)).end ≡ Ok ys))
        → (ys : List StopData) × ((leave_found found rows (leave_orphans n (filter (λ s. not (lacks_parent rows s)) rows))).end ≡ Ok ys)
    by_found [] later = (rows, refl)
    by_found (s ∷ more) later = later
