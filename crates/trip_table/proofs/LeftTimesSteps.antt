-- Stop times of which those of some trips are left out.
use Rattle.std.proofs.Common.{◌≡◌, ◌≢◌, ◌∙◌, refl, sym, ap, ℕ, ◌+◌, ◌<◌, ◌≤◌, List, [], ◌∷◌, ◌++◌, length, take, set, get_or, Bool, true, false, ◌||◌, inl, inr, arith}
use Rattle.std.specs.Prelude.{All, filter, not, ◌==◌}
use Rattle.std.specs.List.{list_any}
use Rattle.std.proofs.lemmas.Bool.{cases_Bool, ne_eqb, eq-eqb}
use Rattle.std.proofs.lemmas.Bool.Decides.{nat_tests}
use Rattle.std.proofs.lemmas.List.{take_more, get_or-set_same, get_or-set_other}
use Rattle.std.proofs.lemmas.List.Elements.{All-head, All-tail, All-filter}
use Rattle.std.proofs.lemmas.List.Folds.{list_any-append}
use Rattle.std.proofs.lemmas.List.Kept.{AllPairs-filter}
use Rattle.gtfs_rows.specs.StopsFile.{StopData}
use Rattle.gtfs_rows.specs.TripsFile.{TripData}
use Rattle.footpaths.specs.Stops.{platforms}
use Rattle.service_trips.specs.Times.{HasFileTimes}
use Rattle.service_trips.specs.declared.broken.TripFault.{TripFault}
use Rattle.service_trips.specs.declared.stop_time.StopTime.{StopTime}
use Rattle.trip_table.specs.GoodTimes.{AreGoodTimes}
use Rattle.trip_table.specs.LeftFeed.{without_trips}
use Rattle.tb_base.proofs.Lists.{length-filter_le}

found_more : (t : ℕ) (found : List TripFault) (i : ℕ) (x : TripFault) → i < length found → x ≡ get_or found i x → list_any (λ f. TripFault.trip f == t) (take (i + 1) found) ≡ (list_any (λ f. TripFault.trip f == t) (take i found) || ((x.trip == t) || false))
found_more t found i x h at = ap (list_any (λ f. TripFault.trip f == t)) (take_more found i x h ∙ ap (λ y. take i found ++ y ∷ []) (sym at)) ∙ list_any-append (λ f. TripFault.trip f == t) (take i found) (x ∷ [])

or_true : (a b : Bool) → b ≡ true → true ≡ (a || (b || false))
or_true true b e = refl
or_true false b e = rw e refl

or_same : (a b : Bool) → b ≡ false → a ≡ (a || (b || false))
or_same true b e = refl
or_same false b e = rw e refl

-- a trip is marked
pub marks_more : (marks : List Bool) (found : List TripFault) (i n t : ℕ) (x : TripFault) → i < length found → x ≡ get_or found i x → length marks ≡ n → x.trip < n → get_or marks t false ≡ list_any (λ f. TripFault.trip f == t) (take i found)
    → get_or (set marks x.trip true) t false ≡ list_any (λ f. TripFault.trip f == t) (take (i + 1) found)
marks_more marks found i n t x h at many below before =
    elim (cases_Bool (x.trip == t)) [
      | inl same ↦
          let e : x.trip ≡ t = grind (arith, nat_tests, same) in
          let marked : get_or (set marks x.trip true) t false ≡ true = rw (← e) (get_or-set_same marks x.trip true false (omega (arith, many, below))) in
          marked ∙ or_true (list_any (λ f. TripFault.trip f == t) (take i found)) (x.trip == t) same ∙ sym (found_more t found i x h at)
      | inr other ↦
          let apart : t ≢ x.trip = λ e. absurd (let yes : (x.trip == t) ≡ true = eq-eqb x.trip t (sym e) in let no : true ≡ false = sym yes ∙ other in cc) in
          get_or-set_other marks x.trip t true false apart ∙ before ∙ or_same (list_any (λ f. TripFault.trip f == t) (take i found)) (x.trip == t) other ∙ sym (found_more t found i x h at)
    ]

-- what is no trip marks none
pub marks_same : (marks : List Bool) (found : List TripFault) (i n t : ℕ) (x : TripFault) → i < length found → x ≡ get_or found i x → n ≤ x.trip → t < n → get_or marks t false ≡ list_any (λ f. TripFault.trip f == t) (take i found)
    → get_or marks t false ≡ list_any (λ f. TripFault.trip f == t) (take (i + 1) found)
marks_same marks found i n t x h at above below before =
    before ∙ or_same (list_any (λ f. TripFault.trip f == t) (take i found)) (x.trip == t) (ne_eqb x.trip t (λ e. absurd (omega (arith, above, below, e)))) ∙ sym (found_more t found i x h at)

filter_by : {X : Type 0} (p q : X → Bool) (P : X → Type 0) (xs : List X) → ((x : X) → P x → p x ≡ q x) → All P xs → filter p xs ≡ filter q xs
filter_by p q P [] f h = refl
filter_by p q P (x ∷ xs) f h = rw (f x (All-head P x xs h), filter_by p q P xs f (All-tail P x xs h)) refl

-- rows whose trips aren't marked
pub unmarked_rows : (marks : List Bool) (n : ℕ) (found : List TripFault) (rows left : List StopTime) → ((t : ℕ) → t < n → get_or marks t false ≡ list_any (λ f. TripFault.trip f == t) found) → All (λ r. StopTime.trip_row r < n) rows
    → left ≡ filter (λ r. not (get_or marks (StopTime.trip_row r) false)) rows → left ≡ without_trips found rows
unmarked_rows marks n found rows left marked within e = e ∙ filter_by _ _ (λ r. StopTime.trip_row r < n) rows (λ r below. ap not (marked r.trip_row below)) within

-- good stop times stay so where some are left out
pub good_kept : (stops : List StopData) (trips : List TripData) (rows : List StopTime) (p : StopTime → Bool) → AreGoodTimes stops trips rows → AreGoodTimes stops trips (filter p rows)
good_kept stops trips rows p good = record {
  few = let most = length-filter_le p rows in let few = good.few in omega (arith, most, few);
  trip = All-filter p (λ r. StopTime.trip_row r < length trips) rows good.trip;
  stop = All-filter p (λ r. StopTime.stop r < length (platforms stops)) rows good.stop;
  given = All-filter p HasFileTimes rows good.given;
  sequences = AllPairs-filter (λ r s. StopTime.trip_row r ≡ StopTime.trip_row s → StopTime.sequence r ≢ StopTime.sequence s) p rows good.sequences;
}
