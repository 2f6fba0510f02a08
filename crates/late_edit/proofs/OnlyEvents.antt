-- Updates change times and marks alone, and those of the trips that they name.
use Rattle.std.proofs.Common.{◌≡◌, ◌≢◌, ◌∙◌, sym, ap, subst, refl, ℕ, zero, suc, ◌<◌, Bool, true, false, List, [], ◌∷◌, get_or, map, length, Option, Some, None, arith}
use Rattle.std.specs.Prelude.{Ok, IfSome}
use Rattle.std.proofs.Math.Seq.{map-set_same}
use Rattle.std.proofs.lemmas.Bool.{false≢true}
use Rattle.std.proofs.lemmas.List.{get_or-map, get_or-set_other, length-map}
use Rattle.tb_base.specs.TimetableData.{TimetableData, TripData, no_trip}
use Rattle.late_edit.specs.Updated.{IsUpdated, bare_event, bare_trip}
use Rattle.late_edit.specs.Amended.{amended, amended_trips, trip_named, trips_after, with_events, with_trips}
use Rattle.late_edit.specs.Finding.{MarksNamed}
use Rattle.late_edit.specs.Touched.{MarksOthers}
use Rattle.late_edit.specs.declared.update.Update.{Update}
use Rattle.late_edit.proofs.AmendedTrips.{IsOneUpdated, after_ok, kept_by_all, one_updated}
use Rattle.late_edit.proofs.Finds.{named_set}
use Rattle.late_edit.proofs.SameEvents.{same_events}

bare_step : (T : TimetableData) (u : Update) (trips ms : List TripData) → IsOneUpdated u trips ms → map bare_trip T.trips ≡ map bare_trip trips → map bare_trip T.trips ≡ map bare_trip ms
bare_step T u trips ms one so_far =
    let t = get_or trips one.trip no_trip in
    let events : map bare_event one.events ≡ map bare_event t.events = one.new.bare in
    let trip : bare_trip (with_events t one.events) ≡ bare_trip t = λ i. record { name = t.name; day = t.day; events = events i } in
    so_far ∙ sym (ap (map bare_trip) one.is ∙ map-set_same bare_trip trips one.trip (with_events t one.events) no_trip trip)

pub is_updated : (T U : TimetableData) (updates : List Update) → amended T updates ≡ Ok U → IsUpdated T U
is_updated T U updates h =
    let w = after_ok (amended_trips updates T.trips) (λ trips. Ok (with_trips T trips)) U h in
    let is : with_trips T w.0 ≡ U = (let k : Ok (with_trips T w.0) ≡ Ok U = w.2 in cc) in
    let same : map bare_trip T.trips ≡ map bare_trip w.0 = kept_by_all (λ trips. map bare_trip T.trips ≡ map bare_trip trips) (bare_step T) updates T.trips w.0 w.1 refl in
    record {
      stops = ap (λ (V : TimetableData). V.stops) is;
      stations = ap (λ (V : TimetableData). V.stations) is;
      trips = same ∙ ap (λ (V : TimetableData). map bare_trip V.trips) is;
      footpaths = ap (λ (V : TimetableData). V.footpaths) is;
    }

-- ---- the trips that aren't named

-- after one update all updates name the same trips as before
named_after : (u : Update) (trips ms : List TripData) → IsOneUpdated u trips ms → (v : Update) → trip_named ms v ≡ trip_named trips v
named_after u trips ms one v =
    ap (λ (ts : List TripData). trip_named ts v) one.is
    ∙ named_set trips one.trip (with_events (get_or trips one.trip no_trip) one.events) no_trip refl refl v

-- a trip that no update names is the same after all
unnamed_same : (updates : List Update) (trips ms : List TripData) (t : ℕ) → amended_trips updates trips ≡ Ok ms → ((k : ℕ) (d : Update) → k < length updates → trip_named trips (get_or updates k d) ≡ Some t → ⊥) → get_or ms t no_trip ≡ get_or trips t no_trip
unnamed_same [] trips ms t h none = (let e : Ok trips ≡ Ok ms = h in let f : trips ≡ ms = cc in ap (λ (ts : List TripData). get_or ts t no_trip) (sym f))
unnamed_same (u ∷ updates) trips ms t h none =
    let a = after_ok (trips_after u trips) (λ m. amended_trips updates m) ms h in
    let one = one_updated u trips a.0 a.1 in
    let other : t ≢ one.trip = λ e. none zero u (omega arith) (one.named ∙ ap (λ (n : ℕ). Some n) (sym e)) in
    unnamed_same updates a.0 ms t a.2 (λ k d below named. none (suc k) d (omega (arith, below)) (sym (named_after u trips a.0 one (get_or updates k d)) ∙ named))
    ∙ (ap (λ (ts : List TripData). get_or ts t no_trip) one.is ∙ get_or-set_other trips one.trip t (with_events (get_or trips one.trip no_trip) one.events) no_trip other)

-- where all that are named have a mark, no update names a trip without one
not_named : (trips : List TripData) (updates : List Update) (named : List (Option ℕ)) (marks : List Bool) (t : ℕ) → named ≡ map (trip_named trips) updates → MarksNamed (length trips) named marks → t < length trips → get_or marks t false ≡ false
    → (k : ℕ) (d : Update) → k < length updates → trip_named trips (get_or updates k d) ≡ Some t → ⊥
not_named trips updates named marks t names marked there off k d below is =
    let inside : k < length named = omega (arith, below, ap length names, length-map updates (trip_named trips)) in
    let at : get_or named k None ≡ Some t = ap (λ os. get_or os k None) names ∙ (get_or-map (trip_named trips) updates k d None below ∙ is) in
    let on : IfSome (Some t) (λ n. n < length trips → get_or marks n false ≡ true) = subst (λ o. IfSome o (λ n. n < length trips → get_or marks n false ≡ true)) at (marked.marked k None inside) in
    false≢true (sym off ∙ on there)

-- and all of these have the same events
pub marks_others : (T U : TimetableData) (updates : List Update) (named : List (Option ℕ)) (marks : List Bool) → amended T updates ≡ Ok U → named ≡ map (trip_named T.trips) updates → MarksNamed (length T.trips) named marks → MarksOthers T U marks
marks_others T U updates named marks h names marked =
    let w = after_ok (amended_trips updates T.trips) (λ trips. Ok (with_trips T trips)) U h in
    let is : with_trips T w.0 ≡ U = (let k : Ok (with_trips T w.0) ≡ Ok U = w.2 in cc) in
    record {
      long = marked.long;
      same = λ t there off.
          same_events T U t
          (ap (λ (x : TripData). x.events) (sym (unnamed_same updates T.trips w.0 t w.1 (not_named T.trips updates named marks t names marked there off)))
          ∙ ap (λ (V : TimetableData). TripData.events (get_or V.trips t no_trip)) is);
    }
