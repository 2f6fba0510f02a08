-- A timetable with a farther horizon has all that one with a nearer horizon has.
use Rattle.std.proofs.Common.{◌≡◌, ◌∙◌, sym, ap, refl, subst, ℕ, zero, suc, List, [], ◌∷◌, map, length, get_or, arith}
use Rattle.std.specs.Prelude.{All, Bool, Contains, nat_lt, Result, Ok, Err}
use Rattle.std.specs.List.{flat_map}
use Rattle.std.proofs.lemmas.List.{get_or-map, length-map}
use Rattle.std.proofs.lemmas.List.Elements.{All-append, All-cons, All-head, All-nil, All-tail, Contains-append_left, Contains-append_right, Contains-get_or}
use Rattle.tb_base.specs.TimetableData.{FootpathData, TimetableData, TripData}
use Rattle.tb_base.specs.ServiceDays.{service_days}
use Rattle.tb_base.specs.Wider.{HasAllOf}
use Rattle.tb_base.specs.declared.days.ServiceDay.{ServiceDay}
use Rattle.gtfs_rows.specs.Faults.{fault_if}
use Rattle.gtfs_rows.specs.Steps.{and_then}
use Rattle.gtfs_rows.specs.StopsFile.{StopData}
use Rattle.gtfs_rows.specs.TransfersFile.{TransferData}
use Rattle.gtfs_rows.specs.declared.fault.FeedFault.{FeedFault}
use Rattle.gtfs_rows.specs.declared.fault.FeedFault.TheVariants as fault
use Rattle.gtfs_rows.specs.declared.fault.Many.TheVariants as many
use Rattle.footpaths.specs.declared.paths.Options.{Options}
use Rattle.service_trips.specs.Limits.{check_frequencies, checked_trips}
use Rattle.service_trips.specs.ServiceDay.{FeedTrips}
use Rattle.service_trips.specs.Sizes.{check_size, event_count}
use Rattle.service_trips.specs.TimetableTrips.{DayRunsData, timetable_trips}
use Rattle.trip_table.specs.Day.{AreClosedOrTested, DayParts, IsTimetableOf, IsTimetableOfParts, Then, day_parts, given_footpaths, parts_after_rows, rides_of_rows, runs_of, timetable, trips_on}
use Rattle.trip_table.specs.Farther.{IsNoNearer}
use Rattle.trip_table.specs.Feed.{Feed}
use Rattle.trip_table.specs.References.{Rows, frequencies_of, rows_of, transfers_of_feed}
use Rattle.trip_table.proofs.DayTrips.{unless_wrong-value}
use Rattle.trip_table.proofs.Determined.{settled_unique}
use Rattle.trip_table.proofs.Steps.{one_value, stepped}

-- what the members of a list give is among what those of another give that has them
module _ {A B : Type 0} (f : A → List B) where
  given_by : (ys : List A) (x : A) → Contains ys x → (b : B) → Contains (f x) b → Contains (flat_map f ys) b
  given_by [] x (k, below, at) b has = absurd (omega (arith, below))
  given_by (y ∷ ys) x (zero, below, at) b has = Contains-append_left (f y) (flat_map f ys) b (subst (λ z. Contains (f z) b) (sym at) has)
  given_by (y ∷ ys) x (suc k, below, at) b has = Contains-append_right (f y) (flat_map f ys) b (given_by ys x (k, omega (arith, below), at) b has)

  given_by_all : (ys xs : List A) → All (Contains ys) xs → All (Contains (flat_map f ys)) (flat_map f xs)
  given_by_all ys [] have = All-nil (Contains (flat_map f ys))
  given_by_all ys (x ∷ xs) have =
      All-append (Contains (flat_map f ys)) (f x) (flat_map f xs)
      (λ i d below. given_by ys x (All-head (Contains ys) x xs have) (get_or (f x) i d) (Contains-get_or (f x) i d below))
      (given_by_all ys xs (All-tail (Contains ys) x xs have))

module _ {A B : Type 0} (g : A → B) where
  mapped : (ys : List A) (x : A) → Contains ys x → Contains (map g ys) (g x)
  mapped ys x (k, below, at) =
      let long = length-map ys g in
      (k, omega (arith, below, long), get_or-map g ys k x (g x) below ∙ ap g at)

  all_mapped : (ys xs : List A) → All (Contains ys) xs → All (Contains (map g ys)) (map g xs)
  all_mapped ys [] have = All-nil (Contains (map g ys))
  all_mapped ys (x ∷ xs) have =
      All-cons (Contains (map g ys)) (g x) (map g xs) (mapped ys x (All-head (Contains ys) x xs have)) (all_mapped ys xs (All-tail (Contains ys) x xs have))

-- one step, and what two steps make of what it gives
both : {A B C : Type 0} (m : Result A FeedFault) (f : A → Result B FeedFault) (g : A → Result C FeedFault) (y : B) (z : C) → and_then m f ≡ Ok y → and_then m g ≡ Ok z → (x : A) × (m ≡ Ok x) × (f x ≡ Ok y) × (g x ≡ Ok z)
both (Err e) f g y z one other = absurd (cc)
both (Ok x) f g y z one other = (x, refl, one, other)

-- trips that pass their checks are those that are meant
passed : (feed : FeedTrips) (days : List DayRunsData) (trips : List TripData) → checked_trips feed days ≡ Ok trips → timetable_trips feed days ≡ trips
unfolding checked_trips
passed feed days trips e =
    let checked = stepped (check_frequencies feed) (λ _. check_size (timetable_trips feed days)) trips e in
    let meant = timetable_trips feed days in
    unless_wrong-value (fault_if (nat_lt 500000 (length meant)) (fault.TooMany many.RunningTrips 0) ∷ fault_if (nat_lt 10000000 (event_count meant)) (fault.TooMany many.Events 0) ∷ []) meant trips checked.2

-- the trips of a nearer horizon are among those of a farther one
trips_among : (rows : Rows) (feed : FeedTrips) (date : ℕ) (near far : List ServiceDay) (some more : List TripData) → All (Contains far) near
    → checked_trips feed (map (runs_of rows date) near) ≡ Ok some → checked_trips feed (map (runs_of rows date) far) ≡ Ok more → All (Contains more) some
trips_among rows feed date near far some more have one other =
    subst (λ ts. All (Contains ts) some) (passed feed (map (runs_of rows date) far) more other)
    (subst (λ ts. All (Contains (timetable_trips feed (map (runs_of rows date) far))) ts) (passed feed (map (runs_of rows date) near) some one)
    (given_by_all _ (map (runs_of rows date) far) (map (runs_of rows date) near) (all_mapped (runs_of rows date) far near have)))

-- the horizon has nothing to do with footpaths
same_given : (stops : List StopData) (near far : Options) (transfers : List TransferData) → near.change ≡ far.change → near.station ≡ far.station → given_footpaths stops near transfers ≡ given_footpaths stops far transfers
unfolding given_footpaths
same_given stops near far transfers change station =
    λ i. given_footpaths stops (record { change = change i; station = station i; close = near.close; horizon = near.horizon; lenient = near.lenient }) transfers

-- the parts of which a timetable is made
parts_of : (close : Bool) (meant : Result DayParts FeedFault) (T : TimetableData) → Then meant (IsTimetableOfParts close) (Ok T) → (parts : DayParts) × (meant ≡ Ok parts) × IsTimetableOfParts close parts (Ok T)
parts_of close (Ok parts) T is = (parts, refl, is)
parts_of close (Err f) T is = absurd (let no : Ok T ≡ Err f = is in cc)

-- two timetables of the same stops and footpaths
all_of : (stops : List StopData) (p q : DayParts) (F G : FootpathData) (T U : TimetableData) → p.stops ≡ stops → q.stops ≡ stops → T ≡ timetable p F → U ≡ timetable q G → F ≡ G → All (Contains q.trips) p.trips → HasAllOf U T
all_of stops p q F G T U one other t u same have =
    let parts : p.stops ≡ q.stops = one ∙ sym other in
    record {
      stops = ap (λ (T : TimetableData). T.stops) t ∙ (λ i. TimetableData.stops (timetable (record { stops = parts i; footpaths = p.footpaths; trips = p.trips }) F)) ∙ sym (ap (λ (T : TimetableData). T.stops) u);
      stations = ap (λ (T : TimetableData). T.stations) t ∙ (λ i. TimetableData.stations (timetable (record { stops = parts i; footpaths = p.footpaths; trips = p.trips }) F)) ∙ sym (ap (λ (T : TimetableData). T.stations) u);
      footpaths = ap (λ (T : TimetableData). T.footpaths) t ∙ same ∙ sym (ap (λ (T : TimetableData). T.footpaths) u);
      trips = subst (λ ts. All (Contains ts) T.trips) (sym (ap (λ (T : TimetableData). T.trips) u)) (subst (λ ts. All (Contains q.trips) ts) (sym (ap (λ (T : TimetableData). T.trips) t)) have);
    }

pub farther_has_all : (feed : Feed) (day : ℕ) (near far : Options) (T U : TimetableData) → IsNoNearer near far → IsTimetableOf feed day near (Ok T) → IsTimetableOf feed day far (Ok U) → HasAllOf U T
unfolding day_parts
farther_has_all feed day near far T U no_nearer is also =
    let p = parts_of near.close (day_parts feed day near) T is in
    let q = parts_of far.close (day_parts feed day far) U also in
    let rows = both (rows_of feed) (parts_after_rows feed day near) (parts_after_rows feed day far) p.0 q.0 p.1 q.1 in
    let transfers = both (transfers_of_feed feed rows.0.stops) _ _ p.0 q.0 rows.2 rows.3 in
    let frequencies = both (frequencies_of feed rows.0.trips) _ _ p.0 q.0 transfers.2 transfers.3 in
    let some = stepped (trips_on rows.0 frequencies.0 day near.horizon) _ p.0 frequencies.2 in
    let more = stepped (trips_on rows.0 frequencies.0 day far.horizon) _ q.0 frequencies.3 in
    let given = stepped (given_footpaths rows.0.stops near transfers.0) _ p.0 some.2 in
    let others = stepped (given_footpaths rows.0.stops far transfers.0) _ q.0 more.2 in
    let one = one_value (record { stops = rows.0.stops; footpaths = given.0; trips = some.0 }) p.0 given.2 in
    let other = one_value (record { stops = rows.0.stops; footpaths = others.0; trips = more.0 }) q.0 others.2 in
    let paths : given.0 ≡ others.0 = one_value given.0 others.0 (sym given.1 ∙ same_given rows.0.stops near far transfers.0 no_nearer.change no_nearer.station ∙ others.1) in
    let rides = both (rides_of_rows rows.0) _ _ some.0 more.0 some.1 more.1 in
    let trips = trips_among rows.0 _ day (service_days near.horizon) (service_days far.horizon) some.0 more.0 no_nearer.days rides.2 rides.3 in
    let settled = p.2 in
    let settled' = q.2 in
    let stops_p : p.0.stops ≡ rows.0.stops = ap (λ (d : DayParts). d.stops) (sym one) in
    let stops_q : q.0.stops ≡ rows.0.stops = ap (λ (d : DayParts). d.stops) (sym other) in
    let paths_p : p.0.footpaths ≡ given.0 = ap (λ (d : DayParts). d.footpaths) (sym one) in
    let paths_q : q.0.footpaths ≡ others.0 = ap (λ (d : DayParts). d.footpaths) (sym other) in
    let told : Ok settled.0 ≡ Ok settled'.0 =
    settled_unique far.close q.0.stops q.0.footpaths (Ok settled.0) (Ok settled'.0)
    (subst (λ (c : Bool). AreClosedOrTested c q.0.stops q.0.footpaths (Ok settled.0)) no_nearer.close
    (subst (λ (F : FootpathData). AreClosedOrTested near.close q.0.stops F (Ok settled.0)) (paths_p ∙ paths ∙ sym paths_q)
    (subst (λ (s : List StopData). AreClosedOrTested near.close s p.0.footpaths (Ok settled.0)) (stops_p ∙ sym stops_q) settled.1)))
    settled'.1 in
    all_of rows.0.stops p.0 q.0 settled.0 settled'.0 T U stops_p stops_q settled.2 settled'.2 (one_value settled.0 settled'.0 told)
    (subst (λ ts. All (Contains ts) p.0.trips) (ap (λ (d : DayParts). d.trips) other) (subst (λ ts. All (Contains more.0) ts) (ap (λ (d : DayParts). d.trips) one) trips))
