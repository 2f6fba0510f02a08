-- Trips that updates change stay sound.
use Rattle.std.proofs.Common.{◌≡◌, ◌∙◌, sym, ap, subst, refl, ℕ, ◌<◌, ◌≤◌, List, [], ◌∷◌, length, get_or, set, Some, None, Option, arith}
use Rattle.std.specs.Prelude.{All, Result, Ok, Err, sum_by}
use Rattle.std.specs.Option.{ok_or}
use Rattle.std.proofs.lemmas.List.{length-set}
use Rattle.std.proofs.lemmas.List.Elements.{All-set}
use Rattle.std.proofs.lemmas.List.Quantifiers.{position-Some}
use Rattle.std.proofs.lemmas.List.Sums.{sum_by-set}
use Rattle.gtfs_rows.specs.Steps.{and_then}
use Rattle.tb_base.specs.declared.table.Event.{Event}
use Rattle.tb_base.specs.Soundness.{IsSound, IsSoundTrip}
use Rattle.tb_base.specs.TimetableData.{TimetableData, TripData, no_trip}
use Rattle.late_edit.specs.Amended.{amended_trips, events_after, is_named, trip_named, trips_after, trips_updated, with_events, with_trips}
use Rattle.late_edit.specs.Finding.{IsTimedEvent}
use Rattle.late_edit.specs.Updates.{day_of, line_of, trip_of}
use Rattle.late_edit.specs.declared.late.LateFault.TheVariants as fault
use Rattle.late_edit.specs.declared.update.Update.{Update}
use Rattle.late_edit.proofs.NewEvents.{IsNewEvents, new_events}

pub timed_set : (trips : List TripData) (t : ℕ) (x : TripData) (ms : List Event) → x.events ≡ ms → All IsTimedEvent ms → All (λ u. All IsTimedEvent (TripData.events u)) trips → All (λ u. All IsTimedEvent (TripData.events u)) (set trips t x)
timed_set trips t x ms is h all = All-set (λ u. All IsTimedEvent (TripData.events u)) trips t x (subst (All IsTimedEvent) (sym is) h) all

-- one trip has new events
pub record IsOneUpdated (u : Update) (trips after : List TripData) : Type 0 where
  pub trip : ℕ
  pub events : List Event
  pub named : trip_named trips u ≡ Some trip
  pub inside : trip < length trips
  pub new : IsNewEvents (get_or trips trip no_trip).events events
  pub is : after ≡ set trips trip (with_events (get_or trips trip no_trip) events)

pub after_ok : {A B E : Type 0} (r : Result A E) (next : A → Result B E) (y : B) → and_then r next ≡ Ok y → (x : A) × (r ≡ Ok x) × (next x ≡ Ok y)
after_ok (Ok x) next y h = (x, refl, h)
after_ok (Err e) next y h = absurd (let k : Err e ≡ Ok y = h in cc)

some_ok : {A E : Type 0} (o : Option A) (e : E) (x : A) → ok_or o e ≡ Ok x → o ≡ Some x
some_ok (Some y) e x h = (let k : Ok y ≡ Ok x = h in let s : y ≡ x = cc in ap (λ z. Some z) s)
some_ok None e x h = absurd (let k : Err e ≡ Ok x = h in cc)

pub one_updated : (u : Update) (trips ms : List TripData) → trips_after u trips ≡ Ok ms → IsOneUpdated u trips ms
one_updated u trips ms h =
    let a = after_ok (ok_or (trip_named trips u) (fault.UnknownTrip (line_of u))) (λ t. trips_updated u trips t) ms h in
    let named = some_ok (trip_named trips u) (fault.UnknownTrip (line_of u)) a.0 a.1 in
    let t = get_or trips a.0 no_trip in
    let b = after_ok (events_after u t.events) (λ events. Ok (set trips a.0 (with_events t events))) ms a.2 in
    record {
      trip = a.0;
      events = b.0;
      named = named;
      inside = (position-Some (is_named (day_of u) (trip_of u)) trips a.0 no_trip named).0;
      new = new_events u t.events b.0 b.1;
      is = (let e : Ok (set trips a.0 (with_events t b.0)) ≡ Ok ms = b.2 in let f : set trips a.0 (with_events t b.0) ≡ ms = cc in sym f);
    }

-- what holds of trips after each update holds after all
pub kept_by_all : (P : List TripData → Type 0) → ((u : Update) (trips ms : List TripData) → IsOneUpdated u trips ms → P trips → P ms) → (updates : List Update) (trips ms : List TripData) → amended_trips updates trips ≡ Ok ms → P trips → P ms
kept_by_all P step [] trips ms h p = (let e : Ok trips ≡ Ok ms = h in let f : trips ≡ ms = cc in subst P f p)
kept_by_all P step (u ∷ updates) trips ms h p =
    let a = after_ok (trips_after u trips) (λ m. amended_trips updates m) ms h in
    kept_by_all P step updates a.0 ms a.2 (step u trips a.0 (one_updated u trips a.0 a.1) p)

-- as many trips with as many events, each sound
record AreSoundTrips (n trip_count event_count : ℕ) (trips : List TripData) : Type 0 where
  pub count : length trips ≡ trip_count
  pub events : sum_by (λ t. length (TripData.events t)) trips ≡ event_count
  pub sound : All (IsSoundTrip n) trips

stay_sound : (n c e : ℕ) (u : Update) (trips ms : List TripData) → IsOneUpdated u trips ms → AreSoundTrips n c e trips → AreSoundTrips n c e ms
stay_sound n c e u trips ms one h =
    let t = get_or trips one.trip no_trip in
    let new_trip = with_events t one.events in
    let long : length one.events ≡ length t.events = one.new.long in
    subst (AreSoundTrips n c e) (sym one.is) (record {
      count = length-set trips one.trip new_trip ∙ h.count;
      events = (let s = sum_by-set (λ (u : TripData). length u.events) trips one.trip new_trip no_trip one.inside in let k = h.events in omega (arith, s, k, long));
      sound = All-set (IsSoundTrip n) trips one.trip new_trip (one.new.sound n t refl (h.sound one.trip no_trip one.inside)) h.sound;
    })

-- the amended timetable is sound
pub sound_amended : (T : TimetableData) (updates : List Update) (ms : List TripData) → IsSound T → amended_trips updates T.trips ≡ Ok ms → IsSound (with_trips T ms)
sound_amended T updates ms sound h =
    let n = length T.stops in
    let count = length T.trips in
    let events = sum_by (λ t. length (TripData.events t)) T.trips in
    let k : AreSoundTrips n count events ms = kept_by_all (AreSoundTrips n count events) (stay_sound n count events) updates T.trips ms h (record { count = refl; events = refl; sound = sound.trip }) in
    record {
      stops = sound.stops;
      stations = sound.stations;
      trips = subst (λ m. m ≤ 500000) (sym k.count) sound.trips;
      events = subst (λ m. m ≤ 10000000) (sym k.events) sound.events;
      named = sound.named;
      distinct = sound.distinct;
      station = sound.station;
      trip = k.sound;
      change_times = sound.change_times;
      footpaths = sound.footpaths;
      law = sound.law;
    }
