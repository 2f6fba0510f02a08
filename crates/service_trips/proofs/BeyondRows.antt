-- The rows of frequencies.txt, looked at one after another.
use Rattle.std.proofs.Common.{◌≡◌, ◌∙◌, refl, sym, ap, ℕ, suc, ◌+◌, ◌<◌, ◌≤◌, List, [], ◌∷◌, map, drop, length, get_or, drop-cons, drop_of_length-le, add-one, true, false}
use Rattle.std.specs.Prelude.{All, Result, Ok, Err}
use Rattle.std.proofs.lemmas.List.{get_or-map}
use Rattle.tb_base.specs.declared.table.Event.{Event}
use Rattle.gtfs_rows.specs.Faults.{unless_wrong, spot}
use Rattle.gtfs_rows.specs.declared.fault.FeedFile.TheVariants as file
use Rattle.gtfs_rows.specs.declared.fault.FeedFault.{FeedFault}
use Rattle.gtfs_rows.specs.declared.fault.FeedFault.TheVariants as fault
use Rattle.service_trips.specs.declared.frequency.TripFrequency.{TripFrequency}
use Rattle.service_trips.specs.Starts.{frequency_at}
use Rattle.service_trips.specs.ServiceDay.{FeedTrips, ride_of_trip}
use Rattle.service_trips.specs.Limits.{moves_beyond, wrong_frequency, check_frequencies}

-- what is wrong with the rows from a place on
abbrev pub from_place : FeedTrips → ℕ → Result (List TripFrequency) FeedFault
from_place feed i = unless_wrong (map (wrong_frequency feed) (drop i feed.frequencies)) feed.frequencies

next_row : (feed : FeedTrips) (i : ℕ) → i < length feed.frequencies → drop i feed.frequencies ≡ frequency_at feed.frequencies i ∷ drop (suc i) feed.frequencies
next_row feed i below = drop-cons feed.frequencies i _ below

-- a row that moves a time beyond the limits is the first that is wrong
pub row_beyond : (feed : FeedTrips) (found : List TripFrequency) (i : ℕ) (ride : List Event) → i < length found → found ≡ feed.frequencies → ride ≡ ride_of_trip feed (TripFrequency.trip_row (frequency_at found i)) → moves_beyond ride (frequency_at found i) ≡ true
    → check_frequencies feed ≡ from_place feed i → check_frequencies feed ≡ Err (fault.BeyondDay (spot file.Frequencies (TripFrequency.row (frequency_at found i)) 2))
row_beyond feed found i ride below is at beyond so_far =
    let inside : i < length feed.frequencies = rw is at below in
    let test : moves_beyond (ride_of_trip feed (TripFrequency.trip_row (frequency_at feed.frequencies i))) (frequency_at feed.frequencies i) ≡ true = rw (at, is) at beyond in
    so_far ∙ rw (next_row feed i inside, test, is) refl

-- one that keeps within them is passed
pub row_within : (feed : FeedTrips) (found : List TripFrequency) (i : ℕ) (ride : List Event) → i < length found → found ≡ feed.frequencies → ride ≡ ride_of_trip feed (TripFrequency.trip_row (frequency_at found i)) → moves_beyond ride (frequency_at found i) ≡ false
    → check_frequencies feed ≡ from_place feed i → check_frequencies feed ≡ from_place feed (i + 1)
row_within feed found i ride below is at within so_far =
    let inside : i < length feed.frequencies = rw is at below in
    let test : moves_beyond (ride_of_trip feed (TripFrequency.trip_row (frequency_at feed.frequencies i))) (frequency_at feed.frequencies i) ≡ false = rw (at, is) at within in
    so_far ∙ rw (next_row feed i inside, test, add-one i) refl

-- all are passed
pub rows_within : (feed : FeedTrips) (found : List TripFrequency) (i : ℕ) → length found ≤ i → found ≡ feed.frequencies → check_frequencies feed ≡ from_place feed i → check_frequencies feed ≡ Ok feed.frequencies
rows_within feed found i past is so_far =
    let none : drop i feed.frequencies ≡ [] = drop_of_length-le feed.frequencies (rw is at past) in
    so_far ∙ rw none refl

-- the ride of the trip that a row names
pub ride_found : {V : Type 0} (items : V → List Event) (feed : FeedTrips) (rides : List V) (found : List TripFrequency) (i trips : ℕ) (v : V) (ride : List Event) → i < length found → found ≡ feed.frequencies
    → All (λ f. TripFrequency.trip_row f < trips) feed.frequencies → trips ≡ length rides → feed.rides ≡ map items rides → ride ≡ items v → v ≡ get_or rides (TripFrequency.trip_row (frequency_at found i)) v
    → ride ≡ ride_of_trip feed (TripFrequency.trip_row (frequency_at found i))
ride_found items feed rides found i trips v ride below is within many are value at =
    let k = TripFrequency.trip_row (frequency_at found i) in
    let here : TripFrequency.trip_row (frequency_at feed.frequencies i) < trips = within i _ (rw is at below) in
    let inside : k < length rides = rw (← is, many) at here in
    value ∙ ap items at ∙ sym (get_or-map items rides k v [] inside) ∙ ap (λ all. get_or all k []) (sym are)
