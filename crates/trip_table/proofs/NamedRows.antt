-- The rows of frequencies.txt, each of which names a trip.
use Rattle.std.proofs.Common.{◌≡◌, ◌∙◌, refl, sym, ap, ℕ, suc, ◌+◌, ◌<◌, ◌≤◌, List, [], ◌∷◌, map, drop, length, get_or, drop-cons, add-one, true, false, inl, inr, arith}
use Rattle.std.specs.Prelude.{All, Result, Ok, Err, nat_le}
use Rattle.std.proofs.Math.ListN.{drop_of_length-le}
use Rattle.std.proofs.lemmas.Bool.{cases_Bool}
use Rattle.std.proofs.lemmas.Bool.Decides.{nat_tests}
use Rattle.std.proofs.lemmas.List.Elements.{All-cons, All-nil}
use Rattle.gtfs_rows.specs.Faults.{unless_wrong, spot}
use Rattle.gtfs_rows.specs.TripsFile.{TripData}
use Rattle.gtfs_rows.specs.declared.fault.FeedFile.TheVariants as file
use Rattle.gtfs_rows.specs.declared.fault.FeedFault.{FeedFault}
use Rattle.gtfs_rows.specs.declared.fault.FeedFault.TheVariants as fault
use Rattle.service_trips.specs.declared.frequency.TripFrequency.{TripFrequency}
use Rattle.trip_table.specs.References.{unknown_trip, check_named}

abbrev pub from_place : List TripData → List TripFrequency → ℕ → Result (List TripFrequency) FeedFault
from_place trips rows i = unless_wrong (map (unknown_trip trips) (drop i rows)) rows

-- a row that names no trip is the first that is wrong
pub unnamed : (trips : List TripData) (rows : List TripFrequency) (i : ℕ) (f : TripFrequency) → i < length rows → f ≡ get_or rows i f → length trips ≤ f.trip_row → check_named trips rows ≡ from_place trips rows i
    → check_named trips rows ≡ Err (fault.UnknownTrip (spot file.Frequencies f.row 1))
unnamed trips rows i f below at none so_far =
    let next : drop i rows ≡ f ∷ drop (suc i) rows = drop-cons rows i f below ∙ ap (λ g. g ∷ drop (suc i) rows) (sym at) in
    let test : nat_le (length trips) f.trip_row ≡ true = grind (arith, nat_tests, none) in
    so_far ∙ rw (next, test) refl

-- one that names a trip is passed
pub named : (trips : List TripData) (rows : List TripFrequency) (i : ℕ) (f : TripFrequency) → i < length rows → f ≡ get_or rows i f → f.trip_row < length trips → check_named trips rows ≡ from_place trips rows i → check_named trips rows ≡ from_place trips rows (i + 1)
named trips rows i f below at some so_far =
    let next : drop i rows ≡ f ∷ drop (suc i) rows = drop-cons rows i f below ∙ ap (λ g. g ∷ drop (suc i) rows) (sym at) in
    let test : nat_le (length trips) f.trip_row ≡ false = grind (arith, nat_tests, some) in
    so_far ∙ rw (next, test, add-one i) refl

pub all_named : (trips : List TripData) (rows : List TripFrequency) (i : ℕ) → length rows ≤ i → check_named trips rows ≡ from_place trips rows i → check_named trips rows ≡ Ok rows
all_named trips rows i past so_far =
    let none : drop i rows ≡ [] = drop_of_length-le rows past in
    so_far ∙ rw none refl

-- rows that pass name trips
known_by : (trips : List TripData) (fs rows rows' : List TripFrequency) → unless_wrong (map (unknown_trip trips) fs) rows ≡ Ok rows' → All (λ f. TripFrequency.trip_row f < length trips) fs
known_by trips [] rows rows' ok = All-nil (λ f. TripFrequency.trip_row f < length trips)
known_by trips (f ∷ fs) rows rows' ok =
    elim (cases_Bool (nat_le (length trips) f.trip_row)) [
      | inl t ↦ absurd (let h = rw t at ok in cc)
      | inr e ↦ All-cons (λ f. TripFrequency.trip_row f < length trips) f fs (grind (arith, nat_tests, e)) (known_by trips fs rows rows' (rw e at ok))
    ]

pub known : (trips : List TripData) (rows : List TripFrequency) → check_named trips rows ≡ Ok rows → All (λ f. TripFrequency.trip_row f < length trips) rows
known trips rows ok = known_by trips rows rows rows ok
