-- One trip on.
use Rattle.std.proofs.Common.{◌≡◌, ◌∙◌, sym, ap, ℕ, suc, ◌+◌, ◌-◌, ◌<◌, List, [], ◌∷◌, ◌++◌, length, map, get_or, Bool, false, Some, None, arith}
use Rattle.std.specs.Prelude.{Ok, Err}
use Rattle.std.specs.Option.{option_or}
use Rattle.std.proofs.lemmas.List.{map_push}
use Rattle.std.proofs.lemmas.List.FromFn.{map-range_with_len_more}
use Rattle.tb_base.specs.declared.table.Event.{Event}
use Rattle.gtfs_rows.specs.declared.fault.FeedFault.{FeedFault}
use Rattle.service_trips.specs.declared.stop_time.StopTime.{StopTime}
use Rattle.service_trips.specs.Faults.{first_wrong}
use Rattle.service_trips.specs.StopTimes.{stop_times}
use Rattle.service_trips.specs.TimeFaults.{wrong_trip_times, wrong_trips}
use Rattle.service_trips.specs.Rides.{ride_in, ride_on, rides_on, checked_rides}
use Rattle.service_trips.proofs.FirstWrong.{first_wrong-append, unless_wrong-some, unless_wrong-none}

-- what is wrong with a trip, before the trips after it
trips_more : (rows : List StopTime) (trip count : ℕ) → trip < count
    → first_wrong (wrong_trips rows trip (count - trip)) ≡ option_or (first_wrong (wrong_trip_times (stop_times rows trip))) (first_wrong (wrong_trips rows (trip + 1) (count - (trip + 1))))
trips_more rows trip count h =
    let left : count - trip ≡ suc (count - (trip + 1)) = omega arith in
    ap (λ n. first_wrong (wrong_trips rows trip n)) left ∙ first_wrong-append (wrong_trip_times (stop_times rows trip)) (wrong_trips rows (trip + 1) (count - (trip + 1)))

-- a trip with which nothing is wrong
pub trip_right : (rows ordered : List StopTime) (trip count : ℕ) → trip < count → ordered ≡ stop_times rows trip → None ≡ first_wrong (wrong_trip_times ordered)
    → first_wrong (wrong_trips rows 0 count) ≡ first_wrong (wrong_trips rows trip (count - trip)) → first_wrong (wrong_trips rows 0 count) ≡ first_wrong (wrong_trips rows (trip + 1) (count - (trip + 1)))
trip_right rows ordered trip count h e right before =
    before ∙ trips_more rows trip count h ∙ ap (λ o. option_or o (first_wrong (wrong_trips rows (trip + 1) (count - (trip + 1))))) (sym (right ∙ ap (λ ordered. first_wrong (wrong_trip_times ordered)) e))

-- a trip with which something is wrong
pub trip_fault : (rows ordered : List StopTime) (runs : List Bool) (trip : ℕ) (f : FeedFault) → trip < length runs → ordered ≡ stop_times rows trip → Some f ≡ first_wrong (wrong_trip_times ordered)
    → first_wrong (wrong_trips rows 0 (length runs)) ≡ first_wrong (wrong_trips rows trip (length runs - trip)) → checked_rides rows runs ≡ Err f
trip_fault rows ordered runs trip f h e wrong before =
    let found : first_wrong (wrong_trips rows 0 (length runs)) ≡ Some f =
    before ∙ trips_more rows trip (length runs) h ∙ ap (λ o. option_or o (first_wrong (wrong_trips rows (trip + 1) (length runs - (trip + 1))))) (sym (wrong ∙ ap (λ ordered. first_wrong (wrong_trip_times ordered)) e)) in
    unless_wrong-some (wrong_trips rows 0 (length runs)) f (rides_on rows runs (length runs)) found

-- after the last trip nothing is wrong
pub all_right : (rows : List StopTime) (runs : List Bool) (trip : ℕ) (rides : List (List Event)) → trip ≡ length runs
    → first_wrong (wrong_trips rows 0 (length runs)) ≡ first_wrong (wrong_trips rows trip (length runs - trip)) → rides ≡ rides_on rows runs trip → checked_rides rows runs ≡ Ok rides
all_right rows runs trip rides e right made =
    let none : length runs - trip ≡ 0 = omega arith in
    let found : first_wrong (wrong_trips rows 0 (length runs)) ≡ None = right ∙ ap (λ n. first_wrong (wrong_trips rows trip n)) none in
    unless_wrong-none (wrong_trips rows 0 (length runs)) (rides_on rows runs (length runs)) found ∙ ap Ok (sym (made ∙ ap (rides_on rows runs) e))

-- the events of one trip more
pub rides_more : {V : Type 0} (events : V → List Event) (rows ordered : List StopTime) (runs : List Bool) (trip : ℕ) (rides new : List V) (ride : V)
    → ordered ≡ stop_times rows trip → events ride ≡ ride_in (get_or runs trip false) ordered → map events rides ≡ rides_on rows runs trip → new ≡ rides ++ ride ∷ [] → map events new ≡ rides_on rows runs (trip + 1)
rides_more events rows ordered runs trip rides new ride o r made n =
    let here : events ride ≡ ride_on rows runs trip = r ∙ ap (ride_in (get_or runs trip false)) o in
    ap (map events) n ∙ map_push events rides ride ∙ rw (made, here) (sym (map-range_with_len_more (ride_on rows runs) 0 trip trip (omega arith)))
