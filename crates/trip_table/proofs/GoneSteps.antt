-- Marks at the trips that are left out for their stop times.
use Rattle.std.proofs.Common.{◌≡◌, ◌∙◌, sym, ap, ℕ, List, [], length, replicate, Bool, false, Option}
use Rattle.std.specs.Prelude.{IfOk, Result, Ok, Err}
use Rattle.gtfs_rows.specs.StopsFile.{StopData}
use Rattle.gtfs_rows.specs.TripsFile.{TripData}
use Rattle.gtfs_rows.specs.declared.fault.FeedFault.{FeedFault}
use Rattle.gtfs_rows.specs.declared.fault.RowsFault.{RowsFault}
use Rattle.service_trips.specs.Broken.{broken_trips}
use Rattle.service_trips.specs.declared.broken.TripFault.{TripFault}
use Rattle.service_trips.specs.declared.stop_time.StopTime.{StopTime}
use Rattle.trip_table.specs.LeftFeed.{apart_times, bad_time, gone_trips, good_time, left_or_none, mark_trips, marks_apart, found_or_none, times_in, twins, without_trips}
use Rattle.trip_table.specs.Sieves.{Sieved, after, ended}

-- the trips of which a row is bad, and then those that repeat a number
pub marks_made : (n : ℕ) (found doubled : List TripFault) (rows named : List StopTime) (first second third : List Bool) (bad : Result (List TripFault) FeedFault) (good : Result (List StopTime) FeedFault) → bad ≡ Ok found → good ≡ Ok rows → named ≡ without_trips found rows → doubled ≡ twins [] named
    → first ≡ replicate n false → second ≡ mark_trips found first → third ≡ mark_trips doubled second → third ≡ marks_apart n (found_or_none bad) (found_or_none good)
marks_made n found doubled rows named first second third bad good b g kept again none one two =
    two ∙ ap (mark_trips doubled) (one ∙ ap (mark_trips found) none) ∙ ap (λ d. mark_trips d (mark_trips found (replicate n false))) (again ∙ ap (twins []) kept)
    ∙ sym (ap (λ m. marks_apart n (found_or_none m) (found_or_none good)) b ∙ ap (λ m. marks_apart n found (found_or_none m)) g)

-- what a look leaves
left_is : {A : Type 0} (before mid : List FeedFault) (s : Sieved (List A)) (xs : List A) → after before s ≡ ended mid (Ok xs) → left_or_none s ≡ xs
left_is {A} before mid s xs e = ap (λ (s : Sieved (List A)). found_or_none s.end) e

-- and then those with whose times something is wrong
pub gone_given : {X : Type 0} (stops : List StopData) (trips : List TripData) (text : Option (List ℕ)) (apart : List StopTime) (marks : List Bool) (before mid : List FeedFault) (view : X → List Bool) (result : Result X RowsFault) → after before (apart_times stops trips text) ≡ ended mid (Ok apart)
    → marks ≡ marks_apart (length trips) (left_or_none (times_in (bad_time stops trips) text)) (left_or_none (times_in (good_time stops trips) text)) → IfOk result (λ left. view left ≡ mark_trips (broken_trips apart (length trips)) marks) → IfOk result (λ left. view left ≡ gone_trips stops trips text)
gone_given stops trips text apart marks before mid view (Ok left) e m h =
    h ∙ ap (mark_trips (broken_trips apart (length trips))) m
    ∙ ap (λ rows. mark_trips (broken_trips rows (length trips)) (marks_apart (length trips) (left_or_none (times_in (bad_time stops trips) text)) (left_or_none (times_in (good_time stops trips) text)))) (sym (left_is before mid (apart_times stops trips text) apart e))
gone_given stops trips text apart marks before mid view (Err f) e m h = tt
