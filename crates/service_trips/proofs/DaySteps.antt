-- The trips of service days, one day after another.
use Rattle.std.proofs.Common.{◌≡◌, ◌∙◌, sym, ap, subst, ℕ, ◌+◌, ◌<◌, ◌≤◌, List, [], ◌∷◌, ◌++◌, length, take, get_or, append-nil, Bool}
use Rattle.std.specs.List.{flat_map}
use Rattle.std.proofs.lemmas.Grind.{flat_map-append}
use Rattle.std.proofs.lemmas.List.{take_more, take_all}
use Rattle.tb_base.specs.declared.days.ServiceDay.{ServiceDay}
use Rattle.tb_base.specs.TimetableData.{TripData}
use Rattle.service_trips.specs.declared.size.Size.{Size}
use Rattle.service_trips.specs.ServiceDay.{FeedTrips, service_trips}
use Rattle.service_trips.specs.Sizes.{IsSize}
use Rattle.service_trips.specs.TimetableTrips.{DayRunsData, shown, timetable_trips}

-- one service day more
day_more : (feed : FeedTrips) (days : List DayRunsData) (i : ℕ) (d : DayRunsData) → i < length days → d ≡ get_or days i d
    → timetable_trips feed (take (i + 1) days) ≡ timetable_trips feed (take i days) ++ shown d.day (service_trips feed d.runs)
day_more feed days i d below at =
    let one : DayRunsData → List TripData = λ d. shown d.day (service_trips feed d.runs) in
    ap (flat_map one) (take_more days i d below ∙ ap (λ (x : DayRunsData). take i days ++ x ∷ []) (sym at))
    ∙ flat_map-append one (take i days) (d ∷ [])
    ∙ ap (λ last. timetable_trips feed (take i days) ++ last) (append-nil (one d))

pub trips_more : (feed : FeedTrips) (days : List DayRunsData) (i : ℕ) (d : DayRunsData) (day : ServiceDay) (runs : List Bool) (done new : List TripData) → i < length days → d ≡ get_or days i d → day ≡ d.day → runs ≡ d.runs
    → done ≡ timetable_trips feed (take i days) → new ≡ done ++ shown day (service_trips feed runs) → new ≡ timetable_trips feed (take (i + 1) days)
trips_more feed days i d day runs done new below at is_day are so_far added =
    added ∙ (λ k. so_far k ++ shown (is_day k) (service_trips feed (are k))) ∙ sym (day_more feed days i d below at)

pub size_more : (feed : FeedTrips) (days : List DayRunsData) (i : ℕ) (d : DayRunsData) (day : ServiceDay) (runs : List Bool) (so_far one size : Size) → i < length days → d ≡ get_or days i d → day ≡ d.day → runs ≡ d.runs
    → ((xs ys : List TripData) → IsSize xs so_far → IsSize ys one → IsSize (xs ++ ys) size)
    → IsSize (timetable_trips feed (take i days)) so_far → IsSize (shown day (service_trips feed runs)) one → IsSize (timetable_trips feed (take (i + 1) days)) size
size_more feed days i d day runs so_far one size below at is_day are plus is more =
    subst (λ trips. IsSize trips size) ((λ k. timetable_trips feed (take i days) ++ shown (is_day k) (service_trips feed (are k))) ∙ sym (day_more feed days i d below at))
    (plus (timetable_trips feed (take i days)) (shown day (service_trips feed runs)) is more)

pub all_days : (feed : FeedTrips) (days : List DayRunsData) (i : ℕ) → length days ≤ i → timetable_trips feed (take i days) ≡ timetable_trips feed days
all_days feed days i past = ap (timetable_trips feed) (take_all i days past)
