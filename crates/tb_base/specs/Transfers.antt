-- Transfers between trips: the candidates, the U-turns among them, and those that the reduction
-- keeps.
use Rattle.std.specs.Prelude.{ℕ, zero, suc, ◌+◌, ◌-◌, ◌==◌, ◌&&◌, ◌||◌, not, Bool, true, false, List, [], ◌∷◌, ◌++◌, length, map, drop, flat_map, filter_map, filter, find, fold, ℤ, pos, ◌+ℤ◌, int_le, int_lt, nat_le, nat_lt, if◌then◌else◌, Option, Some, None, slice_index_or, is_some}
use Rattle.std.specs.List.{list_any, list_all}
use Rattle.std.specs.Int.{int_min}
use Rattle.std.specs.Option.{option_map, option_and_then}
use Rattle.tb_base.specs.declared.table.Event.{Event}
use Rattle.tb_base.specs.declared.transfer.Hop.{Hop}
use Rattle.tb_base.specs.declared.transfer.Transfer.{Transfer}
use Rattle.tb_base.specs.TimetableData.{TimetableData, events_of, event_at, stop_at, arrival_at, departure_at}
use Rattle.tb_base.specs.Walking.{walk, change, change_time}

-- the numbers below n
abbrev pub numbers_below : ℕ → List ℕ
numbers_below zero = []
numbers_below (suc n) = numbers_below n ++ n ∷ []

-- the same, greatest first
abbrev pub numbers_down : ℕ → List ℕ
numbers_down zero = []
numbers_down (suc n) = n ∷ numbers_down n

-- the line's first trip that departs at index j no earlier than the time
abbrev pub earliest_trip : TimetableData → List ℕ → ℕ → ℤ → Option ℕ
earliest_trip T line j time = find (λ u. int_le time (departure_at T u j)) line

-- the part of a line from trip t on
abbrev pub line_from : ℕ → List ℕ → List ℕ
line_from t [] = []
line_from t (x ∷ xs) = if x == t then x ∷ xs else line_from t xs

-- u is t or stands after t on t's own line, and is boarded at index i or later: staying on t does
-- as well
abbrev pub is_own_line_onward : List ℕ → ℕ → ℕ → ℕ → ℕ → Bool
is_own_line_onward line t i u j = list_any (λ x. x == u) (line_from t line) && nat_le i j

-- boarding is allowed at index j of trip u, which is not its last one
abbrev pub may_be_boarded : TimetableData → ℕ → ℕ → Bool
may_be_boarded T u j = (event_at T u j).board && nat_lt (j + 1) (length (events_of T u))

-- from t@i the hop onto the line at its index j, where there is one
abbrev pub hop_onto : TimetableData → ℕ → ℕ → List ℕ → ℕ → Option Hop
hop_onto T t i line j =
    option_and_then (λ secs. option_and_then
    (λ u. if is_own_line_onward line t i u j then None else Some (record { trip = u; at = j }))
    (earliest_trip T line j (arrival_at T t i +ℤ pos secs)))
    (change T (stop_at T t i) (stop_at T (slice_index_or line 0 0) j))

-- the indexes at which the line may be boarded at stop q
abbrev pub boarding_indexes : TimetableData → List ℕ → ℕ → List ℕ
boarding_indexes T [] q = []
boarding_indexes T (u ∷ us) q =
    filter (λ j. (stop_at T u j == q) && may_be_boarded T u j)
    (numbers_below (length (events_of T u)))

-- the candidates of t@i, by stop, line and index
abbrev pub candidates : TimetableData → List (List ℕ) → ℕ → ℕ → List Hop
candidates T lines t i =
    if nat_lt 0 i && (event_at T t i).alight
    then flat_map (λ q. flat_map (λ line. filter_map (λ j. hop_onto T t i line j)
    (boarding_indexes T line q)) lines) (numbers_below (length T.stops))
    else []

-- t@i to u@j is a U-turn: already at the event before t@i one can change, at its stop, to the event
-- after u@j
abbrev pub is_u_turn : TimetableData → ℕ → ℕ → Hop → Bool
is_u_turn T t i h =
    let before = event_at T t (i - 1) in
    let after = event_at T h.trip (h.at + 1) in
    nat_lt 0 i && (before.stop == after.stop) && before.alight && after.board
    && is_some (option_and_then
    (λ secs. if int_le (before.arr +ℤ pos secs) after.dep then Some secs else None)
    (change_time T.footpaths before.stop))

-- the candidates of t@i that are no U-turns, in their order
abbrev pub candidates_without_u_turns : TimetableData → List (List ℕ) → ℕ → ℕ → List Hop
candidates_without_u_turns T lines t i =
    filter (λ h. not (is_u_turn T t i h)) (candidates T lines t i)

-- the transfers of trip t by these hops of its events, from its last event down
abbrev pub transfers_of : TimetableData → (ℕ → List Hop) → ℕ → List Transfer
transfers_of T hops t =
    flat_map (λ i. map (λ h. record { trip = t; at = i; to_trip = h.trip; to_at = h.at }) (hops i))
    (numbers_down (length (events_of T t)))

-- an alternative of a trip: to alight at an event, and to stay there or to hop onto another trip
pub record Alternative : Type 0 where
  pub at : ℕ
  pub hop : Option Hop

-- the alternatives of trip t, from its last event down to event 1
abbrev pub alternatives_at : TimetableData → List (List ℕ) → ℕ → ℕ → List Alternative
alternatives_at T lines t i =
    if nat_lt 0 i && (event_at T t i).alight
    then record { at = i; hop = None }
    ∷ map (λ h. record { at = i; hop = Some h }) (candidates_without_u_turns T lines t i)
    else []

abbrev pub alternatives : TimetableData → List (List ℕ) → ℕ → List Alternative
alternatives T lines t =
    flat_map (alternatives_at T lines t) (numbers_down (length (events_of T t)))

-- the events where one can alight: the event itself, or the later events of the trip that is hopped
-- onto
abbrev pub alightings_by : TimetableData → ℕ → ℕ → Option Hop → List Event
alightings_by T t i None = event_at T t i ∷ []
alightings_by T t i (Some h) = filter (λ e. e.alight) (drop (h.at + 1) (events_of T h.trip))

abbrev pub alightings : TimetableData → ℕ → Alternative → List Event
alightings T t a = alightings_by T t a.at a.hop

-- the least of some times
abbrev pub least : List ℤ → Option ℤ
least [] = None
least (x ∷ xs) = Some (fold int_min x xs)

-- the earliest that it brings one to stop p: for an arrival, and for a change there
abbrev pub earliest_offer : (ℕ → ℕ → Option ℕ) → List Event → ℕ → Option ℤ
earliest_offer secs_to events p =
    least (filter_map (λ e. option_map (λ secs. e.arr +ℤ pos secs) (secs_to e.stop p)) events)

-- the first time is less than the second, and none is greater than every time
abbrev pub is_sooner : Option ℤ → Option ℤ → Bool
is_sooner None y = false
is_sooner (Some x) None = true
is_sooner (Some x) (Some y) = int_lt x y

-- by these seconds the events of a are at stop p sooner than those of each earlier alternative
abbrev pub is_soonest : (ℕ → ℕ → Option ℕ) → List (List Event) → List Event → ℕ → Bool
is_soonest secs_to earlier events p =
    list_all (λ es. is_sooner (earliest_offer secs_to events p) (earliest_offer secs_to es p))
    earlier

-- at some stop the arrival, or the time for a change, is sooner than that of each earlier
-- alternative
abbrev pub is_improvement : TimetableData → List (List Event) → List Event → Bool
is_improvement T earlier events =
    list_any (λ p. is_soonest (walk T) earlier events p || is_soonest (change T) earlier events p)
    (numbers_below (length T.stops))

-- of these alternatives, which come after the earlier ones, those that improve
abbrev pub improving_alternatives : TimetableData → ℕ → List (List Event) → List Alternative →
    List Alternative
improving_alternatives T t earlier [] = []
improving_alternatives T t earlier (a ∷ rest) =
    if is_improvement T earlier (alightings T t a)
    then a ∷ improving_alternatives T t (alightings T t a ∷ earlier) rest
    else improving_alternatives T t (alightings T t a ∷ earlier) rest

-- the kept alternatives of trip t: those that improve; staying is one of them
abbrev pub kept_alternatives : TimetableData → List (List ℕ) → ℕ → List Alternative
kept_alternatives T lines t = improving_alternatives T t [] (alternatives T lines t)

-- the hops that are kept at t@i, in their order
abbrev pub kept_hops : TimetableData → List (List ℕ) → ℕ → ℕ → List Hop
kept_hops T lines t i =
    filter_map (λ (a : Alternative). if a.at == i then a.hop else None)
    (kept_alternatives T lines t)
