-- The stop times of a trip, in order.
use Rattle.std.specs.Prelude.{◌≡◌, ◌≢◌, ℕ, AllPairs, ◌==◌, List, [], ◌∷◌, filter, nat_lt, Bool, if◌then◌else◌}
use Rattle.service_trips.specs.declared.stop_time.StopTime.{StopTime}

-- a stop time of the trip
abbrev pub is_of_trip : ℕ → StopTime → Bool
is_of_trip trip r = r.trip_row == trip

-- a row put in its place among rows that stand in order
abbrev pub placed : StopTime → List StopTime → List StopTime
placed r [] = r ∷ []
placed r (s ∷ rest) = if nat_lt s.sequence r.sequence then s ∷ placed r rest else r ∷ s ∷ rest

-- rows in order of their sequence numbers
abbrev pub in_sequence : List StopTime → List StopTime
in_sequence [] = []
in_sequence (r ∷ rest) = placed r (in_sequence rest)

-- the stop times of a trip, in order
abbrev pub stop_times : List StopTime → ℕ → List StopTime
stop_times rows trip = in_sequence (filter (is_of_trip trip) rows)

-- two rows of one trip have different sequence numbers
abbrev pub DifferWithinTrips : List StopTime → Type 0
DifferWithinTrips rows =
    AllPairs
    (λ r s.
    StopTime.trip_row r ≡ StopTime.trip_row s → StopTime.sequence r ≢ StopTime.sequence s) rows
