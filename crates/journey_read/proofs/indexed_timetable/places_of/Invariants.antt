use Rattle.std.proofs.Common.{◌≡◌, length, map, take}
use Rattle.tb_base.specs.TimetableData.{TripData}
use Rattle.journey_read.specs.TripNames.{name_place}
use Rattle.journey_read.proofs.indexed_timetable.places_of.Given as goal

abbrev pub invariant-loop-t : goal.invariant-loop-t
invariant-loop-t l = l.places.items ≡ map (λ t. name_place l.names (length l.table.trips) (TripData.name t)) (take l.t l.table.trips)
