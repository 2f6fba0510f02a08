-- Rows of a timetable name trips that exist.
use Rattle.std.proofs.Common.{◌≡◌, ◌<◌, List, [], length, map, get_or, subst, sym, arith}
use Rattle.std.specs.Prelude.{All}
use Rattle.std.proofs.lemmas.List.{get_or-map, length-map}
use Rattle.tb_base.specs.declared.transfer.Transfer.{Transfer}
use Rattle.tb_base.specs.TimetableData.{TimetableData}
use Rattle.tb_base.specs.OutSets.{AreRowsOf, IsTransferOf}
use Rattle.answer_text.specs.Builds.{HasTrips}

-- each list has transfers between trips of the timetable
pub all_named : {V : Type 0} (T : TimetableData) (items : V → List Transfer) (lists : List V) → AreRowsOf T (map items lists) → All (λ list. All (HasTrips T) (items list)) lists
all_named T items lists are k d inside i e below =
    let trip : k < length T.trips = omega (arith, inside, are.long, length-map lists items) in
    let row : get_or (map items lists) k [] ≡ items (get_or lists k d) = get_or-map items lists k d [] inside in
    let own : All (IsTransferOf T k) (items (get_or lists k d)) = subst (All (IsTransferOf T k)) row (are.own k trip) in
    let r = own i e below in
    record { trip = subst (λ t. t < length T.trips) (sym r.trip) trip; to_trip = r.to_trip }
