-- Trips that were hopped onto already.
use Rattle.std.specs.Prelude.{◌+◌, List, length, ℤ, All, Option}
use Rattle.tb_base.specs.TimetableData.{TimetableData, events_of}
use Rattle.transfer_reduce.specs.Reached.{AreReached}
use Rattle.transfer_reduce.specs.declared.tried.Tried.{Tried}

-- where one may alight behind the index of the trip one is by then
abbrev pub IsTried : TimetableData → List (Option ℤ) → Tried → Type 0
IsTried T times x = AreReached T times x.trip (x.at + 1) (length (events_of T x.trip))

abbrev pub AreTried : TimetableData → List (Option ℤ) → List Tried → Type 0
AreTried T times xs = All (IsTried T times) xs
