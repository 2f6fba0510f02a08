-- What the code that amends a timetable keeps.
use Rattle.std.specs.Prelude.{◌≡◌, ℕ, ◌<◌, Bool, List, All, IfSome, length, position, bytes_eq, Option, pos, negsuc, ◌≤ℤ◌, true, false, slice_index_or}
use Rattle.std.specs.List.{list_any}
use Rattle.std.specs.Map.{lookup}
use Rattle.tb_base.specs.declared.days.ServiceDay.{ServiceDay}
use Rattle.tb_base.specs.declared.days.ServiceDay.TheVariants as day
use Rattle.tb_base.specs.declared.table.Event.{Event}
use Rattle.tb_base.specs.TimetableData.{TripData}
use Rattle.late_edit.specs.Amended.{is_named}
use Rattle.late_edit.specs.Updates.{trip_of}
use Rattle.late_edit.specs.declared.update.Update.{Update}

-- names, each with the number of a trip
abbrev pub Noted : Type 0
Noted = List (List ℕ × ℕ)

-- the trip that is noted of a name
abbrev pub trip_noted : Noted → List ℕ → Option ℕ
trip_noted noted name = lookup (bytes_eq name) noted

-- what is noted of the trips of each service day
pub record FirstData : Type 0 where
  pub before : Noted
  pub date : Noted
  pub after : Noted
  pub second_after : Noted

-- the trip that is noted of a service day and a name
abbrev pub trip_found : FirstData → ServiceDay → List ℕ → Option ℕ
trip_found F day.Before name = trip_noted F.before name
trip_found F day.Date name = trip_noted F.date name
trip_found F day.After name = trip_noted F.after name
trip_found F day.SecondAfter name = trip_noted F.second_after name

-- the trip that each update names has one of these names
abbrev pub HaveNames : List Update → List (List ℕ) → Type 0
HaveNames updates names = All (λ u. list_any (bytes_eq (trip_of u)) names ≡ true) updates

-- of each day and each of these names the first one of these trips is noted
abbrev pub FindsFirst : FirstData → List (List ℕ) → List TripData → Type 0
FindsFirst F names trips =
    (day : ServiceDay) (name : List ℕ) → list_any (bytes_eq name) names ≡ true →
    trip_found F day name ≡ position (is_named day name) trips

-- an event within the limits of times, that is not left before it is reached
pub record IsTimedEvent (e : Event) : Type 0 where
  pub earliest : negsuc 86399 ≤ℤ e.arr
  pub waits : e.arr ≤ℤ e.dep
  pub latest : e.dep ≤ℤ pos 359999

-- trips with such events
abbrev pub AreTimed : List TripData → Type 0
AreTimed trips = All (λ t. All IsTimedEvent (TripData.events t)) trips

-- of so many trips each that is named has a mark
pub record MarksNamed (count : ℕ) (named : List (Option ℕ)) (marks : List Bool) : Type 0 where
  pub long : length marks ≡ count
  pub marked : All (λ o. IfSome o (λ t. t < count → slice_index_or marks t false ≡ true)) named
