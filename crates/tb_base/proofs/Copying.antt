-- Lists that are copied element by element.
use Rattle.std.proofs.Common.{◌≡◌, ◌∙◌, sym, ap, ℕ, ◌+◌, ◌<◌, List, [], ◌∷◌, ◌++◌, length, map, take, Some, None, Option}
use Rattle.std.specs.Prelude.{slice_get}
use Rattle.std.proofs.lemmas.List.{map-append, take_more}
use Rattle.std.proofs.lemmas.Option.{get_or_from_slice_get, slice_get_within, slice_get-get_or}
use Rattle.tb_base.specs.declared.days.ServiceDay.{ServiceDay}
use Rattle.tb_base.specs.declared.table.Event.{Event}
use Rattle.tb_base.specs.TimetableData.{StationData, TimetableData, TripData}
use Rattle.tb_base.specs.Walking.{change}
use Rattle.tb_base.proofs.Walks.{change-same}

-- one element more
pub copied : {X : Type 0} (xs : List X) (i : ℕ) (x : X) (ys zs : List X) → ys ≡ take i xs → slice_get xs i ≡ Some x → zs ≡ ys ++ x ∷ [] → zs ≡ take (i + 1) xs
copied xs i x ys zs before at after =
    after ∙ (ap (λ l. l ++ x ∷ []) before
    ∙ sym (take_more xs i x (slice_get_within xs i x at) ∙ ap (λ y. take i xs ++ y ∷ []) (get_or_from_slice_get xs i x x at)))

-- one list more in a list of lists
pub row_copied : {V X : Type 0} (items : V → List X) (xs : List (List X)) (i : ℕ) (v : V) (x : List X) (ys zs : List V) → map items ys ≡ take i xs → slice_get xs i ≡ Some x → items v ≡ x → zs ≡ ys ++ v ∷ []
    → map items zs ≡ take (i + 1) xs
row_copied items xs i v x ys zs before at is after =
    copied xs i x (map items ys) (map items zs) before at
    (ap (map items) after ∙ map-append items ys (v ∷ []) ∙ ap (λ (y : List _). map items ys ++ y ∷ []) is)

-- a stop's change time, as the change from the stop to itself
pub own_change : (T : TimetableData) (p : ℕ) (o : Option ℕ) → p < length T.footpaths.change → o ≡ change T p p → slice_get T.footpaths.change p ≡ Some o
own_change T p o inside is =
    slice_get-get_or T.footpaths.change p None inside ∙ ap (λ (c : Option ℕ). Some c) (sym (is ∙ change-same T p))

-- a station that is made of its parts
pub station_is : (x : StationData) (name stops : List ℕ) → name ≡ x.name → stops ≡ x.stops → record { name = name; stops = stops } ≡ x
station_is x name stops n s = λ i. record { name = n i; stops = s i }

-- a trip that is made of its parts
pub trip_is : (x : TripData) (name : List ℕ) (day : ServiceDay) (events : List Event) → name ≡ x.name → day ≡ x.day → events ≡ x.events → record { name = name; day = day; events = events } ≡ x
trip_is x name day events n d e = λ i. record { name = n i; day = d i; events = e i }
