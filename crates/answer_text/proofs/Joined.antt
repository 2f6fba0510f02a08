-- Texts that are added one after another.
use Rattle.std.proofs.Common.{◌≡◌, ◌∙◌, ap, ℕ, zero, suc, List, [], ◌∷◌, ◌++◌, Some, append_assoc}
use Rattle.std.specs.Prelude.{Result, Ok, Err, OnOk, slice_get, slice_index_or}
use Rattle.tb_base.specs.TimetableData.{TripData, TimetableData}
use Rattle.tb_base.specs.declared.table.Stop.{Stop}
use Rattle.answer_text.specs.Journeys.{stop_name, trip_name}

-- what was added in two steps was added in one
pub joined : (start mid end first second : List ℕ) → mid ≡ start ++ first → end ≡ mid ++ second → end ≡ start ++ (first ++ second)
joined start mid end first second a b = b ∙ ap (λ bytes. bytes ++ second) a ∙ append_assoc start first second

-- the same, where the second step may refuse
pub last_joined : {A E : Type 0} (step : Result A E) (start mid end first second : List ℕ) → mid ≡ start ++ first → OnOk step (end ≡ mid ++ second) → OnOk step (end ≡ start ++ (first ++ second))
last_joined (Ok x) start mid end first second a b = joined start mid end first second a b
last_joined (Err e) start mid end first second a b = tt

-- the same, where what is added has another form
pub same_added : {A E : Type 0} (step : Result A E) (start end first second : List ℕ) → first ≡ second → OnOk step (end ≡ start ++ first) → OnOk step (end ≡ start ++ second)
same_added (Ok x) start end first second e a = a ∙ ap (λ bytes. start ++ bytes) e
same_added (Err f) start end first second e a = tt

item_at : {X : Type 0} (xs : List X) (i : ℕ) (d x : X) → slice_get xs i ≡ Some x → x ≡ slice_index_or xs i d
item_at [] i d x h = cc
item_at (y ∷ ys) zero d x h = cc
item_at (y ∷ ys) (suc i) d x h = item_at ys i d x h

pub name_of_stop : (T : TimetableData) (p : ℕ) (stop : Stop) → slice_get T.stops p ≡ Some stop → stop.name ≡ stop_name T p
name_of_stop T p stop h = ap (λ (s : Stop). s.name) (item_at T.stops p _ stop h)

pub name_of_trip : (T : TimetableData) (t : ℕ) (trip : TripData) → slice_get T.trips t ≡ Some trip → trip.name ≡ trip_name T t
name_of_trip T t trip h = ap (λ (r : TripData). r.name) (item_at T.trips t _ trip h)
