-- The best values to every stop as a text.
use Rattle.std.specs.Prelude.{ℕ, List, [], ◌∷◌, ◌++◌, codes, flat_map, length}
use Rattle.std.specs.Fmt.{decimal}
use Rattle.tb_base.specs.declared.query.Value.{Value}
use Rattle.tb_base.specs.TimetableData.{TimetableData}
use Rattle.tb_base.specs.Transfers.{numbers_below}
use Rattle.answer_text.specs.Journeys.{stop_name}
use Rattle.tb_base.specs.Clock.{time_text}
use Rattle.reach_all.specs.Reach.{values_at}

-- ` TIME/N`
abbrev pub value_text : Value → List ℕ
value_text v = codes " " ++ time_text v.arrive ++ codes "/" ++ decimal v.rides

-- each value, and ` -` where there is none
abbrev pub values_text : List Value → List ℕ
values_text [] = codes " -"
values_text (v ∷ vs) = flat_map value_text (v ∷ vs)

-- the name of a stop and its values, in one line
abbrev pub stop_line : TimetableData → List (List Value) → ℕ → List ℕ
stop_line T lists stop = stop_name T stop ++ values_text (values_at lists stop) ++ codes "\n"

-- one line a stop, by its number
abbrev pub reach_text : TimetableData → List (List Value) → List ℕ
reach_text T lists = flat_map (stop_line T lists) (numbers_below (length T.stops))
