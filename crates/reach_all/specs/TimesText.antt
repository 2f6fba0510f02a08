-- Travel times to every stop as a text.
use Rattle.std.specs.Prelude.{ℕ, List, [], ◌∷◌, ◌++◌, ℤ, Option, None, Some, codes, flat_map, length, slice_index_or}
use Rattle.std.specs.Fmt.{decimal}
use Rattle.tb_base.specs.TimetableData.{TimetableData}
use Rattle.tb_base.specs.Transfers.{numbers_below}
use Rattle.tb_base.specs.Clock.{time_text}
use Rattle.answer_text.specs.Journeys.{stop_name}
use Rattle.reach_all.specs.declared.figures.Figures.{Figures}

-- the travel times of figures, in order
abbrev pub figure_times : Figures → List (Option ℤ)
figure_times f =
    f.least ∷ f.percentile_5 ∷ f.percentile_25 ∷ f.percentile_50 ∷ f.percentile_75
    ∷ f.percentile_95 ∷ f.greatest ∷ []

-- ` HH:MM:SS`, or ` -` where there is none
abbrev pub duration_text : Option ℤ → List ℕ
duration_text None = codes " -"
duration_text (Some time) = codes " " ++ time_text time

-- ` N/M`, where N of M departures reach the stop, and the travel times
abbrev pub figures_text : ℕ → Figures → List ℕ
figures_text departures f =
    codes " " ++ decimal f.reached ++ codes "/" ++ decimal departures
    ++ flat_map duration_text (figure_times f)

-- no departure reaches a stop
abbrev pub no_figures : Figures
no_figures = record {
  reached = 0;
  least = None;
  percentile_5 = None;
  percentile_25 = None;
  percentile_50 = None;
  percentile_75 = None;
  percentile_95 = None;
  greatest = None;
}

-- what a list by stops has for a stop
abbrev pub figures_at : List Figures → ℕ → Figures
figures_at figures stop = slice_index_or figures stop no_figures

-- the name of a stop and its figures, in one line
abbrev pub times_line : TimetableData → ℕ → List Figures → ℕ → List ℕ
times_line T departures figures stop =
    stop_name T stop ++ figures_text departures (figures_at figures stop) ++ codes "\n"

-- one line a stop, by its number
abbrev pub times_text : TimetableData → ℕ → List Figures → List ℕ
times_text T departures figures =
    flat_map (times_line T departures figures) (numbers_below (length T.stops))
