use Rattle.std.proofs.Common.{◌≢◌, ◌+◌, ◌∙◌, ap, sym, List}
use Rattle.std.specs.Prelude.{map, length, sum_by}
use Rattle.std.proofs.lemmas.List.Folds.{fold-map}
use Rattle.tb_base.specs.declared.table.Path.{Path}
use Rattle.tb_base.specs.TimetableData.{TripData}
use Rattle.tb_base.proofs.Lists.{AllPairs-left, AllPairs-right}
use Rattle.tb_base.proofs.timetable.Timetable.new.Goals as goal

pub of_stops-requires : goal.of_stops-requires
of_stops-requires c = rw c.as_slice.ensures.value (AllPairs-left (λ m n. m ≢ n) _ _ (rw (← c.parts.view_is) at c.requires.distinct))

pub of_stations-requires : goal.of_stations-requires
of_stations-requires c = rw c.as_slice-2.ensures.value (AllPairs-right (λ m n. m ≢ n) _ _ (rw (← c.parts.view_is) at c.requires.distinct))

pub invariant_of-result : goal.invariant_of-result
invariant_of-result c =
    rw (← c.parts.view_is) record {
      sound = rw (← c.parts.view_is) at c.requires;
      stop_names = c.in_ok-stop_names.ensures ∙ ap (map (λ s. s.name)) c.as_slice.ensures.value;
      station_names = c.in_ok-station_names.ensures ∙ ap (map (λ s. s.name)) c.as_slice-2.ensures.value;
      events = c.events_in-events.ensures ∙ ap (sum_by (λ t. length (TripData.events t))) c.as_slice-3.ensures.value;
      footpaths =
          c.paths_in-footpaths.ensures ∙ (ap (sum_by (λ row. length row.items)) c.as_slice-4.ensures.value ∙ sym (fold-map (λ n (row : List Path). n + length row) (λ row. row.items) 0 c.parts.inside.paths.items));
    }
