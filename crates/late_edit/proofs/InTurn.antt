-- Updates that are taken one after another.
use Rattle.std.proofs.Common.{◌≡◌, ◌∙◌, sym, ap, ℕ, ◌+◌, ◌<◌, ◌≤◌, List, ◌∷◌, length, get_or, drop, Option}
use Rattle.std.specs.Prelude.{Ok, Err}
use Rattle.std.proofs.Math.ListN.{drop_of_length-le}
use Rattle.std.proofs.lemmas.List.{drop_more}
use Rattle.gtfs_rows.specs.Steps.{and_then}
use Rattle.tb_base.specs.declared.table.Path.{Path}
use Rattle.tb_base.specs.declared.table.Stop.{Stop}
use Rattle.tb_base.specs.TimetableData.{StationData, TimetableData, TripData}
use Rattle.late_edit.specs.Amended.{amended, amended_trips, trips_after, with_trips}
use Rattle.late_edit.specs.declared.update.Update.{Update}
use Rattle.late_edit.specs.declared.late.LateFault.{LateFault}

module _ (T : TimetableData) (updates : List Update) (trips : List TripData) (i : ℕ) (so_far : amended_trips updates T.trips ≡ amended_trips (drop i updates) trips) where
  -- the next update
  next : (u : Update) → i < length updates → u ≡ get_or updates i u → amended_trips updates T.trips ≡ and_then (trips_after u trips) (λ m. amended_trips (drop (i + 1) updates) m)
  next u inside at =
      so_far ∙ ap (λ ls. amended_trips ls trips) (drop_more updates i u inside ∙ ap (λ (l : Update). l ∷ drop (i + 1) updates) (sym at))

  pub refused_here : (f : LateFault) (u : Update) → i < length updates → u ≡ get_or updates i u → trips_after u trips ≡ Err f → amended T updates ≡ Err f
  refused_here f u inside at h =
      ap (λ r. and_then r (λ ts. Ok (with_trips T ts))) (next u inside at ∙ ap (λ r. and_then r (λ m. amended_trips (drop (i + 1) updates) m)) h)

  -- all updates are taken
  pub all_taken : length updates ≤ i → amended_trips updates T.trips ≡ Ok trips
  all_taken end = so_far ∙ ap (λ ls. amended_trips ls trips) (drop_of_length-le updates end)

-- a timetable that is made of its parts
pub parts_are : (T : TimetableData) (stops : List Stop) (stations : List StationData) (trips : List TripData) (change : List (Option ℕ)) (paths : List (List Path)) → stops ≡ T.stops → stations ≡ T.stations → change ≡ T.footpaths.change → paths ≡ T.footpaths.paths
    → record { stops = stops; stations = stations; trips = trips; footpaths = record { change = change; paths = paths } } ≡ with_trips T trips
parts_are T stops stations trips change paths s n c p = λ i. record { stops = s i; stations = n i; trips = trips; footpaths = record { change = c i; paths = p i } }
