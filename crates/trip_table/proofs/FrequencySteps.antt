-- A bad row of frequencies.txt gives no start.
use Rattle.std.proofs.Common.{◌≡◌, ◌∙◌, sym, ap, ℕ, Bool, List, Option}
use Rattle.std.specs.Prelude.{Ok, Err}
use Rattle.gtfs_rows.specs.FrequenciesFile.{FrequencyData}
use Rattle.gtfs_rows.specs.RawRows.{RawRow, cell}
use Rattle.gtfs_rows.specs.TripsFile.{TripData}
use Rattle.gtfs_rows.specs.declared.columns.frequencies.TheConstants as frequencies
use Rattle.gtfs_rows.specs.declared.fault.FeedFault.{FeedFault}
use Rattle.trip_table.specs.LeftFeed.{left_frequency, named_frequency, no_starts, or_no_starts}

pub bad_row : (trips : List TripData) (gone : List Bool) (raw : RawRow) (f : FeedFault) (row : ℕ) (id : List ℕ) (found : Option FrequencyData) → named_frequency trips gone raw ≡ Err f → row ≡ raw.row → id ≡ cell raw frequencies.TRIP_ID → found ≡ no_starts trips row id
    → left_frequency trips gone raw ≡ Ok found
bad_row trips gone raw f row id found bad at text made =
    ap (λ r. Ok (or_no_starts (no_starts trips raw.row (cell raw frequencies.TRIP_ID)) r)) bad ∙ ap Ok (sym (made ∙ ap (λ n. no_starts trips n id) at ∙ ap (no_starts trips raw.row) text))
