-- The rows of transfers.txt by the numbers of their ends, and the first thing that is wrong with
-- them.
use Rattle.std.specs.Prelude.{◌≡◌, ℕ, ◌+◌, ◌*◌, ◌&&◌, not, List, [], ◌∷◌, map, true, false, ◌⊎◌, Option, Some, None, position, unwrap_or, bytes_eq, Result, Err, ⊤}
use Rattle.std.specs.List.{list_any}
use Rattle.gtfs_rows.specs.Faults.{spot, fault_if, check_rows}
use Rattle.gtfs_rows.specs.StopsFile.{StopData}
use Rattle.gtfs_rows.specs.TransfersFile.{TransferData}
use Rattle.gtfs_rows.specs.declared.transfers.PathRule.{PathRule}
use Rattle.gtfs_rows.specs.declared.transfers.PathRule.TheVariants as rule
use Rattle.gtfs_rows.specs.declared.fault.FeedFile.TheVariants as file
use Rattle.gtfs_rows.specs.declared.fault.FeedFault.{FeedFault}
use Rattle.gtfs_rows.specs.declared.fault.FeedFault.TheVariants as fault
use Rattle.gtfs_rows.specs.declared.fault.Many.TheVariants as many
use Rattle.footpaths.specs.declared.found.Found.{Found}
use Rattle.footpaths.specs.declared.found.Found.TheVariants as found
use Rattle.footpaths.specs.declared.found.Link.{Link}
use Rattle.footpaths.specs.declared.paths.PathsFault.{PathsFault}
use Rattle.footpaths.specs.declared.paths.PathsFault.TheVariants as why
use Rattle.footpaths.specs.Stops.{has_stop_id, find_stop}
use Rattle.gtfs_rows.specs.declared.columns.transfers.TheConstants as transfers

-- the seconds that a row gives, and none where it forbids the way
abbrev pub secs_by : ℕ → PathRule → Option ℕ
secs_by change (rule.Secs secs) = Some secs
secs_by change rule.Default = Some change
secs_by change rule.Forbidden = None

-- an end of a row: what has the id
abbrev pub end_of : List StopData → List ℕ → Found
end_of stops id = unwrap_or (find_stop stops id) found.Other

-- a row by its ends and its seconds, where the default change time is given
abbrev pub link_of : List StopData → ℕ → TransferData → Link
link_of stops change r =
    record {
      from = end_of stops r.from;
      to = end_of stops r.to;
      secs = secs_by change (TransferData.rule r);
    }

abbrev pub links_of : List StopData → ℕ → List TransferData → List Link
links_of stops change rows = map (link_of stops change) rows

-- a row may name a stop that isn't there, or go between the same two as an earlier row
abbrev pub wrong_transfer : List StopData → List TransferData → List TransferData → TransferData →
    List (Option FeedFault)
wrong_transfer stops rows earlier r =
    fault_if (not (list_any (has_stop_id r.from) stops))
    (fault.UnknownStop (spot file.Transfers r.row transfers.FROM_STOP_ID))
    ∷ fault_if (not (list_any (has_stop_id r.to) stops))
    (fault.UnknownStop (spot file.Transfers r.row transfers.TO_STOP_ID))
    ∷ fault_if (list_any (λ e. bytes_eq r.from e.from && bytes_eq r.to e.to) earlier)
    (fault.DuplicateTransfer (spot file.Transfers r.row transfers.FROM_STOP_ID))
    ∷ []

-- the rows of transfers.txt, or the first thing that is wrong with them
abbrev pub check_transfers : List StopData → List TransferData →
    Result (List TransferData) FeedFault
check_transfers stops = check_rows (wrong_transfer stops)

-- a refusal tells the first thing that is wrong, and want of memory says nothing
abbrev pub IsPathsRefused : {A : Type 0} → Result A FeedFault → PathsFault → Type 0
IsPathsRefused checked (why.DuplicateTransfer row) =
    checked ≡ Err (fault.DuplicateTransfer (spot file.Transfers row transfers.FROM_STOP_ID))
IsPathsRefused checked (why.UnknownStop row column) =
    checked ≡ Err (fault.UnknownStop (spot file.Transfers row column))
IsPathsRefused checked why.TooMany = checked ≡ Err (fault.TooMany many.Footpaths 0)
IsPathsRefused checked why.Memory = ⊤

-- both ends of a row are there
pub record HasEnds (stops : List StopData) (r : TransferData) : Type 0 where
  pub origin : list_any (has_stop_id r.from) stops ≡ true
  pub target : list_any (has_stop_id r.to) stops ≡ true

-- the fault of a row of which an end isn't there
abbrev pub LacksEnd : List StopData → TransferData → PathsFault → Type 0
LacksEnd stops r f =
    ((f ≡ why.UnknownStop r.row transfers.FROM_STOP_ID)
    × (list_any (has_stop_id r.from) stops ≡ false))
    ⊎ ((f ≡ why.UnknownStop r.row transfers.TO_STOP_ID)
    × (list_any (has_stop_id r.from) stops ≡ true)
    × (list_any (has_stop_id r.to) stops ≡ false))

-- a number for the two ends of a row, by their places among at most 100,000 rows of stops.txt
abbrev pub place_of : List StopData → List ℕ → ℕ
place_of stops id = unwrap_or (position (has_stop_id id) stops) 0

abbrev pub pair_number : List StopData → TransferData → ℕ
pair_number stops r = place_of stops r.from * 100000 + place_of stops r.to
