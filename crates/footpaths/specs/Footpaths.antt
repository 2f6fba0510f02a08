-- Changes and footpaths between platforms, by the rows of transfers.txt.
use Rattle.std.specs.Prelude.{ℕ, ◌+◌, ◌==◌, ◌&&◌, List, [], ◌∷◌, length, map, max, filter, filter_map, nat_lt, Bool, false, Option, Some, None, option_map, Result, if◌then◌else◌}
use Rattle.std.specs.List.{range_with_len}
use Rattle.tb_base.specs.declared.table.Path.{Path}
use Rattle.tb_base.specs.TimetableData.{FootpathData, path_total}
use Rattle.gtfs_rows.specs.Steps.{and_then}
use Rattle.gtfs_rows.specs.Faults.{fault_if, unless_wrong}
use Rattle.gtfs_rows.specs.StopsFile.{StopData}
use Rattle.gtfs_rows.specs.TransfersFile.{TransferData}
use Rattle.gtfs_rows.specs.declared.fault.FeedFault.{FeedFault}
use Rattle.gtfs_rows.specs.declared.fault.FeedFault.TheVariants as fault
use Rattle.gtfs_rows.specs.declared.fault.Many.TheVariants as many
use Rattle.footpaths.specs.declared.found.Found.{Found}
use Rattle.footpaths.specs.declared.found.Found.TheVariants as found
use Rattle.footpaths.specs.declared.found.Link.{Link}
use Rattle.footpaths.specs.declared.paths.Options.{Options}
use Rattle.footpaths.specs.Stops.{platforms, station_of}
use Rattle.footpaths.specs.Links.{links_of, check_transfers}

-- a number is there and is this one
abbrev pub is_number : ℕ → Option ℕ → Bool
is_number k None = false
is_number k (Some n) = n == k

-- an end of a row takes in a platform: it is the platform itself, or the platform's station
abbrev pub takes_in : List StopData → Found → ℕ → Bool
takes_in stops (found.Platform n) p = n == p
takes_in stops (found.Station k) p = is_number k (station_of stops p)
takes_in stops found.Other p = false

abbrev pub fits : List StopData → ℕ → ℕ → Link → Bool
fits stops p q l = takes_in stops l.from p && takes_in stops l.to q

-- how many stations a row names
abbrev pub stations_in : Found → ℕ
stations_in (found.Platform n) = 0
stations_in (found.Station k) = 1
stations_in found.Other = 0

abbrev pub rank : Link → ℕ
rank l = stations_in l.from + stations_in l.to

-- what is said of the way between two platforms: nothing, that it is forbidden, or its seconds
pub data Rule : Type 0 where
  Unsaid : Rule
  Forbidden : Rule
  Takes : ℕ → Rule

-- what a row says, by its seconds, where it has any
abbrev pub rule_of : Option ℕ → Rule
rule_of None = Forbidden
rule_of (Some secs) = Takes secs

-- of two rules the longer: a way that is forbidden is longer than all
abbrev pub longer : Rule → Rule → Rule
longer Unsaid b = b
longer Forbidden b = Forbidden
longer (Takes a) Unsaid = Takes a
longer (Takes a) Forbidden = Forbidden
longer (Takes a) (Takes b) = Takes (max a b)

abbrev pub longest : List Rule → Rule
longest [] = Unsaid
longest (r ∷ rules) = longer r (longest rules)

-- what the fitting rows of a rank say of a pair
abbrev pub said : List StopData → List Link → ℕ → ℕ → ℕ → Rule
said stops links p q k =
    longest
    (map (λ l. rule_of (Link.secs l)) (filter (λ l. fits stops p q l && (rank l == k)) links))

-- of two rules the first that says anything
abbrev pub first_said : Rule → Rule → Rule
first_said Unsaid b = b
first_said Forbidden b = Forbidden
first_said (Takes secs) b = Takes secs

-- the seconds that a way takes by a rule, where there is one
abbrev pub secs_of : Rule → Option ℕ
secs_of Unsaid = None
secs_of Forbidden = None
secs_of (Takes secs) = Some secs

-- two platforms have one station
abbrev pub have_one_station : Option ℕ → Option ℕ → Bool
have_one_station None b = false
have_one_station (Some k) b = is_number k b

-- what holds where no row fits
abbrev pub default_rule : List StopData → Options → ℕ → ℕ → Rule
default_rule stops options p q =
    if p == q then Takes options.change
    else if have_one_station (station_of stops q) (station_of stops p) then rule_of options.station
    else Unsaid

-- The seconds from one platform to another: the fitting rows of the lowest rank decide.
abbrev pub secs_between : List StopData → Options → List Link → ℕ → ℕ → Option ℕ
secs_between stops options links p q =
    secs_of (first_said (said stops links p q 0)
    (first_said (said stops links p q 1)
    (first_said (said stops links p q 2) (default_rule stops options p q))))

-- changes: the seconds from one stop to another, by their numbers
abbrev pub Changes : Type 0
Changes = ℕ → ℕ → Option ℕ

abbrev pub changes : List StopData → List TransferData → Options → Changes
changes stops rows options = secs_between stops options (links_of stops options.change rows)

-- the numbers of n stops
abbrev pub numbers : ℕ → List ℕ
numbers n = range_with_len 0 n

-- the footpath to a stop
abbrev pub path_to : ℕ → ℕ → Option ℕ → Option Path
path_to p q secs = if p == q then None else option_map (λ s. record { to = q; secs = s }) secs

-- the footpaths from a stop to others, among the first n, in order of their numbers
abbrev pub paths_from : ℕ → Changes → ℕ → List Path
paths_from n given p = filter_map (λ q. path_to p q (given p q)) (numbers n)

-- the change times and footpaths of n stops
abbrev pub paths_of : ℕ → Changes → FootpathData
paths_of n given =
    record {
      change = map (λ p. given p p) (numbers n);
      paths = map (paths_from n given) (numbers n);
    }

-- at most 2,000,000 footpaths, or a fault
abbrev pub check_count : FootpathData → Result FootpathData FeedFault
check_count paths =
    unless_wrong
    (fault_if (nat_lt 2000000 (path_total paths)) (fault.TooMany many.Footpaths 0) ∷ []) paths

-- The changes and footpaths of a feed's platforms, or the first thing that is wrong with
-- transfers.txt.
abbrev pub footpaths : List StopData → Options → List TransferData → Result FootpathData FeedFault
footpaths stops options rows =
    and_then (check_transfers stops rows)
    (λ good. check_count (paths_of (length (platforms stops)) (changes stops good options)))
