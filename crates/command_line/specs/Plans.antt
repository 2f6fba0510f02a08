-- What is planned by the words of a run of several days, and of a process that lives.
use Rattle.std.specs.Prelude.{◌≡◌, ℕ, ◌≤◌, ◌==◌, eqb, nat_le, List, [], ◌∷◌, drop, length, codes, Bool, true, false, Option, Some, None, if◌then◌else◌}
use Rattle.std.specs.List.{starts_with}
use Rattle.std.specs.Option.{option_and_then, option_map}
use Rattle.std.specs.Path.{rsplit_once}
use Rattle.clap.specs.Words.{Text}
use Rattle.footpaths.specs.declared.paths.Options.{Options}
use Rattle.gtfs_rows.specs.Dates.{date_of}
use Rattle.command_line.specs.PlannedDays.{PlannedDayData}
use Rattle.command_line.specs.declared.plan.TheConstants.{MOST_ITEMS}
use Rattle.command_line.specs.declared.request.PlannedSource.{PlannedSource}
use Rattle.command_line.specs.declared.request.PlannedSource.TheVariants as source
use Rattle.command_line.specs.declared.settings.Settings.{Settings}

-- an item: the word that names it, and what it is made of
pub record PlannedItemData : Type 0 where
  pub word : Text
  pub source : PlannedSource

-- a request about several items: what is said of footpaths, how many workers reduce the transfers of
-- a day, whether as JSON, and the items in order
pub record ServeRequestData : Type 0 where
  pub options : Options
  pub workers : ℕ
  pub json : Bool
  pub plan : List PlannedItemData

-- a request to a process that lives: the same, how many lanes answer what comes, whether each
-- edition has a mirror, and the first items in order
pub record LiveRequestData : Type 0 where
  pub options : Options
  pub workers : ℕ
  pub lanes : ℕ
  pub mirror : Bool
  pub json : Bool
  pub plan : List PlannedItemData

-- whether an item is a day of a feed
abbrev pub is_day : PlannedSource → Bool
is_day (source.Day d) = true
is_day (source.Late path) = false

-- whether some items begin with one
abbrev pub begins_with_day : List PlannedItemData → Bool
begins_with_day [] = false
begins_with_day (item ∷ items) = is_day item.source

-- from 1 to 100 items, of which the first is a day
pub record IsPlan (items : List PlannedItemData) : Type 0 where
  pub first : begins_with_day items ≡ true
  pub most : length items ≤ MOST_ITEMS

-- the day of the word whose parts are DIR and DATE, where DIR isn't empty
abbrev pub day_between : Text → Text → Text → Option PlannedItemData
day_between word dir date =
    if length dir == 0 then None
    else option_map (λ day. record {
      word = word;
      source = source.Day (record { dir = dir; date = day });
    }) (date_of date)

-- the day that `DIR@DATE` names; the last `@`, which is the code 64, divides
abbrev pub planned_day : Text → Option PlannedItemData
planned_day word =
    option_and_then (λ parts. day_between word parts.0 parts.1) (rsplit_once 64 word)

-- the file of this path, where that isn't empty
abbrev pub planned_file : Text → Text → Option PlannedItemData
planned_file word path =
    if length path == 0 then None
    else Some (record { word = word; source = source.Late path })

-- the path behind `late:`, where a word begins so
abbrev pub late_path : Text → Option Text
late_path word =
    if starts_with eqb word (codes "late:") then Some (drop 5 word) else None

-- the item by the path behind `late:`; a word without it names a day
abbrev pub item_by : Text → Option Text → Option PlannedItemData
item_by word None = planned_day word
item_by word (Some path) = planned_file word path

-- the item that `late:FILE` or `DIR@DATE` names
abbrev pub planned_item : Text → Option PlannedItemData
planned_item word = item_by word (late_path word)

-- the items that these words name, where each of them names one
abbrev pub planned_items : List Text → Option (List PlannedItemData)
planned_items [] = Some []
planned_items (word ∷ words) =
    option_and_then (λ item. option_map (λ items. item ∷ items) (planned_items words))
    (planned_item word)

-- the plan of these words: 1 to 100 items, of which the first is a day
abbrev pub plan_of : List Text → Option (List PlannedItemData)
plan_of words =
    if nat_le (length words) MOST_ITEMS
    then option_and_then (λ items. if begins_with_day items then Some items else None)
    (planned_items words)
    else None

abbrev pub serve_request : Settings → List Text → Option ServeRequestData
serve_request s words =
    option_map (λ items. record {
      options = s.options;
      workers = s.workers;
      json = s.json;
      plan = items;
    }) (plan_of words)

abbrev pub live_request : Settings → List Text → Option LiveRequestData
live_request s words =
    option_map (λ items. record {
      options = s.options;
      workers = s.workers;
      lanes = s.lanes;
      mirror = s.mirror;
      json = s.json;
      plan = items;
    }) (plan_of words)
