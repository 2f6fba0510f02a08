-- The ends of rows are platforms and stations that are there.
use Rattle.std.proofs.Common.{refl, ℕ, ◌<◌, List, length, Bool, true, false, cond, Option, Some, None, arith}
use Rattle.std.specs.Prelude.{All, IfSome, unwrap_or, option_map, position}
use Rattle.std.specs.Option.{option_or}
use Rattle.std.specs.List.{list_any}
use Rattle.std.proofs.lemmas.List.Elements.{All-map}
use Rattle.gtfs_rows.specs.StopsFile.{StopData, is_station}
use Rattle.gtfs_rows.specs.TransfersFile.{TransferData}
use Rattle.footpaths.specs.declared.found.Found.TheVariants as found
use Rattle.footpaths.specs.Stops.{has_stop_id, platforms, stations}
use Rattle.footpaths.specs.Links.{end_of, link_of, links_of}
use Rattle.footpaths.specs.LinkedPlatforms.{IsEnd, HasLinkEnds}
use Rattle.footpaths.proofs.StopPlaces.{place_below}
use Rattle.tb_base.proofs.Lists.{length-filter_le}

end_by : (stops : List StopData) (a b : Option ℕ) (c : Bool) → IfSome a (λ k. k < length (platforms stops)) → IfSome b (λ k. k < length stops)
    → IsEnd stops (unwrap_or (option_or (option_map found.Platform a) (option_or (option_map found.Station b) (cond c (Some found.Other) None))) found.Other)
end_by stops (Some n) b c h k = h
end_by stops None (Some n) c h k = k
end_by stops None None true h k = tt
end_by stops None None false h k = tt

end_is_there : (stops : List StopData) (id : List ℕ) → IsEnd stops (end_of stops id)
end_is_there stops id =
    end_by stops (position (has_stop_id id) (platforms stops)) (position (has_stop_id id) (stations stops)) (list_any (has_stop_id id) stops)
    (place_below (has_stop_id id) (platforms stops) (length (platforms stops)) _ refl (omega arith))
    (place_below (has_stop_id id) (stations stops) (length stops) _ refl (length-filter_le (λ s. is_station s.kind) stops))

pub links_have_ends : (stops : List StopData) (change : ℕ) (rows : List TransferData) → All (HasLinkEnds stops) (links_of stops change rows)
links_have_ends stops change rows = All-map (HasLinkEnds stops) (link_of stops change) rows (λ k d h. record { origin = end_is_there stops _; target = end_is_there stops _ })
