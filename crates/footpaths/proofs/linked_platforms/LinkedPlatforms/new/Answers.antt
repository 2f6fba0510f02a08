use Rattle.footpaths.proofs.LinkedPlatformsLaws.{parent_keys_within, platform_keys_within, station_keys_within}
use Rattle.footpaths.proofs.linked_platforms.LinkedPlatforms.new.Goals as goal

pub places_by-requires : goal.places_by-requires
places_by-requires c = rw (c.as_slice.ensures.value, c.in_ok-parent_keys.ensures, c.row_count-none.ensures) (parent_keys_within c.args.stops.now)

pub places_by-requires-2 : goal.places_by-requires-2
places_by-requires-2 c = rw (c.as_slice-3.ensures.value, c.in_ok-platform_keys.ensures, c.as_slice-2.ensures.value, c.row_count-none.ensures) (platform_keys_within c.args.stops.now c.args.links.items c.requires)

pub places_by-requires-3 : goal.places_by-requires-3
places_by-requires-3 c = rw (c.as_slice-5.ensures.value, c.in_ok-station_keys.ensures, c.as_slice-4.ensures.value, c.row_count-none.ensures) (station_keys_within c.args.stops.now c.args.links.items c.requires)
