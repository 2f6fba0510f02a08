-- The place with a name, by the places of the names of stops and stations.
use Rattle.std.proofs.Common.{◌≡◌, ◌∙◌, sym, ap, ℕ, List, map}
use Rattle.std.specs.Prelude.{position, bytes_eq}
use Rattle.std.specs.Option.{option_map, option_or}
use Rattle.tb_base.specs.declared.query.Place.TheVariants.{Stop as StopPlace, Station as StationPlace}
use Rattle.tb_base.specs.TimetableData.{StationData, TimetableData}
use Rattle.tb_base.specs.Places.{place_named}
use Rattle.tb_base.proofs.Lists.{position-map}

pub place_named-is : (T : TimetableData) (name : List ℕ) (stops stations : List (List ℕ)) → stops ≡ map (λ s. s.name) T.stops → stations ≡ map StationData.name T.stations
    → place_named T name ≡ option_or (option_map StopPlace (position (bytes_eq name) stops)) (option_map StationPlace (position (bytes_eq name) stations))
place_named-is T name stops stations p n =
    ap (λ o. option_or (option_map StopPlace o) (option_map StationPlace (position (λ s. bytes_eq name (StationData.name s)) T.stations)))
    (sym (ap (position (bytes_eq name)) p ∙ position-map (bytes_eq name) (λ s. s.name) T.stops))
    ∙ ap (λ o. option_or (option_map StopPlace (position (bytes_eq name) stops)) (option_map StationPlace o)) (sym (ap (position (bytes_eq name)) n ∙ position-map (bytes_eq name) StationData.name T.stations))
