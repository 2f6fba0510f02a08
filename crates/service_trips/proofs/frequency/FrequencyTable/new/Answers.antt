use Rattle.std.proofs.Common.{◌∙◌, ap, map}
use Rattle.service_trips.specs.declared.frequency.TripFrequency.{TripFrequency}
use Rattle.service_trips.proofs.FrequencyRows.{keys_below}
use Rattle.service_trips.proofs.frequency.FrequencyTable.new.Goals as goal

pub by_key-requires-clause-keys : goal.by_key-requires-clause-keys
by_key-requires-clause-keys c =
    keys_below c.args.rows.items c.as_slice-2.result.now c.args.trips (c.as_slice-2.ensures.value ∙ c.in_ok-keys.ensures ∙ ap (map (λ f. TripFrequency.trip_row f)) c.as_slice.ensures.value) c.requires.trips
