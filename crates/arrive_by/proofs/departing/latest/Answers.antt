use Rattle.std.proofs.Common.{sym, subst, ◌<◌, List, length, map}
use Rattle.std.specs.Prelude.{All}
use Rattle.tb_base.specs.JourneyRules.{HasNumbers}
use Rattle.tb_base.specs.declared.table.Stop.{Stop}
use Rattle.arrive_by.specs.Latest.{AreLatestDepartures, DepartureData, departure_from}
use Rattle.arrive_by.proofs.Found.{choices_numbers, choices_times, departures_latest, if_ok, numbers_are}
use Rattle.arrive_by.proofs.departing.latest.Goals as goal

pub departures-requires-clause-numbers : goal.departures-requires-clause-numbers
departures-requires-clause-numbers c =
    choices_numbers c.args.mirrored.now.table c.args.by.now _ c.soundness-2.ensures.sound c.in_ok-query.ensures
    (subst (λ (ss : List Stop). All (λ p. p < length ss) c.args.by.now.to) (sym c.requires.mirror.stops) c.requires.targets)
    c.in_ok-choices.choices.items c.as_slice.result.now c.as_slice.ensures.value c.in_ok-choices.ensures.journeys

pub departures-requires-clause-times : goal.departures-requires-clause-times
departures-requires-clause-times c =
    choices_times c.args.mirrored.now.table c.args.by.now _ c.soundness-2.ensures.sound c.in_ok-query.ensures c.requires.latest
    c.in_ok-choices.choices.items c.as_slice.result.now c.as_slice.ensures.value c.in_ok-choices.ensures.journeys

pub returns-clause-latest : goal.returns-clause-latest
returns-clause-latest c =
    if_ok (AreLatestDepartures c.args.table.now c.args.by.now) (λ ds. ds.items) (map (departure_from c.args.mirrored.now.table) c.as_slice.result.now) c.departures.result c.departures.ensures
    (departures_latest c.args.table.now c.args.mirrored.now.table c.requires.mirror c.args.by.now _ c.in_ok-query.ensures c.in_ok-choices.choices.items c.as_slice.result.now c.as_slice.ensures.value
    c.in_ok-choices.ensures.values c.in_ok-choices.ensures.journeys)

pub returns-clause-numbers : goal.returns-clause-numbers
returns-clause-numbers c =
    if_ok (λ ds. All (λ d. All (HasNumbers c.args.table.now) (DepartureData.legs d)) ds) (λ ds. ds.items) (map (departure_from c.args.mirrored.now.table) c.as_slice.result.now) c.departures.result c.departures.ensures
    (numbers_are c.args.table.now c.args.by.now c.soundness.ensures c.requires.origins (map (departure_from c.args.mirrored.now.table) c.as_slice.result.now)
    (departures_latest c.args.table.now c.args.mirrored.now.table c.requires.mirror c.args.by.now _ c.in_ok-query.ensures c.in_ok-choices.choices.items c.as_slice.result.now c.as_slice.ensures.value
    c.in_ok-choices.ensures.values c.in_ok-choices.ensures.journeys))
