use Rattle.std.proofs.Common.{◌∙◌, ap, map, rules, w32}
use Rattle.std.specs.Prelude.{ℤ, FitsSigned}
use Rattle.std.proofs.lemmas.Int.{to_z-of_z}
use Rattle.service_trips.specs.ServiceDay.{moved}
use Rattle.service_trips.proofs.Shown.{trip_made}
use Rattle.service_trips.proofs.by_starts.trip_starting_at.Goals as goal

pub returns : goal.returns
returns c =
    let fits : FitsSigned w32 c.shift.result = search rules in
    let secs = to_z-of_z w32 c.shift.result fits in
    trip_made c.args.day c.args.id.now c.args.ride.now c.args.start c.in_ok-name.name c.in_ok-events.events.items c.shift.result c.in_ok-name.ensures
    (c.in_ok-events.ensures ∙ ap (λ (secs : ℤ). map (moved secs) c.args.ride.now) secs) c.shift.ensures.shift
