use Rattle.std.proofs.Common.{◌≡◌, ◌<◌, ◌∙◌, sym, subst, length, map, arith, Vec, Global}
use Rattle.std.specs.Prelude.{All}
use Rattle.std.proofs.lemmas.Bool.Decides.{nat_tests}
use Rattle.std.proofs.lemmas.Grind.{common_steps}
use Rattle.tb_base.specs.declared.table.Event.{Event}
use Rattle.service_trips.specs.declared.frequency.TripFrequency.{TripFrequency}
use Rattle.trip_table.proofs.StartSteps.{goods_kept, starts_left, trips_kept}
use Rattle.trip_table.proofs.left_starts.left_starts.Goals as goal

pub new-requires-clause-trips : goal.new-requires-clause-trips
new-requires-clause-trips c =
    let rides = map (λ (ride : Vec Event Global). ride.items) c.in-Ok.rides.items in
    let left = rw (c.as_slice.ensures.value, c.rows-found.ensures.rows) at c.in_ok-left.ensures.left in
    let many : c.len.result ≡ length c.in-Ok.rides.items = grind (arith, common_steps, c.len.ensures) in
    let named = subst (λ n. All (λ f. TripFrequency.trip_row f < n) c.args.named.rows) (c.requires ∙ sym c.in-Ok.ensures.long) c.rows-found.ensures.trips in
    rw (left, many) (trips_kept (length c.in-Ok.rides.items) rides c.args.named.rows named)

pub new-requires-clause-good : goal.new-requires-clause-good
new-requires-clause-good c =
    let rides = map (λ (ride : Vec Event Global). ride.items) c.in-Ok.rides.items in
    let left = rw (c.as_slice.ensures.value, c.rows-found.ensures.rows) at c.in_ok-left.ensures.left in
    rw left (goods_kept rides c.args.named.rows c.rows-found.ensures.good)

pub returns-clause-left : goal.returns-clause-left
returns-clause-left c =
    let rides = map (λ (ride : Vec Event Global). ride.items) c.in-Ok.rides.items in
    let test = c.is_empty.ensures in
    let no = c.if-is_empty.false in
    let some : 0 < length c.rows-found.result.now = grind (arith, nat_tests, test, no) in
    let told = rw (c.as_slice.ensures.value, c.rows-found.ensures.rows) at c.in_ok-left.ensures.told in
    let left = rw (c.as_slice.ensures.value, c.rows-found.ensures.rows) at c.in_ok-left.ensures.left in
    starts_left c.args.rows.now c.args.named.rows c.in_ok-table.table.rows c.args.told.now.items c.leave_starts.new.told.items rides (rw c.rows-found.ensures.rows at some) c.in-Ok.ensures.rides told (c.in_ok-table.ensures.rows ∙ left)
