use Rattle.std.proofs.Common.{◌∙◌, ◌++◌, ◌∷◌, [], ap, subst, sym, map}
use Rattle.std.specs.Prelude.{All}
use Rattle.std.specs.List.{range_with_len}
use Rattle.std.proofs.lemmas.List.{map-append}
use Rattle.std.proofs.lemmas.List.Elements.{All-push}
use Rattle.line_split.specs.Orders.{IsTimed}
use Rattle.line_split.proofs.TimedTrips.{trip_of}
use Rattle.line_split.proofs.TripOrders.{range_one_more}
use Rattle.line_split.proofs.order.all_timed.Goals as goal

pub loop-trip-preserved : goal.loop-trip-preserved
loop-trip-preserved c = record {
  trips = ap (map trip_of) c.in_ok-push.ensures.items
      ∙ map-append trip_of c.loop-trip.timed.items (c.timed_of.result ∷ [])
      ∙ ap (λ ts. ts ++ trip_of c.timed_of.result ∷ []) c.loop-trip.invariant.trips
      ∙ ap (λ t. range_with_len 0 c.loop-trip.trip ++ t ∷ []) c.timed_of.ensures.trip
      ∙ sym (range_one_more c.loop-trip.trip);
  timed = subst (All (IsTimed c.args.table.now)) (sym c.in_ok-push.ensures.items) (All-push (IsTimed c.args.table.now) c.loop-trip.timed.items c.timed_of.result c.loop-trip.invariant.timed c.timed_of.ensures.timed);
}
