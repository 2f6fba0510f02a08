use Rattle.std.proofs.Common.{◌≡◌, ◌∙◌, ap, length, map, rules, subst, sym}
use Rattle.std.proofs.lemmas.List.{length-map}
use Rattle.std.proofs.lemmas.List.FromFn.{length-range_with_len}
use Rattle.std.proofs.lemmas.List.Sorted.{length_permutation}
use Rattle.std.proofs.lemmas.Fn.{always_returns_same}
use Rattle.std.proofs.lemmas.Result.{IfOk-weaker}
use Rattle.tb_base.specs.Lines.{IsTripOrder}
use Rattle.line_split.proofs.TimedTrips.{precedes_timed, precedes_timed-ranks, timed_is_order, trip_of}
use Rattle.line_split.proofs.order.trip_order.Goals as goal

pub returns-clause-order : goal.returns-clause-order
returns-clause-order c =
    let T = c.args.table.now in
    let sorted = c.sort_unstable_by.new.self.items in
    let order : IsTripOrder T (map trip_of sorted) =
    timed_is_order T c.in_ok-timed.timed.items sorted c.soundness.ensures c.in_ok-timed.ensures.trips c.in_ok-timed.ensures.timed c.sort_unstable_by.ensures.permutation
    (c.sort_unstable_by.ensures.sorted (precedes_timed T) (precedes_timed-ranks T) (always_returns_same _ _ _ (λ a r f h. search rules))) in
    IfOk-weaker c.trips_of.result _ _ (λ trips is. subst (IsTripOrder T) (sym (is ∙ ap (map trip_of) c.as_slice.ensures.value)) order) c.trips_of.ensures

pub returns-clause-count : goal.returns-clause-count
returns-clause-count c =
    let T = c.args.table.now in
    let timed = c.in_ok-timed.timed.items in
    let sorted = c.sort_unstable_by.new.self.items in
    let many : length sorted ≡ length T.trips =
    length_permutation timed sorted c.sort_unstable_by.ensures.permutation
    ∙ sym (length-map timed trip_of) ∙ ap length c.in_ok-timed.ensures.trips ∙ length-range_with_len 0 (length T.trips) in
    IfOk-weaker c.trips_of.result _ _ (λ trips is. ap length is ∙ length-map c.as_slice.result.now trip_of ∙ ap length c.as_slice.ensures.value ∙ many) c.trips_of.ensures
