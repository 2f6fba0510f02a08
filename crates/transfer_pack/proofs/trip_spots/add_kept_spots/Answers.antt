use Rattle.std.proofs.Common.{◌≡◌, ◌∙◌, ℕ, ◌+◌, ◌-◌, ◌<◌, ◌++◌, length, ap, arith, subst, sym}
use Rattle.transfer_pack.specs.Adding.{AddsEvents}
use Rattle.transfer_pack.specs.Packed.{hops_before, packed}
use Rattle.transfer_pack.proofs.KeptTrips.{kept_added, none_added}
use Rattle.transfer_pack.proofs.Packing.{all_added}
use Rattle.transfer_pack.proofs.trip_spots.add_kept_spots.Goals as goal

pub loop-at-init : goal.loop-at-init
loop-at-init c = λ hops long are. none_added (packed c.args.kept.now c.args.trip) c.args.events.now hops c.args.spots.now.items are

behind : (first end begin n : ℕ) → end ≡ begin + n → first + (end - begin) ≡ first + n
behind first end begin n is = omega (arith, is)

pub loop-at-preserved : goal.loop-at-preserved
loop-at-preserved c =
    let kept = packed c.args.kept.now in
    let at : ℕ = c.loop-at.at in
    let count : ℕ = length (hops_before kept c.args.trip 0 (at + 1)) in
    let inside : at < length c.spots_of-kept_spots.result.now = omega (arith, c.loop-at-test.true, c.spots_of-kept_spots.ensures.count, c.requires.events) in
    let ends : c.in_ok-end.end ≡ c.args.first + count = c.in_ok-end.ensures ∙ behind c.args.first _ c.begin_of-begin.result count (c.spots_of-kept_spots.ensures.ends at _ inside ∙ ap (λ n. n + count) (sym c.begin_of-begin.ensures)) in
    λ hops long are. kept_added kept c.args.trip c.args.events.now _ at hops c.args.first _ c.args.spots.now.items c.loop-at.spots.items c.add_spot_to.new.spots.items
    (c.loop-at.invariant hops long are) c.loop-at-test.true c.index-events-at.is long ends c.in_ok-add_spot_to.ensures.ends c.in_ok-add_spot_to.ensures.calls

pub returns : goal.returns
returns c =
    let kept = packed c.args.kept.now in
    let events = c.args.events.now in
    let all : c.loop-at.at ≡ length events = omega (arith, c.loop-at-test.false, c.loop-at.auto.at-end) in
    λ hops long are. subst (λ n. AddsEvents (kept c.args.trip) events hops (hops ++ hops_before kept c.args.trip 0 n) c.args.spots.now.items c.loop-at.spots.items) all
    (all_added (kept c.args.trip) events c.loop-at.at hops _ c.args.spots.now.items c.loop-at.spots.items (c.loop-at.invariant hops long are) (omega (arith, all)))
