use Rattle.std.proofs.Common.{◌≡◌, ◌∙◌, suc, ◌-◌, ◌++◌, length, ap, arith, subst, sym}
use Rattle.transfer_pack.specs.Adding.{AddsEvents}
use Rattle.transfer_pack.specs.Packed.{hops_before, packed}
use Rattle.transfer_pack.proofs.KeptTrips.{none_there}
use Rattle.transfer_pack.proofs.trip_spots.add_kept_trip.Goals as goal

pub returns-then-count-eq0 : goal.returns-then-count-eq0
returns-then-count-eq0 c =
    none_there (packed c.args.kept.now c.args.trip) c.args.events.now c.args.hops.now c.args.spots.now.items (omega (arith, c.if-count-eq0.true, c.event_count-count.ensures, c.requires.events)) c.requires.bounds

pub returns : goal.returns
returns c =
    let kept = packed c.args.kept.now in
    let last : suc (c.event_count-count.result - 1) ≡ length c.args.events.now = omega (arith, c.if-count-eq0.false, c.event_count-count.ensures, c.requires.events) in
    subst (λ hs. AddsEvents (kept c.args.trip) c.args.events.now c.args.hops.now hs c.args.spots.now.items c.add_kept_spots.new.spots.items)
    (sym (c.in_ok-append.ensures ∙ ap (λ hs. c.args.hops.now ++ hs) (c.hops_over.ensures ∙ ap (hops_before kept c.args.trip 0) last)))
    (c.in_ok-add_kept_spots.ensures c.args.hops.now (sym (c.in_ok-first.ensures ∙ c.count.ensures)) c.requires.bounds)
