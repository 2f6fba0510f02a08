use Rattle.std.proofs.Common.{rules, ◌<◌, ◌≤◌, length, arith, List, subst}
use Rattle.std.proofs.lemmas.Option.{get_or_from_slice_get, slice_get_within}
use Rattle.tb_base.specs.Network.{NetData}
use Rattle.tb_base.specs.declared.transfer.Hop.{Hop}
use Rattle.transfer_pack.specs.Words.{lent}
use Rattle.segment_queue.specs.Levels.{level_mark}
use Rattle.segment_queue.proofs.OpenPlaces.{kept_open, kept_within, passed_open, passed_within}
use Rattle.earliest_query.proofs.sweeping.open_places.Goals as goal
use Rattle.earliest_query.proofs.sweeping.open_places.Goals.{then-not-is_passed, else-not-is_passed}

pub is_passed-requires-clause-trip : goal.is_passed-requires-clause-trip
is_passed-requires-clause-trip g c =
    let hops : List Hop = lent c.args.hops.now in
    let hop : Hop = c.at-hop.result in
    subst (λ (h : Hop). h.trip < length (g.S.Scan.net c.args.scan.now).table.trips) (get_or_from_slice_get hops c.loop-place.place hop hop c.at-hop.ensures) (c.requires.trips c.loop-place.place hop (slice_get_within hops c.loop-place.place hop c.at-hop.ensures))

pub is_passed-requires-clause-within : goal.is_passed-requires-clause-within
is_passed-requires-clause-within g c =
    let hops : List Hop = lent c.args.hops.now in
    let hop : Hop = c.at-hop.result in
    c.requires.within hop.trip
    (subst (λ (h : Hop). h.trip < length (g.S.Scan.net c.args.scan.now).table.trips) (get_or_from_slice_get hops c.loop-place.place hop hop c.at-hop.ensures) (c.requires.trips c.loop-place.place hop (slice_get_within hops c.loop-place.place hop c.at-hop.ensures)))

pub loop-place-preserved : goal.loop-place-preserved
loop-place-preserved g c =
    let N : NetData = g.S.Scan.net c.args.scan.now in
    let P : Hop → Type 0 = λ h. level_mark N.table c.args.levels.now c.args.level h.trip ≤ h.at in
    let hops : List Hop = lent c.args.hops.now in
    let before = c.loop-place.invariant in
    let inside : c.loop-place.count < length c.loop-place.places = omega (arith, before.few, before.long, before.upto, c.loop-place-test.true, c.requires.room) in
    elim c.if-not-is_passed.branch [
      | then-not-is_passed w ↦ rw w.count-is (record {
        long = search rules;
        upto = omega (arith, c.loop-place-test.true);
        few = omega (arith, before.few);
        within = kept_within P hops c.args.from c.loop-place.place c.loop-place.count c.loop-place.places c.at-hop.result inside c.at-hop.ensures before.within before.left;
        left = kept_open P hops c.args.from c.loop-place.place c.loop-place.count c.loop-place.places c.at-hop.result inside c.at-hop.ensures before.within before.left;
      })
      | else-not-is_passed w ↦ rw w.count-is (record {
        long = search rules;
        upto = omega (arith, c.loop-place-test.true);
        few = omega (arith, before.few);
        within = passed_within P hops c.args.from c.loop-place.place c.loop-place.count c.loop-place.places c.at-hop.result inside c.at-hop.ensures before.within before.left;
        left = passed_open P hops c.args.from c.loop-place.place c.loop-place.count c.loop-place.places c.at-hop.result inside c.at-hop.ensures before.within before.left (rw w.if-not-is_passed.false at c.is_passed.ensures);
      })
    ]
