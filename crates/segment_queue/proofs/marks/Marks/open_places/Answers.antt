use Rattle.std.proofs.Common.{rules, ◌<◌, ◌≤◌, ◌⊎◌, length, arith, List, None}
use Rattle.std.specs.Prelude.{IsSomeAnd, slice_index_or}
use Rattle.tb_base.specs.declared.transfer.Hop.{Hop}
use Rattle.transfer_pack.specs.Words.{lent}
use Rattle.segment_queue.proofs.OpenPlaces.{kept_open, kept_within, passed_open, passed_within}
use Rattle.segment_queue.proofs.marks.Marks.open_places.Goals as goal
use Rattle.segment_queue.proofs.marks.Marks.open_places.Goals.{then-not-is_passed, else-not-is_passed}

pub loop-place-preserved : goal.loop-place-preserved
loop-place-preserved c =
    let P : Hop → Type 0 = λ h. IsSomeAnd (slice_index_or c.args.self.now h.trip None) (λ m. m ≤ h.at) ⊎ (10000000 ≤ h.at) in
    let hops : List Hop = lent c.args.hops.now in
    let before = c.loop-place.invariant in
    let inside : c.loop-place.count < length c.loop-place.places = omega (arith, before.few, before.long, before.upto, c.loop-place-test.true, c.requires.room) in
    elim c.if-not-is_passed.branch [
      | then-not-is_passed w ↦ rw w.count-is (record {
        long = search rules;
        upto = omega (arith, c.loop-place-test.true);
        few = omega (arith, before.few);
        within = kept_within P hops c.args.from c.loop-place.place c.loop-place.count c.loop-place.places c.at-hop.result inside c.at-hop.ensures before.within before.left;
        left = kept_open P hops c.args.from c.loop-place.place c.loop-place.count c.loop-place.places c.at-hop.result inside c.at-hop.ensures before.within before.left;
      })
      | else-not-is_passed w ↦ rw w.count-is (record {
        long = search rules;
        upto = omega (arith, c.loop-place-test.true);
        few = omega (arith, before.few);
        within = passed_within P hops c.args.from c.loop-place.place c.loop-place.count c.loop-place.places c.at-hop.result inside c.at-hop.ensures before.within before.left;
        left = passed_open P hops c.args.from c.loop-place.place c.loop-place.count c.loop-place.places c.at-hop.result inside c.at-hop.ensures before.within before.left (rw w.if-not-is_passed.false at c.is_passed.ensures);
      })
    ]
