use Rattle.std.proofs.Common.{◌≡◌, ◌∙◌, ◌+◌, ◌++◌, ◌∷◌, [], length, map, get_or, ap, sym, subst, arith, length-append}
use Rattle.std.proofs.lemmas.Grind.{common_steps}
use Rattle.std.proofs.lemmas.List.{length-map}
use Rattle.transfer_pack.specs.CallsOf.{call_of}
use Rattle.transfer_pack.specs.Flat.{AreFlat}
use Rattle.transfer_pack.specs.PackedCalls.{calls_in, spot_call}
use Rattle.transfer_pack.proofs.Flattening.{flat_more, last_more}
use Rattle.transfer_pack.proofs.flat.FlatCalls.of.Goals as goal

pub loop-t-preserved : goal.loop-t-preserved
loop-t-preserved c =
    let T = c.args.table.now in
    let inv = c.loop-t.invariant in
    let t = c.loop-t.t in
    let bounds = c.loop-t.bounds.items in
    let calls = calls_in c.loop-t.spots.items in
    let events = c.events.result.now in
    let now = c.add_trip.new.spots.items in
    let added : calls_in c.add_trip.new.spots.items ≡ calls_in c.loop-t.spots.items ++ map call_of c.events.result.now = c.in_ok-add_trip.ensures in
    let long : c.len.result ≡ length c.add_trip.new.spots.items = grind (arith, common_steps) in
    let count : c.len.result ≡ length (calls_in c.loop-t.spots.items) + length c.events.result.now
    = omega (arith, long, length-map now spot_call, ap length added, length-append calls (map call_of events), length-map events call_of) in
    let pushed : c.push-in-loop-t.new.self.items ≡ c.loop-t.bounds.items ++ c.len.result ∷ [] = c.in_ok-push-2.ensures.items ∙ ap (λ n. bounds ++ n ∷ []) c.in_ok-number.ensures in
    record {
      flat = subst (λ bs. AreFlat T (t + 1) bs (calls_in now)) (sym pushed)
          (subst (λ cs. AreFlat T (t + 1) (bounds ++ c.len.result ∷ []) cs) (sym added) (flat_more T t bounds calls events c.len.result inv.flat inv.last c.events.ensures count));
      last = ap (λ bs. get_or bs (t + 1) 0) pushed ∙ last_more t bounds calls events c.len.result inv.flat.long count ∙ ap length (sym added);
    }
