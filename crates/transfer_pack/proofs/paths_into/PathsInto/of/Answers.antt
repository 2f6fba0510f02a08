use Rattle.std.proofs.Common.{◌∙◌, [], sym}
use Rattle.std.proofs.lemmas.Option.{get_or_from_slice_get}
use Rattle.transfer_pack.proofs.Paths.{into_more, total_more}
use Rattle.transfer_pack.proofs.paths_into.PathsInto.of.Goals as goal

pub loop-p-preserved : goal.loop-p-preserved
loop-p-preserved c =
    let a = c.in_ok-add_turned.ensures in
    let i = c.loop-p.invariant in
    let paths = c.args.table.now.footpaths.paths in
    record {
      stops = a.stops ∙ i.stops;
      rows = λ q inside. into_more paths q c.loop-p.p c.paths.result.now _ _ (sym (get_or_from_slice_get paths c.loop-p.p c.paths.result.now [] c.paths.ensures.paths)) (i.rows q inside) (a.rows q);
      total = total_more paths c.loop-p.p c.paths.result.now _ _ c.paths.ensures.paths i.total a.total;
    }
