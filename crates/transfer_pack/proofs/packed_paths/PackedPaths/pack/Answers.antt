use Rattle.std.proofs.Common.{◌≡◌, ◌∙◌, ◌+◌, ◌++◌, ◌∷◌, [], length, get_or, ap, sym, subst, arith, length-append}
use Rattle.std.proofs.lemmas.Grind.{common_steps}
use Rattle.transfer_pack.specs.PackedRows.{ArePacked}
use Rattle.transfer_pack.proofs.PackedRows.{last_more, packed_more}
use Rattle.transfer_pack.proofs.packed_paths.PackedPaths.pack.Goals as goal

pub loop-stop-preserved : goal.loop-stop-preserved
loop-stop-preserved c =
    let rows = c.args.rows.now in
    let inv = c.loop-stop.invariant in
    let stop = c.loop-stop.stop in
    let bounds = c.loop-stop.bounds.items in
    let paths = c.loop-stop.paths.items in
    let row = c.row.result.now in
    let now = c.extend_from_slice.new.self.items in
    let added : c.extend_from_slice.new.self.items ≡ c.loop-stop.paths.items ++ c.row.result.now = c.in_ok-extend_from_slice.ensures.items in
    let long : c.len.result ≡ length c.extend_from_slice.new.self.items = grind (arith, common_steps) in
    let count : c.len.result ≡ length c.loop-stop.paths.items + length c.row.result.now = long ∙ ap length added ∙ length-append paths row in
    let pushed : c.push-in-loop-stop.new.self.items ≡ c.loop-stop.bounds.items ++ c.len.result ∷ [] = c.in_ok-push-2.ensures.items ∙ ap (λ n. bounds ++ n ∷ []) c.in_ok-number.ensures in
    record {
      packed = subst (λ bs. ArePacked rows (stop + 1) bs now) (sym pushed)
          (subst (λ ps. ArePacked rows (stop + 1) (bounds ++ c.len.result ∷ []) ps) (sym added) (packed_more rows stop bounds paths row c.len.result inv.packed inv.last c.row.ensures count));
      last = ap (λ bs. get_or bs (stop + 1) 0) pushed ∙ last_more stop bounds paths row c.len.result inv.packed.long count ∙ ap length (sym added);
    }
