use Rattle.std.proofs.Common.{◌≡◌, ◌∙◌, ap, subst, length, get_or, arith, map}
use Rattle.std.proofs.lemmas.Grind.{common_steps}
use Rattle.std.specs.Vec.{vec_len}
use Rattle.footpaths.specs.Footpaths.{numbers}
use Rattle.tb_base.specs.TimetableData.{FootpathData}
use Rattle.foot_close.specs.Tables.{reached_from}
use Rattle.foot_close.proofs.TableLaws.{row_at, rows_count}
use Rattle.foot_close.proofs.table.Table.row.Goals as goal

pub index-requires-2 : goal.index-requires-2
index-requires-2 c =
    let same : vec_len c.self.inside.rows ≡ length c.self.inside.rows.items = grind (arith, common_steps) in
    let reached = subst (λ (P : FootpathData). map (λ row. row.items) c.self.inside.rows.items ≡ map (reached_from P) (numbers (length P.change))) c.self.view_is c.self.invariant.reached in
    let many = rows_count (λ row. row.items) c.args.self.now c.self.inside.rows.items reached in
    omega (arith, many, same, c.requires, c.index.ensures)

pub returns : goal.returns
returns c =
    let reached = subst (λ (P : FootpathData). map (λ row. row.items) c.self.inside.rows.items ≡ map (reached_from P) (numbers (length P.change))) c.self.view_is c.self.invariant.reached in
    c.as_slice.ensures.value ∙ row_at (λ row. row.items) c.args.self.now c.self.inside.rows.items c.args.from c.index-2.result.now reached c.requires (c.index-2.ensures ∙ ap (λ k. get_or c.self.inside.rows.items k c.index-2.result.now) c.index.ensures)
