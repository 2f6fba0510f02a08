use Rattle.std.proofs.Common.{rules, ◌≡◌, ◌∙◌, ◌∷◌, ◌++◌, [], ap, sym, map, length, arith}
use Rattle.std.proofs.lemmas.List.{length-append, map_push}
use Rattle.trip_table.specs.References.{wrong_twice}
use Rattle.trip_table.proofs.SiftSteps.{keep, leave, fresh_id, second_id}
use Rattle.trip_table.proofs.distinct.without_twins.Goals as goal

-- the id of the row is fresh
pub loop-row-preserved-in-Continue-1 : goal.loop-row-preserved-in-Continue-1
loop-row-preserved-in-Continue-1 g c =
    let inv = c.loop-row.invariant in
    let row = c.in-Some.row in
    let rest = c.next.new.self.rest.items in
    let e : c.loop-row.row-iterator.rest.items ≡ row ∷ rest = search rules in
    let fresh = rw c.id.ensures at c.in-Ok-true.ensures.fresh in
    let added = rw (c.id.ensures, c.in-Ok-true.field-0-test) at c.in-Ok-true.ensures.added in
    let good = fresh_id g.R.Identified.id g.R.Identified.duplicate c.loop-row.ids c.loop-row.kept.items row c.in-Ok-true.field-0 inv.ids fresh c.in-Ok-true.field-0-test in
    let pushed = c.in_ok-push-in-Ok-true.ensures.items in
    let long = ap length pushed ∙ length-append c.loop-row.kept.items (row ∷ []) in
    let left = ap length e in
    record {
      ids = added ∙ ap (λ ids. ids ++ g.R.Identified.id row ∷ []) inv.ids ∙ sym (map_push g.R.Identified.id c.loop-row.kept.items row) ∙ ap (map g.R.Identified.id) (sym pushed);
      passes = keep (wrong_twice g.R.Identified.id g.R.Identified.duplicate) c.args.told.now.items c.loop-row.told.items c.args.rows.items c.loop-row.kept.items _ c.loop-row.row-iterator.rest.items rest row e good pushed inv.passes;
      few = let few = inv.few in omega (arith, long, left, few);
    }

-- it stands twice
pub loop-row-preserved : goal.loop-row-preserved
loop-row-preserved g c =
    let inv = c.loop-row.invariant in
    let row = c.in-Some.row in
    let rest = c.next.new.self.rest.items in
    let e : c.loop-row.row-iterator.rest.items ≡ row ∷ rest = search rules in
    let fresh = rw c.id.ensures at c.in-Ok-false.ensures.fresh in
    let added = rw (c.id.ensures, c.in-Ok-false.field-0-test) at c.in-Ok-false.ensures.added in
    let bad = second_id g.R.Identified.id g.R.Identified.duplicate c.loop-row.ids c.loop-row.kept.items row c.in-Ok-false.field-0 inv.ids fresh c.in-Ok-false.field-0-test in
    let pushed = rw c.duplicate.ensures at c.in_ok-push-in-Ok-false.ensures.items in
    let left = ap length e in
    record {
      ids = added ∙ inv.ids;
      passes = leave (wrong_twice g.R.Identified.id g.R.Identified.duplicate) c.args.told.now.items c.loop-row.told.items _ c.args.rows.items c.loop-row.kept.items c.loop-row.row-iterator.rest.items rest row _ e bad pushed inv.passes;
      few = let few = inv.few in omega (arith, left, few);
    }
