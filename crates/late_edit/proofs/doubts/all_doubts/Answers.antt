use Rattle.std.proofs.Common.{◌≡◌, ◌∙◌, ◌++◌, ◌∷◌, ◌+◌, [], Vec, Global, ap, arith, length, map}
use Rattle.std.proofs.lemmas.List.{length_push, map_push}
use Rattle.tb_base.specs.TimetableData.{TimetableData}
use Rattle.line_split.specs.LinesData.{LinesData}
use Rattle.line_split.proofs.BerthLemmas.{rows_pushed}
use Rattle.late_edit.specs.declared.doubts.Doubt.{Doubt}
use Rattle.late_edit.specs.Doubts.{AreDoubtsAt}
use Rattle.late_edit.proofs.doubts.all_doubts.Goals as goal

pub loop-number-preserved : goal.loop-number-preserved
loop-number-preserved c =
    let L = c.args.compared.now.before in
    let M = c.args.compared.now.after in
    let inv = c.loop-number.invariant in
    let ds = c.in_ok-doubts.doubts.items in
    let rows = map (λ (row : Vec Doubt Global). row.items) c.loop-number.rows.items in
    let pushed : map (λ (row : Vec Doubt Global). row.items) c.push.new.self.items ≡ map (λ (row : Vec Doubt Global). row.items) c.loop-number.rows.items ++ c.in_ok-doubts.doubts.items ∷ []
    = ap (map (λ (row : Vec Doubt Global). row.items)) c.in_ok-push.ensures.items ∙ map_push (λ (row : Vec Doubt Global). row.items) c.loop-number.rows.items c.in_ok-doubts.doubts in
    record {
      long = ap length pushed ∙ (length_push rows ds ∙ ap (λ n. n + 1) inv.long);
      at = rows_pushed (λ q ds. AreDoubtsAt L M q ds) rows (map (λ (row : Vec Doubt Global). row.items) c.push.new.self.items) ds c.loop-number.number inv.long pushed inv.at c.in_ok-doubts.ensures;
    }

pub returns : goal.returns
returns c =
    let inv = c.loop-number.invariant in
    let own : c.table.result.now ≡ c.args.compared.now.before.table = c.table.ensures ∙ ap (λ (N : LinesData). N.table) c.before-2.ensures in
    let many : c.loop-number.number ≡ length c.args.compared.now.before.table.stops
    = omega (arith, c.loop-number-test.false, c.loop-number.auto.number-end, c.stop_count-number-end.ensures, ap (λ (T : TimetableData). length T.stops) own) in
    record { long = inv.long ∙ many; at = λ q below. inv.at q (omega (arith, below, many)) }
