use Rattle.std.proofs.Common.{◌≡◌, ◌∙◌, ◌<◌, Vec, Global, ap, sym, subst, not, length, map, get_or, arith, false}
use Rattle.std.proofs.lemmas.Bool.{OnTrue_from}
use Rattle.std.proofs.lemmas.List.{get_or_read}
use Rattle.tb_base.specs.Lines.{AreDividedInto}
use Rattle.tb_base.specs.Soundness.{IsSound}
use Rattle.line_split.specs.LinesData.{LinesData}
use Rattle.line_split.specs.LinesOf.{StandsAt}
use Rattle.line_split.proofs.RunLemmas.{stands_inside}
use Rattle.late_edit.specs.declared.doubts.Doubt.{Doubt}
use Rattle.late_edit.specs.Touched.{has_other_events, is_touched}
use Rattle.late_edit.specs.Updated.{AmendmentData}
use Rattle.late_edit.proofs.FarLines.{far_untouched, off_from}
use Rattle.late_edit.proofs.amendment.Amendment.is_far.Goals as goal

pub returns : goal.returns
returns c =
    let r = c.self.inside in
    let L = r.compared.before in
    let M = r.compared.after in
    let t = c.args.trip in
    let own : c.before-before.result.now ≡ c.self.inside.compared.before = c.before-before.ensures in
    let there : c.args.trip < length c.self.inside.compared.before.table.trips = subst (λ (d : AmendmentData). c.args.trip < length d.before.table.trips) (sym c.self.view_is) c.requires.trip in
    let times : has_other_events c.self.inside.compared.before.table c.self.inside.compared.after.table c.args.trip ≡ false = ap (λ (d : AmendmentData). has_other_events d.before.table d.after.table c.args.trip) c.self.view_is ∙ c.requires.same in
    let sound = subst (λ (N : LinesData). IsSound N.table) own c.soundness-2.ensures.sound in
    let divided = subst (λ (N : LinesData). AreDividedInto N.table N.lines) own c.soundness-2.ensures.divided in
    let stands = subst (λ (N : LinesData). StandsAt N.lines t c.place-line.result) own c.place-line.ensures in
    let rows = map (λ (row : Vec Doubt Global). row.items) r.doubts.items in
    let inside : c.place-line.result.0 < length c.self.inside.near_lines.items = omega (arith, stands_inside L.lines c.place-line.result.0 c.place-line.result.1 t stands, c.self.invariant.2.long) in
    let is = c.index-2.ensures ∙ ap (λ n. get_or r.near_lines.items n c.index-2.result.now) c.index.ensures in
    let mark = get_or_read r.near_lines.items c.place-line.result.0 c.index-2.result.now inside is false in
    OnTrue_from (not c.index-2.result.now) (is_touched c.args.self.now.before c.args.self.now.after t ≡ false)
    (λ h. subst (λ (d : AmendmentData). is_touched d.before d.after c.args.trip ≡ false) c.self.view_is
    (far_untouched L M c.soundness.ensures sound divided rows r.near.items r.near_lines.items c.self.invariant.0 c.self.invariant.1 c.self.invariant.2 t there times c.place-line.result stands (sym mark ∙ off_from c.index-2.result.now h)))
