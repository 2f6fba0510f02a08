use Rattle.std.proofs.Common.{◌≡◌, ◌∙◌, ◌<◌, [], Vec, Global, ap, sym, subst, arith, length, map, get_or}
use Rattle.std.specs.Prelude.{All}
use Rattle.std.proofs.lemmas.Bool.{OnTrue_at, OnTrue_from}
use Rattle.std.proofs.lemmas.List.{get_or-map, length-map}
use Rattle.late_edit.specs.declared.doubts.Doubt.{Doubt}
use Rattle.late_edit.specs.Doubts.{AreSettled, IsDoubt, IsSettled, rows_to}
use Rattle.late_edit.specs.Updated.{AmendmentData}
use Rattle.late_edit.proofs.amendment.Amendment.is_settled_to.Goals as goal

pub are_settled-requires-clause-doubts : goal.are_settled-requires-clause-doubts
are_settled-requires-clause-doubts c =
    let r = c.self.inside in
    let q = c.args.stop in
    let inside : c.args.stop < length c.self.inside.compared.before.table.stops = subst (λ (d : AmendmentData). c.args.stop < length d.before.table.stops) (sym c.self.view_is) c.requires.stop in
    let in_rows : c.args.stop < length c.self.inside.doubts.items = omega (arith, inside, c.self.invariant.0.long, length-map c.self.inside.doubts.items (λ (row : Vec Doubt Global). row.items)) in
    let is = c.as_slice-doubts.ensures.value
    ∙ (ap (λ (row : Vec Doubt Global). row.items) (c.index-2.ensures ∙ ap (λ n. get_or r.doubts.items n c.index-2.result.now) c.index.ensures)
    ∙ sym (get_or-map (λ (row : Vec Doubt Global). row.items) r.doubts.items q c.index-2.result.now [] in_rows)) in
    subst (All (IsDoubt r.compared.before r.compared.after)) (sym is) (c.self.invariant.0.at q inside).each

pub returns : goal.returns
returns c =
    let r = c.self.inside in
    let q = c.args.stop in
    let a = c.args.from.now in
    let inside : c.args.stop < length c.self.inside.compared.before.table.stops = subst (λ (d : AmendmentData). c.args.stop < length d.before.table.stops) (sym c.self.view_is) c.requires.stop in
    let in_rows : c.args.stop < length c.self.inside.doubts.items = omega (arith, inside, c.self.invariant.0.long, length-map c.self.inside.doubts.items (λ (row : Vec Doubt Global). row.items)) in
    let is = c.as_slice-doubts.ensures.value
    ∙ (ap (λ (row : Vec Doubt Global). row.items) (c.index-2.ensures ∙ ap (λ n. get_or r.doubts.items n c.index-2.result.now) c.index.ensures)
    ∙ sym (get_or-map (λ (row : Vec Doubt Global). row.items) r.doubts.items q c.index-2.result.now [] in_rows)) in
    OnTrue_from c.are_settled.result
    (AreSettled c.args.self.now.before c.args.self.now.after (rows_to c.args.self.now.before a.trip a.at q a.time) (rows_to c.args.self.now.after a.trip a.at q a.time))
    (λ h. subst (λ (d : AmendmentData). AreSettled d.before d.after (rows_to d.before a.trip a.at q a.time) (rows_to d.after a.trip a.at q a.time)) c.self.view_is
    ((c.self.invariant.0.at q inside).settled a.trip a.at a.time (subst (All (IsSettled r.compared.before r.compared.after a.trip a.at a.time)) is (OnTrue_at h c.are_settled.ensures))))
