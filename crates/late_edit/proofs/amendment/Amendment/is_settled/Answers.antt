use Rattle.std.proofs.Common.{◌≡◌, ◌∙◌, ◌<◌, ◌+ℤ◌, Vec, Global, ap, sym, subst, refl, arith, length, map, get_or, pos, Some, false}
use Rattle.std.specs.Prelude.{All, IfSome, slice_get}
use Rattle.std.proofs.lemmas.Bool.{OnTrue_at, OnTrue_from}
use Rattle.tb_base.specs.declared.table.Path.{Path}
use Rattle.tb_base.specs.Soundness.{IsSoundPath}
use Rattle.tb_base.specs.TimetableData.{TimetableData, event_at}
use Rattle.line_split.specs.LinesData.{LinesData}
use Rattle.late_edit.specs.declared.doubts.Doubt.{Doubt}
use Rattle.late_edit.specs.Touched.{has_other_events, is_touched_at}
use Rattle.late_edit.specs.Updated.{AmendmentData, IsUpdated}
use Rattle.late_edit.proofs.SettledEvents.{far_along, far_here, settled_at}
use Rattle.late_edit.proofs.amendment.Amendment.is_settled.Goals as goal

pub returns-then-not-is_marked : goal.returns-then-not-is_marked
returns-then-not-is_marked c =
    let r = c.self.inside in
    let L = r.compared.before in
    let M = r.compared.after in
    let t = c.args.trip in
    let i = c.args.at in
    let e = c.event-event.result in
    let fs = c.paths-paths.result.now in
    let own : c.table-table.result.now ≡ c.self.inside.compared.before.table = c.table-table.ensures ∙ ap (λ (N : LinesData). N.table) c.before-2.ensures in
    let times : has_other_events c.self.inside.compared.before.table c.self.inside.compared.after.table c.args.trip ≡ false = ap (λ (d : AmendmentData). has_other_events d.before.table d.after.table c.args.trip) c.self.view_is ∙ c.requires.same in
    let inside : c.event-event.result.stop < length c.self.inside.compared.before.table.stops = subst (λ (T : TimetableData). c.event-event.result.stop < length T.stops) own c.event-event.ensures.sound.stop in
    let row = subst (λ (T : TimetableData). slice_get T.footpaths.paths e.stop ≡ Some fs) own c.paths-paths.ensures.paths in
    let sound = subst (λ (T : TimetableData). All (IsSoundPath (length T.stops) e.stop) fs) own c.paths-paths.ensures.sound in
    let up = c.paths-paths.ensures.ascending in
    let rows = map (λ (row : Vec Doubt Global). row.items) r.doubts.items in
    let off : get_or c.self.inside.near.items c.event-event.result.stop false ≡ false
    = (λ k. get_or (sym c.as_slice.ensures.value k) c.event-event.result.stop false) ∙ (sym c.is_marked.ensures ∙ c.if-not-is_marked.true) in
    subst (λ (d : AmendmentData). is_touched_at d.before d.after c.args.trip c.args.at ≡ false) c.self.view_is
    (settled_at L M c.soundness.ensures t i times e (c.event-event.ensures.event ∙ ap (λ T. event_at T t i) own) inside fs row up sound
    (far_here L M rows r.near.items c.self.invariant.0 c.self.invariant.1 e.stop inside off t i e.arr)
    (far_along L M rows r.near.items c.self.invariant.0 c.self.invariant.1 e.stop inside off t i e.arr fs row up sound))

pub returns : goal.returns
returns c =
    let L = c.args.self.now.before in
    let M = c.args.self.now.after in
    let t = c.args.trip in
    let i = c.args.at in
    let e = c.event-event.result in
    let fs = c.paths-paths.result.now in
    let own : c.table-table.result.now ≡ c.args.self.now.before.table = c.table-table.ensures ∙ (ap (λ (N : LinesData). N.table) c.before-2.ensures ∙ ap (λ (d : AmendmentData). d.before.table) c.self.view_is) in
    let updated : IsUpdated c.args.self.now.before.table c.args.self.now.after.table = subst (λ (d : AmendmentData). IsUpdated d.before.table d.after.table) c.self.view_is c.soundness.ensures in
    let inside : c.event-event.result.stop < length c.args.self.now.before.table.stops = subst (λ (T : TimetableData). c.event-event.result.stop < length T.stops) own c.event-event.ensures.sound.stop in
    let row = subst (λ (T : TimetableData). slice_get T.footpaths.paths e.stop ≡ Some fs) own c.paths-paths.ensures.paths in
    let sound = subst (λ (T : TimetableData). All (IsSoundPath (length T.stops) e.stop) fs) own c.paths-paths.ensures.sound in
    OnTrue_from c.is_settled_along.result (is_touched_at L M t i ≡ false)
    (λ h. settled_at L M updated t i c.requires.same e (c.event-event.ensures.event ∙ ap (λ T. event_at T t i) own) inside fs row c.paths-paths.ensures.ascending sound c.if-not-is_settled_here.ensures
    (OnTrue_at h c.is_settled_along.ensures))
