use Rattle.std.specs.Prelude.{FitsSigned}
use Rattle.std.proofs.Common.{rules, ◌≡◌, ◌∙◌, sym, ap, subst, [], get_or, Some, true, false}
use Rattle.std.specs.Int.{w32}
use Rattle.std.proofs.lemmas.Int.{to_z-of_z}
use Rattle.tb_base.specs.Transfers.{earliest_trip}
use Rattle.line_split.specs.Layout.{berth_of}
use Rattle.line_split.specs.LinesData.{LinesData}
use Rattle.line_split.specs.LinesOf.{is_boarded}
use Rattle.transfer_make.specs.ByBerth.{hop_at}
use Rattle.transfer_make.proofs.ByBerth.{hop_at-found}
use Rattle.transfer_make.proofs.OwnLine.{own_line}
use Rattle.late_edit.proofs.lined_timetable.LinedTimetable.hop.Goals as goal

pub returns-then-is_onward : goal.returns-then-is_onward
returns-then-is_onward c =
    let N = c.self.inside.lines.now in
    let a = c.args.from.now in
    let b = c.args.boarding.now in
    let fits : FitsSigned w32 c.args.from.now.time = search rules in
    let boarded : is_boarded c.self.inside.lines.now.table c.self.inside.lines.now.lines (berth_of c.args.boarding.now) ≡ true = subst (λ (N : LinesData). is_boarded N.table N.lines (berth_of c.args.boarding.now) ≡ true) (sym c.self.view_is) c.requires.boarding.boarded in
    let f : earliest_trip c.self.inside.lines.now.table (get_or c.self.inside.lines.now.lines c.args.boarding.now.line []) c.args.boarding.now.at c.args.from.now.time ≡ Some c.in-Some.found.0
    = ap (earliest_trip N.table (get_or N.lines b.line []) b.at) (sym (to_z-of_z w32 a.time fits)) ∙ c.in-Some.ensures.0 in
    let own = own_line N.table N.lines c.soundness.ensures.divided a.trip a.at c.in-Some.found.0 b.at c.of.result.0 c.of.result.1 b.line c.in-Some.found.1 (b.line, c.in-Some.found.1) c.of.ensures c.in-Some.ensures.1 c.in-Some.ensures.1 ∙ sym c.is_onward.ensures in
    sym (hop_at-found N.table N.lines a.trip a.at a.time (berth_of b) c.in-Some.found.0 true boarded f (own ∙ c.if-is_onward.true))
    ∙ ap (λ (N : LinesData). hop_at N.table N.lines c.args.from.now.trip c.args.from.now.at c.args.from.now.time (berth_of c.args.boarding.now)) c.self.view_is

pub returns : goal.returns
returns c =
    let N = c.self.inside.lines.now in
    let a = c.args.from.now in
    let b = c.args.boarding.now in
    let fits : FitsSigned w32 c.args.from.now.time = search rules in
    let boarded : is_boarded c.self.inside.lines.now.table c.self.inside.lines.now.lines (berth_of c.args.boarding.now) ≡ true = subst (λ (N : LinesData). is_boarded N.table N.lines (berth_of c.args.boarding.now) ≡ true) (sym c.self.view_is) c.requires.boarding.boarded in
    let f : earliest_trip c.self.inside.lines.now.table (get_or c.self.inside.lines.now.lines c.args.boarding.now.line []) c.args.boarding.now.at c.args.from.now.time ≡ Some c.in-Some.found.0
    = ap (earliest_trip N.table (get_or N.lines b.line []) b.at) (sym (to_z-of_z w32 a.time fits)) ∙ c.in-Some.ensures.0 in
    let own = own_line N.table N.lines c.soundness.ensures.divided a.trip a.at c.in-Some.found.0 b.at c.of.result.0 c.of.result.1 b.line c.in-Some.found.1 (b.line, c.in-Some.found.1) c.of.ensures c.in-Some.ensures.1 c.in-Some.ensures.1 ∙ sym c.is_onward.ensures in
    sym (hop_at-found N.table N.lines a.trip a.at a.time (berth_of b) c.in-Some.found.0 false boarded f (own ∙ c.if-is_onward.false))
    ∙ ap (λ (N : LinesData). hop_at N.table N.lines c.args.from.now.trip c.args.from.now.at c.args.from.now.time (berth_of c.args.boarding.now)) c.self.view_is
