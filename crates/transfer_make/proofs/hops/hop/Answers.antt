use Rattle.std.specs.Prelude.{FitsSigned}
use Rattle.std.proofs.Common.{rules, ◌≡◌, ◌∙◌, sym, ap, [], get_or, pos, ◌+ℤ◌, Some, true, false}
use Rattle.std.specs.Int.{w32}
use Rattle.std.proofs.lemmas.Int.{to_z-of_z}
use Rattle.tb_base.specs.Transfers.{earliest_trip}
use Rattle.line_split.specs.Layout.{berth_of}
use Rattle.transfer_make.proofs.ByBerth.{hop_at-found}
use Rattle.transfer_make.proofs.OwnLine.{own_line}
use Rattle.transfer_make.proofs.hops.hop.Goals as goal

pub returns-then-is_onward : goal.returns-then-is_onward
returns-then-is_onward c =
    let fits : FitsSigned w32 c.time_after.result = search rules in
    let T = c.args.lines.now.table in
    let lines = c.args.lines.now.lines in
    let a = c.args.from.now in
    let b = c.args.boarding.now in
    let time = c.args.from.now.arr +ℤ pos c.args.secs in
    let f : earliest_trip c.args.lines.now.table (get_or c.args.lines.now.lines c.args.boarding.now.line []) c.args.boarding.now.at (c.args.from.now.arr +ℤ pos c.args.secs) ≡ Some c.in-Some.found.0
    = ap (earliest_trip T (get_or lines b.line []) b.at) (sym c.time_after.ensures ∙ sym (to_z-of_z w32 c.time_after.result fits)) ∙ c.in-Some.ensures.0 in
    let own = own_line T lines c.soundness.ensures.divided a.trip a.at c.in-Some.found.0 b.at a.line a.place b.line c.in-Some.found.1 (b.line, c.in-Some.found.1) c.requires.from.placed c.in-Some.ensures.1 c.in-Some.ensures.1 ∙ sym c.is_onward.ensures in
    sym (hop_at-found T lines a.trip a.at time (berth_of b) c.in-Some.found.0 true c.requires.boarding.boarded f (own ∙ c.if-is_onward.true))

pub returns : goal.returns
returns c =
    let fits : FitsSigned w32 c.time_after.result = search rules in
    let T = c.args.lines.now.table in
    let lines = c.args.lines.now.lines in
    let a = c.args.from.now in
    let b = c.args.boarding.now in
    let time = c.args.from.now.arr +ℤ pos c.args.secs in
    let f : earliest_trip c.args.lines.now.table (get_or c.args.lines.now.lines c.args.boarding.now.line []) c.args.boarding.now.at (c.args.from.now.arr +ℤ pos c.args.secs) ≡ Some c.in-Some.found.0
    = ap (earliest_trip T (get_or lines b.line []) b.at) (sym c.time_after.ensures ∙ sym (to_z-of_z w32 c.time_after.result fits)) ∙ c.in-Some.ensures.0 in
    let own = own_line T lines c.soundness.ensures.divided a.trip a.at c.in-Some.found.0 b.at a.line a.place b.line c.in-Some.found.1 (b.line, c.in-Some.found.1) c.requires.from.placed c.in-Some.ensures.1 c.in-Some.ensures.1 ∙ sym c.is_onward.ensures in
    sym (hop_at-found T lines a.trip a.at time (berth_of b) c.in-Some.found.0 false c.requires.boarding.boarded f (own ∙ c.if-is_onward.false))
