use Rattle.std.proofs.Common.{◌∙◌, ◌<◌, length, get_or, [], sym, ap, subst, Some, None, w32}
use Rattle.std.proofs.lemmas.Int.{to_z-of_z}
use Rattle.tb_base.specs.TimetableData.{TimetableData}
use Rattle.tb_base.specs.Transfers.{earliest_trip}
use Rattle.line_split.specs.LinesOf.{berths_at}
use Rattle.segment_queue.specs.Scans.{line_indices_at}
use Rattle.segment_queue.proofs.LineViews.{berth_below, berth_facts, hop_is, index_of, no_hop}
use Rattle.segment_queue.proofs.view.ViewLook.boarding.Goals as goal

pub at-requires : goal.at-requires
at-requires g c =
    let inside : c.args.p < length c.self.inside.table.now.stops = rw (← c.self.view_is) at c.requires.stop in
    subst (λ (T : TimetableData). c.args.p < length T.stops) (sym c.self.invariant.0) inside

pub bounds-at-berth : goal.bounds-at-berth
bounds-at-berth g c =
    let T = c.self.inside.table.now in
    let lines = c.self.inside.lines.now.lines in
    let below : c.args.berth < length (line_indices_at T lines c.args.p) = rw (← c.self.view_is) at c.requires.berth in
    let same = c.at.ensures ∙ ap (λ t. berths_at t lines c.args.p) c.self.invariant.0 in
    berth_below T lines c.args.p c.args.berth c.at.result.now same below

pub may_be_boarded-requires-clause-line : goal.may_be_boarded-requires-clause-line
may_be_boarded-requires-clause-line g c =
    let T = c.self.inside.table.now in
    let lines = c.self.inside.lines.now.lines in
    let below : c.args.berth < length (line_indices_at T lines c.args.p) = rw (← c.self.view_is) at c.requires.berth in
    let same = c.at.ensures ∙ ap (λ t. berths_at t lines c.args.p) c.self.invariant.0 in
    let facts = berth_facts T lines c.args.p c.args.berth c.at.result.now c.index-at-berth.result same below c.index-at-berth.is in
    facts.line

pub earliest-requires-clause-line : goal.earliest-requires-clause-line
earliest-requires-clause-line g c =
    let T = c.self.inside.table.now in
    let lines = c.self.inside.lines.now.lines in
    let below : c.args.berth < length (line_indices_at T lines c.args.p) = rw (← c.self.view_is) at c.requires.berth in
    let same = c.at.ensures ∙ ap (λ t. berths_at t lines c.args.p) c.self.invariant.0 in
    let facts = berth_facts T lines c.args.p c.args.berth c.at.result.now c.index-at-berth.result same below c.index-at-berth.is in
    facts.line

pub earliest-requires-clause-at : goal.earliest-requires-clause-at
earliest-requires-clause-at g c =
    let T = c.self.inside.table.now in
    let lines = c.self.inside.lines.now.lines in
    let below : c.args.berth < length (line_indices_at T lines c.args.p) = rw (← c.self.view_is) at c.requires.berth in
    let same = c.at.ensures ∙ ap (λ t. berths_at t lines c.args.p) c.self.invariant.0 in
    let facts = berth_facts T lines c.args.p c.args.berth c.at.result.now c.index-at-berth.result same below c.index-at-berth.is in
    facts.at

pub returns-then-not-may_be_boarded-clause-hop : goal.returns-then-not-may_be_boarded-clause-hop
returns-then-not-may_be_boarded-clause-hop g c =
    let T = c.self.inside.table.now in
    let lines = c.self.inside.lines.now.lines in
    let below : c.args.berth < length (line_indices_at T lines c.args.p) = rw (← c.self.view_is) at c.requires.berth in
    let same = c.at.ensures ∙ ap (λ t. berths_at t lines c.args.p) c.self.invariant.0 in
    let facts = berth_facts T lines c.args.p c.args.berth c.at.result.now c.index-at-berth.result same below c.index-at-berth.is in
    rw (← c.self.view_is) (no_hop T _ (index_of lines c.index-at-berth.result) c.args.time facts.read (sym c.may_be_boarded.ensures ∙ c.if-not-may_be_boarded.true))

pub returns-in-Some-clause-hop : goal.returns-in-Some-clause-hop
returns-in-Some-clause-hop g c =
    let T = c.self.inside.table.now in
    let lines = c.self.inside.lines.now.lines in
    let below : c.args.berth < length (line_indices_at T lines c.args.p) = rw (← c.self.view_is) at c.requires.berth in
    let same = c.at.ensures ∙ ap (λ t. berths_at t lines c.args.p) c.self.invariant.0 in
    let facts = berth_facts T lines c.args.p c.args.berth c.at.result.now c.index-at-berth.result same below c.index-at-berth.is in
    let b = c.index-at-berth.result in
    let first = c.earliest.ensures ∙ ap (earliest_trip T (get_or lines b.line []) b.at) (to_z-of_z w32 c.args.time c.ranges.time) in
    rw (← c.self.view_is) (hop_is T _ (index_of lines b) c.args.time (Some c.in-Some.trip) facts.read (sym c.may_be_boarded.ensures ∙ c.if-not-may_be_boarded.false) (sym c.in-Some.is ∙ first))

pub returns-in-None-clause-hop : goal.returns-in-None-clause-hop
returns-in-None-clause-hop g c =
    let T = c.self.inside.table.now in
    let lines = c.self.inside.lines.now.lines in
    let below : c.args.berth < length (line_indices_at T lines c.args.p) = rw (← c.self.view_is) at c.requires.berth in
    let same = c.at.ensures ∙ ap (λ t. berths_at t lines c.args.p) c.self.invariant.0 in
    let facts = berth_facts T lines c.args.p c.args.berth c.at.result.now c.index-at-berth.result same below c.index-at-berth.is in
    let b = c.index-at-berth.result in
    let first = c.earliest.ensures ∙ ap (earliest_trip T (get_or lines b.line []) b.at) (to_z-of_z w32 c.args.time c.ranges.time) in
    rw (← c.self.view_is) (hop_is T _ (index_of lines b) c.args.time None facts.read (sym c.may_be_boarded.ensures ∙ c.if-not-may_be_boarded.false) (sym c.in-None.is ∙ first))
