use Rattle.std.proofs.Common.{◌≡◌, ◌∙◌, ◌<◌, ◌≤◌, sym, ap, subst, arith, length, true, false, Some, None, pos, ◌+ℤ◌, get_or, to_z, of_z}
use Rattle.std.specs.Int.{w32}
use Rattle.std.specs.Option.{option_map}
use Rattle.std.proofs.lemmas.Int.{to_z-of_z}
use Rattle.tb_base.specs.declared.table.Path.{Path}
use Rattle.tb_base.specs.Transfers.{is_sooner}
use Rattle.transfer_reduce.specs.LabelsData.{AreLabels, LabelsData}
use Rattle.transfer_reduce.proofs.Sources.{late_by_path, late_there, more_sooner, not_reached, path_there}
use Rattle.transfer_reduce.proofs.labels.Labels.is_sooner.Goals as goal

pub returns-then-not-is_sooner-clause-late : goal.returns-then-not-is_sooner-clause-late
returns-then-not-is_sooner-clause-late c = λ h.
    let same = to_z-of_z w32 c.args.time c.ranges.time in
    let L = c.args.self.now in
    let seen = ap (λ (l : LabelsData). l.times) c.self.view_is in
    late_there L.table L.times c.args.stop c.args.time
    (ap (λ ts. is_sooner (Some c.args.time) (option_map (λ t. t +ℤ pos 0) (get_or ts c.args.stop None))) (sym seen)
    ∙ ap (λ x. is_sooner (Some x) (option_map (λ t. t +ℤ pos 0) (get_or c.self.inside.times c.args.stop None))) (sym same) ∙ sym c.is_sooner.ensures ∙ c.if-not-is_sooner.true)

pub is_sooner-requires-in-loop-path-clause-stop : goal.is_sooner-requires-in-loop-path-clause-stop
is_sooner-requires-in-loop-path-clause-stop c =
    let L = c.args.self.now in
    let inv : AreLabels c.args.self.now.table c.self.inside.into c.args.self.now.times = subst (λ (l : LabelsData). AreLabels l.table c.self.inside.into l.times) c.self.view_is c.self.invariant in
    let seen = ap (λ (l : LabelsData). l.times) c.self.view_is in
    let is = c.at-path-items.ensures ∙ inv.turned c.args.stop c.requires.stop in
    let there = path_there L.table L.times c.args.stop c.args.time inv.sound c.at-path-items.result.now is c.loop-path.path-index c.path-item.result c.loop-path-test.true in
    let below : (c.path-item.result).to < length c.args.self.now.table.stops = subst (λ (f : Path). f.to < length L.table.stops) (sym c.path-item.is) there.0 in
    let many : length c.self.inside.times ≡ length c.args.self.now.table.stops = ap length seen ∙ inv.long in
    omega (arith, below, many)

pub is_sooner-requires-in-loop-path-clause-secs : goal.is_sooner-requires-in-loop-path-clause-secs
is_sooner-requires-in-loop-path-clause-secs c =
    let L = c.args.self.now in
    let inv : AreLabels c.args.self.now.table c.self.inside.into c.args.self.now.times = subst (λ (l : LabelsData). AreLabels l.table c.self.inside.into l.times) c.self.view_is c.self.invariant in
    let is = c.at-path-items.ensures ∙ inv.turned c.args.stop c.requires.stop in
    let there = path_there L.table L.times c.args.stop c.args.time inv.sound c.at-path-items.result.now is c.loop-path.path-index c.path-item.result c.loop-path-test.true in
    let short : (c.path-item.result).secs ≤ 86400 = subst (λ (f : Path). f.secs ≤ 86400) (sym c.path-item.is) there.1 in
    omega (arith, short)

pub loop-path-preserved : goal.loop-path-preserved
loop-path-preserved c =
    let x = to_z w32 (of_z w32 c.args.time) in
    let f = c.path-item.result in
    let ts = c.args.self.now.times in
    let seen = ap (λ (l : LabelsData). l.times) c.self.view_is in
    more_sooner (λ (g : Path). is_sooner (Some x) (option_map (λ t. t +ℤ pos g.secs) (get_or ts g.to None))) c.at-path-items.result.now c.loop-path.path-index f c.loop-path-test.true c.path-item.is
    (ap (λ us. is_sooner (Some x) (option_map (λ t. t +ℤ pos f.secs) (get_or us f.to None))) (sym seen) ∙ sym c.is_sooner-in-loop-path.ensures ∙ c.if-not-is_sooner-2.false) c.loop-path.invariant

pub returns-then-not-is_sooner-2-clause-late : goal.returns-then-not-is_sooner-2-clause-late
returns-then-not-is_sooner-2-clause-late c = λ h.
    let same = to_z-of_z w32 c.args.time c.ranges.time in
    let L = c.args.self.now in
    let inv : AreLabels c.args.self.now.table c.self.inside.into c.args.self.now.times = subst (λ (l : LabelsData). AreLabels l.table c.self.inside.into l.times) c.self.view_is c.self.invariant in
    let seen = ap (λ (l : LabelsData). l.times) c.self.view_is in
    let is = c.at-path-items.ensures ∙ inv.turned c.args.stop c.requires.stop in
    let late : is_sooner (Some c.args.time) (option_map (λ t. t +ℤ pos (c.path-item.result).secs) (get_or c.args.self.now.times (c.path-item.result).to None)) ≡ false =
    ap (λ us. is_sooner (Some c.args.time) (option_map (λ t. t +ℤ pos (c.path-item.result).secs) (get_or us (c.path-item.result).to None))) (sym seen)
    ∙ ap (λ x. is_sooner (Some x) (option_map (λ t. t +ℤ pos (c.path-item.result).secs) (get_or c.self.inside.times (c.path-item.result).to None))) (sym same) ∙ sym c.is_sooner-in-loop-path.ensures ∙ c.if-not-is_sooner-2.true in
    late_by_path L.table L.times c.args.stop c.args.time inv.sound c.at-path-items.result.now is c.loop-path.path-index c.path-item.result c.loop-path-test.true
    (subst (λ (f : Path). is_sooner (Some c.args.time) (option_map (λ t. t +ℤ pos f.secs) (get_or L.times f.to None)) ≡ false) c.path-item.is late)

pub returns-clause-sooner : goal.returns-clause-sooner
returns-clause-sooner c = λ h r.
    let same = to_z-of_z w32 c.args.time c.ranges.time in
    let L = c.args.self.now in
    let inv : AreLabels c.args.self.now.table c.self.inside.into c.args.self.now.times = subst (λ (l : LabelsData). AreLabels l.table c.self.inside.into l.times) c.self.view_is c.self.invariant in
    let seen = ap (λ (l : LabelsData). l.times) c.self.view_is in
    let is = c.at-path-items.ensures ∙ inv.turned c.args.stop c.requires.stop in
    let own : is_sooner (Some c.args.time) (option_map (λ t. t +ℤ pos 0) (get_or c.args.self.now.times c.args.stop None)) ≡ true =
    ap (λ ts. is_sooner (Some c.args.time) (option_map (λ t. t +ℤ pos 0) (get_or ts c.args.stop None))) (sym seen)
    ∙ ap (λ x. is_sooner (Some x) (option_map (λ t. t +ℤ pos 0) (get_or c.self.inside.times c.args.stop None))) (sym same) ∙ sym c.is_sooner.ensures ∙ c.if-not-is_sooner.false in
    not_reached L.table L.times c.args.stop c.args.time inv.sound c.at-path-items.result.now is inv.long own
    (λ j d below. subst (λ x. is_sooner (Some x) (option_map (λ t. t +ℤ pos (get_or c.at-path-items.result.now j d).secs) (get_or L.times (get_or c.at-path-items.result.now j d).to None)) ≡ true) same (c.loop-path.invariant j d (omega (arith, below, c.loop-path-test.false)))) r
