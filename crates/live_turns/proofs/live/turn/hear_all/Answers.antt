use Rattle.std.proofs.Common.{◌+◌}
use Rattle.std.proofs.lemmas.List.Elements.{All-push}
use Rattle.live_turns.specs.declared.live.saying.Asked.{Asked}
use Rattle.live_turns.specs.LiveLines.{HasWantedTimes}
use Rattle.live_turns.proofs.LivePublisher.{where_err}
use Rattle.live_turns.proofs.LiveRuns.{counts_more, gives_more, heard_more, hears_line}
use Rattle.live_turns.proofs.live.turn.hear_all.Goals as goal

pub loop-line-preserved : goal.loop-line-preserved
loop-line-preserved g c =
    let i = c.loop-line.invariant in
    let mode = c.args.mode in
    let lines = c.args.lines.now in
    let at = c.loop-line.line-index in
    let line = c.line-item.result in
    let lt = c.loop-line-test.true in
    let is = c.line-item.is in
    let one = c.in_ok-one.one in (
      heard_more mode c.args.next.now lines at line line c.loop-line.asked.items c.push.new.self.items one c.loop-line.next lt is i.0 i.2 c.in_ok-one.ensures.asked c.in-Ok.ensures.items,
      rw c.in-Ok.ensures.items (All-push (λ (a : Asked). HasWantedTimes a.wanted) c.loop-line.asked.items one i.1 c.in_ok-one.ensures.times),
      counts_more mode c.args.next.now lines at line line c.loop-line.next c.hear.new.next lt is i.2 c.in_ok-one.ensures.next,
      gives_more mode lines at line line c.args.giver.now c.loop-line.giver c.hear.new.giver lt is i.3 c.in_ok-one.ensures.given,
    )

pub returns-in_err-one-clause-refused : goal.returns-in_err-one-clause-refused
returns-in_err-one-clause-refused g c =
    let line = c.line-item.result in
    where_err c.from_residual.result _
    (hears_line c.args.mode c.args.lines.now c.loop-line.line-index line line c.args.giver.now c.loop-line.giver c.hear.new.giver c.loop-line-test.true c.line-item.is c.loop-line.invariant.3 c.in_err-one.ensures.refused)

pub returns-in_default-clause-refused : goal.returns-in_default-clause-refused
returns-in_default-clause-refused g c =
    let line = c.line-item.result in (
      c.loop-line.line-index + 1,
      gives_more c.args.mode c.args.lines.now c.loop-line.line-index line line c.args.giver.now c.loop-line.giver c.hear.new.giver c.loop-line-test.true c.line-item.is c.loop-line.invariant.3 c.in_ok-one.ensures.given,
    )
