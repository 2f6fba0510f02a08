use Rattle.std.proofs.Common.{◌∙◌, ap, length-set}
use Rattle.std.proofs.lemmas.List.{get_or_default}
use Rattle.tb_base.specs.declared.table.Event.{Event}
use Rattle.tb_base.specs.TimetableData.{no_event}
use Rattle.line_split.proofs.CallLemmas.{call_more}
use Rattle.line_split.proofs.berths.add_calls.Goals as goal

pub loop-at-preserved : goal.loop-at-preserved
loop-at-preserved c =
    let inv = c.loop-at.invariant in
    let e = c.in_ok-add.ensures in
    let is = c.index.ensures ∙ ap (λ (e : Event). e.stop) (get_or_default c.args.events.now c.loop-at.at c.index-events-at.result no_event c.loop-at-test.true) in
    record {
      long = rw e (length-set c.loop-at.berths _ _ ∙ inv.long);
      calls = λ q h. call_more c.args.line c.args.events.now c.args.berths.now c.loop-at.berths c.add.new.self c.index.result c.loop-at.at q is h inv.long e (inv.calls q h);
    }
