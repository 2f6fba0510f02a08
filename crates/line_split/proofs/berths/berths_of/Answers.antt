use Rattle.std.proofs.Common.{◌∙◌, ap, arith, get_or}
use Rattle.tb_base.specs.TimetableData.{events_of}
use Rattle.line_split.proofs.CallLemmas.{line_more}
use Rattle.line_split.proofs.berths.berths_of.Goals as goal

pub loop-line-preserved : goal.loop-line-preserved
loop-line-preserved c =
    let inv = c.loop-line.invariant in
    let is = c.events_of-events.ensures ∙ ap (events_of c.args.table.now) (c.first_of.ensures ∙ ap (λ r. get_or r 0 0) c.row.ensures) in
    record {
      long = c.in_ok-add_calls.ensures.length ∙ inv.long;
      calls = λ q h. line_more c.args.table.now c.args.lines.now q c.loop-line.line _ _ c.events_of-events.result.now is (inv.calls q h) (c.in_ok-add_calls.ensures.calls q (omega (arith, h, inv.long)));
    }
