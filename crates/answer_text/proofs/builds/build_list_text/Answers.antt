use Rattle.std.proofs.Common.{◌∙◌, ◌++◌, ap}
use Rattle.answer_text.specs.Builds.{build_text, transfers_text}
use Rattle.answer_text.proofs.Lists.{list_more}
use Rattle.answer_text.proofs.builds.build_list_text.Goals as goal

pub loop-rows-preserved : goal.loop-rows-preserved
loop-rows-preserved c =
    let T = c.args.table.now in
    list_more (transfers_text T) (λ row. row.items) c.args.lists.now c.loop-rows.rows-index c.rows-item.result (build_text T c.args.counts) c.loop-rows.text c.transfers.new.self
    c.loop-rows-test.true c.rows-item.is c.loop-rows.invariant (c.in_ok-transfers.ensures ∙ ap (λ rows. c.loop-rows.text ++ transfers_text T rows) c.as_slice.ensures.value)
