use Rattle.std.proofs.Common.{◌∙◌, ◌++◌, ap}
use Rattle.answer_text.proofs.Lists.{list_more}
use Rattle.answer_json.specs.Builds.{build_json, transfers_json}
use Rattle.answer_json.proofs.builds.build_list_json.Goals as goal

pub loop-rows-preserved : goal.loop-rows-preserved
loop-rows-preserved c =
    let T = c.args.table.now in
    list_more (transfers_json T) (λ row. row.items) c.args.lists.now c.loop-rows.rows-index c.rows-item.result (build_json T c.args.counts) c.loop-rows.text c.add_transfers.new.text
    c.loop-rows-test.true c.rows-item.is c.loop-rows.invariant (c.in_ok-add_transfers.ensures ∙ ap (λ rows. c.loop-rows.text ++ transfers_json T rows) c.as_slice.ensures.value)
