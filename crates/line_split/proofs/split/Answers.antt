use Rattle.std.proofs.Common.{◌∙◌, ap, fold, []}
use Rattle.tb_base.specs.Lines.{place_trip}
use Rattle.line_split.proofs.split.Goals as goal

pub laid_out-requires : goal.laid_out-requires
laid_out-requires c = record {
  order = c.in_ok-order.order.items;
  in_order = c.in_ok-order.ensures.order;
  placed = c.in_ok-lines.ensures ∙ ap (fold (place_trip c.args.table.now) []) c.as_slice-2.ensures.value;
}
