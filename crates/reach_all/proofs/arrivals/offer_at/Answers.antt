use Rattle.reach_all.specs.Arriving.{with_value}
use Rattle.reach_all.proofs.Offering.{row_changed}
use Rattle.reach_all.proofs.arrivals.offer_at.Goals as goal

pub returns : goal.returns
returns c =
    row_changed (λ row. row.items) (λ vs. with_value vs c.args.value.now) c.args.rows.now.items c.args.stop c.index_mut-row.result.now c.add.new.values c.requires c.index_mut-row.ensures.value c.in_ok-add.ensures
