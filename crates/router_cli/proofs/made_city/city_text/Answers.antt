use Rattle.router_cli.proofs.Corners.{city_shown}
use Rattle.router_cli.proofs.made_city.city_text.Goals as goal

pub returns : goal.returns
returns g c =
    city_shown c.args.json c.args.side c.in_ok-table.table c.in_ok-report.field-0.report.items c.in_ok-choices.choices.items c.as_slice.result.now c.extend_from_slice.new.self.items
    c.in_ok-table.ensures c.in_ok-report.ensures.report c.in_ok-choices.ensures c.as_slice.ensures.value c.in_ok-extend_from_slice.ensures.items
