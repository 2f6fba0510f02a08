use Rattle.std.proofs.Common.{◌≡◌, ◌∙◌, sym, ap, subst, get_or, List, ℕ}
use Rattle.tb_base.specs.declared.table.Stop.{Stop}
use Rattle.std.specs.Prelude.{IfOk}
use Rattle.trip_table.proofs.Breach.{stop_name}
use Rattle.trip_table.proofs.law.name_of.Goals as goal

pub returns : goal.returns
returns c = λ rows are.
    let here = subst (λ i. c.index-stops-index.result ≡ get_or c.args.stops.now i c.index-stops-index.result) c.index.ensures c.index-stops-index.is in
    subst (λ (bytes : List ℕ). IfOk c.new.result (λ name. name ≡ bytes)) (c.bytes.ensures ∙ ap (λ (s : Stop). s.name) (sym c.index-stops-index.is) ∙ stop_name rows c.args.stops.now c.args.stop c.index-stops-index.result are c.requires here) c.new.ensures
