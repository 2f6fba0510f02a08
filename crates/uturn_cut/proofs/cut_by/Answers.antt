use Rattle.std.proofs.Common.{rules}
use Rattle.std.specs.Prelude.{not}
use Rattle.std.proofs.lemmas.Fn.{filter_same}
use Rattle.uturn_cut.specs.UTurns.{is_u_turn_row}
use Rattle.uturn_cut.proofs.cut_by.Goals as goal

pub returns : goal.returns
returns g c = filter_same _ (λ r. not (is_u_turn_row c.args.table.now r)) _ (λ x b f h. let k = h.called in let s = h.shows in let same = c.requires in search (rules, k, s, same)) c.args.rows.now.items c.retain.new.self.items c.retain.ensures.filtered
