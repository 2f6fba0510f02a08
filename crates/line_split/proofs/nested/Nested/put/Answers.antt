use Rattle.std.proofs.lemmas.List.{map-set}
use Rattle.line_split.proofs.nested.Nested.put.Goals as goal

pub returns : goal.returns
returns g c = rw (← c.self.view_is) (map-set (λ v. v.items) c.self.inside.rows.items c.args.i c.args.row)
