use Rattle.std.specs.Prelude.{bytes_eq}
use Rattle.tb_base.proofs.Lists.{list_any-over_map}
use Rattle.tb_base.proofs.Distinct.{after_insert}
use Rattle.tb_base.proofs.name_index.NameIndex.insert.Goals as goal
use Rattle.tb_base.proofs.name_index.NameIndex.insert.Goals.{in-Ok, in-Err}

pub returns-clause-fresh : goal.returns-clause-fresh
returns-clause-fresh c =
    elim c.match-insert_full.branch [
      | in-Ok w ↦ let h = list_any-over_map (bytes_eq c.args.id.items) (λ v. v.items) c.self.inside.ids.keys in rw (w.result-is, ← c.self.view_is, h) w.in-Ok.ensures.added
      | in-Err w ↦ rw w.result-is tt
    ]

pub invariant_of-self : goal.invariant_of-self
invariant_of-self c =
    after_insert (λ v. v.items) c.insert_full.result c.self.inside.ids.keys c.insert_full.new.self.keys c.args.id c.self.invariant c.insert_full.ensures.keys c.insert_full.ensures.err
