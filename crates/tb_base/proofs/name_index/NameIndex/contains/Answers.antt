use Rattle.std.proofs.Common.{◌∙◌, sym}
use Rattle.std.specs.Prelude.{bytes_eq}
use Rattle.tb_base.proofs.Lists.{list_any-over_map}
use Rattle.tb_base.proofs.name_index.NameIndex.contains.Goals as goal

pub returns : goal.returns
returns c = rw (← c.self.view_is) (let e = c.contains.ensures in e ∙ sym (list_any-over_map (bytes_eq c.args.id.now) (λ v. v.items) c.self.inside.ids.keys))
