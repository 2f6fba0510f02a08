use Rattle.std.proofs.Common.{◌∙◌, sym}
use Rattle.std.specs.Prelude.{bytes_eq}
use Rattle.tb_base.proofs.Lists.{position-map}
use Rattle.tb_base.proofs.name_index.NameIndex.find.Goals as goal

pub returns : goal.returns
returns c = rw (← c.self.view_is) (c.get_index_of.ensures.index ∙ sym (position-map (bytes_eq c.args.id.now) (λ v. v.items) c.self.inside.ids.keys))
