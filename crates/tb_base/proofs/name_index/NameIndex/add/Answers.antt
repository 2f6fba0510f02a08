use Rattle.std.proofs.Common.{rules, ◌≡◌, true}
use Rattle.std.specs.Prelude.{is_ok}
use Rattle.tb_base.proofs.Added.{members}
use Rattle.tb_base.proofs.name_index.NameIndex.add.Goals as goal

pub returns-clause-members : goal.returns-clause-members
returns-clause-members c =
    let good : is_ok c.extend_from_slice.result ≡ true = search rules in
    let own = rw (good, c.new-own.ensures.items) at c.extend_from_slice.ensures.items in
    let f = rw own at c.insert.ensures.fresh in
    let m = rw own at c.insert.ensures.added in
    members c.insert.result c.args.self.now c.insert.new.self c.args.id.now m f
