use Rattle.std.proofs.Common.{◌∙◌, sym, ap, map, option_map}
use Rattle.std.proofs.lemmas.Option.{slice_get-map}
use Rattle.tb_base.proofs.Distinct.{found_at}
use Rattle.tb_base.proofs.name_index.NameIndex.find_near.Goals as goal

pub returns-in-Some : goal.returns-in-Some
returns-in-Some c =
    let keys = c.self.inside.ids.keys in
    let at = slice_get-map (λ v. v.items) keys c.args.guess ∙ ap (option_map (λ v. v.items)) (sym c.in-Some.ensures.key) in
    let same = rw c.as_slice.ensures.value at c.eq.ensures in
    rw (← c.self.view_is) (found_at (map (λ v. v.items) keys) c.args.guess c.args.id.now _ c.self.invariant at (sym same ∙ c.if-eq.true))
