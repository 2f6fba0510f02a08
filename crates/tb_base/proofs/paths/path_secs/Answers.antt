use Rattle.std.proofs.Common.{ap, sym, rules}
use Rattle.std.specs.Option.{option_map}
use Rattle.std.proofs.lemmas.List.Sorted.{answers_always}
use Rattle.tb_base.specs.declared.table.Path.{Path}
use Rattle.tb_base.proofs.Searching.{found_at, not_found}
use Rattle.tb_base.proofs.paths.path_secs.Goals as goal

pub returns-in-Ok : goal.returns-in-Ok
returns-in-Ok c =
    let at = c.in-Ok.ensures.position (λ (f : Path). f.to) (answers_always _ _ _ (λ f a r g h. search rules)) in
    let found = found_at (λ (f : Path). f.to) c.index.result c.args.paths.now c.in-Ok.place c.index-paths-place.result c.requires c.in-Ok.ensures.bound (at c.index-paths-place.result) in
    rw (← c.index.ensures) (sym (ap (option_map (λ (f : Path). f.secs)) found))

pub returns-in-Err : goal.returns-in-Err
returns-in-Err c =
    let parted = c.in-Err.ensures.position (λ (f : Path). f.to) (answers_always _ _ _ (λ f a r g h. search rules)) in
    rw (← c.index.ensures) (sym (ap (option_map (λ (f : Path). f.secs)) (not_found (λ (f : Path). f.to) c.index.result c.args.paths.now c.in-Err.field-0 c.requires parted)))
