use Rattle.std.proofs.Common.{◌∙◌, ap}
use Rattle.std.specs.Prelude.{Err}
use Rattle.tb_io.specs.declared.take.Taken.{Taken}
use Rattle.trip_table.proofs.Told.{too_large}
use Rattle.trip_table.proofs.feed.take.Goals as goal

pub returns-in-Err-TooLarge-clause-told : goal.returns-in-Err-TooLarge-clause-told
returns-in-Err-TooLarge-clause-told g c = λ told.
    let h = c.in-Err-TooLarge.ensures in
    let e = ap (λ (t : Taken). Err t) c.in-Err-TooLarge.field-0-is in
    too_large (g.F.Folder.files c.args.folder.now) c.args.dir.now c.as_str.result.now c.args.file (c.as_str.ensures.value ∙ c.in-Ok.ensures) (h.too_large e) (h.there e) told
