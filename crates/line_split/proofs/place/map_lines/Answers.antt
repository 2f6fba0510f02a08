use Rattle.std.proofs.Common.{subst, get_or}
use Rattle.line_split.specs.Bitmaps.{AreBitmapsOf}
use Rattle.line_split.specs.Floors.{no_floor}
use Rattle.line_split.proofs.FloorLemmas.{floors_changed}
use Rattle.line_split.proofs.RowLemmas.{on_ok_then}
use Rattle.line_split.proofs.place.map_lines.Goals as goal

pub returns : goal.returns
returns c =
    let T = c.args.table.now in
    let lines = c.args.lines.now in
    let new = c.map_at.new.floors in
    on_ok_then c.map_at.result (λ bitmaps. floors_changed T lines c.args.buckets.now c.args.floors.now new c.args.bucket c.requires.floors c.map_at.ensures.same (subst (λ row. AreBitmapsOf T lines row (get_or new c.args.bucket no_floor).bitmaps) c.row-among.ensures bitmaps)) c.map_at.ensures.bitmaps
