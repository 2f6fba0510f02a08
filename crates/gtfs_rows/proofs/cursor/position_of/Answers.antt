use Rattle.std.proofs.Common.{◌≡◌, ◌∙◌, sym, [], length, map, get_or, arith}
use Rattle.std.specs.Prelude.{bytes_eq}
use Rattle.std.proofs.lemmas.List.{get_or-map, length-map}
use Rattle.gtfs_rows.specs.RawRows.{cut}
use Rattle.gtfs_rows.proofs.First.{position_first, position_none}
use Rattle.gtfs_rows.proofs.cursor.position_of.Goals as goal

pub returns-then-eq : goal.returns-then-eq
returns-then-eq c =
    let n : length (map cut c.args.head.now.current) ≡ length c.args.head.now.current = length-map c.args.head.now.current cut in
    let at : get_or (map cut c.args.head.now.current) c.loop-i.i [] ≡ cut (get_or c.args.head.now.current c.loop-i.i []) = get_or-map cut c.args.head.now.current c.loop-i.i [] [] (omega arith) in
    position_first (bytes_eq c.args.name.now) (map cut c.args.head.now.current) c.loop-i.i [] (omega arith) c.loop-i.invariant
    (rw at (let e = rw (c.cut.ensures, c.field.ensures) at c.eq.ensures in sym e ∙ c.if-eq.true))

pub returns : goal.returns
returns c =
    let n : length (map cut c.args.head.now.current) ≡ length c.args.head.now.current = length-map c.args.head.now.current cut in
    position_none (bytes_eq c.args.name.now) (map cut c.args.head.now.current) [] (λ k h. c.loop-i.invariant k (omega arith))
