use Rattle.std.proofs.Common.{◌≡◌, ◌∙◌, min, length, vec_len, refl, ap, arith}
use Rattle.std.proofs.lemmas.Grind.{common_steps}
use Rattle.reduce_workers.specs.Reductions.{reduced_from}
use Rattle.reduce_workers.proofs.places.join_pieces.Goals as goal

pub loop-n-init : goal.loop-n-init
loop-n-init c =
    let T = c.args.table.now in
    let lines = c.args.lines.now.lines in
    let none : 0 ≡ min 0 (length c.args.table.now.trips) = omega arith in
    let same : vec_len c.args.slots ≡ length c.args.slots.items = grind (arith, common_steps) in
    record { long = refl; all = c.new-all.ensures T lines 0 ∙ ap (reduced_from T lines 0) none; left = λ m le lt. c.requires.each m (omega (arith, lt, same)) }
