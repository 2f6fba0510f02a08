use Rattle.std.proofs.Common.{◌≡◌, ◌∙◌, ◌-◌, ap, arith}
use Rattle.reduce_workers.specs.Reductions.{reduced_from}
use Rattle.reduce_workers.proofs.trips.reduce_from.Goals as goal

pub loop-t-init : goal.loop-t-init
loop-t-init c =
    let none : 0 ≡ c.args.first - c.args.first = omega arith in
    record { labels = c.requires.labels; reduced = c.new-reduced.ensures c.args.table.now c.args.lines.now.lines c.args.first ∙ ap (reduced_from c.args.table.now c.args.lines.now.lines c.args.first) none }
