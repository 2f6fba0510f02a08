use Rattle.std.proofs.Common.{ap, arith}
use Rattle.reduce_workers.proofs.Keeps.{splits}
use Rattle.reduce_workers.proofs.claim.Claim.new.Goals as goal

pub split_seat-requires : goal.split_seat-requires
split_seat-requires c =
    let i = c.loop-made.invariant in
    let t = c.in_ok-table.table in
    let m = c.loop-made.maker in
    let words = i.words.0 in
    let test = c.loop-made-test.true in
    let seats = ap (λ e. e.0.seats) i.maker in
    (i.same_table, omega arith, splits t.shared.key m.id m.me.0 (omega arith) (ap (λ e. e.0.drawn) i.maker) (ap (λ e. e.0.past) i.maker))
