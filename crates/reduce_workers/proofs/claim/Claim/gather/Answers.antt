use Rattle.std.proofs.Common.{◌≡◌, ◌∙◌, sym, ap, subst, All, arith, length}
use Rattle.std.proofs.lemmas.Grind.{common_steps}
use Rattle.reduce_workers.specs.Claim.{together}
use Rattle.reduce_workers.specs.Seats.{IsDone}
use Rattle.reduce_workers.proofs.Keeps.{joins}
use Rattle.reduce_workers.proofs.Loops.{Joined, all_last, gathered, joined_more}
use Rattle.reduce_workers.proofs.claim.Claim.gather.Goals as goal

pub join_seat-requires : goal.join_seat-requires
join_seat-requires c =
    let i = c.loop-seat.invariant in
    let words = i.words.0 in
    let f = c.loop-seat.gathered in
    let s = c.into_seat.result in
    let mine = all_last (IsDone c.args.self) c.pop-in-loop-seat.new.self.items c.in-Some-pop.seat (subst (All (IsDone c.args.self)) c.in-Some-pop.ensures.items i.done) in
    (i.same_table, c.into_seat.ensures.table ∙ mine.0 ∙ sym i.told.0, ap (λ m. m.1) c.into_seat.ensures.me, omega arith, joins c.self.inside.table.shared.key f.id f.me.0 s.id s.me.0)

pub loop-seat-preserved : goal.loop-seat-preserved
loop-seat-preserved c =
    let j = c.join_seat.ensures in
    let t = c.self.inside.table.shared in
    let f = c.loop-seat.gathered in
    let left = c.pop-in-loop-seat.new.self.items in
    let all = c.of-all.result.value.items in
    rw (j.0, j.2) (subst (λ h. Joined c.args.self t.table_id t.key f.table_id (together f.me.0 h, f.me.1) left all) (sym (ap (λ m. m.0) c.into_seat.ensures.me))
    (joined_more c.args.self t.table_id t.key f.table_id f.me c.loop-seat.seats.items left all c.in-Some-pop.seat c.loop-seat.invariant c.in-Some-pop.ensures.items))

pub returns-clause-once : goal.returns-clause-once
returns-clause-once c =
    let k = c.close_with.ensures.values.2 in
    let cases = c.in_default-pop.ensures.cases in
    let items = c.in_default-pop.ensures.items in
    let t = c.self.inside.table.shared in
    let f = c.loop-seat.gathered in
    let empty : length c.loop-seat.seats.items ≡ 0 = grind (arith, common_steps) in
    gathered c.args.self t.table_id t.key f.table_id f.me c.loop-seat.seats.items c.of-all.result.value.items k.0 f.id c.loop-seat.invariant empty k.1.0 k.1.1
