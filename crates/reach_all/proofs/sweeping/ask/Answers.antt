use Rattle.std.proofs.Common.{◌≡◌, ◌∙◌, ℕ, List, Option, ℤ, ◌≤ℤ◌, length, map, get_or, sym, ap, subst, arith, rules, to_z, of_z, w32}
use Rattle.std.specs.Prelude.{All}
use Rattle.std.proofs.lemmas.Int.{to_z-of_z}
use Rattle.std.proofs.lemmas.List.{length-map}
use Rattle.tb_base.specs.Network.{NetData}
use Rattle.tb_base.specs.BestValues.{IsLeast, QueryData}
use Rattle.tb_base.specs.declared.query.Value.{Value}
use Rattle.segment_queue.specs.Queue.{DeskData}
use Rattle.reach_all.specs.Arriving.{lone}
use Rattle.reach_all.specs.Reach.{values_at}
use Rattle.reach_all.specs.Swept.{IsWalkOrRide}
use Rattle.reach_all.proofs.SweptDown.{rides_later, swept_times, walks_later}
use Rattle.reach_all.proofs.sweeping.ask.Goals as goal

pub times_at-requires-clause-walks : goal.times_at-requires-clause-walks
times_at-requires-clause-walks g c = walks_later (g.S.Scan.net c.args.scan.now).table c.args.query.now.from (map (λ list. list.items) c.args.walks.now) c.requires.walks

pub times_at-requires-clause-arrivals : goal.times_at-requires-clause-arrivals
times_at-requires-clause-arrivals g c =
    let N : NetData = g.S.Scan.net c.args.scan.now in
    let Q : QueryData = c.args.query.now in
    let D : DeskData = c.come_down.new.desk in
    let fits : to_z w32 (of_z w32 c.query.inside.leave) ≡ Q.leave = to_z-of_z w32 c.query.inside.leave (search rules) ∙ ap (λ (q : QueryData). q.leave) c.query.view_is in
    let later : (p : ℕ) → All (λ (v : Value). Q.leave ≤ℤ v.arrive) (values_at (map lone c.times.result.now) p)
    = subst (λ (lists : List (List Value)). (p : ℕ) → All (λ (v : Value). Q.leave ≤ℤ v.arrive) (values_at lists p)) (sym c.times.ensures)
    (rides_later N.table c.soundness.ensures.sound Q c.args.rides D (length D.segments) c.come_down.new.swept.arrivals c.in_ok-come_down.ensures.down.ridden) in
    subst (λ l. (p : ℕ) → All (λ (v : Value). l ≤ℤ v.arrive) (values_at (map lone c.times.result.now) p)) (sym fits) later

pub times_at-requires-clause-each_stop : goal.times_at-requires-clause-each_stop
times_at-requires-clause-each_stop g c =
    let walks = length-map c.args.walks.now (λ list. list.items) in
    let rows = length-map c.times.result.now lone in
    let starts = c.requires.walks.found.each_stop in
    let ridden = c.in_ok-come_down.ensures.down.ridden.each_stop in
    omega (arith, walks, rows, starts, ridden, ap length c.times.ensures)

pub returns-clause-times : goal.returns-clause-times
returns-clause-times g c =
    let N : NetData = g.S.Scan.net c.args.scan.now in
    let Q : QueryData = c.args.query.now in
    let D : DeskData = c.come_down.new.desk in
    let lists : List (List Value) = c.come_down.new.swept.arrivals in
    let walks : List (List Value) = map (λ list. list.items) c.args.walks.now in
    let times : List (Option ℤ) = c.in_ok-times.times.items in
    let made = c.in_ok-times.ensures in
    let fits : to_z w32 (of_z w32 c.query.inside.leave) ≡ Q.leave = to_z-of_z w32 c.query.inside.leave (search rules) ∙ ap (λ (q : QueryData). q.leave) c.query.view_is in
    let rows = length-map c.times.result.now lone in
    let long : length times ≡ length lists = made.each_stop ∙ (sym rows ∙ ap length c.times.ensures) in
    swept_times N Q c.args.rides D c.come_down.new.swept.sweep.levels c.in_ok-come_down.ensures.swept c.soundness.ensures.sound c.requires.sufficient lists walks c.in_ok-come_down.ensures.down.ridden c.requires.walks times long
    (λ p o inside. subst (λ l. IsLeast (IsWalkOrRide (values_at walks p) (values_at lists p) l) (get_or times p o)) fits
    (subst (λ (xs : List (List Value)). IsLeast (IsWalkOrRide (values_at walks p) (values_at xs p) (to_z w32 (of_z w32 c.query.inside.leave))) (get_or times p o)) c.times.ensures
    (made.times p o (omega (arith, inside, rows, ap length c.times.ensures)))))
