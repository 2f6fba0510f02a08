use Rattle.std.proofs.Common.{◌≡◌, ◌∙◌, ◌+◌, ◌-◌, [], ◌∷◌, ap, refl, arith, length, vec_len}
use Rattle.std.proofs.lemmas.Grind.{common_steps}
use Rattle.tb_base.specs.Transfers.{candidates, candidates_without_u_turns, kept_hops}
use Rattle.reduce_workers.specs.Reductions.{ReducedData, reduced_from}
use Rattle.reduce_workers.proofs.Counts.{generated_most, kept_most, uncut_most}
use Rattle.reduce_workers.proofs.MoreTrips.{more_trips, one_more_count, one_trip, one_trip_from, rows_joined}
use Rattle.reduce_workers.proofs.reduced.Reduced.add.Goals as goal

pub overflow_add-self : goal.overflow_add-self
overflow_add-self c =
    let T = c.args.table.now in
    let lines = c.args.lines.now.lines in
    let n = c.args.self.now.trips in
    let before = ap (λ (r : ReducedData). r.generated) (c.self.view_is ∙ c.requires.before) in
    let few = generated_most T c.args.lines.now c.requires.lines c.soundness.ensures c.soundness-2.ensures.lines c.soundness-2.ensures.divided (c.args.trip - n) (n + 1) (omega (arith, c.requires.trip, c.requires.trips)) in
    let more = one_more_count T (candidates T lines) (c.args.trip - n) n c.args.trip (omega (arith, c.requires.trips)) in
    omega (arith, before, c.in_ok-more.ensures.generated, more, few)

pub overflow_add-self-2 : goal.overflow_add-self-2
overflow_add-self-2 c =
    let T = c.args.table.now in
    let lines = c.args.lines.now.lines in
    let n = c.args.self.now.trips in
    let before = ap (λ (r : ReducedData). r.after_uturn) (c.self.view_is ∙ c.requires.before) in
    let few = uncut_most T c.args.lines.now c.requires.lines c.soundness.ensures c.soundness-2.ensures.lines c.soundness-2.ensures.divided (c.args.trip - n) (n + 1) (omega (arith, c.requires.trip, c.requires.trips)) in
    let more = one_more_count T (candidates_without_u_turns T lines) (c.args.trip - n) n c.args.trip (omega (arith, c.requires.trips)) in
    omega (arith, before, c.in_ok-more.ensures.after_uturn, more, few)

pub overflow_add-self-3 : goal.overflow_add-self-3
overflow_add-self-3 c =
    let T = c.args.table.now in
    let lines = c.args.lines.now.lines in
    let n = c.args.self.now.trips in
    let before = ap (λ (r : ReducedData). r.kept) (c.self.view_is ∙ c.requires.before) in
    let few = kept_most T c.args.lines.now c.requires.lines c.soundness.ensures c.soundness-2.ensures.lines c.soundness-2.ensures.divided (c.args.trip - n) (n + 1) (omega (arith, c.requires.trip, c.requires.trips)) in
    let more = one_more_count T (kept_hops T lines) (c.args.trip - n) n c.args.trip (omega (arith, c.requires.trips)) in
    let same : vec_len c.in_ok-more.more.rows ≡ length c.in_ok-more.more.rows.items = grind (arith, common_steps) in
    omega (arith, before, c.len.ensures, same, ap length c.in_ok-more.ensures.rows, more, few)

pub returns-clause-after : goal.returns-clause-after
returns-clause-after c =
    let T = c.args.table.now in
    let lines = c.args.lines.now.lines in
    let n = c.args.self.now.trips in
    let row = c.in_ok-more.more.rows.items in
    let same : vec_len c.in_ok-more.more.rows ≡ length row = grind (arith, common_steps) in
    let at : c.args.trip ≡ c.args.trip - n + n = omega (arith, c.requires.trips) in
    more_trips T lines (c.args.trip - n) n 1 _ (one_trip T lines c.args.trip row) _ (c.self.view_is ∙ c.requires.before)
    (one_trip_from T lines c.args.trip row c.in_ok-more.ensures.rows ∙ ap (λ t. reduced_from T lines t 1) at) (record {
      rows = rows_joined (λ v. v.items) c.self.inside.rows.items (c.in_ok-more.more.rows ∷ []) c.push.new.self.items c.in_ok-push.ensures.items;
      generated = ap (λ m. c.self.inside.generated + m) c.in_ok-more.ensures.generated;
      after_uturn = ap (λ m. c.self.inside.after_uturn + m) c.in_ok-more.ensures.after_uturn;
      kept = ap (λ m. c.self.inside.kept + m) (c.len.ensures ∙ same);
      trips = refl;
    })
