use Rattle.std.proofs.Common.{◌≡◌, ◌∙◌, ◌++◌, length, map, ap, sym, subst, arith}
use Rattle.std.specs.Prelude.{filter, not}
use Rattle.std.proofs.lemmas.Grind.{common_steps}
use Rattle.tb_base.specs.Transfers.{candidates, candidates_without_u_turns}
use Rattle.tb_laws.specs.Rows.{transfer_by_hop}
use Rattle.uturn_cut.specs.UTurns.{is_u_turn_row}
use Rattle.transfer_reduce.specs.Reduced.{IsReducedTo}
use Rattle.reduce_workers.proofs.EventSteps.{counted_more, counted_most, event_cut, trip_generated, trip_uncut}
use Rattle.reduce_workers.proofs.trips.TripReduced.add.Goals as goal

pub overflow_add-self : goal.overflow_add-self
overflow_add-self c =
    let T = c.args.table.now in
    let lines = c.args.lines.now.lines in
    let t = c.args.trip in
    let at = c.args.at in
    let items : c.add_event.new.rows.items ≡ map (transfer_by_hop c.args.trip c.args.at) (candidates c.args.table.now c.args.lines.now.lines c.args.trip c.args.at)
    = c.in_ok-add_event.ensures ∙ ap (λ xs. xs ++ map (transfer_by_hop t at) (candidates T lines t at)) c.requires.found in
    let long : c.len.result ≡ length c.add_event.new.rows.items = grind (arith, common_steps) in
    let few = trip_generated T c.args.lines.now c.requires.lines c.soundness.ensures c.soundness-2.ensures.lines c.soundness-2.ensures.divided t (omega (arith, c.requires.trip)) in
    let most = counted_most T t (candidates T lines t) at c.args.self.now.generated c.len.result c.requires.done.generated_to (long ∙ ap length items) in
    omega (arith, few, most)

pub overflow_add-self-2 : goal.overflow_add-self-2
overflow_add-self-2 c =
    let T = c.args.table.now in
    let lines = c.args.lines.now.lines in
    let t = c.args.trip in
    let at = c.args.at in
    let items : c.add_event.new.rows.items ≡ map (transfer_by_hop c.args.trip c.args.at) (candidates c.args.table.now c.args.lines.now.lines c.args.trip c.args.at)
    = c.in_ok-add_event.ensures ∙ ap (λ xs. xs ++ map (transfer_by_hop t at) (candidates T lines t at)) c.requires.found in
    let cut : c.cut_by.new.rows.items ≡ map (transfer_by_hop c.args.trip c.args.at) (candidates_without_u_turns c.args.table.now c.args.lines.now.lines c.args.trip c.args.at)
    = c.cut_by.ensures ∙ ap (filter (λ r. not (is_u_turn_row T r))) items ∙ event_cut T lines t at in
    let long : c.len-2.result ≡ length c.cut_by.new.rows.items = grind (arith, common_steps) in
    let few = trip_uncut T c.args.lines.now c.requires.lines c.soundness.ensures c.soundness-2.ensures.lines c.soundness-2.ensures.divided t (omega (arith, c.requires.trip)) in
    let most = counted_most T t (candidates_without_u_turns T lines t) at c.args.self.now.after_uturn c.len-2.result c.requires.done.cut_to (long ∙ ap length cut) in
    omega (arith, few, most)

pub returns-clause-done : goal.returns-clause-done
returns-clause-done c =
    let T = c.args.table.now in
    let lines = c.args.lines.now.lines in
    let t = c.args.trip in
    let at = c.args.at in
    let items : c.add_event.new.rows.items ≡ map (transfer_by_hop c.args.trip c.args.at) (candidates c.args.table.now c.args.lines.now.lines c.args.trip c.args.at)
    = c.in_ok-add_event.ensures ∙ ap (λ xs. xs ++ map (transfer_by_hop t at) (candidates T lines t at)) c.requires.found in
    let long : c.len.result ≡ length c.add_event.new.rows.items = grind (arith, common_steps) in
    let cut : c.cut_by.new.rows.items ≡ map (transfer_by_hop c.args.trip c.args.at) (candidates_without_u_turns c.args.table.now c.args.lines.now.lines c.args.trip c.args.at)
    = c.cut_by.ensures ∙ ap (filter (λ r. not (is_u_turn_row T r))) items ∙ event_cut T lines t at in
    let long_cut : c.len-2.result ≡ length c.cut_by.new.rows.items = grind (arith, common_steps) in
    record {
      reduced = subst (λ ys. IsReducedTo T lines t at ys c.reduce_event.new.labels.times) (sym c.in_ok-append.ensures.items) (c.reduce_event.ensures.reduced lines c.args.self.now.rows.items cut c.requires.done.reduced);
      generated_to = counted_more T t (candidates T lines t) at c.args.self.now.generated c.len.result c.requires.done.generated_to (long ∙ ap length items);
      cut_to = counted_more T t (candidates_without_u_turns T lines t) at c.args.self.now.after_uturn c.len-2.result c.requires.done.cut_to (long_cut ∙ ap length cut);
    }
