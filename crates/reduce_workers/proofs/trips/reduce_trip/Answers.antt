use Rattle.std.proofs.Common.{◌≡◌, ◌∙◌, [], ap, sym, subst, arith, length}
use Rattle.tb_base.specs.TimetableData.{TimetableData, events_of}
use Rattle.tb_base.specs.Transfers.{candidates, candidates_without_u_turns}
use Rattle.transfer_reduce.specs.Reduced.{IsReducedTo}
use Rattle.transfer_reduce.proofs.Steps.{ends}
use Rattle.reduce_workers.proofs.EventSteps.{all_counted, none_counted}
use Rattle.reduce_workers.proofs.trips.reduce_trip.Goals as goal

pub loop-at-init : goal.loop-at-init
loop-at-init c =
    let T = c.args.table.now in
    let lines = c.args.lines.now.lines in
    let t = c.args.trip in
    let all : c.count-at.result ≡ length (events_of c.args.table.now c.args.trip) = c.count-at.ensures ∙ ap (λ (U : TimetableData). length (events_of U c.args.trip)) c.requires.calls in
    record {
      labels = c.begin_trip-tried.ensures.labels;
      tried = c.begin_trip-tried.ensures.tried;
      inside = omega (arith, all);
      found = c.new-found.ensures.items;
      done = record {
        reduced = subst (λ ys. IsReducedTo T lines t c.count-at.result ys c.begin_trip-tried.new.labels.times) (sym c.new.ensures.items)
            (subst (λ n. IsReducedTo T lines t n [] c.begin_trip-tried.new.labels.times) (sym all) (c.begin_trip-tried.ensures.reduced lines t));
        generated_to = none_counted T t (candidates T lines t) c.count-at.result all;
        cut_to = none_counted T t (candidates_without_u_turns T lines t) c.count-at.result all;
      };
    }

pub returns-clause-rows : goal.returns-clause-rows
returns-clause-rows c =
    let none : c.loop-at.at ≡ 0 = omega arith in
    let inv = c.loop-at.invariant in
    c.shrink_to_fit.ensures.items
    ∙ ends c.args.table.now c.args.lines.now.lines c.args.trip c.loop-at.done.rows.items c.loop-at.labels.times
    (subst (λ n. IsReducedTo c.args.table.now c.args.lines.now.lines c.args.trip n c.loop-at.done.rows.items c.loop-at.labels.times) none inv.done.reduced)

pub returns-clause-generated : goal.returns-clause-generated
returns-clause-generated c =
    let none : c.loop-at.at ≡ 0 = omega arith in
    all_counted c.args.table.now c.args.trip (candidates c.args.table.now c.args.lines.now.lines c.args.trip) c.loop-at.at c.loop-at.done.generated none c.loop-at.invariant.done.generated_to

pub returns-clause-after_uturn : goal.returns-clause-after_uturn
returns-clause-after_uturn c =
    let none : c.loop-at.at ≡ 0 = omega arith in
    all_counted c.args.table.now c.args.trip (candidates_without_u_turns c.args.table.now c.args.lines.now.lines c.args.trip) c.loop-at.at c.loop-at.done.after_uturn none c.loop-at.invariant.done.cut_to
