use Rattle.std.proofs.Common.{◌≡◌, ◌∙◌, ◌+◌, ◌-◌, ◌≤◌, suc, [], ap, sym, subst, arith, length, take, drop}
use Rattle.std.proofs.lemmas.List.{with_items_is}
use Rattle.tb_base.specs.TimetableData.{events_of}
use Rattle.transfer_reduce.specs.Reduced.{IsReducedTo, rows_below}
use Rattle.transfer_reduce.proofs.Steps.{ends}
use Rattle.transfer_reduce.proofs.reduction.reduce.Goals as goal

pub loop-done-init : goal.loop-done-init
loop-done-init c =
    let T = c.args.table.now in
    let t = c.args.trip in
    let all : c.count.result ≡ length (events_of c.args.table.now c.args.trip) = c.count.ensures in
    record {
      labels = c.begin_trip-tried.ensures.labels;
      tried = c.begin_trip-tried.ensures.tried;
      inside = omega (arith, all);
      taken = omega arith;
      kept = omega arith;
      reduced = λ lines h. (
        subst (λ n. IsReducedTo T lines t n [] c.begin_trip-tried.new.labels.times) (sym all) (c.begin_trip-tried.ensures.reduced lines t),
        h ∙ ap (rows_below T lines t) (sym all),
      );
    }

pub loop-done-preserved : goal.loop-done-preserved
loop-done-preserved c =
    let T = c.args.table.now in
    let t = c.args.trip in
    let inv = c.loop-done.invariant in
    let done = c.loop-done.done in
    let ensured = c.take_event-done.ensures in
    let one_less : c.loop-done.done.at ≡ suc (c.loop-done.done.at - 1) = omega arith in
    let back : c.loop-done.done.at ≡ c.loop-done.done.at - 1 + 1 = omega arith in
    let least : c.loop-done.done.at - 1 ≤ c.loop-done.done.at - 1 = omega arith in
    let next = c.take_event-done.new.rows in
    let long = c.take_event-done.auto.rows in
    let within : c.take_event-done.result.taken ≤ length c.take_event-done.new.rows = omega (arith, ensured.taken, long) in
    let now = with_items_is c.loop-done.rows c.take_event-done.new.rows (long ∙ c.as_mut_slice.ensures.len) in
    let value = c.as_mut_slice.ensures.value in
    record {
      labels = ensured.labels;
      tried = ensured.tried;
      inside = omega (arith, inv.inside, ensured.at);
      taken = subst (λ ys. c.take_event-done.result.taken ≤ length ys) (sym now) within;
      kept = ensured.kept;
      reduced = λ lines h.
          let r = inv.reduced lines h in
          let first = subst (λ ys. IsReducedTo T lines t (done.at - 1 + 1) (take done.kept ys) c.loop-done.labels.times) (sym value) (subst (λ n. IsReducedTo T lines t n (take done.kept c.loop-done.rows.items) c.loop-done.labels.times) back r.0) in
          let both = ensured.reduced lines (done.at - 1) [] least (ap (drop done.taken) value ∙ r.1 ∙ ap (rows_below T lines t) one_less) first in
          subst (λ ys. IsReducedTo T lines t c.take_event-done.result.at (take c.take_event-done.result.kept ys) c.take_event-done.new.labels.times × (drop c.take_event-done.result.taken ys ≡ rows_below T lines t c.take_event-done.result.at)) (sym now)
          (subst (λ n. IsReducedTo T lines t n (take c.take_event-done.result.kept next) c.take_event-done.new.labels.times × (drop c.take_event-done.result.taken next ≡ rows_below T lines t n)) (sym ensured.at) both);
    }

pub returns-clause-kept : goal.returns-clause-kept
returns-clause-kept c = λ lines h.
    let none : c.loop-done.done.at ≡ 0 = omega arith in
    c.truncate.ensures.items
    ∙ ends c.args.table.now lines c.args.trip (take c.loop-done.done.kept c.loop-done.rows.items) c.loop-done.labels.times
    (subst (λ n. IsReducedTo c.args.table.now lines c.args.trip n (take c.loop-done.done.kept c.loop-done.rows.items) c.loop-done.labels.times) none (c.loop-done.invariant.reduced lines h).0)
