use Rattle.std.proofs.Common.{◌≡◌, ◌∙◌, ℕ, ◌+◌, ◌-◌, List, [], ◌∷◌, ℤ, pos, ◌≤ℤ◌, length, get_or, sym, ap, subst, arith, rules, to_z, of_z, w32, length-append}
use Rattle.std.proofs.lemmas.Int.{to_z-of_z}
use Rattle.std.proofs.lemmas.Option.{get_or_from_slice_get}
use Rattle.tb_base.specs.Network.{NetData}
use Rattle.tb_base.specs.BestValues.{QueryData}
use Rattle.reach_all.specs.Ranks.{AreTimesAt}
use Rattle.reach_all.specs.Spreading.{everywhere}
use Rattle.reach_all.proofs.BestTimes.{lists_mapped, lists_more}
use Rattle.reach_all.proofs.Ridden.{down_from, query_on}
use Rattle.reach_all.proofs.sweeping.times_from_last.Goals as goal

pub loop-place-init : goal.loop-place-init
loop-place-init g c =
    let Q : QueryData = c.in_ok-query.query in
    let from : List ℕ = c.args.from.now in
    let last = ap (λ (q : QueryData). q.leave) c.in_ok-query.ensures in
    record {
      each = ap length c.new-lists.ensures.items;
      times = λ k d below. absurd (omega (arith, below, ap length c.new-lists.ensures.items));
      query = c.in_ok-query.ensures ∙ ap (everywhere from) (sym last);
      later = λ k t below. subst (λ z. get_or c.args.departures.now k t ≤ℤ z) (sym last) (c.requires.departures k t (omega (arith, below)));
      down = c.in_ok-swept.ensures.down c.args.rides;
      fits = c.begin.ensures.fits;
    }

pub ask-requires-clause-later : goal.ask-requires-clause-later
ask-requires-clause-later g c =
    let N : NetData = g.S.Scan.net c.args.scan.now in
    let ds : List ℤ = c.args.departures.now in
    let place : ℕ = c.loop-place.place in
    let k : ℕ = length ds - 1 - place in
    let Q : QueryData = c.loop-place.query in
    let new : QueryData = c.ask_at.new.query in
    let time : ℤ = c.from_last.result in
    let before = c.loop-place.invariant in
    let new_is : new ≡ everywhere c.args.from.now time = query_on c.args.from.now Q new (to_z w32 (of_z w32 time)) time before.query c.ask_at.ensures (to_z-of_z w32 time (search rules)) in
    let read : get_or ds k time ≡ time = get_or_from_slice_get ds k time time c.from_last.ensures in (
      Q.leave,
      subst (λ z. z ≤ℤ Q.leave) (read ∙ sym (ap (λ (q : QueryData). q.leave) new_is)) (before.later k time (omega (arith, c.loop-place-test.true))),
      down_from N c.args.from.now Q new time c.args.rides c.loop-place.desk c.loop-place.swept.sweep c.loop-place.swept.rounds.items c.loop-place.swept.arrivals before.query new_is before.down,
    )

pub ask-requires-clause-leave : goal.ask-requires-clause-leave
ask-requires-clause-leave g c =
    let ds : List ℤ = c.args.departures.now in
    let k : ℕ = length ds - 1 - c.loop-place.place in
    let time : ℤ = c.from_last.result in
    let new_is : c.ask_at.new.query ≡ everywhere c.args.from.now time = query_on c.args.from.now c.loop-place.query c.ask_at.new.query (to_z w32 (of_z w32 time)) time c.loop-place.invariant.query c.ask_at.ensures (to_z-of_z w32 time (search rules)) in
    let read : get_or ds k time ≡ time = get_or_from_slice_get ds k time time c.from_last.ensures in
    subst (λ z. z ≤ℤ pos 359999) (read ∙ sym (ap (λ (q : QueryData). q.leave) new_is)) (c.requires.departures k time (omega (arith, c.loop-place-test.true)))

pub ask-requires-clause-not_before : goal.ask-requires-clause-not_before
ask-requires-clause-not_before g c =
    let ds : List ℤ = c.args.departures.now in
    let k : ℕ = length ds - 1 - c.loop-place.place in
    let time : ℤ = c.from_last.result in
    let new_is : c.ask_at.new.query ≡ everywhere c.args.from.now time = query_on c.args.from.now c.loop-place.query c.ask_at.new.query (to_z w32 (of_z w32 time)) time c.loop-place.invariant.query c.ask_at.ensures (to_z-of_z w32 time (search rules)) in
    let read : get_or ds k time ≡ time = get_or_from_slice_get ds k time time c.from_last.ensures in
    subst (λ z. pos 0 ≤ℤ z) (read ∙ sym (ap (λ (q : QueryData). q.leave) new_is)) (c.requires.not_before k time (omega (arith, c.loop-place-test.true)))

pub loop-place-preserved : goal.loop-place-preserved
loop-place-preserved g c =
    let N : NetData = g.S.Scan.net c.args.scan.now in
    let ds : List ℤ = c.args.departures.now in
    let from : List ℕ = c.args.from.now in
    let place : ℕ = c.loop-place.place in
    let k : ℕ = length ds - 1 - place in
    let new : QueryData = c.ask_at.new.query in
    let time : ℤ = c.from_last.result in
    let before = c.loop-place.invariant in
    let new_is : new ≡ everywhere from time = query_on from c.loop-place.query new (to_z w32 (of_z w32 time)) time before.query c.ask_at.ensures (to_z-of_z w32 time (search rules)) in
    let leave_is : new.leave ≡ time = ap (λ (q : QueryData). q.leave) new_is in
    let pushed = c.in_ok-push.ensures {u = tt} in
    let made : AreTimesAt N.table from c.args.rides time c.in_ok-ask.field-0.items = subst (λ (q : QueryData). AreTimesAt N.table q.from c.args.rides q.leave c.in_ok-ask.field-0.items) new_is c.in_ok-ask.ensures.times in
    record {
      each = ap length pushed.items ∙ (length-append c.loop-place.lists.items (c.in_ok-ask.field-0 ∷ []) ∙ ap (λ n. n + 1) before.each);
      times = lists_more (λ list. list.items) (λ j xs. (t : ℤ) → AreTimesAt N.table from c.args.rides (get_or ds (length ds - 1 - j) t) xs) c.loop-place.lists.items c.push.new.self.items place c.in_ok-ask.field-0 before.each before.times
          (λ t. subst (λ z. AreTimesAt N.table from c.args.rides z c.in_ok-ask.field-0.items) (sym (get_or_from_slice_get ds k time t c.from_last.ensures)) made) pushed.items;
      query = new_is ∙ ap (everywhere from) (sym leave_is);
      later = λ j t below. subst (λ z. get_or ds j t ≤ℤ z) (get_or_from_slice_get ds k time t c.from_last.ensures ∙ sym leave_is) (c.requires.order j k t (omega (arith, below)) (omega (arith, c.loop-place-test.true)));
      down = c.in_ok-ask.ensures.down;
      fits = c.in_ok-ask.ensures.fits;
    }

pub returns-clause-times : goal.returns-clause-times
returns-clause-times g c = λ k t o inside.
    let N : NetData = g.S.Scan.net c.args.scan.now in
    let ds : List ℤ = c.args.departures.now in
    lists_mapped (λ list. list.items) (λ j xs. (u : ℤ) → AreTimesAt N.table c.args.from.now c.args.rides (get_or ds (length ds - 1 - j) u) xs) c.loop-place.lists.items c.loop-place.invariant.times k o
    (omega (arith, inside, c.loop-place.invariant.each, c.loop-place-test.false)) t
