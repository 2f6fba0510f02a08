use Rattle.std.proofs.Common.{◌≡◌, ◌<◌, ℕ, List, length, ap, sym, subst, ◌∙◌, arith, rules, get_or, set}
use Rattle.std.proofs.lemmas.List.{length-set, get_or_read}
use Rattle.tb_base.specs.declared.table.Event.{Event}
use Rattle.tb_base.specs.TimetableData.{TripData, no_event, events_of}
use Rattle.plain_rounds.specs.Rounds.{IsLeftBehind, LetsBoard, NoneBoards}
use Rattle.plain_rounds.proofs.RideLemmas.{set_each, left_from, first_boarded}
use Rattle.plain_rounds.proofs.rounds.Rounds.ride_trip.Goals as goal

pub returns-clause-kept : goal.returns-clause-kept
returns-clause-kept c =
    let T = c.args.table.now in
    let r = c.args.self.now in
    let trip = c.args.trip in
    let f = c.in-Some.boarding in
    let inside : trip < length r.boarded_at.items = subst (λ n. trip < n) (sym c.requires.kept.boarded_at) c.requires.trip in
    let until : c.index-until.result.now ≡ get_or r.boarded_at.items trip 0 = get_or_read r.boarded_at.items trip c.index-until.result.now inside (subst (λ i. c.index-until.result.now ≡ get_or r.boarded_at.items i c.index-until.result.now) c.index.ensures c.index-until.ensures) 0 in
    let left : IsLeftBehind T r.arrivals.labels.items trip c.index-until.result.now = subst (λ m. IsLeftBehind T r.arrivals.labels.items trip m) (sym until) (c.requires.kept.left trip c.requires.trip) in
    record {
      ready = search rules;
      labels = search rules;
      boarded_at = length-set r.boarded_at.items c.index-2.result f.at ∙ c.requires.kept.boarded_at;
      inside = subst (λ i. (t : ℕ) → t < length T.trips → get_or (set r.boarded_at.items i f.at) t 0 < length (events_of T t)) (sym c.index-2.ensures)
          (set_each r.boarded_at.items trip f.at (λ t m. t < length T.trips → m < length (events_of T t)) inside
          (λ h. omega (arith, c.in-Some.ensures.0, until, c.requires.kept.inside trip h))
          c.requires.kept.inside);
      left = subst (λ i. (t : ℕ) → t < length T.trips → IsLeftBehind T c.alight_along.new.self.labels.items t (get_or (set r.boarded_at.items i f.at) t 0)) (sym c.index-2.ensures)
          (set_each r.boarded_at.items trip f.at (λ t m. t < length T.trips → IsLeftBehind T c.alight_along.new.self.labels.items t m) inside
          (λ h. left_from T r.ready.items trip c.index-until.result.now r.arrivals left c.alight_along.new.self f c.in_ok-alight_along.ensures.takes)
          (λ t h i behind alights. c.in_ok-alight_along.ensures.takes.kept _ _ (c.requires.kept.left t h i behind alights)));
    }

pub returns-clause-takes : goal.returns-clause-takes
returns-clause-takes c =
    let T = c.args.table.now in
    let r = c.args.self.now in
    let trip = c.args.trip in
    let f = c.in-Some.boarding in
    let inside : trip < length r.boarded_at.items = subst (λ n. trip < n) (sym c.requires.kept.boarded_at) c.requires.trip in
    let until : c.index-until.result.now ≡ get_or r.boarded_at.items trip 0 = get_or_read r.boarded_at.items trip c.index-until.result.now inside (subst (λ i. c.index-until.result.now ≡ get_or r.boarded_at.items i c.index-until.result.now) c.index.ensures c.index-until.ensures) 0 in
    let left : IsLeftBehind T r.arrivals.labels.items trip c.index-until.result.now = subst (λ m. IsLeftBehind T r.arrivals.labels.items trip m) (sym until) (c.requires.kept.left trip c.requires.trip) in
    let same : c.as_slice-events.result.now ≡ events_of T trip = c.as_slice-events.ensures.value ∙ ap (λ (t : TripData). t.events) c.behind-table.view_is ∙ c.trip.ensures.events in
    first_boarded T r.ready.items trip c.index-until.result.now r.arrivals left c.alight_along.new.self f c.in_ok-alight_along.ensures.takes
    (subst (λ ready. NoneBoards ready (events_of T trip) f.at) c.as_slice.ensures.value (subst (λ (es : List Event). NoneBoards c.as_slice.result.now es f.at) same c.in-Some.ensures.1))
    (subst (λ ready. LetsBoard ready (get_or (events_of T trip) f.at no_event) f.before) c.as_slice.ensures.value (subst (λ (es : List Event). LetsBoard c.as_slice.result.now (get_or es f.at no_event) f.before) same c.in-Some.ensures.2))
