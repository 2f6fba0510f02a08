use Rattle.std.proofs.Common.{◌≡◌, ℕ, ◌<◌, ◌+◌, List, ◌∷◌, length, map, reverse, drop, get_or, sym, ap, subst, ◌∙◌, None, Some, Result, Ok, Err}
use Rattle.std.specs.Prelude.{All, Contains, IfOk}
use Rattle.std.proofs.lemmas.List.{drop_more}
use Rattle.std.proofs.lemmas.List.Elements.{All-contains}
use Rattle.tb_base.specs.TimetableData.{TimetableData, stop_at}
use Rattle.tb_base.specs.Walking.{walk}
use Rattle.tb_base.specs.BestValues.{QueryData}
use Rattle.tb_base.specs.JourneyRules.{legs_of}
use Rattle.plain_rounds.specs.declared.arrivals.PlainRide.{PlainRide}
use Rattle.plain_rounds.specs.declared.hits.TargetArrival.{TargetArrival}
use Rattle.plain_rounds.specs.PlainAnswer.{IsShownWithin}
use Rattle.plain_rounds.specs.Hits.{IsArrivalHit}
use Rattle.plain_rounds.specs.Rides.{IsTrace}
use Rattle.plain_rounds.specs.Rounds.{ride_of}
use Rattle.plain_rounds.specs.Shown.{IsInside, IsNearest}
use Rattle.tb_base.specs.Journeys.{Ride}
use Rattle.plain_rounds.proofs.NearLemmas.{nearest-shown}
use Rattle.plain_rounds.proofs.PlainAnswerLemmas.{hit_back, hit-trace, hit-inside, hit-some, hit-walk, hit-shown}
use Rattle.plain_rounds.proofs.choices.legs_to.Goals as goal

if_ok : {A E : Type 0} (P Q : A → Type 0) (r : Result A E) → ((x : A) → P x → Q x) → IfOk r P → IfOk r Q
if_ok P Q (Ok x) f h = f x h
if_ok P Q (Err e) f h = tt

no_step : PlainRide
no_step = record { trip = 0; board = 0; alight = 0; before = None }

-- some rides begin with one
first : (rides : List PlainRide) → 0 < length rides → rides ≡ get_or rides 0 no_step ∷ drop (0 + 1) rides
first rides some = drop_more rides 0 no_step some

-- the rides are those of each trace
module _ (T : TimetableData) (Q : QueryData) (ridden rides : List PlainRide) (h : TargetArrival) (are : (back : List Ride) → IsTrace ridden back h.ride → map ride_of rides ≡ reverse back) where
  are_at : (most : ℕ) (ah : IsArrivalHit T Q ridden most h) → map ride_of rides ≡ reverse (hit_back T Q ridden most h ah)
  are_at most ah = are (hit_back T Q ridden most h ah) (hit-trace T Q ridden most h ah)

pub rides_to-requires : goal.rides_to-requires
rides_to-requires c = (hit_back c.args.table.now c.args.query.now c.args.ridden.now c.requires.hit.0 c.args.hit.now c.requires.hit.1, hit-trace c.args.table.now c.args.query.now c.args.ridden.now c.requires.hit.0 c.args.hit.now c.requires.hit.1)

pub first_stop-start-requires : goal.first_stop-start-requires
first_stop-start-requires c =
    let T = c.args.table.now in
    let Q = c.args.query.now in
    let ridden = c.args.ridden.now in
    let h = c.args.hit.now in
    let rides = c.in_ok-rides.rides.items in
    let are = are_at T Q ridden rides h c.in_ok-rides.ensures c.requires.hit.0 c.requires.hit.1 in
    record {
      some = subst (λ (xs : List PlainRide). 0 < length xs) (sym c.as_slice.ensures.value) (hit-some T Q ridden c.requires.hit.0 h c.requires.hit.1 rides are);
      rides = subst (λ (xs : List PlainRide). All (IsInside T) xs) (sym c.as_slice.ensures.value) (hit-inside T Q ridden c.requires.hit.0 h c.requires.hit.1 rides are);
    }

pub spell-requires : goal.spell-requires
spell-requires c =
    let T = c.args.table.now in
    let Q = c.args.query.now in
    let ridden = c.args.ridden.now in
    let h = c.args.hit.now in
    let rides = c.in_ok-rides.rides.items in
    let are = are_at T Q ridden rides h c.in_ok-rides.ensures c.requires.hit.0 c.requires.hit.1 in
    let from_is : c.as_slice-2.result.now ≡ Q.from = c.as_slice-2.ensures.value ∙ ap (λ (q : QueryData). q.from) c.query.view_is in
    record {
      origin = All-contains (λ p. p < length T.stops) Q.from c.in-Some.origin.stop c.requires.origins (subst (λ ns. Contains ns c.in-Some.origin.stop) from_is c.in-Some.ensures.nearest.0);
      target = All-contains (λ p. p < length T.stops) Q.to h.target c.requires.targets c.requires.hit.1.hit.nearest.among;
      rides = subst (λ (xs : List PlainRide). All (IsInside T) xs) (sym c.as_slice-in-Some.ensures.value) (hit-inside T Q ridden c.requires.hit.0 h c.requires.hit.1 rides are);
    }

pub unreachable-requires : goal.unreachable-requires
unreachable-requires c =
    let T = c.args.table.now in
    let Q = c.args.query.now in
    let ridden = c.args.ridden.now in
    let h = c.args.hit.now in
    let rides = c.in_ok-rides.rides.items in
    let are = are_at T Q ridden rides h c.in_ok-rides.ensures c.requires.hit.0 c.requires.hit.1 in
    let from_is : c.as_slice-2.result.now ≡ Q.from = c.as_slice-2.ensures.value ∙ ap (λ (q : QueryData). q.from) c.query.view_is in
    let f : PlainRide = get_or rides 0 no_step in
    let e : rides ≡ f ∷ drop (0 + 1) rides = first rides (hit-some T Q ridden c.requires.hit.0 h c.requires.hit.1 rides are) in
    let start : c.first_stop-start.result ≡ stop_at T f.trip f.board = c.first_stop-start.ensures.stop f (drop (0 + 1) rides) (c.as_slice.ensures.value ∙ e) in
    let w = hit-walk T Q ridden c.requires.hit.0 h c.requires.hit.1 rides are f (drop (0 + 1) rides) e in
    c.in-None.ensures.nearest w.0 w.1 (subst (λ ns. Contains ns w.0) (sym from_is) w.2.0) (subst (λ p. walk T w.0 p ≡ Some w.1) (sym start) w.2.1)

pub returns : goal.returns
returns c =
    let T = c.args.table.now in
    let Q = c.args.query.now in
    let ridden = c.args.ridden.now in
    let h = c.args.hit.now in
    let rides = c.in_ok-rides.rides.items in
    let o = c.in-Some.origin.stop in
    let are = are_at T Q ridden rides h c.in_ok-rides.ensures in
    let from_is : c.as_slice-2.result.now ≡ Q.from = c.as_slice-2.ensures.value ∙ ap (λ (q : QueryData). q.from) c.query.view_is in
    let f : PlainRide = get_or rides 0 no_step in
    let e : rides ≡ f ∷ drop (0 + 1) rides = first rides (hit-some T Q ridden c.requires.hit.0 h c.requires.hit.1 rides (are c.requires.hit.0 c.requires.hit.1)) in
    let start : c.first_stop-start.result ≡ stop_at T f.trip f.board = c.first_stop-start.ensures.stop f (drop (0 + 1) rides) (c.as_slice.ensures.value ∙ e) in
    let near : IsNearest (λ p. walk T p (stop_at T f.trip f.board)) Q.from o =
    subst (λ p. IsNearest (λ q. walk T q p) Q.from o) start (subst (λ ns. IsNearest (λ q. walk T q c.first_stop-start.result) ns o) from_is
    (nearest-shown (λ q. walk T q c.first_stop-start.result) c.as_slice-2.result.now c.in-Some.origin c.in-Some.ensures.nearest)) in
    if_ok (λ legs. legs.items ≡ legs_of T o (map ride_of c.as_slice-in-Some.result.now) h.target) (λ legs. (most : ℕ) → IsArrivalHit T Q ridden most h → IsShownWithin T Q most legs.items h.arrive) c.spell.result
    (λ legs spelt most ah. hit-shown T Q ridden most h ah rides (are most ah) f (drop (0 + 1) rides) e o near legs.items (spelt ∙ ap (λ (xs : List PlainRide). legs_of T o (map ride_of xs) h.target) c.as_slice-in-Some.ensures.value))
    c.spell.ensures
