use Rattle.std.proofs.Common.{◌≡◌, ◌<◌, ℕ, List, Option, None, Some, length, map, reverse, refl, rules, ap, sym, subst, ◌∙◌}
use Rattle.std.specs.Prelude.{slice_get}
use Rattle.std.proofs.lemmas.Option.{slice_get_read, slice_get_within}
use Rattle.plain_rounds.specs.declared.arrivals.PlainRide.{PlainRide}
use Rattle.plain_rounds.specs.Rounds.{ride_of}
use Rattle.plain_rounds.proofs.TraceLemmas.{IsTraced, height, traced-none, traced-more, traced-falls, traced-inside, traced-all, map-reverse}
use Rattle.plain_rounds.proofs.legs.rides_to.Goals as goal

pub loop-at-init : goal.loop-at-init
loop-at-init c = subst (λ rides. IsTraced c.args.ridden.now c.args.last rides c.args.last) (sym c.new-rides.ensures.items) (traced-none c.args.ridden.now c.args.last c.requires.0 c.requires.1)

inside : (ridden : List PlainRide) (last : Option ℕ) (rides : List PlainRide) (at : Option ℕ) (place : ℕ) → at ≡ Some place → IsTraced ridden last rides at → place < length ridden
inside ridden last rides at place is t =
    let found = traced-inside ridden last rides place (subst (λ o. IsTraced ridden last rides o) is t) in
    slice_get_within ridden place found.0 found.1

pub bounds-ridden-place : goal.bounds-ridden-place
bounds-ridden-place c = inside c.args.ridden.now c.args.last c.loop-at.rides.items c.loop-at.at c.in-Some.place c.in-Some.is c.loop-at.invariant

pub offset_bounds-ridden-place : goal.offset_bounds-ridden-place
offset_bounds-ridden-place c =
    let within : c.in-Some.place < length c.args.ridden.now = inside c.args.ridden.now c.args.last c.loop-at.rides.items c.loop-at.at c.in-Some.place c.in-Some.is c.loop-at.invariant in
    search rules

pub loop-at-smaller : goal.loop-at-smaller
loop-at-smaller c =
    let ridden = c.args.ridden.now in
    let place = c.in-Some.place in
    let here : slice_get ridden place ≡ Some c.index-ridden-place.result = slice_get_read ridden (length ridden) place c.index-ridden-place.result refl (inside ridden c.args.last c.loop-at.rides.items c.loop-at.at place c.in-Some.is c.loop-at.invariant) c.index-ridden-place.is in
    subst (λ o. height c.index-ridden-place.result.before < height o) (sym c.in-Some.is)
    (traced-falls ridden c.args.last c.loop-at.rides.items place c.index-ridden-place.result here (subst (λ o. IsTraced ridden c.args.last c.loop-at.rides.items o) c.in-Some.is c.loop-at.invariant))

pub loop-at-preserved : goal.loop-at-preserved
loop-at-preserved c =
    let ridden = c.args.ridden.now in
    let place = c.in-Some.place in
    let here : slice_get ridden place ≡ Some c.index-ridden-place.result = slice_get_read ridden (length ridden) place c.index-ridden-place.result refl (inside ridden c.args.last c.loop-at.rides.items c.loop-at.at place c.in-Some.is c.loop-at.invariant) c.index-ridden-place.is in
    subst (λ rides. IsTraced ridden c.args.last rides c.index-ridden-place.result.before) (sym c.in_ok-push.ensures.items)
    (traced-more ridden c.args.last c.loop-at.rides.items place c.index-ridden-place.result here (subst (λ o. IsTraced ridden c.args.last c.loop-at.rides.items o) c.in-Some.is c.loop-at.invariant))

pub returns : goal.returns
returns c = λ back h.
    let none : ◌≡◌ {A = Option ℕ} c.loop-at.at None = c.in_default.is in
    ap (map ride_of) c.reverse.ensures.items
    ∙ map-reverse ride_of c.loop-at.rides.items
    ∙ ap reverse (sym (traced-all c.args.ridden.now c.args.last c.loop-at.rides.items (subst (λ o. IsTraced c.args.ridden.now c.args.last c.loop-at.rides.items o) none c.loop-at.invariant) back h))
