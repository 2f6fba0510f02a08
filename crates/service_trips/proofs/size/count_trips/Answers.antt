use Rattle.std.proofs.Common.{◌∙◌, ◌-◌, ◌^◌, ap, sym, refl, min, arith, inl, inr}
use Rattle.std.proofs.lemmas.Bool.{cases_Bool}
use Rattle.std.proofs.lemmas.Bool.Decides.{nat_tests}
use Rattle.service_trips.specs.TimetableTrips.{is_shown}
use Rattle.service_trips.proofs.SizeSteps.{plain_count, named_count}
use Rattle.service_trips.proofs.size.count_trips.Goals as goal

pub returns-then-is_empty : goal.returns-then-is_empty
returns-then-is_empty c = λ id.
    let long = c.requires.ride.long in
    let test = c.is_empty.ensures in
    let none = c.if-is_empty.true in
    let count = plain_count c.args.day id c.args.table.now.rows _ c.places.result.now c.args.ride.now (omega (arith, long)) (grind (arith, nat_tests, test, none)) c.places.ensures.rows in
    rw (count, c.is_shown.ensures) (elim (cases_Bool (is_shown c.args.day c.args.ride.now)) [
      | inl t ↦ rw t refl
      | inr f ↦ rw f refl
    ])

pub returns : goal.returns
returns c = λ id.
    let long = c.requires.ride.long in
    let test = c.is_empty.ensures in
    let some = c.if-is_empty.false in
    let count = named_count c.args.day id c.args.table.now.rows _ c.places.result.now c.args.ride.now c.shown_starts.result (omega (arith, long)) (grind (arith, nat_tests, test, some)) c.places.ensures.rows c.shown_starts.ensures in
    c.count_starts.ensures ∙ ap (λ n. min n (2 ^ 64 - 1)) (sym count)
