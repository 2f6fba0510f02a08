use Rattle.std.proofs.Common.{◌≡◌, ◌∙◌, ◌<◌, ◌+◌, sym, ap, refl, length, get_or, set, arith, length-set}
use Rattle.std.proofs.lemmas.List.{get_or_default}
use Rattle.line_split.proofs.PatternsAmong.{earlier, numbered_among, told_more}
use Rattle.line_split.proofs.patterns.patterns_among.Goals as goal

pub loop-trip-preserved : goal.loop-trip-preserved
loop-trip-preserved c =
    let T = c.args.table.now in
    let sorted = c.in_ok-sorted.sorted.items in
    let trips = c.args.trips.now in
    let numbers = c.loop-trip.numbers.items in
    let i = c.loop-trip.trip-index in
    let x = c.index.result in
    let inv = c.loop-trip.invariant in
    let value : c.earlier_patterns.result ≡ earlier c.args.table.now c.in_ok-sorted.sorted.items c.index.result =
    c.earlier_patterns.ensures ∙ ap (earlier T c.as_slice.result.now) (sym c.index.ensures) ∙ ap (λ us. earlier T us x) c.as_slice.ensures.value in
    let at : c.index.result ≡ get_or c.args.trips.now c.loop-trip.trip-index 0 = c.index.ensures ∙ c.trip-item.is ∙ get_or_default trips i c.trip-item.result 0 c.loop-trip-test.true in
    let inside : c.index.result < length c.loop-trip.numbers.items =
    omega (arith, at, c.requires.trips i 0 c.loop-trip-test.true, inv.long) in
    record {
      long = length-set numbers x c.earlier_patterns.result ∙ inv.long;
      told = told_more T sorted trips (length trips) i x numbers (set numbers x c.earlier_patterns.result) at inside (ap (set numbers x) value) inv.told;
    }

pub returns : goal.returns
returns c =
    let inv = c.loop-trip.invariant in
    numbered_among c.args.table.now c.in_ok-sorted.sorted.items c.args.trips.now (length c.args.trips.now) (length c.args.trips.now + 1) c.loop-trip.trip-index c.loop-trip.numbers.items
    inv.long c.in_ok-sorted.ensures.count refl (omega (arith, c.loop-trip-test.false, c.loop-trip.auto.trip-index-end)) c.requires.whole inv.told
