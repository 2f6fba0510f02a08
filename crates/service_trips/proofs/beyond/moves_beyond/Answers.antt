use Rattle.std.proofs.Common.{◌∙◌, sym, rules, ◌-◌, w32, arith}
use Rattle.std.specs.Prelude.{FitsSigned, nat_le}
use Rattle.std.proofs.lemmas.Int.{to_z-of_z}
use Rattle.std.proofs.lemmas.Bool.Decides.{nat_tests}
use Rattle.service_trips.proofs.ByStarts.{start_below}
use Rattle.service_trips.proofs.BeyondStarts.{run_beyond, none_beyond, no_ride_beyond}
use Rattle.service_trips.proofs.beyond.moves_beyond.Goals as goal

pub returns-then-is_empty : goal.returns-then-is_empty
returns-then-is_empty c =
    let test = c.is_empty.ensures in
    let none = c.if-is_empty.true in
    sym (no_ride_beyond c.args.ride.now c.args.frequency.now (grind (arith, nat_tests, test, none)))

pub returns-then-starts-eq0 : goal.returns-then-starts-eq0
returns-then-starts-eq0 c =
    let none = c.if-starts-eq0.true in
    sym (none_beyond c.args.ride.now c.args.frequency.now c.starts_from-starts.result.first c.starts_from-starts.result.count (grind (arith, nat_tests, none)) c.starts_from-starts.ensures.starts)

pub overflow_add-last : goal.overflow_add-last
overflow_add-last c =
    let some = c.if-starts-eq0.false in
    let below = start_below (nat_le 0) c.starts_from-starts.result.first c.starts_from-starts.result.count (c.starts_from-starts.result.count - 1) c.args.frequency.now c.starts_from-starts.ensures.starts (grind (arith, nat_tests, some)) in
    let end = c.requires.good.end in
    omega (arith, below, end)

pub overflow_cast-starts : goal.overflow_cast-starts
overflow_cast-starts c =
    let some = c.if-starts-eq0.false in
    let below = start_below (nat_le 0) c.starts_from-starts.result.first c.starts_from-starts.result.count 0 c.args.frequency.now c.starts_from-starts.ensures.starts (grind (arith, nat_tests, some)) in
    let end = c.requires.good.end in
    omega (arith, below, end)

pub begin_from-begin-requires-clause-start : goal.begin_from-begin-requires-clause-start
begin_from-begin-requires-clause-start c =
    let some = c.if-starts-eq0.false in
    let below = start_below (nat_le 0) c.starts_from-starts.result.first c.starts_from-starts.result.count 0 c.args.frequency.now c.starts_from-starts.ensures.starts (grind (arith, nat_tests, some)) in
    let end = c.requires.good.end in
    omega (arith, below, end)

pub overflow_cast-last-3 : goal.overflow_cast-last-3
overflow_cast-last-3 c =
    let some = c.if-starts-eq0.false in
    let below = start_below (nat_le 0) c.starts_from-starts.result.first c.starts_from-starts.result.count (c.starts_from-starts.result.count - 1) c.args.frequency.now c.starts_from-starts.ensures.starts (grind (arith, nat_tests, some)) in
    let end = c.requires.good.end in
    omega (arith, below, end)

pub end_from-end-requires-clause-start : goal.end_from-end-requires-clause-start
end_from-end-requires-clause-start c =
    let some = c.if-starts-eq0.false in
    let below = start_below (nat_le 0) c.starts_from-starts.result.first c.starts_from-starts.result.count (c.starts_from-starts.result.count - 1) c.args.frequency.now c.starts_from-starts.ensures.starts (grind (arith, nat_tests, some)) in
    let end = c.requires.good.end in
    omega (arith, below, end)

pub returns : goal.returns
returns c =
    let some = c.if-starts-eq0.false in
    let test = c.is_empty.ensures in
    let there = c.if-is_empty.false in
    let fits : FitsSigned w32 c.begin_from-begin.result = search rules in
    let fits' : FitsSigned w32 c.end_from-end.result = search rules in
    c.is_outside.ensures ∙ rw (to_z-of_z w32 c.begin_from-begin.result fits, to_z-of_z w32 c.end_from-end.result fits', c.begin_from-begin.ensures, c.end_from-end.ensures)
    (run_beyond c.args.ride.now c.args.frequency.now c.starts_from-starts.result.first c.starts_from-starts.result.count (c.requires.ride (grind (arith, nat_tests, test, there))) (grind (arith, nat_tests, some)) c.starts_from-starts.ensures.starts)
