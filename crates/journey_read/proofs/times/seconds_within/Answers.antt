use Rattle.std.proofs.Common.{◌≡◌, ◌∙◌, ◌≤◌, ◌-◌, ℕ, List, length, take, drop, sym, arith}
use Rattle.journey_read.specs.Times.{at_most, clock_of, seconds_of}
use Rattle.journey_read.proofs.Hours.{few_seconds, many_seconds, not_behind, not_hours, too_short}
use Rattle.journey_read.proofs.times.seconds_within.Goals as goal

-- the parts of a text show what the text shows
whole : (text hours rest : List ℕ) (most : ℕ) → hours ≡ take (length text - 6) text → rest ≡ drop (length text - 6) text → at_most most (clock_of hours rest) ≡ at_most most (seconds_of text)
whole text hours rest most front back = (λ i. at_most most (clock_of (front i) (back i)))

pub returns-then-text-lt8-clause-seconds : goal.returns-then-text-lt8-clause-seconds
returns-then-text-lt8-clause-seconds c = too_short c.args.text.now c.args.most c.if-text-lt8.true

pub returns-in_err-hours-clause-seconds : goal.returns-in_err-hours-clause-seconds
returns-in_err-hours-clause-seconds c =
    let hours = c.split_at.result.0.now in
    let rest = c.split_at.result.1.now in
    let long : 2 ≤ length hours = omega (arith, c.split_at.ensures.front_len, c.if-text-lt8.false) in
    c.from_residual.ensures ∙ not_hours hours rest c.args.most long c.in_err-hours.ensures
    ∙ whole c.args.text.now hours rest c.args.most c.split_at.ensures.front c.split_at.ensures.back

pub returns-in_err-seconds-clause-seconds : goal.returns-in_err-seconds-clause-seconds
returns-in_err-seconds-clause-seconds c =
    let hours = c.split_at.result.0.now in
    let rest = c.split_at.result.1.now in
    let long : 2 ≤ length hours = omega (arith, c.split_at.ensures.front_len, c.if-text-lt8.false) in
    c.from_residual-in_err-seconds.ensures ∙ not_behind hours rest c.args.most long c.in_ok-hours.ensures.0 c.in_err-seconds.ensures.seconds
    ∙ whole c.args.text.now hours rest c.args.most c.split_at.ensures.front c.split_at.ensures.back

pub returns-then-all-most-clause-seconds : goal.returns-then-all-most-clause-seconds
returns-then-all-most-clause-seconds c =
    let hours = c.split_at.result.0.now in
    let rest = c.split_at.result.1.now in
    let long : 2 ≤ length hours = omega (arith, c.split_at.ensures.front_len, c.if-text-lt8.false) in
    few_seconds hours rest c.args.most c.in_ok-hours.hours c.in_ok-seconds.seconds c.requires long c.in_ok-hours.ensures.0 c.in_ok-hours.ensures.1
    (sym c.in_ok-seconds.ensures.seconds) c.if-all-most.true
    ∙ whole c.args.text.now hours rest c.args.most c.split_at.ensures.front c.split_at.ensures.back

pub returns-else-all-most-clause-seconds : goal.returns-else-all-most-clause-seconds
returns-else-all-most-clause-seconds c =
    let hours = c.split_at.result.0.now in
    let rest = c.split_at.result.1.now in
    let long : 2 ≤ length hours = omega (arith, c.split_at.ensures.front_len, c.if-text-lt8.false) in
    many_seconds hours rest c.args.most c.in_ok-hours.hours c.in_ok-seconds.seconds c.requires long c.in_ok-hours.ensures.0 c.in_ok-hours.ensures.1
    (sym c.in_ok-seconds.ensures.seconds) c.if-all-most.false
    ∙ whole c.args.text.now hours rest c.args.most c.split_at.ensures.front c.split_at.ensures.back
