use Rattle.std.proofs.Common.{◌≡◌, ◌≤◌, ◌⊎◌, length, arith}
use Rattle.line_split.proofs.EventLemmas.{pattern-end}
use Rattle.line_split.proofs.events.compare_patterns.Goals as goal

pub returns : goal.returns
returns c =
    let first = c.args.first.now in
    let second = c.args.second.now in
    let a : c.loop-i.i ≤ length first = omega arith in
    let b : c.loop-i.i ≤ length second = omega arith in
    let d : (c.loop-i.i ≡ length first) ⊎ (c.loop-i.i ≡ length second) = grind arith in
    let e = pattern-end c.loop-i.i first second a b d in
    cc
