use Rattle.std.proofs.Common.{◌∙◌, get_or, arith, rules}
use Rattle.std.specs.Int.{IsInRange}
use Rattle.std.proofs.lemmas.Grind.{common_steps}
use Rattle.std.proofs.lemmas.Str.Parse.{digit_at}
use Rattle.gtfs_rows.proofs.Digits.{all_more}
use Rattle.journey_read.proofs.Hours.{hours_more}
use Rattle.journey_read.proofs.times.hours_of.Goals as goal

pub returns-then-not-is_ascii_digit : goal.returns-then-not-is_ascii_digit
returns-then-not-is_ascii_digit c = λ n.
    let d = digit_at c.args.digits.now c.loop-digit.digit-index n (omega arith) in
    let e = c.is_ascii_digit.ensures in
    grind (arith, common_steps)

pub loop-digit-preserved : goal.loop-digit-preserved
loop-digit-preserved c =
    let d : IsInRange 48 57 (get_or c.args.digits.now c.loop-digit.digit-index 0) = search rules in
    record {
      digits = all_more c.args.digits.now c.loop-digit.digit-index (omega arith) d c.loop-digit.invariant.digits;
      value =
          c.min-hours.ensures ∙ hours_more c.args.digits.now c.loop-digit.digit-index c.loop-digit.hours (omega arith) d c.loop-digit.invariant.value;
    }
