use Rattle.std.proofs.Common.{◌∙◌, ◌+◌, ap, arith, length}
use Rattle.line_split.proofs.PatternLemmas.{numbered, mapped_long, all_within}
use Rattle.line_split.proofs.patterns.patterns_of.Goals as goal

pub first_of-requires-clause-fits : goal.first_of-requires-clause-fits
first_of-requires-clause-fits c = omega (arith, c.buckets_of.ensures.fits, ap length c.as_slice.ensures.value, mapped_long c.args.table.now _ c.in_ok-buckets.ensures.buckets)

pub first_of-requires-clause-below : goal.first_of-requires-clause-below
first_of-requires-clause-below c =
    let T = c.args.table.now in
    all_within (length T.trips) _ _ _ c.in_ok-buckets.ensures.below c.as_slice.ensures.value (ap length c.as_slice.ensures.value ∙ mapped_long T _ c.in_ok-buckets.ensures.buckets)

pub others_of-requires-clause-trips : goal.others_of-requires-clause-trips
others_of-requires-clause-trips c = ap length c.as_slice-2.ensures.value ∙ mapped_long c.args.table.now _ c.in_ok-buckets.ensures.buckets

pub others_of-requires-clause-below : goal.others_of-requires-clause-below
others_of-requires-clause-below c =
    let T = c.args.table.now in
    all_within (length T.trips) _ _ _ c.in_ok-buckets.ensures.below c.as_slice-2.ensures.value (ap length c.as_slice-3.ensures.value ∙ c.in_ok-first.ensures ∙ ap length c.as_slice.ensures.value ∙ mapped_long T _ c.in_ok-buckets.ensures.buckets)

pub numbers_of-requires-clause-trips : goal.numbers_of-requires-clause-trips
numbers_of-requires-clause-trips c = ap length c.as_slice-4.ensures.value ∙ mapped_long c.args.table.now _ c.in_ok-buckets.ensures.buckets

pub numbers_of-requires-clause-below : goal.numbers_of-requires-clause-below
numbers_of-requires-clause-below c =
    let T = c.args.table.now in
    all_within (length T.trips) _ _ _ c.in_ok-buckets.ensures.below c.as_slice-4.ensures.value (ap length c.as_slice-5.ensures.value ∙ c.in_ok-first.ensures ∙ ap length c.as_slice.ensures.value ∙ mapped_long T _ c.in_ok-buckets.ensures.buckets)

pub returns : goal.returns
returns c =
    let T = c.args.table.now in
    let buckets = c.as_slice-4.result.now in
    let first = c.as_slice-5.result.now in
    let others = c.as_slice-6.result.now in
    numbered T buckets first others c.in_ok-numbers.numbers.items (c.len.result + c.len-2.result + 1) (c.as_slice-4.ensures.value ∙ c.in_ok-buckets.ensures.buckets)
    (all_within (length T.trips) _ _ _ c.in_ok-buckets.ensures.below c.as_slice-4.ensures.value (ap length c.as_slice-5.ensures.value ∙ c.in_ok-first.ensures ∙ ap length c.as_slice.ensures.value ∙ mapped_long T _ c.in_ok-buckets.ensures.buckets))
    c.in_ok-numbers.ensures (omega (arith, c.len.ensures, c.len-2.ensures, c.as_slice-5.ensures.len, c.as_slice-6.ensures.len))
