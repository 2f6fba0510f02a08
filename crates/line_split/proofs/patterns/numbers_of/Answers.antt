use Rattle.std.proofs.Common.{ℕ, ◌∙◌, ◌++◌, ◌∷◌, [], sym, ap, map, get_or}
use Rattle.std.specs.List.{range_with_len}
use Rattle.line_split.specs.Patterns.{number_of}
use Rattle.line_split.proofs.PatternLemmas.{map_range_more}
use Rattle.line_split.proofs.patterns.numbers_of.Goals as goal

pub loop-trip-preserved : goal.loop-trip-preserved
loop-trip-preserved c =
    let own : ℕ → ℕ = λ t. number_of c.args.table.now c.args.first.now c.args.others.now (get_or c.args.buckets.now t 0) t in
    let before = range_with_len 0 c.loop-trip.trip in
    c.in_ok-push.ensures.items ∙ ap (λ ns. ns ++ c.number_of.result ∷ []) c.loop-trip.invariant ∙ ap (λ n. map own before ++ n ∷ []) c.number_of.ensures ∙ sym (map_range_more own c.loop-trip.trip)
