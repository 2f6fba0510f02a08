use Rattle.std.proofs.Common.{ℕ, ◌≡◌, ◌∙◌, ◌<◌, ◌++◌, ◌∷◌, [], sym, ap, subst, arith, length, map}
use Rattle.std.specs.Prelude.{All}
use Rattle.std.specs.List.{range_with_len}
use Rattle.std.proofs.lemmas.List.Elements.{All-push}
use Rattle.tb_base.specs.TimetableData.{events_of}
use Rattle.line_split.specs.Patterns.{bucket_of}
use Rattle.line_split.proofs.PatternLemmas.{map_range_more}
use Rattle.line_split.proofs.patterns.buckets_of.Goals as goal

pub loop-trip-preserved : goal.loop-trip-preserved
loop-trip-preserved c =
    let hash : ℕ → ℕ = λ t. bucket_of (length c.args.table.now.trips) (events_of c.args.table.now t) in
    let before = range_with_len 0 c.loop-trip.trip in
    let own : c.bucket_of.result ≡ hash c.loop-trip.trip = c.bucket_of.ensures.value ∙ (λ i. bucket_of (c.trip_count-count.ensures i) (c.events_of.ensures i)) in
    let low : c.bucket_of.result < length c.args.table.now.trips = omega (arith, c.bucket_of.ensures.below, c.trip_count-count.ensures) in
    record {
      buckets = c.in_ok-push.ensures.items ∙ ap (λ bs. bs ++ c.bucket_of.result ∷ []) c.loop-trip.invariant.buckets ∙ ap (λ b. map hash before ++ b ∷ []) own ∙ sym (map_range_more hash c.loop-trip.trip);
      below = subst (All (λ b. b < length c.args.table.now.trips)) (sym c.in_ok-push.ensures.items)
          (All-push (λ b. b < length c.args.table.now.trips) c.loop-trip.buckets.items c.bucket_of.result c.loop-trip.invariant.below low);
    }
