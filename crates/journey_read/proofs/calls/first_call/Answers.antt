use Rattle.std.proofs.Common.{◌∙◌, rules, sym, arith}
use Rattle.std.proofs.lemmas.List.Sorted.{IsPartitionPoint-from_clause}
use Rattle.journey_read.proofs.CallSearch.{calls_partitioned, found_first, none_past, other_first, precedes}
use Rattle.journey_read.proofs.calls.first_call.Goals as goal

pub returns-then-place-calls : goal.returns-then-place-calls
returns-then-place-calls c =
    let calls = c.args.calls.now in
    let wanted = c.args.wanted.now in
    let place = c.partition_point-place.result in
    let parts = IsPartitionPoint-from_clause (λ d. precedes d wanted) calls place c.partition_point-place.ensures.partitioned (calls_partitioned calls wanted c.requires) (λ a r f h. search rules) in
    none_past calls wanted c.requires place parts (omega (arith, c.if-place-calls.true))

pub returns-then-is_at : goal.returns-then-is_at
returns-then-is_at c =
    let calls = c.args.calls.now in
    let wanted = c.args.wanted.now in
    let place = c.partition_point-place.result in
    let parts = IsPartitionPoint-from_clause (λ d. precedes d wanted) calls place c.partition_point-place.ensures.partitioned (calls_partitioned calls wanted c.requires) (λ a r f h. search rules) in
    let bound = c.partition_point-place.ensures.bound in
    found_first calls wanted c.requires place parts c.index-calls-place.result (omega (arith, bound, c.if-place-calls.false)) c.index-calls-place.is (sym c.is_at.ensures ∙ c.if-is_at.true)

pub returns-else-is_at : goal.returns-else-is_at
returns-else-is_at c =
    let calls = c.args.calls.now in
    let wanted = c.args.wanted.now in
    let place = c.partition_point-place.result in
    let parts = IsPartitionPoint-from_clause (λ d. precedes d wanted) calls place c.partition_point-place.ensures.partitioned (calls_partitioned calls wanted c.requires) (λ a r f h. search rules) in
    let bound = c.partition_point-place.ensures.bound in
    other_first calls wanted c.requires place parts c.index-calls-place.result (omega (arith, bound, c.if-place-calls.false)) c.index-calls-place.is (sym c.is_at.ensures ∙ c.if-is_at.false)
