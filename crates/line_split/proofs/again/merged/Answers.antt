use Rattle.std.proofs.Common.{◌∙◌, ◌++◌, sym, ap, subst, map, rules}
use Rattle.std.specs.List.Sorted.{IsPermutation, IsSortedBy}
use Rattle.std.proofs.lemmas.Fn.{always_returns_same}
use Rattle.std.proofs.lemmas.List.{map-append}
use Rattle.std.proofs.lemmas.List.Sorted.{IsPermutation-map}
use Rattle.line_split.specs.Orders.{line_precedes}
use Rattle.line_split.proofs.ApartLines.{first_trip}
use Rattle.line_split.proofs.PartedLines.{sorted_map}
use Rattle.line_split.proofs.TripOrders.{ranks_of}
use Rattle.line_split.proofs.again.merged.Goals as goal

pub returns-clause-permutation : goal.returns-clause-permutation
returns-clause-permutation c =
    let one = c.into_rows-rows.result.items in
    let two = c.into_rows.result.items in
    let joined = ap (map (λ v. v.items)) c.in_ok-append.ensures.items ∙ map-append (λ v. v.items) one two ∙ (λ i. c.into_rows-rows.ensures i ++ c.into_rows.ensures i) in
    subst (IsPermutation (c.args.kept ++ c.args.placed)) (sym c.of.ensures)
    (subst (λ ls. IsPermutation ls (map (λ v. v.items) c.sort_by.new.self.items)) joined (IsPermutation-map (λ v. v.items) _ c.sort_by.new.self.items c.in_ok-sort_by.ensures.permutation))

pub returns-clause-sorted : goal.returns-clause-sorted
returns-clause-sorted c =
    let T = c.args.table.now in
    subst (IsSortedBy (line_precedes T)) (sym c.of.ensures)
    (sorted_map (line_precedes T) (λ v. v.items) c.sort_by.new.self.items
    (c.in_ok-sort_by.ensures.sorted (λ k l. line_precedes T k.items l.items) (ranks_of T (λ v. first_trip v.items)) (always_returns_same _ _ _ (λ a r f h. search rules))))
