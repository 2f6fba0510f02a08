use Rattle.std.proofs.Common.{◌≡◌, ◌∙◌, List, sym, ap, subst, map, None, Option, length, arith, ℤ, ◌<◌}
use Rattle.std.proofs.lemmas.List.{length-map}
use Rattle.std.specs.Prelude.{slice_index_or}
use Rattle.std.specs.List.Sorted.{IsPermutation}
use Rattle.reach_all.specs.TravelTimes.{AreFigures}
use Rattle.reach_all.specs.Ranks.{figures_in_order}
use Rattle.reach_all.proofs.Ranking.{few_reached, figures}
use Rattle.reach_all.proofs.figures.stop_figures.Goals as goal

pub figures_in_order-requires-clause-of_all : goal.figures_in_order-requires-clause-of_all
figures_in_order-requires-clause-of_all c =
    let times : List (Option ℤ) = map (λ list. slice_index_or list.items c.args.stop None) c.args.lists.now in
    let sorted : List ℤ = c.put_in_order.new.times.items in
    let same = subst (λ xs. IsPermutation xs sorted) c.in_ok-gather.ensures c.put_in_order.ensures.same in
    let few = few_reached times sorted c.put_in_order.ensures.order same in
    let long = length-map c.args.lists.now (λ list. slice_index_or list.items c.args.stop None) in
    omega (arith, few, long, ap length c.as_slice.ensures.value)

pub returns : goal.returns
returns c =
    let times : List (Option ℤ) = map (λ list. slice_index_or list.items c.args.stop None) c.args.lists.now in
    let sorted : List ℤ = c.put_in_order.new.times.items in
    let same = subst (λ xs. IsPermutation xs sorted) c.in_ok-gather.ensures c.put_in_order.ensures.same in
    let long : length times ≡ length c.args.lists.now = length-map c.args.lists.now (λ list. slice_index_or list.items c.args.stop None) in
    subst (AreFigures times) (sym (c.figures_in_order.ensures ∙ (ap (λ xs. figures_in_order xs (length c.args.lists.now)) c.as_slice.ensures.value ∙ ap (figures_in_order sorted) (sym long))))
    (figures times sorted c.put_in_order.ensures.order same (subst (λ n. 0 < n) (sym long) c.requires.some))
