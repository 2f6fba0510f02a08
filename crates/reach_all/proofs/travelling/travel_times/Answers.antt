use Rattle.std.proofs.Common.{◌≡◌, ◌∙◌, ◌<◌, List, ℕ, ℤ, Option, Vec, Global, length, map, get_or, None, sym, ap, subst, arith}
use Rattle.tb_base.specs.TimetableData.{TimetableData}
use Rattle.reach_all.specs.declared.figures.Figures.{Figures}
use Rattle.reach_all.specs.Ranks.{AreTimesAt}
use Rattle.reach_all.specs.TravelTimes.{AreFigures}
use Rattle.reach_all.proofs.BestTimes.{have_figures, lists_long}
use Rattle.reach_all.proofs.travelling.travel_times.Goals as goal

pub all_figures-requires-clause-some : goal.all_figures-requires-clause-some
all_figures-requires-clause-some g c =
    let some = c.in_ok-times.ensures.some c.requires.some in
    omega (arith, some, ap length c.as_slice-2.ensures.value, c.in_ok-lists.ensures.each_departure, ap length c.as_slice.ensures.value)

pub all_figures-requires-clause-each_stop : goal.all_figures-requires-clause-each_stop
all_figures-requires-clause-each_stop g c =
    let T : TimetableData = (g.S.Scan.net c.args.scan.now).table in
    subst (λ xs. (k : ℕ) (d : Vec (Option ℤ) Global) → k < length xs → length (get_or xs k d).items ≡ c.shape.result.stops) (sym c.as_slice-2.ensures.value)
    (λ k d inside. lists_long (λ list. list.items) T c.args.from.now c.args.rides c.as_slice.result.now c.in_ok-lists.lists.items c.in_ok-lists.ensures.each_departure c.in_ok-lists.ensures.times k d inside ∙ sym c.shape.ensures.stops)

pub returns-clause-figures : goal.returns-clause-figures
returns-clause-figures g c =
    let T : TimetableData = (g.S.Scan.net c.args.scan.now).table in
    let times : List ℤ = c.in_ok-times.times.items in
    let lists = c.in_ok-lists.lists.items in
    let figures : List Figures = c.in_ok-figures.figures.items in
    let made = c.in_ok-lists.ensures in record {
      times = times;
      departures = c.in_ok-times.ensures.times;
      counted = c.len.ensures ∙ c.in_ok-times.times.ok.0;
      have = have_figures (λ list. list.items) T c.args.from.now c.args.rides times lists figures (made.each_departure ∙ ap length c.as_slice.ensures.value)
          (subst (λ (ds : List ℤ). (k : ℕ) (t : ℤ) (o : List (Option ℤ)) → k < length ds → AreTimesAt T c.args.from.now c.args.rides (get_or ds k t) (get_or (map (λ list. list.items) lists) k o)) c.as_slice.ensures.value made.times)
          (c.in_ok-figures.ensures.each_stop ∙ c.shape.ensures.stops)
          (λ p f inside. subst (λ xs. AreFigures (map (λ list. get_or list.items p None) xs) (get_or figures p f)) c.as_slice-2.ensures.value (c.in_ok-figures.ensures.figures p f (subst (λ n. p < n) (sym c.shape.ensures.stops) inside)));
    }
