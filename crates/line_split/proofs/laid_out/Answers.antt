use Rattle.std.proofs.Common.{◌∙◌, ◌<◌, ◌≤◌, sym, ap, arith, length, map, subst, get_or}
use Rattle.std.specs.Prelude.{◌^◌, All}
use Rattle.std.specs.List.{concat}
use Rattle.std.proofs.lemmas.List.Concat.{concat_is}
use Rattle.std.proofs.lemmas.List.Elements.{All-weaker}
use Rattle.line_split.specs.LinesOf.{StandsAt, trip_before}
use Rattle.line_split.proofs.LineLaws.{lines_divide}
use Rattle.line_split.proofs.Counts.{all_stand, line_total, row-count, rows-all, trip_total}
use Rattle.line_split.proofs.laid_out.Goals as goal

pub places_of-requires-clause-fits : goal.places_of-requires-clause-fits
places_of-requires-clause-fits c = omega (arith, line_total c.args.table.now c.args.lines c.requires, c.soundness.ensures.trips)

pub places_of-requires-clause-rows : goal.places_of-requires-clause-rows
places_of-requires-clause-rows c =
    let T = c.args.table.now in
    let few = c.soundness.ensures.trips in
    All-weaker (λ line. length line ≤ length T.trips) (λ line. length line < 2 ^ 32) (λ line l. omega (arith, l, few)) c.args.lines
    (row-count c.args.lines (length T.trips) (trip_total T c.args.lines c.requires))

pub places_of-requires-clause-trips : goal.places_of-requires-clause-trips
places_of-requires-clause-trips c =
    let T = c.args.table.now in
    rows-all (λ t. t < c.trip_count.result) c.args.lines
    (subst (λ n. All (λ t. t < n) (concat c.args.lines)) (sym c.trip_count.ensures) (lines_divide T c.args.lines c.requires).trips)

pub onward_of-requires-clause-stand : goal.onward_of-requires-clause-stand
onward_of-requires-clause-stand c =
    let T = c.args.table.now in
    let stand = all_stand T c.args.lines c.in_ok-places.places.items (lines_divide T c.args.lines c.requires) c.in_ok-places.ensures.places in
    λ t inside. subst (λ ps. StandsAt c.args.lines t (get_or ps t (0, 0))) (sym c.as_slice.ensures.value)
    (stand t (omega (arith, inside, ap length c.as_slice.ensures.value, c.in_ok-places.ensures.length, c.trip_count.ensures)))

pub onward_of-requires-clause-fits : goal.onward_of-requires-clause-fits
onward_of-requires-clause-fits c =
    omega (arith, ap length (concat_is c.args.lines), trip_total c.args.table.now c.args.lines c.requires, c.soundness.ensures.trips)

pub new-split-requires : goal.new-split-requires
new-split-requires c =
    let T = c.args.table.now in
    record {
      lines = c.requires;
      fits = omega (arith, line_total T c.args.lines c.requires, c.soundness.ensures.trips);
      trips = c.in_ok-places.ensures.length ∙ c.trip_count.ensures;
      places = all_stand T c.args.lines c.in_ok-places.places.items (lines_divide T c.args.lines c.requires) c.in_ok-places.ensures.places;
      counted = c.in_ok-in_order.ensures.length ∙ ap length c.as_slice.ensures.value ∙ c.in_ok-places.ensures.length ∙ c.trip_count.ensures;
      runs = λ t inside. c.in_ok-in_order.ensures.runs t (omega (arith, inside, ap length c.as_slice.ensures.value, c.in_ok-places.ensures.length, c.trip_count.ensures));
      before = c.in_ok-before.ensures ∙ ap (map (trip_before c.args.lines)) c.as_slice-2.ensures.value;
      stops = c.in_ok-berths.ensures.length;
      berths = c.in_ok-berths.ensures.berths;
      boarded = c.in_ok-boardings.ensures.length;
      boardings = c.in_ok-boardings.ensures.boardings;
      starts = c.in_ok-starts.ensures.starts;
      departures = c.in_ok-starts.ensures.departures;
    }

pub befores_of-requires : goal.befores_of-requires
befores_of-requires c =
    let T = c.args.table.now in
    let stand = all_stand T c.args.lines c.in_ok-places.places.items (lines_divide T c.args.lines c.requires) c.in_ok-places.ensures.places in
    λ t inside. subst (λ ps. StandsAt c.args.lines t (get_or ps t (0, 0))) (sym c.as_slice-2.ensures.value)
    (stand t (omega (arith, inside, ap length c.as_slice-2.ensures.value, c.in_ok-places.ensures.length, c.trip_count.ensures)))

pub berths_of-requires : goal.berths_of-requires
berths_of-requires c = omega (arith, line_total c.args.table.now c.args.lines c.requires, c.soundness.ensures.trips)
