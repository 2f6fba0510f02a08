use Rattle.std.proofs.Common.{◌∙◌, ◌<◌, ◌++◌, sym, ap, fold, filter, length, subst, []}
use Rattle.std.specs.Prelude.{All}
use Rattle.std.specs.List.{concat}
use Rattle.std.specs.List.Sorted.{IsPermutation}
use Rattle.tb_base.specs.TimetableData.{TimetableData}
use Rattle.tb_base.specs.Lines.{AreLines, place_trip}
use Rattle.tb_base.proofs.Members.{All-from_Member}
use Rattle.line_split.specs.Marks.{MarksChanged, is_line_marked}
use Rattle.line_split.specs.Patterns.{HasWholePatterns}
use Rattle.line_split.proofs.SplitAgain.{sorted_trip, split_again_lines, whole_patterns}
use Rattle.line_split.proofs.again.split_again.Goals as goal

pub patterns_among-requires-clause-trips : goal.patterns_among-requires-clause-trips
patterns_among-requires-clause-trips c =
    let T = c.args.before.now in
    let U = c.args.table.now in
    let marks = c.as_slice.result.now in
    let sorted = c.sort_trips.new.trips.items in
    let are : AreLines c.args.before.now c.args.old.now.lines = subst (λ (X : TimetableData). AreLines X c.args.old.now.lines) c.requires.old c.soundness.ensures.lines in
    let shuffled : IsPermutation (concat (filter (is_line_marked c.args.before.now c.as_slice.result.now) c.args.old.now.lines)) c.sort_trips.new.trips.items = subst (λ ts. IsPermutation ts c.sort_trips.new.trips.items) c.in_ok-kept.ensures.trips c.sort_trips.ensures.permutation in
    subst (All (λ t. t < length U.trips)) (sym c.as_slice-2.ensures.value)
    (All-from_Member (λ t. t < length U.trips) sorted (λ t m. (sorted_trip T U c.args.changed.now marks c.requires.trips c.requires.same (subst (MarksChanged T U c.args.changed.now) (sym c.as_slice.ensures.value) c.in_ok-marks.ensures) c.args.old.now.lines are sorted shuffled t m).0))

pub patterns_among-requires-clause-whole : goal.patterns_among-requires-clause-whole
patterns_among-requires-clause-whole c =
    let T = c.args.before.now in
    let U = c.args.table.now in
    let marks = c.as_slice.result.now in
    let sorted = c.sort_trips.new.trips.items in
    let are : AreLines c.args.before.now c.args.old.now.lines = subst (λ (X : TimetableData). AreLines X c.args.old.now.lines) c.requires.old c.soundness.ensures.lines in
    let shuffled : IsPermutation (concat (filter (is_line_marked c.args.before.now c.as_slice.result.now) c.args.old.now.lines)) c.sort_trips.new.trips.items = subst (λ ts. IsPermutation ts c.sort_trips.new.trips.items) c.in_ok-kept.ensures.trips c.sort_trips.ensures.permutation in
    subst (HasWholePatterns U) (sym c.as_slice-2.ensures.value) (whole_patterns T U c.args.changed.now marks c.requires.trips c.requires.same (subst (MarksChanged T U c.args.changed.now) (sym c.as_slice.ensures.value) c.in_ok-marks.ensures) c.args.old.now.lines are sorted shuffled)

pub place_trips-requires-clause-order : goal.place_trips-requires-clause-order
place_trips-requires-clause-order c =
    let T = c.args.before.now in
    let U = c.args.table.now in
    let marks = c.as_slice.result.now in
    let sorted = c.sort_trips.new.trips.items in
    let are : AreLines c.args.before.now c.args.old.now.lines = subst (λ (X : TimetableData). AreLines X c.args.old.now.lines) c.requires.old c.soundness.ensures.lines in
    let shuffled : IsPermutation (concat (filter (is_line_marked c.args.before.now c.as_slice.result.now) c.args.old.now.lines)) c.sort_trips.new.trips.items = subst (λ ts. IsPermutation ts c.sort_trips.new.trips.items) c.in_ok-kept.ensures.trips c.sort_trips.ensures.permutation in
    subst (All (λ t. t < length U.trips)) (sym c.as_slice-4.ensures.value)
    (All-from_Member (λ t. t < length U.trips) sorted (λ t m. (sorted_trip T U c.args.changed.now marks c.requires.trips c.requires.same (subst (MarksChanged T U c.args.changed.now) (sym c.as_slice.ensures.value) c.in_ok-marks.ensures) c.args.old.now.lines are sorted shuffled t m).0))

pub laid_out-requires : goal.laid_out-requires
laid_out-requires c =
    let T = c.args.before.now in
    let U = c.args.table.now in
    let marks = c.as_slice.result.now in
    let sorted = c.sort_trips.new.trips.items in
    let are : AreLines c.args.before.now c.args.old.now.lines = subst (λ (X : TimetableData). AreLines X c.args.old.now.lines) c.requires.old c.soundness.ensures.lines in
    let shuffled : IsPermutation (concat (filter (is_line_marked c.args.before.now c.as_slice.result.now) c.args.old.now.lines)) c.sort_trips.new.trips.items = subst (λ ts. IsPermutation ts c.sort_trips.new.trips.items) c.in_ok-kept.ensures.trips c.sort_trips.ensures.permutation in
    let placed = c.in_ok-placed.ensures ∙ ap (fold (place_trip U) []) c.as_slice-4.ensures.value in
    split_again_lines T U c.args.changed.now marks c.requires.trips c.requires.same (subst (MarksChanged T U c.args.changed.now) (sym c.as_slice.ensures.value) c.in_ok-marks.ensures) c.args.old.now.lines are sorted shuffled c.sort_trips.ensures.sorted c.in_ok-lines.lines
    (subst (λ ls. IsPermutation ls c.in_ok-lines.lines) (λ i. c.in_ok-kept.ensures.kept i ++ placed i) c.in_ok-lines.ensures.permutation)
    c.in_ok-lines.ensures.sorted
