use Rattle.std.proofs.Common.{◌∙◌, sym, subst, ap, ◌+◌, ◌∷◌, w64}
use Rattle.std.specs.Int.{trailing_zeros}
use Rattle.gtfs_rows.specs.Records.{Record}
use Rattle.gtfs_rows.specs.PlainText.{record_of}
use Rattle.gtfs_rows.specs.Windows.{IsCutting, records_after}
use Rattle.gtfs_rows.proofs.WindowSteps.{cutting, window_passed, place_inside, start_within, comma_cut, byte_joined, line_cut}
use Rattle.gtfs_rows.proofs.plain_records.cut_window.Goals as goal
use Rattle.gtfs_rows.proofs.plain_records.cut_window.Goals.{then-byte-eq44+in_ok-add_field, else-byte-eq44+else-is_line_end}

pub loop-marks-init : goal.loop-marks-init
loop-marks-init c = cutting c.args.text.now (record_of c.args.fields.now.items) c.args.start.now c.args.at _ c.requires.within c.requires.same c.marks_of-marks.ensures

pub bounds-text-place : goal.bounds-text-place
bounds-text-place c = place_inside c.args.text.now (record_of c.loop-marks.fields.items) c.loop-marks.start c.args.at c.loop-marks.marks c.requires.full c.loop-marks.invariant c.loop-marks-test.true

pub slice_bounds-add_field-count : goal.slice_bounds-add_field-count
slice_bounds-add_field-count c = start_within c.args.text.now (record_of c.loop-marks.fields.items) c.loop-marks.start c.args.at c.loop-marks.marks c.requires.full c.loop-marks.invariant c.loop-marks-test.true

pub slice_bounds-add_field-start : goal.slice_bounds-add_field-start
slice_bounds-add_field-start c = start_within c.args.text.now (record_of c.loop-marks.fields.items) c.loop-marks.start c.args.at c.loop-marks.marks c.requires.full c.loop-marks.invariant c.loop-marks-test.true

pub slice_bounds-add_field-count-then-is_line_end : goal.slice_bounds-add_field-count-then-is_line_end
slice_bounds-add_field-count-then-is_line_end c = start_within c.args.text.now (record_of c.loop-marks.fields.items) c.loop-marks.start c.args.at c.loop-marks.marks c.requires.full c.loop-marks.invariant c.loop-marks-test.true

pub slice_bounds-add_field-start-then-is_line_end : goal.slice_bounds-add_field-start-then-is_line_end
slice_bounds-add_field-start-then-is_line_end c = start_within c.args.text.now (record_of c.loop-marks.fields.items) c.loop-marks.start c.args.at c.loop-marks.marks c.requires.full c.loop-marks.invariant c.loop-marks-test.true

pub returns-then-is_line_end-clause-cut : goal.returns-then-is_line_end-clause-cut
returns-then-is_line_end-clause-cut c =
    let text = c.args.text.now in
    line_cut text (record_of c.loop-marks.fields.items) c.loop-marks.start c.args.at c.loop-marks.marks c.requires.full c.loop-marks.invariant c.loop-marks-test.true c.if-byte-eq44.false (sym c.is_line_end.ensures ∙ c.if-is_line_end.true)
    ∙ ap (λ (fields : Record). fields ∷ records_after text (c.args.at + trailing_zeros w64 c.loop-marks.marks + 1)) (sym c.in_ok-add_field-2.ensures)

pub loop-marks-smaller : goal.loop-marks-smaller
loop-marks-smaller c = c.without_first-marks.ensures.fewer

pub loop-marks-preserved : goal.loop-marks-preserved
loop-marks-preserved c =
    let text = c.args.text.now in
    let fields = record_of c.loop-marks.fields.items in
    let start = c.loop-marks.start in
    let at = c.args.at in
    let m = c.loop-marks.marks in
    let n = c.without_first-marks.result in
    let cut = c.loop-marks.invariant in
    let some = c.loop-marks-test.true in
    let fewer = c.without_first-marks.ensures.fewer in
    elim c.if-byte-eq44.branch [
      | then-byte-eq44+in_ok-add_field w ↦
          rw (w.fields-is, w.start-is)
          (subst (λ (rows : Record). IsCutting text rows (at + trailing_zeros w64 m + 1) at n) (sym w.in_ok-add_field.ensures)
          (comma_cut text fields start at m c.requires.full cut some n fewer c.without_first-marks.ensures.this c.without_first-marks.ensures.others c.requires.unquoted w.if-byte-eq44.true))
      | else-byte-eq44+else-is_line_end w ↦
          rw (w.fields-is, w.start-is)
          (byte_joined text fields start at m c.requires.full cut some n fewer c.without_first-marks.ensures.this c.without_first-marks.ensures.others w.if-byte-eq44.false (sym w.is_line_end.ensures ∙ w.if-is_line_end.false))
    ]

pub returns-clause-same : goal.returns-clause-same
returns-clause-same c = (window_passed c.args.text.now (record_of c.loop-marks.fields.items) c.loop-marks.start c.args.at c.loop-marks.marks c.requires.full c.loop-marks.invariant c.loop-marks-test.false).1
