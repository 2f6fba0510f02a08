use Rattle.std.proofs.Common.{◌∙◌, sym, ap, ◌∷◌, ◌+◌, ◌-◌, length, take, drop, arith}
use Rattle.csv.specs.Machine.{next_record}
use Rattle.csv.specs.Reading.{default_config}
use Rattle.csv.specs.declared.parser.State.TheVariants as st
use Rattle.gtfs_rows.specs.Records.{Record}
use Rattle.gtfs_rows.specs.PlainText.{record_of, records_of}
use Rattle.gtfs_rows.proofs.PlainSteps.{joined, field_ended, line_ended, text_ended}
use Rattle.gtfs_rows.proofs.plain_records.cut_tail.Goals as goal
use Rattle.gtfs_rows.proofs.plain_records.cut_tail.Goals.{then-byte-eq44+in_ok-add_field, else-byte-eq44+else-is_line_end}

pub returns-then-is_line_end-clause-cut : goal.returns-then-is_line_end-clause-cut
returns-then-is_line_end-clause-cut c =
    let text = c.args.text.now in
    let at = c.loop-at.at in
    line_ended text (record_of c.loop-at.fields.items) c.loop-at.start at c.loop-at.invariant.same c.loop-at-test.true c.if-byte-eq44.false (sym c.is_line_end.ensures ∙ c.if-is_line_end.true)
    ∙ ap (λ (fields : Record). fields ∷ records_of (take (length text - (at + 1)) (drop (at + 1) text))) (sym c.in_ok-add_field-2.ensures)

pub loop-at-preserved : goal.loop-at-preserved
loop-at-preserved c =
    let text = c.args.text.now in
    let start = c.loop-at.start in
    let at = c.loop-at.at in
    let fields = record_of c.loop-at.fields.items in
    let within = c.loop-at.invariant.within in
    elim c.if-byte-eq44.branch [
      | then-byte-eq44+in_ok-add_field w ↦ record {
        within = rw w.start-is (omega arith);
        inside = omega arith;
        same = rw (w.fields-is, w.start-is)
            (field_ended text fields start at c.loop-at.invariant.same c.requires.unquoted c.loop-at-test.true w.if-byte-eq44.true
            ∙ ap (λ (rows : Record). next_record default_config st.InField rows (take (at + 1 - (at + 1)) (drop (at + 1) text)) (drop (at + 1) text)) (sym w.in_ok-add_field.ensures));
      }
      | else-byte-eq44+else-is_line_end w ↦ record {
        within = rw w.start-is (omega (arith, within));
        inside = omega arith;
        same = rw (w.fields-is, w.start-is)
            (joined text fields start at c.loop-at.invariant.same within c.loop-at-test.true w.if-byte-eq44.false (sym w.is_line_end.ensures ∙ w.if-is_line_end.false));
      }
    ]

pub returns-clause-cut : goal.returns-clause-cut
returns-clause-cut c =
    let text = c.args.text.now in
    text_ended text (record_of c.loop-at.fields.items) c.loop-at.start c.loop-at.at c.loop-at.invariant.same (omega (arith, c.loop-at.invariant.inside, c.loop-at-test.false))
    ∙ ap (λ (fields : Record). fields ∷ records_of (take (length text - length text) (drop (length text) text))) (sym c.in_ok-add_field-3.ensures)
