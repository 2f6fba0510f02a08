use Rattle.std.proofs.Common.{◌≡◌, ◌∙◌, ap, arith, sym, length, false, true}
use Rattle.std.proofs.lemmas.Grind.{common_steps}
use Rattle.late_edit.specs.Amending.{edition_lines}
use Rattle.late_edit.specs.Touched.{is_touched}
use Rattle.late_edit.proofs.KeptRows.{row_touched, row_untouched, same_row}
use Rattle.late_edit.proofs.rows.trip_row.Goals as goal

pub returns-then-touched : goal.returns-then-touched
returns-then-touched c =
    let L = edition_lines c.args.old.now in
    let M = c.args.lines.now in
    let touched : is_touched L M c.args.trip ≡ true = sym c.requires.touched ∙ c.if-touched.true in
    let many : c.len-kept.result ≡ length c.in_ok-row.row.items = grind (arith, common_steps) in
    record {
      labels = c.kept_row.ensures.labels;
      row = row_touched L M c.args.table.now c.args.trip c.in_ok-row.row.items c.requires.lines touched c.in_ok-row.ensures.row;
      kept = many ∙ ap length c.in_ok-row.ensures.row;
    }

pub returns : goal.returns
returns c =
    let L = edition_lines c.args.old.now in
    let M = c.args.lines.now in
    let untouched : is_touched L M c.args.trip ≡ false = sym c.requires.touched ∙ c.if-touched.false in
    record {
      labels = c.requires.labels;
      row = c.new.ensures.items ∙ row_untouched L M c.args.trip untouched;
      kept = c.kept_count.ensures ∙ ap length (same_row L M c.args.table.now c.args.trip c.requires.lines c.requires.updated (λ updated i. c.untouched_kept.ensures L M c.args.trip i updated untouched));
    }
