use Rattle.std.proofs.Common.{◌≡◌, ◌∙◌, ◌<◌, ◌++◌, ◌∷◌, [], sym, ap, not, arith, length}
use Rattle.std.specs.List.{concat}
use Rattle.tb_base.specs.TimetableData.{events_of}
use Rattle.line_split.specs.Marks.{is_line_marked, is_marked}
use Rattle.line_split.proofs.PartedLines.{fails_more, passes_more, trips_more}
use Rattle.line_split.proofs.again.parted.Goals as goal
use Rattle.line_split.proofs.again.parted.Goals.{then-is_marked+in_ok-extend_from_slice, else-is_marked+in_ok-copied+in_ok-open_row}

pub loop-line-preserved : goal.loop-line-preserved
loop-line-preserved c =
    let T = c.args.before.now in
    let q = is_line_marked T c.args.marks.now in
    let lines = c.args.old.now.lines in
    let l = c.loop-line.line in
    let row = c.trips-row.result.now in
    let inv = c.loop-line.invariant in
    let is = c.trips-row.ensures in
    let inside : c.loop-line.line < length c.args.old.now.lines = omega (arith, c.count-line-end.ensures, c.loop-line-test.true) in
    let mark : c.is_marked.result ≡ is_line_marked c.args.before.now c.args.marks.now c.trips-row.result.now = c.is_marked.ensures ∙ ap (is_marked c.args.marks.now) (c.events_of.ensures ∙ ap (events_of T) c.last_trip.ensures) in
    elim c.if-is_marked.branch [
      | then-is_marked+in_ok-extend_from_slice w ↦ record {
        kept = w.kept-is ∙ inv.kept ∙ sym (fails_more (λ line. not (q line)) lines l row inside is (ap not (sym mark ∙ w.if-is_marked.true)));
        trips = ap (λ v. v.items) w.trips-is ∙ w.in_ok-extend_from_slice.ensures.items ∙ ap (λ ts. ts ++ row) inv.trips ∙ sym (trips_more q lines l row inside is (sym mark ∙ w.if-is_marked.true));
      }
      | else-is_marked+in_ok-copied+in_ok-open_row w ↦ record {
        kept = w.kept-is ∙ w.in_ok-open_row.ensures ∙ ap (λ r. c.loop-line.kept ++ r ∷ []) w.in_ok-copied.ensures ∙ ap (λ ls. ls ++ row ∷ []) inv.kept
            ∙ sym (passes_more (λ line. not (q line)) lines l row inside is (ap not (sym mark ∙ w.if-is_marked.false)));
        trips = ap (λ v. v.items) w.trips-is ∙ inv.trips ∙ sym (ap concat (fails_more q lines l row inside is (sym mark ∙ w.if-is_marked.false)));
      }
    ]
