use Rattle.std.proofs.Common.{◌≡◌, ◌∙◌, ◌+◌, Vec, Global, ap, sym, arith, [], length, map, get_or, not, false}
use Rattle.std.proofs.lemmas.List.{get_or-map, length-map, length_push, nil_from_length}
use Rattle.late_edit.specs.declared.doubts.Doubt.{Doubt}
use Rattle.late_edit.proofs.NearStops.{all_plain, none_left, plain_more}
use Rattle.late_edit.proofs.near.doubtful_stops.Goals as goal

pub loop-row-preserved : goal.loop-row-preserved
loop-row-preserved c =
    let rows = c.args.doubts.now in
    let n = c.loop-row.row-index in
    let x = c.row-item.result in
    let inv = c.loop-row.invariant in
    record {
      long = ap length c.in_ok-push.ensures.items ∙ (length_push c.loop-row.marks.items (not c.is_empty.result) ∙ ap (λ m. m + 1) inv.long);
      plain = plain_more (map (λ (row : Vec Doubt Global). row.items) rows) c.loop-row.marks.items c.push.new.self.items n (not c.is_empty.result) inv.long c.in_ok-push.ensures.items inv.plain
          (λ off. get_or-map (λ (row : Vec Doubt Global). row.items) rows n x [] c.loop-row-test.true
          ∙ (ap (λ (row : Vec Doubt Global). row.items) (sym c.row-item.is)
          ∙ (sym c.as_slice.ensures.value ∙ nil_from_length c.as_slice.result.now (none_left (length c.as_slice.result.now) c.is_empty.result c.is_empty.ensures off))));
    }

pub returns : goal.returns
returns c =
    let rows = c.args.doubts.now in
    let inv = c.loop-row.invariant in
    let all : c.loop-row.row-index ≡ length (map (λ (row : Vec Doubt Global). row.items) c.args.doubts.now)
    = omega (arith, c.loop-row-test.false, c.loop-row.auto.row-index-end, length-map c.args.doubts.now (λ (row : Vec Doubt Global). row.items)) in
    record {
      long = inv.long ∙ all;
      plain = all_plain (map (λ (row : Vec Doubt Global). row.items) rows) c.loop-row.marks.items c.loop-row.row-index all inv.plain;
    }
