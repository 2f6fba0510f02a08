use Rattle.std.proofs.Common.{rules, ◌≡◌, ◌∙◌, ap, sym, ℕ, ◌+◌, ◌<◌, List, [], ◌∷◌, ◌++◌, length, map, get_or, true, Option, arith}
use Rattle.std.specs.Prelude.{is_ok, sum_by}
use Rattle.std.proofs.lemmas.List.FromFn.{map-range_with_len_more}
use Rattle.tb_base.specs.declared.table.Path.{Path}
use Rattle.footpaths.specs.Footpaths.{numbers, secs_between}
use Rattle.footpaths.proofs.BuildLaws.{paths_before, row_more, too_many, all_rows}
use Rattle.footpaths.proofs.build.fill.Goals as goal

pub returns-then-total-gt2000000 : goal.returns-then-total-gt2000000
returns-then-total-gt2000000 c =
    let given = secs_between c.args.linked.now.stops c.args.options.now c.args.linked.now.links in
    let i = c.loop-stop.invariant in
    let stop = c.loop-stop.stop in
    let many : length c.fill_stop.new.rows ≡ c.args.count = c.in_ok-own.ensures.many ∙ i.many in
    let each : (p : ℕ) → p < c.args.count → get_or c.fill_stop.new.rows p [] ≡ paths_before given (stop + 1) p =
    (λ p h. row_more given p stop (get_or c.loop-stop.rows p []) (get_or c.fill_stop.new.rows p []) (i.rows p h) (c.in_ok-own.ensures.rows p (omega (arith, h, i.many)))) in
    let over : 2000000 < sum_by (λ row. length {A = Path} row) c.fill_stop.new.rows = omega (arith, c.total.ensures, c.if-total-gt2000000.true) in
    too_many given c.fill_stop.new.rows (stop + 1) c.args.count many (omega arith) each over

pub loop-stop-preserved : goal.loop-stop-preserved
loop-stop-preserved c =
    let given = secs_between c.args.linked.now.stops c.args.options.now c.args.linked.now.links in
    let i = c.loop-stop.invariant in
    let stop = c.loop-stop.stop in
    let own = λ (p : ℕ). given p p in
    let good : is_ok c.push.result ≡ true = search rules in
    let items = rw good at c.push.ensures.items in
    record {
      marks = c.in_ok-own.ensures.marks ∙ i.marks;
      many = c.in_ok-own.ensures.many ∙ i.many;
      clear = c.in_ok-own.ensures.clear;
      change = items ∙ ap (λ (ys : List (Option ℕ)). ys ++ c.in_ok-own.own ∷ []) i.change ∙ ap (λ (x : Option ℕ). map own (numbers stop) ++ x ∷ []) c.in_ok-own.ensures.own ∙ sym (map-range_with_len_more own 0 stop stop (omega arith));
      rows = λ p h. row_more given p stop (get_or c.loop-stop.rows p []) (get_or c.fill_stop.new.rows p []) (i.rows p h) (c.in_ok-own.ensures.rows p (omega (arith, h, i.many)));
      few = omega (arith, c.total.ensures, c.if-total-gt2000000.false);
    }

pub returns : goal.returns
returns c =
    let given = secs_between c.args.linked.now.stops c.args.options.now c.args.linked.now.links in
    let i = c.loop-stop.invariant in
    let all : c.loop-stop.stop ≡ c.args.count = omega (arith, c.loop-stop-test.false, c.loop-stop.auto.stop-end) in
    rw c.into_rows-paths.ensures (all_rows given c.loop-stop.change.items c.loop-stop.rows c.args.count i.many (rw all at i.change) (λ p h. rw all at (i.rows p h)) i.few)
