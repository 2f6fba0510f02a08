use Rattle.std.proofs.Common.{◌≡◌, ◌∙◌, ap, arith, sym, ◌++◌, flat_map, get_or, length, take, true, false}
use Rattle.std.specs.Prelude.{bytes_eq}
use Rattle.std.proofs.lemmas.Grind.{common_steps}
use Rattle.std.proofs.lemmas.List.{get_or_default}
use Rattle.footpaths.proofs.StopPlaces.{kind_same}
use Rattle.gtfs_rows.specs.Told.{most_kept}
use Rattle.router_cli.specs.Warnings.{of_kind, warning_line}
use Rattle.trip_table.specs.declared.warning.Warning.TheVariants as warning
use Rattle.router_cli.proofs.WarnedTexts.{counted_more, kept_more}
use Rattle.router_cli.proofs.warned.add_kind.Goals.{then-eq+in_ok-add_kept, else-eq}
use Rattle.router_cli.proofs.warned.add_kind.Goals as goal

pub loop-warning-preserved : goal.loop-warning-preserved
loop-warning-preserved c =
    let name = c.args.name.now in
    let ws = c.args.warnings.now in
    let i = c.loop-warning.warning-index in
    let within = c.loop-warning-test.true in
    let before = c.loop-warning.invariant in
    let w = get_or ws i (warning.UnknownService 0) in
    let at : w ≡ get_or ws i w = get_or_default ws i (warning.UnknownService 0) w within in
    let kind : of_kind name w ≡ c.eq.result = ap (bytes_eq name) (sym c.name_of.ensures) ∙ sym c.eq.ensures in
    elim c.if-eq.branch [
      | then-eq+in_ok-add_kept b ↦ record {
        few = (let n = b.count-is in let few = before.few in grind (arith, common_steps, n, few));
        counted = counted_more (of_kind name) ws i c.loop-warning.count c.if-eq.count w within at (kind ∙ b.if-eq.true) before.counted b.count-is;
        told = kept_more (warning_line c.args.json) (of_kind name) most_kept ws i c.loop-warning.count w c.args.text.now c.loop-warning.text c.if-eq.text within at (kind ∙ b.if-eq.true) before.counted before.told
            (b.text-is ∙ b.in_ok-add_kept.ensures);
      }
      | else-eq b ↦ record {
        few = (let n = b.count-is in let few = before.few in grind (arith, common_steps, n, few));
        counted = b.count-is ∙ before.counted ∙ ap length (sym (kind_same (of_kind name) ws i w within at (kind ∙ b.if-eq.false)));
        told = b.text-is ∙ before.told
            ∙ ap (λ ys. c.args.text.now ++ flat_map (warning_line c.args.json) (take most_kept ys)) (sym (kind_same (of_kind name) ws i w within at (kind ∙ b.if-eq.false)));
      }
    ]
