use Rattle.std.proofs.Common.{rules, ◌≡◌, ◌∷◌, arith}
use Rattle.trip_table.proofs.TurnRows.{row_at, stays, goes}
use Rattle.trip_table.proofs.left_stops.rows_there.Goals.{then-turn-turns+in_ok-push, else-turn-turns}
use Rattle.trip_table.proofs.left_stops.rows_there.Goals as goal

pub loop-row-preserved : goal.loop-row-preserved
loop-row-preserved c =
    let inv = c.loop-row.invariant in
    let row = c.in-Some.row in
    let rest = c.next.new.self.rest.items in
    let e : c.loop-row.row-iterator.rest.items ≡ row ∷ rest = search rules in
    let at = row_at c.args.rows.items c.loop-row.row-iterator.rest.items rest c.loop-row.place row inv.rest e in
    let within = at.0 in
    record {
      within = omega (arith, within);
      rest = at.2;
      kept = elim c.if-turn-turns.branch [
        | then-turn-turns+in_ok-push w ↦ rw w.kept-is (stays c.args.rows.items c.loop-row.kept.items w.push.new.self.items c.args.turns.now c.args.turn c.loop-row.place row c.requires at.0 at.1 w.if-turn-turns.true inv.kept w.in_ok-push.ensures.items)
        | else-turn-turns w ↦ rw w.kept-is (goes c.args.rows.items c.loop-row.kept.items c.args.turns.now c.args.turn c.loop-row.place row c.requires at.0 at.1 w.if-turn-turns.false inv.kept)
      ];
    }

pub loop-row-preserved-then-if-drop : goal.loop-row-preserved-then-if-drop
loop-row-preserved-then-if-drop c =
    let inv = c.loop-row.invariant in
    let row = c.in-Some.row in
    let rest = c.next.new.self.rest.items in
    let e : c.loop-row.row-iterator.rest.items ≡ row ∷ rest = search rules in
    let at = row_at c.args.rows.items c.loop-row.row-iterator.rest.items rest c.loop-row.place row inv.rest e in
    let within = at.0 in
    record {
      within = omega (arith, within);
      rest = at.2;
      kept = elim c.if-turn-turns.branch [
        | then-turn-turns+in_ok-push w ↦ rw w.kept-is (stays c.args.rows.items c.loop-row.kept.items w.push.new.self.items c.args.turns.now c.args.turn c.loop-row.place row c.requires at.0 at.1 w.if-turn-turns.true inv.kept w.in_ok-push.ensures.items)
        | else-turn-turns w ↦ rw w.kept-is (goes c.args.rows.items c.loop-row.kept.items c.args.turns.now c.args.turn c.loop-row.place row c.requires at.0 at.1 w.if-turn-turns.false inv.kept)
      ];
    }
