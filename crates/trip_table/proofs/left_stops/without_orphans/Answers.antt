use Rattle.std.proofs.Common.{◌≡◌, ◌∙◌, ap, sym, false, arith}
use Rattle.std.specs.Prelude.{bytes_eq}
use Rattle.std.specs.List.{list_any}
use Rattle.std.proofs.lemmas.Grind.{common_steps}
use Rattle.tb_base.proofs.Lists.{list_any-over_map}
use Rattle.footpaths.specs.Stops.{stop_id}
use Rattle.trip_table.specs.Turns.{is_there}
use Rattle.trip_table.proofs.TurnRows.{few_there, none_lacks}
use Rattle.trip_table.proofs.left_stops.without_orphans.Goals as goal

pub lacks_any-requires : goal.lacks_any-requires
lacks_any-requires c id =
    let known = rw c.as_slice.ensures.value at c.in_ok-known.ensures in
    rw c.as_slice-2.ensures.value (ap (list_any (bytes_eq id)) known ∙ list_any-over_map (bytes_eq id) stop_id c.args.rows.items)

pub returns-then-not-lacks_any-clause-kept : goal.returns-then-not-lacks_any-clause-kept
returns-then-not-lacks_any-clause-kept c =
    let lacks = rw c.as_slice-2.ensures.value at c.lacks_any.ensures in
    let none : c.lacks_any.result ≡ false = grind (arith, common_steps) in
    none_lacks c.args.told.now.items c.args.rows.items (sym lacks ∙ none)

pub returns-clause-few : goal.returns-clause-few
returns-clause-few c = few_there _ (is_there c.args.rows.items c.in_ok-turn.turn) c.args.rows.items c.rows_there.result c.rows_there.ensures
