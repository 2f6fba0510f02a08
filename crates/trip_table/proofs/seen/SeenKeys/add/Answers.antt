use Rattle.std.proofs.Common.{◌∙◌, ap, not}
use Rattle.trip_table.proofs.SeenLemmas.{found_by_order, one_key_more}
use Rattle.trip_table.proofs.seen.SeenKeys.add.Goals as goal

pub returns-clause-fresh : goal.returns-clause-fresh
returns-clause-fresh c = rw (← c.self.view_is) (c.in_ok-fresh.ensures.added ∙ ap not (found_by_order c.args.key c.self.inside.keys.keys))

pub returns-clause-added : goal.returns-clause-added
returns-clause-added c = rw (← c.self.view_is) (one_key_more c.args.key c.self.inside.keys.keys c.insert.new.self.keys c.in_ok-fresh.ensures.updates.0)
