use Rattle.std.proofs.Common.{◌≡◌, ◌++◌, map}
use Rattle.router_cli.specs.Serving.{item_of}
use Rattle.router_cli.proofs.serving.items_of.Given as goal

abbrev pub invariant-loop-planned : goal.invariant-loop-planned
invariant-loop-planned l =
    l.items.items ++ map item_of l.planned-iterator.rest.items ≡ map item_of l.fn.plan.items
