use Rattle.std.proofs.Common.{rules}
use Rattle.std.proofs.lemmas.Fn.{always_returns_same}
use Rattle.journey_read.specs.Calls.{time_by}
use Rattle.journey_read.proofs.CallLists.{put_in_order}
use Rattle.journey_read.proofs.CallSearch.{precedes, precedes-ranks}
use Rattle.journey_read.proofs.calls.calls_in_order.Goals as goal

pub returns : goal.returns
returns c =
    put_in_order (time_by c.args.which) c.args.events.now c.in_ok-calls.calls.items c.sort_unstable_by.new.self.items c.in_ok-calls.ensures c.sort_unstable_by.ensures.permutation
    (c.sort_unstable_by.ensures.sorted precedes precedes-ranks (always_returns_same _ _ _ (λ a r f h. search rules)))
