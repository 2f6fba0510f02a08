use Rattle.std.proofs.Common.{List, ap, subst}
use mathlib.Core.List.{IsPrefix}
use Rattle.history.specs.declared.entry.Entry.{Entry}
use Rattle.history.proofs.Logs.{compared}
use Rattle.history.proofs.front.Front.compare.Goals as goal

pub returns : goal.returns
returns g c =
    let both = c.learn.new.self.log in
    let this : IsPrefix c.self.inside.seen.log both = subst (λ (l : List (Entry g.row.E.Denot)). IsPrefix l both) (ap (λ s. s.log) c.again-both.ensures) c.learn.ensures.2 in
    rw (← c.self.view_is, ← c.other.view_is) (compared c.self.inside.seen.log c.other.inside.seen.log both this c.learn.ensures.3 c.self.invariant.1 c.other.invariant.1)
