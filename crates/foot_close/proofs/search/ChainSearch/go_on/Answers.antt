use Rattle.std.proofs.Common.{◌∙◌, ap, sym}
use Rattle.foot_close.specs.Searching.{mark, is_held}
use Rattle.foot_close.proofs.SearchLaws.{held_is}
use Rattle.foot_close.proofs.search.ChainSearch.go_on.Goals as goal

pub relax_from-requires-clause-secs : goal.relax_from-requires-clause-secs
relax_from-requires-clause-secs c =
    let secs = c.args.reached.secs in
    c.requires.bounded c.args.reached.stop secs (held_is secs (mark c.args.self.now.marks c.args.reached.stop) (ap (is_held secs) (sym c.mark.ensures) ∙ (sym c.is_held.ensures ∙ c.if-is_held.true)))
