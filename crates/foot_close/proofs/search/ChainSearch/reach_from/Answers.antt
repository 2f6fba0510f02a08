use Rattle.std.proofs.Common.{◌∙◌, length, ap}
use Rattle.foot_close.specs.Searching.{mark, reached_of}
use Rattle.foot_close.proofs.ReachedLaws.{reached_closure}
use Rattle.foot_close.proofs.search.ChainSearch.reach_from.Goals as goal

pub returns-clause-reached : goal.returns-clause-reached
returns-clause-reached c =
    c.in_ok-reached.ensures ∙ ap (λ ms. reached_of (length ms) (mark ms)) c.sort.ensures.marks
    ∙ reached_closure c.args.paths.now c.args.from c.run.new.self.marks c.requires.sound c.in_ok-run.ensures.many c.in_ok-run.ensures.shortest
