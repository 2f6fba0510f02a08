use Rattle.std.proofs.Common.{arith}
use Rattle.foot_close.proofs.Edges.{relaxed_leaving, row_sound}
use Rattle.foot_close.proofs.search.ChainSearch.relax_from.Goals as goal

pub relax_all-requires-clause-to : goal.relax_all-requires-clause-to
relax_all-requires-clause-to c = λ k d h.
    (let w = (row_sound c.args.paths.now c.args.from c.leaving.result.now c.requires.sound c.requires.from c.leaving.ensures k d h).to in omega (arith, w, c.in_ok-relax_own.ensures.many, c.requires.many))

pub relax_all-requires-clause-day : goal.relax_all-requires-clause-day
relax_all-requires-clause-day c = λ k d h. (row_sound c.args.paths.now c.args.from c.leaving.result.now c.requires.sound c.requires.from c.leaving.ensures k d h).secs

pub returns : goal.returns
returns c =
    relaxed_leaving c.args.paths.now c.args.from c.change_time.result c.leaving.result.now c.args.secs c.args.self.now c.relax_own.new.self c.relax_all.new.self c.change_time.ensures c.leaving.ensures
    c.in_ok-relax_own.ensures c.in_ok-relax_all.ensures
