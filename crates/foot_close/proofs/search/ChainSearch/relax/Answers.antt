use Rattle.std.proofs.Common.{◌∙◌, ◌∷◌, [], ◌++◌, ◌+◌, ap, sym, length, arith}
use Rattle.foot_close.specs.Searching.{SearchData}
use Rattle.foot_close.proofs.Relaxing.{search_lowered, search_kept, covered_set}
use Rattle.foot_close.proofs.search.ChainSearch.relax.Goals as goal

pub returns-in_ok-push-2 : goal.returns-in_ok-push-2
returns-in_ok-push-2 c =
    search_lowered c.args.self.now c.self.inside.marks.items c.push.new.self.items c.push-then-is_less.new.self.items c.index-at.result c.index.result.now c.args.path c.args.secs (ap (λ (x : SearchData). x.marks) c.self.view_is) c.index-at.ensures
    (c.in_ok-push-2.ensures.items ∙ ap (λ ls. ls ++ record { stop = c.args.path.to; secs = c.args.secs + c.args.path.secs } ∷ []) (ap (λ (x : SearchData). x.waiting) c.self.view_is))
    c.requires.to c.requires.day c.requires.bounded c.requires.secs c.index.ensures (sym c.is_less.ensures ∙ c.if-is_less.true)

pub returns-else-is_less : goal.returns-else-is_less
returns-else-is_less c =
    search_kept c.args.self.now c.self.inside.marks.items c.index-at.result c.index.result.now c.args.path c.args.secs (ap (λ (x : SearchData). x.marks) c.self.view_is) c.index-at.ensures
    c.requires.to c.requires.bounded c.index.ensures (sym c.is_less.ensures ∙ c.if-is_less.false)

pub invariant_of-self-then-is_less : goal.invariant_of-self-then-is_less
invariant_of-self-then-is_less c =
    covered_set c.self.inside.marks.items c.self.inside.lowered.items c.push.new.self.items c.self.inside.waiting.items c.push-then-is_less.new.self.items c.index-at.result (record { stop = c.args.path.to; secs = c.args.secs + c.args.path.secs }) (c.args.secs + c.args.path.secs)
    c.self.invariant.0 c.self.invariant.1 c.index-at.ensures (omega (arith, c.requires.to, c.index-at.ensures, ap (λ (x : SearchData). length x.marks) c.self.view_is)) c.in_ok-push.ensures.items c.in_ok-push-2.ensures.items
