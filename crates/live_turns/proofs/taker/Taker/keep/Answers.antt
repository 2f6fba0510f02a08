use Rattle.std.proofs.Common.{◌≡◌, ◌∙◌, ◌+◌, ◌++◌, ◌∷◌, [], ap, length, arith}
use Rattle.std.proofs.lemmas.Grind.{common_steps}
use Rattle.live_turns.specs.Handed.{HandedData}
use Rattle.live_turns.proofs.Nexts.{next_is}
use Rattle.live_turns.proofs.taker.Taker.keep.Goals as goal

pub returns : goal.returns
returns g c =
    let known = c.self.inside.known in
    let front = c.handed.inside.front in
    let number = ap (λ (h : HandedData _). h.number) c.handed.view_is in
    let count = ap length c.self.view_is in
    let next : length front.list ≡ length known.list + 1 = grind (arith, common_steps, c.handed.invariant.counts, number, count, c.requires) in
    next_is known front c.handed.inside.item c.compare.ensures next c.handed.invariant.ends ∙ ap (λ l. l ++ c.handed.inside.item ∷ []) c.self.view_is
