use Rattle.std.proofs.Common.{◌≡◌, ◌∙◌, ℕ, List, [], ◌∷◌, replicate, sym, ap, subst, Option, None}
use Rattle.tb_base.specs.Network.{NetData}
use Rattle.tb_base.specs.declared.query.Value.{Value}
use Rattle.segment_queue.specs.Queue.{DeskData}
use Rattle.earliest_query.specs.Sweeping.{IsSweptSoFar}
use Rattle.earliest_query.proofs.SweptBegin.{swept_begun}
use Rattle.earliest_query.proofs.sweep.Sweep.begin.Goals as goal

pub returns-clause-begun : goal.returns-clause-begun
returns-clause-begun g c =
    let N : NetData = g.S.Scan.net c.args.scan.now in
    let D : DeskData = c.begin.new.self in
    let none : Option ℕ = None in
    let levels : ◌≡◌ {A = List (List (Option ℕ))} c.begin-2.new.self _ = c.in_ok-begin.ensures.begun ∙ ap (λ n. replicate n none ∷ []) c.shape-shape.ensures.trips in
    subst (λ (vs : List Value). IsSweptSoFar N c.args.query.now D (record { levels = c.begin-2.new.self; values = vs })) (sym c.clear.ensures.items)
    (subst (λ ls. IsSweptSoFar N c.args.query.now D (record { levels = ls; values = [] })) (sym levels)
    (swept_begun N c.soundness.ensures.sound c.soundness.ensures.divided c.args.query.now D (ap (λ (d : DeskData). d.segments) c.begin.ensures.emptied)))
