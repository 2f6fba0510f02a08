use Rattle.std.proofs.Common.{◌∙◌, suc, ◌-◌, List, length, take, drop, refl, ap, sym, arith}
use Rattle.tb_base.specs.declared.transfer.Hop.{Hop}
use Rattle.transfer_pack.specs.Packed.{PackedHops, begin_of}
use Rattle.transfer_pack.proofs.Stretches.{IsOver, over_seen}
use Rattle.transfer_pack.proofs.set.Set.hops_over.Goals as goal

pub run-requires-clause-from : goal.run-requires-clause-from
run-requires-clause-from c =
    let o : IsOver c.args.self.now c.args.trip c.args.first c.args.last = over_seen _ _ c.args.trip c.args.first c.args.last c.self.view_is c.self.invariant.0 refl c.self.invariant.1 c.requires.trip c.requires.order c.requires.last in
    omega (arith, o.order, c.begin_of-from.ensures, c.end_of-to.ensures)

pub run-requires-clause-to : goal.run-requires-clause-to
run-requires-clause-to c =
    let o : IsOver c.args.self.now c.args.trip c.args.first c.args.last = over_seen _ _ c.args.trip c.args.first c.args.last c.self.view_is c.self.invariant.0 refl c.self.invariant.1 c.requires.trip c.requires.order c.requires.last in
    omega (arith, o.within, c.end_of-to.ensures, ap (λ (S : PackedHops). length S.hops) c.self.view_is)

pub returns : goal.returns
returns c =
    let o : IsOver c.args.self.now c.args.trip c.args.first c.args.last = over_seen _ _ c.args.trip c.args.first c.args.last c.self.view_is c.self.invariant.0 refl c.self.invariant.1 c.requires.trip c.requires.order c.requires.last in
    c.run.ensures
    ∙ ap (λ n. take (n - c.begin_of-from.result) (drop c.begin_of-from.result c.self.inside.hops)) c.end_of-to.ensures
    ∙ ap (λ n. take (begin_of c.args.self.now c.args.trip (suc c.args.last) - n) (drop n c.self.inside.hops)) c.begin_of-from.ensures
    ∙ ap (λ (hops : List Hop). take (begin_of c.args.self.now c.args.trip (suc c.args.last) - begin_of c.args.self.now c.args.trip c.args.first) (drop (begin_of c.args.self.now c.args.trip c.args.first) hops)) (ap (λ (S : PackedHops). S.hops) c.self.view_is)
    ∙ sym o.is
