use Rattle.std.proofs.Common.{◌≡◌, ◌∷◌, ap, sym, subst, refl, length, rules, arith}
use Rattle.query_gate.specs.Dealing.{AreDealt}
use Rattle.query_gate.proofs.Dealt.{dealt_more}
use Rattle.query_gate.proofs.dealing.seat.Goals as goal

pub loop-desk-preserved : goal.loop-desk-preserved
loop-desk-preserved g c =
    let i = c.loop-desk.invariant in
    let e : c.loop-desk.desk-iterator.rest.items ≡ c.in-Some.desk ∷ c.next.new.self.rest.items = search rules in
    let one = ap length e in
    let dealt = dealt_more 0 c.loop-desk.from c.loop-desk.places.items _ i.0 refl c.end_of-to.ensures.low in (
      subst (λ l. AreDealt 0 l c.end_of-to.result) (sym c.in-Ok.ensures.items) dealt,
      c.end_of-to.ensures.high,
      omega (arith, i.2, one),
      c.end_of-to.ensures.last,
      let n = c.in-Ok.ensures.len in let k = i.4 in omega (arith, n, k, i.2, one),
    )
