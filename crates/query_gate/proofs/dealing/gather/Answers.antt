use Rattle.std.proofs.Common.{◌≡◌, ◌∷◌, ap, sym, subst, length, take, rules, arith}
use Rattle.query_gate.specs.Dealing.{AreAnswered, AreReplies, HasAnswered, run_of}
use Rattle.query_gate.proofs.Dealt.{run_more}
use Rattle.query_gate.proofs.dealing.gather.Goals as goal

pub loop-place-preserved : goal.loop-place-preserved
loop-place-preserved g c =
    let i = c.loop-place.invariant in
    let right = g.O.Office.right c.args._office.now in
    let requests = c.args.requests.now in
    let p = c.in-Some.place in
    let e : c.loop-place.place-iterator.rest.items ≡ p ∷ c.next.new.self.rest.items = search rules in
    let h = subst (λ l. AreAnswered right requests c.loop-place.at l (length requests)) e i.0 in
    let own = subst (λ o. HasAnswered right (run_of requests c.loop-place.at p.to) o) c.in-Some-replies.is h.3 in
    let more = run_more right requests c.loop-place.at p.to c.loop-place.all.items c.in-Some-replies.replies.items h.1 h.2 i.1 own in (
      h.4,
      subst (λ l. AreReplies right (take p.to requests) l) (sym c.in_ok-add.ensures) more,
      let one = ap length e in let n = c.in-Ok.ensures.len in let k = i.2 in omega (arith, n, k, one),
    )
