use Rattle.std.proofs.Common.{◌≡◌, ◌∙◌, ℕ, length, get_or, sym, ap, subst, arith}
use Rattle.std.specs.Prelude.{Contains}
use Rattle.tb_base.specs.declared.query.Value.{Value}
use Rattle.earliest_query.proofs.Following.{contains_read, get_or-inside}
use Rattle.reach_all.specs.Arriving.{IsOfferedFrom}
use Rattle.reach_all.proofs.Spread.{starts_all, starts_more, starts_none}
use Rattle.reach_all.proofs.walking.walk_all.Goals as goal

pub loop-origin-init : goal.loop-origin-init
loop-origin-init g c = starts_none (g.S.Scan.net c.args.scan.now).table c.args.query.now.from c.args.query.now.leave c.args.arrivals.now c.requires.nothing

pub loop-origin-preserved : goal.loop-origin-preserved
loop-origin-preserved g c =
    let from = c.args.query.now.from in
    let items = c.origins-origin-items.result.now in
    let same : items ≡ from = c.origins-origin-items.ensures in
    let k : ℕ = c.loop-origin.origin-index in
    let o : ℕ = c.origin-item.result in
    starts_more (g.S.Scan.net c.args.scan.now).table from c.args.query.now.leave k o c.loop-origin.arrivals c.offer_from.new.arrivals c.loop-origin.invariant
    (subst (λ xs. Contains xs o) same (contains_read items k o c.loop-origin-test.true c.origin-item.is)) (λ d. subst (λ xs. get_or xs k d ≡ o) same (get_or-inside items k d o c.loop-origin-test.true ∙ sym c.origin-item.is)) (subst (λ (v : Value). IsOfferedFrom (g.S.Scan.net c.args.scan.now).table o v c.loop-origin.arrivals c.offer_from.new.arrivals) c.start-start.ensures c.in_ok-offer_from.ensures)

pub returns : goal.returns
returns g c = starts_all (g.S.Scan.net c.args.scan.now).table c.args.query.now.from c.args.query.now.leave c.loop-origin.origin-index c.loop-origin.arrivals c.loop-origin.invariant (omega (arith, c.loop-origin-test.false, ap length c.origins-origin-items.ensures))
