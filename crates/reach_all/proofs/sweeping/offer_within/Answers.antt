use Rattle.std.proofs.Common.{sym, subst}
use Rattle.reach_all.specs.TravelTimes.{IsWithin}
use Rattle.reach_all.proofs.Ridden.{ridden_more, ridden_same}
use Rattle.reach_all.proofs.sweeping.offer_within.Goals as goal

pub returns-then-is_past : goal.returns-then-is_past
returns-then-is_past g c =
    ridden_same (g.S.Scan.net c.args.scan.now).table c.args.query.now c.args.rides c.args.desk.now c.args.n c.args.arrivals.now c.requires.ridden
    (λ few. c.if-is_past.ensures (subst (λ r. IsWithin c.args.rides r) (sym c.requires.round) few))

pub returns : goal.returns
returns g c =
    ridden_more (g.S.Scan.net c.args.scan.now).table c.args.query.now c.args.rides c.args.desk.now c.args.n c.args.arrivals.now c.requires.ridden c.offer_segment.new.arrivals c.requires.reached
    (subst (λ r. IsWithin c.args.rides r) c.requires.round c.if-is_past.ensures) c.in_ok-offer_segment.ensures
