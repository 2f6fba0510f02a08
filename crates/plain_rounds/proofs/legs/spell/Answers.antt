use Rattle.std.proofs.Common.{◌≤◌, ◌++◌, length, arith, ap, sym, ◌∙◌, map}
use Rattle.std.proofs.lemmas.List.{drop_all}
use Rattle.plain_rounds.specs.Rounds.{ride_of}
use Rattle.plain_rounds.proofs.LegLemmas.{legs_from, legs_from-legs_of}
use Rattle.plain_rounds.proofs.legs.spell.Goals as goal

pub returns : goal.returns
returns c =
    let past : length c.args.rides.now ≤ c.loop-ride.ride-index = omega arith in
    c.in_ok-push_walk.ensures
    ∙ ap (λ rides. c.loop-ride.legs.items ++ legs_from c.args.table.now c.loop-ride.at (map ride_of rides) c.args.target) (sym (drop_all c.loop-ride.ride-index c.args.rides.now past))
    ∙ c.loop-ride.invariant.legs
    ∙ legs_from-legs_of c.args.table.now c.args.origin (map ride_of c.args.rides.now) c.args.target
