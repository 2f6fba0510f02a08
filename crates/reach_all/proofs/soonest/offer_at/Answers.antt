use Rattle.std.proofs.Common.{◌≡◌, ℕ, ℤ, List, Option, None, Some, get_or, map, of_z, set, to_z, w32, rules}
use Rattle.std.proofs.lemmas.Int.{to_z-of_z}
use Rattle.plain_rounds.proofs.Least.{get_or-inside}
use Rattle.reach_all.specs.Arriving.{lone, with_value}
use Rattle.reach_all.specs.Reach.{values_at}
use Rattle.reach_all.proofs.Offering.{row_changed}
use Rattle.reach_all.proofs.soonest.offer_at.Goals as goal

pub returns : goal.returns
returns c =
    let times : List (Option ℤ) = c.args.times.now in
    let stop : ℕ = c.args.stop in
    let time : ℤ = c.sooner-time.result in
    let before : Option ℤ = get_or times stop None in
    let fits : to_z w32 (of_z w32 time) ≡ time = to_z-of_z w32 time (search rules) in
    let changed : map lone (set times stop (Some time)) ≡ set (map lone times) stop (with_value (values_at (map lone times) stop) c.args.value.now)
    = row_changed lone (λ vs. with_value vs c.args.value.now) times stop before (Some time) c.requires.stop (get_or-inside times stop None before c.requires.stop) c.sooner-time.ensures in
    cc
