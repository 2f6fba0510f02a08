use Rattle.std.proofs.Common.{◌≡◌, ◌∙◌, Some, ℤ, ◌-ℤ◌, ◌≤ℤ◌, ap, sym, subst, to_z, of_z, w32, rules}
use Rattle.std.specs.Prelude.{FitsSigned}
use Rattle.std.proofs.lemmas.Int.{to_z-of_z}
use Rattle.reach_all.specs.Arriving.{lone}
use Rattle.reach_all.specs.Ranks.{IsTimeOf}
use Rattle.reach_all.proofs.BestTimes.{lone_later, lone_time}
use Rattle.reach_all.proofs.sweeping.time_after.Goals as goal

pub later_by-requires-clause-later : goal.later_by-requires-clause-later
later_by-requires-clause-later c =
    let arrive : ℤ = c.in-Some.arrive in
    let fits : FitsSigned w32 arrive = search rules in
    subst (λ a. to_z w32 (of_z w32 c.args.leave) ≤ℤ a) (sym (to_z-of_z w32 arrive fits))
    (subst (λ l. l ≤ℤ arrive) (sym (to_z-of_z w32 c.args.leave c.ranges.leave)) (lone_later c.args.arrival arrive c.args.leave c.in-Some.is c.requires.later))

pub returns-in-Some : goal.returns-in-Some
returns-in-Some c =
    let arrive : ℤ = c.in-Some.arrive in
    let leave : ℤ = c.args.leave in
    let time : ℤ = c.later_by.result in
    let fits : FitsSigned w32 arrive = search rules in
    let is : time ≡ arrive -ℤ leave = c.later_by.ensures ∙ ap (λ a. a -ℤ to_z w32 (of_z w32 leave)) (to_z-of_z w32 arrive fits) ∙ ap (λ l. arrive -ℤ l) (to_z-of_z w32 leave c.ranges.leave) in
    subst (λ t. IsTimeOf (lone c.args.arrival) leave (Some t)) (sym (to_z-of_z w32 time (search rules))) (lone_time c.args.arrival arrive leave time c.in-Some.is is)
