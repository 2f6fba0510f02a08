use Rattle.std.proofs.Common.{◌+◌, ◌∙◌, Option, ℕ, sym, subst}
use Rattle.journey_read.proofs.RideSteps.{IsLookedFor, none_found, not_begun, not_ended, ride_begins, ride_ends}
use Rattle.journey_read.proofs.rides.Ends.among.Goals as goal
use Rattle.journey_read.proofs.rides.Ends.among.Goals.{in-Some+else-arrives, in-None+then-departs, in-None+else-departs}

pub loop-at-preserved : goal.loop-at-preserved
loop-at-preserved c =
    let ends = c.args.self.now in
    let events = c.args.events.now in
    let at = c.loop-at.at in
    let event = c.index-events-at.result in
    let found = λ (begin : Option ℕ). IsLookedFor ends events begin (at + 1) in
    let before = λ (begin : Option ℕ). IsLookedFor ends events begin at in
    elim c.match-begin.branch [
      | in-Some+else-arrives w ↦
          subst found (sym w.begin-is) (not_ended ends events w.in-Some.board at event c.loop-at-test.true c.index-events-at.is
          (subst before w.in-Some.is c.loop-at.invariant) (sym w.arrives.ensures ∙ w.if-arrives.false))
      | in-None+then-departs w ↦
          subst found (sym w.begin-is) (ride_begins ends events at event c.loop-at-test.true c.index-events-at.is
          (subst before w.in-None.is c.loop-at.invariant) (sym w.departs.ensures ∙ w.if-departs.true))
      | in-None+else-departs w ↦
          subst found (sym (w.begin-is ∙ w.in-None.is)) (not_begun ends events at event c.loop-at-test.true c.index-events-at.is
          (subst before w.in-None.is c.loop-at.invariant) (sym w.departs.ensures ∙ w.if-departs.false))
    ]

pub returns-then-arrives : goal.returns-then-arrives
returns-then-arrives c =
    let ends = c.args.self.now in
    let events = c.args.events.now in
    let at = c.loop-at.at in
    ride_ends ends events c.in-Some.board at c.index-events-at.result c.loop-at-test.true c.index-events-at.is
    (subst (λ (begin : Option ℕ). IsLookedFor ends events begin at) c.in-Some.is c.loop-at.invariant) (sym c.arrives.ensures ∙ c.if-arrives.true)

pub returns : goal.returns
returns c = none_found c.args.self.now c.args.events.now c.loop-at.begin c.loop-at.at c.loop-at-test.false c.loop-at.invariant
