use Rattle.std.proofs.Common.{◌∙◌, sym, ap, arith}
use Rattle.tb_base.specs.TimetableData.{events_of}
use Rattle.tb_base.specs.Lines.{last_trip, may_follow}
use Rattle.line_split.specs.Buckets.{may_join_line}
use Rattle.line_split.proofs.FloorLemmas.{none_more}
use Rattle.line_split.proofs.place.first_of_word.Goals as goal
use Rattle.line_split.proofs.place.first_of_word.Goals.{else-out-place-eq0-via-then-out-place-eq0+else-may_follow, else-out-place-eq0-via-else-out-place-eq0}

pub loop-place-init : goal.loop-place-init
loop-place-init c = λ k low below inside. absurd (omega (arith, low, below))

pub returns-then-may_follow : goal.returns-then-may_follow
returns-then-may_follow c =
    let own = c.events_of.ensures ∙ ap (events_of c.args.table.now) (c.last_trip.ensures ∙ ap last_trip c.row.ensures) in
    (omega (arith, c.loop-place-test.true, c.min-to.ensures), sym (λ i. may_follow (own i) (c.events_of-events.ensures i)) ∙ sym c.may_follow.ensures ∙ c.if-may_follow.true, c.loop-place.invariant)

pub loop-place-preserved : goal.loop-place-preserved
loop-place-preserved c =
    let passes = may_join_line c.args.table.now c.args.lines.now c.args.trip in
    none_more passes c.args.among.now c.args.from c.loop-place.place c.loop-place.invariant
    (elim c.else-out-place-eq0.branch [
      | else-out-place-eq0-via-then-out-place-eq0+else-may_follow w ↦
          let own = w.events_of.ensures ∙ ap (events_of c.args.table.now) (w.last_trip.ensures ∙ ap last_trip w.row.ensures) in
          sym (λ i. may_follow (own i) (c.events_of-events.ensures i)) ∙ sym w.may_follow.ensures ∙ w.if-may_follow.false
      | else-out-place-eq0-via-else-out-place-eq0 w ↦
          c.requires.out c.loop-place.place (omega (arith, c.loop-place-test.true, c.min-to.ensures)) (omega (arith, c.requires.from.0, c.loop-place.auto.place, c.loop-place-test.true, c.min-to.ensures)) (omega (arith, w.if-out-place-eq0.false))
    ])

pub returns : goal.returns
returns c = λ k low below inside. c.loop-place.invariant k low (omega (arith, below, inside, c.loop-place-test.false, c.min-to.ensures)) inside
