use Rattle.std.proofs.Common.{◌∙◌, ap, arith, rules}
use Rattle.std.specs.Int.{w32}
use Rattle.std.specs.Prelude.{FitsSigned}
use Rattle.std.proofs.lemmas.Int.{ints, to_z-of_z}
use Rattle.tb_base.specs.declared.table.Event.{Event}
use Rattle.transfer_make.proofs.events.add_event.Goals as goal

pub add_alighting-requires-clause-from : goal.add_alighting-requires-clause-from
add_alighting-requires-clause-from c =
    let e = c.event-event.ensures in
    let fits : FitsSigned w32 c.event-event.result.arr = search rules in
    let same = to_z-of_z w32 c.event-event.result.arr fits in
    let sound = e.sound in
    record {
      trip = c.requires.trip;
      event = c.requires.at;
      later = grind arith;
      arr = same ∙ ap (λ (x : Event). x.arr) e.event;
      earliest = rw same sound.earliest;
      latest = rw same (omega (arith, ints, sound.waits, sound.latest));
      placed = c.of-line.ensures;
    }
