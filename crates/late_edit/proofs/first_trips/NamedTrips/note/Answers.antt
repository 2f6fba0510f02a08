use Rattle.late_edit.proofs.Finds.{name_noted}
use Rattle.late_edit.proofs.first_trips.NamedTrips.note.Goals as goal

pub returns : goal.returns
returns c = λ n.
    rw (← c.self.view_is) (name_noted (λ v. v.items) n c.args.name.now c.in_ok-copy.copy c.args.trip c.self.inside.trips.entries c.insert.new.self.entries c.in_ok-insert.ensures.entries c.in_ok-copy.ensures.items)
