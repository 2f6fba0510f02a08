use Rattle.std.proofs.Common.{◌∙◌, sym}
use Rattle.late_edit.proofs.Finds.{names_alone}
use Rattle.late_edit.proofs.first_trips.NamedTrips.find.Goals as goal

pub returns : goal.returns
returns c = rw (← c.self.view_is) (c.copied.ensures ∙ (c.get.ensures.value ∙ sym (names_alone (λ v. v.items) c.args.name.now c.self.inside.trips.entries)))
