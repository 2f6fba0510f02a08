use Rattle.std.proofs.Common.{◌≡◌, ◌∙◌, ◌||◌, ℕ, List, ap, subst}
use Rattle.std.specs.Prelude.{bytes_eq}
use Rattle.std.specs.List.{list_any}
use Rattle.std.proofs.lemmas.List.{take_all}
use Rattle.late_edit.specs.Finding.{HaveNames}
use Rattle.late_edit.specs.Updates.{trip_of}
use Rattle.late_edit.proofs.Finds.{names_more}
use Rattle.late_edit.proofs.named_trips.names_of.Goals as goal

pub loop-update-preserved : goal.loop-update-preserved
loop-update-preserved c =
    let u = c.update-item.result in
    let name : c.bytes.result.now ≡ trip_of c.update-item.result = c.bytes.ensures ∙ c.trip.ensures in
    names_more c.args.updates.now c.loop-update.update-index u c.loop-update.names c.add.new.self c.loop-update-test.true c.update-item.is
    (λ (n : List ℕ). c.in_ok-_fresh.ensures.members n ∙ ap (λ (m : List ℕ). list_any (bytes_eq n) c.loop-update.names || bytes_eq n m) name)
    c.loop-update.invariant

pub returns : goal.returns
returns c =
    subst (λ us. HaveNames us c.loop-update.names) (take_all c.loop-update.update-index c.args.updates.now c.loop-update-test.false) c.loop-update.invariant
