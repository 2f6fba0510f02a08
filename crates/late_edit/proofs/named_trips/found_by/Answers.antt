use Rattle.std.proofs.Common.{◌≡◌, ◌∙◌, ◌++◌, ◌∷◌, [], ap, sym, get_or, map, take}
use Rattle.std.proofs.lemmas.List.{map-append, take_more}
use Rattle.late_edit.specs.Amended.{trip_named}
use Rattle.late_edit.specs.Finding.{trip_found}
use Rattle.late_edit.proofs.Finds.{found_named}
use Rattle.late_edit.proofs.named_trips.found_by.Goals as goal

pub loop-update-preserved : goal.loop-update-preserved
loop-update-preserved c =
    let T = c.args.table.now in
    let us = c.args.updates.now in
    let k = c.loop-update.update-index in
    let u = c.update-item.result in
    let F = c.in_ok-first.first in
    let found : c.find.result ≡ trip_named c.args.table.now.trips c.update-item.result
    = c.find.ensures ∙ ((λ i. trip_found F (c.day.ensures i) ((c.bytes.ensures ∙ c.trip.ensures) i))
    ∙ found_named F c.args.names.now T.trips us k u c.in_ok-first.ensures c.requires c.loop-update-test.true c.update-item.is) in
    c.in_ok-push.ensures.items
    ∙ ((λ i. c.loop-update.invariant i ++ (found ∙ ap (trip_named T.trips) c.update-item.is) i ∷ [])
    ∙ (sym (map-append (trip_named T.trips) (take k us) (get_or us k u ∷ [])) ∙ ap (map (trip_named T.trips)) (sym (take_more us k u c.loop-update-test.true))))
