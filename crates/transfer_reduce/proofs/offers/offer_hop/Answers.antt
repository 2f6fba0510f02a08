use Rattle.std.proofs.Common.{rules, ◌%◌, ◌<◌, ◌≤◌, subst, inl, length, get_or}
use Rattle.std.proofs.lemmas.List.Elements.{All-set}
use Rattle.tb_base.specs.TimetableData.{TimetableData, events_of}
use Rattle.transfer_reduce.specs.Reached.{AreReached}
use Rattle.transfer_reduce.specs.Tried.{IsTried}
use Rattle.transfer_reduce.proofs.Reaching.{hop_reached, hop_shown, hop_sooner, tried_kept}
use Rattle.transfer_reduce.proofs.offers.offer_hop.Goals as goal

pub returns-clause-sooner : goal.returns-clause-sooner
returns-clause-sooner g c =
    let T = c.args.table.now in
    let old = c.args.labels.now.times in
    let r = c.args.row.now in
    let end = c.untried_end-end.result in
    let place : c.index-place.result % 1024 < length c.args.tried.now = search rules in
    let one = c.requires.tried (c.index-place.result % 1024) c.index-tried-place.result place in
    let inside = subst (λ (U : TimetableData). end ≤ length (events_of U r.to_trip)) c.requires.table c.untried_end-end.ensures.inside in
    let rest = subst (λ (U : TimetableData). IsTried U old (get_or c.args.tried.now (c.index-place.result % 1024) c.index-tried-place.result) → AreReached U old r.to_trip end (length (events_of U r.to_trip))) c.requires.table (c.untried_end-end.ensures.rest old) one in
    let first = c.first_sooner-first.ensures in
    hop_sooner T c.soundness.ensures r old c.lower_all.new.labels.times c.first_sooner-first.result end first.within inside rest first.late first.after c.lower_all.ensures.times first.alights first.sooner

pub returns-clause-shown : goal.returns-clause-shown
returns-clause-shown g c =
    let T = c.args.table.now in
    let old = c.args.labels.now.times in
    let r = c.args.row.now in
    let end = c.untried_end-end.result in
    let place : c.index-place.result % 1024 < length c.args.tried.now = search rules in
    let one = c.requires.tried (c.index-place.result % 1024) c.index-tried-place.result place in
    let inside = subst (λ (U : TimetableData). end ≤ length (events_of U r.to_trip)) c.requires.table c.untried_end-end.ensures.inside in
    let rest = subst (λ (U : TimetableData). IsTried U old (get_or c.args.tried.now (c.index-place.result % 1024) c.index-tried-place.result) → AreReached U old r.to_trip end (length (events_of U r.to_trip))) c.requires.table (c.untried_end-end.ensures.rest old) one in
    let first = c.first_sooner-first.ensures in
    hop_shown T c.soundness.ensures r old c.lower_all.new.labels.times c.first_sooner-first.result end first.within inside rest first.late first.after c.lower_all.ensures.times

pub returns-clause-tried : goal.returns-clause-tried
returns-clause-tried g c =
    let T = c.args.table.now in
    let old = c.args.labels.now.times in
    let new = c.lower_all.new.labels.times in
    let r = c.args.row.now in
    let end = c.untried_end-end.result in
    let tried = c.args.tried.now in
    let place : c.index-place.result % 1024 < length c.args.tried.now = search rules in
    let one = c.requires.tried (c.index-place.result % 1024) c.index-tried-place.result place in
    let inside = subst (λ (U : TimetableData). end ≤ length (events_of U r.to_trip)) c.requires.table c.untried_end-end.ensures.inside in
    let rest = subst (λ (U : TimetableData). IsTried U old (get_or c.args.tried.now (c.index-place.result % 1024) c.index-tried-place.result) → AreReached U old r.to_trip end (length (events_of U r.to_trip))) c.requires.table (c.untried_end-end.ensures.rest old) one in
    let first = c.first_sooner-first.ensures in
    All-set (IsTried T new) tried (c.index-place.result % 1024) (record { trip = r.to_trip; at = r.to_at })
    (hop_reached T c.soundness.ensures r old new c.first_sooner-first.result end first.within inside rest first.late first.after c.lower_all.ensures.times)
    (tried_kept T old new (λ p x h. (c.lower_all.ensures.times p x).1 (inl h)) tried c.requires.tried)
