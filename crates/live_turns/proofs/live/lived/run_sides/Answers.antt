use denote.Param.Send.{sendable}
use Rattle.std.proofs.Common.{◌∙◌, refl, sym, subst, rules}
use Rattle.std.specs.Prelude.{IfErr, OnOk}
use Rattle.std.proofs.lemmas.Result.{IfErr-weaker, on_ok_weaker}
use Rattle.live_turns.specs.Live.{ArePublished, HasFailedBehind, ReadFaultsRose}
use Rattle.live_turns.specs.LivePublisher.{ArePublishedSoFar, items_taken}
use Rattle.live_turns.specs.LiveSides.{FailsToTellRest, HasCutLines, HasRunLines, HaveMet, TellsRest}
use Rattle.live_turns.proofs.LiveSent.{left_send, left_sync, publisher_send}
use Rattle.live_turns.proofs.LivedRuns.{all_left, cut_lines, failed_as, failed_rest, met_so_far, on_all_left, short_run, so_far_left, whole_rest}
use Rattle.live_turns.proofs.live.lived.run_sides.Goals as goal

pub both_sides-published-requires-send-P : goal.both_sides-published-requires-send-P
both_sides-published-requires-send-P g c κs within = search (publisher_send, sendable) depth 6 fits 100000

pub both_sides-published-requires-send-E : goal.both_sides-published-requires-send-E
both_sides-published-requires-send-E g c κs within = search (left_send, sendable) depth 6 fits 100000

pub both_sides-published-requires-sync-E : goal.both_sides-published-requires-sync-E
both_sides-published-requires-sync-E g c κs within = search (left_sync, sendable) depth 6 fits 100000

pub returns-then-all-clause-whole : goal.returns-then-all-clause-whole
returns-then-all-clause-whole g c =
    let both = c.both_sides-published in
    let files = g.F.Folder.files c.args.folder.now in
    let options = c.args.building.now.options in
    let mode = c.args.mode in
    let words = c.args.words.now in
    let side = c.args.side in
    let left = g.S.Source.left c.args.source.now in
    let before = g.O.Sink.written c.args.sink.now in
    let mid = g.O.Sink.written both.new.sink in
    let end = both.result.1 in
    let es = c.last_of_all-last.result.0 in
    let all = c.last_of_all-last.result.1 in
    let items = both.new.items in
    let tells = both.new.news in
    let met = subst (λ l. HaveMet es end.seat items end.given l end.news) c.end-told.ensures c.settle.ensures.met in
    let r : HasRunLines side.mode left before mid side end.seat end.given end.news = search rules in
    let p = all_left es all both.result.0 (λ l. ArePublished files options c.args.building.now.mirrored (items_taken words items) tells l) c.last_of_all-last.ensures both.ensures.published c.if-all.true in
    let published = subst (λ m. ArePublished files options m (items_taken words items) tells es) c.requires.mirrored p in
    let start = g.F.Folder.faults c.args.folder.now in
    let stop = g.F.Folder.faults both.new.folder in
    let now = g.O.Sink.written c.write_rest-written.new.sink in
    let rose = on_all_left es all both.result.0 (ReadFaultsRose start stop tells) c.last_of_all-last.ensures both.ensures.rose c.if-all.true in
    let told = subst (λ l. OnOk c.write_rest-written.result (TellsRest mode.json items end.given l end.news mid now)) (c.settle.ensures.told ∙ c.end-told.ensures)
    (subst (λ l. OnOk c.write_rest-written.result (TellsRest mode.json items l c.settle.new.told end.news mid now)) c.settle.ensures.given c.write_rest-written.ensures.written) in
    on_ok_weaker c.write_rest-written.result (whole_rest files options mode words c.args.publisher c.args.day c.args.items c.args.tells side c.requires.begins left before mid end.seat
    (c.turns_are_one_run.ensures.whole mode) end.given end.news r now start stop es items tells c.requires.some met.starts published rose) told

pub returns-then-all-clause-failed : goal.returns-then-all-clause-failed
returns-then-all-clause-failed g c =
    let both = c.both_sides-published in
    let files = g.F.Folder.files c.args.folder.now in
    let options = c.args.building.now.options in
    let mode = c.args.mode in
    let words = c.args.words.now in
    let side = c.args.side in
    let left = g.S.Source.left c.args.source.now in
    let before = g.O.Sink.written c.args.sink.now in
    let mid = g.O.Sink.written both.new.sink in
    let end = both.result.1 in
    let es = c.last_of_all-last.result.0 in
    let all = c.last_of_all-last.result.1 in
    let items = both.new.items in
    let tells = both.new.news in
    let met = subst (λ l. HaveMet es end.seat items end.given l end.news) c.end-told.ensures c.settle.ensures.met in
    let r : HasRunLines side.mode left before mid side end.seat end.given end.news = search rules in
    let p = all_left es all both.result.0 (λ l. ArePublished files options c.args.building.now.mirrored (items_taken words items) tells l) c.last_of_all-last.ensures both.ensures.published c.if-all.true in
    let published = subst (λ m. ArePublished files options m (items_taken words items) tells es) c.requires.mirrored p in
    let q = so_far_left es all both.result.0 files options c.args.building.now.mirrored (items_taken words items) tells c.last_of_all-last.ensures both.ensures.published both.ensures.so_far in
    let so_far = met_so_far files options mode.mirrored words items end.given tells end.news es end.seat met (subst (λ m. ArePublishedSoFar files options m (items_taken words items) tells es) c.requires.mirrored q) in
    let now = g.O.Sink.written c.write_rest-written.new.sink in
    let fails = subst (λ l. IfErr c.write_rest-written.result (FailsToTellRest mode.json items end.given l end.news mid now)) (c.settle.ensures.told ∙ c.end-told.ensures)
    (subst (λ l. IfErr c.write_rest-written.result (FailsToTellRest mode.json items l c.settle.new.told end.news mid now)) c.settle.ensures.given c.write_rest-written.ensures.failed) in
    IfErr-weaker c.write_rest-written.result _ _ (failed_rest files options mode words c.args.publisher c.args.day c.args.items c.args.tells side c.requires.begins left before mid end.seat
    (c.turns_are_one_run.ensures.whole mode) end.given end.news r (g.S.Source.left both.new.source) now es items tells c.requires.some met.starts published so_far) fails

pub returns-else-all-clause-failed : goal.returns-else-all-clause-failed
returns-else-all-clause-failed g c =
    let both = c.both_sides-published in
    let files = g.F.Folder.files c.args.folder.now in
    let options = c.args.building.now.options in
    let mode = c.args.mode in
    let words = c.args.words.now in
    let side = c.args.side in
    let left = g.S.Source.left c.args.source.now in
    let before = g.O.Sink.written c.args.sink.now in
    let mid = g.O.Sink.written both.new.sink in
    let end = both.result.1 in
    let es = c.last_of_all-last.result.0 in
    let all = c.last_of_all-last.result.1 in
    let items = both.new.items in
    let tells = both.new.news in
    let met = subst (λ l. HaveMet es end.seat items end.given l end.news) c.end-told.ensures c.settle.ensures.met in
    let r : HasRunLines side.mode left before mid side end.seat end.given end.news = search rules in
    let q = so_far_left es all both.result.0 files options c.args.building.now.mirrored (items_taken words items) tells c.last_of_all-last.ensures both.ensures.published both.ensures.so_far in
    let so_far = met_so_far files options mode.mirrored words items end.given tells end.news es end.seat met (subst (λ m. ArePublishedSoFar files options m (items_taken words items) tells es) c.requires.mirrored q) in
    short_run files options mode words c.args.publisher c.args.day c.args.items c.args.tells side c.requires.begins left before mid end.seat
    (c.turns_are_one_run.ensures.whole mode) end.given end.news r (g.S.Source.left both.new.source) mid es c.requires.some met.starts so_far refl

pub returns-in-Err-clause-failed : goal.returns-in-Err-clause-failed
returns-in-Err-clause-failed g c =
    let both = c.both_sides-published in
    let files = g.F.Folder.files c.args.folder.now in
    let options = c.args.building.now.options in
    let mode = c.args.mode in
    let words = c.args.words.now in
    let side = c.args.side in
    let left = g.S.Source.left c.args.source.now in
    let before = g.O.Sink.written c.args.sink.now in
    let mid = g.O.Sink.written both.new.sink in
    let end = both.result.1 in
    let es = c.last_of_all-last.result.0 in
    let all = c.last_of_all-last.result.1 in
    let items = both.new.items in
    let tells = both.new.news in
    let met = subst (λ l. HaveMet es end.seat items end.given l end.news) c.end-told.ensures c.settle.ensures.met in
    let q = so_far_left es all both.result.0 files options c.args.building.now.mirrored (items_taken words items) tells c.last_of_all-last.ensures both.ensures.published both.ensures.so_far in
    let so_far = met_so_far files options mode.mirrored words items end.given tells end.news es end.seat met (subst (λ m. ArePublishedSoFar files options m (items_taken words items) tells es) c.requires.mirrored q) in
    let rest = g.S.Source.left both.new.source in
    let cause = c.in-Err.cause in
    let h : HasCutLines cause side.mode left rest before mid side end.seat end.given end.news = search rules in
    subst (λ f. HasFailedBehind files options mode words c.args.tells left rest before mid f) (sym c.told_as.ensures)
    (failed_as files options mode words c.args.tells left rest before mid cause
    (cut_lines files options mode words c.args.publisher c.args.day c.args.items c.args.tells side c.requires.begins left before mid end.seat (c.turns_are_one_run.ensures.cut mode) rest cause end.given end.news h c.requires.some es met.starts so_far))
