use Rattle.std.proofs.Common.{refl, inr}
use Rattle.std.proofs.lemmas.Result.{IfErr-at_err, IfErr-weaker, on_ok_weaker}
use Rattle.live_turns.specs.Live.{HasFailedBehind}
use Rattle.live_turns.specs.LiveTexts.{news_shown}
use Rattle.live_turns.proofs.LivedRuns.{failed_behind, failed_first, lived_behind, no_feed, read_behind, told_first_is}
use Rattle.live_turns.proofs.live.lived.live_behind.Goals as goal

pub returns-in-Ok-clause-whole : goal.returns-in-Ok-clause-whole
returns-in-Ok-clause-whole g c =
    let x = c.args.news.now in
    on_ok_weaker c.run_sides.result (lived_behind (g.F.Folder.files c.args.folder.now) c.args.building.now.options c.args.mode c.args.words.now x (g.S.Source.left c.args.source.now)
    (g.O.Sink.written c.args.sink.now) (g.O.Sink.written c.write_news.new.sink) (news_shown c.args.mode.json x) refl c.in-Ok.ensures.written c.args.tells c.requires.news
    (g.O.Sink.written c.run_sides.new.sink) (g.F.Folder.faults c.args.folder.now) (g.F.Folder.faults c.run_sides.new.folder)) c.run_sides.ensures.whole

pub returns-in-Ok-clause-failed : goal.returns-in-Ok-clause-failed
returns-in-Ok-clause-failed g c =
    let x = c.args.news.now in
    IfErr-weaker c.run_sides.result _ _ (failed_behind (g.F.Folder.files c.args.folder.now) c.args.building.now.options c.args.mode c.args.words.now x (g.S.Source.left c.args.source.now)
    (g.O.Sink.written c.args.sink.now) (g.O.Sink.written c.write_news.new.sink) (news_shown c.args.mode.json x) refl c.in-Ok.ensures.written c.args.tells c.requires.news
    (g.O.Sink.written c.run_sides.new.sink) (g.S.Source.left c.run_sides.new.source)) c.run_sides.ensures.failed

pub returns-in-Ok-clause-later : goal.returns-in-Ok-clause-later
returns-in-Ok-clause-later g c e =
    let files = g.F.Folder.files c.args.folder.now in
    let options = c.args.building.now.options in
    let words = c.args.words.now in
    let left = g.S.Source.left c.args.source.now in
    let rest = g.S.Source.left c.run_sides.new.source in
    let mid = g.O.Sink.written c.write_news.new.sink in
    let now = g.O.Sink.written c.run_sides.new.sink in
    let x = c.args.news.now in
    let told = c.args.tells in
    read_behind files options c.args.mode words x left (g.O.Sink.written c.args.sink.now) mid (news_shown c.args.mode.json x) refl c.in-Ok.ensures.written told c.requires.news now rest
    (IfErr-at_err (λ y. HasFailedBehind files options c.args.mode words told left rest mid now y) e c.run_sides.ensures.failed)

pub returns-in-Err-clause-failed : goal.returns-in-Err-clause-failed
returns-in-Err-clause-failed g c =
    let left = g.S.Source.left c.args.source.now in
    failed_first (g.F.Folder.files c.args.folder.now) c.args.building.now.options c.args.mode c.args.words.now c.args.publisher c.args.day c.args.items c.args.tells c.args.side c.args.news.now
    left left (g.O.Sink.written c.args.sink.now) (g.O.Sink.written c.write_news.new.sink) c.in-Err.fault c.requires.begins c.requires.news refl c.in-Err.ensures.failed

pub returns-in-Ok-clause-behind : goal.returns-in-Ok-clause-behind
returns-in-Ok-clause-behind g c f e =
    let files = g.F.Folder.files c.args.folder.now in
    let options = c.args.building.now.options in
    let left = g.S.Source.left c.args.source.now in
    let rest = g.S.Source.left c.run_sides.new.source in
    let mid = g.O.Sink.written c.write_news.new.sink in
    let now = g.O.Sink.written c.run_sides.new.sink in
    IfErr-at_err (λ y. HasFailedBehind files options c.args.mode c.args.words.now c.args.tells left rest mid now y) e c.run_sides.ensures.failed

pub returns-in-Ok-clause-folder : goal.returns-in-Ok-clause-folder
returns-in-Ok-clause-folder g c =
    let x = c.args.news.now in
    inr (told_first_is (g.F.Folder.files c.args.folder.now) c.args.building.now.options c.args.mode c.args.words.now x (g.S.Source.left c.args.source.now)
    (g.O.Sink.written c.args.sink.now) (g.O.Sink.written c.write_news.new.sink) (news_shown c.args.mode.json x) refl c.in-Ok.ensures.written c.args.tells
    (g.F.Folder.faults c.args.folder.now) (g.F.Folder.faults c.run_sides.new.folder) (g.S.Source.left c.run_sides.new.source) (g.O.Sink.written c.run_sides.new.sink)
    c.run_sides.result c.requires.told c.run_sides.ensures.whole c.run_sides.ensures.failed)

pub returns-in-Err-clause-behind : goal.returns-in-Err-clause-behind
returns-in-Err-clause-behind g c f e =
    no_feed (news_shown c.args.mode.json c.args.news.now) (g.O.Sink.written c.args.sink.now) (g.O.Sink.written c.write_news.new.sink) c.in-Err.fault f c.in-Err.ensures.failed (cc e)
