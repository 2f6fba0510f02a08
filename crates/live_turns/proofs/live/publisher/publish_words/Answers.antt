use Rattle.std.proofs.Common.{◌+◌, ◌∙◌, subst, take, get_or, arith}
use Rattle.std.proofs.lemmas.List.{take_more}
use Rattle.history.specs.Lists.{StartsWith}
use Rattle.live_turns.specs.LivePublisher.{StopsAt, TakesItem}
use Rattle.live_turns.proofs.LivePublisher.{published_more, rose_more, starts_take, stops_at}
use Rattle.live_turns.proofs.live.publisher.publish_words.Goals as goal

pub loop-i-preserved : goal.loop-i-preserved
loop-i-preserved g c =
    let inv = c.loop-i.invariant in
    let files = g.F.Folder.files c.args.folder.now in
    let now = g.F.Folder.files c.loop-i.folder in
    let options = c.args.building.options in
    let mirrored = c.args.building.mirrored in
    let start = g.F.Folder.faults c.args.folder.now in
    let before = g.F.Folder.faults c.loop-i.folder in
    let after = g.F.Folder.faults c.publish_item.new.folder in
    let words = c.args.words.now in
    let i = c.loop-i.i in
    let item = c.index-words-i.result in
    let es = g.P.Issues.list c.loop-i.publisher in
    let gone = g.P.Issues.list c.in-Ok.next in
    let day = c.loop-i.day in
    let next = c.publish_item.new.day in
    let taken = subst (λ x. TakesItem now options mirrored x before after es gone day next c.loop-i.news c.publish_item.new.news) c.index-words-i.is c.in-Ok.ensures.taken in (
      published_more files now options mirrored (take i words) (take (i + 1) words) (get_or words i item) before after es gone day next c.loop-i.news c.publish_item.new.news inv.1
          (take_more words i item c.loop-i-test.true) inv.0 taken,
      c.publish_item.ensures.files ∙ inv.1,
      (let a = inv.2 in let b = c.publish_item.ensures.later in omega arith),
      rose_more start before after now options mirrored (get_or words i item) es gone day next c.loop-i.news c.publish_item.new.news inv.2 c.publish_item.ensures.later inv.3 taken,
    )

pub returns-in-Err-clause-so_far : goal.returns-in-Err-clause-so_far
returns-in-Err-clause-so_far g c =
    let inv = c.loop-i.invariant in
    let now = g.F.Folder.files c.loop-i.folder in
    let options = c.args.building.options in
    let mirrored = c.args.building.mirrored in
    let words = c.args.words.now in
    let i = c.loop-i.i in
    let item = c.index-words-i.result in
    let es = g.P.Issues.list c.loop-i.publisher in
    let gone = g.E.Ends.list c.in-Err.left in
    let day = c.loop-i.day in
    let told = c.loop-i.news in
    let news = c.publish_item.new.news in
    let first = subst (λ l. StartsWith words l) (take_more words i item c.loop-i-test.true) (starts_take words (i + 1)) in
    let stops = subst (λ x. StopsAt now options mirrored x es gone day told news) c.index-words-i.is c.in-Err.ensures.refused in
    stops_at (g.F.Folder.files c.args.folder.now) now options mirrored words (take i words) (get_or words i item) es gone day told news inv.1 first inv.0 stops
