use Rattle.std.proofs.Common.{◌∙◌, ◌++◌, ◌∷◌, [], ap, arith, subst, sym}
use Rattle.history.specs.Lists.{StartsWith}
use Rattle.history.proofs.Lists.{starts_self}
use Rattle.live_turns.specs.LivePublisher.{ArePublishedSoFar, HavePublished, items_taken}
use Rattle.live_turns.proofs.LivePublisher.{handed_more, handed_some, published_all, published_more, rose_more, so_far_here, stops_at}
use Rattle.live_turns.proofs.live.publisher.publish_named.Goals as goal

pub loop-turn-preserved : goal.loop-turn-preserved
loop-turn-preserved g c =
    let inv = c.loop-turn.invariant in
    let files = g.F.Folder.files c.args.folder.now in
    let now = g.F.Folder.files c.loop-turn.folder in
    let options = c.args.building.options in
    let mirrored = c.args.building.mirrored in
    let before = g.F.Folder.faults c.loop-turn.folder in
    let after = g.F.Folder.faults c.publish_item.new.folder in
    let words = c.args.words.now in
    let old = c.loop-turn.items in
    let new = c.take.new.self in
    let item = c.in-Next.item in
    let es = g.P.Issues.list c.loop-turn.publisher in
    let gone = g.P.Issues.list c.in-Ok.next in
    let day = c.loop-turn.day in
    let next = c.publish_item.new.day in
    let told = c.loop-turn.news in
    let news = c.publish_item.new.news in
    let taken = c.in-Ok.ensures.taken in
    let later = c.publish_item.ensures.later in (
      published_more files now options mirrored (items_taken words old) (items_taken words new) item before after es gone day next told news inv.2 (handed_more words old new item inv.1 c.in-Next.ensures) inv.0 taken,
      handed_some old new item c.in-Next.ensures,
      c.publish_item.ensures.files ∙ inv.2,
      (let a = inv.3 in omega (arith, a, later)),
      λ start le h. rose_more start before after now options mirrored item es gone day next told news (let a = inv.3 in omega (arith, le, a)) later (inv.4 start le h) taken,
    )

pub loop-turn-preserved-in-Ok : goal.loop-turn-preserved-in-Ok
loop-turn-preserved-in-Ok g c =
    let inv = c.loop-turn.invariant in
    let files = g.F.Folder.files c.args.folder.now in
    let now = g.F.Folder.files c.loop-turn.folder in
    let options = c.args.building.options in
    let mirrored = c.args.building.mirrored in
    let before = g.F.Folder.faults c.loop-turn.folder in
    let after = g.F.Folder.faults c.publish_item.new.folder in
    let words = c.args.words.now in
    let old = c.loop-turn.items in
    let new = c.take.new.self in
    let item = c.in-Next.item in
    let es = g.P.Issues.list c.loop-turn.publisher in
    let gone = g.P.Issues.list c.in-Ok.next in
    let day = c.loop-turn.day in
    let next = c.publish_item.new.day in
    let told = c.loop-turn.news in
    let news = c.publish_item.new.news in
    let taken = c.in-Ok.ensures.taken in
    let later = c.publish_item.ensures.later in (
      published_more files now options mirrored (items_taken words old) (items_taken words new) item before after es gone day next told news inv.2 (handed_more words old new item inv.1 c.in-Next.ensures) inv.0 taken,
      handed_some old new item c.in-Next.ensures,
      c.publish_item.ensures.files ∙ inv.2,
      (let a = inv.3 in omega (arith, a, later)),
      λ start le h. rose_more start before after now options mirrored item es gone day next told news (let a = inv.3 in omega (arith, le, a)) later (inv.4 start le h) taken,
    )

pub returns-in-End-clause-published : goal.returns-in-End-clause-published
returns-in-End-clause-published g c =
    let files = g.F.Folder.files c.args.folder.now in
    let options = c.args.building.options in
    let mirrored = c.args.building.mirrored in
    let words = c.args.words.now in
    let es = g.P.Issues.list c.loop-turn.publisher in
    let all = subst (λ l. HavePublished files options mirrored (items_taken words l) c.loop-turn.news es c.loop-turn.day) (sym c.in-End.ensures) c.loop-turn.invariant.0 in
    published_all files options mirrored (items_taken words c.take.new.self) c.loop-turn.news es c.loop-turn.day all

pub returns-in-OutOfTurn-clause-so_far : goal.returns-in-OutOfTurn-clause-so_far
returns-in-OutOfTurn-clause-so_far g c =
    let words = c.args.words.now in
    let files = g.F.Folder.files c.args.folder.now in
    let options = c.args.building.options in
    let mirrored = c.args.building.mirrored in
    let all = items_taken words c.take.new.self in
    let news = c.loop-turn.news in
    subst (λ l. ArePublishedSoFar files options mirrored all news l) (sym c.end.ensures)
    (so_far_here files options mirrored all (items_taken words c.loop-turn.items) news (g.P.Issues.list c.loop-turn.publisher) c.loop-turn.day
    (ap (λ l. items_taken words l) c.in-OutOfTurn.ensures) c.loop-turn.invariant.0)

pub returns-in-Err-clause-so_far : goal.returns-in-Err-clause-so_far
returns-in-Err-clause-so_far g c =
    let inv = c.loop-turn.invariant in
    let words = c.args.words.now in
    let old = c.loop-turn.items in
    let new = c.take.new.self in
    let item = c.in-Next.item in
    let behind = items_taken words old ++ item ∷ [] in
    let first = subst (λ l. StartsWith l behind) (sym (handed_more words old new item inv.1 c.in-Next.ensures)) (starts_self behind) in
    stops_at (g.F.Folder.files c.args.folder.now) (g.F.Folder.files c.loop-turn.folder) c.args.building.options c.args.building.mirrored (items_taken words new) (items_taken words old) item
    (g.P.Issues.list c.loop-turn.publisher) (g.E.Ends.list c.in-Err.left) c.loop-turn.day c.loop-turn.news c.publish_item.new.news inv.2 first inv.0 c.in-Err.ensures.refused
