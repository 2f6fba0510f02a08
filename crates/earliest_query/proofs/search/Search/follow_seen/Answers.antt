use Rattle.std.proofs.Common.{ℕ, [], subst}
use Rattle.std.specs.Prelude.{All}
use Rattle.std.proofs.lemmas.List.Elements.{All-head}
use Rattle.std.proofs.lemmas.Result.{on_ok_weaker}
use Rattle.tb_base.specs.Network.{NetData}
use Rattle.segment_queue.specs.declared.notes.Note.{Note}
use Rattle.segment_queue.specs.Queue.{DeskData}
use Rattle.earliest_query.specs.Noted.{IsNoted, IsOf, IsSoundNote, notes_of}
use Rattle.earliest_query.specs.UnderWay.{IsFollowed}
use Rattle.earliest_query.proofs.NotedHops.{noted_by_one}
use Rattle.earliest_query.proofs.search.Search.follow_seen.Goals as goal

pub follow_level-requires-clause-note : goal.follow_level-requires-clause-note
follow_level-requires-clause-note g c =
    let N : NetData = g.S.Scan.net c.args.self.now.scan.now in
    let D : DeskData = c.args.desk.now in
    let note : Note = record { segment = c.args.segment; seen = c.in-Some.seen } in
    All-head (IsSoundNote N D.segments c.args.level) note [] (subst (λ o. All (IsSoundNote N D.segments c.args.level) (notes_of c.args.segment o)) c.in-Some.is c.requires.notes)

pub returns-in-Some-clause-followed : goal.returns-in-Some-clause-followed
returns-in-Some-clause-followed g c =
    let N : NetData = g.S.Scan.net c.args.self.now.scan.now in
    let F : DeskData = c.follow_level.new.desk in
    let n : ℕ = c.args.segment in
    let note : Note = record { segment = n; seen = c.in-Some.seen } in
    let followed : ((i : ℕ) → IsOf note n i → IsFollowed N F n i) → (i : ℕ) → IsNoted (notes_of n c.args.seen) n i → IsFollowed N F n i
    = λ of i noted. of i (noted_by_one note n i (subst (λ o. IsNoted (notes_of n o) n i) c.in-Some.is noted)) in
    on_ok_weaker c.follow_level.result followed c.follow_level.ensures.followed
