use Rattle.std.proofs.Common.{◌≡◌, ℕ, suc, ◌<◌, ◌≤◌, length, get_or}
use Rattle.segment_queue.specs.declared.notes.Note.{Note}
use Rattle.earliest_query.specs.Noted.{IsOf}
use Rattle.earliest_query.specs.UnderWay.{AddsSegments, IsDone, IsQueue, room_of}
use Rattle.earliest_query.proofs.Noting.{AreLeft}
use Rattle.earliest_query.proofs.search.Search.follow_notes.Given as goal

abbrev pub invariant-loop-k : goal.invariant-loop-k
invariant-loop-k g l = record {
  queue : IsQueue (g.S.Scan.net l.self.scan.now) l.self.query.now l.desk (suc l.round);
  extends : AddsSegments l.fn.desk l.desk (suc l.round);
  room : room_of l.desk ≡ room_of l.fn.desk;
  places : 64 ≤ length l.places;
  left : AreLeft l.fn.desk.notes l.desk.notes l.k;
  done : (j : ℕ) (d : Note) (i : ℕ) → j < l.k → IsOf (get_or l.fn.desk.notes j d) (get_or l.fn.desk.notes j d).segment i → IsDone (g.S.Scan.net l.self.scan.now) l.desk l.best (get_or l.fn.desk.notes j d).segment i;
}
