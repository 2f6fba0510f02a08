use Rattle.std.proofs.Common.{◌≡◌, ℕ, suc, ◌-◌, ◌<◌, ◌≤◌, length, Some}
use Rattle.std.specs.Prelude.{slice_get}
use Rattle.tb_base.specs.declared.transfer.Hop.{Hop}
use Rattle.earliest_query.specs.UnderWay.{AddsSegments, IsQueue, IsReachedBy, room_of}
use Rattle.transfer_pack.specs.Words.{lent}
use Rattle.earliest_query.proofs.search.Search.follow_note.Given as goal

abbrev pub invariant-loop-from : goal.invariant-loop-from
invariant-loop-from g l = record {
  queue : IsQueue (g.S.Scan.net l.self.scan.now) l.self.query.now l.desk (suc l.round);
  extends : AddsSegments l.fn.desk l.desk (suc l.round);
  room : room_of l.desk ≡ room_of l.fn.desk;
  notes : l.desk.notes ≡ l.fn.desk.notes;
  places : length l.places ≡ length l.fn.places;
  within : l.from ≤ length (lent l.followed.hops);
  reached : (k : ℕ) (h : Hop) → k < l.from → slice_get (lent l.followed.hops) k ≡ Some h → IsReachedBy (g.S.Scan.net l.self.scan.now).table l.desk (length l.desk.segments) (suc l.round) h.trip h.at;
}

abbrev pub decreases-loop-from : goal.decreases-loop-from
decreases-loop-from g l = l.count - l.from
