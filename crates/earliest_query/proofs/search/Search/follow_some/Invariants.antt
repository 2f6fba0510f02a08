use Rattle.std.proofs.Common.{◌≡◌, ℕ, suc, ◌<◌, length, get_or, Some}
use Rattle.std.specs.Prelude.{slice_get}
use Rattle.tb_base.specs.declared.transfer.Hop.{Hop}
use Rattle.transfer_pack.specs.Words.{lent}
use Rattle.earliest_query.specs.UnderWay.{AddsSegments, IsQueue, IsReachedBy, room_of}
use Rattle.earliest_query.proofs.search.Search.follow_some.Given as goal

abbrev pub invariant-loop-k : goal.invariant-loop-k
invariant-loop-k g l = record {
  queue : IsQueue (g.S.Scan.net l.self.scan.now) l.self.query.now l.desk (suc l.round);
  extends : AddsSegments l.initial.desk l.desk (suc l.round);
  room : room_of l.desk ≡ room_of l.initial.desk;
  notes : l.desk.notes ≡ l.initial.desk.notes;
  reached : (j : ℕ) (h : Hop) → j < l.k → slice_get (lent l.followed.hops) (get_or l.places j 0) ≡ Some h → IsReachedBy (g.S.Scan.net l.self.scan.now).table l.desk (length l.desk.segments) (suc l.round) h.trip h.at;
}
