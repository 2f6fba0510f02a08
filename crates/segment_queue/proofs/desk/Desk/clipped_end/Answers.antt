use Rattle.std.proofs.Common.{◌≡◌, ◌∙◌, ℕ, List, Option, Some, None, inr, refl, sym, ap, subst, arith}
use Rattle.std.specs.Prelude.{min, slice_index_or, unwrap_or}
use Rattle.tb_base.specs.Lines.{AreDividedInto, IsTripNoLater}
use Rattle.tb_base.specs.Network.{NetData}
use Rattle.tb_base.proofs.Ordered.{Member}
use Rattle.segment_queue.specs.declared.desk.Segment.{Segment}
use Rattle.segment_queue.specs.Scans.{StandsBefore, trips_from}
use Rattle.segment_queue.specs.Queue.{DeskData, IsSoundSegment, last_index, mark_of}
use Rattle.segment_queue.proofs.LineParts.{itself, of_lines, trips_no_later}
use Rattle.segment_queue.proofs.desk.Desk.clipped_end.Goals as goal

-- a trip without a mark has its last index for one, and no segment of a later trip goes further
same_end : (N : NetData) (marks : List (Option ℕ)) (s : Segment) (v m end : ℕ) → AreDividedInto N.table N.lines → IsSoundSegment N.table s → StandsBefore N.lines v s.trip
    → m ≡ unwrap_or (slice_index_or marks v None) s.end → end ≡ min s.end m → end ≡ min s.end (mark_of N.table marks v)
same_end N marks s v m end divided sound before mark is = by_mark (slice_index_or marks v None) refl
  where
    behind : Member s.trip (trips_from N.lines v)
    behind = subst (Member s.trip) (sym before) (inr (itself s.trip N.lines (of_lines N.table N.lines s.trip divided sound.trip)))

    no_later : IsTripNoLater N.table v s.trip
    no_later = trips_no_later N.table N.lines v s.trip divided behind

    by_mark : (o : Option ℕ) → slice_index_or marks v None ≡ o → end ≡ min s.end (mark_of N.table marks v)
    by_mark (Some k) some =
        is ∙ ap (min s.end) (mark ∙ ap (λ o. unwrap_or o s.end) some ∙ sym (ap (λ o. unwrap_or o (last_index N.table v)) some))
    by_mark None none =
        let own : m ≡ s.end = mark ∙ ap (λ o. unwrap_or o s.end) none in
        let last : mark_of N.table marks v ≡ last_index N.table v = ap (λ o. unwrap_or o (last_index N.table v)) none in
        omega (arith, is, own, last, sound.within, no_later.long)

pub returns-in-Some : goal.returns-in-Some
returns-in-Some g c =
    let N : NetData = g.S.Scan.net c.args.scan.now in
    let marks : c.self.inside.marks ≡ c.args.self.now.marks = ap (λ (D : DeskData). D.marks) c.self.view_is in
    inr (
      c.in-Some.before,
      c.in-Some.ensures.0,
      c.in-Some.ensures.1,
      same_end N c.args.self.now.marks c.args.segment.now c.in-Some.before c.get_or.result c.min.result c.soundness.ensures.divided c.requires.sound c.in-Some.ensures.1
          (c.get_or.ensures.mark ∙ ap (λ (ms : List (Option ℕ)). unwrap_or (slice_index_or ms c.in-Some.before None) c.args.segment.now.end) marks) c.min.ensures,
    )
