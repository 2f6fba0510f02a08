use Rattle.std.proofs.Common.{◌≡◌, ◌∙◌, ℕ, suc, ◌<◌, inl, inr, length, get_or, refl, sym, subst, arith, Option, None, Some}
use Rattle.std.specs.Prelude.{slice_get}
use Rattle.tb_base.specs.Network.{NetData}
use Rattle.tb_base.specs.BestValues.{QueryData}
use Rattle.tb_base.specs.declared.transfer.Hop.{Hop}
use Rattle.tb_base.proofs.NumberFacts.{below_or_at}
use Rattle.transfer_pack.specs.Words.{lent}
use Rattle.segment_queue.specs.declared.notes.Note.{Note}
use Rattle.segment_queue.specs.Queue.{DeskData}
use Rattle.earliest_query.specs.Noted.{note_of}
use Rattle.earliest_query.specs.UnderWay.{AddsSegments, IsReachedBy}
use Rattle.earliest_query.proofs.Following.{hop_not_last, hop_trip}
use Rattle.earliest_query.proofs.Growing.{extends-long, extends-reached, extends-refl, extends-trans}
use Rattle.earliest_query.proofs.NotedHops.{IsFrom, from_some, trips_inside, written_one, written_within}
use Rattle.earliest_query.proofs.Noting.{sound_note-kept}
use Rattle.earliest_query.proofs.OneMore.{reached_before}
use Rattle.earliest_query.proofs.search.Search.follow_some.Goals as goal

pub open_places-count-requires-clause-step : goal.open_places-count-requires-clause-step
open_places-count-requires-clause-step g c = c.requires.queue.step

pub open_places-count-requires-clause-trips : goal.open_places-count-requires-clause-trips
open_places-count-requires-clause-trips g c =
    trips_inside (g.S.Scan.net c.args.self.now.scan.now) c.args.desk.now c.args.round (note_of c.args.segment c.args.followed.now) (lent c.args.followed.now.hops) c.requires.sufficient c.requires.note c.requires.hops

pub loop-k-init : goal.loop-k-init
loop-k-init g c = record {
  queue = c.requires.queue;
  extends = extends-refl c.args.desk.now (suc c.args.round);
  room = refl;
  notes = refl;
  reached = λ j h below got. absurd (omega (arith, below));
}

pub at-requires : goal.at-requires
at-requires g c =
    let told = c.open_places-count.ensures in
    let within = written_within c.open_places-count.new.places c.open_places-count.result c.loop-k.k c.args.to (omega (arith, told.count, told.long, c.requires.room)) c.loop-k-test.true told.within in
    omega (arith, within, c.requires.to)

pub follow_hop-requires-clause-note : goal.follow_hop-requires-clause-note
follow_hop-requires-clause-note g c =
    let N : NetData = g.S.Scan.net c.args.self.now.scan.now in
    sound_note-kept N c.args.desk.now c.loop-k.desk (suc c.args.round) c.args.round (note_of c.args.segment c.args.followed.now) c.loop-k.invariant.extends c.requires.note

pub follow_hop-requires-clause-hop : goal.follow_hop-requires-clause-hop
follow_hop-requires-clause-hop g c =
    subst (λ hs. slice_get hs (get_or c.open_places-count.new.places c.loop-k.k 0) ≡ Some c.at.result) c.requires.hops c.at.ensures

same_some : (o : Option Hop) (a b : Hop) → o ≡ Some a → o ≡ Some b → a ≡ b
same_some o a b x y = cc

pub loop-k-preserved : goal.loop-k-preserved
loop-k-preserved g c =
    let N : NetData = g.S.Scan.net c.args.self.now.scan.now in
    let top : ℕ = suc c.args.round in
    let E : DeskData = c.loop-k.desk in
    let F : DeskData = c.follow_hop.new.desk in
    let places = c.open_places-count.new.places in
    let hops = lent c.args.followed.now.hops in
    let before = c.loop-k.invariant in
    let joined : AddsSegments E F top = c.follow_hop.ensures.extends in
    record {
      queue = c.follow_hop.ensures.queue;
      extends = extends-trans c.args.desk.now E F top before.extends joined;
      room = c.follow_hop.ensures.room ∙ before.room;
      notes = c.follow_hop.ensures.notes ∙ before.notes;
      reached = λ j h below got. elim (below_or_at j c.loop-k.k below) [
        | inl earlier ↦ extends-reached N.table E F top (length E.segments) (length F.segments) top top h.trip h.at joined (before.reached j h earlier got) (omega arith) (extends-long E F top joined) (omega arith)
        | inr e ↦ (let here : slice_get hops (get_or places c.loop-k.k 0) ≡ Some h = subst (λ m. slice_get hops (get_or places m 0) ≡ Some h) e got in
            let same : c.at.result ≡ h = same_some (slice_get hops (get_or places c.loop-k.k 0)) c.at.result h c.at.ensures here in
            subst (λ (x : Hop). IsReachedBy N.table F (length F.segments) top x.trip x.at) same c.follow_hop.ensures.reached)
      ];
    }

pub returns-clause-reached : goal.returns-clause-reached
returns-clause-reached g c = λ k h low high got.
    let N : NetData = g.S.Scan.net c.args.self.now.scan.now in
    let Q : QueryData = c.args.self.now.query.now in
    let D : DeskData = c.args.desk.now in
    let E : DeskData = c.loop-k.desk in
    let top : ℕ = suc c.args.round in
    let note : Note = note_of c.args.segment c.args.followed.now in
    let before = c.loop-k.invariant in
    let told = c.open_places-count.ensures in
    let hops = lent c.args.followed.now.hops in
    let places = c.open_places-count.new.places in
    let count : ℕ = c.open_places-count.result in
    elim (told.open k h low high got) [
      | inl passed ↦
          (let f : IsFrom N D note h = from_some N D c.args.round k note h c.requires.note (subst (λ hs. slice_get hs k ≡ Some h) c.requires.hops got) in
          let inside = hop_trip N.table N.hops D D top note.segment f.at h c.requires.sufficient c.requires.note.inside f.covers (extends-refl D top) f.in_set in
          let not_last = hop_not_last N.table N.hops D D top note.segment f.at h c.requires.sufficient c.requires.note.inside f.covers (extends-refl D top) f.in_set in
          extends-reached N.table D E top (length D.segments) (length E.segments) top top h.trip h.at before.extends
          (reached_before N Q D top h.trip h.at None c.soundness.ensures.divided inside c.requires.queue passed not_last) (omega arith) (extends-long D E top before.extends) (omega arith))
      | inr one ↦
          (let w : (j : ℕ) × (j < count) × (get_or places j 0 ≡ k) = written_one places count k (omega (arith, told.count, told.long, c.requires.room)) one in
          before.reached w.0 h (omega (arith, w.1, c.loop-k-test.false)) (subst (λ m. slice_get hops m ≡ Some h) (sym w.2) got))
    ]
