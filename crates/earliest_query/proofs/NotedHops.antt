-- Hops from events that were noted.
use Rattle.std.proofs.Common.{◌≡◌, ◌∙◌, ℕ, suc, ◌-◌, ◌<◌, ◌≤◌, inl, inr, List, [], ◌∷◌, length, get_or, take, sym, subst, arith, Some}
use Rattle.std.specs.Prelude.{All, Contains, slice_get}
use Rattle.std.proofs.lemmas.List.{get_or-take, length-take-le}
use Rattle.std.proofs.lemmas.Option.{get_or_from_slice_get, slice_get-get_or, slice_get_within}
use Rattle.tb_base.specs.Network.{NetData}
use Rattle.tb_base.specs.declared.transfer.Hop.{Hop}
use Rattle.tb_base.specs.Sufficiency.{AreSufficient}
use Rattle.tb_base.proofs.Ordered.{Member-from_Contains}
use Rattle.segment_queue.specs.declared.notes.Note.{Note}
use Rattle.segment_queue.specs.Queue.{DeskData}
use Rattle.segment_queue.specs.Scans.{hops_seen, seen_first, seen_last, seen_trip}
use Rattle.segment_queue.specs.Traced.{segment_of}
use Rattle.earliest_query.specs.Noted.{IsNoted, IsOf, IsSoundNote}
use Rattle.earliest_query.specs.UnderWay.{Covers}
use Rattle.earliest_query.proofs.Following.{IsInOne, get_or-inside, hop_trip, in_one}
use Rattle.earliest_query.proofs.Growing.{extends-refl}

-- an index that a note is of is one that its segment covers
pub covers_of : (N : NetData) (D : DeskData) (round i : ℕ) (note : Note) → IsSoundNote N D.segments round note → seen_first note.seen ≤ i → i ≤ seen_last note.seen → Covers D note.segment i
covers_of N D round i note s from to = record { onward = omega (arith, s.first, from); within = omega (arith, s.within, to) }

-- the index from which a hop of a note is
pub record IsFrom (N : NetData) (D : DeskData) (note : Note) (h : Hop) : Type 0 where
  pub at : ℕ
  pub covers : Covers D note.segment at
  pub in_set : Contains (N.hops (segment_of D.segments note.segment).trip at) h

pub from_some : (N : NetData) (D : DeskData) (round place : ℕ) (note : Note) (h : Hop) → IsSoundNote N D.segments round note → slice_get (hops_seen N.hops note.seen) place ≡ Some h → IsFrom N D note h
from_some N D round place note h s got =
    let r : IsInOne (N.hops (seen_trip note.seen)) (seen_first note.seen) (suc (seen_last note.seen) - seen_first note.seen) h
    = in_one (N.hops (seen_trip note.seen)) (seen_first note.seen) (suc (seen_last note.seen) - seen_first note.seen) h
    (place, slice_get_within (hops_seen N.hops note.seen) place h got, get_or_from_slice_get (hops_seen N.hops note.seen) place h h got) in
    record {
      at = r.at;
      covers = covers_of N D round r.at note s r.low (omega (arith, r.high, s.order));
      in_set = subst (λ t. Contains (N.hops t r.at) h) s.trip r.one;
    }

-- the event that was found is one from which the hop is
pub found : (N : NetData) (D : DeskData) (round at : ℕ) (note : Note) (h : Hop) → IsSoundNote N D.segments round note → seen_first note.seen ≤ at → at ≤ seen_last note.seen → Contains (N.hops (seen_trip note.seen) at) h → Covers D note.segment at × Contains (N.hops (segment_of D.segments note.segment).trip at) h
found N D round at note h s from to one = (covers_of N D round at note s from to, subst (λ t. Contains (N.hops t at) h) s.trip one)

-- what is noted by one note is of it
pub noted_by_one : (note : Note) (n i : ℕ) → IsNoted (note ∷ []) n i → IsOf note n i
noted_by_one note n i noted = elim (Member-from_Contains noted.by (note ∷ []) noted.one) [
  | inl same ↦ subst (λ x. IsOf x n i) (sym same) noted.of
  | inr none ↦ absurd none
]

-- each hop from events that were noted leads to a trip
pub trips_inside : (N : NetData) (D : DeskData) (round : ℕ) (note : Note) (hops : List Hop) → AreSufficient N.table N.hops → IsSoundNote N D.segments round note → hops ≡ hops_seen N.hops note.seen → All (λ h. h.trip < length N.table.trips) hops
trips_inside N D round note hops sufficient s are = λ k d inside.
    let got : slice_get (hops_seen N.hops note.seen) k ≡ Some (get_or hops k d) = subst (λ hs. slice_get hs k ≡ Some (get_or hops k d)) are (slice_get-get_or hops k d inside) in
    let f : IsFrom N D note (get_or hops k d) = from_some N D round k note (get_or hops k d) s got in
    hop_trip N.table N.hops D D (suc round) note.segment f.at (get_or hops k d) sufficient s.inside f.covers (extends-refl D (suc round)) f.in_set

-- places that were written down are read again
pub written_within : (places : List ℕ) (count k to : ℕ) → count ≤ length places → k < count → All (λ p. p < to) (take count places) → get_or places k 0 < to
written_within places count k to few inside within = subst (λ p. p < to) (get_or-take count places k 0 inside) (within k 0 (omega (arith, length-take-le count places few, inside)))

pub written_one : (places : List ℕ) (count k : ℕ) → count ≤ length places → Contains (take count places) k → (j : ℕ) × (j < count) × (get_or places j 0 ≡ k)
written_one places count k few one =
    let below : one.0 < count = omega (arith, one.1, length-take-le count places few) in
    (one.0, below, get_or-inside places one.0 0 k (omega (arith, below, few)) ∙ sym (get_or-take count places one.0 k below) ∙ one.2)
