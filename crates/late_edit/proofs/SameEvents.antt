-- What two timetables have in common that differ in times and marks alone, and that a trip with the
-- same events in both is the same.
use Rattle.std.proofs.Common.{◌≡◌, ◌∙◌, sym, ap, subst, refl, ℕ, Bool, true, false, List, length, map, get_or, ◌&&◌, ◌==◌, ℤ, arith}
use Rattle.std.specs.Ordering.{int_eq}
use Rattle.std.proofs.Math.ListN.{get_or-map}
use Rattle.std.proofs.lemmas.Bool.{and_parts, eqb-true, eq-eqb, not-false, not_from_true}
use Rattle.std.proofs.lemmas.Bool.Decides.{Decides-int_eq}
use Rattle.std.proofs.lemmas.List.{length-map}
use lib.Pointwise.{pointwise, pointwise_decides}
use Rattle.tb_base.specs.declared.table.Event.{Event}
use Rattle.tb_base.specs.declared.transfer.Transfer.{Transfer}
use Rattle.tb_base.specs.Lines.{same_mark}
use Rattle.tb_base.specs.TimetableData.{TimetableData, TripData, no_trip, events_of}
use Rattle.late_edit.specs.Updated.{IsUpdated, bare_event, bare_trip}
use Rattle.late_edit.specs.Touched.{has_other_events, same_event, same_transfer}

int_eq-true : (a b : ℤ) → int_eq a b ≡ true → a ≡ b
int_eq-true a b h = grind (arith, Decides-int_eq a b)

-- ---- the same stops

pub bare_events : (T U : TimetableData) → IsUpdated T U → (t : ℕ) → map bare_event (events_of T t) ≡ map bare_event (events_of U t)
bare_events T U same t =
    ap (λ (trip : TripData). trip.events) (sym (get_or-map bare_trip T.trips t no_trip) ∙ ap (λ (trips : List TripData). get_or trips t no_trip) same.trips ∙ get_or-map bare_trip U.trips t no_trip)

pub same_length : (T U : TimetableData) → IsUpdated T U → length T.trips ≡ length U.trips
same_length T U same = sym (length-map T.trips bare_trip) ∙ ap (λ (trips : List TripData). length trips) same.trips ∙ length-map U.trips bare_trip

-- ---- the same events

same_mark-true : (a b : Bool) → same_mark a b ≡ true → a ≡ b
same_mark-true true true h = refl
same_mark-true true false h = sym h
same_mark-true false true h = h
same_mark-true false false h = refl

same_mark-itself : (a : Bool) → same_mark a a ≡ true
same_mark-itself true = refl
same_mark-itself false = refl

int_eq-itself : (a : ℤ) → int_eq a a ≡ true
int_eq-itself a = grind (arith, Decides-int_eq a a)

event_decides : (e f : Event) → (same_event e f ≡ true → e ≡ f) × (e ≡ f → same_event e f ≡ true)
event_decides e f = (told e f, λ is. subst (λ (x : Event). same_event e x ≡ true) is (itself e))
  where
    told : (e f : Event) → same_event e f ≡ true → e ≡ f
    told e f h =
        let four = and_parts ((e.stop == f.stop) && int_eq e.arr f.arr && int_eq e.dep f.dep && same_mark e.board f.board) (same_mark e.alight f.alight) h in
        let three = and_parts ((e.stop == f.stop) && int_eq e.arr f.arr && int_eq e.dep f.dep) (same_mark e.board f.board) four.0 in
        let two = and_parts ((e.stop == f.stop) && int_eq e.arr f.arr) (int_eq e.dep f.dep) three.0 in
        let one = and_parts (e.stop == f.stop) (int_eq e.arr f.arr) two.0 in
        λ k. record {
          stop = eqb-true e.stop f.stop one.0 k;
          arr = int_eq-true e.arr f.arr one.1 k;
          dep = int_eq-true e.dep f.dep two.1 k;
          board = same_mark-true e.board f.board three.1 k;
          alight = same_mark-true e.alight f.alight four.1 k;
        }

    itself : (e : Event) → same_event e e ≡ true
    itself e = λ k. eq-eqb e.stop e.stop refl k && int_eq-itself e.arr k && int_eq-itself e.dep k && same_mark-itself e.board k && same_mark-itself e.alight k

pub same_trip : (T U : TimetableData) → (t : ℕ) → has_other_events T U t ≡ false → events_of T t ≡ events_of U t
same_trip T U t same =
    (pointwise_decides event_decides (events_of T t) (events_of U t)).0 (not-false (pointwise same_event (events_of T t) (events_of U t)) same)

-- and the other way round
pub same_events : (T U : TimetableData) → (t : ℕ) → events_of T t ≡ events_of U t → has_other_events T U t ≡ false
same_events T U t same =
    not_from_true (pointwise same_event (events_of T t) (events_of U t)) ((pointwise_decides event_decides (events_of T t) (events_of U t)).1 same)

-- ---- the same transfers

transfer_decides : (r s : Transfer) → (same_transfer r s ≡ true → r ≡ s) × (r ≡ s → same_transfer r s ≡ true)
transfer_decides r s = (told r s, λ e. subst (λ (x : Transfer). same_transfer r x ≡ true) e (itself r))
  where
    told : (r s : Transfer) → same_transfer r s ≡ true → r ≡ s
    told r s h =
        let three = and_parts ((r.trip == s.trip) && (r.at == s.at) && (r.to_trip == s.to_trip)) (r.to_at == s.to_at) h in
        let two = and_parts ((r.trip == s.trip) && (r.at == s.at)) (r.to_trip == s.to_trip) three.0 in
        let one = and_parts (r.trip == s.trip) (r.at == s.at) two.0 in
        λ k. record {
          trip = eqb-true r.trip s.trip one.0 k;
          at = eqb-true r.at s.at one.1 k;
          to_trip = eqb-true r.to_trip s.to_trip two.1 k;
          to_at = eqb-true r.to_at s.to_at three.1 k;
        }

    itself : (r : Transfer) → same_transfer r r ≡ true
    itself r = λ k. eq-eqb r.trip r.trip refl k && eq-eqb r.at r.at refl k && eq-eqb r.to_trip r.to_trip refl k && eq-eqb r.to_at r.to_at refl k

pub same_rows : (rs ss : List Transfer) → (pointwise same_transfer rs ss ≡ true → rs ≡ ss) × (rs ≡ ss → pointwise same_transfer rs ss ≡ true)
same_rows = pointwise_decides transfer_decides
