-- What an update leaves of the events of a trip: as many, at the same stops, and sound.
use Rattle.std.proofs.Common.{◌≡◌, ◌∙◌, sym, ap, subst, refl, ℕ, ◌<◌, ◌≤◌, ◌≤ℤ◌, ℤ, List, [], ◌∷◌, ◌++◌, length, get_or, set, map, take, drop, Bool, true, false, cond, inl, inr, arith}
use Rattle.std.specs.Prelude.{All, AllPairs, Result, Ok, Err, MatchResult, OnErr, nat_lt}
use Rattle.std.proofs.Math.Seq.{map-set_same}
use Rattle.std.proofs.lemmas.Bool.{cases_eq}
use Rattle.std.proofs.lemmas.Bool.Decides.{nat_tests}
use Rattle.std.proofs.lemmas.List.{get_or-map, get_or-set_other, get_or_default, length-map, length-set, map-append, take-append-drop}
use Rattle.std.proofs.lemmas.Grind.{get_or-set_at}
use Rattle.tb_base.specs.declared.table.Event.{Event}
use Rattle.tb_base.specs.Soundness.{IsSoundEvent, IsSoundTrip}
use Rattle.tb_base.specs.TimetableData.{TripData, no_event}
use Rattle.late_edit.specs.Amended.{closed, events_after, events_skipped, delayed, moved_from, with_events}
use Rattle.late_edit.specs.Finding.{IsTimedEvent}
use Rattle.late_edit.specs.UpdateData.{LateData, SkipData}
use Rattle.late_edit.specs.Updated.{bare_event}
use Rattle.late_edit.specs.declared.late.LateFault.{LateFault}
use Rattle.late_edit.specs.declared.late.LateFault.TheVariants as fault
use Rattle.late_edit.specs.declared.update.Update.{Update}
use Rattle.late_edit.specs.declared.update.Update.TheVariants as update
use Rattle.late_edit.proofs.Sound.{IsMove, is_move, length-move, sound_trip, timed_move}

-- what other events of a trip have in common with its own
pub record IsNewEvents (es ms : List Event) : Type 0 where
  pub long : length ms ≡ length es
  pub bare : map bare_event ms ≡ map bare_event es
  pub timed : All IsTimedEvent es → All IsTimedEvent ms
  pub sound : (n : ℕ) (t : TripData) → t.events ≡ es → IsSoundTrip n t → IsSoundTrip n (with_events t ms)

-- ---- moved events

bare_moved : (secs : ℤ) (es : List Event) → map bare_event (map (delayed secs) es) ≡ map bare_event es
bare_moved secs [] = refl
bare_moved secs (e ∷ es) = ap (λ (fs : List Event). bare_event e ∷ fs) (bare_moved secs es)

bare_from : (from : ℕ) (secs : ℤ) (es : List Event) → map bare_event (moved_from from secs es) ≡ map bare_event es
bare_from from secs es =
    map-append bare_event (take from es) (map (delayed secs) (drop from es))
    ∙ (ap (λ fs. map bare_event (take from es) ++ fs) (bare_moved secs (drop from es))
    ∙ (sym (map-append bare_event (take from es) (drop from es)) ∙ ap (map bare_event) (take-append-drop from es)))

of_move : (late : LateData) (es ms : List Event) → IsMove late es ms → IsNewEvents es ms
of_move late es ms move = record {
  long = length-move late es ms move;
  bare = ap (map bare_event) move.is ∙ bare_from late.from late.secs es;
  timed = timed_move late es ms move;
  sound = sound_trip late es ms move;
}

-- ---- events that are closed, or as they were

-- the same stop and the same times
record KeepsTimes (e f : Event) : Type 0 where
  pub stop : f.stop ≡ e.stop
  pub arr : f.arr ≡ e.arr
  pub dep : f.dep ≡ e.dep

keeps_itself : (e : Event) → KeepsTimes e e
keeps_itself e = record { stop = refl; arr = refl; dep = refl }

closed_keeps : (e : Event) → KeepsTimes e (closed e)
closed_keeps e = record { stop = refl; arr = refl; dep = refl }

record AreClosings (es ms : List Event) : Type 0 where
  pub long : length ms ≡ length es
  pub bare : map bare_event ms ≡ map bare_event es
  pub at : (i : ℕ) (d : Event) → i < length es → KeepsTimes (get_or es i d) (get_or ms i d)

module _ (es ms : List Event) (closing : AreClosings es ms) where
  timed_closing : All IsTimedEvent es → All IsTimedEvent ms
  timed_closing h = λ i d inside.
      let here : i < length es = subst (λ n. i < n) closing.long inside in
      let k = closing.at i d here in
      let e = h i d here in
      record {
        earliest = rw k.arr e.earliest;
        waits = rw (k.arr, k.dep) e.waits;
        latest = rw k.dep e.latest;
      }

  sound_closing : (n : ℕ) → All (IsSoundEvent n) es → All (IsSoundEvent n) ms
  sound_closing n h = λ i d inside.
      let here : i < length es = subst (λ n. i < n) closing.long inside in
      let k = closing.at i d here in
      let e = h i d here in
      record {
        stop = rw k.stop e.stop;
        earliest = rw k.arr e.earliest;
        waits = rw (k.arr, k.dep) e.waits;
        latest = rw k.dep e.latest;
      }

  onward_closing : AllPairs (λ e f. e.dep ≤ℤ f.arr) es → AllPairs (λ e f. e.dep ≤ℤ f.arr) ms
  onward_closing h = λ i j d before inside.
      let there : j < length es = subst (λ n. j < n) closing.long inside in
      let here : i < length es = omega (arith, before, there) in
      rw ((closing.at i d here).dep, (closing.at j d there).arr) (h i j d before there)

  of_closing : IsNewEvents es ms
  of_closing = record {
    long = closing.long;
    bare = closing.bare;
    timed = timed_closing;
    sound = λ n t is h. record {
      long = (let l : 2 ≤ length t.events = h.long in let e : length t.events ≡ length es = ap length is in omega (arith, l, e, closing.long));
      events = sound_closing n (subst (All (IsSoundEvent n)) is h.events);
      onward = onward_closing (subst (AllPairs (λ (e f : Event). e.dep ≤ℤ f.arr)) is h.onward);
    };
  }

bare_closed : (es : List Event) → map bare_event (map closed es) ≡ map bare_event es
bare_closed [] = refl
bare_closed (e ∷ es) = ap (λ (fs : List Event). bare_event e ∷ fs) (bare_closed es)

all_closed : (es : List Event) → AreClosings es (map closed es)
all_closed es = record {
  long = length-map es closed;
  bare = bare_closed es;
  at = λ i d inside. subst (KeepsTimes (get_or es i d)) (sym (get_or-map closed es i d d inside)) (closed_keeps (get_or es i d));
}

one_closed : (es : List Event) (at : ℕ) → at < length es → AreClosings es (set es at (closed (get_or es at no_event)))
one_closed es at inside = record {
  long = length-set es at (closed (get_or es at no_event));
  bare = map-set_same bare_event es at (closed (get_or es at no_event)) no_event refl;
  at = λ i d below. elim (cases_eq i at) [
    | inl same ↦
        let here : get_or es at no_event ≡ get_or es i d = get_or_default es at no_event d inside ∙ ap (λ k. get_or es k d) (sym same) in
        subst (KeepsTimes (get_or es i d)) (sym (get_or-set_at es at i (closed (get_or es at no_event)) d same inside ∙ ap closed here)) (closed_keeps (get_or es i d))
    | inr other ↦ subst (KeepsTimes (get_or es i d)) (sym (get_or-set_other es at i (closed (get_or es at no_event)) d other)) (keeps_itself (get_or es i d))
  ];
}

-- ---- what any update leaves

skipped_ok : (skip : SkipData) (es ms : List Event) → events_skipped skip es ≡ Ok ms → (skip.at < length es) × (ms ≡ set es skip.at (closed (get_or es skip.at no_event)))
skipped_ok skip es ms h = by_test (nat_lt skip.at (length es)) refl h
  where
    by_test : (b : Bool) → b ≡ nat_lt skip.at (length es) → cond b (Ok (set es skip.at (closed (get_or es skip.at no_event)))) (Err (fault.BadEvent skip.line)) ≡ Ok ms →
        (skip.at < length es) × (ms ≡ set es skip.at (closed (get_or es skip.at no_event)))
    by_test true e k = (grind (arith, nat_tests, e), cc)
    by_test false e k = absurd (let n : Err (fault.BadEvent skip.line) ≡ Ok ms = k in cc)

pub new_events : (u : Update) (es ms : List Event) → events_after u es ≡ Ok ms → IsNewEvents es ms
new_events (update.Late late) es ms h = of_move late es ms (is_move late es ms h)
new_events (update.Cancel cancel) es ms h =
    let is : map closed es ≡ ms = (let k : Ok (map closed es) ≡ Ok ms = h in cc) in
    subst (IsNewEvents es) is (of_closing es (map closed es) (all_closed es))
new_events (update.Skip skip) es ms h =
    let k = skipped_ok skip es ms h in
    subst (IsNewEvents es) (sym k.1) (of_closing es (set es skip.at (closed (get_or es skip.at no_event))) (one_closed es skip.at k.0))

-- what an update leaves is timed, whatever comes of it
pub timed_after : (u : Update) (es ms : List Event) (r : Result Unit LateFault) → MatchResult r (λ _. events_after u es ≡ Ok ms) (λ f. events_after u es ≡ Err f) → OnErr r (ms ≡ es) → All IsTimedEvent es → All IsTimedEvent ms
timed_after u es ms (Ok _) done kept h = (new_events u es ms done).timed h
timed_after u es ms (Err f) done kept h = subst (All IsTimedEvent) (sym kept) h
