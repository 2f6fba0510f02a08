-- Events that a late moves stay sound.
use Rattle.std.proofs.Common.{◌≡◌, ◌∙◌, sym, ap, subst, refl, ℕ, ◌+◌, ◌-◌, ◌<◌, ◌≤◌, ◌≤ℤ◌, ℤ, pos, negsuc, List, length, get_or, map, take, drop, Bool, true, false, cond, not, inl, inr, arith}
use Rattle.std.specs.Prelude.{All, AllPairs, Result, Ok, Err, int_lt, nat_lt}
use Rattle.std.specs.List.{list_any}
use Rattle.std.proofs.lemmas.Bool.{cases_lt, not-false, or_parts}
use Rattle.std.proofs.lemmas.Bool.Decides.{nat_tests}
use Rattle.std.proofs.lemmas.Int.{ints}
use Rattle.std.proofs.lemmas.List.{get_or-drop, length-append, length-drop, length-map, length-take-le}
use Rattle.tb_base.specs.declared.table.Event.{Event}
use Rattle.tb_base.specs.Soundness.{IsSoundEvent, IsSoundTrip}
use Rattle.tb_base.specs.TimetableData.{TripData}
use Rattle.tb_base.proofs.Lists.{list_any-over_map}
use Rattle.late_edit.specs.Amended.{events_moved, has_time_outside, is_outside, is_over_a_day, is_reached_early, delayed, moved_from, with_events}
use Rattle.late_edit.specs.Finding.{IsTimedEvent}
use Rattle.late_edit.specs.UpdateData.{LateData}
use Rattle.late_edit.specs.declared.late.LateFault.{LateFault}
use Rattle.late_edit.specs.declared.late.LateFault.TheVariants as fault
use Rattle.late_edit.proofs.MovedEvents.{early_is, kept_at, moved_at}
use Rattle.late_edit.proofs.ListFacts.{Member-get_or, list_any-none}

pub timed_event : (n : ℕ) (e : Event) → IsSoundEvent n e → IsTimedEvent e
timed_event n e h = record { earliest = h.earliest; waits = h.waits; latest = h.latest }

-- how events are moved where nothing is wrong
pub record IsMove (late : LateData) (es moved_es : List Event) : Type 0 where
  pub from : late.from < length es
  pub is : moved_es ≡ moved_from late.from late.secs es
  pub limits : list_any has_time_outside (map (delayed late.secs) (drop late.from es)) ≡ false
  pub onward : is_reached_early (moved_from late.from late.secs es) late.from ≡ false

-- of a choice that isn't refused
unless : {A : Type 0} (b : Bool) (f : LateFault) (r : Result A LateFault) (x : A) → cond b (Err f) r ≡ Ok x → (b ≡ false) × (r ≡ Ok x)
unless true f r x h = absurd (let k : Err f ≡ Ok x = h in cc)
unless false f r x h = (refl, h)

pub is_move : (late : LateData) (es ms : List Event) → events_moved late es ≡ Ok ms → IsMove late es ms
is_move late es ms h =
    let moved_es = moved_from late.from late.secs es in
    let outside = list_any has_time_outside (map (delayed late.secs) (drop late.from es)) in
    let early = is_reached_early moved_es late.from in
    let third = cond early (Err (fault.TimeRunsBack late.line)) (Ok moved_es) in
    let second = cond outside (Err (fault.OutOfRange late.line)) third in
    let first = cond (is_over_a_day late.secs) (Err (fault.OutOfRange late.line)) second in
    let a = unless (not (nat_lt late.from (length es))) (fault.BadEvent late.line) first ms h in
    let b = unless (is_over_a_day late.secs) (fault.OutOfRange late.line) second ms a.1 in
    let c = unless outside (fault.OutOfRange late.line) third ms b.1 in
    let d = unless early (fault.TimeRunsBack late.line) (Ok moved_es) ms c.1 in
    let here : nat_lt late.from (length es) ≡ true = not-false (nat_lt late.from (length es)) a.0 in
    record {
      from = grind (arith, nat_tests, here);
      is = (let e : Ok moved_es ≡ Ok ms = d.1 in let f : moved_es ≡ ms = cc in sym f);
      limits = c.0;
      onward = d.0;
    }

within_limits : (time : ℤ) → is_outside time ≡ false → (negsuc 86399 ≤ℤ time) × (time ≤ℤ pos 359999)
within_limits time h =
    let k = or_parts (int_lt time (negsuc 86399)) (int_lt (pos 359999) time) h in
    let low : int_lt time (negsuc 86399) ≡ false = k.0 in
    let high : int_lt (pos 359999) time ≡ false = k.1 in
    (grind (arith, ints, low), grind (arith, ints, high))

module _ (late : LateData) (es ms : List Event) (move : IsMove late es ms) where
  within : late.from ≤ length es
  within = omega (arith, move.from)

  pub length-move : length ms ≡ length es
  length-move =
      ap length move.is ∙ (length-append (take late.from es) (map (delayed late.secs) (drop late.from es))
      ∙ (let a : length (take late.from es) ≡ late.from = length-take-le late.from es within in
      let b : length (map (delayed late.secs) (drop late.from es)) ≡ length (drop late.from es) = length-map (drop late.from es) (delayed late.secs) in
      let c : length (drop late.from es) ≡ length es - late.from = length-drop late.from es in
      omega (arith, a, b, c, within)))

  -- each event is as it was, or moved
  at_before : (i : ℕ) (d : Event) → i < late.from → get_or ms i d ≡ get_or es i d
  at_before i d ahead = ap (λ (l : List Event). get_or l i d) move.is ∙ kept_at late.from late.secs es within i d ahead

  at_behind : (i : ℕ) (d : Event) → late.from ≤ i → i < length es → get_or ms i d ≡ delayed late.secs (get_or es i d)
  at_behind i d behind inside = ap (λ (l : List Event). get_or l i d) move.is ∙ moved_at late.from late.secs es within i d d behind inside

  -- a moved event's times are within the limits
  stays : (i : ℕ) (d : Event) → late.from ≤ i → i < length es → has_time_outside (delayed late.secs (get_or es i d)) ≡ false
  stays i d behind inside =
      let long : length (drop late.from es) ≡ length es - late.from = length-drop late.from es in
      let back : late.from + (i - late.from) ≡ i = omega (arith, behind) in
      let none : list_any (λ e. has_time_outside (delayed late.secs e)) (drop late.from es) ≡ false = sym (list_any-over_map has_time_outside (delayed late.secs) (drop late.from es)) ∙ move.limits in
      ap (λ k. has_time_outside (delayed late.secs (get_or es k d))) (sym back)
      ∙ (ap (λ (e : Event). has_time_outside (delayed late.secs e)) (sym (get_or-drop late.from es (i - late.from) d))
      ∙ list_any-none (λ e. has_time_outside (delayed late.secs e)) (drop late.from es) none _ (Member-get_or (drop late.from es) (i - late.from) d (omega (arith, long, behind, inside))))

  earliest : (i : ℕ) (d : Event) → late.from ≤ i → i < length es → negsuc 86399 ≤ℤ (delayed late.secs (get_or es i d)).arr
  earliest i d behind inside =
      let e = delayed late.secs (get_or es i d) in
      (within_limits e.arr (or_parts (is_outside e.arr) (is_outside e.dep) (stays i d behind inside)).0).0

  latest : (i : ℕ) (d : Event) → late.from ≤ i → i < length es → (delayed late.secs (get_or es i d)).dep ≤ℤ pos 359999
  latest i d behind inside =
      let e = delayed late.secs (get_or es i d) in
      (within_limits e.dep (or_parts (is_outside e.arr) (is_outside e.dep) (stays i d behind inside)).1).1

  pub timed_move : All IsTimedEvent es → All IsTimedEvent ms
  timed_move h = λ i d inside.
      let here : i < length es = omega (arith, inside, length-move) in
      elim (cases_lt i late.from) [
        | inl ahead ↦ subst IsTimedEvent (sym (at_before i d ahead)) (h i d here)
        | inr behind ↦ subst IsTimedEvent (sym (at_behind i d behind here)) (record {
          earliest = earliest i d behind here;
          waits = (let w = (h i d here).waits in omega (arith, ints, w));
          latest = latest i d behind here;
        })
      ]

  same_stop : (i : ℕ) (d : Event) → i < length es → (get_or ms i d).stop ≡ (get_or es i d).stop
  same_stop i d inside =
      elim (cases_lt i late.from) [
        | inl ahead ↦ ap (λ (e : Event). e.stop) (at_before i d ahead)
        | inr behind ↦ ap (λ (e : Event). e.stop) (at_behind i d behind inside)
      ]

  sound_events : (n : ℕ) → All (IsSoundEvent n) es → All (IsSoundEvent n) ms
  sound_events n h = λ i d inside.
      let here : i < length es = omega (arith, inside, length-move) in
      let t = timed_move (λ j e below. timed_event n (get_or es j e) (h j e below)) i d inside in
      record {
        stop = subst (λ q. q < n) (sym (same_stop i d here)) (h i d here).stop;
        earliest = t.earliest;
        waits = t.waits;
        latest = t.latest;
      }

  -- the first moved event is reached when the one before it is left, or later
  joins : (d : Event) → 0 < late.from → (get_or es (late.from - 1) d).dep ≤ℤ (delayed late.secs (get_or es late.from d)).arr
  joins d some =
      let on : int_lt (delayed late.secs (get_or es late.from d)).arr (get_or es (late.from - 1) d).dep ≡ false = early_is late.from late.secs es within d d some move.from ∙ move.onward in
      grind (arith, ints, on)

  pub sound_move : (n : ℕ) → All (IsSoundEvent n) es → AllPairs (λ e f. e.dep ≤ℤ f.arr) es → AllPairs (λ e f. e.dep ≤ℤ f.arr) ms
  sound_move n sound onward = λ i j d before inside.
      let here : j < length es = omega (arith, inside, length-move) in
      let at_i : i < length es = omega (arith, before, here) in
      elim (cases_lt j late.from) [
        | inl ahead ↦
            let a = at_before i d (omega (arith, ahead, before)) in
            let b = at_before j d ahead in
            rw (a, b) (onward i j d before here)
        | inr behind ↦ elim (cases_lt i late.from) [
          | inl ahead ↦ rw (at_before i d ahead, at_behind j d behind here) (
              let some : 0 < late.from = omega (arith, ahead) in
              let join = joins d some in
              let left : (get_or es i d).dep ≤ℤ (get_or es (late.from - 1) d).dep = until i d ahead in
              let right : (get_or es late.from d).arr ≤ℤ (get_or es j d).arr = since j d behind here in
              omega (arith, ints, join, left, right))
          | inr late_i ↦ rw (at_behind i d late_i at_i, at_behind j d behind here) (let o = onward i j d before here in omega (arith, ints, o))
        ]
      ]
    where
      until : (i : ℕ) (d : Event) → i < late.from → (get_or es i d).dep ≤ℤ (get_or es (late.from - 1) d).dep
      until i d ahead = elim (cases_lt i (late.from - 1)) [
        | inl less ↦
            let last : late.from - 1 < length es = omega (arith, move.from) in
            let o = onward i (late.from - 1) d less last in
            let w = (sound (late.from - 1) d last).waits in
            omega (arith, ints, o, w)
        | inr more ↦ let same : i ≡ late.from - 1 = omega (arith, more, ahead) in subst (λ k. (get_or es i d).dep ≤ℤ (get_or es k d).dep) same (omega (arith, ints))
      ]

      since : (j : ℕ) (d : Event) → late.from ≤ j → j < length es → (get_or es late.from d).arr ≤ℤ (get_or es j d).arr
      since j d behind inside = elim (cases_lt late.from j) [
        | inl less ↦
            let o = onward late.from j d less inside in
            let w = (sound late.from d move.from).waits in
            omega (arith, ints, o, w)
        | inr more ↦ let same : late.from ≡ j = omega (arith, more, behind) in subst (λ k. (get_or es late.from d).arr ≤ℤ (get_or es k d).arr) same (omega (arith, ints))
      ]

  pub sound_trip : (n : ℕ) (t : TripData) → t.events ≡ es → IsSoundTrip n t → IsSoundTrip n (with_events t ms)
  sound_trip n t is h =
      let sound = subst (All (IsSoundEvent n)) is h.events in
      record {
        long = (let l : 2 ≤ length t.events = h.long in let e : length t.events ≡ length es = ap length is in omega (arith, l, e, length-move));
        events = sound_events n sound;
        onward = sound_move n sound (subst (AllPairs (λ (e f : Event). e.dep ≤ℤ f.arr)) is h.onward);
      }
