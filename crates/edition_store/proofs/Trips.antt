-- Trips that run backwards: their events, and that they are sound.
use Rattle.std.proofs.Common.{◌≡◌, ◌∙◌, sym, ap, subst, refl, ℕ, ◌+◌, ◌-◌, ◌<◌, ◌≤ℤ◌, List, [], ◌∷◌, ◌++◌, length, get_or, map, take, Some, arith}
use Rattle.std.specs.Prelude.{All, slice_get, sum_by}
use Rattle.std.proofs.lemmas.Int.{ints}
use Rattle.std.proofs.lemmas.List.Elements.{All-map}
use Rattle.std.proofs.lemmas.List.Sums.{sum_by-cons}
use Rattle.std.proofs.lemmas.List.{get_or-map, get_or-reverse, length-map, length-reverse, map_more, take_more}
use Rattle.std.proofs.lemmas.Option.{get_or_from_slice_get, slice_get_within}
use Rattle.tb_base.specs.declared.days.ServiceDay.{ServiceDay}
use Rattle.tb_base.specs.declared.table.Event.{Event}
use Rattle.tb_base.specs.Soundness.{IsSoundEvent, IsSoundTrip}
use Rattle.tb_base.specs.TimetableData.{TripData, no_event}
use Rattle.edition_store.specs.Mirror.{mirror_event, mirror_events, mirror_trip}

pub length-mirror_events : (es : List Event) → length (mirror_events es) ≡ length es
length-mirror_events es = length-reverse (map mirror_event es) ∙ length-map es mirror_event

-- the event at an index is the mirror of the one at the index counted from the end
pub event_back : (es : List Event) (i : ℕ) (d e : Event) → i < length es → get_or (mirror_events es) i d ≡ mirror_event (get_or es (length es - 1 - i) e)
event_back es i d e inside =
    let long : length (map mirror_event es) ≡ length es = length-map es mirror_event in
    let k : length (map mirror_event es) - 1 - i ≡ length es - 1 - i = omega (arith, long) in
    get_or-reverse (map mirror_event es) i d (omega (arith, long, inside))
    ∙ (ap (λ j. get_or (map mirror_event es) j d) k ∙ get_or-map mirror_event es (length es - 1 - i) e d (omega (arith, inside)))

-- one event more
pub event_more : (es : List Event) (i : ℕ) (e : Event) (ys zs : List Event) → i < length es → e ≡ get_or es (length es - 1 - i) e → ys ≡ take i (mirror_events es) → zs ≡ ys ++ mirror_event e ∷ []
    → zs ≡ take (i + 1) (mirror_events es)
event_more es i e ys zs inside is before after =
    let long : length (mirror_events es) ≡ length es = length-mirror_events es in
    after ∙ (ap (λ l. l ++ mirror_event e ∷ []) before
    ∙ sym (take_more (mirror_events es) i e (omega (arith, long, inside)) ∙ ap (λ y. take i (mirror_events es) ++ y ∷ []) (event_back es i e e inside ∙ ap mirror_event (sym is))))

-- the times in the mirror are within the limits, and in order
sound_event : (n : ℕ) (e : Event) → IsSoundEvent n e → IsSoundEvent n (mirror_event e)
sound_event n e h = record {
  stop = h.stop;
  earliest = omega (arith, ints, h.latest);
  waits = omega (arith, ints, h.waits);
  latest = omega (arith, ints, h.earliest);
}

pub sound_trip : (n : ℕ) (t : TripData) → IsSoundTrip n t → IsSoundTrip n (mirror_trip t)
sound_trip n t h = record {
  long = rw (length-mirror_events t.events) h.long;
  events = λ i d inside.
      let within : i < length t.events = rw (← length-mirror_events t.events) inside in
      subst (IsSoundEvent n) (sym (event_back t.events i d no_event within)) (sound_event n (get_or t.events (length t.events - 1 - i) no_event) (h.events (length t.events - 1 - i) no_event (omega (arith, within))));
  onward = λ i j d before inside.
      let within : j < length t.events = rw (← length-mirror_events t.events) inside in
      let from : get_or (mirror_events t.events) i d ≡ mirror_event (get_or t.events (length t.events - 1 - i) no_event) = event_back t.events i d no_event (omega (arith, before, within)) in
      let to : get_or (mirror_events t.events) j d ≡ mirror_event (get_or t.events (length t.events - 1 - j) no_event) = event_back t.events j d no_event within in
      let order = h.onward (length t.events - 1 - j) (length t.events - 1 - i) no_event (omega (arith, before, within)) (omega (arith, before, within)) in
      rw (from, to) (turned (get_or t.events (length t.events - 1 - j) no_event) (get_or t.events (length t.events - 1 - i) no_event) order);
}
  where
    turned : (e f : Event) → e.dep ≤ℤ f.arr → (mirror_event f).dep ≤ℤ (mirror_event e).arr
    turned e f h = omega (arith, ints, h)

pub sound_trips : (n : ℕ) (ts ms : List TripData) → ms ≡ map mirror_trip ts → All (IsSoundTrip n) ts → All (IsSoundTrip n) ms
sound_trips n ts ms is h = subst (All (IsSoundTrip n)) (sym is) (All-map (IsSoundTrip n) mirror_trip ts (λ i d inside. sound_trip n (get_or ts i d) (h i d inside)))

-- there are as many events
pub events_in : (ts ms : List TripData) → ms ≡ map mirror_trip ts → sum_by (λ t. length (TripData.events t)) ms ≡ sum_by (λ t. length (TripData.events t)) ts
events_in ts ms is = ap (sum_by (λ t. length (TripData.events t))) is ∙ same ts
  where
    same : (ts : List TripData) → sum_by (λ t. length (TripData.events t)) (map mirror_trip ts) ≡ sum_by (λ t. length (TripData.events t)) ts
    same [] = refl
    same (t ∷ ts) = omega (arith, sum_by-cons (λ t. length (TripData.events t)) (mirror_trip t) (map mirror_trip ts), sum_by-cons (λ t. length (TripData.events t)) t ts, length-mirror_events t.events, same ts)

-- a trip that is made of its parts
pub trip_is : (x : TripData) (name : List ℕ) (day : ServiceDay) (es : List Event) → name ≡ x.name → day ≡ x.day → es ≡ mirror_events x.events → record { name = name; day = day; events = es } ≡ mirror_trip x
trip_is x name day es n d e = λ i. record { name = n i; day = d i; events = e i }

-- one trip more
pub trip_more : (ts : List TripData) (i : ℕ) (t : TripData) (ys zs : List TripData) → ys ≡ map mirror_trip (take i ts) → slice_get ts i ≡ Some t → zs ≡ ys ++ mirror_trip t ∷ [] → zs ≡ map mirror_trip (take (i + 1) ts)
trip_more ts i t ys zs before at after =
    after ∙ (ap (λ l. l ++ mirror_trip t ∷ []) before
    ∙ sym (map_more mirror_trip ts i t (slice_get_within ts i t at) ∙ ap (λ y. map mirror_trip (take i ts) ++ mirror_trip y ∷ []) (get_or_from_slice_get ts i t t at)))
