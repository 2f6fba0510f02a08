-- Calls put one behind the other.
use Rattle.std.proofs.Common.{◌≡◌, ◌∙◌, ℕ, suc, ◌+◌, ◌-◌, ◌<◌, ◌≤◌, inl, inr, List, [], ◌∷◌, ◌++◌, length, map, get_or, take, sym, ap, subst, arith, length-append}
use Rattle.std.proofs.lemmas.Bool.{cases_lt}
use Rattle.std.proofs.lemmas.List.{append_assoc, get_or-map, get_or_append_left, get_or_past, length-map, map-append, take_more}
use Rattle.std.proofs.Math.Seq.{get_or-append_right}
use Rattle.tb_base.specs.declared.table.Event.{Event}
use Rattle.tb_base.specs.TimetableData.{TripData, TimetableData, event_at, events_of, no_event, no_trip}
use Rattle.tb_base.proofs.NumberFacts.{below_or_last}
use Rattle.transfer_pack.specs.declared.calls.Call.{Call}
use Rattle.transfer_pack.specs.declared.packed_call.PackedCall.{PackedCall}
use Rattle.transfer_pack.specs.CallsOf.{call_of, no_call}
use Rattle.transfer_pack.specs.Flat.{AreFlat}
use Rattle.transfer_pack.specs.PackedCalls.{calls_in, spot_call}
use Rattle.transfer_pack.proofs.Ends.{last_one}

-- one event more
pub call_more : (calls : List Call) (spots : List PackedCall) (events : List Event) (k : ℕ) (e : Event) (s : PackedCall) → calls_in spots ≡ calls ++ map call_of (take k events) → k < length events → e ≡ get_or events k e → spot_call s ≡ call_of e
    → calls_in (spots ++ s ∷ []) ≡ calls ++ map call_of (take (k + 1) events)
call_more calls spots events k e s so_far below is call =
    map-append spot_call spots (s ∷ []) ∙ (λ i. so_far i ++ call i ∷ []) ∙ append_assoc calls (map call_of (take k events)) (call_of e ∷ [])
    ∙ ap (λ cs. calls ++ cs) (sym (map-append call_of (take k events) (e ∷ [])) ∙ ap (λ x. map call_of (take k events ++ x ∷ [])) is ∙ ap (map call_of) (sym (take_more events k e below)))

-- one trip more
pub flat_more : (T : TimetableData) (n : ℕ) (bounds : List ℕ) (calls : List Call) (events : List Event) (end : ℕ) → AreFlat T n bounds calls → get_or bounds n 0 ≡ length calls → events ≡ events_of T n → end ≡ length calls + length events
    → AreFlat T (n + 1) (bounds ++ end ∷ []) (calls ++ map call_of events)
flat_more T n bounds calls events end are last is end_is = record {
  long = omega (arith, length-append bounds (end ∷ []), are.long);
  ends = λ t below. elim (below_or_last t n (omega (arith, below))) [
    | inl h ↦ early (suc t) (omega (arith, h)) ∙ are.ends t h ∙ ap (λ k. k + length (events_of T t)) (sym (early t (omega (arith, h))))
    | inr e ↦ omega (arith, last_one bounds end 0 (suc t) (omega (arith, e, are.long)), end_is, here t e, many t e)
  ];
  inside = λ t below. elim (below_or_last t n (omega (arith, below))) [
    | inl h ↦ omega (arith, early t (omega (arith, h)), are.inside t h, longer)
    | inr e ↦ omega (arith, here t e, many t e, longer)
  ];
  each = λ t i below inside. elim (below_or_last t n (omega (arith, below))) [
    | inl h ↦ ap (λ k. get_or (calls ++ map call_of events) (k + i) no_call) (early t (omega (arith, h))) ∙ get_or_append_left calls (map call_of events) no_call (get_or bounds t 0 + i) (omega (arith, are.inside t h, inside)) ∙ are.each t i h inside
    | inr e ↦ ap (λ k. get_or (calls ++ map call_of events) (k + i) no_call) (here t e) ∙ in_calls i (omega (arith, inside, many t e)) ∙ ap (λ es. call_of (get_or es i no_event)) (is ∙ ap (events_of T) (sym e))
  ];
}
  where
    early : (t : ℕ) → t < suc n → get_or (bounds ++ end ∷ []) t 0 ≡ get_or bounds t 0
    early t h = get_or_append_left bounds (end ∷ []) 0 t (omega (arith, h, are.long))

    here : (t : ℕ) → t ≡ n → get_or (bounds ++ end ∷ []) t 0 ≡ length calls
    here t e = early t (omega (arith, e)) ∙ ap (λ k. get_or bounds k 0) e ∙ last

    many : (t : ℕ) → t ≡ n → length (events_of T t) ≡ length events
    many t e = ap (λ k. length (events_of T k)) e ∙ ap length (sym is)

    longer : length (calls ++ map call_of events) ≡ length calls + length events
    longer = length-append calls (map call_of events) ∙ ap (λ k. length calls + k) (length-map events call_of)

    same_place : (a i : ℕ) → a + i - a ≡ i
    same_place a i = omega arith

    in_calls : (i : ℕ) → i < length events → get_or (calls ++ map call_of events) (length calls + i) no_call ≡ call_of (get_or events i no_event)
    in_calls i h =
        get_or-append_right calls (map call_of events) (length calls + i) no_call (omega arith)
        ∙ ap (λ k. get_or (map call_of events) k no_call) (same_place (length calls) i)
        ∙ get_or-map call_of events i no_event no_call h

pub last_more : (n : ℕ) (bounds : List ℕ) (calls : List Call) (events : List Event) (end : ℕ) → length bounds ≡ suc n → end ≡ length calls + length events → get_or (bounds ++ end ∷ []) (n + 1) 0 ≡ length (calls ++ map call_of events)
last_more n bounds calls events end long is =
    last_one bounds end 0 (n + 1) (omega (arith, long)) ∙ is ∙ sym (length-append calls (map call_of events) ∙ ap (λ k. length calls + k) (length-map events call_of))

-- an event is of a trip that there is
pub trip_inside : (T : TimetableData) (t i : ℕ) → i < length (events_of T t) → t < length T.trips
trip_inside T t i h = elim (cases_lt t (length T.trips)) [
  | inl k ↦ k
  | inr k ↦ absurd (omega (arith, h, ap (λ (x : TripData). length x.events) (get_or_past T.trips t no_trip k)))
]

-- the events of a trip that there is not
pub no_events : (T : TimetableData) (t : ℕ) → length T.trips ≤ t → length (events_of T t) ≡ 0
no_events T t h = ap (λ (x : TripData). length x.events) (get_or_past T.trips t no_trip h)

-- the place of a call is one of the packed ones, and the call stands there
pub spot_inside : (T : TimetableData) (bounds : List ℕ) (spots : List PackedCall) (t i : ℕ) → AreFlat T (length T.trips) bounds (calls_in spots) → i < length (events_of T t) → get_or bounds t 0 + i < length spots
spot_inside T bounds spots t i are h = omega (arith, are.inside t (trip_inside T t i h), h, length-map spots spot_call)

pub spot_is : (T : TimetableData) (bounds : List ℕ) (spots : List PackedCall) (t i n : ℕ) (s : PackedCall) → AreFlat T (length T.trips) bounds (calls_in spots) → i < length (events_of T t) → n ≡ get_or bounds t 0 + i → s ≡ get_or spots n s → spot_call s ≡ call_of (event_at T t i)
spot_is T bounds spots t i n s are h is s_is =
    ap spot_call s_is ∙ sym (get_or-map spot_call spots n s no_call (subst (λ k. k < length spots) (sym is) (spot_inside T bounds spots t i are h))) ∙ ap (λ k. get_or (calls_in spots) k no_call) is ∙ are.each t i (trip_inside T t i h) h
