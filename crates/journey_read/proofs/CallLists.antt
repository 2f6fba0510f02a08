-- The calls of a trip are put into a list, and in order.
use Rattle.std.proofs.Common.{◌≡◌, ◌∙◌, ap, refl, sym, subst, ℕ, ◌+◌, ◌<◌, ◌≤◌, ◌++◌, List, [], ◌∷◌, length, get_or, ◌-◌, ◌⊎◌, Option, None, inl, inr, arith, ℤ}
use Rattle.std.specs.Prelude.{Contains, IfSome}
use Rattle.std.specs.List.Sorted.{IsPermutation, IsSorted}
use Rattle.std.proofs.lemmas.Bool.{cases_lt}
use Rattle.std.proofs.lemmas.List.{get_or_append_left, get_or_default, get_or-append_right, length-append}
use Rattle.std.proofs.lemmas.List.Elements.{All-push, Contains-append_left, Contains-push}
use Rattle.std.proofs.lemmas.List.Sorted.{All-permutation, Contains-permutation}
use Rattle.tb_base.specs.declared.table.Event.{Event}
use Rattle.tb_base.specs.TimetableData.{TripData, no_event, no_trip}
use Rattle.journey_read.specs.declared.calls.Call.{Call}
use Rattle.journey_read.specs.declared.calls.TripCalls.{TripCalls}
use Rattle.journey_read.specs.Calls.{AreCalls, AreInOrder, HaveCalls, HoldsCalls, call_at, compare_calls}

module _ (time : Event → ℤ) (events : List Event) where
  abbrev IsReal : ℕ → Call → Type 0
  IsReal n c = (c.at < n) × (c ≡ call_at time events c.at)

  pub no_calls : AreCalls time events 0 []
  no_calls = record { each = λ i h. absurd (omega (arith, h)); real = λ k d h. absurd (omega (arith, h)) }

  pub one_call_more : (n : ℕ) (calls : List Call) (c : Call) → AreCalls time events n calls → c ≡ call_at time events n → AreCalls time events (n + 1) (calls ++ c ∷ [])
  one_call_more n calls c are is = record {
    each = λ i h. here i h (cases_lt i n);
    real = All-push (IsReal (n + 1)) calls c (λ k d h. let old = are.real k d h in (let low = old.0 in omega (arith, low), old.1)) (real_of c is);
  } where
    real_of : (c : Call) → c ≡ call_at time events n → IsReal (n + 1) c
    real_of c is = subst (IsReal (n + 1)) (sym is) (omega arith, refl)

    here : (i : ℕ) → i < n + 1 → (i < n) ⊎ (n ≤ i) → Contains (calls ++ c ∷ []) (call_at time events i)
    here i h (inl before) = Contains-append_left calls (c ∷ []) (call_at time events i) (are.each i before)
    here i h (inr from) =
        let last : n ≡ i = omega (arith, h, from) in
        subst (λ j. Contains (calls ++ c ∷ []) (call_at time events j)) last (subst (Contains (calls ++ c ∷ [])) is (Contains-push calls c))

  pub one_event_more : (n : ℕ) (calls new : List Call) (c : Call) (e : Event) → n < length events → e ≡ get_or events n e → c.stop ≡ e.stop → c.time ≡ time e → c.at ≡ n → AreCalls time events n calls → new ≡ calls ++ c ∷ [] → AreCalls time events (n + 1) new
  one_event_more n calls new c e inside at stops times places are added =
      let here : e ≡ get_or events n no_event = at ∙ get_or_default events n e no_event inside in
      let stop : c.stop ≡ (get_or events n no_event).stop = stops ∙ ap (λ (e : Event). e.stop) here in
      let when : c.time ≡ time (get_or events n no_event) = times ∙ ap time here in
      subst (AreCalls time events (n + 1)) (sym added) (one_call_more n calls c are (λ i. record { stop = stop i; time = when i; at = places i }))

  pub put_in_order : (calls sorted : List Call) → AreCalls time events (length events) calls → IsPermutation calls sorted → IsSorted compare_calls sorted → AreInOrder time events sorted
  put_in_order calls sorted are moved up = record {
    all = record {
      each = λ i h. Contains-permutation calls sorted (call_at time events i) moved (are.each i h);
      real = All-permutation (IsReal (length events)) calls sorted moved are.real;
    };
    order = up;
  }

-- for each of the first trips its calls, or nothing
pub record HaveFirst (trips : List TripData) (n : ℕ) (calls : List (Option TripCalls)) : Type 0 where
  pub many : length calls ≡ n
  pub each : (t : ℕ) → t < n → IfSome (get_or calls t None) (HoldsCalls (TripData.events (get_or trips t no_trip)))

pub one_trip_more : (trips : List TripData) (n : ℕ) (calls : List (Option TripCalls)) (c : Option TripCalls) → HaveFirst trips n calls → IfSome c (HoldsCalls (TripData.events (get_or trips n no_trip)))
    → HaveFirst trips (n + 1) (calls ++ c ∷ [])
one_trip_more trips n calls c have is = record {
  many = omega (arith, length-append calls (c ∷ []), have.many);
  each = λ t h. here t h (cases_lt t n);
} where
  here : (t : ℕ) → t < n + 1 → (t < n) ⊎ (n ≤ t) → IfSome (get_or (calls ++ c ∷ []) t None) (HoldsCalls (TripData.events (get_or trips t no_trip)))
  here t h (inl before) =
      let many = have.many in
      subst (λ o. IfSome o (HoldsCalls (TripData.events (get_or trips t no_trip)))) (sym (get_or_append_left calls (c ∷ []) None t (omega (arith, before, many)))) (have.each t before)
  here t h (inr from) =
      let many = have.many in
      let last : n ≡ t = omega (arith, h, from) in
      let none : t - n ≡ 0 = omega (arith, last) in
      let at : get_or (calls ++ c ∷ []) t None ≡ get_or (c ∷ []) (t - n) None = get_or-append_right calls (c ∷ []) n t None many from in
      subst (λ o. IfSome o (HoldsCalls (TripData.events (get_or trips t no_trip)))) (sym at)
      (subst (λ k. IfSome (get_or (c ∷ []) k None) (HoldsCalls (TripData.events (get_or trips t no_trip)))) (sym none)
      (subst (λ k. IfSome c (HoldsCalls (TripData.events (get_or trips k no_trip)))) last is))

pub no_trips_yet : (trips : List TripData) → HaveFirst trips 0 []
no_trips_yet trips = record { many = refl; each = λ t h. absurd (omega (arith, h)) }

pub all_trips : (trips : List TripData) (n : ℕ) (calls : List (Option TripCalls)) → length trips ≡ n → HaveFirst trips n calls → HaveCalls trips calls
all_trips trips n calls is have = (let many = have.many in record { many = omega (arith, is, many); each = λ t h. have.each t (omega (arith, many, h)) })
