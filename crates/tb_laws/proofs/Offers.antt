-- What alternatives offer at a stop, and which of them are kept.
use Rattle.std.proofs.Common.{◌≡◌, ℕ, ◌⊎◌, inl, inr, List, [], ◌∷◌, ◌&&◌, Bool, true, false, refl, sym, ap, subst, ◌∙◌, ℤ, pos, ◌+ℤ◌, ◌≤ℤ◌, Option, Some, None, fold}
use Rattle.std.specs.Prelude.{Contains}
use Rattle.std.specs.List.{list_all}
use Rattle.std.specs.Int.{int_min}
use Rattle.std.specs.Option.{option_map}
use Rattle.std.proofs.lemmas.Int.{fold-int_min_bounds, fold-int_min_reached}
use Rattle.std.proofs.lemmas.List.Elements.{All-contains}
use Rattle.tb_base.specs.declared.table.Event.{Event}
use Rattle.tb_base.specs.Transfers.{least, earliest_offer, is_sooner, is_soonest}
use Rattle.tb_base.proofs.Ordered.{Member, Member-from_Contains, Contains-from_Member}
use Rattle.tb_base.proofs.Members.{Member-filter_map, Member-filter_map_back}
use Rattle.tb_base.proofs.Lists.{option_map-back}
use Rattle.tb_base.proofs.NumberFacts.{≤ℤ-trans, ≤ℤ-same, int_lt-false}

-- by these seconds one of the events is at stop p by the time
pub record Offers (secs_to : ℕ → ℕ → Option ℕ) (p : ℕ) (events : List Event) (time : ℤ) : Type 0 where
  pub event : Event
  pub member : Member event events
  pub secs : ℕ
  pub leads : secs_to event.stop p ≡ Some secs
  pub in_time : (event.arr +ℤ pos secs) ≤ℤ time

least_bound : (xs : List ℤ) (n : ℤ) → Member n xs → (m : ℤ) × (least xs ≡ Some m) × (m ≤ℤ n)
least_bound [] n h = absurd h
least_bound (x ∷ xs) n (inl e) = (fold int_min x xs, refl, subst (λ k. fold int_min x xs ≤ℤ k) e (fold-int_min_bounds x xs (fold int_min x xs) refl).0)
least_bound (x ∷ xs) n (inr h) = (fold int_min x xs, refl, All-contains (λ k. fold int_min x xs ≤ℤ k) xs n (fold-int_min_bounds x xs (fold int_min x xs) refl).1 (Contains-from_Member n xs h))

least_member : (xs : List ℤ) (m : ℤ) → least xs ≡ Some m → Member m xs
least_member [] m h = cc
least_member (x ∷ xs) m h = let is : fold int_min x xs ≡ m = cc in by_case (fold-int_min_reached x xs m (sym is))
  where
    by_case : (m ≡ x) ⊎ Contains xs m → Member m (x ∷ xs)
    by_case (inl e) = inl (sym e)
    by_case (inr h) = inr (Member-from_Contains m xs h)

module _ (secs_to : ℕ → ℕ → Option ℕ) (p : ℕ) where
  earliest_of_offer : (events : List Event) (time : ℤ) → Offers secs_to p events time → (m : ℤ) × (earliest_offer secs_to events p ≡ Some m) × (m ≤ℤ time)
  earliest_of_offer events time h =
      let e : Event = h.event in
      let is : option_map (λ secs. e.arr +ℤ pos secs) (secs_to e.stop p) ≡ Some (e.arr +ℤ pos h.secs) = ap (option_map (λ secs. e.arr +ℤ pos secs)) h.leads in
      let b = least_bound _ _ (Member-filter_map (λ (e : Event). option_map (λ secs. e.arr +ℤ pos secs) (secs_to e.stop p)) e _ events h.member is) in
      (b.0, b.1, ≤ℤ-trans _ _ _ b.2 h.in_time)

  offer_of_earliest : (events : List Event) (m : ℤ) → earliest_offer secs_to events p ≡ Some m → Offers secs_to p events m
  offer_of_earliest events m h =
      let found = Member-filter_map_back (λ (e : Event). option_map (λ secs. e.arr +ℤ pos secs) (secs_to e.stop p)) m events (least_member _ m h) in
      let part = option_map-back (λ secs. (found.0).arr +ℤ pos secs) (secs_to (found.0).stop p) m found.2 in
      record { event = found.0; member = found.1; secs = part.0; leads = part.1; in_time = ≤ℤ-same _ _ part.2 }

  pub Offers-later : (events : List Event) (m n : ℤ) → m ≤ℤ n → Offers secs_to p events m → Offers secs_to p events n
  Offers-later events m n h o = record { event = o.event; member = o.member; secs = o.secs; leads = o.leads; in_time = ≤ℤ-trans _ _ _ o.in_time h }

  -- what is not sooner than every earlier one is offered by one of them
  pub offered_before : (earlier : List (List Event)) (events : List Event) (time : ℤ) → Offers secs_to p events time → is_soonest secs_to earlier events p ≡ false → (es : List Event) × Member es earlier × Offers secs_to p es time
  offered_before earlier events time offer h =
      let own = earliest_of_offer events time offer in
      let other = not_all earlier h in
      (other.0, other.1, by_option (earliest_offer secs_to other.0 p) refl (own.0) own.2 (ap (λ o. is_sooner o (earliest_offer secs_to other.0 p)) (sym own.1) ∙ other.2))
    where
      not_all : (ess : List (List Event)) → list_all (λ es. is_sooner (earliest_offer secs_to events p) (earliest_offer secs_to es p)) ess ≡ false → (es : List Event) × Member es ess × (is_sooner (earliest_offer secs_to events p) (earliest_offer secs_to es p) ≡ false)
      not_all [] h = cc
      not_all (es ∷ ess) h = one (λ k. not_all ess k) (is_sooner (earliest_offer secs_to events p) (earliest_offer secs_to es p)) refl h
        where
          one : (list_all (λ es. is_sooner (earliest_offer secs_to events p) (earliest_offer secs_to es p)) ess ≡ false → (es : List Event) × Member es ess × (is_sooner (earliest_offer secs_to events p) (earliest_offer secs_to es p) ≡ false)) →
              (b : Bool) → b ≡ is_sooner (earliest_offer secs_to events p) (earliest_offer secs_to es p) → (b && list_all (λ es. is_sooner (earliest_offer secs_to events p) (earliest_offer secs_to es p)) ess) ≡ false →
              (x : List Event) × Member x (es ∷ ess) × (is_sooner (earliest_offer secs_to events p) (earliest_offer secs_to x p) ≡ false)
          one more true e h = let r : (x : List Event) × Member x ess × (is_sooner (earliest_offer secs_to events p) (earliest_offer secs_to x p) ≡ false) = more h in (r.0, inr r.1, r.2)
          one more false e h = (es, inl refl, sym e)

      by_option : {es : List Event} (o : Option ℤ) → o ≡ earliest_offer secs_to es p → (m : ℤ) → m ≤ℤ time → is_sooner (Some m) o ≡ false → Offers secs_to p es time
      by_option None e m below h = cc
      by_option {es} (Some n) e m below h = Offers-later es n time (≤ℤ-trans n m time (int_lt-false m n h) below) (offer_of_earliest es n (sym e))
