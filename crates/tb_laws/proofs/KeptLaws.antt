-- The kept transfers are sufficient, under the law on footpaths.
use Rattle.std.proofs.Common.{◌≡◌, ℕ, zero, suc, ◌<◌, ◌≤◌, ◌+◌, ◌==◌, ◌⊎◌, inl, inr, List, [], ◌∷◌, ◌++◌, length, map, drop, get_or, ◌&&◌, ◌||◌, Bool, true, false, cond, refl, sym, ap, subst, ◌∙◌, arith, ℤ, pos, ◌+ℤ◌, ◌≤ℤ◌, Option, Some, None, length-append}
use Rattle.std.specs.Prelude.{nat_lt, Contains, All, AllPairs, filter, flat_map, find, IsSome, slice_index_or}
use Rattle.std.specs.List.{list_any}
use Rattle.std.specs.Option.{option_map}
use Rattle.std.proofs.lemmas.List.Elements.{All-contains}
use Rattle.std.proofs.lemmas.List.{get_or_default}
use Rattle.std.proofs.lemmas.Bool.{or_parts, and_from, eqb-true, eq-eqb, and_parts}
use Rattle.tb_base.specs.declared.table.Event.{Event}
use Rattle.tb_base.specs.declared.table.Path.{Path}
use Rattle.tb_base.specs.declared.transfer.Hop.{Hop}
use Rattle.tb_base.specs.TimetableData.{TimetableData, no_event, events_of, event_at, MayAlight}
use Rattle.tb_base.specs.Walking.{walk, change, footpath_secs}
use Rattle.tb_base.specs.Soundness.{IsSound, IsSoundPath}
use Rattle.tb_base.specs.Journeys.{Ride, IsRide, LeadsOn, Leads, LeavesNoEarlier, arrival_after, boarding_stop, boarding_time, alighting_stop, alighting_time}
use Rattle.tb_base.specs.Lines.{AreDividedInto}
use Rattle.tb_base.specs.Transfers.{Alternative, alightings, alightings_by, numbers_down, is_soonest, is_improvement, improving_alternatives, numbers_below, alternatives, alternatives_at, candidates_without_u_turns, kept_alternatives, kept_hops}
use Rattle.tb_base.specs.Sufficiency.{IsPossibleHop, SavesARide, GoesByHop, AreSufficient}
use Rattle.tb_base.proofs.Events.{MayBoard-inside, MayAlight-inside}
use Rattle.tb_base.proofs.Ordered.{Member, Member-from_Contains, Contains-from_Member, AllPairs-head, AllPairs-tail}
use Rattle.tb_base.proofs.Members.{AllPairs-append, AllPairs-cons, Member-flat_map, Member-flat_map_back, Member-filter, Member-filter_back, Member-filter_map, Member-filter_map_back, Member-numbers_below, find_found, Member-map, Member-map_back}
use Rattle.tb_laws.proofs.Offers.{Offers, offered_before}
use Rattle.tb_laws.proofs.Exchange.{change_in, ≤ℤ-refl, Leads-at, replaced}
use Rattle.tb_laws.proofs.Triangles.{walk_secs-is}
use Rattle.tb_base.proofs.NumberFacts.{below_or_last}
use Rattle.tb_base.proofs.Walks.{leaving_sound}
use Rattle.tb_laws.proofs.CandidateLaws.{some_and, and_some, stop_inside}
use Rattle.tb_laws.proofs.UTurnLaws.{some, SavesARide-trans, GoesByHop-trans, candidates_without_u_turns_sufficient}

-- by walking, or by changing
abbrev secs_by : TimetableData → Bool → ℕ → ℕ → Option ℕ
secs_by T true = walk T
secs_by T false = change T

none_passes : (test : ℕ → Bool) (xs : List ℕ) → list_any test xs ≡ false → (x : ℕ) → Member x xs → test x ≡ false
none_passes test [] h x k = absurd k
none_passes test (y ∷ ys) h x (inl e) = ap test (sym e) ∙ (or_parts (test y) (list_any test ys) h).0
none_passes test (y ∷ ys) h x (inr k) = none_passes test ys (or_parts (test y) (list_any test ys) h).1 x k

not_soonest : (T : TimetableData) (on_foot : Bool) (earlier : List (List Event)) (events : List Event) (p : ℕ) → p < length T.stops → is_improvement T earlier events ≡ false → is_soonest (secs_by T on_foot) earlier events p ≡ false
not_soonest T on_foot earlier events p inside h =
    by_way on_foot (or_parts _ _ (none_passes (λ p. is_soonest (walk T) earlier events p || is_soonest (change T) earlier events p) (numbers_below (length T.stops)) h p (Member-numbers_below p (length T.stops) inside)))
  where
    by_way : (b : Bool) → (is_soonest (walk T) earlier events p ≡ false) × (is_soonest (change T) earlier events p ≡ false) → is_soonest (secs_by T b) earlier events p ≡ false
    by_way true h = h.0
    by_way false h = h.1

-- alternatives stand by their events, from the last one down
abbrev pub NotBefore : Alternative → Alternative → Type 0
NotBefore a b = b.at ≤ a.at

module _ (T : TimetableData) (t : ℕ) (on_foot : Bool) (p : ℕ) (inside : p < length T.stops) (time : ℤ) where
  -- a kept alternative at event i or later that offers as much
  record KeptOffer (earlier : List (List Event)) (alts : List Alternative) (i : ℕ) : Type 0 where
    pub by : Alternative
    pub member : Member by (improving_alternatives T t earlier alts)
    pub offers : Offers (secs_by T on_foot) p (alightings T t by) time
    pub later : i ≤ by.at

  abbrev Found : List (List Event) → List Alternative → ℕ → Type 0
  Found earlier alts i = ((es : List Event) × Member es earlier × Offers (secs_by T on_foot) p es time) ⊎ KeptOffer earlier alts i

  kept_first : (earlier : List (List Event)) (a : Alternative) (rest : List Alternative) (i : ℕ) → i ≤ a.at → Offers (secs_by T on_foot) p (alightings T t a) time → Found earlier (a ∷ rest) i
  kept_first earlier a rest i below offer = by_test (is_improvement T earlier (alightings T t a)) refl
    where
      by_test : (b : Bool) → b ≡ is_improvement T earlier (alightings T t a) → Found earlier (a ∷ rest) i
      by_test true e = inr (record { by = a; member = subst (λ b. Member a (cond b (a ∷ improving_alternatives T t (alightings T t a ∷ earlier) rest) (improving_alternatives T t (alightings T t a ∷ earlier) rest))) e (inl refl); offers = offer; later = below })
      by_test false e = inl (offered_before (secs_by T on_foot) p earlier (alightings T t a) time offer (not_soonest T on_foot earlier (alightings T t a) p inside (sym e)))

  kept_behind : (earlier : List (List Event)) (a : Alternative) (rest : List Alternative) (x : Alternative) → Member x (improving_alternatives T t (alightings T t a ∷ earlier) rest) → Member x (improving_alternatives T t earlier (a ∷ rest))
  kept_behind earlier a rest x h = by_test (is_improvement T earlier (alightings T t a))
    where
      by_test : (b : Bool) → Member x (cond b (a ∷ improving_alternatives T t (alightings T t a ∷ earlier) rest) (improving_alternatives T t (alightings T t a ∷ earlier) rest))
      by_test true = inr h
      by_test false = h

  kept_offer : (earlier : List (List Event)) (alts : List Alternative) (a : Alternative) → AllPairs NotBefore alts → Member a alts → Offers (secs_by T on_foot) p (alightings T t a) time → Found earlier alts a.at
  kept_offer earlier [] a pairs h offer = absurd h
  kept_offer earlier (b ∷ rest) a pairs (inl e) offer = kept_first earlier b rest a.at (omega (arith, ap (λ (x : Alternative). x.at) e)) (subst (λ x. Offers (secs_by T on_foot) p (alightings T t x) time) (sym e) offer)
  kept_offer earlier (b ∷ rest) a pairs (inr h) offer = by_case (kept_offer (alightings T t b ∷ earlier) rest a (AllPairs-tail NotBefore b rest pairs) h offer)
    where
      by_case : Found (alightings T t b ∷ earlier) rest a.at → Found earlier (b ∷ rest) a.at
      by_case (inl (es, inl e, o)) = kept_first earlier b rest a.at (AllPairs-head NotBefore b rest pairs a (Contains-from_Member a rest h)) (subst (λ es. Offers (secs_by T on_foot) p es time) (sym e) o)
      by_case (inl (es, inr k, o)) = inl (es, k, o)
      by_case (inr k) = inr (record { by = k.by; member = kept_behind earlier b rest k.by k.member; offers = k.offers; later = k.later })

module _ (T : TimetableData) (t : ℕ) where
  pub improving_alternatives-member : (earlier : List (List Event)) (alts : List Alternative) (x : Alternative) → Member x (improving_alternatives T t earlier alts) → Member x alts
  improving_alternatives-member earlier [] x h = absurd h
  improving_alternatives-member earlier (a ∷ rest) x h = by_test (λ k. improving_alternatives-member (alightings T t a ∷ earlier) rest x k) (is_improvement T earlier (alightings T t a)) h
    where
      by_test : (Member x (improving_alternatives T t (alightings T t a ∷ earlier) rest) → Member x rest) → (b : Bool) → Member x (cond b (a ∷ improving_alternatives T t (alightings T t a ∷ earlier) rest) (improving_alternatives T t (alightings T t a ∷ earlier) rest)) → Member x (a ∷ rest)
      by_test more true (inl e) = inl e
      by_test more true (inr h) = inr (more h)
      by_test more false h = inr (more h)

-- ---- lists in order

Member-numbers_down : (k n : ℕ) → k < n → Member k (numbers_down n)
Member-numbers_down k zero h = absurd (omega arith)
Member-numbers_down k (suc n) h = by_case (λ l. Member-numbers_down k n l) (below_or_last k n h)
  where
    by_case : (k < n → Member k (numbers_down n)) → (k < n) ⊎ (k ≡ n) → Member k (n ∷ numbers_down n)
    by_case more (inl l) = inr (more l)
    by_case more (inr e) = inl (sym e)

numbers_down-below : (k n : ℕ) → Member k (numbers_down n) → k < n
numbers_down-below k zero h = absurd h
numbers_down-below k (suc n) (inl e) = omega (arith, e)
numbers_down-below k (suc n) (inr h) = let l : k < n = numbers_down-below k n h in omega (arith, l)

Member-drop : {X : Type 0} (n k : ℕ) (xs : List X) (d : X) → n ≤ k → k < length xs → Member (get_or xs k d) (drop n xs)
Member-drop n k [] d h l = absurd (omega arith)
Member-drop zero k (x ∷ xs) d h l = Member-from_Contains (get_or (x ∷ xs) k d) (x ∷ xs) (k, l, get_or_default (x ∷ xs) k (get_or (x ∷ xs) k d) d l)
Member-drop (suc n) zero (x ∷ xs) d h l = absurd (omega arith)
Member-drop (suc n) (suc k) (x ∷ xs) d h l = Member-drop n k xs d (omega arith) (omega arith)

Member-drop_back : {X : Type 0} (n : ℕ) (xs : List X) (d x : X) → Member x (drop n xs) → (k : ℕ) × (n ≤ k) × (k < length xs) × (get_or xs k d ≡ x)
Member-drop_back {X} n [] d x h = by_number n h
  where
    by_number : (n : ℕ) → Member x (drop n []) → (k : ℕ) × (n ≤ k) × (k < length {A = X} []) × (get_or [] k d ≡ x)
    by_number zero h = absurd h
    by_number (suc n) h = absurd h
Member-drop_back zero (y ∷ ys) d x h = let c = Contains-from_Member x (y ∷ ys) h in (c.0, omega arith, c.1, get_or_default (y ∷ ys) c.0 d x c.1 ∙ c.2)
Member-drop_back (suc n) (y ∷ ys) d x h = let r = Member-drop_back n ys d x h in (suc r.0, omega (arith, r.1), omega (arith, r.2), r.3)

AllPairs-members : {X : Type 0} (R : X → X → Type 0) (xs : List X) → ((x y : X) → Member x xs → Member y xs → R x y) → AllPairs R xs
AllPairs-members R xs f i j d before below = f (get_or xs i d) (get_or xs j d) (at i (omega (arith, before, below))) (at j below)
  where
    at : (k : ℕ) → k < length xs → Member (get_or xs k d) xs
    at k l = Member-from_Contains (get_or xs k d) xs (k, l, get_or_default xs k (get_or xs k d) d l)

pub numbers_down-sorted : (n : ℕ) → AllPairs (λ i j. j ≤ i) (numbers_down n)
numbers_down-sorted zero = λ i j d before below. absurd (omega (arith, before, below))
numbers_down-sorted (suc n) = AllPairs-cons (λ i j. j ≤ i) n (numbers_down n) (λ k h. let l : k < n = numbers_down-below k n h in omega (arith, l)) (numbers_down-sorted n)

-- ---- the alternatives of a trip

-- what an alternative at event i is
pub record IsAlternative (T : TimetableData) (lines : List (List ℕ)) (t i : ℕ) (a : Alternative) : Type 0 where
  pub at : a.at ≡ i
  pub later : 0 < i
  pub alights : MayAlight T t i
  pub hop : (a.hop ≡ None) ⊎ ((h : Hop) × (a.hop ≡ Some h) × Member h (candidates_without_u_turns T lines t i))

module _ (T : TimetableData) (lines : List (List ℕ)) (t : ℕ) where
  alternatives_at-back : (i : ℕ) (a : Alternative) → Member a (alternatives_at T lines t i) → IsAlternative T lines t i a
  alternatives_at-back i a h = by_test (nat_lt 0 i && (event_at T t i).alight) refl h
    where
      at_first : (b : ℕ) → nat_lt 0 b ≡ true → 0 < b
      at_first b h = grind arith

      by_test : (b : Bool) → b ≡ (nat_lt 0 i && (event_at T t i).alight) → Member a (cond b (record { at = i; hop = None } ∷ map (λ h. record { at = i; hop = Some h }) (candidates_without_u_turns T lines t i)) []) → IsAlternative T lines t i a
      by_test false e h = absurd h
      by_test true e (inl is) = let tests = and_parts _ _ (sym e) in
          record { at = ap (λ (x : Alternative). x.at) (sym is); later = at_first i tests.0; alights = tests.1; hop = inl (ap (λ (x : Alternative). x.hop) (sym is)) }
      by_test true e (inr h) = let tests = and_parts _ _ (sym e) in
          let from = Member-map_back (λ h. record { at = i; hop = Some h }) a (candidates_without_u_turns T lines t i) h in
          record { at = ap (λ (x : Alternative). x.at) (sym from.2); later = at_first i tests.0; alights = tests.1; hop = inr (from.0, ap (λ (x : Alternative). x.hop) (sym from.2), from.1) }

  pub alternatives-sorted : (ns : List ℕ) → AllPairs (λ i j. j ≤ i) ns → AllPairs NotBefore (flat_map (alternatives_at T lines t) ns)
  alternatives-sorted [] p = λ i j d before below. absurd (omega (arith, before, below))
  alternatives-sorted (n ∷ ns) p =
      AllPairs-append NotBefore (alternatives_at T lines t n) (flat_map (alternatives_at T lines t) ns)
      (AllPairs-members NotBefore (alternatives_at T lines t n) (λ x y h k. omega (arith, (alternatives_at-back n x h).at, (alternatives_at-back n y k).at)))
      (alternatives-sorted ns (AllPairs-tail (λ i j. j ≤ i) n ns p))
      (λ x y h k. let m = Member-flat_map_back (alternatives_at T lines t) y ns k in
      let l : m.0 ≤ n = AllPairs-head (λ i j. j ≤ i) n ns p m.0 (Contains-from_Member m.0 ns m.1) in
      omega (arith, (alternatives_at-back n x h).at, (alternatives_at-back m.0 y m.2).at, l))

  pub alternatives-back : (a : Alternative) → Member a (alternatives T lines t) → IsAlternative T lines t a.at a
  alternatives-back a h =
      let m = Member-flat_map_back (alternatives_at T lines t) a (numbers_down (length (events_of T t))) h in
      let is : IsAlternative T lines t m.0 a = alternatives_at-back m.0 a m.2 in
      subst (λ i. IsAlternative T lines t i a) (sym is.at) is

  alternatives-of_hop : (i : ℕ) (h : Hop) → 0 < i → MayAlight T t i → Member h (candidates_without_u_turns T lines t i) → Member (record { at = i; hop = Some h }) (alternatives T lines t)
  alternatives-of_hop i h later alights member =
      Member-flat_map (alternatives_at T lines t) i _ (numbers_down (length (events_of T t))) (Member-numbers_down i (length (events_of T t)) (MayAlight-inside T t i alights).1)
      (subst (λ b. Member {X = Alternative} (record { at = i; hop = Some h }) (cond b (record { at = i; hop = None } ∷ map (λ h. record { at = i; hop = Some h }) (candidates_without_u_turns T lines t i)) []))
      (sym (and_from (nat_lt 0 i) (event_at T t i).alight (below_first i later) alights)) (inr (Member-map (λ h. record { at = i; hop = Some h }) h (candidates_without_u_turns T lines t i) member)))
    where
      below_first : (b : ℕ) → 0 < b → nat_lt 0 b ≡ true
      below_first b h = grind arith

-- ---- a walk leads to a stop of the table

found_inside : (n p q : ℕ) (row : List Path) → All (IsSoundPath n p) row → (s : ℕ) → option_map (λ (f : Path). f.secs) (find (λ f. f.to == q) row) ≡ Some s → q < n
found_inside n p q row sound s h = by_option (find (λ f. f.to == q) row) refl h
  where
    by_option : (o : Option Path) → o ≡ find (λ f. f.to == q) row → option_map (λ (f : Path). f.secs) o ≡ Some s → q < n
    by_option None e h = cc
    by_option (Some f) e h =
        let found = find_found (λ (f : Path). f.to == q) row f (sym e) in
        let path : IsSoundPath n p f = All-contains (IsSoundPath n p) row f sound (Contains-from_Member f row found.0) in
        subst (λ x. x < n) (eqb-true _ _ found.1) path.to

pub walk_inside : (T : TimetableData) → IsSound T → (p q s : ℕ) → p < length T.stops → walk T p q ≡ Some s → q < length T.stops
walk_inside T sound p q s inside h = by_test (p == q) refl h
  where
    by_test : (b : Bool) → b ≡ (p == q) → cond b (Some 0) (footpath_secs T.footpaths p q) ≡ Some s → q < length T.stops
    by_test true e h = subst (λ x. x < length T.stops) (eqb-true _ _ (sym e)) inside
    by_test false e h = found_inside (length T.stops) p q (slice_index_or T.footpaths.paths p []) (leaving_sound T p sound inside) s h

-- ---- the law

module _ (T : TimetableData) (lines : List (List ℕ)) (sound : IsSound T) (divided : AreDividedInto T lines) where
  onward : AreSufficient T (candidates_without_u_turns T lines)
  onward = candidates_without_u_turns_sufficient T lines sound divided

  abbrev KeptResult : ℤ → ℕ → ℕ → List Ride → Ride → Ride → List Ride → Type 0
  KeptResult asked o q before r s after = SavesARide T (change_in asked o q before r s after) ⊎ GoesByHop T (kept_hops T lines) (change_in asked o q before r s after)

  kept_hops-member : (t i : ℕ) (a : Alternative) (h : Hop) → Member a (kept_alternatives T lines t) → a.at ≡ i → a.hop ≡ Some h → Member h (kept_hops T lines t i)
  kept_hops-member t i a h member at hop =
      Member-filter_map (λ (a : Alternative). cond (a.at == i) a.hop None) a h (kept_alternatives T lines t) member (ap (λ b. cond b a.hop None) (eq-eqb a.at i at) ∙ hop)

  -- where another ride may end, to go on as well
  module _ (asked : ℤ) (o q : ℕ) (before : List Ride) (r s : Ride) (others : List Ride)
      (leads : Leads T o (before ++ r ∷ s ∷ others) q) (leaves : LeavesNoEarlier T asked o (before ++ r ∷ s ∷ others)) (r_rides : IsRide T r)
      (on_foot : Bool) (p : ℕ) (inside : p < length T.stops) (time : ℤ)
      (goes_on : (w : Ride) (n : ℕ) → secs_by T on_foot (alighting_stop T w) p ≡ Some n → (alighting_time T w +ℤ pos n) ≤ℤ time → LeadsOn T w others q × (arrival_after T w others q ≤ℤ arrival_after T s others q)) where
    -- an offer by an event of a trip
    by_event : (w : Ride) (events : List Event) (offer : Offers (secs_by T on_foot) p events time) → event_at T w.trip w.alight ≡ offer.event → LeadsOn T w others q × (arrival_after T w others q ≤ℤ arrival_after T s others q)
    by_event w events offer is =
        goes_on w offer.secs (subst (λ (e : Event). secs_by T on_foot e.stop p ≡ Some offer.secs) (sym is) offer.leads)
        (subst (λ (e : Event). (e.arr +ℤ pos offer.secs) ≤ℤ time) (sym is) offer.in_time)

    by_kept : KeptOffer T r.trip on_foot p inside time [] (alternatives T lines r.trip) r.alight → KeptResult asked o q before r s others
    by_kept k = by_hop is.hop
      where
        is : IsAlternative T lines r.trip k.by.at k.by
        is = alternatives-back T lines r.trip k.by (improving_alternatives-member T r.trip [] (alternatives T lines r.trip) k.by k.member)

        later : r.board < k.by.at
        later = omega (arith, r_rides.onward, k.later)

        here : Ride
        here = record { trip = r.trip; board = r.board; alight = k.by.at }

        here_rides : IsRide T here
        here_rides = record { onward = later; boards = r_rides.boards; alights = is.alights }

        by_hop : (k.by.hop ≡ None) ⊎ ((h : Hop) × (k.by.hop ≡ Some h) × Member h (candidates_without_u_turns T lines r.trip k.by.at)) → KeptResult asked o q before r s others
        by_hop (inl none) =
            let offer : Offers (secs_by T on_foot) p (event_at T r.trip k.by.at ∷ []) time = subst (λ h. Offers (secs_by T on_foot) p (alightings_by T r.trip k.by.at h) time) none k.offers in
            let on = by_event here (event_at T r.trip k.by.at ∷ []) offer (only offer.member) in
            inl (record {
              new = before ++ here ∷ others;
              fewer = omega (arith, length-append before (here ∷ others), length-append before (r ∷ s ∷ others));
              as_well = replaced T asked o before r here (s ∷ others) others q (record { stop = refl; time = ≤ℤ-refl _ }) here_rides on.0 on.1 leads leaves;
            })
          where
            only : {x y : Event} → Member x (y ∷ []) → y ≡ x
            only (inl e) = e
            only (inr h) = absurd h
        by_hop (inr (h, some_hop, member)) =
            let offer : Offers (secs_by T on_foot) p (filter (λ (e : Event). e.alight) (drop (h.at + 1) (events_of T h.trip))) time
            = subst (λ x. Offers (secs_by T on_foot) p (alightings_by T r.trip k.by.at x) time) some_hop k.offers in
            let kept_event = Member-filter_back (λ (e : Event). e.alight) offer.event (drop (h.at + 1) (events_of T h.trip)) offer.member in
            let place = Member-drop_back (h.at + 1) (events_of T h.trip) no_event offer.event kept_event.0 in
            let possible : IsPossibleHop T r.trip k.by.at h = onward.possible r.trip k.by.at h (Contains-from_Member h (candidates_without_u_turns T lines r.trip k.by.at) member) in
            let next : Ride = record { trip = h.trip; board = h.at; alight = place.0 } in
            let next_rides : IsRide T next = record { onward = omega (arith, place.1); boards = possible.boards; alights = ap (λ (e : Event). e.alight) place.3 ∙ kept_event.1 } in
            let on = by_event next (filter (λ (e : Event). e.alight) (drop (h.at + 1) (events_of T h.trip))) offer place.3 in
            inr (record {
              at = k.by.at;
              hop = h;
              until = place.0;
              others = others;
              onward = later;
              in_set = Contains-from_Member h (kept_hops T lines r.trip k.by.at) (kept_hops-member r.trip k.by.at k.by h k.member refl some_hop);
              as_many = refl;
              as_well = replaced T asked o before r here (s ∷ others) (next ∷ others) q (record { stop = refl; time = ≤ℤ-refl _ }) here_rides
                  (possible.in_time, next_rides, on.0) on.1 leads leaves;
            })

  -- a change by a candidate that is no U-turn: there is a kept one that does as well
  from_candidate : (asked : ℤ) (o q : ℕ) (before : List Ride) (r s : Ride) (others : List Ride) → Contains (candidates_without_u_turns T lines r.trip r.alight) (record { trip = s.trip; at = s.board }) →
      Leads T o (before ++ r ∷ s ∷ others) q → LeavesNoEarlier T asked o (before ++ r ∷ s ∷ others) → KeptResult asked o q before r s others
  from_candidate asked o q before r s others in_set leads leaves = by_rest others leads leaves (Leads-at T o before r (s ∷ others) q leads)
    where
      hop : Hop
      hop = record { trip = s.trip; at = s.board }

      member : IsRide T r → Member (record { at = r.alight; hop = Some hop }) (alternatives T lines r.trip)
      member rides = alternatives-of_hop T lines r.trip r.alight hop (omega (arith, rides.onward)) rides.alights (Member-from_Contains hop (candidates_without_u_turns T lines r.trip r.alight) in_set)

      -- s alights with the alternative
      offer : IsRide T s → (on_foot : Bool) (p n : ℕ) (time : ℤ) → secs_by T on_foot (alighting_stop T s) p ≡ Some n → (alighting_time T s +ℤ pos n) ≤ℤ time → Offers (secs_by T on_foot) p (alightings T r.trip (record { at = r.alight; hop = Some hop })) time
      offer rides on_foot p n time leads in_time = record {
        event = event_at T s.trip s.alight;
        member = Member-filter (λ (e : Event). e.alight) (event_at T s.trip s.alight) (drop (s.board + 1) (events_of T s.trip))
            (Member-drop (s.board + 1) s.alight (events_of T s.trip) no_event (omega (arith, rides.onward)) (MayAlight-inside T s.trip s.alight rides.alights).1) rides.alights;
        secs = n;
        leads = leads;
        in_time = in_time;
      }

      sorted : AllPairs NotBefore (alternatives T lines r.trip)
      sorted = alternatives-sorted T lines r.trip (numbers_down (length (events_of T r.trip))) (numbers_down-sorted (length (events_of T r.trip)))

      by_found : (others : List Ride) → (on_foot : Bool) (p : ℕ) (inside : p < length T.stops) (time : ℤ) → Found T r.trip on_foot p inside time [] (alternatives T lines r.trip) r.alight →
          (KeptOffer T r.trip on_foot p inside time [] (alternatives T lines r.trip) r.alight → KeptResult asked o q before r s others) → KeptResult asked o q before r s others
      by_found others on_foot p inside time (inl (es, none, o)) go = absurd none
      by_found others on_foot p inside time (inr k) go = go k

      s_inside : IsRide T s → alighting_stop T s < length T.stops
      s_inside rides = stop_inside T sound s.trip s.alight (MayAlight-inside T s.trip s.alight rides.alights).0 (MayAlight-inside T s.trip s.alight rides.alights).1

      by_rest : (others : List Ride) → Leads T o (before ++ r ∷ s ∷ others) q → LeavesNoEarlier T asked o (before ++ r ∷ s ∷ others) → IsRide T r × LeadsOn T r (s ∷ others) q → KeptResult asked o q before r s others
      by_rest [] leads leaves at_r =
          let w = some (walk T (alighting_stop T s) q) at_r.1.2 in
          let inside : q < length T.stops = walk_inside T sound (alighting_stop T s) q w.0 (s_inside at_r.1.1) w.1 in
          by_found [] true q inside (alighting_time T s +ℤ pos w.0)
          (kept_offer T r.trip true q inside (alighting_time T s +ℤ pos w.0) [] (alternatives T lines r.trip) (record { at = r.alight; hop = Some hop }) sorted (member at_r.0) (offer at_r.1.1 true q w.0 _ w.1 (≤ℤ-refl _)))
          (by_kept asked o q before r s [] leads leaves at_r.0 true q inside (alighting_time T s +ℤ pos w.0)
          (λ x n walks in_time. (
            subst (λ o. IsSome o) (sym walks) refl,
            subst (λ z. (alighting_time T x +ℤ z) ≤ℤ arrival_after T s [] q) (sym (walk_secs-is T _ _ _ walks))
                (subst (λ z. (alighting_time T x +ℤ pos n) ≤ℤ (alighting_time T s +ℤ z)) (sym (walk_secs-is T _ _ _ w.1)) in_time),
          )))
      by_rest (z ∷ rest) leads leaves at_r =
          let c = some_and (λ secs. (alighting_time T s +ℤ pos secs) ≤ℤ boarding_time T z) _ at_r.1.2.0 in
          let inside : boarding_stop T z < length T.stops = stop_inside T sound z.trip z.board (MayBoard-inside T z.trip z.board at_r.1.2.1.boards).0 (MayBoard-inside T z.trip z.board at_r.1.2.1.boards).1 in
          by_found (z ∷ rest) false (boarding_stop T z) inside (boarding_time T z)
          (kept_offer T r.trip false (boarding_stop T z) inside (boarding_time T z) [] (alternatives T lines r.trip) (record { at = r.alight; hop = Some hop }) sorted (member at_r.0) (offer at_r.1.1 false (boarding_stop T z) c.0 _ c.1 c.2))
          (by_kept asked o q before r s (z ∷ rest) leads leaves at_r.0 false (boarding_stop T z) inside (boarding_time T z)
          (λ x n changes in_time. ((and_some (λ secs. (alighting_time T x +ℤ pos secs) ≤ℤ boarding_time T z) _ n changes in_time, at_r.1.2.1, at_r.1.2.2), ≤ℤ-refl (arrival_after T z rest q))))

  kept_enough : (asked : ℤ) (o q : ℕ) (before : List Ride) (r s : Ride) (after : List Ride) → Leads T o (before ++ r ∷ s ∷ after) q → LeavesNoEarlier T asked o (before ++ r ∷ s ∷ after) → KeptResult asked o q before r s after
  kept_enough asked o q before r s after leads leaves = by_case (onward.enough (change_in asked o q before r s after) (record { leads = leads; leaves = leaves }))
    where
      by_case : SavesARide T (change_in asked o q before r s after) ⊎ GoesByHop T (candidates_without_u_turns T lines) (change_in asked o q before r s after) → KeptResult asked o q before r s after
      by_case (inl saves) = inl saves
      by_case (inr goes) = back (from_candidate asked o q before r' s' goes.others goes.in_set goes.as_well.leads goes.as_well.leaves)
        where
          r' : Ride
          r' = record { trip = r.trip; board = r.board; alight = goes.at }

          s' : Ride
          s' = record { trip = goes.hop.trip; board = goes.hop.at; alight = goes.until }

          back : KeptResult asked o q before r' s' goes.others → KeptResult asked o q before r s after
          back (inl saves) = inl (SavesARide-trans T asked o q before r s after r' s' goes.others (omega (arith, goes.as_many, length-append before (r' ∷ s' ∷ goes.others), length-append before (r ∷ s ∷ after))) goes.as_well saves)
          back (inr hop) = inr (GoesByHop-trans T (kept_hops T lines) asked o q before r.trip r.board r.alight goes.at s s' after goes.others goes.as_many goes.as_well hop)

  kept_possible : (t i : ℕ) (h : Hop) → Contains (kept_hops T lines t i) h → IsPossibleHop T t i h
  kept_possible t i h contains =
      let found = Member-filter_map_back (λ (a : Alternative). cond (a.at == i) a.hop None) h (kept_alternatives T lines t) (Member-from_Contains h (kept_hops T lines t i) contains) in
      by_test (found.0) found.1 (found.0.at == i) refl found.2
    where
      by_test : (a : Alternative) → Member a (kept_alternatives T lines t) → (b : Bool) → b ≡ (a.at == i) → cond b a.hop None ≡ Some h → IsPossibleHop T t i h
      by_test a member false e is = cc
      by_test a member true e is = by_hop (alternatives-back T lines t a (improving_alternatives-member T t [] (alternatives T lines t) a member))
        where
          by_hop : IsAlternative T lines t a.at a → IsPossibleHop T t i h
          by_hop alternative = by_case alternative.hop
            where
              by_case : (a.hop ≡ None) ⊎ ((h : Hop) × (a.hop ≡ Some h) × Member h (candidates_without_u_turns T lines t a.at)) → IsPossibleHop T t i h
              by_case (inl none) = cc
              by_case (inr (x, some_hop, member)) =
                  let hops : x ≡ h = cc in
                  let here : a.at ≡ i = eqb-true _ _ (sym e) in
                  subst (λ n. IsPossibleHop T t n h) here (subst (λ y. IsPossibleHop T t a.at y) hops (onward.possible t a.at x (Contains-from_Member x (candidates_without_u_turns T lines t a.at) member)))

-- The kept transfers are sufficient.
pub kept_hops_sufficient : (T : TimetableData) (lines : List (List ℕ)) → IsSound T → AreDividedInto T lines → AreSufficient T (kept_hops T lines)
kept_hops_sufficient T lines sound divided = record {
  possible = kept_possible T lines sound divided;
  enough = λ c journey. kept_enough T lines sound divided c.asked c.origin c.target c.before c.left c.boarded c.after journey.leads journey.leaves;
}
