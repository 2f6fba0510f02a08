-- Who boards the lines at a stop.
use Rattle.std.proofs.Common.{◌≡◌, ◌∙◌, ℕ, zero, suc, ◌+◌, ◌<◌, inl, inr, ◌==◌, List, [], ◌∷◌, Bool, true, false, cond, length, map, get_or, refl, sym, ap, subst, arith, Option, Some, None, ℤ, ◌≤ℤ◌}
use Rattle.std.specs.Prelude.{AllPairs, filter, int_le}
use Rattle.std.specs.List.{concat}
use Rattle.std.specs.Option.{option_map}
use Rattle.std.proofs.lemmas.Bool.{and_parts, eqb-true, ltb-true, lt-ltb, eq-eqb, and_from}
use Rattle.tb_base.specs.declared.table.Event.{Event}
use Rattle.tb_base.specs.declared.transfer.Hop.{Hop}
use Rattle.tb_base.specs.TimetableData.{TimetableData, departure_at, event_at, events_of, stop_at, MayBoard}
use Rattle.tb_base.specs.Lines.{AreDividedInto, IsEventNoLater, IsTripNoLater}
use Rattle.tb_base.specs.Search.{RoundSegment, IsCovered}
use Rattle.tb_base.specs.Transfers.{earliest_trip, may_be_boarded, numbers_below}
use Rattle.tb_base.proofs.Events.{MayBoard-inside}
use Rattle.tb_base.proofs.Ordered.{Member, Member-from_Contains}
use Rattle.tb_laws.proofs.Exchange.{≤ℤ-trans}
use Rattle.tb_base.proofs.LineFacts.{MayFollow, first_no_later, line_of, no_later}
use Rattle.tb_base.proofs.Members.{find_first, find_found, Member-filter, Member-filter_back, Member-flat_map, Member-flat_map_back, Member-numbers_below, Member-map}
use Rattle.segment_queue.specs.Scans.{LineIndex, boarding_hop, first_trip, indices_at, line_indices_at, no_line_index}
use Rattle.segment_queue.proofs.Distinct.{of_member}
use Rattle.tb_base.proofs.NumberFacts.{int_le-true, le-int_le}

pub member_map_back : {X Y : Type 0} (f : X → Y) (y : Y) (xs : List X) → Member y (map f xs) → (x : X) × Member x xs × (f x ≡ y)
member_map_back f y [] h = absurd h
member_map_back f y (x ∷ xs) (inl e) = (x, inl refl, e)
member_map_back {X} {Y} f y (x ∷ xs) (inr h) = let r : (z : X) × Member z xs × (f z ≡ y) = member_map_back f y xs h in (r.0, inr r.1, r.2)

event-trans : (d e f : Event) → IsEventNoLater d e → IsEventNoLater e f → IsEventNoLater d f
event-trans d e f p q = record { stop = p.stop ∙ q.stop; board = p.board ∙ q.board; alight = p.alight ∙ q.alight; arr = ≤ℤ-trans _ _ _ p.arr q.arr; dep = ≤ℤ-trans _ _ _ p.dep q.dep }

pub no_later-trans : (T : TimetableData) (t u v : ℕ) → IsTripNoLater T t u → IsTripNoLater T u v → IsTripNoLater T t v
no_later-trans T t u v p q = record { long = p.long ∙ q.long; at = λ k. event-trans (event_at T t k) (event_at T u k) (event_at T v k) (p.at k) (q.at k) }

-- who boards as a hop does is reached where the hop is
pub covered-by : (T : TimetableData) (segments : List RoundSegment) (n round : ℕ) (h : Hop) (t b : ℕ) → IsCovered T segments n round h.trip h.at → IsTripNoLater T h.trip t → h.at ≡ b → IsCovered T segments n round t b
covered-by T segments n round h t b c no_later same = record { by = c.by; within = c.within; by_then = c.by_then; trip = no_later-trans T _ h.trip t c.trip no_later; board = omega (arith, c.board, same) }

-- what a hop onto a line index is
pub record Boards (T : TimetableData) (p : ℕ) (time : ℤ) (h : Hop) : Type 0 where
  pub boards : MayBoard T h.trip h.at
  pub not_last : h.at + 1 < length (events_of T h.trip)
  pub stop : stop_at T h.trip h.at ≡ p
  pub in_time : time ≤ℤ departure_at T h.trip h.at

module _ (T : TimetableData) (lines : List (List ℕ)) (p : ℕ) (divided : AreDividedInto T lines) where
  pairs : (line : List ℕ) → Member line lines → AllPairs (MayFollow T) line
  pairs line h = of_member (λ l. AllPairs (MayFollow T) l) lines line divided.ordered h

  index_facts : (b : LineIndex) → Member b (line_indices_at T lines p) → Member b.line lines × (stop_at T (first_trip b.line) b.at ≡ p)
  index_facts b h =
      let r : (line : List ℕ) × Member line lines × Member b (indices_at T p line) = Member-flat_map_back (indices_at T p) b lines h in
      let m : (j : ℕ) × Member j (filter (λ j. stop_at T (first_trip r.0) j == p) (numbers_below (length (events_of T (first_trip r.0))))) × (record { line = r.0; at = j } ≡ b)
      = member_map_back (λ j. record { line = r.0; at = j }) b (filter (λ j. stop_at T (first_trip r.0) j == p) (numbers_below (length (events_of T (first_trip r.0))))) r.2 in
      let f = Member-filter_back (λ j. stop_at T (first_trip r.0) j == p) m.0 (numbers_below (length (events_of T (first_trip r.0)))) m.1 in (
        subst (λ l. Member l lines) (ap (λ (x : LineIndex). x.line) m.2) r.1,
        subst (λ (x : LineIndex). stop_at T (first_trip x.line) x.at ≡ p) m.2 (eqb-true _ _ f.1),
      )

  hop_facts : (b : LineIndex) (time : ℤ) (h : Hop) → Member b (line_indices_at T lines p) → boarding_hop T b time ≡ Some h → Boards T p time h
  hop_facts b time h at is = by_test (may_be_boarded T (first_trip b.line) b.at) refl is
    where
      by_trip : (o : Option ℕ) → o ≡ earliest_trip T b.line b.at time → may_be_boarded T (first_trip b.line) b.at ≡ true → option_map (λ u. record { trip = u; at = b.at }) o ≡ Some h → Boards T p time h
      by_trip None e may k = cc
      by_trip (Some u) e may k =
          let hop : record { trip = u; at = b.at } ≡ h = cc in
          let found = find_found (λ u. int_le time (departure_at T u b.at)) b.line u (sym e) in
          let facts = index_facts b at in
          let like : IsTripNoLater T (first_trip b.line) u = first_no_later T b.line u (pairs b.line facts.0) found.0 in
          let tests = and_parts _ _ may in
          subst (Boards T p time) hop (record {
            boards = sym (like.at b.at).board ∙ tests.0;
            not_last = omega (arith, like.long, ltb-true _ _ tests.1);
            stop = sym (like.at b.at).stop ∙ facts.1;
            in_time = int_le-true _ _ found.1;
          })

      by_test : (x : Bool) → x ≡ may_be_boarded T (first_trip b.line) b.at → cond x (option_map (λ u. record { trip = u; at = b.at }) (earliest_trip T b.line b.at time)) None ≡ Some h → Boards T p time h
      by_test true e k = by_trip (earliest_trip T b.line b.at time) refl (sym e) k
      by_test false e k = cc

  member_at : (xs : List LineIndex) (k : ℕ) → k < length xs → Member (get_or xs k no_line_index) xs
  member_at [] k h = absurd (omega (arith, h))
  member_at (x ∷ xs) zero h = inl refl
  member_at (x ∷ xs) (suc k) h = inr (member_at xs k (omega (arith, h)))

  -- whoever boards a line index of the stop does so
  pub boarding_facts : (k : ℕ) (time : ℤ) (h : Hop) → k < length (line_indices_at T lines p) → boarding_hop T (get_or (line_indices_at T lines p) k no_line_index) time ≡ Some h → Boards T p time h
  boarding_facts k time h inside is = hop_facts (get_or (line_indices_at T lines p) k no_line_index) time h (member_at (line_indices_at T lines p) k inside) is

  -- who is boarded from another time on, that is no later than when the hop departs, departs no later than the hop
  pub record IsSooner (b : LineIndex) (since : ℤ) (h : Hop) : Type 0 where
    pub hop : Hop
    pub is : boarding_hop T b since ≡ Some hop
    pub no_later : departure_at T hop.trip hop.at ≤ℤ departure_at T h.trip h.at

  pub boarded_sooner : (k : ℕ) (time since : ℤ) (h : Hop) → k < length (line_indices_at T lines p) → boarding_hop T (get_or (line_indices_at T lines p) k no_line_index) time ≡ Some h → since ≤ℤ departure_at T h.trip h.at →
      IsSooner (get_or (line_indices_at T lines p) k no_line_index) since h
  boarded_sooner k time since h inside is late = by_test (may_be_boarded T (first_trip b.line) b.at) refl is
    where
      b : LineIndex
      b = get_or (line_indices_at T lines p) k no_line_index

      by_trip : (o : Option ℕ) → o ≡ earliest_trip T b.line b.at time → may_be_boarded T (first_trip b.line) b.at ≡ true → option_map (λ u. record { trip = u; at = b.at }) o ≡ Some h → IsSooner b since h
      by_trip None e may f = cc
      by_trip (Some u) e may f =
          let hop : record { trip = u; at = b.at } ≡ h = cc in
          let found = find_found (λ u. int_le time (departure_at T u b.at)) b.line u (sym e) in
          let in_time : since ≤ℤ departure_at T u b.at = subst (λ (x : Hop). since ≤ℤ departure_at T x.trip x.at) (sym hop) late in
          let first = find_first (MayFollow T) (λ u. int_le since (departure_at T u b.at)) b.line u (pairs b.line (index_facts b (member_at (line_indices_at T lines p) k inside)).0) found.0 (le-int_le _ _ in_time) in
          record {
            hop = record { trip = first.0; at = b.at };
            is = ap (λ x. cond x (option_map (λ u. record { trip = u; at = b.at }) (earliest_trip T b.line b.at since)) None) may ∙ ap (option_map (λ u. record { trip = u; at = b.at })) first.1;
            no_later = subst (λ (x : Hop). departure_at T first.0 b.at ≤ℤ departure_at T x.trip x.at) hop ((no_later T first.0 u first.4).at b.at).dep;
          }

      by_test : (x : Bool) → x ≡ may_be_boarded T (first_trip b.line) b.at → cond x (option_map (λ u. record { trip = u; at = b.at }) (earliest_trip T b.line b.at time)) None ≡ Some h → IsSooner b since h
      by_test true e f = by_trip (earliest_trip T b.line b.at time) refl (sym e) f
      by_test false e f = cc

  -- a trip that may be boarded at the stop, for which some line index is boarded by a trip that is no later
  pub record IsBoardingServed (time : ℤ) (t b : ℕ) : Type 0 where
    pub index : ℕ
    pub inside : index < length (line_indices_at T lines p)
    pub hop : Hop
    pub is : boarding_hop T (get_or (line_indices_at T lines p) index no_line_index) time ≡ Some hop
    pub trip : IsTripNoLater T hop.trip t
    pub at : hop.at ≡ b

  pub served : (time : ℤ) (t b : ℕ) → MayBoard T t b → b + 1 < length (events_of T t) → stop_at T t b ≡ p → time ≤ℤ departure_at T t b → IsBoardingServed time t b
  served time t b boards not_last here in_time =
      let on : (line : List ℕ) × Member line lines × Member t line = line_of lines t (Member-from_Contains t (concat lines) (divided.complete t (MayBoard-inside T t b boards).0)) in
      let like : IsTripNoLater T (first_trip on.0) t = first_no_later T on.0 t (pairs on.0 on.1) on.2 in
      let at_stop : Member b (filter (λ j. stop_at T (first_trip on.0) j == p) (numbers_below (length (events_of T (first_trip on.0)))))
      = Member-filter (λ j. stop_at T (first_trip on.0) j == p) b (numbers_below (length (events_of T (first_trip on.0)))) (Member-numbers_below b (length (events_of T (first_trip on.0))) (omega (arith, like.long, not_last))) (eq-eqb (stop_at T (first_trip on.0) b) p ((like.at b).stop ∙ here)) in
      let index : Member (record { line = on.0; at = b }) (line_indices_at T lines p)
      = Member-flat_map (indices_at T p) on.0 (record { line = on.0; at = b }) lines on.1 (Member-map (λ j. record { line = on.0; at = j }) b (filter (λ j. stop_at T (first_trip on.0) j == p) (numbers_below (length (events_of T (first_trip on.0))))) at_stop) in
      let found : (k : ℕ) × (k < length (line_indices_at T lines p)) × (get_or (line_indices_at T lines p) k no_line_index ≡ record { line = on.0; at = b }) = place_of (line_indices_at T lines p) (record { line = on.0; at = b }) index in
      let first = find_first (MayFollow T) (λ u. int_le time (departure_at T u b)) on.0 t (pairs on.0 on.1) on.2 (le-int_le _ _ in_time) in
      let may : may_be_boarded T (first_trip on.0) b ≡ true = and_from _ _ ((like.at b).board ∙ boards) (lt-ltb (b + 1) (length (events_of T (first_trip on.0))) (omega (arith, like.long, not_last))) in
      let hop : boarding_hop T (record { line = on.0; at = b }) time ≡ Some (record { trip = first.0; at = b })
      = ap (λ x. cond x (option_map (λ u. record { trip = u; at = b }) (earliest_trip T on.0 b time)) None) may ∙ ap (option_map (λ u. record { trip = u; at = b })) first.1 in
      record {
        index = found.0;
        inside = found.1;
        hop = record { trip = first.0; at = b };
        is = ap (λ x. boarding_hop T x time) found.2 ∙ hop;
        trip = no_later T first.0 t first.4;
        at = refl;
      }
    where
      place_of : (xs : List LineIndex) (x : LineIndex) → Member x xs → (k : ℕ) × (k < length xs) × (get_or xs k no_line_index ≡ x)
      place_of [] x h = absurd h
      place_of (y ∷ ys) x (inl e) = (0, omega arith, e)
      place_of (y ∷ ys) x (inr h) = let r : (k : ℕ) × (k < length ys) × (get_or ys k no_line_index ≡ x) = place_of ys x h in (suc r.0, omega (arith, r.1), r.2)
