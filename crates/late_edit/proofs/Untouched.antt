-- An untouched trip keeps the same hops.
use Rattle.std.proofs.Common.{◌≡◌, ◌∙◌, sym, ap, subst, refl, ℕ, zero, suc, ◌+◌, ◌-◌, ◌<◌, ◌≤◌, ◌⊎◌, inl, inr, Bool, true, false, cond, ◌==◌, ◌&&◌, ◌||◌, not, List, [], ◌∷◌, ◌++◌, length, map, get_or, drop, Option, Some, None, arith}
use Rattle.std.specs.Prelude.{filter, filter_map, flat_map, nat_lt, int_le, is_some, pos, ◌+ℤ◌}
use Rattle.std.specs.List.{list_any, cons_option}
use Rattle.std.specs.Option.{option_and_then}
use Rattle.std.proofs.lemmas.Bool.{or_parts, eq-eqb, not-false}
use Rattle.std.proofs.lemmas.Bool.Decides.{nat_tests}
use Rattle.std.proofs.lemmas.List.{append-nil}
use lib.Pointwise.{pointwise}
use Rattle.tb_base.specs.declared.table.Event.{Event}
use Rattle.tb_base.specs.declared.table.Stop.{Stop}
use Rattle.tb_base.specs.declared.transfer.Hop.{Hop}
use Rattle.tb_base.specs.declared.transfer.Transfer.{Transfer}
use Rattle.tb_base.specs.TimetableData.{TimetableData, FootpathData, no_event, events_of, event_at}
use Rattle.tb_base.specs.Transfers.{Alternative, alightings, alternatives, alternatives_at, candidates, candidates_without_u_turns, improving_alternatives, is_improvement, is_u_turn, kept_hops, numbers_down}
use Rattle.tb_base.specs.Walking.{change_time}
use Rattle.tb_base.proofs.NumberFacts.{lt-eqb}
use Rattle.tb_base.proofs.Ordered.{Member}
use Rattle.tb_base.proofs.Members.{Member-flat_map, Member-flat_map_back, Member-map, Member-map_back, Member-filter_back}
use Rattle.tb_laws.specs.Rows.{transfer_by_hop}
use Rattle.line_split.specs.LinesData.{LinesData}
use Rattle.late_edit.specs.Updated.{IsUpdated}
use Rattle.late_edit.specs.Touched.{candidates_of, has_other_events, is_touched, same_transfer}
use Rattle.late_edit.proofs.ListFacts.{filter-same, flat_map-same, last_or_below, list_any-none, Member-numbers_down, Member-numbers_down_back}
use Rattle.late_edit.proofs.SameEvents.{same_rows, same_trip}

-- ---- the candidates of each event, out of those of all events

-- the transfers of trip t by the hops of its event i
abbrev pub rows_at : (ℕ → List Hop) → ℕ → ℕ → List Transfer
rows_at hops t i = map (transfer_by_hop t i) (hops i)

-- the hop of a row of event i
abbrev pub hop_at : ℕ → Transfer → Option Hop
hop_at i r = cond (r.at == i) (Some (record { trip = r.to_trip; at = r.to_at })) None

hops_at-own : (t i : ℕ) (hs : List Hop) (rs : List Transfer) → filter_map (hop_at i) (map (transfer_by_hop t i) hs ++ rs) ≡ hs ++ filter_map (hop_at i) rs
hops_at-own t i [] rs = refl
hops_at-own t i (h ∷ hs) rs =
    ap (λ b. cons_option (cond b (Some h) None) (filter_map (hop_at i) (map (transfer_by_hop t i) hs ++ rs))) (eq-eqb i i refl)
    ∙ ap (λ (ks : List Hop). h ∷ ks) (hops_at-own t i hs rs)

hops_at-other : (t i j : ℕ) → (j == i) ≡ false → (hs : List Hop) (rs : List Transfer) → filter_map (hop_at i) (map (transfer_by_hop t j) hs ++ rs) ≡ filter_map (hop_at i) rs
hops_at-other t i j e [] rs = refl
hops_at-other t i j e (h ∷ hs) rs =
    ap (λ b. cons_option (cond b (Some h) None) (filter_map (hop_at i) (map (transfer_by_hop t j) hs ++ rs))) e
    ∙ hops_at-other t i j e hs rs

pub hops_at-all : (hops : ℕ → List Hop) (t i n : ℕ) → i < n → filter_map (hop_at i) (flat_map (rows_at hops t) (numbers_down n)) ≡ hops i
hops_at-all hops t i zero h = absurd (omega arith)
hops_at-all hops t i (suc n) h = by_case (hops_at-all hops t i n) (last_or_below i n h)
  where
    none : (i n : ℕ) → n ≤ i → filter_map (hop_at i) (flat_map (rows_at hops t) (numbers_down n)) ≡ []
    none i zero h = refl
    none i (suc n) h = hops_at-other t i n (lt-eqb n i (omega (arith, h))) (hops n) (flat_map (rows_at hops t) (numbers_down n)) ∙ none i n (omega (arith, h))

    other : (i n : ℕ) → i < n → (n == i) ≡ false
    other i n h = grind (arith, nat_tests, h)

    by_case : (i < n → filter_map (hop_at i) (flat_map (rows_at hops t) (numbers_down n)) ≡ hops i) → (n ≡ i) ⊎ (i < n) → filter_map (hop_at i) (rows_at hops t n ++ flat_map (rows_at hops t) (numbers_down n)) ≡ hops i
    by_case more (inl e) =
        subst (λ m. filter_map (hop_at i) (rows_at hops t m ++ flat_map (rows_at hops t) (numbers_down n)) ≡ hops i) (sym e)
        (hops_at-own t i (hops i) (flat_map (rows_at hops t) (numbers_down n)) ∙ ap (λ (hs : List Hop). hops i ++ hs) (none i n (omega (arith, e))) ∙ append-nil (hops i))
    by_case more (inr l) = hops_at-other t i n (other i n l) (hops n) (flat_map (rows_at hops t) (numbers_down n)) ∙ more l

-- ---- the kept ones of some alternatives

-- what tells U-turns: the events of both trips, and the change times
abbrev turns_back : List Event → List Event → FootpathData → ℕ → ℕ → Bool
turns_back es fs F i j =
    let before = get_or es (i - 1) no_event in
    let after = get_or fs (j + 1) no_event in
    nat_lt 0 i && (before.stop == after.stop) && before.alight && after.board
    && is_some (option_and_then
    (λ secs. cond (int_le (before.arr +ℤ pos secs) after.dep) (Some secs) None)
    (change_time F before.stop))

-- the alternatives at an event, by its mark and its hops
abbrev choices_at : Bool → ℕ → List Hop → List Alternative
choices_at alight i hs = cond (nat_lt 0 i && alight) (record { at = i; hop = None } ∷ map (λ (h : Hop). record { at = i; hop = Some h }) hs) []

-- whether events improve, by the stops and the footpaths alone
abbrev improve_by : TimetableData → List (List Event) → List Stop → FootpathData → List Event → Bool
improve_by T earlier stops F events = is_improvement (record { stops = stops; stations = T.stations; trips = T.trips; footpaths = F }) earlier events

improving-same : (T U : TimetableData) → IsUpdated T U → (t : ℕ) (earlier : List (List Event)) (choices : List Alternative) → ((a : Alternative) → Member a choices → alightings T t a ≡ alightings U t a) →
    improving_alternatives T t earlier choices ≡ improving_alternatives U t earlier choices
improving-same T U same t earlier [] h = refl
improving-same T U same t earlier (a ∷ rest) h =
    let more : improving_alternatives T t (alightings T t a ∷ earlier) rest ≡ improving_alternatives U t (alightings U t a ∷ earlier) rest =
    improving-same T U same t (alightings T t a ∷ earlier) rest (λ b m. h b (inr m)) ∙ ap (λ (es : List Event). improving_alternatives U t (es ∷ earlier) rest) here in
    λ k. cond (improves k) (a ∷ more k) (more k)
  where
    here : alightings T t a ≡ alightings U t a
    here = h a (inl refl)

    improves : is_improvement T earlier (alightings T t a) ≡ is_improvement U earlier (alightings U t a)
    improves = λ k. improve_by T earlier (same.stops k) (same.footpaths k) (here k)

-- ---- an untouched trip

module _ (L M : LinesData) (t : ℕ) (same : IsUpdated L.table M.table) (untouched : is_touched L M t ≡ false) where
  parts : ((has_other_events L.table M.table t || not (pointwise same_transfer (candidates_of L t) (candidates_of M t))) ≡ false) × (list_any (λ r. has_other_events L.table M.table r.to_trip) (candidates_of L t) ≡ false)
  parts = or_parts (has_other_events L.table M.table t || not (pointwise same_transfer (candidates_of L t) (candidates_of M t))) (list_any (λ r. has_other_events L.table M.table r.to_trip) (candidates_of L t)) untouched

  first : (has_other_events L.table M.table t ≡ false) × (not (pointwise same_transfer (candidates_of L t) (candidates_of M t)) ≡ false)
  first = or_parts (has_other_events L.table M.table t) (not (pointwise same_transfer (candidates_of L t) (candidates_of M t))) parts.0

  own : events_of L.table t ≡ events_of M.table t
  own = same_trip L.table M.table t first.0

  rows : candidates_of L t ≡ candidates_of M t
  rows = (same_rows (candidates_of L t) (candidates_of M t)).0 (not-false (pointwise same_transfer (candidates_of L t) (candidates_of M t)) first.1)

  hops : (i : ℕ) → i < length (events_of L.table t) → candidates L.table L.lines t i ≡ candidates M.table M.lines t i
  hops i h =
      sym (hops_at-all (candidates L.table L.lines t) t i (length (events_of L.table t)) h)
      ∙ ap (filter_map (hop_at i)) rows
      ∙ hops_at-all (candidates M.table M.lines t) t i (length (events_of M.table t)) (subst (λ (es : List Event). i < length es) own h)

  hopped : (i : ℕ) → i < length (events_of L.table t) → (h : Hop) → Member h (candidates L.table L.lines t i) → events_of L.table h.trip ≡ events_of M.table h.trip
  hopped i below h m =
      let row = transfer_by_hop t i h in
      let there : Member row (candidates_of L t) = Member-flat_map (rows_at (candidates L.table L.lines t) t) i row (numbers_down (length (events_of L.table t))) (Member-numbers_down i (length (events_of L.table t)) below)
      (Member-map (transfer_by_hop t i) h (candidates L.table L.lines t i) m) in
      same_trip L.table M.table h.trip (list_any-none (λ (r : Transfer). has_other_events L.table M.table r.to_trip) (candidates_of L t) parts.1 row there)

  no_turns : (i : ℕ) → i < length (events_of L.table t) → candidates_without_u_turns L.table L.lines t i ≡ candidates_without_u_turns M.table M.lines t i
  no_turns i below =
      filter-same (λ h. not (is_u_turn L.table t i h)) (λ h. not (is_u_turn M.table t i h)) (candidates L.table L.lines t i)
      (λ h m k. not (turns_back (own k) (hopped i below h m k) (same.footpaths k) i h.at))
      ∙ ap (filter (λ h. not (is_u_turn M.table t i h))) (hops i below)

  all_alternatives : alternatives L.table L.lines t ≡ alternatives M.table M.lines t
  all_alternatives =
      flat_map-same (alternatives_at L.table L.lines t) (alternatives_at M.table M.lines t) (numbers_down (length (events_of L.table t)))
      (λ i m k. choices_at (get_or (own k) i no_event).alight i (no_turns i (Member-numbers_down_back i (length (events_of L.table t)) m) k))
      ∙ ap (λ (es : List Event). flat_map (alternatives_at M.table M.lines t) (numbers_down (length es))) own

  same_alightings : (a : Alternative) → Member a (alternatives L.table L.lines t) → alightings L.table t a ≡ alightings M.table t a
  same_alightings a m =
      let r = Member-flat_map_back (alternatives_at L.table L.lines t) a (numbers_down (length (events_of L.table t))) m in
      by_test r.0 (Member-numbers_down_back r.0 (length (events_of L.table t)) r.1) (nat_lt 0 r.0 && (event_at L.table t r.0).alight) r.2
    where
      staying : (i : ℕ) → alightings L.table t (record { at = i; hop = None }) ≡ alightings M.table t (record { at = i; hop = None })
      staying i = λ k. get_or (own k) i no_event ∷ []

      hopping : (i : ℕ) (h : Hop) → events_of L.table h.trip ≡ events_of M.table h.trip → alightings L.table t (record { at = i; hop = Some h }) ≡ alightings M.table t (record { at = i; hop = Some h })
      hopping i h e = λ k. filter (λ (f : Event). f.alight) (drop (h.at + 1) (e k))

      by_test : (i : ℕ) → i < length (events_of L.table t) → (b : Bool) →
          Member a (cond b (record { at = i; hop = None } ∷ map (λ (h : Hop). record { at = i; hop = Some h }) (candidates_without_u_turns L.table L.lines t i)) []) → alightings L.table t a ≡ alightings M.table t a
      by_test i below true (inl e) = subst (λ (b : Alternative). alightings L.table t b ≡ alightings M.table t b) e (staying i)
      by_test i below true (inr n) =
          let r = Member-map_back (λ (h : Hop). record { at = i; hop = Some h }) a (candidates_without_u_turns L.table L.lines t i) n in
          subst (λ (b : Alternative). alightings L.table t b ≡ alightings M.table t b) r.2
          (hopping i r.0 (hopped i below r.0 (Member-filter_back (λ h. not (is_u_turn L.table t i h)) r.0 (candidates L.table L.lines t i) r.1).0))
      by_test i below false n = absurd n

  pub untouched_kept : (i : ℕ) → kept_hops L.table L.lines t i ≡ kept_hops M.table M.lines t i
  untouched_kept i =
      ap (filter_map (λ (a : Alternative). cond (a.at == i) a.hop None))
      (improving-same L.table M.table same t [] (alternatives L.table L.lines t) same_alightings ∙ ap (improving_alternatives M.table t []) all_alternatives)
