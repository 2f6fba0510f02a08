-- The steps of a reduction.
use Rattle.std.proofs.Common.{◌≡◌, ◌∙◌, sym, ap, subst, refl, ℕ, zero, suc, ◌+◌, ◌<◌, ◌≤◌, ◌⊎◌, inl, inr, Bool, true, false, cond, ◌&&◌, List, [], ◌∷◌, ◌++◌, length, map, get_or, set, take, drop, ℤ, pos, ◌≤ℤ◌, Option, Some, None, arith, append_assoc}
use Rattle.std.specs.Prelude.{All, filter, filter_map, flat_map, nat_lt, not}
use Rattle.std.specs.List.{list_any}
use Rattle.std.proofs.lemmas.Bool.{cases_lt, and_parts}
use Rattle.std.proofs.lemmas.Bool.Decides.{nat_tests}
use Rattle.std.proofs.lemmas.List.{append-nil, drop_more, drop-set-lt, get_or_past, take_more_set}
use Rattle.std.proofs.lemmas.List.Elements.{All-drop, All-filter}
use Rattle.tb_base.specs.declared.table.Event.{Event}
use Rattle.tb_base.specs.declared.transfer.Hop.{Hop}
use Rattle.tb_base.specs.declared.transfer.Transfer.{Transfer}
use Rattle.tb_base.specs.Soundness.{IsSound, IsSoundTrip}
use Rattle.tb_base.specs.TimetableData.{TripData, TimetableData, event_at, events_of, no_event, no_trip}
use Rattle.transfer_pack.specs.CallsOf.{IsSoundCall, call_of}
use Rattle.tb_base.specs.Transfers.{Alternative, alightings, alternatives_at, boarding_indexes, candidates_without_u_turns, hop_onto, improving_alternatives, is_improvement, is_sooner, is_u_turn, kept_alternatives, kept_hops, numbers_below, numbers_down, transfers_of}
use Rattle.tb_base.specs.Walking.{walk}
use Rattle.tb_base.proofs.Ordered.{Member}
use Rattle.tb_base.proofs.Members.{Member-append}
use Rattle.tb_base.proofs.NumberFacts.{≤ℤ-trans}
use Rattle.tb_laws.proofs.TransferLaws.{kept_transfers}
use Rattle.tb_laws.specs.Labels.{label}
use Rattle.tb_laws.specs.Rows.{transfer_by_hop}
use Rattle.transfer_reduce.specs.Reduced.{HasRowAt, IsReducedTo, Reduces, alternative_row, hop_from, rows_below}
use Rattle.transfer_reduce.specs.Reached.{AreLowered, AreShown, hop_alightings}
use Rattle.transfer_reduce.proofs.Improvement.{improves_is}
use Rattle.transfer_reduce.proofs.Reaching.{nowhere, stay_not_shown, stay_shown, stops_inside}

-- rows of the events below n stand below n
rows_lower : (t : ℕ) (f : ℕ → List Hop) (n : ℕ) (x : Transfer) → Member x (flat_map (λ i. map (transfer_by_hop t i) (f i)) (numbers_down n)) → x.at < n
rows_lower t f zero x m = absurd m
rows_lower t f (suc n) x m = by_case (λ k. rows_lower t f n x k) (Member-append x (map (transfer_by_hop t n) (f n)) (flat_map (λ i. map (transfer_by_hop t i) (f i)) (numbers_down n)) m)
  where
    at_n : (hs : List Hop) → Member x (map (transfer_by_hop t n) hs) → x.at ≡ n
    at_n [] m = absurd m
    at_n (h ∷ hs) (inl e) = ap (λ (r : Transfer). r.at) (sym e)
    at_n (h ∷ hs) (inr m) = at_n hs m

    by_case : (Member x (flat_map (λ i. map (transfer_by_hop t i) (f i)) (numbers_down n)) → x.at < n) → Member x (map (transfer_by_hop t n) (f n)) ⊎ Member x (flat_map (λ i. map (transfer_by_hop t i) (f i)) (numbers_down n)) → x.at < suc n
    by_case more (inl k) = omega (arith, at_n (f n) k)
    by_case more (inr k) = let h : x.at < n = more k in omega (arith, h)

drop_head : {X : Type 0} (n : ℕ) (xs : List X) (d y : X) (ys : List X) → drop n xs ≡ y ∷ ys → (n < length xs) × (get_or xs n d ≡ y)
drop_head zero [] d y ys h = cc
drop_head (suc n) [] d y ys h = cc
drop_head zero (x ∷ xs) d y ys h = (omega arith, cc)
drop_head (suc n) (x ∷ xs) d y ys h = let r = drop_head n xs d y ys h in (omega (arith, r.0), r.1)

module _ (T : TimetableData) (sound : IsSound T) (lines : List (List ℕ)) (t : ℕ) where
  abbrev before : ℕ → List Alternative
  before i = flat_map (alternatives_at T lines t) (numbers_down i)

  abbrev kept_rows : List Transfer
  kept_rows = filter_map (alternative_row t) (kept_alternatives T lines t)

  -- a row of the event that is taken up
  pub take_step : (firsts rows : List Transfer) (labels new : List (Option ℤ)) (n i taken kept : ℕ) (x : Transfer) → taken < length rows → kept ≤ taken → x ≡ get_or rows taken x → x.at ≡ i →
      ((ess : List (List Event)) → AreShown T labels ess → AreShown T new (hop_alightings T x ∷ ess)) → (b : Bool) →
      ((ess : List (List Event)) → AreShown T labels ess → b ≡ list_any (λ e. is_sooner (Some e.arr) (label (walk T) ess e.stop)) (hop_alightings T x)) →
      Reduces T lines t firsts rows labels n i taken kept → Reduces T lines t firsts (cond b (set rows kept x) rows) new n i (taken + 1) (cond b (kept + 1) kept)
  take_step firsts rows labels new n i taken kept x below order is here offered b improves r = by_hops r.hops r.earlier r.left r.done r.shown r.begun
    where
      head : drop taken rows ≡ x ∷ drop (taken + 1) rows
      head = drop_more rows taken x below ∙ ap (λ y. y ∷ drop (taken + 1) rows) (sym is)

      by_hops : (hops : List Hop) (earlier : List (List Event)) → drop taken rows ≡ map (transfer_by_hop t i) hops ++ rows_below T lines t n → kept_rows ≡ (firsts ++ take kept rows) ++ filter_map (alternative_row t) (improving_alternatives T t earlier (map (hop_from i) hops ++ before i))
          → AreShown T labels earlier → (hops ≡ []) ⊎ (0 < length earlier) → Reduces T lines t firsts (cond b (set rows kept x) rows) new n i (taken + 1) (cond b (kept + 1) kept)
      by_hops [] earlier left done shown begun =
          let m : Member x (rows_below T lines t n) = subst (λ ys. Member x ys) (sym head ∙ left) (inl refl) in
          absurd (omega (arith, here, r.few, rows_lower t (candidates_without_u_turns T lines t) n x m))
      by_hops (h ∷ hs) [] left done shown (inl none) = cc
      by_hops (h ∷ hs) [] left done shown (inr some) = absurd (omega (arith, some))
      by_hops (h ∷ hs) (es ∷ ess) left done shown begun = by_test b refl
        where
          both : x ∷ drop (taken + 1) rows ≡ transfer_by_hop t i h ∷ (map (transfer_by_hop t i) hs ++ rows_below T lines t n)
          both = sym head ∙ left

          own : x ≡ transfer_by_hop t i h
          own = cc both

          behind : drop (taken + 1) rows ≡ map (transfer_by_hop t i) hs ++ rows_below T lines t n
          behind = cc both

          inside : All (λ e. e.stop < length T.stops) (alightings T t (hop_from i h))
          inside = All-filter (λ (e : Event). e.alight) (λ (e : Event). e.stop < length T.stops) (drop (h.at + 1) (events_of T h.trip)) (All-drop (λ (e : Event). e.stop < length T.stops) (h.at + 1) (events_of T h.trip) (stops_inside T sound h.trip))

          improvement : is_improvement T (es ∷ ess) (alightings T t (hop_from i h)) ≡ b
          improvement =
              improves_is T sound es ess (alightings T t (hop_from i h)) inside
              ∙ ap (λ y. list_any (λ e. is_sooner (Some e.arr) (label (walk T) (es ∷ ess) e.stop)) (hop_alightings T y)) (sym own) ∙ sym (improves (es ∷ ess) shown)

          now_shown : AreShown T new (alightings T t (hop_from i h) ∷ es ∷ ess)
          now_shown = subst (λ y. AreShown T new (hop_alightings T y ∷ es ∷ ess)) own (offered (es ∷ ess) shown)

          by_test : (c : Bool) → c ≡ b → Reduces T lines t firsts (cond c (set rows kept x) rows) new n i (taken + 1) (cond c (kept + 1) kept)
          by_test true e = record {
            hops = hs;
            earlier = alightings T t (hop_from i h) ∷ es ∷ ess;
            few = r.few;
            left = drop-set-lt (taken + 1) rows kept x (omega (arith, order)) ∙ behind;
            done = done
                ∙ ap (λ c. (firsts ++ take kept rows) ++ filter_map (alternative_row t) (cond c (hop_from i h ∷ improving_alternatives T t (alightings T t (hop_from i h) ∷ es ∷ ess) (map (hop_from i) hs ++ before i)) (improving_alternatives T t (alightings T t (hop_from i h) ∷ es ∷ ess) (map (hop_from i) hs ++ before i)))) (improvement ∙ sym e)
                ∙ sym (append_assoc (firsts ++ take kept rows) (transfer_by_hop t i h ∷ []) (filter_map (alternative_row t) (improving_alternatives T t (alightings T t (hop_from i h) ∷ es ∷ ess) (map (hop_from i) hs ++ before i))))
                ∙ ap (λ ys. ys ++ (filter_map (alternative_row t) (improving_alternatives T t (alightings T t (hop_from i h) ∷ es ∷ ess) (map (hop_from i) hs ++ before i))))
                (append_assoc firsts (take kept rows) (transfer_by_hop t i h ∷ []) ∙ ap (λ ys. firsts ++ ys) (ap (λ y. take kept rows ++ y ∷ []) (sym own) ∙ sym (take_more_set rows kept x (omega (arith, order, below)))));
            shown = now_shown;
            begun = inr (omega arith);
          }
          by_test false e = record {
            hops = hs;
            earlier = alightings T t (hop_from i h) ∷ es ∷ ess;
            few = r.few;
            left = behind;
            done = done
                ∙ ap (λ c. (firsts ++ take kept rows) ++ filter_map (alternative_row t) (cond c (hop_from i h ∷ improving_alternatives T t (alightings T t (hop_from i h) ∷ es ∷ ess) (map (hop_from i) hs ++ before i)) (improving_alternatives T t (alightings T t (hop_from i h) ∷ es ∷ ess) (map (hop_from i) hs ++ before i)))) (improvement ∙ sym e);
            shown = now_shown;
            begun = inr (omega arith);
          }

  -- the event before is taken up: one may stay there
  pub next_step : (firsts rows : List Transfer) (labels new : List (Option ℤ)) (n i taken kept : ℕ) → n ≤ i → drop taken rows ≡ map (transfer_by_hop t i) (candidates_without_u_turns T lines t i) ++ rows_below T lines t n → (i ≡ 0 → new ≡ labels) → (0 < i → AreLowered T t i (i + 1) labels new) → IsReducedTo T lines t (suc i) (firsts ++ take kept rows) labels → Reduces T lines t firsts rows new n i taken kept
  next_step firsts rows labels new n i taken kept few left none lowered r = by_mark (nat_lt 0 i && (event_at T t i).alight) refl
    where
      rows_with : (b : Bool) → b ≡ (nat_lt 0 i && (event_at T t i).alight) → alternatives_at T lines t i ≡ cond b (record { at = i; hop = None } ∷ map (hop_from i) (candidates_without_u_turns T lines t i)) []
      rows_with b e = ap (λ b. cond b (record { at = i; hop = None } ∷ map (hop_from i) (candidates_without_u_turns T lines t i)) []) (sym e)

      after : nat_lt 0 i ≡ true → 0 < i
      after h = grind (arith, nat_tests, h)

      stays : (c : Bool) (xs : List Alternative) → filter_map (alternative_row t) (cond c (record { at = i; hop = None } ∷ xs) xs) ≡ filter_map (alternative_row t) xs
      stays true xs = refl
      stays false xs = refl

      by_mark : (b : Bool) → b ≡ (nat_lt 0 i && (event_at T t i).alight) → Reduces T lines t firsts rows new n i taken kept
      by_mark true e = record {
        hops = candidates_without_u_turns T lines t i;
        earlier = (event_at T t i ∷ []) ∷ r.earlier;
        few = few;
        left = left;
        done = r.done ∙ ap (λ xs. (firsts ++ take kept rows) ++ filter_map (alternative_row t) (improving_alternatives T t r.earlier (xs ++ before i))) (rows_with true e)
            ∙ ap (λ ys. (firsts ++ take kept rows) ++ ys) (stays (is_improvement T r.earlier (event_at T t i ∷ [])) (improving_alternatives T t ((event_at T t i ∷ []) ∷ r.earlier) (map (hop_from i) (candidates_without_u_turns T lines t i) ++ before i)));
        shown = stay_shown T sound t i labels new r.earlier (lowered (after (and_parts (nat_lt 0 i) (event_at T t i).alight (sym e)).0)) (and_parts (nat_lt 0 i) (event_at T t i).alight (sym e)).1 r.shown;
        begun = inr (omega arith);
      }
      by_mark false e = record {
        hops = [];
        earlier = r.earlier;
        few = few;
        left = left ∙ ap (λ hs. map (transfer_by_hop t i) hs ++ rows_below T lines t n)
            (ap (λ b. filter (λ h. not (is_u_turn T t i h)) (cond b (flat_map (λ q. flat_map (λ line. filter_map (λ j. hop_onto T t i line j) (boarding_indexes T line q)) lines) (numbers_below (length T.stops))) [])) (sym e));
        done = r.done ∙ ap (λ xs. (firsts ++ take kept rows) ++ filter_map (alternative_row t) (improving_alternatives T t r.earlier (xs ++ before i))) (rows_with false e);
        shown = by_place (cases_lt 0 i) (sym e);
        begun = inl refl;
      }
        where
          before_none : 0 < i → nat_lt 0 i ≡ true
          before_none h = grind (arith, nat_tests, h)

          no_mark : (a c : Bool) → a ≡ true → (a && c) ≡ false → c ≡ false
          no_mark true c h f = f
          no_mark false c h f = cc

          by_place : (0 < i) ⊎ (i ≤ 0) → (nat_lt 0 i && (event_at T t i).alight) ≡ false → AreShown T new r.earlier
          by_place (inl h) f = stay_not_shown T sound t i labels new r.earlier (lowered h) (no_mark (nat_lt 0 i) (event_at T t i).alight (before_none h) f) r.shown
          by_place (inr h) f = subst (λ ts. AreShown T ts r.earlier) (sym (none (omega (arith, h)))) r.shown

  -- no row of the event is left
  pub event_done : (firsts rows : List Transfer) (labels : List (Option ℤ)) (n i taken kept : ℕ) → (HasRowAt rows i taken → ⊥) → Reduces T lines t firsts rows labels n i taken kept →
      IsReducedTo T lines t i (firsts ++ take kept rows) labels × (drop taken rows ≡ rows_below T lines t n)
  event_done firsts rows labels n i taken kept away r = by_hops r.hops r.left r.done
    where
      by_hops : (hops : List Hop) → drop taken rows ≡ map (transfer_by_hop t i) hops ++ rows_below T lines t n → kept_rows ≡ (firsts ++ take kept rows) ++ filter_map (alternative_row t) (improving_alternatives T t r.earlier (map (hop_from i) hops ++ before i))
          → IsReducedTo T lines t i (firsts ++ take kept rows) labels × (drop taken rows ≡ rows_below T lines t n)
      by_hops (h ∷ hs) left done =
          let first = drop_head taken rows (record { trip = 0; at = 0; to_trip = 0; to_at = 0 }) (transfer_by_hop t i h) (map (transfer_by_hop t i) hs ++ rows_below T lines t n) left in
          absurd (away (first.0, ap (λ (y : Transfer). y.at) first.1))
      by_hops [] left done = (record { earlier = r.earlier; done = done; shown = r.shown }, left)

  -- at the start, and at the end
  pub begins : (n : ℕ) (labels : List (Option ℤ)) → n ≡ length (events_of T t) → ((p : ℕ) → get_or labels p None ≡ None) → IsReducedTo T lines t n [] labels
  begins n labels k none = record {
    earlier = [];
    done = ap (λ m. filter_map (alternative_row t) (improving_alternatives T t [] (before m))) (sym k);
    shown = λ p time below. (λ k. absurd (nowhere T labels none p time k), λ k. absurd k);
  }

-- what is kept down to event 0
pub ends : (T : TimetableData) (lines : List (List ℕ)) (t : ℕ) (kept : List Transfer) (labels : List (Option ℤ)) → IsReducedTo T lines t 0 kept labels → kept ≡ transfers_of T (kept_hops T lines t) t
ends T lines t kept labels r = sym (r.done ∙ append-nil kept) ∙ sym (kept_transfers T lines t)

-- the call of an event is sound
pub sound_call : (T : TimetableData) → IsSound T → (t i : ℕ) → i < length (events_of T t) → IsSoundCall (length T.stops) (call_of (event_at T t i))
sound_call T sound t i below = by_case (cases_lt t (length T.trips))
  where
    at_most : (x y : ℤ) → x ≤ℤ y → y ≤ℤ pos 359999 → x ≤ℤ pos 359999
    at_most x y h k = ≤ℤ-trans x y (pos 359999) h k

    by_case : (t < length T.trips) ⊎ (length T.trips ≤ t) → IsSoundCall (length T.stops) (call_of (event_at T t i))
    by_case (inl h) =
        let s = IsSoundTrip.events (sound.trip t no_trip h) i no_event below in
        record { stop = s.stop; earliest = s.earliest; latest = at_most (event_at T t i).arr (event_at T t i).dep s.waits s.latest }
    by_case (inr h) = absurd (omega (arith, below, ap (λ (trip : TripData). length trip.events) (get_or_past T.trips t no_trip h)))
