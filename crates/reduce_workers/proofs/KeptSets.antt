-- The kept transfers of all trips, as a set of hops.
use Rattle.std.proofs.Common.{◌≡◌, ◌∙◌, ℕ, zero, suc, ◌<◌, ◌≤◌, ◌==◌, ◌⊎◌, inl, inr, List, [], ◌∷◌, ◌++◌, Bool, true, false, cond, length, map, refl, sym, ap, subst, arith}
use Rattle.std.specs.Prelude.{All, filter, flat_map}
use Rattle.std.proofs.lemmas.Bool.Decides.{nat_tests}
use Rattle.std.proofs.lemmas.List.{append-nil, map-append, get_or_past}
use Rattle.std.proofs.lemmas.List.FromFn.{get_or-map-range_with_len, length-map-range_with_len}
use Rattle.std.proofs.lemmas.List.Elements.{filter-append}
use Rattle.std.proofs.lemmas.Bool.{cases_lt}
use Rattle.tb_base.specs.declared.transfer.Hop.{Hop}
use Rattle.tb_base.specs.declared.transfer.Transfer.{Transfer}
use Rattle.tb_base.specs.TimetableData.{TimetableData, events_of}
use Rattle.tb_base.specs.Lines.{AreDividedInto}
use Rattle.tb_base.specs.OutSets.{AreRowsOf, IsTransferOf, hops_at, row_of}
use Rattle.tb_base.specs.Soundness.{IsSound}
use Rattle.tb_base.specs.Sufficiency.{AreSufficient}
use Rattle.tb_base.specs.Transfers.{kept_hops, numbers_down, transfers_of}
use Rattle.tb_base.proofs.Events.{MayAlight-inside, MayBoard-inside}
use Rattle.tb_base.proofs.Ordered.{Member, Contains-from_Member}
use Rattle.tb_base.proofs.Members.{All-from_Member, Member-flat_map_back, Member-map_back}
use Rattle.tb_laws.proofs.KeptLaws.{kept_hops_sufficient}
use Rattle.transfer_pack.specs.Packed.{PackedHops, packed}
use Rattle.reduce_workers.specs.Reductions.{rows_from}

-- the transfer from t@i by a hop, and the hop of a transfer
abbrev transfer_by : ℕ → ℕ → Hop → Transfer
transfer_by t i h = record { trip = t; at = i; to_trip = h.trip; to_at = h.at }

abbrev hop_of : Transfer → Hop
hop_of r = record { trip = r.to_trip; at = r.to_at }

hops_at-append : (xs ys : List Transfer) (i : ℕ) → hops_at (xs ++ ys) i ≡ hops_at xs i ++ hops_at ys i
hops_at-append xs ys i = ap (map hop_of) (filter-append (λ r. r.at == i) xs ys) ∙ map-append hop_of (filter (λ r. r.at == i) xs) (filter (λ r. r.at == i) ys)

of_event : (t j i : ℕ) (hs : List Hop) (b : Bool) → b ≡ (j == i) → hops_at (map (transfer_by t j) hs) i ≡ cond b hs []
of_event t j i [] true e = refl
of_event t j i [] false e = refl
of_event t j i (h ∷ hs) true e = ap (λ b. map hop_of (cond b (transfer_by t j h ∷ filter (λ r. r.at == i) (map (transfer_by t j) hs)) (filter (λ r. r.at == i) (map (transfer_by t j) hs)))) (sym e) ∙ ap (λ ks. h ∷ ks) (of_event t j i hs true e)
of_event t j i (h ∷ hs) false e = ap (λ b. map hop_of (cond b (transfer_by t j h ∷ filter (λ r. r.at == i) (map (transfer_by t j) hs)) (filter (λ r. r.at == i) (map (transfer_by t j) hs)))) (sym e) ∙ of_event t j i hs false e

-- of the transfers of the first n events those of event i are by its hops, and there are none of a
-- later one
module _ (hops : ℕ → List Hop) (t i : ℕ) where
  abbrev by_events : ℕ → List Transfer
  by_events n = flat_map (λ j. map (transfer_by t j) (hops j)) (numbers_down n)

  past : (n : ℕ) → n ≤ i → hops_at (by_events n) i ≡ []
  past zero h = refl
  past (suc n) h =
      let other : false ≡ (n == i) = grind (arith, nat_tests, h) in
      hops_at-append (map (transfer_by t n) (hops n)) (by_events n) i ∙ ap (λ xs. xs ++ hops_at (by_events n) i) (of_event t n i (hops n) false other) ∙ past n (omega (arith, h))

  below_or_last : (n : ℕ) → i < suc n → (i < n) ⊎ (n ≡ i)
  below_or_last n h = grind arith

  inside : (n : ℕ) → i < n → hops_at (by_events n) i ≡ hops i
  inside zero h = absurd (omega (arith, h))
  inside (suc n) h = hops_at-append (map (transfer_by t n) (hops n)) (by_events n) i ∙ by_case (λ k. inside n k) (below_or_last n h)
    where
      by_case : (i < n → hops_at (by_events n) i ≡ hops i) → (i < n) ⊎ (n ≡ i) → hops_at (map (transfer_by t n) (hops n)) i ++ hops_at (by_events n) i ≡ hops i
      by_case more (inl k) =
          let other : false ≡ (n == i) = grind (arith, nat_tests, k) in
          ap (λ xs. xs ++ hops_at (by_events n) i) (of_event t n i (hops n) false other) ∙ more k
      by_case more (inr e) =
          let same : true ≡ (n == i) = grind (arith, nat_tests, e) in
          ap (λ xs. xs ++ hops_at (by_events n) i) (of_event t n i (hops n) true same) ∙ ap (λ xs. hops n ++ xs) (past n (omega (arith, e))) ∙ append-nil (hops n) ∙ ap hops e

length-all_rows : (T : TimetableData) (hops : ℕ → ℕ → List Hop) (n : ℕ) → length (rows_from T hops 0 n) ≡ n
length-all_rows T hops n = length-map-range_with_len (λ t. transfers_of T (hops t) t) 0 n

-- the transfers of a trip, read among those of all
row_at : (T : TimetableData) (hops : ℕ → ℕ → List Hop) (n t : ℕ) → t < n → row_of (rows_from T hops 0 n) t ≡ transfers_of T (hops t) t
row_at T hops n t h = get_or-map-range_with_len (λ t. transfers_of T (hops t) t) 0 n t t [] h (omega arith)

none : {X : Type 0} (xs : List X) → ((x : X) → Member x xs → ⊥) → xs ≡ []
none [] empty = refl
none (x ∷ xs) empty = absurd (empty x (inl refl))

module _ (T : TimetableData) (hops : ℕ → ℕ → List Hop) (enough : AreSufficient T hops) where
  no_such_event : (t i : ℕ) → ((t < length T.trips) → (i < length (events_of T t)) → ⊥) → hops t i ≡ []
  no_such_event t i outside =
      none (hops t i) (λ h m. let there = MayAlight-inside T t i (enough.possible t i h (Contains-from_Member h (hops t i) m)).alights in outside there.0 there.1)

  -- the set of these transfers has exactly the hops
  pub hops_of_rows : (t i : ℕ) → hops_at (row_of (rows_from T hops 0 (length T.trips)) t) i ≡ hops t i
  hops_of_rows t i = by_trip (cases_lt t (length T.trips))
    where
      by_event : (i < length (events_of T t)) ⊎ (length (events_of T t) ≤ i) → hops_at (transfers_of T (hops t) t) i ≡ hops t i
      by_event (inl k) = inside (hops t) t i (length (events_of T t)) k
      by_event (inr k) = past (hops t) t i (length (events_of T t)) k ∙ sym (no_such_event t i (λ a b. omega (arith, b, k)))

      by_trip : (t < length T.trips) ⊎ (length T.trips ≤ t) → hops_at (row_of (rows_from T hops 0 (length T.trips)) t) i ≡ hops t i
      by_trip (inl k) = ap (λ row. hops_at row i) (row_at T hops (length T.trips) t k) ∙ by_event (cases_lt i (length (events_of T t)))
      by_trip (inr k) =
          let within : length (rows_from T hops 0 (length T.trips)) ≤ t = omega (arith, k, length-all_rows T hops (length T.trips)) in
          ap (λ row. hops_at row i) (get_or_past (rows_from T hops 0 (length T.trips)) t [] within) ∙ sym (no_such_event t i (λ a b. omega (arith, a, k)))

  -- they are transfers from the events of their trips
  pub are_rows : AreRowsOf T (rows_from T hops 0 (length T.trips))
  are_rows = record {
    long = length-all_rows T hops (length T.trips);
    own = λ t h. subst (All (IsTransferOf T t)) (sym (row_at T hops (length T.trips) t h)) (All-from_Member (IsTransferOf T t) (transfers_of T (hops t) t) (own_transfer t));
  }
    where
      own_transfer : (t : ℕ) (r : Transfer) → Member r (transfers_of T (hops t) t) → IsTransferOf T t r
      own_transfer t r m =
          let at : (i : ℕ) × Member i (numbers_down (length (events_of T t))) × Member r (map (transfer_by t i) (hops t i))
          = Member-flat_map_back (λ i. map (transfer_by t i) (hops t i)) r (numbers_down (length (events_of T t))) m in
          let by : (h : Hop) × Member h (hops t at.0) × (transfer_by t at.0 h ≡ r) = Member-map_back (transfer_by t at.0) r (hops t at.0) at.2 in
          let hop = enough.possible t at.0 by.0 (Contains-from_Member by.0 (hops t at.0) by.1) in
          subst (IsTransferOf T t) by.2 (record {
            trip = refl;
            at = (MayAlight-inside T t at.0 hop.alights).1;
            to_trip = (MayBoard-inside T by.0.trip by.0.at hop.boards).0;
            to_at = (MayBoard-inside T by.0.trip by.0.at hop.boards).1;
          })

  -- what has exactly these hops is as sufficient
  pub as_sufficient : (set : ℕ → ℕ → List Hop) → ((t i : ℕ) → set t i ≡ hops t i) → AreSufficient T set
  as_sufficient set each = subst (AreSufficient T) (λ k t i. sym (each t i) k) enough

-- what a set of the kept transfers has, and that it is sufficient
module _ (T : TimetableData) (sound : IsSound T) (set : PackedHops) (rows : List (List Transfer)) (hops : (t i : ℕ) → packed set t i ≡ hops_at (row_of rows t) i) (lines : List (List ℕ)) (divided : AreDividedInto T lines) (kept : rows ≡ rows_from T (kept_hops T lines) 0 (length T.trips)) where
  pub has_kept : (t i : ℕ) → packed set t i ≡ kept_hops T lines t i
  has_kept t i = hops t i ∙ ap (λ rs. hops_at (row_of rs t) i) kept ∙ hops_of_rows T (kept_hops T lines) (kept_hops_sufficient T lines sound divided) t i

  pub has_enough : AreSufficient T (packed set)
  has_enough = as_sufficient T (kept_hops T lines) (kept_hops_sufficient T lines sound divided) (packed set) has_kept
