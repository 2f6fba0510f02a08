-- A trip with the same events is touched exactly where one of its events touches it.
use Rattle.std.proofs.Common.{◌≡◌, ◌∙◌, sym, ap, subst, refl, ℕ, ◌<◌, Bool, true, false, ◌||◌, not, List, length, map}
use Rattle.std.specs.Prelude.{filter_map, flat_map}
use Rattle.std.specs.List.{list_any}
use Rattle.std.proofs.lemmas.Bool.{false≢true, not-false, not_from_true, or_from, or_parts}
use Rattle.std.proofs.lemmas.List.Folds.{list_any_none}
use lib.Pointwise.{pointwise}
use Rattle.tb_base.specs.declared.table.Event.{Event}
use Rattle.tb_base.specs.declared.transfer.Transfer.{Transfer}
use Rattle.tb_base.specs.TimetableData.{events_of}
use Rattle.tb_base.specs.Transfers.{candidates, numbers_down}
use Rattle.tb_base.proofs.Members.{All-from_Member, Member-flat_map, Member-flat_map_back}
use Rattle.tb_base.proofs.Ordered.{Member}
use Rattle.tb_laws.specs.Rows.{transfer_by_hop}
use Rattle.line_split.specs.LinesData.{LinesData}
use Rattle.late_edit.specs.Touched.{candidates_at, candidates_of, has_other_events, is_touched, is_touched_at, same_transfer}
use Rattle.late_edit.proofs.ListFacts.{flat_map-same, list_any-none, Member-numbers_down, Member-numbers_down_back}
use Rattle.late_edit.proofs.SameEvents.{same_rows, same_trip}
use Rattle.late_edit.proofs.Untouched.{hop_at, hops_at-all, rows_at}

module _ (L M : LinesData) (t : ℕ) (same : has_other_events L.table M.table t ≡ false) where
  own : events_of L.table t ≡ events_of M.table t
  own = same_trip L.table M.table t same

  -- whether a transfer leads to a trip with other events
  abbrev leads : Transfer → Bool
  leads r = has_other_events L.table M.table r.to_trip

  -- ---- no event touches it

  module _ (none : (i : ℕ) → i < length (events_of L.table t) → is_touched_at L M t i ≡ false) where
    at : (i : ℕ) → i < length (events_of L.table t) → (not (pointwise same_transfer (candidates_at L t i) (candidates_at M t i)) ≡ false) × (list_any leads (candidates_at L t i) ≡ false)
    at i below = or_parts (not (pointwise same_transfer (candidates_at L t i) (candidates_at M t i))) (list_any leads (candidates_at L t i)) (none i below)

    rows_same : candidates_of L t ≡ candidates_of M t
    rows_same =
        flat_map-same (rows_at (candidates L.table L.lines t) t) (rows_at (candidates M.table M.lines t) t) (numbers_down (length (events_of L.table t)))
        (λ i m. (same_rows (candidates_at L t i) (candidates_at M t i)).0 (not-false (pointwise same_transfer (candidates_at L t i) (candidates_at M t i)) (at i (Member-numbers_down_back i (length (events_of L.table t)) m)).0))
        ∙ ap (λ (es : List Event). flat_map (rows_at (candidates M.table M.lines t) t) (numbers_down (length es))) own

    calm : (r : Transfer) → Member r (candidates_of L t) → leads r ≡ false
    calm r m =
        let i = Member-flat_map_back (rows_at (candidates L.table L.lines t) t) r (numbers_down (length (events_of L.table t))) m in
        list_any-none leads (candidates_at L t i.0) (at i.0 (Member-numbers_down_back i.0 (length (events_of L.table t)) i.1)).1 r i.2

    pub untouched : is_touched L M t ≡ false
    untouched =
        or_from (has_other_events L.table M.table t || not (pointwise same_transfer (candidates_of L t) (candidates_of M t))) (list_any leads (candidates_of L t))
        (or_from (has_other_events L.table M.table t) (not (pointwise same_transfer (candidates_of L t) (candidates_of M t))) same
        (not_from_true (pointwise same_transfer (candidates_of L t) (candidates_of M t)) ((same_rows (candidates_of L t) (candidates_of M t)).1 rows_same)))
        (list_any_none leads (candidates_of L t) (All-from_Member (λ (r : Transfer). leads r ≡ false) (candidates_of L t) calm))

  -- ---- an event touches it

  module _ (i : ℕ) (below : i < length (events_of L.table t)) where
    untouched_at : is_touched L M t ≡ false → is_touched_at L M t i ≡ false
    untouched_at h =
        or_from (not (pointwise same_transfer (candidates_at L t i) (candidates_at M t i))) (list_any leads (candidates_at L t i))
        (not_from_true (pointwise same_transfer (candidates_at L t i) (candidates_at M t i)) ((same_rows (candidates_at L t i) (candidates_at M t i)).1 (ap (map (transfer_by_hop t i)) hops)))
        (list_any_none leads (candidates_at L t i) (All-from_Member (λ (r : Transfer). leads r ≡ false) (candidates_at L t i) calm_at))
      where
        two : ((has_other_events L.table M.table t || not (pointwise same_transfer (candidates_of L t) (candidates_of M t))) ≡ false) × (list_any leads (candidates_of L t) ≡ false)
        two = or_parts (has_other_events L.table M.table t || not (pointwise same_transfer (candidates_of L t) (candidates_of M t))) (list_any leads (candidates_of L t)) h

        rows : candidates_of L t ≡ candidates_of M t
        rows = (same_rows (candidates_of L t) (candidates_of M t)).0 (not-false (pointwise same_transfer (candidates_of L t) (candidates_of M t))
            (or_parts (has_other_events L.table M.table t) (not (pointwise same_transfer (candidates_of L t) (candidates_of M t))) two.0).1)

        hops : candidates L.table L.lines t i ≡ candidates M.table M.lines t i
        hops =
            sym (hops_at-all (candidates L.table L.lines t) t i (length (events_of L.table t)) below)
            ∙ ap (filter_map (hop_at i)) rows
            ∙ hops_at-all (candidates M.table M.lines t) t i (length (events_of M.table t)) (subst (λ (es : List Event). i < length es) own below)

        calm_at : (r : Transfer) → Member r (candidates_at L t i) → leads r ≡ false
        calm_at r m =
            list_any-none leads (candidates_of L t) two.1 r
            (Member-flat_map (rows_at (candidates L.table L.lines t) t) i r (numbers_down (length (events_of L.table t))) (Member-numbers_down i (length (events_of L.table t)) below) m)

    pub touched : is_touched_at L M t i ≡ true → is_touched L M t ≡ true
    touched h = by_test (is_touched L M t) refl
      where
        by_test : (b : Bool) → b ≡ is_touched L M t → is_touched L M t ≡ true
        by_test true e = sym e
        by_test false e = absurd (false≢true (sym (untouched_at (sym e)) ∙ h))
