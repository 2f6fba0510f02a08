-- The stops of a breach of the footpath law are there.
use Rattle.std.proofs.Common.{◌≡◌, ◌∙◌, refl, sym, ap, subst, ℕ, zero, suc, ◌<◌, ◌≤◌, List, [], ◌∷◌, length, map, get_or, find, option_map, Some, None, Bool, true, false, inl, inr, arith}
use Rattle.std.specs.Prelude.{◌==◌, All, nat_lt, slice_index_or}
use Rattle.std.proofs.lemmas.Bool.Decides.{nat_tests}
use Rattle.std.proofs.lemmas.List.{length-map}
use Rattle.std.proofs.lemmas.List.Elements.{All-head, All-tail}
use Rattle.tb_base.specs.declared.table.Path.{Path}
use Rattle.tb_base.specs.declared.table.Stop.{Stop}
use Rattle.tb_base.specs.Soundness.{IsSoundPath, IsSoundFootpaths}
use Rattle.gtfs_rows.specs.StopsFile.{StopData}
use Rattle.footpaths.specs.declared.law.LawFault.{LawFault}
use Rattle.footpaths.specs.Stops.{stop_id, platforms}
use Rattle.tb_base.specs.TimetableData.{FootpathData}
use Rattle.footpaths.specs.Law.{AreInARow, IsFirstBreach, IsBreach}
use Rattle.tb_base.specs.Walking.{footpath_secs}
use Rattle.trip_table.specs.Answers.{IsAmong}
use Rattle.trip_table.specs.Day.{platform_id}

found_in : (n p q s : ℕ) (row : List Path) → All (IsSoundPath n p) row → option_map (λ (f : Path). f.secs) (find (λ (f : Path). f.to == q) row) ≡ Some s → q < n
found_in n p q s [] h e = absurd (cc)
found_in n p q s (f ∷ row) h e = by_test (found_in n p q s row (All-tail (IsSoundPath n p) f row h)) (f.to == q) refl e
  where
    by_test : (option_map (λ (f : Path). f.secs) (find (λ (f : Path). f.to == q) row) ≡ Some s → q < n) → (b : Bool) → (f.to == q) ≡ b
        → option_map (λ (f : Path). f.secs) (Rattle.std.proofs.Common.cond b (Some f) (find (λ (f : Path). f.to == q) row)) ≡ Some s → q < n
    by_test later true is k = let at = (All-head (IsSoundPath n p) f row h).to in let same : f.to ≡ q = grind (arith, nat_tests, is) in omega (arith, at, same)
    by_test later false is k = later k

none_past : (rows : List (List Path)) (p : ℕ) → length rows ≤ p → slice_index_or rows p [] ≡ []
none_past [] p h = refl
none_past (r ∷ rows) zero h = absurd (omega arith)
none_past (r ∷ rows) (suc p) h = none_past rows p (omega arith)

-- both ends of a footpath are there
pub ends : (P : FootpathData) (p q s : ℕ) → IsSoundFootpaths P → footpath_secs P p q ≡ Some s → (p < length P.change) × (q < length P.change)
ends P p q s sound e = by_test (nat_lt p (length P.change)) refl
  where
    by_test : (b : Bool) → nat_lt p (length P.change) ≡ b → (p < length P.change) × (q < length P.change)
    by_test true is = let below : p < length P.change = grind (arith, nat_tests, is) in (below, found_in (length P.change) p q s (slice_index_or P.paths p []) (sound.paths p below) e)
    by_test false is =
        let past : length P.paths ≤ p = grind (arith, nat_tests, is, sound.rows) in
        absurd (let no : None ≡ Some s = sym (ap (λ (row : List Path). option_map (λ (f : Path). f.secs) (find (λ (f : Path). f.to == q) row)) (none_past P.paths p past)) ∙ e in cc)

row_inside : (P : FootpathData) (p q r s t : ℕ) → IsSoundFootpaths P → AreInARow P p q r s t → (p < length P.change) × (q < length P.change) × (r < length P.change)
row_inside P p q r s t sound row =
    let first = ends P p q s sound row.first in
    let second = ends P q r t sound row.second in
    (first.0, first.1, second.1)

-- the three stops of a breach are among the stops
pub breach_inside : (P : FootpathData) (f : LawFault) → IsSoundFootpaths P → IsFirstBreach P f → IsAmong (length P.change) f
breach_inside P f sound first = by_breach first.p first.from.q first.from.over.r first.from.over.breach
  where
    by_breach : (p q r : ℕ) → IsBreach P p q r f → IsAmong (length P.change) f
    by_breach p q r (inl (is, at)) = subst (IsAmong (length P.change)) (sym is) (row_inside P p q r at.s at.t sound at.row)
    by_breach p q r (inr (is, at)) = subst (IsAmong (length P.change)) (sym is) (row_inside P p q r at.s at.t sound at.row)

named_at : (rows : List StopData) (i : ℕ) (s : Stop) → i < length rows → s ≡ get_or (map (λ s. record { name = StopData.id s }) rows) i s → s.name ≡ slice_index_or (map stop_id rows) i []
named_at [] i s within here = absurd (omega arith)
named_at (r ∷ rows) zero s within here = ap (λ (s : Stop). s.name) here
named_at (r ∷ rows) (suc i) s within here = named_at rows i s (omega arith) here

-- the name of a stop is the id of its platform
pub stop_name : (rows : List StopData) (stops : List Stop) (i : ℕ) (s : Stop) → stops ≡ map (λ s. record { name = StopData.id s }) (platforms rows) → i < length stops → s ≡ get_or stops i s → s.name ≡ platform_id rows i
stop_name rows stops i s are within here =
    let many : length stops ≡ length (platforms rows) = ap (λ (xs : List Stop). length xs) are ∙ length-map (platforms rows) (λ s. record { name = StopData.id s }) in
    named_at (platforms rows) i s (omega (arith, within, many)) (here ∙ ap (λ (xs : List Stop). get_or xs i s) are)
