-- The stops from which a change leads to a stop with doubts.
use Rattle.std.proofs.Common.{◌≡◌, ◌∙◌, sym, ap, ℕ, ◌+◌, ◌<◌, ◌≤◌, ◌⊎◌, inl, inr, Bool, true, false, refl, cond, ◌==◌, ◌||◌, not, List, [], ◌∷◌, ◌++◌, length, get_or, find, Option, Some, None, arith}
use Rattle.std.specs.Prelude.{IsSome}
use Rattle.std.specs.List.{list_any}
use Rattle.std.specs.Option.{option_map}
use Rattle.std.proofs.lemmas.Bool.{cases_lt, eqb-true, false_from_ne_true, false≢true, or_left, or_right}
use Rattle.std.proofs.lemmas.List.{get_or_append_left, get_or_past, get_or_push}
use Rattle.tb_base.specs.declared.table.Path.{Path}
use Rattle.tb_base.specs.TimetableData.{TimetableData}
use Rattle.tb_base.specs.Walking.{change, change_time}
use Rattle.tb_base.proofs.Members.{find_found}
use Rattle.late_edit.specs.declared.doubts.Doubt.{Doubt}
use Rattle.late_edit.specs.Doubts.{MarksDoubts, MarksNear}
use Rattle.late_edit.proofs.ListFacts.{list_any-by}

-- a change leads from p to q, which is marked: so p is, or a stop that a footpath from p leads to
change-marked : (T : TimetableData) (marks : List Bool) (p q : ℕ) → IsSome (change T p q) → get_or marks q false ≡ true →
    (get_or marks p false || list_any (λ (f : Path). get_or marks f.to false) (get_or T.footpaths.paths p [])) ≡ true
change-marked T marks p q changes marked = by_test (p == q) refl changes
  where
    by_path : (o : Option Path) → o ≡ find (λ (f : Path). f.to == q) (get_or T.footpaths.paths p []) → IsSome (option_map (λ (f : Path). f.secs) o) → list_any (λ (f : Path). get_or marks f.to false) (get_or T.footpaths.paths p []) ≡ true
    by_path None e h = cc
    by_path (Some f) e h =
        let found = find_found (λ (f : Path). f.to == q) (get_or T.footpaths.paths p []) f (sym e) in
        list_any-by (λ (f : Path). get_or marks f.to false) (get_or T.footpaths.paths p []) f found.0 (ap (λ n. get_or marks n false) (eqb-true f.to q found.1) ∙ marked)

    by_test : (b : Bool) → b ≡ (p == q) → IsSome (cond b (change_time T.footpaths p) (option_map (λ (f : Path). f.secs) (find (λ (f : Path). f.to == q) (get_or T.footpaths.paths p [])))) →
        (get_or marks p false || list_any (λ (f : Path). get_or marks f.to false) (get_or T.footpaths.paths p [])) ≡ true
    by_test true e h = or_left (get_or marks p false) (list_any (λ (f : Path). get_or marks f.to false) (get_or T.footpaths.paths p [])) (ap (λ n. get_or marks n false) (eqb-true p q (sym e)) ∙ marked)
    by_test false e h = or_right (get_or marks p false) (list_any (λ (f : Path). get_or marks f.to false) (get_or T.footpaths.paths p [])) (by_path (find (λ (f : Path). f.to == q) (get_or T.footpaths.paths p [])) refl h)

pub near_from : (T : TimetableData) (rows : List (List Doubt)) (marks near : List Bool) → MarksDoubts rows marks → length near ≡ length T.stops
    → ((p : ℕ) → p < length T.stops → get_or near p false ≡ (get_or marks p false || list_any (λ (f : Path). get_or marks f.to false) (get_or T.footpaths.paths p []))) → MarksNear T rows near
near_from T rows marks near doubtful long is = record {
  long = long;
  far = λ p q inside off changes.
      doubtful.plain q (false_from_ne_true (get_or marks q false) (λ on. false≢true (sym off ∙ (is p inside ∙ change-marked T marks p q changes on))));
}

-- with one stop more
pub plain_more : (rows : List (List Doubt)) (marks new : List Bool) (n : ℕ) (b : Bool) → length marks ≡ n → new ≡ marks ++ b ∷ [] → ((q : ℕ) → q < n → get_or marks q false ≡ false → get_or rows q [] ≡ []) → (b ≡ false → get_or rows n [] ≡ [])
    → (q : ℕ) → q < n + 1 → get_or new q false ≡ false → get_or rows q [] ≡ []
plain_more rows marks new n b long is before here q below off = by_case (cases_lt q n)
  where
    by_case : (q < n) ⊎ (n ≤ q) → get_or rows q [] ≡ []
    by_case (inl h) = before q h (sym (get_or_append_left marks (b ∷ []) false q (omega (arith, h, long))) ∙ (ap (λ bs. get_or bs q false) (sym is) ∙ off))
    by_case (inr h) =
        let at : q ≡ n = omega (arith, h, below) in
        ap (λ m. get_or rows m []) at ∙ here (sym (get_or_push marks b false n long) ∙ (ap (λ bs. get_or bs n false) (sym is) ∙ (ap (λ m. get_or new m false) (sym at) ∙ off)))

-- and with all
pub all_plain : (rows : List (List Doubt)) (marks : List Bool) (n : ℕ) → n ≡ length rows → ((q : ℕ) → q < n → get_or marks q false ≡ false → get_or rows q [] ≡ []) → (q : ℕ) → get_or marks q false ≡ false → get_or rows q [] ≡ []
all_plain rows marks n all before q off = by_case (cases_lt q n)
  where
    by_case : (q < n) ⊎ (n ≤ q) → get_or rows q [] ≡ []
    by_case (inl h) = before q h off
    by_case (inr h) = get_or_past rows q [] (omega (arith, h, all))

-- a row that is empty
pub none_left : (n : ℕ) (b : Bool) → b ≡ (n == 0) → not b ≡ false → n ≡ 0
none_left n true e h = eqb-true n 0 (sym e)
none_left n false e h = absurd (false≢true (sym h))
