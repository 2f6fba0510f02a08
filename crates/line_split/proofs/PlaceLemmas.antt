-- The places of the trips of one line more.
use Rattle.std.proofs.Common.{◌≡◌, ◌≢◌, ◌∙◌, sym, ap, subst, refl, ℕ, ◌+◌, ◌<◌, ◌⊎◌, inl, inr, List, length, get_or, set, Some, length-set, get_or-set_same, get_or-set_other}
use Rattle.std.proofs.lemmas.Bool.{cases_eq}
use Rattle.std.proofs.lemmas.Option.{slice_get-get_or}
use Rattle.line_split.specs.Places.{IsNoted, NotesLine}
use Rattle.tb_base.proofs.NumberFacts.{below_or_at}

pub notes_more : (line : ℕ) (trips : List ℕ) (i t : ℕ) (old before new : List (ℕ × ℕ)) → i < length trips → t ≡ get_or trips i 0 → t < length before → new ≡ set before t (line, i)
    → NotesLine line trips i old before → NotesLine line trips (i + 1) old new
notes_more line trips i t old before new h is inside e notes = record {
  long = rw e (length-set before t (line, i) ∙ notes.long);
  noted = λ k below. noted k (below_or_at k i below);
  others = λ u. others u (cases_eq u t);
}
  where
    here : get_or new t (0, 0) ≡ (line, i)
    here = rw e (get_or-set_same before t (line, i) (0, 0) inside)

    there : (u : ℕ) → u ≢ t → get_or new u (0, 0) ≡ get_or before u (0, 0)
    there u other = rw e (get_or-set_other before t u (line, i) (0, 0) other)

    at_t : (u : ℕ) → u ≡ t → IsNoted line trips u (get_or new u (0, 0))
    at_t u same =
        let p : get_or new u (0, 0) ≡ (line, i) = ap (λ v. get_or new v (0, 0)) same ∙ here in
        subst (λ q. IsNoted line trips u q) (sym p) (refl, slice_get-get_or trips i 0 h ∙ ap (λ v. Some v) (sym is ∙ sym same))

    by_trip : (k : ℕ) → k < i → (get_or trips k 0 ≡ t) ⊎ (get_or trips k 0 ≢ t) → IsNoted line trips (get_or trips k 0) (get_or new (get_or trips k 0) (0, 0))
    by_trip k below (inl same) = at_t (get_or trips k 0) same
    by_trip k below (inr other) = subst (λ q. IsNoted line trips (get_or trips k 0) q) (sym (there (get_or trips k 0) other)) (notes.noted k below)

    noted : (k : ℕ) → (k < i) ⊎ (k ≡ i) → IsNoted line trips (get_or trips k 0) (get_or new (get_or trips k 0) (0, 0))
    noted k (inl below) = by_trip k below (cases_eq (get_or trips k 0) t)
    noted k (inr same) = at_t (get_or trips k 0) (ap (λ j. get_or trips j 0) same ∙ sym is)

    others : (u : ℕ) → (u ≡ t) ⊎ (u ≢ t) → (get_or new u (0, 0) ≡ get_or old u (0, 0)) ⊎ IsNoted line trips u (get_or new u (0, 0))
    others u (inl same) = inr (at_t u same)
    others u (inr other) = elim (notes.others u) [
      | inl kept ↦ inl (there u other ∙ kept)
      | inr noted ↦ inr (subst (λ q. IsNoted line trips u q) (sym (there u other)) noted)
    ]
