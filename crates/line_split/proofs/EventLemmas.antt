-- Two trips, event for event.
use Rattle.std.proofs.Common.{◌≡◌, ◌∙◌, ℕ, ◌≤◌, ◌==◌, ◌&&◌, Bool, List, length, drop, refl, arith, zero, suc, [], ◌∷◌, ◌⊎◌, inl, inr}
use Rattle.std.specs.Prelude.{int_le}
use Rattle.std.specs.Ordering.{int_cmp, nat_cmp}
use Rattle.std.specs.declared.cmp.Ordering.TheVariants.{Less, Greater}
use Rattle.std.specs.Cmp.Lexicographic.{slice_cmp}
use Rattle.tb_base.specs.declared.table.Event.{Event}
use Rattle.tb_base.specs.Lines.{same_mark, times_of}
use Rattle.line_split.specs.Patterns.{pattern_of}

-- the test of one event and the next
abbrev pub follows : Event → Event → Bool
follows e f = (e.stop == f.stop) && same_mark e.board f.board && same_mark e.alight f.alight && int_le e.arr f.arr && int_le e.dep f.dep

less : (n : ℕ) → Less ≡ nat_cmp 0 (suc n)
less n = grind arith

greater : (n : ℕ) → Greater ≡ nat_cmp (suc n) 0
greater n = grind arith

one_more : (m n : ℕ) → nat_cmp m n ≡ nat_cmp (suc m) (suc n)
one_more m n = grind arith

-- past the end of one of them
pub times-end : (i : ℕ) (es fs : List Event) → i ≤ length es → i ≤ length fs → (i ≡ length es) ⊎ (i ≡ length fs) →
    slice_cmp int_cmp (times_of (drop i es)) (times_of (drop i fs)) ≡ nat_cmp (length es) (length fs)
times-end zero [] [] g h k = refl
times-end zero [] (f ∷ fs) g h k = less (length fs)
times-end zero (e ∷ es) [] g h k = greater (length es)
times-end zero (e ∷ es) (f ∷ fs) g h k = absurd (elim k [ inl a ↦ omega (arith, a) | inr a ↦ omega (arith, a) ])
times-end (suc i) [] fs g h k = absurd (omega arith)
times-end (suc i) (e ∷ es) [] g h k = absurd (omega arith)
times-end (suc i) (e ∷ es) (f ∷ fs) g h k =
    times-end i es fs (omega arith) (omega arith) (elim k [ inl a ↦ inl (omega (arith, a)) | inr a ↦ inr (omega (arith, a)) ]) ∙ one_more (length es) (length fs)

-- the same of their patterns
pub pattern-end : (i : ℕ) (es fs : List Event) → i ≤ length es → i ≤ length fs → (i ≡ length es) ⊎ (i ≡ length fs) →
    slice_cmp nat_cmp (pattern_of (drop i es)) (pattern_of (drop i fs)) ≡ nat_cmp (length es) (length fs)
pattern-end zero [] [] g h k = refl
pattern-end zero [] (f ∷ fs) g h k = less (length fs)
pattern-end zero (e ∷ es) [] g h k = greater (length es)
pattern-end zero (e ∷ es) (f ∷ fs) g h k = absurd (elim k [ inl a ↦ omega (arith, a) | inr a ↦ omega (arith, a) ])
pattern-end (suc i) [] fs g h k = absurd (omega arith)
pattern-end (suc i) (e ∷ es) [] g h k = absurd (omega arith)
pattern-end (suc i) (e ∷ es) (f ∷ fs) g h k =
    pattern-end i es fs (omega arith) (omega arith) (elim k [ inl a ↦ inl (omega (arith, a)) | inr a ↦ inr (omega (arith, a)) ]) ∙ one_more (length es) (length fs)
