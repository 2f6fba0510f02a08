-- Lists made of the numbers below a number.
use Rattle.std.proofs.Common.{◌≡◌, ◌∙◌, ap, sym, subst, ℕ, zero, suc, ◌+◌, ◌*◌, ◌<◌, inl, inr, ◌∷◌, ◌++◌, [], List, length, get_or, map, arith}
use Rattle.std.specs.Prelude.{flat_map, All}
use Rattle.std.proofs.lemmas.List.{length-map, get_or-map, get_or_append_left, get_or_push}
use Rattle.std.proofs.lemmas.List.Elements.{All-append, All-nil}
use Rattle.tb_base.specs.Transfers.{numbers_below}
use Rattle.tb_base.proofs.Lists.{length-numbers_below}
use Rattle.tb_base.proofs.NumberFacts.{below_or_at}
use Rattle.feed_maker.proofs.Growing.{flat_map_next, map_next}

number_at : (n i d : ℕ) → i < n → get_or (numbers_below n) i d ≡ i
number_at zero i d h = omega arith
number_at (suc n) i d h = elim (below_or_at i n (omega arith)) [
  | inl k ↦ get_or_append_left (numbers_below n) (n ∷ []) d i (omega (arith, k, length-numbers_below n)) ∙ number_at n i d k
  | inr e ↦ get_or_push (numbers_below n) n d i (length-numbers_below n ∙ sym e) ∙ sym e
]

-- item i is made of i
pub made_at : {A : Type 0} (f : ℕ → A) (n i : ℕ) (d : A) → i < n → get_or (map f (numbers_below n)) i d ≡ f i
made_at f n i d h = get_or-map f (numbers_below n) i 0 d (omega (arith, h, length-numbers_below n)) ∙ ap f (number_at n i 0 h)

pub length-made : {A : Type 0} (f : ℕ → A) (n : ℕ) → length (map f (numbers_below n)) ≡ n
length-made f n = length-map (numbers_below n) f ∙ length-numbers_below n

pub All-made : {A : Type 0} (P : A → Type 0) (f : ℕ → A) (n : ℕ) → ((i : ℕ) → i < n → P (f i)) → All P (map f (numbers_below n))
All-made P f n each i d h =
    let inside : i < n = omega (arith, h, length-made f n) in
    subst P (sym (made_at f n i d inside)) (each i inside)

pub All-gathered : {A : Type 0} (P : A → Type 0) (f : ℕ → List A) (n : ℕ) → ((i : ℕ) → i < n → All P (f i)) → All P (flat_map f (numbers_below n))
All-gathered P f zero each = All-nil P
All-gathered P f (suc n) each =
    rw flat_map_next (All-append P (flat_map f (numbers_below n)) (f n) (All-gathered P f n (λ i h. each i (omega arith))) (each n (omega arith)))

-- a measure that adds up over lists, where each has the same
pub made_total : {A : Type 0} (size : List A → ℕ) → size [] ≡ 0 → ((xs ys : List A) → size (xs ++ ys) ≡ size xs + size ys) → (f : ℕ → A) (c : ℕ) → ((i : ℕ) → size (f i ∷ []) ≡ c) → (n : ℕ) → size (map f (numbers_below n)) ≡ n * c
made_total size none adds f c each zero = none ∙ omega arith
made_total size none adds f c each (suc n) =
    ap size (map_next f n) ∙ adds (map f (numbers_below n)) (f n ∷ []) ∙ (λ i. made_total size none adds f c each n i + each n i) ∙ omega arith

pub gathered_total : {A : Type 0} (size : List A → ℕ) → size [] ≡ 0 → ((xs ys : List A) → size (xs ++ ys) ≡ size xs + size ys) → (f : ℕ → List A) (c : ℕ) → ((i : ℕ) → size (f i) ≡ c) → (n : ℕ) → size (flat_map f (numbers_below n)) ≡ n * c
gathered_total size none adds f c each zero = none ∙ omega arith
gathered_total size none adds f c each (suc n) =
    ap size (flat_map_next f n) ∙ adds (flat_map f (numbers_below n)) (f n) ∙ (λ i. gathered_total size none adds f c each n i + each n i) ∙ omega arith
