-- A text that comes in pieces has the lines of the whole.
use Rattle.std.proofs.Common.{◌≡◌, ◌∙◌, refl, ap, sym, ℕ, zero, suc, ◌≤◌, ◌==◌, List, [], ◌∷◌, ◌++◌, length, take, Bool, true, false, append_assoc, length-take, arith, if◌then◌else◌}
use Rattle.std.proofs.lemmas.List.{append-nil, take_all}
use Rattle.std.proofs.lemmas.List.Elements.{All-head, All-tail}
use Rattle.text_lines.specs.Lines.{without_cr}
use Rattle.live_turns.specs.Coming.{HasNoFeed, begun_by, ended}

-- the first bytes of a line that goes on are those of its first bytes, going on
pub kept_on : (m : ℕ) (xs ys : List ℕ) → take m (take m xs ++ ys) ≡ take m (xs ++ ys)
kept_on zero xs ys = refl
kept_on (suc m) [] ys = refl
kept_on (suc m) (x ∷ xs) ys = ap (λ l. x ∷ l) (kept_on m xs ys)

kept_short : (m : ℕ) (xs : List ℕ) → length xs ≤ m → take m xs ≡ xs
kept_short m xs le = take_all m xs le

kept_length : (m : ℕ) (xs : List ℕ) → length (take m xs) ≤ m
kept_length m xs = omega (arith, length-take m xs)

abbrev plain : ℕ → Type 0
plain b = (b == 10) ≡ false

-- bytes without a line feed end no line
pub no_feed : (m : ℕ) (begun xs rest : List ℕ) → length begun ≤ m → HasNoFeed xs →
    (ended m begun (xs ++ rest) ≡ ended m (take m (begun ++ xs)) rest) × (begun_by m begun (xs ++ rest) ≡ begun_by m (take m (begun ++ xs)) rest)
no_feed m begun [] rest le h =
    let same : begun ≡ take m (begun ++ []) = sym (ap (take m) (append-nil begun) ∙ kept_short m begun le) in
    (ap (λ b. ended m b rest) same, ap (λ b. begun_by m b rest) same)
no_feed m begun (x ∷ xs) rest le h =
    let next = take m (begun ++ x ∷ []) in
    let go = no_feed m next xs rest (kept_length m (begun ++ x ∷ [])) (All-tail plain x xs h) in
    let not : (x == 10) ≡ false = All-head plain x xs h in
    let same : take m (next ++ xs) ≡ take m (begun ++ x ∷ xs) = kept_on m (begun ++ x ∷ []) xs ∙ ap (take m) (append_assoc begun (x ∷ []) xs) in (
      ap (λ c. if c then without_cr begun ∷ ended m [] (xs ++ rest) else ended m next (xs ++ rest)) not ∙ go.0 ∙ ap (λ b. ended m b rest) same,
      ap (λ c. if c then begun_by m [] (xs ++ rest) else begun_by m next (xs ++ rest)) not ∙ go.1 ∙ ap (λ b. begun_by m b rest) same,
    )

-- the first line feed ends the line that is begun
pub fed_step : (m : ℕ) (begun line rest text : List ℕ) → length begun ≤ m → HasNoFeed line → text ≡ line ++ 10 ∷ rest →
    (ended m begun text ≡ without_cr (take m (begun ++ line)) ∷ ended m [] rest) × (begun_by m begun text ≡ begun_by m [] rest)
fed_step m begun line rest text le h e = let go = no_feed m begun line (10 ∷ rest) le h in (ap (ended m begun) e ∙ go.0, ap (begun_by m begun) e ∙ go.1)

-- behind the last line feed
pub unfed : (m : ℕ) (begun text : List ℕ) → length begun ≤ m → HasNoFeed text → (ended m begun text ≡ []) × (begun_by m begun text ≡ take m (begun ++ text))
unfed m begun text le h = let go = no_feed m begun text [] le h in
    let same : text ≡ text ++ [] = sym (append-nil text) in
    (ap (ended m begun) same ∙ go.0, ap (begun_by m begun) same ∙ go.1)

-- one more line was given
pub given_more : (whole given more rest next : List (List ℕ)) (name line : List ℕ) → whole ≡ given ++ rest → rest ≡ line ∷ next → name ≡ line → more ≡ given ++ name ∷ [] → whole ≡ more ++ next
given_more whole given more rest next name line h r n e =
    h ∙ ap (λ l. given ++ l) (r ∙ ap (λ l. l ∷ next) (sym n)) ∙ sym (append_assoc given (name ∷ []) next) ∙ ap (λ l. l ++ next) (sym e)

pub given_all : (whole given rest : List (List ℕ)) → whole ≡ given ++ rest → rest ≡ [] → given ≡ whole
given_all whole given rest h r = sym (h ∙ ap (λ l. given ++ l) r ∙ append-nil given)

-- of two pieces
pub pieces : (m : ℕ) (begun xs ys : List ℕ) →
    (ended m begun (xs ++ ys) ≡ ended m begun xs ++ ended m (begun_by m begun xs) ys) × (begun_by m begun (xs ++ ys) ≡ begun_by m (begun_by m begun xs) ys)
pieces m begun [] ys = (refl, refl)
pieces m begun (x ∷ xs) ys = by (x == 10) (pieces m [] xs ys) (pieces m (take m (begun ++ x ∷ [])) xs ys) where
  Both : List ℕ → Type 0
  Both b = (ended m b (xs ++ ys) ≡ ended m b xs ++ ended m (begun_by m b xs) ys) × (begun_by m b (xs ++ ys) ≡ begun_by m (begun_by m b xs) ys)

  by : (c : Bool) → Both [] → Both (take m (begun ++ x ∷ [])) →
      ((if c then without_cr begun ∷ ended m [] (xs ++ ys) else ended m (take m (begun ++ x ∷ [])) (xs ++ ys))
      ≡ (if c then without_cr begun ∷ ended m [] xs else ended m (take m (begun ++ x ∷ [])) xs)
      ++ ended m (if c then begun_by m [] xs else begun_by m (take m (begun ++ x ∷ [])) xs) ys)
      × ((if c then begun_by m [] (xs ++ ys) else begun_by m (take m (begun ++ x ∷ [])) (xs ++ ys))
      ≡ begun_by m (if c then begun_by m [] xs else begun_by m (take m (begun ++ x ∷ [])) xs) ys)
  by true fed on = (ap (λ l. without_cr begun ∷ l) fed.0, fed.1)
  by false fed on = on
