-- Turns of lines, answered one after another, and what is written of them.
use Rattle.std.specs.Prelude.{◌≡◌, ℕ, List, [], ◌∷◌, ◌++◌, Bool, Option, IfSome, take}
use Rattle.std.specs.Io.KnownBytes.{Appends}
use Rattle.live_turns.specs.Coming.{kept_lines}
use Rattle.live_turns.specs.Intakes.{ComeNext, IntakeData}

-- the lines of turns, one after another
abbrev pub lines_in : List (List (List ℕ)) → List (List ℕ)
lines_in [] = []
lines_in (lines ∷ turns) = lines ++ lines_in turns

-- The answerer says which text answers lines, from one state of it to another.
module _ {A : Type 0} (Answers : A → List (List ℕ) → List ℕ → A → Type 0) where
  -- the turns are answered one after another, and the texts together are this one
  abbrev pub Follow : A → List (List (List ℕ)) → List ℕ → A → Type 0
  Follow a [] text b = (text ≡ []) × (b ≡ a)
  Follow a (lines ∷ turns) text b =
      (first : List ℕ) × (rest : List ℕ) × (c : A) × Answers a lines first c
      × (text ≡ first ++ rest) × Follow c turns rest b

  -- a turn: the lines that come next are answered, and the text is written
  pub record IsTurnOf (left now : Option (List ℕ)) (old new : IntakeData)
      (before after : Option (List ℕ)) (a b : A) (more : Bool) : Type 0 where
    pub lines : List (List ℕ)
    pub next : ComeNext left now old new lines more
    pub text : List ℕ
    pub answered : Answers a lines text b
    pub written : Appends before after text

  -- a turn of which only a first part of the text is written
  pub record Fails (left now : Option (List ℕ)) (old new : IntakeData)
      (before after : Option (List ℕ)) (a : A) : Type 0 where
    pub lines : List (List ℕ)
    pub more : Bool
    pub next : ComeNext left now old new lines more
    pub text : List ℕ
    pub count : ℕ
    pub by : A
    pub answered : Answers a lines text by
    pub written : Appends before after (take count text)

  -- all lines of the source are answered, each once and in order, and the texts are written
  pub record IsWholeRun (most : ℕ) (left before now : Option (List ℕ)) (a b : A) : Type 0 where
    pub turns : List (List (List ℕ))
    pub text : List ℕ
    pub lines : IfSome left (λ bytes. lines_in turns ≡ kept_lines most bytes)
    pub answered : Follow a turns text b
    pub written : Appends before now text

  -- some first lines of the source are answered, and a first part of the texts is written
  pub record IsCutRun (most : ℕ) (left before now : Option (List ℕ)) (a : A) : Type 0 where
    pub turns : List (List (List ℕ))
    pub text : List ℕ
    pub count : ℕ
    pub by : A
    pub lines : IfSome left (λ bytes.
        (rest : List (List ℕ)) × (kept_lines most bytes ≡ lines_in turns ++ rest))
    pub answered : Follow a turns text by
    pub written : Appends before now (take count text)
