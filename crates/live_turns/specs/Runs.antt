-- A run of turns as one run of lines, over a list of editions that grows.
use Rattle.std.specs.Prelude.{◌≡◌, ℕ, ◌+◌, ◌≤◌, List, [], ◌∷◌, ◌++◌, flat_map, length, sum_by}
use Rattle.history.specs.Lists.{Shown, Extends, StartsWith}
use Rattle.live_turns.specs.Turns.{Follow, lines_in}

-- the list of editions that is kept, the number of the next line, and what was told beside replies
pub record LiveData (E X : Type 0) : Type 0 where
  pub kept : Shown E
  pub next : ℕ
  pub told : List X

-- the text tells what is new
abbrev pub Tells : {X : Type 0} → (X → List ℕ) → List X → List X → List ℕ → Type 0
Tells {X} shows told now text =
    (news : List X) × (now ≡ told ++ news) × (text ≡ flat_map shows news)

-- `Replies es n k line text`: by edition n of the list es this text is a right reply to line k.
-- `counts`: by how much a line moves the number of the next one on.
module _ {E X : Type 0} (Replies : List E → ℕ → ℕ → List ℕ → List ℕ → Type 0)
    (counts : List ℕ → ℕ) (shows : X → List ℕ) where
  -- a right reply stays right where the list is longer
  abbrev pub StayRight : Type 0
  StayRight = (es fs : List E) (n k : ℕ) (line text : List ℕ) →
      StartsWith fs es → n ≤ length es → Replies es n k line text → Replies fs n k line text

  -- the text has one reply for each line in order, from number k on, all by edition n
  abbrev pub AllBy : List E → ℕ → ℕ → List (List ℕ) → List ℕ → Type 0
  AllBy es n k [] text = text ≡ []
  AllBy es n k (line ∷ lines) text =
      (first : List ℕ) × (rest : List ℕ) × Replies es n k line first × (text ≡ first ++ rest)
      × AllBy es n (k + counts line) lines rest

  -- one turn: what is new is told, then all its lines are answered by the last edition of the list
  -- that is kept then
  pub record IsTurn (a : LiveData E X) (lines : List (List ℕ)) (text : List ℕ) (b : LiveData E X)
      : Type 0 where
    pub later : Extends b.kept a.kept
    pub note : List ℕ
    pub body : List ℕ
    pub text_is : text ≡ note ++ body
    pub tells : Tells shows a.told b.told note
    pub counted : b.next ≡ a.next + sum_by counts lines
    pub replies : AllBy b.kept.list (length b.kept.list) a.next lines body

  -- The text has one reply for each line in order, from number k on. Each is right by an edition of
  -- the list; the editions never go back, and the first is no earlier than `least`. Before each
  -- reply, and in the end, something may be told that was not told before.
  abbrev pub TextRunsFrom :
      List E → ℕ → ℕ → List X → List (List ℕ) → List ℕ → List X → Type 0
  TextRunsFrom es k least told [] text end = Tells shows told end text
  TextRunsFrom es k least told (line ∷ lines) text end =
      (n : ℕ) × (now : List X) × (note : List ℕ) × (first : List ℕ) × (rest : List ℕ)
      × Tells shows told now note × (least ≤ n) × (n ≤ length es) × Replies es n k line first
      × (text ≡ note ++ first ++ rest)
      × TextRunsFrom es (k + counts line) n now lines rest end

  -- over any list that begins with the one that is kept in the end, the turns are such a run
  abbrev pub TurnsRun : Type 0
  TurnsRun = StayRight → (a b : LiveData E X) (turns : List (List (List ℕ))) (text : List ℕ)
      (es : List E) → Follow IsTurn a turns text b → StartsWith es b.kept.list →
      TextRunsFrom es a.next (length a.kept.list) a.told (lines_in turns) text b.told

-- What has been given so far, and what a line gives: a publish line its item, any other one nothing.
module _ {A X : Type 0} (given : A → List X) (gives : List ℕ → List X) where
  -- one turn gives what its lines give, in order
  abbrev pub Gives : A → List (List ℕ) → List ℕ → A → Type 0
  Gives a lines text b = given b ≡ given a ++ flat_map gives lines

  -- turns give what their lines give, in order
  abbrev pub TurnsGive : Type 0
  TurnsGive = (a b : A) (turns : List (List (List ℕ))) (text : List ℕ) →
      Follow Gives a turns text b → given b ≡ given a ++ flat_map gives (lines_in turns)
