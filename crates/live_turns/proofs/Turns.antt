-- A run grows by a turn, in a loop over turns.
use Rattle.std.proofs.Common.{◌≡◌, ◌∙◌, refl, ap, sym, subst, ℕ, ◌+◌, List, [], ◌∷◌, ◌++◌, length, take, Option, Some, None, append_assoc, arith, ◌⊎◌, inl, inr}
use Rattle.std.specs.Prelude.{Bool, true, false, IfSome, MatchBool}
use Rattle.std.proofs.lemmas.Bool.{false≢true}
use Rattle.std.proofs.lemmas.List.{append-nil, take_all}
use Rattle.std.proofs.Math.Seq.{take-append-add}
use Rattle.std.specs.Io.KnownBytes.{Appends, Consumes, IsAtEnd}
use Rattle.tb_io.proofs.Pieces.{appends_more, consumes_more}
use Rattle.text_lines.specs.Lines.{last_line}
use Rattle.live_turns.specs.Coming.{begun_by, ended, kept_lines}
use Rattle.live_turns.specs.Intakes.{ComeNext, Ends, IntakeData, TakesPiece}
use Rattle.live_turns.proofs.Pieces.{pieces}
use Rattle.live_turns.specs.Turns.{Fails, Follow, IsCutRun, IsTurnOf, IsWholeRun, lines_in}

when_true : (P Q : Type 0) (b : Bool) → b ≡ true → MatchBool b P Q → P
when_true P Q true is h = h
when_true P Q false is h = absurd (false≢true is)

when_false : (P Q : Type 0) (b : Bool) → b ≡ false → MatchBool b P Q → Q
when_false P Q false is h = h
when_false P Q true is h = absurd (false≢true (sym is))

pub lines_more : (turns : List (List (List ℕ))) (lines : List (List ℕ)) → lines_in (turns ++ lines ∷ []) ≡ lines_in turns ++ lines
lines_more [] lines = append-nil lines
lines_more (t ∷ turns) lines = ap (λ l. t ++ l) (lines_more turns lines) ∙ sym (append_assoc t (lines_in turns) lines)

consumes_none : (left : Option (List ℕ)) → Consumes left left []
consumes_none None = tt
consumes_none (Some xs) = refl

appends_none : (w : Option (List ℕ)) → Appends w w []
appends_none None = tt
appends_none (Some xs) = sym (append-nil xs)

-- the bytes of a source of which none is left
all_taken : (left now : Option (List ℕ)) (bytes : List ℕ) → Consumes left now bytes → IsAtEnd now → IfSome left (λ bs. bs ≡ bytes)
all_taken None now bytes c e = tt
all_taken (Some bs) None bytes c e = absurd c
all_taken (Some bs) (Some rest) bytes c e = c ∙ ap (λ r. bytes ++ r) e ∙ append-nil bytes

-- the bytes that were taken are the first ones
first_taken : (left now : Option (List ℕ)) (bytes : List ℕ) → Consumes left now bytes → IfSome left (λ bs. (rest : List ℕ) × (bs ≡ bytes ++ rest))
first_taken None now bytes c = tt
first_taken (Some bs) None bytes c = absurd c
first_taken (Some bs) (Some rest) bytes c = (rest, c)

pub mapped : (o : Option (List ℕ)) (P Q : List ℕ → Type 0) → ((x : List ℕ) → P x → Q x) → IfSome o P → IfSome o Q
mapped None P Q f p = tt
mapped (Some x) P Q f p = f x p

-- the lines that end in the first bytes of a text begin its lines
front_lines : (m : ℕ) (bytes rest : List ℕ) → (more : List (List ℕ)) × (kept_lines m (bytes ++ rest) ≡ ended m [] bytes ++ more)
front_lines m bytes rest = let two = pieces m [] bytes rest in let last = last_line (begun_by m [] (bytes ++ rest)) in let tail = ended m (begun_by m [] bytes) rest in (
  tail ++ last,
  ap (λ l. l ++ last) two.0 ∙ append_assoc (ended m [] bytes) tail last,
)

module _ {A : Type 0} (Answers : A → List (List ℕ) → List ℕ → A → Type 0) where
  follow_more : (a b c : A) (turns : List (List (List ℕ))) (lines : List (List ℕ)) (text more : List ℕ) → Follow Answers a turns text b → Answers b lines more c → Follow Answers a (turns ++ lines ∷ []) (text ++ more) c
  follow_more a b c [] lines text more h n = (more, [], c, subst (λ s. Answers s lines more c) h.1 n, ap (λ t. t ++ more) h.0 ∙ sym (append-nil more), (refl, refl))
  follow_more a b c (t ∷ turns) lines text more h n =
      (h.0, h.1 ++ more, h.2, h.3, ap (λ l. l ++ more) h.4 ∙ append_assoc h.0 h.1 more, follow_more h.2 b c turns lines h.1 more h.5 n)

  -- the run so far: which bytes were taken, and what was answered
  pub record IsSoFar (most : ℕ) (left now : Option (List ℕ)) (intake : IntakeData) (before after : Option (List ℕ)) (a b : A) : Type 0 where
    pub bytes : List ℕ
    pub turns : List (List (List ℕ))
    pub text : List ℕ
    pub taken : Consumes left now bytes
    pub most_is : intake.most ≡ most
    pub lines : lines_in turns ≡ ended most [] bytes
    pub begun : intake.begun ≡ begun_by most [] bytes
    pub answered : Follow Answers a turns text b
    pub written : Appends before after text

  pub start : (left written : Option (List ℕ)) (i : IntakeData) (a : A) → i.begun ≡ [] → IsSoFar i.most left left i written written a a
  start left written i a e = record {
    bytes = [];
    turns = [];
    text = [];
    taken = consumes_none left;
    most_is = refl;
    lines = refl;
    begun = e;
    answered = (refl, refl);
    written = appends_none written;
  }

  -- more lines, of a piece that was taken
  lines_taken : (most : ℕ) (left mid now : Option (List ℕ)) (i j : IntakeData) (w1 w2 : Option (List ℕ)) (a b : A) (lines : List (List ℕ)) (h : IsSoFar most left mid i w1 w2 a b) (t : TakesPiece mid now i j lines)
      → lines_in (h.turns ++ lines ∷ []) ≡ ended most [] (h.bytes ++ t.piece)
  lines_taken most left mid now i j w1 w2 a b lines h t =
      let two = pieces most [] h.bytes t.piece in
      let is : lines ≡ ended most (begun_by most [] h.bytes) t.piece = t.lines ∙ ap (λ m. ended m i.begun t.piece) h.most_is ∙ ap (λ s. ended most s t.piece) h.begun in
      lines_more h.turns lines ∙ ap (λ l. l ++ lines) h.lines ∙ ap (λ l. ended most [] h.bytes ++ l) is ∙ sym two.0

  pub goes_on : (most : ℕ) (left mid now : Option (List ℕ)) (i j : IntakeData) (w1 w2 w3 : Option (List ℕ)) (a b c : A) (more : Bool) → IsSoFar most left mid i w1 w2 a b → IsTurnOf Answers mid now i j w2 w3 b c more → more ≡ true → IsSoFar most left now j w1 w3 a c
  goes_on most left mid now i j w1 w2 w3 a b c more h g is =
      let t = when_true (TakesPiece mid now i j g.lines) _ more is g.next in
      let two = pieces most [] h.bytes t.piece in
      let begun : j.begun ≡ begun_by most (begun_by most [] h.bytes) t.piece = t.begun ∙ ap (λ m. begun_by m i.begun t.piece) h.most_is ∙ ap (λ s. begun_by most s t.piece) h.begun in
      record {
        bytes = h.bytes ++ t.piece;
        turns = h.turns ++ g.lines ∷ [];
        text = h.text ++ g.text;
        taken = consumes_more left mid now h.bytes t.piece h.taken t.taken;
        most_is = t.most ∙ h.most_is;
        lines = lines_taken most left mid now i j w1 w2 a b g.lines h t;
        begun = begun ∙ sym two.1;
        answered = follow_more a b c h.turns g.lines h.text g.text h.answered g.answered;
        written = appends_more w1 w2 w3 h.text g.text h.written g.written;
      }

  -- all lines of the source, where the last one is answered too
  whole : (most : ℕ) (left mid now : Option (List ℕ)) (i j : IntakeData) (w1 w2 : Option (List ℕ)) (a b : A) (lines : List (List ℕ)) (h : IsSoFar most left mid i w1 w2 a b) → Ends mid now i j → lines ≡ last_line i.begun
      → IfSome left (λ bytes. lines_in (h.turns ++ lines ∷ []) ≡ kept_lines most bytes)
  whole most left mid now i j w1 w2 a b lines h e is =
      let all = all_taken left now (h.bytes ++ []) (consumes_more left mid now h.bytes [] h.taken e.nothing) e.none in
      mapped left _ _ (λ bs same. lines_more h.turns lines ∙ ap (λ l. l ++ lines) h.lines ∙ ap (λ l. ended most [] h.bytes ++ l) (is ∙ ap last_line h.begun) ∙ ap (kept_lines most) (sym (same ∙ append-nil h.bytes))) all

  pub closes : (most : ℕ) (left mid now : Option (List ℕ)) (i j : IntakeData) (w1 w2 w3 : Option (List ℕ)) (a b c : A) (more : Bool) → IsSoFar most left mid i w1 w2 a b → IsTurnOf Answers mid now i j w2 w3 b c more → more ≡ false → IsWholeRun Answers most left w1 w3 a c
  closes most left mid now i j w1 w2 w3 a b c more h g is =
      let e = when_false _ (Ends mid now i j × (g.lines ≡ last_line i.begun)) more is g.next in
      record {
        turns = h.turns ++ g.lines ∷ [];
        text = h.text ++ g.text;
        lines = whole most left mid now i j w1 w2 a b g.lines h e.0 e.1;
        answered = follow_more a b c h.turns g.lines h.text g.text h.answered g.answered;
        written = appends_more w1 w2 w3 h.text g.text h.written g.written;
      }

  -- the lines so far begin the lines of the source
  pub begins : (most : ℕ) (left mid : Option (List ℕ)) (i : IntakeData) (w1 w2 : Option (List ℕ)) (a b : A) (h : IsSoFar most left mid i w1 w2 a b) → IfSome left (λ bytes. (rest : List (List ℕ)) × (kept_lines most bytes ≡ lines_in h.turns ++ rest))
  begins most left mid i w1 w2 a b h = mapped left _ _ (λ bs t. let f = front_lines most h.bytes t.0 in (f.0, ap (kept_lines most) t.1 ∙ f.1 ∙ ap (λ l. l ++ f.0) (sym h.lines))) (first_taken left mid h.bytes h.taken)

  -- nothing more was written
  pub cut_here : (most : ℕ) (left mid : Option (List ℕ)) (i : IntakeData) (w1 w2 w3 : Option (List ℕ)) (a b : A) → IsSoFar most left mid i w1 w2 a b → w3 ≡ w2 → IsCutRun Answers most left w1 w3 a
  cut_here most left mid i w1 w2 w3 a b h e = record {
    turns = h.turns;
    text = h.text;
    count = length h.text;
    by = b;
    lines = begins most left mid i w1 w2 a b h;
    answered = h.answered;
    written = subst (λ w. Appends w1 w (take (length h.text) h.text)) (sym e) (subst (λ t. Appends w1 w2 t) (sym (take_all (length h.text) h.text (omega arith))) h.written);
  }

  -- the lines so far, and those that come next, begin the lines of the source
  pub next_begins : (most : ℕ) (left mid now : Option (List ℕ)) (i j : IntakeData) (w1 w2 : Option (List ℕ)) (a b : A) (lines : List (List ℕ)) (more : Bool) → (h : IsSoFar most left mid i w1 w2 a b) → ComeNext mid now i j lines more
      → IfSome left (λ bytes. (rest : List (List ℕ)) × (kept_lines most bytes ≡ lines_in (h.turns ++ lines ∷ []) ++ rest))
  next_begins most left mid now i j w1 w2 a b lines true h t =
      let all = lines_taken most left mid now i j w1 w2 a b lines h t in
      mapped left _ _ (λ bs u. let r = front_lines most (h.bytes ++ t.piece) u.0 in (r.0, ap (kept_lines most) u.1 ∙ r.1 ∙ ap (λ l. l ++ r.0) (sym all))) (first_taken left now (h.bytes ++ t.piece) (consumes_more left mid now h.bytes t.piece h.taken t.taken))
  next_begins most left mid now i j w1 w2 a b lines false h e =
      mapped left _ _ (λ bs same. ([], sym same ∙ sym (append-nil (lines_in (h.turns ++ lines ∷ []))))) (whole most left mid now i j w1 w2 a b lines h e.0 e.1)

  -- a first part of a turn's text was written
  pub cut_within : (most : ℕ) (left mid now : Option (List ℕ)) (i j : IntakeData) (w1 w2 w3 : Option (List ℕ)) (a b : A) → IsSoFar most left mid i w1 w2 a b → Fails Answers mid now i j w2 w3 b → IsCutRun Answers most left w1 w3 a
  cut_within most left mid now i j w1 w2 w3 a b h f = record {
    turns = h.turns ++ f.lines ∷ [];
    text = h.text ++ f.text;
    count = length h.text + f.count;
    by = f.by;
    lines = next_begins most left mid now i j w1 w2 a b f.lines f.more h f.next;
    answered = follow_more a b f.by h.turns f.lines h.text f.text h.answered f.answered;
    written = subst (λ t. Appends w1 w3 t) (sym (take-append-add h.text f.text f.count)) (appends_more w1 w2 w3 h.text (take f.count f.text) h.written f.written);
  }

  -- it was answered up to here, and all of its text is written
  pub cut_here_at : (most : ℕ) (left mid : Option (List ℕ)) (i : IntakeData) (w1 w2 w3 : Option (List ℕ)) (a b : A) → (h : IsSoFar most left mid i w1 w2 a b) → w3 ≡ w2
      → (c : IsCutRun Answers most left w1 w3 a) × (c.by ≡ b) × (c.count ≡ length c.text) × (lines_in c.turns ≡ ended most [] h.bytes)
  unfolding cut_here
  cut_here_at most left mid i w1 w2 w3 a b h e = (cut_here most left mid i w1 w2 w3 a b h e, refl, refl, h.lines)

  -- it was answered up to the turn that is partly written
  pub cut_within_at : (most : ℕ) (left mid now : Option (List ℕ)) (i j : IntakeData) (w1 w2 w3 : Option (List ℕ)) (a b : A) → IsSoFar most left mid i w1 w2 a b → (f : Fails Answers mid now i j w2 w3 b) → (c : IsCutRun Answers most left w1 w3 a) × (c.by ≡ f.by)
  unfolding cut_within
  cut_within_at most left mid now i j w1 w2 w3 a b h f = (cut_within most left mid now i j w1 w2 w3 a b h f, refl)

  -- nothing more was written, or a first part of a turn's text
  pub cut_off : (most : ℕ) (left mid now : Option (List ℕ)) (i j : IntakeData) (w1 w2 w3 : Option (List ℕ)) (a b : A) → IsSoFar most left mid i w1 w2 a b → (w3 ≡ w2) ⊎ Fails Answers mid now i j w2 w3 b → IsCutRun Answers most left w1 w3 a
  cut_off most left mid now i j w1 w2 w3 a b h (inl same) = cut_here most left mid i w1 w2 w3 a b h same
  cut_off most left mid now i j w1 w2 w3 a b h (inr fails) = cut_within most left mid now i j w1 w2 w3 a b h fails
