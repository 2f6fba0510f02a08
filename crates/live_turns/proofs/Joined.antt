-- Turns, one after another, are one run.
use Rattle.std.proofs.Common.{◌≡◌, ◌∙◌, refl, ap, sym, subst, ℕ, ◌+◌, ◌≤◌, List, [], ◌∷◌, ◌++◌, length, append_assoc, arith}
use Rattle.std.specs.Prelude.{flat_map, sum_by}
use Rattle.std.proofs.lemmas.List.{append-nil}
use Rattle.std.proofs.lemmas.List.Sums.{sum_by-cons}
use Rattle.history.specs.Lists.{Extends, StartsWith}
use Rattle.history.proofs.Lists.{extends_self, extends_trans, starts_trans}
use Rattle.live_turns.specs.Turns.{Follow, lines_in}
use Rattle.live_turns.specs.Runs.{AllBy, IsTurn, LiveData, StayRight, Tells, TextRunsFrom, TurnsGive, TurnsRun}
use Rattle.live_turns.proofs.Nexts.{starts_length}

module _ {A X : Type 0} (gives : A → List X) where
  pub flat_append : (xs ys : List A) → flat_map gives (xs ++ ys) ≡ flat_map gives xs ++ flat_map gives ys
  flat_append [] ys = refl
  flat_append (x ∷ xs) ys = ap (λ l. gives x ++ l) (flat_append xs ys) ∙ sym (append_assoc (gives x) (flat_map gives xs) (flat_map gives ys))

module _ {X : Type 0} (shows : X → List ℕ) where
  pub tells_none : (told : List X) → Tells shows told told []
  tells_none told = ([], sym (append-nil told), refl)

  pub tells_more : (told now end : List X) (note more : List ℕ) → Tells shows told now note → Tells shows now end more → Tells shows told end (note ++ more)
  tells_more told now end note more h i = (
    h.0 ++ i.0,
    i.1 ∙ ap (λ l. l ++ i.0) h.1 ∙ append_assoc told h.0 i.0,
    ap (λ l. l ++ more) h.2 ∙ ap (λ l. flat_map shows h.0 ++ l) i.2 ∙ sym (flat_append shows h.0 i.0),
  )

module _ {E X : Type 0} (Replies : List E → ℕ → ℕ → List ℕ → List ℕ → Type 0) (counts : List ℕ → ℕ) (shows : X → List ℕ) where
  abbrev Runs : List E → ℕ → ℕ → List X → List (List ℕ) → List ℕ → List X → Type 0
  Runs = TextRunsFrom Replies counts shows

  -- the first edition may be said to be no earlier than an earlier one, and something told before
  pub lowered : (es : List E) (k least n : ℕ) (told now end : List X) (lines : List (List ℕ)) (note text : List ℕ) → least ≤ n → Tells shows told now note → Runs es k n now lines text end → Runs es k least told lines (note ++ text) end
  lowered es k least n told now end [] note text le t h = tells_more shows told now end note text t h
  lowered es k least n told now end (line ∷ lines) note text le t h = (
    h.0,
    h.1,
    note ++ h.2,
    h.3,
    h.4,
    tells_more shows told now h.1 note h.2 t h.5,
    omega (arith, le, h.6),
    h.7,
    h.8,
    ap (λ l. note ++ l) h.9 ∙ sym (append_assoc note (h.2 ++ h.3) h.4) ∙ ap (λ l. l ++ h.4) (sym (append_assoc note h.2 h.3)),
    h.10,
  )

  -- a turn, and the run behind it
  joined : StayRight Replies counts shows → (es fs : List E) (k least n : ℕ) (told now end : List X) (lines more : List (List ℕ)) (note body rest : List ℕ) → StartsWith fs es → n ≤ length es → least ≤ n → Tells shows told now note
      → AllBy Replies counts shows es n k lines body → Runs fs (k + sum_by counts lines) n now more rest end → Runs fs k least told (lines ++ more) ((note ++ body) ++ rest) end
  joined stay es fs k least n told now end [] more note body rest s most le t h r =
      let same : note ++ rest ≡ (note ++ body) ++ rest = ap (λ l. l ++ rest) (sym (append-nil note) ∙ ap (λ b. note ++ b) (sym h)) in
      let at : k + 0 ≡ k = omega arith in
      subst (λ l. Runs fs k least told more l end) same (lowered fs k least n told now end more note rest le t (subst (λ j. Runs fs j n now more rest end) at r))
  joined stay es fs k least n told now end (line ∷ lines) more note body rest s most le t h r =
      let at : k + sum_by counts (line ∷ lines) ≡ (k + counts line) + sum_by counts lines = omega (arith, sum_by-cons counts line lines) in
      let long : n ≤ length fs = let b = starts_length fs es s in omega (arith, most, b) in
      let on : Runs fs (k + counts line) n now (lines ++ more) (([] ++ h.1) ++ rest) end = joined stay es fs (k + counts line) n n now now end lines more [] h.1 rest s most (omega arith) (tells_none shows now) h.4 (subst (λ j. Runs fs j n now more rest end) at r) in (
        n,
        now,
        note,
        h.0,
        h.1 ++ rest,
        t,
        le,
        long,
        stay es fs n k line h.0 s most h.2,
        ap (λ b. (note ++ b) ++ rest) h.3 ∙ ap (λ l. l ++ rest) (sym (append_assoc note h.0 h.1)) ∙ append_assoc (note ++ h.0) h.1 rest,
        on,
      )

  -- what is kept only grows
  kept_later : (a b : LiveData E X) (turns : List (List (List ℕ))) (text : List ℕ) → Follow (IsTurn Replies counts shows) a turns text b → Extends b.kept a.kept
  kept_later a b [] text h = subst (λ (s : LiveData E X). Extends s.kept a.kept) (sym h.1) (extends_self a.kept)
  kept_later a b (lines ∷ turns) text h = extends_trans a.kept h.2.kept b.kept (kept_later h.2 b turns h.1 h.5) h.3.later

  pub turns_run : TurnsRun Replies counts shows
  turns_run stay a b [] text es h s = subst (λ (c : LiveData E X). Tells shows a.told c.told text) (sym h.1) (subst (λ t. Tells shows a.told a.told t) (sym h.0) (tells_none shows a.told))
  turns_run stay a b (lines ∷ turns) text es h s =
      let c = h.2 in
      let t = h.3 in
      let kept = c.kept.list in
      let begins : StartsWith es kept = starts_trans kept b.kept.list es s (kept_later c b turns h.1 h.5).0 in
      let rest = turns_run stay c b turns h.1 es h.5 s in
      let least : length a.kept.list ≤ length kept = starts_length kept a.kept.list t.later.0 in
      let whole : (t.note ++ t.body) ++ h.1 ≡ text = ap (λ l. l ++ h.1) (sym t.text_is) ∙ sym h.4 in
      subst (λ l. Runs es a.next (length a.kept.list) a.told (lines ++ lines_in turns) l b.told) whole
      (joined stay kept es a.next (length a.kept.list) (length kept) a.told c.told b.told lines (lines_in turns) t.note t.body h.1 begins (omega arith) least t.tells t.replies (subst (λ j. Runs es j (length kept) c.told (lines_in turns) h.1 b.told) t.counted rest))

  -- something more is told behind a run
  pub told_last : (es : List E) (k least : ℕ) (told end last : List X) (lines : List (List ℕ)) (text note : List ℕ) → Runs es k least told lines text end → Tells shows end last note → Runs es k least told lines (text ++ note) last
  told_last es k least told end last [] text note h t = tells_more shows told end last text note h t
  told_last es k least told end last (line ∷ lines) text note h t = (
    h.0,
    h.1,
    h.2,
    h.3,
    h.4 ++ note,
    h.5,
    h.6,
    h.7,
    h.8,
    ap (λ l. l ++ note) h.9 ∙ append_assoc (h.2 ++ h.3) h.4 note,
    told_last es (k + counts line) h.0 h.1 end last lines h.4 note h.10 t,
  )

-- what is so of each turn, of states that are seen by a part of them
pub follow_through : {A B : Type 0} (f : A → B) (P : A → List (List ℕ) → List ℕ → A → Type 0) (Q : B → List (List ℕ) → List ℕ → B → Type 0) → ((a : A) (lines : List (List ℕ)) (text : List ℕ) (b : A) → P a lines text b → Q (f a) lines text (f b))
    → (a b : A) (turns : List (List (List ℕ))) (text : List ℕ) → Follow P a turns text b → Follow Q (f a) turns text (f b)
follow_through f P Q g a b [] text h = (h.0, ap f h.1)
follow_through f P Q g a b (lines ∷ turns) text h = (h.0, h.1, f h.2, g a lines h.0 h.2 h.3, h.4, follow_through f P Q g h.2 b turns h.1 h.5)

module _ {A X : Type 0} (given : A → List X) (gives : List ℕ → List X) where
  pub turns_give : TurnsGive given gives
  turns_give a b [] text h = ap given h.1 ∙ sym (append-nil (given a))
  turns_give a b (lines ∷ turns) text h =
      let here = flat_map gives lines in
      let rest = flat_map gives (lines_in turns) in
      turns_give h.2 b turns h.1 h.5 ∙ ap (λ l. l ++ rest) h.3 ∙ append_assoc (given a) here rest ∙ ap (λ l. given a ++ l) (sym (flat_append gives lines (lines_in turns)))
