-- Turns of lines, and a whole run of them.
use Rattle.std.proofs.Common.{◌≡◌, ◌∙◌, refl, sym, ap, ap₂, subst, ℕ, ◌+◌, ◌-◌, List, [], ◌∷◌, ◌++◌, length, take, get_or, append_assoc, ◌<◌, Option, Some, None, Vec, Global, ◌⊎◌, inl, inr, drop, false, arith}
use Rattle.std.specs.Prelude.{Bool, IfSome, flat_map, map, slice_get, sum_by}
use Rattle.std.proofs.lemmas.List.{append-nil, take-append-drop, take_all, take_more}
use Rattle.std.proofs.lemmas.List.Sums.{sum_by-append, sum_by-cons}
use Rattle.history.specs.Lists.{Extends, Shown, StartsWith}
use Rattle.history.proofs.Lists.{extends_self, starts_self, starts_trans}
use Rattle.edition_store.specs.Editions.{EditionData}
use Rattle.query_gate.specs.Callers.{IsEditionOf}
use Rattle.text_lines.specs.LineWords.{line_words}
use Rattle.text_lines.specs.Lines.{lines_of}
use Rattle.std.specs.Io.KnownBytes.{Consumes}
use Rattle.tb_io.proofs.Pieces.{consumes_more}
use Rattle.live_turns.specs.Coming.{kept_lines}
use Rattle.query_gate.specs.Dealing.{AreReplies}
use Rattle.live_turns.specs.Intakes.{ComeNext, IntakeData}
use Rattle.live_turns.specs.Runs.{AllBy, Gives, IsTurn, LiveData, StayRight, Tells, TextRunsFrom}
use Rattle.live_turns.specs.Turns.{Follow, IsCutRun, lines_in}
use Rattle.live_turns.proofs.Joined.{flat_append, follow_through, turns_give, turns_run}
use Rattle.live_turns.proofs.Turns.{IsSoFar, begins, cut_here_at, cut_within_at, lines_more, mapped, next_begins, start}
use Rattle.live_turns.proofs.Wholes.{words_same}
use Rattle.live_turns.specs.declared.live.running.LinesFault.{LinesFault}
use Rattle.live_turns.specs.declared.live.running.LinesFault.TheVariants as fault
use Rattle.live_turns.specs.declared.live.saying.Asked.{Asked}
use Rattle.live_turns.specs.declared.live.saying.LiveMode.{LiveMode}
use Rattle.live_turns.specs.LiveLines.{asked_from, counted, item_said, line_says, live_counts, live_gives, live_said, wanted}
use Rattle.live_turns.specs.LiveReplies.{IsWantedBy, LiveReplies}
use Rattle.live_turns.specs.LiveTexts.{NewsData, news_shown}
use Rattle.edition_build.specs.Plans.{ItemData}
use Rattle.live_turns.specs.LiveTurns.{CutTurnsAreOneRun, FailsToGoOn, FailsToTell, HearsNext, HearsSome, IsCutBy, IsLiveText, IsLiveTurn, LineSideData, TurnsAreOneRun}
use Rattle.query_gate.specs.Dealing.{joined_texts}
use Rattle.query_gate.proofs.Longer.{starts_get}

-- the last edition of a list that has one has a number
pub some_number : (es : List EditionData) (e : EditionData) → slice_get es (length es - 1) ≡ Some e → IsEditionOf es (length es) e
some_number [] e h = absurd (cc h)
some_number (x ∷ es) e h = (omega arith, h)

module _ (mode : LiveMode) where
  abbrev Runs : List EditionData → ℕ → ℕ → List NewsData → List (List ℕ) → List ℕ → List NewsData → Type 0
  Runs = TextRunsFrom (LiveReplies mode) (live_counts mode) (news_shown mode.json)

  abbrev Turn : LiveData EditionData NewsData → List (List ℕ) → List ℕ → LiveData EditionData NewsData → Type 0
  Turn = IsTurn (LiveReplies mode) (live_counts mode) (news_shown mode.json)

  -- the texts of right replies by one edition, one behind the other
  pub all_by : (es : List EditionData) (n : ℕ) (e : EditionData) → IsEditionOf es n e → (k : ℕ) (lines : List (List ℕ)) (texts : List (Vec ℕ Global))
      → AreReplies (λ (a : Asked) (v : Vec ℕ Global). IsWantedBy mode.json n e a.number a.wanted v.items) (asked_from mode k lines) texts
      → AllBy (LiveReplies mode) (live_counts mode) (news_shown mode.json) es n k lines (joined_texts texts)
  all_by es n e at k [] [] h = refl
  all_by es n e at k [] (t ∷ texts) h = absurd h
  all_by es n e at k (line ∷ lines) [] h = absurd h
  all_by es n e at k (line ∷ lines) (t ∷ texts) h = (t.items, joined_texts texts, (e, at, h.0), refl, all_by es n e at (k + live_counts mode line) lines texts h.1)

  -- one more line is heard
  asked_more : (k : ℕ) (xs : List (List ℕ)) (x : List ℕ) → asked_from mode k (xs ++ x ∷ []) ≡ asked_from mode k xs ++ record { number = k + sum_by (live_counts mode) xs; wanted = wanted (live_said mode x) } ∷ []
  asked_more k [] x = let z : k + 0 ≡ k = omega arith in rw z refl
  asked_more k (y ∷ xs) x =
      let n : k + sum_by (live_counts mode) (y ∷ xs) ≡ (k + live_counts mode y) + sum_by (live_counts mode) xs = omega (arith, sum_by-cons (live_counts mode) y xs) in
      ap (λ l. record { number = k; wanted = wanted (live_said mode y) } ∷ l) (asked_more (k + live_counts mode y) xs x)
      ∙ ap (λ m. record { number = k; wanted = wanted (live_said mode y) } ∷ asked_from mode (k + live_counts mode y) xs ++ record { number = m; wanted = wanted (live_said mode x) } ∷ []) (sym n)

  pub heard_more : (k : ℕ) (lines : List (List ℕ)) (i : ℕ) (d line : List ℕ) (asked more : List Asked) (one : Asked) (next : ℕ) → i < length lines → line ≡ get_or lines i d → asked ≡ asked_from mode k (take i lines) → next ≡ k + sum_by (live_counts mode) (take i lines)
      → one ≡ record { number = next; wanted = wanted (live_said mode line) } → more ≡ asked ++ one ∷ [] → more ≡ asked_from mode k (take (i + 1) lines)
  heard_more k lines i d line asked more one next lt is a n o m =
      let step = asked_more k (take i lines) (get_or lines i d) in
      let last : one ≡ record { number = k + sum_by (live_counts mode) (take i lines); wanted = wanted (live_said mode (get_or lines i d)) } = rw (o, n, is) refl in
      m ∙ ap₂ (λ xs (x : Asked). xs ++ x ∷ []) a last ∙ sym step ∙ ap (asked_from mode k) (sym (take_more lines i d lt))

  pub counts_more : (k : ℕ) (lines : List (List ℕ)) (i : ℕ) (d line : List ℕ) (next behind : ℕ) → i < length lines → line ≡ get_or lines i d → next ≡ k + sum_by (live_counts mode) (take i lines) → behind ≡ next + live_counts mode line
      → behind ≡ k + sum_by (live_counts mode) (take (i + 1) lines)
  counts_more k lines i d line next behind lt is n b =
      let c = live_counts mode in
      let more = ap (sum_by c) (take_more lines i d lt) ∙ sum_by-append c (take i lines) (get_or lines i d ∷ []) in
      let one = sum_by-cons c (get_or lines i d) [] in
      let same : c line ≡ c (get_or lines i d) = ap c is in
      omega (arith, more, one, same, n, b)

  pub gives_more : (lines : List (List ℕ)) (i : ℕ) (d line : List ℕ) (given now end : List ItemData) → i < length lines → line ≡ get_or lines i d → now ≡ given ++ flat_map (live_gives mode) (take i lines) → end ≡ now ++ live_gives mode line
      → end ≡ given ++ flat_map (live_gives mode) (take (i + 1) lines)
  gives_more lines i d line given now end lt is n e =
      let g = live_gives mode in
      let front = flat_map g (take i lines) in
      let one : flat_map g (get_or lines i d ∷ []) ≡ g line = append-nil (g (get_or lines i d)) ∙ ap g (sym is) in
      let more = ap (flat_map g) (take_more lines i d lt) ∙ flat_append g (take i lines) (get_or lines i d ∷ []) ∙ ap (λ l. front ++ l) one in
      e ∙ ap (λ l. l ++ g line) n ∙ append_assoc given front (g line) ∙ ap (λ l. given ++ l) (sym more)

  -- of a line that is heard or not: the first lines, with it or without it
  pub hears_line : (lines : List (List ℕ)) (i : ℕ) (d line : List ℕ) (given now end : List ItemData) → i < length lines → line ≡ get_or lines i d → now ≡ given ++ flat_map (live_gives mode) (take i lines)
      → (end ≡ now) ⊎ (end ≡ now ++ live_gives mode line) → (n : ℕ) × (end ≡ given ++ flat_map (live_gives mode) (take n lines))
  hears_line lines i d line given now end lt is n (inl e) = (i, e ∙ n)
  hears_line lines i d line given now end lt is n (inr e) = (i + 1, gives_more lines i d line given now end lt is n e)

  -- no line is heard
  pub hears_none : (a b : LineSideData) (lines : List (List ℕ)) → b.given ≡ a.given → StartsWith b.live.told a.live.told → HearsSome mode a b lines
  hears_none a b lines same told = record {
    count = 0;
    given = same ∙ sym (append-nil a.given);
    told = told;
  }

  -- some are
  pub hears_some : (a b : LineSideData) (lines : List (List ℕ)) → (n : ℕ) × (b.given ≡ a.given ++ flat_map (live_gives mode) (take n lines)) → StartsWith b.live.told a.live.told → HearsSome mode a b lines
  hears_some a b lines h told = record {
    count = h.0;
    given = h.1;
    told = told;
  }

  -- all are
  pub hears_all : (a b : LineSideData) (lines : List (List ℕ)) → b.given ≡ a.given ++ flat_map (live_gives mode) lines → StartsWith b.live.told a.live.told → HearsSome mode a b lines
  hears_all a b lines h told = record {
    count = length lines;
    given = h ∙ ap (λ l. a.given ++ flat_map (live_gives mode) l) (sym (take_all (length lines) lines (omega arith)));
    told = told;
  }

  stay_right : StayRight (LiveReplies mode) (live_counts mode) (news_shown mode.json)
  stay_right es fs n k line text s le h = (h.0, (h.1.0, starts_get fs es (n - 1) h.0 s h.1.1), h.2)

  -- what a line says is said by its words
  counts_as : (x y : List ℕ) → line_words x ≡ line_words y → live_counts mode x ≡ live_counts mode y
  counts_as x y e = ap (λ w. counted (line_says mode w)) e

  gives_as : (x y : List ℕ) → line_words x ≡ line_words y → live_gives mode x ≡ live_gives mode y
  gives_as x y e = ap (λ w. item_said (line_says mode w)) e

  replies_as : (es : List EditionData) (n k : ℕ) (x y text : List ℕ) → line_words x ≡ line_words y → LiveReplies mode es n k x text → LiveReplies mode es n k y text
  replies_as es n k x y text e h = (h.0, h.1, subst (λ w. IsWantedBy mode.json n h.0 k (wanted (line_says mode w)) text) e h.2)

  -- a run of lines is one of all lines with the same words
  runs_as : (es : List EditionData) (k least : ℕ) (told end : List NewsData) (xs ys : List (List ℕ)) (text : List ℕ) → map line_words xs ≡ map line_words ys → Runs es k least told xs text end → Runs es k least told ys text end
  runs_as es k least told end [] [] text e h = h
  runs_as es k least told end [] (y ∷ ys) text e h = absurd (cc e)
  runs_as es k least told end (x ∷ xs) [] text e h = absurd (cc e)
  runs_as es k least told end (x ∷ xs) (y ∷ ys) text e h =
      let words : line_words x ≡ line_words y = cc e in
      let more : map line_words xs ≡ map line_words ys = cc e in
      let rest = runs_as es (k + live_counts mode x) h.0 h.1 end xs ys h.4 more h.10 in (
        h.0,
        h.1,
        h.2,
        h.3,
        h.4,
        h.5,
        h.6,
        h.7,
        replies_as es h.0 k x y h.3 words h.8,
        h.9,
        subst (λ c. Runs es (k + c) h.0 h.1 ys h.4 end) (counts_as x y words) rest,
      )

  flat_as : (xs ys : List (List ℕ)) → map line_words xs ≡ map line_words ys → flat_map (live_gives mode) xs ≡ flat_map (live_gives mode) ys
  flat_as [] [] e = refl
  flat_as [] (y ∷ ys) e = absurd (cc e)
  flat_as (x ∷ xs) [] e = absurd (cc e)
  flat_as (x ∷ xs) (y ∷ ys) e =
      let words : line_words x ≡ line_words y = cc e in
      let more : map line_words xs ≡ map line_words ys = cc e in
      ap₂ (λ a b. a ++ b) (gives_as x y words) (flat_as xs ys more)

  -- the lines of a source, with the words of those that were kept
  lines_for : (left : Option (List ℕ)) (ls : List (List ℕ)) → IfSome left (λ bytes. ls ≡ kept_lines 1026 bytes)
      → (lines : List (List ℕ)) × IfSome left (λ bytes. lines ≡ lines_of bytes) × (map line_words ls ≡ map line_words lines)
  lines_for None ls h = (ls, tt, refl)
  lines_for (Some bytes) ls h = (lines_of bytes, refl, ap (map line_words) h ∙ words_same 1026 (omega arith) bytes)

  -- the first lines, of which the words are these
  first_for : (xs ls rest : List (List ℕ)) → map line_words xs ≡ map line_words (ls ++ rest)
      → (lines : List (List ℕ)) × (more : List (List ℕ)) × (xs ≡ lines ++ more) × (map line_words ls ≡ map line_words lines) × (map line_words more ≡ map line_words rest)
  first_for xs [] rest e = ([], xs, refl, refl, e)
  first_for [] (l ∷ ls) rest e = absurd (cc e)
  first_for (x ∷ xs) (l ∷ ls) rest e =
      let words : line_words x ≡ line_words l = cc e in
      let more : map line_words xs ≡ map line_words (ls ++ rest) = cc e in
      let r = first_for xs ls rest more in
      (x ∷ r.0, r.1, ap (λ l. x ∷ l) r.2, ap₂ (λ a b. a ∷ b) (sym words) r.3, r.4)

  first_lines : (left : Option (List ℕ)) (ls hs : List (List ℕ)) → IfSome left (λ bytes. (rest : List (List ℕ)) × (kept_lines 1026 bytes ≡ (ls ++ hs) ++ rest))
      → (lines : List (List ℕ)) × (heard : List (List ℕ)) × IfSome left (λ bytes. (rest : List (List ℕ)) × (lines_of bytes ≡ (lines ++ heard) ++ rest)) × (map line_words ls ≡ map line_words lines) × (map line_words hs ≡ map line_words heard)
  first_lines None ls hs h = (ls, hs, tt, refl, refl)
  first_lines (Some bytes) ls hs h =
      let words = sym (words_same 1026 (omega arith) bytes) ∙ ap (map line_words) (h.1 ∙ append_assoc ls hs h.0) in
      let f = first_for (lines_of bytes) ls (hs ++ h.0) words in
      let k = first_for f.1 hs h.0 f.4 in
      (f.0, k.0, (k.1, f.2 ∙ ap (λ l. f.0 ++ l) k.2 ∙ sym (append_assoc f.0 k.0 k.1)), f.3, k.3)

  turn_of : (a : LineSideData) (lines : List (List ℕ)) (text : List ℕ) (b : LineSideData) → IsLiveTurn mode a lines text b → Turn a.live lines text b.live
  turn_of a lines text b t = t.turn

  given_by : (a : LineSideData) (lines : List (List ℕ)) (text : List ℕ) (b : LineSideData) → IsLiveTurn mode a lines text b → Gives LineSideData.given (live_gives mode) a lines text b
  given_by a lines text b t = t.gives

  -- turns are one text
  one_text : (es : List EditionData) (a b : LineSideData) (turns : List (List (List ℕ))) (text : List ℕ) → Follow (IsLiveTurn mode) a turns text b → StartsWith es b.live.kept.list → IsLiveText mode es a (lines_in turns) text b.live.told
  one_text es a b turns text h s =
      turns_run (LiveReplies mode) (live_counts mode) (news_shown mode.json) stay_right a.live b.live turns text es (follow_through (λ (x : LineSideData). x.live) (IsLiveTurn mode) Turn turn_of a b turns text h) s

  all_given : (a b : LineSideData) (turns : List (List (List ℕ))) (text : List ℕ) → Follow (IsLiveTurn mode) a turns text b → b.given ≡ a.given ++ flat_map (live_gives mode) (lines_in turns)
  all_given a b turns text h =
      turns_give LineSideData.given (live_gives mode) a b turns text (follow_through (λ (x : LineSideData). x) (IsLiveTurn mode) (Gives LineSideData.given (live_gives mode)) given_by a b turns text h)

  pub whole_run : TurnsAreOneRun mode
  whole_run es left before now a b w s =
      let ls = lines_for left (lines_in w.turns) w.lines in
      let text = one_text es a b w.turns w.text w.answered s in
      record {
        lines = ls.0;
        text = w.text;
        all = ls.1;
        right = runs_as es a.live.next (length a.live.kept.list) a.live.told b.live.told (lines_in w.turns) ls.0 w.text ls.2 text;
        given = all_given a b w.turns w.text w.answered ∙ ap (λ l. a.given ++ l) (flat_as (lines_in w.turns) ls.0 ls.2);
        written = w.written;
      }

  cut_none : (cause : LinesFault) (hs heard : List (List ℕ)) → map line_words hs ≡ map line_words heard → (cause ≡ fault.Memory) ⊎ (hs ≡ []) → (cause ≡ fault.Memory) ⊎ (heard ≡ [])
  cut_none cause hs heard e (inl m) = inl m
  cut_none cause hs heard e (inr n) = inr (no_words heard (sym e ∙ ap (map line_words) n)) where
    no_words : (xs : List (List ℕ)) → map line_words xs ≡ [] → xs ≡ []
    no_words [] h = refl
    no_words (x ∷ xs) h = absurd (cc h)

  pub cut_run : CutTurnsAreOneRun mode
  cut_run cause es left rest before now a b c s =
      let w = c.cut in
      let g = live_gives mode in
      let ls = first_lines left (lines_in w.turns) c.heard c.lines in
      let starts = starts_trans w.by.live.kept.list b.live.kept.list es s c.later.0 in
      let text = one_text es a w.by w.turns w.text w.answered starts in
      let by = all_given a w.by w.turns w.text w.answered ∙ ap (λ l. a.given ++ l) (flat_as (lines_in w.turns) ls.0 ls.3) in
      record {
        lines = ls.0;
        text = w.text;
        told = w.by.live.told;
        count = w.count;
        heard = ls.1;
        first = ls.2;
        came = λ e. let t = c.came e in (t.0, t.1, sym ls.3 ∙ ap (map line_words) t.2);
        right = runs_as es a.live.next (length a.live.kept.list) a.live.told w.by.live.told (lines_in w.turns) ls.0 w.text ls.3 text;
        given = c.given ∙ ap₂ (λ x y. x ++ y) by (flat_as c.heard ls.1 ls.4) ∙ append_assoc a.given (flat_map g ls.0) (flat_map g ls.1) ∙ ap (λ l. a.given ++ l) (sym (flat_append g ls.0 ls.1));
        none = cut_none cause c.heard ls.1 ls.4 c.none;
        news = c.told;
        whole = c.whole;
        written = w.written;
      }

  -- nothing was heard behind the lines of a run
  no_more : (most : ℕ) (left w1 w3 : Option (List ℕ)) (a : LineSideData) (c : IsCutRun (IsLiveTurn mode) most left w1 w3 a) → IfSome left (λ bytes. (more : List (List ℕ)) × (kept_lines most bytes ≡ (lines_in c.turns ++ []) ++ more))
  no_more most left w1 w3 a c = mapped left _ _ (λ bytes h. (h.0, h.1 ∙ ap (λ l. l ++ h.0) (sym (append-nil (lines_in c.turns))))) c.lines

  no_gift : (a b : LineSideData) → a ≡ b → b.given ≡ a.given ++ []
  no_gift a b same = ap (λ (s : LineSideData). s.given) (sym same) ∙ sym (append-nil a.given)

  all_told : (a b : LineSideData) → a ≡ b → StartsWith b.live.told a.live.told
  all_told a b same = subst (λ (s : LineSideData). StartsWith s.live.told a.live.told) same (starts_self a.live.told)

  -- the lines that were heard of those that come next begin the lines of the source
  heard_next : (most : ℕ) (left mid now : Option (List ℕ)) (i j : IntakeData) (w1 w2 : Option (List ℕ)) (a b c : LineSideData) → (h : IsSoFar (IsLiveTurn mode) most left mid i w1 w2 a b) → (n : HearsNext mode mid now i j b c)
      → IfSome left (λ bytes. (more : List (List ℕ)) × (kept_lines most bytes ≡ (lines_in h.turns ++ take n.hears.count n.lines) ++ more))
  heard_next most left mid now i j w1 w2 a b c h n = by_lines n.hears.count n.lines n.come where
    fewer : (k : ℕ) (bytes : List ℕ) (xs lines rest : List (List ℕ)) → kept_lines most bytes ≡ (xs ++ lines) ++ rest → (more : List (List ℕ)) × (kept_lines most bytes ≡ (xs ++ take k lines) ++ more)
    fewer k bytes xs lines rest e = (
      drop k lines ++ rest,
      e ∙ ap (λ l. (xs ++ l) ++ rest) (sym (take-append-drop k lines)) ∙ ap (λ l. l ++ rest) (sym (append_assoc xs (take k lines) (drop k lines))) ∙ append_assoc (xs ++ take k lines) (drop k lines) rest,
    )

    by_lines : (k : ℕ) (lines : List (List ℕ)) → (lines ≡ []) ⊎ ComeNext mid now i j lines n.more → IfSome left (λ bytes. (more : List (List ℕ)) × (kept_lines most bytes ≡ (lines_in h.turns ++ take k lines) ++ more))
    by_lines k lines (inl none) =
        mapped left _ _ (λ bytes t. fewer k bytes (lines_in h.turns) lines t.0 (t.1 ∙ ap (λ l. l ++ t.0) (sym (append-nil (lines_in h.turns)) ∙ ap (λ l. lines_in h.turns ++ l) (sym none)))) (begins (IsLiveTurn mode) most left mid i w1 w2 a b h)
    by_lines k lines (inr come) =
        mapped left _ _ (λ bytes t. fewer k bytes (lines_in h.turns) lines t.0 (t.1 ∙ ap (λ l. l ++ t.0) (lines_more h.turns lines))) (next_begins (IsLiveTurn mode) most left mid now i j w1 w2 a b lines n.more h come)

  -- a run that is cut off by the next turn
  pub cut_by : (cause : LinesFault) (most : ℕ) (left mid now : Option (List ℕ)) (i j : IntakeData) (w1 w2 w3 : Option (List ℕ)) (a b c : LineSideData)
      → IsSoFar (IsLiveTurn mode) most left mid i w1 w2 a b → FailsToGoOn cause mode mid now i j w2 w3 b c → IsCutBy cause mode most left now w1 w3 a c
  cut_by fault.WriteFault most left mid now i j w1 w2 w3 a b c h f =
      let d = cut_within_at (IsLiveTurn mode) most left mid now i j w1 w2 w3 a b h f.0 in
      let same = d.1 ∙ f.1 in record {
        cut = d.0;
        whole = inl refl;
        came = λ e. absurd (cc e);
        later = subst (λ (s : LineSideData). Extends c.live.kept s.live.kept) (sym same) (extends_self c.live.kept);
        same = inr same;
        heard = [];
        lines = no_more most left w1 w3 a d.0;
        given = no_gift d.0.by c same;
        told = all_told d.0.by c same;
        none = inr refl;
      }
  cut_by fault.ReadFault most left mid now i j w1 w2 w3 a b c h f =
      let d = cut_here_at (IsLiveTurn mode) most left mid i w1 w2 w3 a b h f.0 in
      let same = d.1 ∙ sym f.1 in
      let all = consumes_more left mid now h.bytes [] h.taken f.2 in record {
        cut = d.0;
        whole = inr d.2;
        came = λ e. (h.bytes, subst (λ bs. Consumes left now bs) (append-nil h.bytes) all, d.3);
        later = subst (λ (s : LineSideData). Extends c.live.kept s.live.kept) (sym same) (extends_self c.live.kept);
        same = inr same;
        heard = [];
        lines = no_more most left w1 w3 a d.0;
        given = no_gift d.0.by c same;
        told = all_told d.0.by c same;
        none = inr refl;
      }
  cut_by fault.Memory most left mid now i j w1 w2 w3 a b c h f =
      let d = cut_here_at (IsLiveTurn mode) most left mid i w1 w2 w3 a b h f.0 in
      let n = f.2 in
      let heard = take n.hears.count n.lines in
      let turns : lines_in h.turns ≡ lines_in d.0.turns = h.lines ∙ sym d.3 in record {
        cut = d.0;
        whole = inr d.2;
        came = λ e. absurd (cc e);
        later = subst (λ (s : LineSideData). Extends c.live.kept s.live.kept) (sym d.1) f.1;
        same = inl refl;
        heard = heard;
        lines = subst (λ xs. IfSome left (λ bytes. (more : List (List ℕ)) × (kept_lines most bytes ≡ (xs ++ heard) ++ more))) turns (heard_next most left mid now i j w1 w2 a b c h n);
        given = subst (λ (s : LineSideData). c.given ≡ s.given ++ flat_map (live_gives mode) heard) (sym d.1) n.hears.given;
        told = subst (λ (s : LineSideData). StartsWith c.live.told s.live.told) (sym d.1) n.hears.told;
        none = inl refl;
      }

  -- no lines came
  pub none_come : (left rest : Option (List ℕ)) (old new : IntakeData) (a : LineSideData) → HearsNext mode left rest old new a a
  none_come left rest old new a = record {
    lines = [];
    more = false;
    come = inl refl;
    hears = hears_none a a [] refl (starts_self a.live.told);
  }

  -- nothing was read
  pub cut_at_once : (left written : Option (List ℕ)) (a : LineSideData) → IsCutBy fault.Memory mode 1026 left left written written a a
  cut_at_once left written a =
      let i : IntakeData = record { most = 1026; room = 0; begun = [] } in
      cut_by fault.Memory 1026 left left left i i written written written a a a (start (IsLiveTurn mode) left written i a refl) (refl, extends_self a.live.kept, none_come left left i i a)

  -- a turn of lines that came fails
  pub fails_on : (cause : LinesFault) (left rest : Option (List ℕ)) (old new : IntakeData) (before now : Option (List ℕ)) (a b : LineSideData) (lines ls : List (List ℕ)) (more : Bool)
      → lines ≡ ls → ComeNext left rest old new ls more → FailsToTell cause mode before now a b lines → FailsToGoOn cause mode left rest old new before now a b
  fails_on fault.WriteFault left rest old new before now a b lines ls more e c f = (
    record {
      lines = lines;
      more = more;
      next = subst (λ l. ComeNext left rest old new l more) (sym e) c;
      text = f.text;
      count = f.count;
      by = b;
      answered = f.turn;
      written = f.written;
    },
    refl,
  )
  fails_on fault.ReadFault left rest old new before now a b lines ls more e c f = absurd f
  fails_on fault.Memory left rest old new before now a b lines ls more e c f = (
    f.0,
    f.1,
    record {
      lines = lines;
      more = more;
      come = inr (subst (λ l. ComeNext left rest old new l more) (sym e) c);
      hears = f.2;
    },
  )

  -- the replies of a turn, by the edition that was pinned
  pub replies_are : (kept pinned : Shown EditionData) (k : ℕ) (lines : List (List ℕ)) (asked seen : List Asked) (texts : List (Vec ℕ Global)) → kept ≡ pinned → seen ≡ asked → asked ≡ asked_from mode k lines
      → (e : EditionData) × IsEditionOf pinned.list (length pinned.list) e × AreReplies (λ (a : Asked) (v : Vec ℕ Global). IsWantedBy mode.json (length pinned.list) e a.number a.wanted v.items) seen texts
      → AllBy (LiveReplies mode) (live_counts mode) (news_shown mode.json) kept.list (length kept.list) k lines (joined_texts texts)
  replies_are kept pinned k lines asked seen texts same s a h =
      let right = subst (λ q. AreReplies (λ (a : Asked) (v : Vec ℕ Global). IsWantedBy mode.json (length pinned.list) h.0 a.number a.wanted v.items) q texts) (s ∙ a) h.2 in
      subst (λ (p : Shown EditionData). AllBy (LiveReplies mode) (live_counts mode) (news_shown mode.json) p.list (length p.list) k lines (joined_texts texts)) (sym same) (all_by pinned.list (length pinned.list) h.0 h.1 k lines texts right)

  -- a turn
  pub turn_is : (a b : LineSideData) (lines : List (List ℕ)) (note body text : List ℕ) → Extends b.live.kept a.live.kept → Tells (news_shown mode.json) a.live.told b.live.told note → text ≡ note ++ body
      → b.live.next ≡ a.live.next + sum_by (live_counts mode) lines → AllBy (LiveReplies mode) (live_counts mode) (news_shown mode.json) b.live.kept.list (length b.live.kept.list) a.live.next lines body
      → b.given ≡ a.given ++ flat_map (live_gives mode) lines → IsLiveTurn mode a lines text b
  turn_is a b lines note body text later tells is next replies given = record {
    turn = record {
      later = later;
      note = note;
      body = body;
      text_is = is;
      tells = tells;
      counted = next;
      replies = replies;
    };
    gives = given;
  }
