-- The run of a process that lives, from its sides.
use Rattle.std.proofs.Common.{◌≡◌, ◌⊎◌, inl, inr, ℕ, suc, ◌+◌, ◌<◌, ◌≤◌, List, [], ◌∷◌, ◌++◌, drop, take, length, refl, sym, ap, subst, ◌∙◌, Option, Some, None, Result, Ok, Err, Bool, true, false, get_or, arith, append_assoc}
use Rattle.std.specs.Prelude.{IfErr, IfOk, IfSome, MatchResult, OnOk, flat_map, map}
use Rattle.std.proofs.lemmas.Bool.{false≢true}
use Rattle.std.proofs.lemmas.List.{append-nil, length-append, take_all}
use Rattle.std.proofs.Math.Seq.{take-append-add}
use Rattle.std.specs.Io.KnownBytes.{Appends, Consumes}
use Rattle.tb_io.proofs.Pieces.{appends_more}
use Rattle.tb_io.specs.Files.{FileList}
use Rattle.footpaths.specs.declared.paths.Options.{Options}
use Rattle.gtfs_rows.specs.declared.fault.FeedFault.{FeedFault}
use Rattle.edition_store.specs.Editions.{EditionData}
use Rattle.history.specs.Lists.{Extends, Shown, StartsWith}
use Rattle.history.proofs.Lists.{rest_of, starts_more, starts_self, starts_trans}
use Rattle.live_turns.specs.Runs.{Tells, TextRunsFrom}
use Rattle.live_turns.specs.Turns.{IsWholeRun}
use Rattle.live_turns.proofs.Joined.{lowered, told_last}
use Rattle.text_lines.specs.Lines.{lines_of}
use Rattle.live_turns.specs.declared.live.lived.LiveFault.{LiveFault}
use Rattle.live_turns.specs.declared.live.lived.LiveFault.TheVariants as fault
use Rattle.live_turns.specs.declared.live.running.LinesFault.{LinesFault}
use Rattle.live_turns.specs.declared.live.running.LinesFault.TheVariants as cut
use Rattle.live_turns.specs.declared.live.saying.LiveMode.{LiveMode}
use Rattle.live_turns.specs.Live.{ArePublished, HasAnEdition, HasBecome, HasFailed, HasFailedBehind, HasLived, HasLivedUntil, HasToldFirst, IsFirstNews, IsNewsOf, IsTextOf, ReadFaultsRose}
use Rattle.edition_build.specs.Plans.{BeginsWithFirst}
use Rattle.live_turns.specs.LiveLines.{live_counts, live_gives}
use Rattle.live_turns.specs.LivePublisher.{ArePublishedSoFar, HavePublished, items_taken}
use Rattle.live_turns.specs.LiveReplies.{LiveReplies}
use Rattle.live_turns.specs.LiveSides.{BeginsLive, FailsToTellFirst, FailsToTellRest, HasCutLines, HasRunLines, HaveClosed, HaveMet, TellsRest, told_as}
use Rattle.live_turns.specs.LiveTexts.{NewsData, news_shown}
use Rattle.live_turns.specs.LiveTurns.{CutTurnsAreOneRun, IsCutBy, IsLiveRun, IsLiveText, IsLiveTurn, LineSideData, TurnsAreOneRun, before_lines}
use Rattle.edition_build.specs.Plans.{ItemData, outcome_of}
use Rattle.live_turns.specs.declared.live.news.Became.TheVariants as became
use Rattle.edition_build.proofs.FirstDay.{source_first}
use Rattle.live_turns.proofs.LivePublisher.{published_all, starts_take}
use Rattle.edition_build.proofs.Told.{so_far_first}

-- the text of a side that begins with the first news told, at its first line
begun_text : (mode : LiveMode) (es : List EditionData) (side : LineSideData) (news told : List NewsData) (lines : List (List ℕ)) (text : List ℕ) (first : List EditionData) →
    length first ≡ 1 → side.live.kept.list ≡ first → side.live.next ≡ 1 → side.live.told ≡ news →
    IsLiveText mode es side lines text told → IsTextOf mode es news lines text told
begun_text mode es side news told lines text first one kept next was h =
    let least : length side.live.kept.list ≡ 1 = ap length kept ∙ one in
    subst (λ n. TextRunsFrom (LiveReplies mode) (live_counts mode) (news_shown mode.json) es 1 n news lines text told) least
    (subst (λ k. TextRunsFrom (LiveReplies mode) (live_counts mode) (news_shown mode.json) es k (length side.live.kept.list) news lines text told) next
    (subst (λ ns. TextRunsFrom (LiveReplies mode) (live_counts mode) (news_shown mode.json) es side.live.next (length side.live.kept.list) ns lines text told) was h))

-- a list that begins with the first edition
first_is : (files : Option FileList) (options : Options) (mode : LiveMode) (words : List ItemData) (es more : List EditionData) →
    length es ≡ 1 → BeginsWithFirst files options mode.mirrored words es → StartsWith more es → BeginsWithFirst files options mode.mirrored words more
first_is files options mode [] es more one good h = absurd good
first_is files options mode (w ∷ words) [] more one good h = absurd good
first_is files options mode (w ∷ words) (e ∷ d ∷ es) more one good h = absurd (omega (arith, one))
first_is files options mode (w ∷ words) (e ∷ []) [] one good h = absurd (cc h)
first_is files options mode (w ∷ words) (e ∷ []) (f ∷ more) one good h = let same : e ≡ f = cc h in subst (λ d. BeginsWithFirst files options mode.mirrored (w ∷ words) (d ∷ more)) same good

-- the items that were handed over are the first word's and those that lines named
named_items : (words taken more : List ItemData) → 0 < length words → taken ≡ take 1 words ++ more → items_taken words taken ≡ words ++ more
named_items [] taken more some is = absurd (omega (arith, some))
named_items (w ∷ words) taken more some is = ap (λ l. (w ∷ words) ++ drop 1 l) is

mapped : (o : Option (List ℕ)) (P Q : List ℕ → Type 0) → ((x : List ℕ) → P x → Q x) → IfSome o P → IfSome o Q
mapped None P Q f p = tt
mapped (Some x) P Q f p = f x p

-- all lines are the first ones
all_first : (left : Option (List ℕ)) (lines : List (List ℕ)) → IfSome left (λ bytes. lines ≡ lines_of bytes) → IfSome left (λ bytes. (more : List (List ℕ)) × (lines_of bytes ≡ (lines ++ []) ++ more))
all_first left lines h = mapped left _ _ (λ bytes same. ([], sym same ∙ sym (append-nil lines) ∙ sym (append-nil (lines ++ [])))) h

none_first : (left : Option (List ℕ)) → IfSome left (λ bytes. (more : List (List ℕ)) × (lines_of bytes ≡ ([] ++ []) ++ more))
none_first None = tt
none_first (Some bytes) = (lines_of bytes, refl)

told_once : (a b : LinesFault) → told_as a ≡ told_as b → a ≡ b
told_once cut.ReadFault cut.ReadFault h = refl
told_once cut.ReadFault cut.WriteFault h = absurd (cc h)
told_once cut.ReadFault cut.Memory h = absurd (cc h)
told_once cut.WriteFault cut.ReadFault h = absurd (cc h)
told_once cut.WriteFault cut.WriteFault h = refl
told_once cut.WriteFault cut.Memory h = absurd (cc h)
told_once cut.Memory cut.ReadFault h = absurd (cc h)
told_once cut.Memory cut.WriteFault h = absurd (cc h)
told_once cut.Memory cut.Memory h = refl

whole_as : (cause : LinesFault) (count : ℕ) (text : List ℕ) → (cause ≡ cut.WriteFault) ⊎ (count ≡ length text) → (told_as cause ≡ fault.WriteFault) ⊎ (count ≡ length text)
whole_as cause count text (inl e) = inl (ap told_as e)
whole_as cause count text (inr e) = inr e

none_as : (cause : LinesFault) (heard : List (List ℕ)) → (cause ≡ cut.Memory) ⊎ (heard ≡ []) → (told_as cause ≡ fault.Memory) ⊎ (heard ≡ [])
none_as cause heard (inl e) = inl (ap told_as e)
none_as cause heard (inr h) = inr h

more_taken : (words given taken : List ItemData) → StartsWith given taken → StartsWith (items_taken words given) (items_taken words taken)
more_taken words given [] s = subst (λ l. StartsWith (words ++ drop 1 given) l) (sym (append-nil words)) (starts_more words (drop 1 given))
more_taken words given (t ∷ ts) s =
    let rest = drop (length (t ∷ ts)) given in
    let is : given ≡ (t ∷ ts) ++ rest = rest_of given (t ∷ ts) s in
    let more : words ++ drop 1 given ≡ (words ++ ts) ++ rest = ap (λ l. words ++ drop 1 l) is ∙ sym (append_assoc words ts rest) in
    subst (λ l. StartsWith l (words ++ ts)) (sym more) (starts_more (words ++ ts) rest)

-- the two sides have met: some first items of those that were given are published, and what is told are first news of them
pub met_so_far : (files : Option FileList) (options : Options) (mirrored : Bool) (words taken given : List ItemData) (news told : List NewsData) (es : List EditionData) (known : Shown EditionData) →
    HaveMet es known taken given news told → ArePublishedSoFar files options mirrored (items_taken words taken) news es → ArePublishedSoFar files options mirrored (items_taken words given) told es
met_so_far files options mirrored words taken given news told es known met p = record {
  items = p.items;
  news = p.news;
  first = starts_trans p.items (items_taken words taken) (items_taken words given) (more_taken words given taken met.items) p.first;
  tells = starts_trans told news p.news p.tells met.tells;
  published = p.published;
}

-- the list that is left of who publishes, who may have been refused
module _ (es : List EditionData) (all : Bool) where
  abbrev Lists : Type 0
  Lists = Result (List EditionData) (List EditionData)

  abbrev IsLeft : Lists → Type 0
  IsLeft r = MatchResult r (λ p. (es ≡ p) × (all ≡ true)) (λ p. (es ≡ p) × (all ≡ false))

  pub all_left : (r : Lists) (P : List EditionData → Type 0) → IsLeft r → IfOk r P → all ≡ true → P es
  all_left (Ok p) P m h is = subst P (sym m.0) h
  all_left (Err p) P m h is = absurd (false≢true (sym m.1 ∙ is))

  pub on_all_left : (r : Lists) (P : Type 0) → IsLeft r → OnOk r P → all ≡ true → P
  on_all_left (Ok p) P m h is = h
  on_all_left (Err p) P m h is = absurd (false≢true (sym m.1 ∙ is))

  pub so_far_left : (r : Lists) (files : Option FileList) (options : Options) (mirrored : Bool) (items : List ItemData) (news : List NewsData) → IsLeft r →
      IfOk r (λ p. ArePublished files options mirrored items news p) → IfErr r (λ p. ArePublishedSoFar files options mirrored items news p) → ArePublishedSoFar files options mirrored items news es
  so_far_left (Ok p) files options mirrored items news m h k = subst (λ l. ArePublishedSoFar files options mirrored items news l) (sym m.0) record {
    items = items;
    news = news;
    first = starts_self items;
    tells = starts_self news;
    published = h;
  }
  so_far_left (Err p) files options mirrored items news m h k = subst (λ l. ArePublishedSoFar files options mirrored items news l) (sym m.0) k

longer : (cause : LiveFault) (line text : List ℕ) (count : ℕ) → (cause ≡ fault.WriteFault) ⊎ (count ≡ length text) → (cause ≡ fault.WriteFault) ⊎ (length line + count ≡ length (line ++ text))
longer cause line text count (inl e) = inl e
longer cause line text count (inr e) = inr (omega (arith, e, length-append line text))

module _ (files : Option FileList) (options : Options) (mode : LiveMode) (words : List ItemData) (es0 : List EditionData) (day0 : EditionData) (items0 : List ItemData) (news0 : List NewsData) (side : LineSideData)
    (b : BeginsLive files options mode words es0 day0 items0 news0 side) (left before mid : Option (List ℕ)) (kept : Shown EditionData) where
  list_begins : (es : List EditionData) → StartsWith es kept.list → Extends kept side.live.kept → BeginsWithFirst files options mode.mirrored words es
  list_begins es s later = first_is files options mode words es0 es b.one b.good (starts_trans es0 kept.list es s (subst (λ l. StartsWith kept.list l) b.kept_is later.0))

  module _ (law : TurnsAreOneRun mode) (given : List ItemData) (told : List NewsData) (r : HasRunLines side.mode left before mid side kept given told) where
    run_over : (es : List EditionData) → StartsWith es kept.list → IsLiveRun mode es left before mid side r.end
    run_over es s = law es left before mid side r.end (subst (λ m. IsWholeRun (IsLiveTurn m) 1026 left before mid side r.end) b.mode_is r.run)
        (subst (λ (k : Shown EditionData). StartsWith es k.list) (sym r.kept_is) s)

    given_over : (es : List EditionData) (s : StartsWith es kept.list) → given ≡ take 1 words ++ flat_map (live_gives mode) (run_over es s).lines
    given_over es s =
        let run = run_over es s in
        sym r.given_is ∙ run.given ∙ ap (λ l. l ++ flat_map (live_gives mode) run.lines) (b.given_is ∙ b.items_are)

    given_more : (es : List EditionData) (s : StartsWith es kept.list) → given ≡ take 1 words ++ flat_map (live_gives mode) ((run_over es s).lines ++ [])
    given_more es s = subst (λ l. given ≡ take 1 words ++ flat_map (live_gives mode) l) (sym (append-nil (run_over es s).lines)) (given_over es s)

    right_over : (es : List EditionData) (s : StartsWith es kept.list) → IsTextOf mode es news0 (run_over es s).lines (run_over es s).text told
    right_over es s = begun_text mode es side news0 told (run_over es s).lines (run_over es s).text es0 b.one b.kept_is b.next_is b.told_is
        (subst (λ t. IsLiveText mode es side (run_over es s).lines (run_over es s).text t) r.told_is (run_over es s).right)

    -- all lines are answered, and all news are told
    pub whole_run : (now : Option (List ℕ)) (start end : ℕ) (es : List EditionData) (taken : List ItemData) (news : List NewsData) (note : List ℕ) → 0 < length words → StartsWith es kept.list →
        ArePublished files options mode.mirrored (items_taken words taken) news es → ReadFaultsRose start end news → HaveClosed mode.json taken given news told note → Appends mid now note →
        HasLived files options mode words news0 start end left before now
    whole_run now start end es taken news note some starts p rose closed w =
        let run = run_over es starts in
        let is = named_items words taken (flat_map (live_gives mode) run.lines) some (closed.items ∙ given_over es starts) in
        record {
          lines = run.lines;
          news = news;
          editions = es;
          text = run.text ++ note;
          all = run.all;
          published = subst (λ l. ArePublished files options mode.mirrored l news es) is p;
          rose = rose;
          right = told_last (LiveReplies mode) (live_counts mode) (news_shown mode.json) es 1 1 news0 told news run.lines run.text note (right_over es starts) closed.tells;
          written = appends_more before mid now run.text note run.written w;
        }

    -- all lines are answered, and memory is wanting then
    pub short_run : (rest now : Option (List ℕ)) (es : List EditionData) → 0 < length words → StartsWith es kept.list → ArePublishedSoFar files options mode.mirrored (items_taken words given) told es → now ≡ mid →
        HasLivedUntil fault.Memory files options mode words news0 left rest before now
    short_run rest now es some s p same =
        let run = run_over es s in
        record {
          lines = run.lines;
          news = told;
          editions = es;
          heard = [];
          items = p.items;
          became = p.news;
          text = run.text;
          count = length run.text;
          first = all_first left run.lines run.all;
          came = λ e. absurd (cc e);
          begins = list_begins es s r.later;
          none = inr refl;
          taken = subst (λ l. StartsWith l p.items) (named_items words given (flat_map (live_gives mode) (run.lines ++ [])) some (given_more es s)) p.first;
          published = p.published;
          tells = p.tells;
          right = right_over es s;
          whole = inr refl;
          written = subst (λ n. Appends before n (take (length run.text) run.text)) (sym same) (subst (λ t. Appends before mid t) (sym (take_all (length run.text) run.text (omega arith))) run.written);
        }

    -- all lines are answered, and the sink fails where the rest of the news is written
    pub cut_note : (rest now : Option (List ℕ)) (es : List EditionData) (taken : List ItemData) (news : List NewsData) (note : List ℕ) (n : ℕ) → 0 < length words → StartsWith es kept.list →
        ArePublished files options mode.mirrored (items_taken words taken) news es → HaveClosed mode.json taken given news told note →
        Appends mid now (take n note) → HasLivedUntil fault.WriteFault files options mode words news0 left rest before now
    cut_note rest now es taken news note n some s p closed w =
        let run = run_over es s in
        let named = flat_map (live_gives mode) (run.lines ++ []) in
        let is = named_items words taken named some (closed.items ∙ given_more es s) in
        record {
          lines = run.lines;
          news = news;
          editions = es;
          text = run.text ++ note;
          count = length run.text + n;
          heard = [];
          items = words ++ named;
          became = news;
          first = all_first left run.lines run.all;
          came = λ e. absurd (cc e);
          begins = list_begins es s r.later;
          none = inr refl;
          taken = starts_self (words ++ named);
          published = subst (λ l. ArePublished files options mode.mirrored l news es) is p;
          tells = starts_self news;
          right = told_last (LiveReplies mode) (live_counts mode) (news_shown mode.json) es 1 1 news0 told news run.lines run.text note (right_over es s) closed.tells;
          whole = inl refl;
          written = subst (λ t. Appends before now t) (sym (take-append-add run.text note n)) (appends_more before mid now run.text (take n note) run.written w);
        }

    -- all lines are answered, and the rest of the news is told
    pub whole_rest : (now : Option (List ℕ)) (start end : ℕ) (es : List EditionData) (taken : List ItemData) (news : List NewsData) → 0 < length words → StartsWith es kept.list →
        ArePublished files options mode.mirrored (items_taken words taken) news es → ReadFaultsRose start end news → TellsRest mode.json taken given news told mid now →
        HasLived files options mode words news0 start end left before now
    whole_rest now start end es taken news some s p rose t = whole_run now start end es taken news t.0 some s p rose t.1 t.2

    -- all lines are answered, and the rest of the news fails to be told
    pub failed_rest : (rest now : Option (List ℕ)) (es : List EditionData) (taken : List ItemData) (news : List NewsData) → 0 < length words → StartsWith es kept.list →
        ArePublished files options mode.mirrored (items_taken words taken) news es → ArePublishedSoFar files options mode.mirrored (items_taken words given) told es → (cause : LiveFault) →
        FailsToTellRest mode.json taken given news told mid now cause → HasFailedBehind files options mode words news0 left rest before now cause
    failed_rest rest now es taken news some s p q (fault.Feed f) t = absurd t
    failed_rest rest now es taken news some s p q fault.ReadFault t = absurd t
    failed_rest rest now es taken news some s p q fault.WriteFault t = cut_note rest now es taken news t.0 t.1 some s p t.2 t.3
    failed_rest rest now es taken news some s p q fault.Memory t = short_run rest now es some s q t

  -- the lines are cut off by a fault
  pub cut_lines : (law : CutTurnsAreOneRun mode) (rest : Option (List ℕ)) (cause : LinesFault) (given : List ItemData) (told : List NewsData) → HasCutLines cause side.mode left rest before mid side kept given told →
      0 < length words → (es : List EditionData) → StartsWith es kept.list → ArePublishedSoFar files options mode.mirrored (items_taken words given) told es →
      HasLivedUntil (told_as cause) files options mode words news0 left rest before mid
  cut_lines law rest cause given told h some es starts p =
      let s : StartsWith es h.end.live.kept.list = subst (λ (k : Shown EditionData). StartsWith es k.list) (sym h.kept_is) starts in
      let run = law cause es left rest before mid side h.end (subst (λ m. IsCutBy cause m 1026 left rest before mid side h.end) b.mode_is h.run) s in
      let named = flat_map (live_gives mode) (run.lines ++ run.heard) in
      let is : given ≡ take 1 words ++ named = sym h.given_is ∙ run.given ∙ ap (λ l. l ++ named) (b.given_is ∙ b.items_are) in
      record {
        lines = run.lines;
        news = run.told;
        editions = es;
        text = run.text;
        count = run.count;
        heard = run.heard;
        items = p.items;
        became = p.news;
        first = run.first;
        came = λ e. run.came (told_once cause cut.ReadFault e);
        begins = list_begins es starts h.later;
        none = none_as cause run.heard run.none;
        taken = subst (λ l. StartsWith l p.items) (named_items words given named some is) p.first;
        published = p.published;
        tells = starts_trans run.told told p.news p.tells (subst (λ l. StartsWith l run.told) h.told_is run.news);
        right = begun_text mode es side news0 run.told run.lines run.text es0 b.one b.kept_is b.next_is b.told_is run.right;
        whole = whole_as cause run.count run.text run.whole;
        written = run.written;
      }

-- by cases on the fault: a run that is cut off fails so
pub failed_as : (files : Option FileList) (options : Options) (mode : LiveMode) (words : List ItemData) (told : List NewsData) (left rest before now : Option (List ℕ)) (cause : LinesFault) →
    HasLivedUntil (told_as cause) files options mode words told left rest before now → HasFailedBehind files options mode words told left rest before now (told_as cause)
failed_as files options mode words told left rest before now cut.ReadFault h = h
failed_as files options mode words told left rest before now cut.WriteFault h = h
failed_as files options mode words told left rest before now cut.Memory h = h

-- a run that ends with a cause of the lines ends with the fault that it is told as
module _ {A B : Type 0} (ended : Result A LinesFault) (result : Result B LiveFault) (cause : LinesFault) (is : ended ≡ Err cause) (told : result ≡ Err (told_as cause)) where
  ended_so : (e : LinesFault) → ended ≡ Err e → result ≡ Err (told_as e)
  ended_so e h = let same : cause ≡ e = cc (sym is ∙ h) in told ∙ ap (λ c. Err (told_as c)) same

  pub kept_as : (e : LinesFault) (P : Type 0) → (ended ≡ Err e) ⊎ P → (result ≡ Err (told_as e)) ⊎ P
  kept_as e P (inl h) = inl (ended_so e h)
  kept_as e P (inr h) = inr h

  pub rose_as : (e : LinesFault) (P : Type 0) → (ended ≡ Err e → P) → result ≡ Err (told_as e) → P
  rose_as e P f h = let same : told_as cause ≡ told_as e = cc (sym told ∙ h) in f (is ∙ ap (λ c. Err c) (told_once cause e same))

-- the first news, and the run behind them
module _ (files : Option FileList) (options : Options) (mode : LiveMode) (words : List ItemData) (first : NewsData) (left before mid : Option (List ℕ)) (line : List ℕ) (is : line ≡ news_shown mode.json first)
    (w : Appends before mid line) where
  told_first : Tells (news_shown mode.json) [] (first ∷ []) line
  told_first = (first ∷ [], refl, is ∙ sym (append-nil (news_shown mode.json first)))

  right_first : (es : List EditionData) (lines : List (List ℕ)) (text : List ℕ) (news : List NewsData) → IsTextOf mode es (first ∷ []) lines text news → IsTextOf mode es [] lines (line ++ text) news
  right_first es lines text news h = lowered (LiveReplies mode) (live_counts mode) (news_shown mode.json) es 1 1 1 [] (first ∷ []) news lines line text (omega arith) told_first h

  pub lived_all : (start end : ℕ) (now : Option (List ℕ)) → HasLived files options mode words (first ∷ []) start end left mid now → HasLived files options mode words [] start end left before now
  lived_all start end now h = record {
    lines = h.lines;
    news = h.news;
    editions = h.editions;
    text = line ++ h.text;
    all = h.all;
    published = h.published;
    rose = h.rose;
    right = right_first h.editions h.lines h.text h.news h.right;
    written = appends_more before mid now line h.text w h.written;
  }

  pub lived_until : (rest now : Option (List ℕ)) (cause : LiveFault) → HasLivedUntil cause files options mode words (first ∷ []) left rest mid now → HasLivedUntil cause files options mode words [] left rest before now
  lived_until rest now cause h = record {
    lines = h.lines;
    news = h.news;
    editions = h.editions;
    text = line ++ h.text;
    count = length line + h.count;
    heard = h.heard;
    items = h.items;
    became = h.became;
    first = h.first;
    came = h.came;
    begins = h.begins;
    none = h.none;
    taken = h.taken;
    published = h.published;
    tells = h.tells;
    right = right_first h.editions h.lines h.text h.news h.right;
    whole = longer cause line h.text h.count h.whole;
    written = subst (λ t. Appends before now t) (sym (take-append-add line h.text h.count)) (appends_more before mid now line (take h.count h.text) w h.written);
  }

  pub failed_all : (rest now : Option (List ℕ)) (cause : LiveFault) → HasFailedBehind files options mode words (first ∷ []) left rest mid now cause → HasFailed files options mode words left rest before now cause
  failed_all rest now (fault.Feed f) h = absurd h
  failed_all rest now fault.ReadFault h = inr (lived_until rest now fault.ReadFault h)
  failed_all rest now fault.WriteFault h = lived_until rest now fault.WriteFault h
  failed_all rest now fault.Memory h = inr (lived_until rest now fault.Memory h)

  module _ (told : List NewsData) (one : told ≡ first ∷ []) (now : Option (List ℕ)) where
    -- behind the first news all went well
    pub lived_behind : (start end : ℕ) → HasLived files options mode words told start end left mid now → HasLived files options mode words [] start end left before now
    lived_behind start end h = lived_all start end now (subst (λ t. HasLived files options mode words t start end left mid now) one h)

    -- behind the first news the run fails
    pub failed_behind : (rest : Option (List ℕ)) (cause : LiveFault) → HasFailedBehind files options mode words told left rest mid now cause → HasFailed files options mode words left rest before now cause
    failed_behind rest cause h = failed_all rest now cause (subst (λ t. HasFailedBehind files options mode words t left rest mid now cause) one h)

    pub read_behind : (rest : Option (List ℕ)) → HasFailedBehind files options mode words told left rest mid now fault.ReadFault → HasLivedUntil fault.ReadFault files options mode words [] left rest before now
    read_behind rest h = lived_until rest now fault.ReadFault (subst (λ t. HasLivedUntil fault.ReadFault files options mode words t left rest mid now) one h)

  -- the first news were told, and then what the run behind them wrote
  pub told_first_is : {A : Type 0} (told : List NewsData) (start end : ℕ) (rest now : Option (List ℕ)) (result : Result A LiveFault) → IsFirstNews words first →
      OnOk result (HasLived files options mode words told start end left mid now) → IfErr result (HasFailedBehind files options mode words told left rest mid now) → HasToldFirst mode.json words before now
  told_first_is {A} told start end rest now result f ok err =
      let w2 = more_written result ok err in record {
        news = first;
        first = f;
        behind = w2.0;
        written = subst (λ l. Appends before now (l ++ w2.0)) is (appends_more before mid now line w2.0 w w2.1);
      } where
        until : (cause : LiveFault) → HasFailedBehind files options mode words told left rest mid now cause → (more : List ℕ) × Appends mid now more
        until (fault.Feed f) h = absurd h
        until fault.ReadFault h = (take h.count h.text, h.written)
        until fault.WriteFault h = (take h.count h.text, h.written)
        until fault.Memory h = (take h.count h.text, h.written)

        more_written : (r : Result A LiveFault) → OnOk r (HasLived files options mode words told start end left mid now) → IfErr r (HasFailedBehind files options mode words told left rest mid now) → (more : List ℕ) × Appends mid now more
        more_written (Ok x) ok err = (ok.text, ok.written)
        more_written (Err cause) ok err = until cause err

-- the first news can't fail to be told by a refused feed
pub no_feed : (line : List ℕ) (before now : Option (List ℕ)) (cause : LiveFault) (f : FeedFault) → FailsToTellFirst line before now cause → cause ≡ fault.Feed f → ⊥
no_feed line before now cause f h e = subst (λ c. FailsToTellFirst line before now c) e h

-- the news of the first item, which was published
pub first_news : (words : List ItemData) (w : ItemData) (e : EditionData) (x : NewsData) → take 1 words ≡ w ∷ [] → x ≡ record { word = w.word; became = became.Outcome (outcome_of 1 e) } → IsFirstNews words x
first_news words w e x one is = record {
  word = ap (λ l. map (λ (i : ItemData). i.word) l) one ∙ ap (λ i. i ∷ []) (sym (ap (λ (n : NewsData). n.word) is));
  edition = subst (λ b. HasAnEdition b) (sym (ap (λ (n : NewsData). n.became) is)) tt;
}

-- what fails to be told is no fault of a source
pub no_read : {A : Type 0} (line : List ℕ) (before now : Option (List ℕ)) (cause : LiveFault) (result : Result A LiveFault) (P : Type 0) → FailsToTellFirst line before now cause → result ≡ Err cause → result ≡ Err fault.ReadFault → P
no_read line before now (fault.Feed f) result P h is e = absurd h
no_read line before now fault.ReadFault result P h is e = absurd h
no_read line before now fault.WriteFault result P h is e = absurd (cc (sym is ∙ e))
no_read line before now fault.Memory result P h is e = absurd (cc (sym is ∙ e))

-- the first item's edition is published, and its news
first_published : (files : Option FileList) (options : Options) (mirrored : Bool) (words : List ItemData) (w : ItemData) (e : EditionData) (x : NewsData) →
    take 1 words ≡ w ∷ [] → x ≡ record { word = w.word; became = became.Outcome (outcome_of 1 e) } → BeginsWithFirst files options mirrored words (e ∷ []) →
    HavePublished files options mirrored (take 1 words) (x ∷ []) (e ∷ []) e
first_published files options mirrored [] w e x one is h = absurd h
first_published files options mirrored (v ∷ words) w e x one is h =
    let same : v ≡ w = cc one in
    let b : x.became ≡ became.Outcome (outcome_of 1 e) = ap (λ (n : NewsData). n.became) is in
    let first = source_first files options mirrored v.source e h in
    let word : x.word ≡ v.word = ap (λ (n : NewsData). n.word) is ∙ ap (λ (i : ItemData). i.word) (sym same) in
    record {
      outcomes = so_far_first (IsNewsOf files options mirrored) v x e (word, subst (λ c. HasBecome files options mirrored None 0 v c (e ∷ [])) (sym b) first.0) first.1;
      first = subst (λ c. HasAnEdition c) (sym b) tt;
    }

-- the first news can't be told
pub failed_first : (files : Option FileList) (options : Options) (mode : LiveMode) (words : List ItemData) (es : List EditionData) (day : EditionData) (items : List ItemData) (news : List NewsData) (side : LineSideData)
    (first : NewsData) (left rest before now : Option (List ℕ)) (cause : LiveFault) → BeginsLive files options mode words es day items news side → news ≡ first ∷ [] → rest ≡ left →
    FailsToTellFirst (news_shown mode.json first) before now cause → HasFailed files options mode words left rest before now cause
failed_first files options mode words es day items news side first left rest before now (fault.Feed f) b one same h = absurd h
failed_first files options mode words es day items news side first left rest before now fault.ReadFault b one same h = absurd h
failed_first files options mode words es day items news side first left rest before now fault.WriteFault b one same h =
    record {
      lines = [];
      news = first ∷ [];
      editions = es;
      text = news_shown mode.json first;
      count = h.0;
      heard = [];
      items = take 1 words;
      became = first ∷ [];
      first = none_first left;
      came = λ k. absurd (cc k);
      begins = b.good;
      none = inr refl;
      taken = subst (λ l. StartsWith l (take 1 words)) (sym (append-nil words)) (starts_take words 1);
      published = published_all files options mode.mirrored (take 1 words) (first ∷ []) es day (subst (λ l. HavePublished files options mode.mirrored (take 1 words) l es day) one b.published);
      tells = starts_self (first ∷ []);
      right = (first ∷ [], refl, sym (append-nil (news_shown mode.json first)));
      whole = inl refl;
      written = h.1;
    }
failed_first files options mode words es day items news side first left rest before now fault.Memory b one same h = inl (h, same)

-- what a run begins with, before its first line
pub begins_live : (files : Option FileList) (options : Options) (mode : LiveMode) (words : List ItemData) (w : ItemData) (e : EditionData) (x : NewsData) (es : List EditionData) (day : EditionData)
    (items : List ItemData) (news : List NewsData) (lanes : ℕ) (side : LineSideData) → take 1 words ≡ w ∷ [] → x ≡ record { word = w.word; became = became.Outcome (outcome_of 1 e) } →
    BeginsWithFirst files options mode.mirrored words (e ∷ []) → es ≡ e ∷ [] → day ≡ e → items ≡ w ∷ [] → news ≡ x ∷ [] → 0 < lanes →
    side ≡ before_lines mode lanes (record { list = e ∷ []; closed = false }) (w ∷ []) (x ∷ []) → BeginsLive files options mode words es day items news side
begins_live files options mode words w e x es day items news lanes side one is good es_is day_is items_is news_is some side_is =
    let published = first_published files options mode.mirrored words w e x one is good in
    record {
      one = ap length es_is;
      good = subst (λ l. BeginsWithFirst files options mode.mirrored words l) (sym es_is) good;
      published = subst (λ d. HavePublished files options mode.mirrored (take 1 words) news es d) (sym day_is)
          (subst (λ l. HavePublished files options mode.mirrored (take 1 words) l es e) (sym news_is) (subst (λ l. HavePublished files options mode.mirrored (take 1 words) (x ∷ []) l e) (sym es_is) published));
      items_are = items_is ∙ sym one;
      some = subst (λ (s : LineSideData). 0 < s.lanes) (sym side_is) some;
      mode_is = ap (λ (s : LineSideData). s.mode) side_is;
      kept_is = ap (λ (s : LineSideData). s.live.kept.list) side_is ∙ sym es_is;
      next_is = ap (λ (s : LineSideData). s.live.next) side_is;
      told_is = ap (λ (s : LineSideData). s.live.told) side_is ∙ sym news_is;
      given_is = ap (λ (s : LineSideData). s.given) side_is ∙ sym items_is;
    }

-- the first news tell of no failed read
pub first_rose : (count : ℕ) (w : List ℕ) (e : EditionData) (x : NewsData) (news : List NewsData) → x ≡ record { word = w; became = became.Outcome (outcome_of 1 e) } → news ≡ x ∷ [] → ReadFaultsRose count count news
first_rose count w e x news is news_is =
    let b : x.became ≡ became.Outcome (outcome_of 1 e) = ap (λ (n : NewsData). n.became) is in
    subst (λ l. ReadFaultsRose count count l) (sym news_is) ((λ h. absurd (cc (sym b ∙ h)), tt), inl refl)

-- the first of some things
pub take_one : {A : Type 0} (xs : List A) (x y : A) → 0 < length xs → y ≡ get_or xs 0 x → take 1 xs ≡ y ∷ []
take_one [] x y some is = absurd (omega (arith, some))
take_one (z ∷ xs) x y some is = ap (λ w. w ∷ []) (sym is)

-- nothing is taken
pub taken_none : (left : Option (List ℕ)) → (bytes : List ℕ) × Consumes left left bytes
taken_none None = ([], tt)
taken_none (Some xs) = ([], refl)
