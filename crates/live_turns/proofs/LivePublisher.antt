-- What a publisher has taken grows by one item.
use Rattle.std.proofs.Common.{◌≡◌, ◌⊎◌, inl, inr, ℕ, ◌+◌, ◌<◌, ◌≤◌, List, [], ◌∷◌, ◌++◌, drop, take, length, refl, sym, ap, subst, ◌∙◌, Bool, Option, Some, Result, Ok, Err, append_assoc, arith}
use Rattle.std.specs.Prelude.{IfErr, IfOk, OnOk}
use Rattle.std.proofs.lemmas.List.{append-nil, length-append, take-append-drop}
use Rattle.tb_base.specs.declared.memory.Memory.{Memory}
use Rattle.tb_io.specs.Causes.{Rose}
use Rattle.tb_io.specs.Files.{FileList}
use Rattle.footpaths.specs.declared.paths.Options.{Options}
use Rattle.edition_store.specs.Editions.{EditionData}
use Rattle.history.specs.Lists.{StartsWith}
use Rattle.history.proofs.Lists.{starts_more, starts_self, starts_trans}
use Rattle.live_turns.specs.declared.live.news.Became.{Became}
use Rattle.live_turns.specs.declared.live.news.Became.TheVariants as became
use Rattle.live_turns.specs.Live.{ArePublished, BeginsWithEdition, HasBecome, HasUnread, IsNewsOf, ReadFaultsRose, UnreadRose}
use Rattle.live_turns.specs.LivePublisher.{ArePublishedSoFar, HavePublished, IsNextItem, StopsAt, TakesItem, items_taken}
use Rattle.live_turns.specs.LiveTexts.{NewsData}
use Rattle.edition_build.specs.Plans.{AreSoFar, HasOutcome, ItemData, day_after}
use Rattle.edition_build.specs.declared.plan.ItemSource.{ItemSource}
use Rattle.edition_build.specs.declared.plan.ItemSource.TheVariants as source
use Rattle.edition_build.specs.declared.plan.Outcome.{Outcome}
use Rattle.edition_build.proofs.Told.{so_far_all, so_far_more}

still_begins : (ns more : List NewsData) → BeginsWithEdition ns → BeginsWithEdition (ns ++ more)
still_begins [] more h = absurd h
still_begins (x ∷ ns) more h = h

-- the items that were taken, with one more
pub published_more : (files now : Option FileList) (options : Options) (mirrored : Bool) (items more : List ItemData) (item : ItemData) (before after : ℕ) (es gone : List EditionData) (day next : EditionData)
    (told news : List NewsData) → now ≡ files → more ≡ items ++ item ∷ [] → HavePublished files options mirrored items told es day →
    TakesItem now options mirrored item before after es gone day next told news → HavePublished files options mirrored more news gone next
published_more files now options mirrored items more item before after es gone day next told news same is h t =
    let b = t.0 in
    let added = t.1.0 in
    let x : NewsData = record { word = item.word; became = b } in
    let Tells = IsNewsOf files options mirrored in
    let one = subst (λ f. HasBecome f options mirrored (Some day) (length es) item b added) same t.1.2 in
    let grown = so_far_more Tells items told es day item x added next h.outcomes (refl, one) t.1.3 in
    record {
      outcomes = subst (λ l. AreSoFar Tells l news gone next) (sym is)
          (subst (λ l. AreSoFar Tells (items ++ item ∷ []) l gone next) (sym t.2)
          (subst (λ l. AreSoFar Tells (items ++ item ∷ []) (told ++ x ∷ []) l next) (sym t.1.1) grown));
      first = subst (λ l. BeginsWithEdition l) (sym t.2) (still_begins told (x ∷ []) h.first);
    }

-- no more items
pub published_all : (files : Option FileList) (options : Options) (mirrored : Bool) (items : List ItemData) (news : List NewsData) (es : List EditionData) (day : EditionData) →
    HavePublished files options mirrored items news es day → ArePublished files options mirrored items news es
published_all files options mirrored items news es day h = record {
  outcomes = so_far_all (IsNewsOf files options mirrored) items news es day h.outcomes;
  first = h.first;
}

told_behind : (told news : List NewsData) (x : NewsData) → (news ≡ told) ⊎ (news ≡ told ++ x ∷ []) → StartsWith (told ++ x ∷ []) news
told_behind told news x (inl e) = subst (λ l. StartsWith (told ++ x ∷ []) l) (sym e) (starts_more told (x ∷ []))
told_behind told news x (inr e) = subst (λ l. StartsWith (told ++ x ∷ []) l) (sym e) (starts_self (told ++ x ∷ []))

-- an item is not taken to its end: the editions are those of the items before it, or with it
pub stops_at : (files now : Option FileList) (options : Options) (mirrored : Bool) (all items : List ItemData) (item : ItemData) (es gone : List EditionData) (day : EditionData) (told news : List NewsData) → now ≡ files →
    StartsWith all (items ++ item ∷ []) → HavePublished files options mirrored items told es day → StopsAt now options mirrored item es gone day told news →
    ArePublishedSoFar files options mirrored all news gone
stops_at files now options mirrored all items item es gone day told news same s h (inl t) = record {
  items = items;
  news = told;
  first = starts_trans items (items ++ item ∷ []) all s (starts_more items (item ∷ []));
  tells = subst (λ l. StartsWith told l) (sym t.1) (starts_self told);
  published = subst (λ l. ArePublished files options mirrored items told l) (sym t.0) (published_all files options mirrored items told es day h);
}
stops_at files now options mirrored all items item es gone day told news same s h (inr t) =
    let x : NewsData = record { word = item.word; became = t.0 } in
    let added = t.1 in
    let one = subst (λ f. HasBecome f options mirrored (Some day) (length es) item t.0 added) same t.3 in
    let published : ArePublished files options mirrored (items ++ item ∷ []) (told ++ x ∷ []) (es ++ added) = record {
      outcomes = h.outcomes (item ∷ []) (x ∷ []) added (added, [], sym (append-nil added), (refl, one), refl);
      first = still_begins told (x ∷ []) h.first;
    } in
    record {
      items = items ++ item ∷ [];
      news = told ++ x ∷ [];
      first = s;
      tells = told_behind told news x t.4;
      published = subst (λ l. ArePublished files options mirrored (items ++ item ∷ []) (told ++ x ∷ []) l) (sym t.2) published;
    }

-- all items so far were taken to their ends
pub so_far_here : (files : Option FileList) (options : Options) (mirrored : Bool) (all items : List ItemData) (news : List NewsData) (es : List EditionData) (day : EditionData) → all ≡ items →
    HavePublished files options mirrored items news es day → ArePublishedSoFar files options mirrored all news es
so_far_here files options mirrored all items news es day same h = record {
  items = items;
  news = news;
  first = subst (λ l. StartsWith l items) (sym same) (starts_self items);
  tells = starts_self news;
  published = published_all files options mirrored items news es day h;
}

-- these and further items are first ones of more
pub starts_take : (xs : List ItemData) (n : ℕ) → StartsWith xs (take n xs)
starts_take xs n = subst (λ l. StartsWith l (take n xs)) (take-append-drop n xs) (starts_more (take n xs) (drop n xs))

rose_longer : (start before after : ℕ) → Rose start before → before ≤ after → Rose start after
rose_longer start before after r le = omega (arith, r, le)

rose_later : (start before after : ℕ) (news : List NewsData) → before ≤ after → UnreadRose start before news → UnreadRose start after news
rose_later start before after [] le h = tt
rose_later start before after (x ∷ news) le h = (λ e. rose_longer start before after (h.0 e) le, rose_later start before after news le h.1)

rose_snoc : (start after : ℕ) (news : List NewsData) (x : NewsData) → UnreadRose start after news → (x.became ≡ became.ReadFault → Rose start after) → UnreadRose start after (news ++ x ∷ [])
rose_snoc start after [] x h r = (r, tt)
rose_snoc start after (y ∷ news) x h r = (h.0, rose_snoc start after news x h.1 r)

rose_earlier : (start before after : ℕ) → start ≤ before → Rose before after → Rose start after
rose_earlier start before after le r = omega (arith, le, r)

unread_more : (news : List NewsData) (x : NewsData) → HasUnread news → HasUnread (news ++ x ∷ [])
unread_more [] x h = absurd h
unread_more (y ∷ news) x (inl h) = inl h
unread_more (y ∷ news) x (inr h) = inr (unread_more news x h)

unread_last : (news : List NewsData) (x : NewsData) → x.became ≡ became.ReadFault → HasUnread (news ++ x ∷ [])
unread_last [] x h = inl h
unread_last (y ∷ news) x h = inr (unread_last news x h)

kept_snoc : (start before after : ℕ) (news : List NewsData) (x : NewsData) → (before ≡ start) ⊎ HasUnread news → (x.became ≡ became.ReadFault) ⊎ (after ≡ before) → (after ≡ start) ⊎ HasUnread (news ++ x ∷ [])
kept_snoc start before after news x h (inl r) = inr (unread_last news x r)
kept_snoc start before after news x (inl same) (inr e) = inl (e ∙ same)
kept_snoc start before after news x (inr u) (inr e) = inr (unread_more news x u)

-- a folder's count that rose behind one item rose over all of them
pub rose_more : (start before after : ℕ) (files : Option FileList) (options : Options) (mirrored : Bool) (item : ItemData) (es gone : List EditionData) (day next : EditionData) (told news : List NewsData) →
    start ≤ before → before ≤ after → ReadFaultsRose start before told → TakesItem files options mirrored item before after es gone day next told news → ReadFaultsRose start after news
rose_more start before after files options mirrored item es gone day next told news low le h t =
    let x : NewsData = record { word = item.word; became = t.0 } in
    rw t.2 (rose_snoc start after told x (rose_later start before after told le h.0) (λ e. rose_earlier start before after low (t.1.4 e)), kept_snoc start before after told x h.1 t.1.5)

-- one more item was handed over
pub handed_more : (words old new : List ItemData) (item : ItemData) → 0 < length old → new ≡ old ++ item ∷ [] → items_taken words new ≡ items_taken words old ++ item ∷ []
handed_more words [] new item some is = absurd (omega arith)
handed_more words (o ∷ old) new item some is = ap (λ l. words ++ drop 1 l) is ∙ sym (append_assoc words old (item ∷ []))

pub handed_some : (old new : List ItemData) (item : ItemData) → new ≡ old ++ item ∷ [] → 0 < length new
handed_some old new item is = rw is (omega (arith, length-append old (item ∷ [])))

-- nothing was handed over yet
pub handed_none : (words handed : List ItemData) → length handed ≡ 1 → items_taken words handed ≡ words
handed_none words [] one = absurd (omega arith)
handed_none words (x ∷ []) one = append-nil words
handed_none words (x ∷ y ∷ rest) one = absurd (omega arith)

-- an item without an edition leaves the last day as it is
day_stays : (day : EditionData) (s : ItemSource) → day_after (Some day) s [] ≡ Some day
day_stays day (source.Day d) = refl
day_stays day (source.Late path) = refl

-- an item has an outcome
pub next_found : (files : Option FileList) (options : Options) (mirrored : Bool) (item : ItemData) (before after n : ℕ) (es gone : List EditionData) (day next : EditionData) (o : Outcome) (added : List EditionData) →
    n ≡ length es → HasOutcome files options mirrored (Some day) n item o added → gone ≡ es ++ added → day_after (Some day) item.source added ≡ Some next → after ≡ before →
    IsNextItem files options mirrored item before after es gone day next (became.Outcome o)
next_found files options mirrored item before after n es gone day next o added count h more then same =
    (added, more, subst (λ m. HasOutcome files options mirrored (Some day) m item o added) count h, then, λ k. absurd (cc k), inr same)

-- an item has an outcome, and its edition may have been published
pub stops_found : (files : Option FileList) (options : Options) (mirrored : Bool) (item : ItemData) (n : ℕ) (es gone : List EditionData) (day : EditionData) (o : Outcome) (added : List EditionData) →
    n ≡ length es → HasOutcome files options mirrored (Some day) n item o added → (gone ≡ es) ⊎ (gone ≡ es ++ added) → StopsAt files options mirrored item es gone day [] []
stops_found files options mirrored item n es gone day o added count h (inl e) = inl (e, refl)
stops_found files options mirrored item n es gone day o added count h (inr e) = inr (became.Outcome o, added, e, subst (λ m. HasOutcome files options mirrored (Some day) m item o added) count h, inl refl)

-- nothing is told of an item that is not taken to its end
pub stops_untold : (files : Option FileList) (options : Options) (mirrored : Bool) (item : ItemData) (es gone : List EditionData) (day : EditionData) (told news : List NewsData) →
    StopsAt files options mirrored item es gone day [] [] → news ≡ told → StopsAt files options mirrored item es gone day told news
stops_untold files options mirrored item es gone day told news (inl t) same = inl (t.0, same)
stops_untold files options mirrored item es gone day told news (inr t) same = inr (t.0, t.1, t.2, t.3, inl same)

-- the news of an item may not have been given
pub stops_told : (files : Option FileList) (options : Options) (mirrored : Bool) (item : ItemData) (before after : ℕ) (es gone : List EditionData) (day next : EditionData) (told news : List NewsData) (b : Became) →
    IsNextItem files options mirrored item before after es gone day next b → (news ≡ told) ⊎ (news ≡ told ++ record { word = item.word; became = b } ∷ []) → StopsAt files options mirrored item es gone day told news
stops_told files options mirrored item before after es gone day next told news b t n = inr (b, t.0, t.1, t.2, n)

-- an item could not be read
pub next_unread : (files : Option FileList) (options : Options) (mirrored : Bool) (item : ItemData) (before after : ℕ) (es : List EditionData) (day : EditionData) → Rose before after →
    IsNextItem files options mirrored item before after es es day day became.ReadFault
next_unread files options mirrored item before after es day rose = ([], sym (append-nil es), refl, day_stays day item.source, λ k. rose, inl refl)

-- there was no memory for an item
pub next_unmade : (files : Option FileList) (options : Options) (mirrored : Bool) (item : ItemData) (before after : ℕ) (es : List EditionData) (day : EditionData) → after ≡ before →
    IsNextItem files options mirrored item before after es es day day became.Memory
next_unmade files options mirrored item before after es day same = ([], sym (append-nil es), refl, day_stays day item.source, λ k. absurd (cc k), inr same)

pub where_ok : {T E : Type 0} (result : Result T E) (A B : Type 0) → (A → B) → OnOk result A → OnOk result B
where_ok (Ok t) A B f h = f h
where_ok (Err e) A B f h = tt

pub where_err : {T E : Type 0} (result : Result T E) (P : Type 0) → P → IfErr result (λ _. P)
where_err (Ok t) P h = tt
where_err (Err e) P h = h
