-- The lines are all trips, each once, and along a line no time falls.
use Rattle.std.proofs.Common.{◌≡◌, ◌≢◌, ℕ, Equal, ◌<◌, ◌⊎◌, inl, inr, List, [], ◌∷◌, ◌++◌, length, fold, ◌==◌, ◌&&◌, ◌-◌, suc, not, Bool, true, false, cond, get_or, refl, sym, ap, subst, ◌∙◌, arith, ℤ}
use Rattle.std.specs.Prelude.{int_le, AllPairs, All}
use Rattle.std.specs.List.{concat}
use Rattle.std.specs.Ordering.{nat_cmp, int_cmp}
use Rattle.std.specs.Cmp.Lexicographic.{slice_cmp}
use Rattle.std.proofs.lemmas.Int.{ints}
use Rattle.std.proofs.lemmas.List.Elements.{All-contains, All-head, All-tail, All-cons, All-nil}
use Rattle.std.proofs.lemmas.Bool.{and_parts, eq-eqb, and_from}
use Rattle.tb_base.specs.declared.table.Event.{Event}
use Rattle.tb_base.specs.TimetableData.{TimetableData, events_of}
use Rattle.tb_base.specs.Lines.{may_follow, may_join, same_mark, place_trip, last_trip, times_of, TripPrecedes, AreLines, AreDividedInto}
use Rattle.tb_base.proofs.Ordered.{Member, Member-from_Contains, Contains-from_Member, AllPairs-head, AllPairs-tail}
use Rattle.tb_base.proofs.Members.{All-from_Member, AllPairs-append, AllPairs-cons, Member-left, Member-right, Member-append}
use Rattle.tb_base.proofs.Lists.{AllPairs-left, AllPairs-right}
use Rattle.tb_base.proofs.LineFacts.{MayFollow, IsEventNoLater, event_no_later}
use Rattle.tb_base.proofs.NumberFacts.{le-int_le, ≤ℤ-trans}

same_mark-true : (a b : Bool) → a ≡ b → same_mark a b ≡ true
same_mark-true true b h = sym h
same_mark-true false b h = subst (λ x. not x ≡ true) h refl

all_true : (a b c d e : Bool) → a ≡ true → b ≡ true → c ≡ true → d ≡ true → e ≡ true → (a && b && c && d && e) ≡ true
all_true a b c d e g h k l m = cc

-- who may follow the second may follow the first
may_follow-trans : (es fs gs : List Event) → may_follow es fs ≡ true → may_follow fs gs ≡ true → may_follow es gs ≡ true
may_follow-trans [] [] [] g h = refl
may_follow-trans [] [] (x ∷ xs) g h = h
may_follow-trans [] (f ∷ fs) gs g h = cc
may_follow-trans (e ∷ es) [] gs g h = cc
may_follow-trans (e ∷ es) (f ∷ fs) [] g h = h
may_follow-trans (e ∷ es) (f ∷ fs) (x ∷ xs) g h =
    let p = and_parts ((e.stop == f.stop) && same_mark e.board f.board && same_mark e.alight f.alight && int_le e.arr f.arr && int_le e.dep f.dep) (may_follow es fs) g in
    let q = and_parts ((f.stop == x.stop) && same_mark f.board x.board && same_mark f.alight x.alight && int_le f.arr x.arr && int_le f.dep x.dep) (may_follow fs xs) h in
    let a : IsEventNoLater e f = event_no_later e f p.0 in
    let b : IsEventNoLater f x = event_no_later f x q.0 in
    and_from _ (may_follow es xs)
    (all_true _ _ _ _ _ (eq-eqb _ _ (a.stop ∙ b.stop)) (same_mark-true _ _ (a.board ∙ b.board)) (same_mark-true _ _ (a.alight ∙ b.alight)) (le-int_le _ _ (≤ℤ-trans _ _ _ a.arr b.arr)) (le-int_le _ _ (≤ℤ-trans _ _ _ a.dep b.dep)))
    (may_follow-trans es fs xs p.1 q.1)

module _ (T : TimetableData) where
  last_trip-more : (u v : ℕ) (vs : List ℕ) → last_trip (u ∷ v ∷ vs) ≡ last_trip (v ∷ vs)
  last_trip-more u v vs = let e : suc (suc (length vs)) - 1 ≡ suc (suc (length vs) - 1) = omega arith in ap (λ n. get_or (u ∷ v ∷ vs) n 0) e

  -- the last trip of a line may follow each before it
  pub follows_last : (line : List ℕ) → AllPairs (MayFollow T) line → (x : ℕ) → Member x line → (x ≡ last_trip line) ⊎ MayFollow T x (last_trip line)
  follows_last [] p x h = absurd h
  follows_last (u ∷ []) p x (inl e) = inl (sym e)
  follows_last (u ∷ []) p x (inr h) = absurd h
  follows_last (u ∷ v ∷ vs) p x (inl e) =
      subst (λ w. (x ≡ w) ⊎ MayFollow T x w) (sym (last_trip-more u v vs))
      (elim (follows_last (v ∷ vs) (AllPairs-tail (MayFollow T) u (v ∷ vs) p) v (inl refl)) [
        | inl same ↦ inr (subst (λ w. MayFollow T w (last_trip (v ∷ vs))) e (subst (λ w. MayFollow T u w) same (AllPairs-head (MayFollow T) u (v ∷ vs) p v (Contains-from_Member v (v ∷ vs) (inl refl)))))
        | inr follows ↦ inr (subst (λ w. MayFollow T w (last_trip (v ∷ vs))) e (may_follow-trans _ (events_of T v) _ (AllPairs-head (MayFollow T) u (v ∷ vs) p v (Contains-from_Member v (v ∷ vs) (inl refl))) follows))
      ])
  follows_last (u ∷ v ∷ vs) p x (inr h) =
      subst (λ w. (x ≡ w) ⊎ MayFollow T x w) (sym (last_trip-more u v vs)) (follows_last (v ∷ vs) (AllPairs-tail (MayFollow T) u (v ∷ vs) p) x h)

  pub one_alone : {X : Type 0} (R : X → X → Type 0) (x : X) → AllPairs R (x ∷ [])
  one_alone R x = AllPairs-cons R x [] (λ y h. absurd h) (λ i j d before below. absurd (omega (arith, before, below)))

  -- along the line with the trip behind it no time falls
  ordered_behind : (line : List ℕ) (t : ℕ) → AllPairs (MayFollow T) line → MayFollow T (last_trip line) t → AllPairs (MayFollow T) (line ++ t ∷ [])
  ordered_behind line t p follows = AllPairs-append (MayFollow T) line (t ∷ []) p (one_alone (MayFollow T) t) (λ x y h k. last x y h k (follows_last line p x h))
    where
      last : (x y : ℕ) → Member x line → Member y (t ∷ []) → (x ≡ last_trip line) ⊎ MayFollow T x (last_trip line) → MayFollow T x y
      last x y h (inl e) (inl same) = subst (λ w. MayFollow T x w) e (subst (λ w. MayFollow T w t) (sym same) follows)
      last x y h (inl e) (inr f) = subst (λ w. MayFollow T x w) e (may_follow-trans _ (events_of T (last_trip line)) _ f follows)
      last x y h (inr k) c = absurd k

  abbrev AreOrdered : List (List ℕ) → Type 0
  AreOrdered lines = All (λ line. AllPairs (MayFollow T) line) lines

  place_trip-ordered : (lines : List (List ℕ)) (t : ℕ) → AreOrdered lines → AreOrdered (place_trip T lines t)
  place_trip-ordered [] t h = All-cons (λ line. AllPairs (MayFollow T) line) (t ∷ []) [] (one_alone (MayFollow T) t) (All-nil (λ line. AllPairs (MayFollow T) line))
  place_trip-ordered (line ∷ lines) t h = by_test (place_trip-ordered lines t rest) (may_join T line t) refl
    where
      first : AllPairs (MayFollow T) line
      first = All-head (λ line. AllPairs (MayFollow T) line) line lines h

      rest : AreOrdered lines
      rest = All-tail (λ line. AllPairs (MayFollow T) line) line lines h

      by_test : AreOrdered (place_trip T lines t) → (b : Bool) → b ≡ may_join T line t → AreOrdered (cond b ((line ++ t ∷ []) ∷ lines) (line ∷ place_trip T lines t))
      by_test more true e = All-cons (λ line. AllPairs (MayFollow T) line) (line ++ t ∷ []) lines (ordered_behind line t first (sym e)) rest
      by_test more false e = All-cons (λ line. AllPairs (MayFollow T) line) line (place_trip T lines t) first more

  -- the trips of the lines are those before, and the new one
  place_trip-member : (lines : List (List ℕ)) (t x : ℕ) → Member x (concat (place_trip T lines t)) → (t ≡ x) ⊎ Member x (concat lines)
  place_trip-member [] t x (inl e) = inl e
  place_trip-member [] t x (inr h) = absurd h
  place_trip-member (line ∷ lines) t x h = by_test (λ k. place_trip-member lines t x k) (may_join T line t) h
    where
      by_test : (Member x (concat (place_trip T lines t)) → (t ≡ x) ⊎ Member x (concat lines)) → (b : Bool) → Member x (concat (cond b ((line ++ t ∷ []) ∷ lines) (line ∷ place_trip T lines t))) → (t ≡ x) ⊎ Member x (line ++ concat lines)
      by_test more true h = elim (Member-append x (line ++ t ∷ []) (concat lines) h) [
        | inl k ↦ (elim (Member-append x line (t ∷ []) k) [ inl l ↦ inr (Member-left x line (concat lines) l) | inr l ↦ inl (only l) ])
        | inr k ↦ inr (Member-right x line (concat lines) k)
      ]
        where
          only : Member x (t ∷ []) → t ≡ x
          only (inl e) = e
          only (inr h) = absurd h
      by_test more false h = elim (Member-append x line (concat (place_trip T lines t)) h) [
        | inl k ↦ inr (Member-left x line (concat lines) k)
        | inr k ↦ (elim (more k) [ inl e ↦ inl e | inr l ↦ inr (Member-right x line (concat lines) l) ])
      ]

  place_trip-new : (lines : List (List ℕ)) (t : ℕ) → Member t (concat (place_trip T lines t))
  place_trip-new [] t = inl refl
  place_trip-new (line ∷ lines) t = by_test (place_trip-new lines t) (may_join T line t)
    where
      by_test : Member t (concat (place_trip T lines t)) → (b : Bool) → Member t (concat (cond b ((line ++ t ∷ []) ∷ lines) (line ∷ place_trip T lines t)))
      by_test more true = Member-left t (line ++ t ∷ []) (concat lines) (Member-right t line (t ∷ []) (inl refl))
      by_test more false = Member-right t line (concat (place_trip T lines t)) more

  place_trip-old : (lines : List (List ℕ)) (t x : ℕ) → Member x (concat lines) → Member x (concat (place_trip T lines t))
  place_trip-old [] t x h = absurd h
  place_trip-old (line ∷ lines) t x h = by_test (λ k. place_trip-old lines t x k) (may_join T line t) (Member-append x line (concat lines) h)
    where
      by_test : (Member x (concat lines) → Member x (concat (place_trip T lines t))) → (b : Bool) → Member x line ⊎ Member x (concat lines) → Member x (concat (cond b ((line ++ t ∷ []) ∷ lines) (line ∷ place_trip T lines t)))
      by_test more true (inl k) = Member-left x (line ++ t ∷ []) (concat lines) (Member-left x line (t ∷ []) k)
      by_test more true (inr k) = Member-right x (line ++ t ∷ []) (concat lines) k
      by_test more false (inl k) = Member-left x line (concat (place_trip T lines t)) k
      by_test more false (inr k) = Member-right x line (concat (place_trip T lines t)) (more k)

AllPairs-across : {X : Type 0} (R : X → X → Type 0) (xs ys : List X) → AllPairs R (xs ++ ys) → (x y : X) → Member x xs → Member y ys → R x y
AllPairs-across R [] ys p x y h k = absurd h
AllPairs-across R (w ∷ xs) ys p x y (inl e) k = subst (λ v. R v y) e (AllPairs-head R w (xs ++ ys) p y (Contains-from_Member y (xs ++ ys) (Member-right y xs ys k)))
AllPairs-across R (w ∷ xs) ys p x y (inr h) k = AllPairs-across R xs ys (AllPairs-tail R w (xs ++ ys) p) x y h k

abbrev AreDifferent : List ℕ → Type 0
AreDifferent xs = AllPairs (λ t u. t ≢ u) xs

module _ (T : TimetableData) where
  place_trip-once : (lines : List (List ℕ)) (t : ℕ) → ((x : ℕ) → Member x (concat lines) → x ≢ t) → AreDifferent (concat lines) → AreDifferent (concat (place_trip T lines t))
  place_trip-once [] t new p = one_alone T (λ t u. t ≢ u) t
  place_trip-once (line ∷ lines) t new p =
      by_test (place_trip-once lines t (λ x h. new x (Member-right x line (concat lines) h)) others) (may_join T line t)
    where
      own : AreDifferent line
      own = AllPairs-left (λ t u. t ≢ u) line (concat lines) p

      others : AreDifferent (concat lines)
      others = AllPairs-right (λ t u. t ≢ u) line (concat lines) p

      apart : (x y : ℕ) → Member x line → Member y (concat lines) → x ≢ y
      apart = AllPairs-across (λ t u. t ≢ u) line (concat lines) p

      only : (x : ℕ) → Member x (t ∷ []) → t ≡ x
      only x (inl e) = e
      only x (inr h) = absurd h

      by_test : AreDifferent (concat (place_trip T lines t)) → (b : Bool) → AreDifferent (concat (cond b ((line ++ t ∷ []) ∷ lines) (line ∷ place_trip T lines t)))
      by_test more true =
          AllPairs-append (λ t u. t ≢ u) (line ++ t ∷ []) (concat lines)
          (AllPairs-append (λ t u. t ≢ u) line (t ∷ []) own (one_alone T (λ t u. t ≢ u) t) (λ x y h k e. new x (Member-left x line (concat lines) h) (e ∙ sym (only y k))))
          others
          (λ x y h k e. elim (Member-append x line (t ∷ []) h) [ inl l ↦ apart x y l k e | inr l ↦ new y (Member-right y line (concat lines) k) (sym e ∙ sym (only x l)) ])
      by_test more false =
          AllPairs-append (λ t u. t ≢ u) line (concat (place_trip T lines t)) own more
          (λ x y h k e. elim (place_trip-member T lines t y k) [ inl f ↦ new x (Member-left x line (concat lines) h) (e ∙ sym f) | inr l ↦ apart x y h l e ])

  -- what holds of the lines when all trips of a list have been placed
  record ArePlaced (order : List ℕ) (before after : List (List ℕ)) : Type 0 where
    pub ordered : AreOrdered T after
    pub once : AreDifferent (concat after)
    pub old : (x : ℕ) → Member x (concat before) → Member x (concat after)
    pub new : (x : ℕ) → Member x order → Member x (concat after)
    pub known : (x : ℕ) → Member x (concat after) → Member x order ⊎ Member x (concat before)

  placed : (order : List ℕ) (lines : List (List ℕ)) → AreOrdered T lines → AreDifferent (concat lines) → AreDifferent order → ((x : ℕ) → Member x (concat lines) → Member x order → ⊥) → ArePlaced order lines (fold (place_trip T) lines order)
  placed [] lines step once different apart = record { ordered = step; once = once; old = λ x h. h; new = λ x h. absurd h; known = λ x h. inr h }
  placed (t ∷ ts) lines step once different apart = build (placed ts (place_trip T lines t) (place_trip-ordered T lines t step)
      (place_trip-once lines t (λ x h e. apart x h (inl (sym e))) once) (AllPairs-tail (λ t u. t ≢ u) t ts different)
      (λ x h k. apart_behind x (place_trip-member T lines t x h) k))
    where
      apart_behind : (x : ℕ) → (t ≡ x) ⊎ Member x (concat lines) → Member x ts → ⊥
      apart_behind x (inl e) k = AllPairs-head (λ t u. t ≢ u) t ts different x (Contains-from_Member x ts k) e
      apart_behind x (inr h) k = apart x h (inr k)

      build : ArePlaced ts (place_trip T lines t) (fold (place_trip T) (place_trip T lines t) ts) → ArePlaced (t ∷ ts) lines (fold (place_trip T) lines (t ∷ ts))
      build p = record {
        ordered = p.ordered;
        once = p.once;
        old = λ x h. p.old x (place_trip-old T lines t x h);
        new = λ x h. elim h [ inl e ↦ subst (λ y. Member y (concat (fold (place_trip T) (place_trip T lines t) ts))) e (p.old t (place_trip-new T lines t)) | inr k ↦ p.new x k ];
        known = λ x h. elim (p.known x h) [ inl k ↦ inl (inr k) | inr k ↦ (elim (place_trip-member T lines t x k) [ inl e ↦ inl (inl e) | inr l ↦ inr l ]) ];
      }

slice_cmp-same : (xs : List ℤ) → slice_cmp int_cmp xs xs ≡ Equal
slice_cmp-same [] = refl
slice_cmp-same (x ∷ xs) = rw (int_cmp-same x) (slice_cmp-same xs)
  where
    int_cmp-same : (x : ℤ) → int_cmp x x ≡ Equal
    int_cmp-same x = grind (arith, ints)

nat_cmp-same : (n : ℕ) → nat_cmp n n ≡ Equal
nat_cmp-same n = grind arith

pub earlier_differ : (T : TimetableData) (t u : ℕ) → TripPrecedes T t u → t ≢ u
earlier_differ T t u h e =
    let here : TripPrecedes T t t = subst (λ x. TripPrecedes T t x) (sym e) h in
    not_itself here
  where
    not_itself : TripPrecedes T t t → ⊥
    not_itself h = cc (slice_cmp-same (times_of (events_of T t)), nat_cmp-same t)

pub lines_divide : (T : TimetableData) (lines : List (List ℕ)) → AreLines T lines → AreDividedInto T lines
lines_divide T lines are =
    let p = placed T are.order [] (All-nil _) (λ i j d before below. absurd (omega (arith, before, below)))
    (λ i j d before below. earlier_differ T _ _ (are.in_order.ordered i j d before below)) (λ x h k. h) in
    subst (λ ls. AreDividedInto T ls) (sym are.placed) (record {
      trips = All-from_Member (λ t. t < length T.trips) (concat (fold (place_trip T) [] are.order)) (λ x h. elim (p.known x h) [ inl k ↦ All-contains (λ t. t < length T.trips) are.order x are.in_order.trips (Contains-from_Member x are.order k) | inr k ↦ absurd k ]);
      complete = λ t inside. Contains-from_Member t (concat (fold (place_trip T) [] are.order)) (p.new t (Member-from_Contains t are.order (are.in_order.complete t inside)));
      once = p.once;
      ordered = p.ordered;
    })
