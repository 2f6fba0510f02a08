-- Lines of some patterns are placed as if there were no others.
use Rattle.std.proofs.Common.{◌≡◌, ◌∙◌, sym, ap, subst, refl, ℕ, ◌⊎◌, inl, inr, Bool, true, false, cond, List, [], ◌∷◌, ◌++◌, filter, fold, map, get_or}
use Rattle.std.specs.Prelude.{All, AllPairs}
use Rattle.std.proofs.lemmas.List.{get_or_append_left}
use Rattle.std.proofs.lemmas.List.Elements.{All-cons, All-head, All-nil, All-tail}
use Rattle.tb_base.specs.TimetableData.{TimetableData, events_of}
use Rattle.tb_base.specs.Lines.{last_trip, may_follow, may_join, place_trip}
use Rattle.tb_base.proofs.Ordered.{Contains-from_Member, Member, AllPairs-head, AllPairs-tail}
use Rattle.tb_base.proofs.Members.{AllPairs-append, Member-append}
use Rattle.line_split.proofs.CallTotals.{IsNonempty, place_nonempty}
use Rattle.line_split.proofs.LineLaws.{one_alone}
use Rattle.line_split.proofs.Placing.{last_trip-push}

-- ---- by a test that tells two trips apart only if neither may follow the other

module _ (T : TimetableData) (p : ℕ → Bool) (closed : (t u : ℕ) → may_follow (events_of T t) (events_of T u) ≡ true → p t ≡ p u) where
  abbrev passes : List ℕ → Bool
  passes line = p (last_trip line)

  filter_placed : (lines : List (List ℕ)) (t : ℕ) → filter passes (place_trip T lines t) ≡ cond (p t) (place_trip T (filter passes lines) t) (filter passes lines)
  filter_placed [] t = ap (λ b. cond b ((t ∷ []) ∷ []) []) (ap p (last_trip-push [] t))
  filter_placed (line ∷ lines) t = by_test (filter_placed lines t) (may_join T line t) refl (passes line) refl (p t) refl
    where
      last : p (last_trip (line ++ t ∷ [])) ≡ p t
      last = ap p (last_trip-push line t)

      by_test : filter passes (place_trip T lines t) ≡ cond (p t) (place_trip T (filter passes lines) t) (filter passes lines) → (b : Bool) → b ≡ may_join T line t → (c : Bool) → c ≡ passes line → (d : Bool) → d ≡ p t
          → filter passes (cond b ((line ++ t ∷ []) ∷ lines) (line ∷ place_trip T lines t)) ≡ cond d (place_trip T (cond c (line ∷ (filter passes lines)) (filter passes lines)) t) (cond c (line ∷ (filter passes lines)) (filter passes lines))
      by_test ih true eb true ec true ed =
          ap (λ x. cond x ((line ++ t ∷ []) ∷ (filter passes lines)) (filter passes lines)) (last ∙ sym ed) ∙ sym (ap (λ x. cond x ((line ++ t ∷ []) ∷ (filter passes lines)) (line ∷ place_trip T (filter passes lines) t)) (sym eb))
      by_test ih true eb true ec false ed = let same = closed (last_trip line) t (sym eb) in cc
      by_test ih true eb false ec true ed = let same = closed (last_trip line) t (sym eb) in cc
      by_test ih true eb false ec false ed = ap (λ x. cond x ((line ++ t ∷ []) ∷ (filter passes lines)) (filter passes lines)) (last ∙ sym ed)
      by_test ih false eb true ec true ed =
          ap (λ x. cond x (line ∷ filter passes (place_trip T lines t)) (filter passes (place_trip T lines t))) (sym ec)
          ∙ ap (λ (ls : List (List ℕ)). line ∷ ls) (ih ∙ ap (λ x. cond x (place_trip T (filter passes lines) t) (filter passes lines)) (sym ed))
          ∙ sym (ap (λ x. cond x ((line ++ t ∷ []) ∷ (filter passes lines)) (line ∷ place_trip T (filter passes lines) t)) (sym eb))
      by_test ih false eb true ec false ed =
          ap (λ x. cond x (line ∷ filter passes (place_trip T lines t)) (filter passes (place_trip T lines t))) (sym ec)
          ∙ ap (λ (ls : List (List ℕ)). line ∷ ls) (ih ∙ ap (λ x. cond x (place_trip T (filter passes lines) t) (filter passes lines)) (sym ed))
      by_test ih false eb false ec true ed =
          ap (λ x. cond x (line ∷ filter passes (place_trip T lines t)) (filter passes (place_trip T lines t))) (sym ec)
          ∙ ih ∙ ap (λ x. cond x (place_trip T (filter passes lines) t) (filter passes lines)) (sym ed)
      by_test ih false eb false ec false ed =
          ap (λ x. cond x (line ∷ filter passes (place_trip T lines t)) (filter passes (place_trip T lines t))) (sym ec)
          ∙ ih ∙ ap (λ x. cond x (place_trip T (filter passes lines) t) (filter passes lines)) (sym ed)

  pub filter_fold : (order : List ℕ) (lines : List (List ℕ)) → filter (λ line. p (last_trip line)) (fold (place_trip T) lines order) ≡ fold (place_trip T) (filter (λ line. p (last_trip line)) lines) (filter p order)
  filter_fold [] lines = refl
  filter_fold (t ∷ ts) lines = filter_fold ts (place_trip T lines t) ∙ ap (λ ls. fold (place_trip T) ls (filter p ts)) (filter_placed lines t) ∙ by_test (p t)
    where
      by_test : (b : Bool) → fold (place_trip T) (cond b (place_trip T (filter passes lines) t) (filter passes lines)) (filter p ts) ≡ fold (place_trip T) (filter passes lines) (cond b (t ∷ filter p ts) (filter p ts))
      by_test true = refl
      by_test false = refl

-- ---- in a timetable in which these trips have the same events

module _ (T U : TimetableData) where
  abbrev IsSame : ℕ → Type 0
  IsSame t = events_of T t ≡ events_of U t

  same_placed : (lines : List (List ℕ)) (t : ℕ) → All (λ line. IsSame (last_trip line)) lines → IsSame t → place_trip T lines t ≡ place_trip U lines t
  same_placed [] t all same = refl
  same_placed (line ∷ lines) t all same =
      let last = All-head (λ line. IsSame (last_trip line)) line lines all in
      let rest = same_placed lines t (All-tail (λ line. IsSame (last_trip line)) line lines all) same in
      λ i. cond (may_follow (last i) (same i)) ((line ++ t ∷ []) ∷ lines) (line ∷ rest i)

  same_last : (lines : List (List ℕ)) (t : ℕ) → All (λ line. IsSame (last_trip line)) lines → IsSame t → All (λ line. IsSame (last_trip line)) (place_trip T lines t)
  same_last [] t all same = All-cons (λ line. IsSame (last_trip line)) (t ∷ []) [] (subst_last [] t same) (All-nil (λ line. IsSame (last_trip line)))
    where
      subst_last : (line : List ℕ) (t : ℕ) → IsSame t → IsSame (last_trip (line ++ t ∷ []))
      subst_last line t same = rw (last_trip-push line t) same
  same_last (line ∷ lines) t all same = by_test (same_last lines t rest same) (may_join T line t)
    where
      rest : All (λ line. IsSame (last_trip line)) lines
      rest = All-tail (λ line. IsSame (last_trip line)) line lines all

      more : IsSame (last_trip (line ++ t ∷ []))
      more = rw (last_trip-push line t) same

      by_test : All (λ line. IsSame (last_trip line)) (place_trip T lines t) → (b : Bool) → All (λ line. IsSame (last_trip line)) (cond b ((line ++ t ∷ []) ∷ lines) (line ∷ place_trip T lines t))
      by_test ih true = All-cons (λ line. IsSame (last_trip line)) (line ++ t ∷ []) lines more rest
      by_test ih false = All-cons (λ line. IsSame (last_trip line)) line (place_trip T lines t) (All-head (λ line. IsSame (last_trip line)) line lines all) ih

  pub same_fold : (order : List ℕ) (lines : List (List ℕ)) → All (λ line. events_of T (last_trip line) ≡ events_of U (last_trip line)) lines → ((t : ℕ) → Member t order → events_of T t ≡ events_of U t) → fold (place_trip T) lines order ≡ fold (place_trip U) lines order
  same_fold [] lines all same = refl
  same_fold (t ∷ ts) lines all same =
      same_fold ts (place_trip T lines t) (same_last lines t all (same t (inl refl))) (λ u m. same u (inr m))
      ∙ ap (λ ls. fold (place_trip U) ls ts) (same_placed lines t all (same t (inl refl)))

-- ---- lines stand in the order of their first trips

abbrev pub first_trip : List ℕ → ℕ
first_trip line = get_or line 0 0

module _ (T : TimetableData) where
  place_first : (lines : List (List ℕ)) (t : ℕ) → All IsNonempty lines → (map first_trip (place_trip T lines t) ≡ map first_trip lines) ⊎ (map first_trip (place_trip T lines t) ≡ map first_trip lines ++ t ∷ [])
  place_first [] t all = inr refl
  place_first (line ∷ lines) t all = by_test (place_first lines t (All-tail IsNonempty line lines all)) (may_join T line t)
    where
      by_test : (map first_trip (place_trip T lines t) ≡ map first_trip lines) ⊎ (map first_trip (place_trip T lines t) ≡ map first_trip lines ++ t ∷ []) → (b : Bool)
          → (map first_trip (cond b ((line ++ t ∷ []) ∷ lines) (line ∷ place_trip T lines t)) ≡ first_trip line ∷ map first_trip lines)
          ⊎ (map first_trip (cond b ((line ++ t ∷ []) ∷ lines) (line ∷ place_trip T lines t)) ≡ first_trip line ∷ (map first_trip lines ++ t ∷ []))
      by_test ih true = inl (ap (λ (u : ℕ). u ∷ map first_trip lines) (get_or_append_left line (t ∷ []) 0 0 (All-head IsNonempty line lines all)))
      by_test (inl e) false = inl (ap (λ (us : List ℕ). first_trip line ∷ us) e)
      by_test (inr e) false = inr (ap (λ (us : List ℕ). first_trip line ∷ us) e)

  module _ (R : ℕ → ℕ → Type 0) where
    pub firsts_ordered : (order : List ℕ) (lines : List (List ℕ)) → All IsNonempty lines → AllPairs R order → AllPairs R (map first_trip lines) → ((x y : ℕ) → Member x (map first_trip lines) → Member y order → R x y) → AllPairs R (map first_trip (fold (place_trip T) lines order))
    firsts_ordered [] lines all up firsts across = firsts
    firsts_ordered (t ∷ ts) lines all up firsts across =
        by_case (firsts_ordered ts (place_trip T lines t) (place_nonempty T lines t all) (AllPairs-tail R t ts up)) (place_first lines t all)
      where
        only : (x y : ℕ) → Member x (map first_trip lines) → Member y (t ∷ []) → R x y
        only x y m (inl same) = subst (λ z. R x z) same (across x t m (inl refl))
        only x y m (inr k) = absurd k

        behind : (x y : ℕ) → Member x (map first_trip lines) ⊎ Member x (t ∷ []) → Member y ts → R x y
        behind x y (inl m) k = across x y m (inr k)
        behind x y (inr (inl same)) k = subst (λ z. R z y) same (AllPairs-head R t ts up y (Contains-from_Member y ts k))
        behind x y (inr (inr m)) k = absurd m

        by_case : (AllPairs R (map first_trip (place_trip T lines t)) → ((x y : ℕ) → Member x (map first_trip (place_trip T lines t)) → Member y ts → R x y) → AllPairs R (map first_trip (fold (place_trip T) (place_trip T lines t) ts)))
            → (map first_trip (place_trip T lines t) ≡ map first_trip lines) ⊎ (map first_trip (place_trip T lines t) ≡ map first_trip lines ++ t ∷ []) → AllPairs R (map first_trip (fold (place_trip T) (place_trip T lines t) ts))
        by_case next (inl e) = next (subst (AllPairs R) (sym e) firsts) (λ x y m k. across x y (subst (Member x) e m) (inr k))
        by_case next (inr e) =
            next
            (subst (AllPairs R) (sym e) (AllPairs-append R (map first_trip lines) (t ∷ []) firsts (one_alone T R t) only))
            (λ x y m k. behind x y (Member-append x (map first_trip lines) (t ∷ []) (subst (Member x) e m)) k)
