-- Footpaths looked at, one after another.
use Rattle.std.proofs.Common.{◌≡◌, ◌≢◌, ◌∙◌, sym, ap, subst, refl, ℕ, ◌+◌, ◌*◌, ◌<◌, ◌≤◌, ◌⊎◌, List, [], ◌∷◌, ◌++◌, length, get_or, set, take, true, false, cond, Option, Some, None, arith, inl, inr}
use Rattle.std.specs.Prelude.{◌==◌, IsSomeAnd, Contains, is_some, sum_by, All}
use Rattle.std.proofs.lemmas.Bool.{cases_Bool}
use Rattle.std.proofs.lemmas.Bool.Decides.{nat_tests}
use Rattle.std.proofs.lemmas.List.{length-set, get_or-set_same, get_or-set_other, append_assoc, append-nil, length-append, take_more, get_or_default}
use Rattle.std.proofs.lemmas.List.Elements.{All-push, Contains-append_left, Contains-append_right, Contains-append_cases}
use Rattle.std.proofs.lemmas.List.Sums.{sum_by-set, count_by-le-length}
use Rattle.tb_base.specs.declared.table.Path.{Path}
use Rattle.tb_base.proofs.Ordered.{Member-from_Contains, Contains-from_Member}
use Rattle.foot_close.specs.declared.search.Reached.{Reached}
use Rattle.foot_close.specs.Searching.{SearchData, mark, is_less, reached_count, IsBounded, mark_height, height, IsRelaxed, IsCovered}

-- at most so many seconds
abbrev pub AtMost : Option ℕ → ℕ → Type 0
AtMost o s = IsSomeAnd o (λ u. u ≤ s)

pub weaker : (o : Option ℕ) (s t : ℕ) → AtMost o s → s ≤ t → AtMost o t
weaker None s t h le = absurd h
weaker (Some a) s t h le = omega (arith, h)

same_most : (o : Option ℕ) (t : ℕ) → o ≡ Some t → AtMost o t
same_most o t e = rw e (let r : t ≤ t = omega arith in r)

-- a mark that fell stays at most what was there
pub lowers_most : (old new : List (Option ℕ)) (q s : ℕ) → ((q t : ℕ) → mark old q ≡ Some t → AtMost (mark new q) t) → AtMost (mark old q) s → AtMost (mark new q) s
lowers_most old new q s lowers h = by_mark (mark old q) refl h
  where
    by_mark : (o : Option ℕ) → mark old q ≡ o → AtMost o s → AtMost (mark new q) s
    by_mark None e k = absurd k
    by_mark (Some t) e k = weaker (mark new q) t s (lowers q t e) k

one_only : (f g : Path) → Contains (f ∷ []) g → f ≡ g
one_only f g h = elim (Member-from_Contains g (f ∷ []) h) [ inl e ↦ e | inr n ↦ absurd n ]

one_inside : {X : Type 0} (x : X) → Contains (x ∷ []) x
one_inside x = Contains-from_Member x (x ∷ []) (inl refl)

-- two rows, one after the other
pub relaxed_both : (first second : List Path) (secs : ℕ) (old mid new : SearchData) → IsRelaxed first secs old mid → IsRelaxed second secs mid new → IsRelaxed (first ++ second) secs old new
relaxed_both first second secs old mid new h k = record {
  many = k.many ∙ h.many;
  more = h.more ++ k.more;
  grows = k.grows ∙ ap (λ (ls : List Reached). ls ++ k.more) h.grows ∙ append_assoc old.waiting h.more k.more;
  lowers = λ q t e. lowers_most mid.marks new.marks q t k.lowers (h.lowers q t e);
  each = λ q t e. elim (k.each q t e) [
    | inl m ↦ elim (h.each q t m) [
      | inl o ↦ inl o
      | inr o ↦ inr (record { among = Contains-append_left h.more k.more (record { stop = q; secs = t }) o.among; path = o.path; inside = Contains-append_left first second o.path o.inside; to = o.to; total = o.total })
    ]
    | inr m ↦ inr (record { among = Contains-append_right h.more k.more (record { stop = q; secs = t }) m.among; path = m.path; inside = Contains-append_right first second m.path m.inside; to = m.to; total = m.total })
  ];
  relaxed = λ f i. elim (Contains-append_cases first second f i) [
    | inl l ↦ lowers_most mid.marks new.marks f.to (secs + f.secs) k.lowers (h.relaxed f l)
    | inr r ↦ k.relaxed f r
  ];
  bounded = k.bounded;
  count = omega (arith, h.count, k.count);
  cost = omega (arith, h.cost, k.cost, length-append h.more k.more);
}

-- a mark that isn't higher than what a footpath leads to
pub relaxed_kept : (s : SearchData) (f : Path) (secs : ℕ) → IsBounded s.marks → is_less (secs + f.secs) (mark s.marks f.to) ≡ false → IsRelaxed (f ∷ []) secs s s
relaxed_kept s f secs bounded e = record {
  many = refl;
  more = [];
  grows = sym (append-nil s.waiting);
  lowers = λ q t e. same_most (mark s.marks q) t e;
  each = λ q t e. inl e;
  relaxed = λ g h. subst (λ (g : Path). AtMost (mark s.marks g.to) (secs + g.secs)) (one_only f g h) (held (mark s.marks f.to) e);
  bounded = bounded;
  count = omega arith;
  cost = omega arith;
}
  where
    held : (o : Option ℕ) → is_less (secs + f.secs) o ≡ false → AtMost o (secs + f.secs)
    held None e = absurd (let c : true ≡ false = e in cc)
    held (Some t) e = grind (arith, nat_tests, e)

-- how many stops are reached where one more may be
count_set : (marks : List (Option ℕ)) (q s : ℕ) (o : Option ℕ) → q < length marks → mark marks q ≡ o → (reached_count marks ≤ reached_count (set marks q (Some s))) × (reached_count (set marks q (Some s)) + cond (is_some o) 1 0 ≡ reached_count marks + 1)
count_set marks q s o below e =
    let sums = sum_by-set (λ o. cond (is_some o) 1 0) marks q (Some s) None below in
    let at = rw e at sums in
    by_mark o at
  where
    by_mark : (o : Option ℕ) → reached_count (set marks q (Some s)) + cond (is_some o) 1 0 ≡ reached_count marks + 1 → (reached_count marks ≤ reached_count (set marks q (Some s))) × (reached_count (set marks q (Some s)) + cond (is_some o) 1 0 ≡ reached_count marks + 1)
    by_mark None h = (omega (arith, h), h)
    by_mark (Some t) h = (omega (arith, h), h)

-- a mark that falls
pub relaxed_lower : (s : SearchData) (ls : List ℕ) (f : Path) (secs : ℕ) → f.to < length s.marks → f.secs ≤ 86400 → IsBounded s.marks → secs ≤ 86400 * reached_count s.marks → is_less (secs + f.secs) (mark s.marks f.to) ≡ true
    → IsRelaxed (f ∷ []) secs s (record { marks = set s.marks f.to (Some (secs + f.secs)); lowered = ls; waiting = s.waiting ++ record { stop = f.to; secs = secs + f.secs } ∷ [] })
relaxed_lower s ls f secs below day bounded few less = by_mark (mark s.marks f.to) refl less
  where
    new : List (Option ℕ)
    new = set s.marks f.to (Some (secs + f.secs))

    here : mark new f.to ≡ Some (secs + f.secs)
    here = get_or-set_same s.marks f.to (Some (secs + f.secs)) None below

    there : (q : ℕ) → (q ≡ f.to) ⊎ (mark new q ≡ mark s.marks q)
    there q = elim (cases_Bool (q == f.to)) [
      | inl t ↦ (let e : q ≡ f.to = grind (arith, nat_tests, t) in inl e)
      | inr n ↦ (let other : q ≢ f.to = (λ e. let t : (q == f.to) ≡ true = grind (arith, nat_tests, e) in let c : false ≡ true = sym n ∙ t in cc) in inr (get_or-set_other s.marks f.to q (Some (secs + f.secs)) None other))
    ]

    by_mark : (o : Option ℕ) → mark s.marks f.to ≡ o → is_less (secs + f.secs) o ≡ true → IsRelaxed (f ∷ []) secs s (record { marks = set s.marks f.to (Some (secs + f.secs)); lowered = ls; waiting = s.waiting ++ record { stop = f.to; secs = secs + f.secs } ∷ [] })
    by_mark o e l =
        let counts = count_set s.marks f.to (secs + f.secs) o below e in
        let heights = rw e at (sum_by-set (mark_height (86400 * length s.marks + 1)) s.marks f.to (Some (secs + f.secs)) None below) in
        let many : length new ≡ length s.marks = length-set s.marks f.to (Some (secs + f.secs)) in
        record {
          many = many;
          more = record { stop = f.to; secs = secs + f.secs } ∷ [];
          grows = refl;
          lowers = λ q t m. elim (there q) [
            | inl h ↦ subst (λ q. AtMost (mark new q) t) (sym h) (rw here (falls o t e (subst (λ q. mark s.marks q ≡ Some t) h m) l))
            | inr h ↦ same_most (mark new q) t (h ∙ m)
          ];
          each = λ q t m. elim (there q) [
            | inl h ↦ inr (record { among = waits q t h (same t (sym here ∙ subst (λ q. mark new q ≡ Some t) h m)); path = f; inside = one_inside f; to = sym h; total = same t (sym here ∙ subst (λ q. mark new q ≡ Some t) h m) })
            | inr h ↦ inl (sym h ∙ m)
          ];
          relaxed = λ g h. subst (λ (g : Path). AtMost (mark new g.to) (secs + g.secs)) (one_only f g h) (same_most (mark new f.to) (secs + f.secs) here);
          bounded = λ q t m. elim (there q) [
            | inl h ↦ (let e2 : secs + f.secs ≡ t = same t (sym here ∙ subst (λ q. mark new q ≡ Some t) h m) in omega (arith, e2, bound o e l counts.1 counts.0))
            | inr h ↦ (let b = bounded q t (sym h ∙ m) in omega (arith, b, counts.0))
          ];
          count = counts.0;
          cost = cost o e l counts.1 counts.0 many heights;
        }
      where
        same : (t : ℕ) → Some (secs + f.secs) ≡ Some t → secs + f.secs ≡ t
        same t e = cc

        waits : (q t : ℕ) → q ≡ f.to → secs + f.secs ≡ t → Contains {X = Reached} (record { stop = f.to; secs = secs + f.secs } ∷ []) (record { stop = q; secs = t })
        waits q t e g =
            subst (λ x. Contains {X = Reached} (record { stop = f.to; secs = secs + f.secs } ∷ []) (record { stop = x; secs = t })) (sym e)
            (subst (λ y. Contains {X = Reached} (record { stop = f.to; secs = secs + f.secs } ∷ []) (record { stop = f.to; secs = y })) g (one_inside {X = Reached} (record { stop = f.to; secs = secs + f.secs })))

        falls : (o : Option ℕ) (t : ℕ) → mark s.marks f.to ≡ o → mark s.marks f.to ≡ Some t → is_less (secs + f.secs) o ≡ true → secs + f.secs ≤ t
        falls None t e m l = absurd (let c : None ≡ Some t = sym e ∙ m in cc)
        falls (Some u) t e m l = (let c : Some u ≡ Some t = sym e ∙ m in let d : u ≡ t = cc in let k : secs + f.secs < u = grind (arith, nat_tests, l) in omega (arith, d, k))

        bound : (o : Option ℕ) → mark s.marks f.to ≡ o → is_less (secs + f.secs) o ≡ true → reached_count new + cond (is_some o) 1 0 ≡ reached_count s.marks + 1 → reached_count s.marks ≤ reached_count new → secs + f.secs ≤ 86400 * reached_count new
        bound None e l counts le = omega (arith, counts)
        bound (Some u) e l counts le = (let b = bounded f.to u e in let k : secs + f.secs < u = grind (arith, nat_tests, l) in omega (arith, b, k))

        cost : (o : Option ℕ) → mark s.marks f.to ≡ o → is_less (secs + f.secs) o ≡ true → reached_count new + cond (is_some o) 1 0 ≡ reached_count s.marks + 1 → reached_count s.marks ≤ reached_count new → length new ≡ length s.marks
            → sum_by (mark_height (86400 * length s.marks + 1)) new + mark_height (86400 * length s.marks + 1) o ≡ sum_by (mark_height (86400 * length s.marks + 1)) s.marks + (secs + f.secs)
            → height new + 1 ≤ height s.marks
        cost o e l counts le many heights = by_case o e l counts heights
          where
            by_case : (o : Option ℕ) → mark s.marks f.to ≡ o → is_less (secs + f.secs) o ≡ true → reached_count new + cond (is_some o) 1 0 ≡ reached_count s.marks + 1
                → sum_by (mark_height (86400 * length s.marks + 1)) new + mark_height (86400 * length s.marks + 1) o ≡ sum_by (mark_height (86400 * length s.marks + 1)) s.marks + (secs + f.secs)
                → height new + 1 ≤ height s.marks
            by_case None e l counts heights =
                let same_height : height new ≡ sum_by (mark_height (86400 * length s.marks + 1)) new = ap (λ n. sum_by (mark_height (86400 * n + 1)) new) many in
                let most : reached_count new ≤ length new = count_by-le-length (λ o. is_some o) new in
                omega (arith, same_height, most, heights, counts, many)
            by_case (Some u) e l counts heights =
                let same_height : height new ≡ sum_by (mark_height (86400 * length s.marks + 1)) new = ap (λ n. sum_by (mark_height (86400 * n + 1)) new) many in
                let k : secs + f.secs < u = grind (arith, nat_tests, l) in
                omega (arith, same_height, heights, k)

-- one footpath of a row more
pub relaxed_more : (row : List Path) (i : ℕ) (f : Path) (secs : ℕ) (old mid new : SearchData) → i < length row → f ≡ get_or row i f → IsRelaxed (take i row) secs old mid → IsRelaxed (f ∷ []) secs mid new → IsRelaxed (take (i + 1) row) secs old new
relaxed_more row i f secs old mid new below at h k =
    let parts : take (i + 1) row ≡ take i row ++ f ∷ [] = take_more row i f below ∙ ap (λ g. take i row ++ g ∷ []) (sym at) in
    subst (λ fs. IsRelaxed fs secs old new) (sym parts) (relaxed_both (take i row) (f ∷ []) secs old mid new h k)

-- a mark that is read at a place
mark_read : (marks : List (Option ℕ)) (at q : ℕ) (o : Option ℕ) → o ≡ get_or marks at o → at ≡ q → q < length marks → o ≡ mark marks q
mark_read marks at q o read same below = read ∙ (get_or_default marks at o None (omega (arith, same, below)) ∙ ap (mark marks) same)

-- the same two over what a search keeps
pub search_kept : (s : SearchData) (marks : List (Option ℕ)) (at : ℕ) (o : Option ℕ) (f : Path) (secs : ℕ) → marks ≡ s.marks → at ≡ f.to → f.to < length s.marks → IsBounded s.marks → o ≡ get_or marks at o → is_less (secs + f.secs) o ≡ false → IsRelaxed (f ∷ []) secs s s
search_kept s marks at o f secs marks_are same below bounded read e =
    let here : o ≡ mark s.marks f.to = mark_read s.marks at f.to o (subst (λ ms. o ≡ get_or ms at o) marks_are read) same below in
    relaxed_kept s f secs bounded (ap (is_less (secs + f.secs)) (sym here) ∙ e)

pub search_lowered : (s : SearchData) (marks : List (Option ℕ)) (ls : List ℕ) (more : List Reached) (at : ℕ) (o : Option ℕ) (f : Path) (secs : ℕ) → marks ≡ s.marks → at ≡ f.to → more ≡ s.waiting ++ record { stop = f.to; secs = secs + f.secs } ∷ [] → f.to < length s.marks → f.secs ≤ 86400 → IsBounded s.marks
    → secs ≤ 86400 * reached_count s.marks → o ≡ get_or marks at o → is_less (secs + f.secs) o ≡ true → IsRelaxed (f ∷ []) secs s (record { marks = set marks at (Some (secs + f.secs)); lowered = ls; waiting = more })
search_lowered s marks ls more at o f secs marks_are same grows below day bounded few read e =
    let here : o ≡ mark s.marks f.to = mark_read s.marks at f.to o (subst (λ ms. o ≡ get_or ms at o) marks_are read) same below in
    let base = relaxed_lower s ls f secs below day bounded few (ap (is_less (secs + f.secs)) (sym here) ∙ e) in
    subst (λ ms. IsRelaxed (f ∷ []) secs s (record { marks = set ms at (Some (secs + f.secs)); lowered = ls; waiting = more })) (sym marks_are)
    (subst (λ a. IsRelaxed (f ∷ []) secs s (record { marks = set s.marks a (Some (secs + f.secs)); lowered = ls; waiting = more })) (sym same)
    (subst (λ l. IsRelaxed (f ∷ []) secs s (record { marks = set s.marks f.to (Some (secs + f.secs)); lowered = ls; waiting = l })) (sym grows) base))

-- what a search keeps of its stops stays so after one fell
pub covered_set : (marks : List (Option ℕ)) (ls more : List ℕ) (ws waits : List Reached) (at : ℕ) (r : Reached) (s : ℕ) → IsCovered marks ls → All (λ r. Reached.stop r < length marks) ws → at ≡ Reached.stop r → at < length marks → more ≡ ls ++ at ∷ [] → waits ≡ ws ++ r ∷ []
    → IsCovered (set marks at (Some s)) more × All (λ r. Reached.stop r < length (set marks at (Some s))) waits
covered_set marks ls more ws waits at r s covered inside same below lowered waited = (
  record {
    within = subst (λ l. All (λ q. q < length (set marks at (Some s))) l) (sym lowered) (All-push (λ q. q < length (set marks at (Some s))) ls at (λ k d h. (let w = covered.within k d h in omega (arith, w, many))) (omega (arith, below, many)));
    covers = λ q some. subst (λ l. Contains l q) (sym lowered) (there q some);
  },
  subst (λ l. All (λ r. Reached.stop r < length (set marks at (Some s))) l) (sym waited) (All-push (λ r. Reached.stop r < length (set marks at (Some s))) ws r (λ k d h. (let w = inside k d h in omega (arith, w, many))) (omega (arith, below, many, same))),
)
  where
    many : length (set marks at (Some s)) ≡ length marks
    many = length-set marks at (Some s)

    there : (q : ℕ) → (mark (set marks at (Some s)) q ≡ None → ⊥) → Contains (ls ++ at ∷ []) q
    there q some = elim (cases_Bool (q == at)) [
      | inl t ↦ (let e : at ≡ q = grind (arith, nat_tests, t) in Contains-append_right ls (at ∷ []) q (subst (λ x. Contains (at ∷ []) x) e (one_inside at)))
      | inr n ↦
          let other : q ≢ at = (λ e. let t : (q == at) ≡ true = grind (arith, nat_tests, e) in let c : false ≡ true = sym n ∙ t in cc) in
          Contains-append_left ls (at ∷ []) q (covered.covers q (λ none. some (get_or-set_other marks at q (Some s) None other ∙ none)))
    ]
