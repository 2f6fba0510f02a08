-- The search from one stop: what holds while stops wait, and when none waits.
use Rattle.std.proofs.Common.{◌≡◌, ◌∙◌, sym, ap, subst, refl, ℕ, suc, ◌+◌, ◌-◌, ◌<◌, ◌≤◌, ◌⊎◌, List, [], ◌∷◌, ◌++◌, length, get_or, drop, Option, Some, None, arith, inl, inr, Bool, true, false, ◌==◌}
use Rattle.std.specs.Prelude.{Contains, MatchOption, MatchBool}
use Rattle.std.proofs.lemmas.List.{drop-append-le, length-append}
use Rattle.std.proofs.lemmas.List.Elements.{Contains-append_left, Contains-append_right}
use Rattle.std.proofs.Math.Seq.{drop-cons}
use Rattle.std.proofs.Math.ListN.{drop_of_length-le}
use Rattle.tb_base.specs.declared.table.Path.{Path}
use Rattle.tb_base.proofs.Ordered.{Member-from_Contains, Contains-from_Member}
use Rattle.footpaths.specs.Footpaths.{Changes}
use Rattle.tb_base.specs.TimetableData.{FootpathData}
use Rattle.tb_base.specs.Walking.{change_between}
use Rattle.tb_base.specs.Soundness.{IsSoundFootpaths}
use Rattle.std.proofs.lemmas.Bool.Decides.{nat_tests}
use Rattle.foot_close.specs.declared.search.Reached.{Reached}
use Rattle.foot_close.specs.Closure.{chain, IsShortest}
use Rattle.foot_close.specs.Searching.{SearchData, mark, height, IsFresh, IsBounded, leaving, IsRelaxed, is_held, IsGoneOn, AreShortest}
use Rattle.foot_close.proofs.Chains.{parts_by, chain-append}
use Rattle.foot_close.proofs.Relaxing.{AtMost, weaker, lowers_most}
use Rattle.foot_close.proofs.Edges.{edge_secs, change_edge}

-- each change from a stop was looked at, where so many seconds lead up to it
abbrev pub IsSettled : Changes → List (Option ℕ) → ℕ → ℕ → Type 0
IsSettled given marks q s = (r w : ℕ) → given q r ≡ Some w → AtMost (mark marks r) (s + w)

-- a chain of so many seconds
pub record IsChain (given : Changes) (p q s : ℕ) : Type 0 where
  pub via : List ℕ
  pub is : chain given p via q ≡ Some s

-- the stops from a place on wait
pub record IsSearch (P : FootpathData) (p : ℕ) (s : SearchData) (next : ℕ) : Type 0 where
  pub many : length s.marks ≡ length P.change
  pub bounded : IsBounded s.marks
  pub place : next ≤ length s.waiting
  pub attained : (q t : ℕ) → mark s.marks q ≡ Some t → IsChain (change_between P) p q t
  pub started : IsSettled (change_between P) s.marks p 0
  pub settled : (q t : ℕ) → mark s.marks q ≡ Some t → Contains (drop next s.waiting) (record { stop = q; secs = t }) ⊎ IsSettled (change_between P) s.marks q t

settled_by : (P : FootpathData) (q t : ℕ) (old new : SearchData) → IsRelaxed (leaving P q) t old new → IsSettled (change_between P) new.marks q t
settled_by P q t old new h = λ r w e. h.relaxed (record { to = r; secs = w }) (change_edge P q r w e)

still_settled : (given : Changes) (row : List Path) (secs : ℕ) (old new : SearchData) (q t : ℕ) → IsRelaxed row secs old new → IsSettled given old.marks q t → IsSettled given new.marks q t
still_settled given row secs old new q t h s = λ r w e. lowers_most old.marks new.marks r (t + w) h.lowers (s r w e)

pub search_begun : (P : FootpathData) (p : ℕ) (old new : SearchData) → IsSoundFootpaths P → p < length P.change → IsFresh (length P.change) old → IsRelaxed (leaving P p) 0 old new → IsSearch P p new 0
search_begun P p old new sound inside fresh h = record {
  many = h.many ∙ fresh.many;
  bounded = h.bounded;
  place = omega arith;
  attained = λ q t e. elim (h.each q t e) [
    | inl m ↦ absurd (let c : None ≡ Some t = sym (fresh.unreached q) ∙ m in cc)
    | inr m ↦
        let there : change_between P p q ≡ Some m.path.secs = subst (λ r. change_between P p r ≡ Some m.path.secs) m.to (edge_secs P p m.path sound inside m.inside) in
        record { via = []; is = there ∙ ap (λ n. Some n) (let n : m.path.secs ≡ t = omega (arith, m.total) in n) }
  ];
  started = settled_by P p 0 old new h;
  settled = λ q t e. elim (h.each q t e) [
    | inl m ↦ absurd (let c : None ≡ Some t = sym (fresh.unreached q) ∙ m in cc)
    | inr m ↦ inl (subst (λ ls. Contains ls (record { stop = q; secs = t })) (let e : h.more ≡ new.waiting = ap (λ (ls : List Reached). ls ++ h.more) (sym fresh.none_waiting) ∙ sym h.grows in e) m.among)
  ];
}

-- what waits is the next one, or waits after it
next_or_later : (ls : List Reached) (next : ℕ) (r x : Reached) → next < length ls → r ≡ get_or ls next r → Contains (drop next ls) x → (r ≡ x) ⊎ Contains (drop (next + 1) ls) x
next_or_later ls next r x below at h =
    let parts : drop next ls ≡ get_or ls next r ∷ drop (suc next) ls = drop-cons ls next r below in
    let one : suc next ≡ next + 1 = omega arith in
    elim (Member-from_Contains x (get_or ls next r ∷ drop (suc next) ls) (subst (λ xs. Contains xs x) parts h)) [
      | inl e ↦ inl (at ∙ e)
      | inr m ↦ inr (subst (λ n. Contains (drop n ls) x) one (Contains-from_Member x (drop (suc next) ls) m))
    ]

-- a stop was looked at whose seconds are its least
search_on : (P : FootpathData) (p : ℕ) (old new : SearchData) (next : ℕ) (r : Reached) → IsSoundFootpaths P → Reached.stop r < length P.change → IsSearch P p old next → next < length old.waiting → r ≡ get_or old.waiting next r
    → mark old.marks (Reached.stop r) ≡ Some (Reached.secs r) → IsRelaxed (leaving P (Reached.stop r)) (Reached.secs r) old new → IsSearch P p new (next + 1)
search_on P p old new next r sound inside s below at here h = record {
  many = h.many ∙ s.many;
  bounded = h.bounded;
  place = omega (arith, below, ap length h.grows, length-append old.waiting h.more);
  attained = λ q u e. elim (h.each q u e) [
    | inl m ↦ s.attained q u m
    | inr m ↦
        let first = s.attained (Reached.stop r) (Reached.secs r) here in
        let there : change_between P (Reached.stop r) q ≡ Some m.path.secs = subst (λ x. change_between P (Reached.stop r) x ≡ Some m.path.secs) m.to (edge_secs P (Reached.stop r) m.path sound inside m.inside) in
        record { via = first.via ++ Reached.stop r ∷ []; is = chain-append (change_between P) p first.via (Reached.stop r) [] q (Reached.secs r) m.path.secs first.is there ∙ ap (λ n. Some n) m.total }
  ];
  started = still_settled (change_between P) (leaving P (Reached.stop r)) (Reached.secs r) old new p 0 h s.started;
  settled = λ q u e. elim (h.each q u e) [
    | inl m ↦ elim (s.settled q u m) [
      | inl w ↦ elim (next_or_later old.waiting next r (record { stop = q; secs = u }) below at w) [
        | inl same ↦ inr (subst (λ (x : Reached). IsSettled (change_between P) new.marks (Reached.stop x) (Reached.secs x)) same (settled_by P (Reached.stop r) (Reached.secs r) old new h))
        | inr later ↦ inl (waits (record { stop = q; secs = u }) (Contains-append_left (drop (next + 1) old.waiting) h.more (record { stop = q; secs = u }) later))
      ]
      | inr w ↦ inr (still_settled (change_between P) (leaving P (Reached.stop r)) (Reached.secs r) old new q u h w)
    ]
    | inr m ↦ inl (waits (record { stop = q; secs = u }) (Contains-append_right (drop (next + 1) old.waiting) h.more (record { stop = q; secs = u }) m.among))
  ];
}
  where
    waits : (x : Reached) → Contains (drop (next + 1) old.waiting ++ h.more) x → Contains (drop (next + 1) new.waiting) x
    waits x c =
        let parts : drop (next + 1) (old.waiting ++ h.more) ≡ drop (next + 1) old.waiting ++ h.more = drop-append-le (next + 1) old.waiting h.more (omega (arith, below)) in
        subst (λ ls. Contains (drop (next + 1) ls) x) (sym h.grows) (subst (λ ls. Contains ls x) (sym parts) c)

-- a stop whose seconds fell since needs no look now
search_past : (P : FootpathData) (p : ℕ) (s : SearchData) (next : ℕ) (r : Reached) → IsSearch P p s next → next < length s.waiting → r ≡ get_or s.waiting next r → (mark s.marks (Reached.stop r) ≡ Some (Reached.secs r) → ⊥) → IsSearch P p s (next + 1)
search_past P p s next r h below at other = record {
  many = h.many;
  bounded = h.bounded;
  place = omega (arith, below);
  attained = h.attained;
  started = h.started;
  settled = λ q t e. elim (h.settled q t e) [
    | inl w ↦ elim (next_or_later s.waiting next r (record { stop = q; secs = t }) below at w) [
      | inl same ↦ absurd (other (subst (λ (x : Reached). mark s.marks (Reached.stop x) ≡ Some (Reached.secs x)) (sym same) e))
      | inr later ↦ inl later
    ]
    | inr w ↦ inr w
  ];
}

pub held_is : (s : ℕ) (o : Option ℕ) → is_held s o ≡ true → o ≡ Some s
held_is s None e = absurd (let c : false ≡ true = e in cc)
held_is s (Some t) e = (let same : t ≡ s = grind (arith, nat_tests, e) in ap (λ n. Some n) same)

not_held : (s : ℕ) (o : Option ℕ) → is_held s o ≡ false → o ≡ Some s → ⊥
not_held s None e g = absurd (let c : None ≡ Some s = g in cc)
not_held s (Some t) e g = (let same : t ≡ s = cc in let passes : (t == s) ≡ true = grind (arith, nat_tests, same) in let c : false ≡ true = sym e ∙ passes in absurd cc)

pub search_gone : (P : FootpathData) (p : ℕ) (old new : SearchData) (next : ℕ) (r : Reached) → IsSoundFootpaths P → Reached.stop r < length P.change → IsSearch P p old next → next < length old.waiting → r ≡ get_or old.waiting next r → IsGoneOn P r old new → IsSearch P p new (next + 1)
search_gone P p old new next r sound inside s below at h = by_held (is_held (Reached.secs r) (mark old.marks (Reached.stop r))) refl h
  where
    by_held : (b : Bool) → is_held (Reached.secs r) (mark old.marks (Reached.stop r)) ≡ b → MatchBool b (IsRelaxed (leaving P (Reached.stop r)) (Reached.secs r) old new) (new ≡ old) → IsSearch P p new (next + 1)
    by_held true e k = search_on P p old new next r sound inside s below at (held_is (Reached.secs r) (mark old.marks (Reached.stop r)) e) k
    by_held false e k = subst (λ x. IsSearch P p x (next + 1)) (sym k) (search_past P p old next r s below at (not_held (Reached.secs r) (mark old.marks (Reached.stop r)) e))

settle : (given : Changes) (marks : List (Option ℕ)) → ((q t : ℕ) → mark marks q ≡ Some t → IsSettled given marks q t) → (q x s a : ℕ) (o : Option ℕ) → mark marks q ≡ o → AtMost o s → given q x ≡ Some a → AtMost (mark marks x) (s + a)
settle given marks settled q x s a None m k f = absurd k
settle given marks settled q x s a (Some t) m k f = weaker (mark marks x) (t + a) (s + a) (settled q t m x a f) (omega (arith, k))

-- where no stop waits, no chain is shorter
least_on : (given : Changes) (marks : List (Option ℕ)) → ((q t : ℕ) → mark marks q ≡ Some t → IsSettled given marks q t) → (q s : ℕ) → AtMost (mark marks q) s → (via : List ℕ) (r w : ℕ) → chain given q via r ≡ Some w → AtMost (mark marks r) (s + w)
least_on given marks settled q s h [] r w e = settle given marks settled q r s w (mark marks q) refl h e
least_on given marks settled q s h (x ∷ via) r w e =
    let parts = parts_by (given q x) (chain given x via r) w e in
    weaker (mark marks r) (s + parts.0 + parts.1) (s + w) (least_on given marks settled x (s + parts.0) (settle given marks settled q x s parts.0 (mark marks q) refl h parts.2) via r parts.1 parts.3) (omega (arith, parts.4))

pub searched : (P : FootpathData) (p : ℕ) (s : SearchData) (next : ℕ) → IsSearch P p s next → length s.waiting ≤ next → AreShortest (change_between P) p s.marks
searched P p s next h done r = by_mark (mark s.marks r) refl
  where
    settled : (q t : ℕ) → mark s.marks q ≡ Some t → IsSettled (change_between P) s.marks q t
    settled q t e = elim (h.settled q t e) [
      | inl w ↦ absurd (Member-from_Contains (record { stop = q; secs = t }) [] (subst (λ ls. Contains ls (record { stop = q; secs = t })) (drop_of_length-le s.waiting done) w))
      | inr k ↦ k
    ]

    least : (via : List ℕ) (w : ℕ) → chain (change_between P) p via r ≡ Some w → AtMost (mark s.marks r) w
    least [] w e = weaker (mark s.marks r) (0 + w) w (h.started r w e) (omega arith)
    least (x ∷ via) w e =
        let parts = parts_by (change_between P p x) (chain (change_between P) x via r) w e in
        weaker (mark s.marks r) (parts.0 + parts.1) w (least_on (change_between P) s.marks settled x parts.0 (weaker (mark s.marks x) (0 + parts.0) parts.0 (h.started x parts.0 parts.2) (omega arith)) via r parts.1 parts.3) (omega (arith, parts.4))

    by_mark : (o : Option ℕ) → mark s.marks r ≡ o → MatchOption o ((via : List ℕ) → chain (change_between P) p via r ≡ None) (IsShortest (change_between P) p r)
    by_mark None e = λ via. none via (chain (change_between P) p via r) refl
      where
        none : (via : List ℕ) (o : Option ℕ) → chain (change_between P) p via r ≡ o → chain (change_between P) p via r ≡ None
        none via None f = f
        none via (Some w) f = absurd (let m : AtMost None w = rw e at (least via w f) in m)
    by_mark (Some t) e =
        let a = h.attained r t e in
        record { via = a.via; attained = a.is; least = λ other w f. (let m : AtMost (Some t) w = rw e at (least other w f) in m) }

-- going on leaves less to do
pub gone_smaller : (P : FootpathData) (old new : SearchData) (next : ℕ) (r : Reached) → next < length old.waiting → IsGoneOn P r old new → height new.marks + (length new.waiting - (next + 1)) < height old.marks + (length old.waiting - next)
gone_smaller P old new next r below h = by_held (is_held (Reached.secs r) (mark old.marks (Reached.stop r))) h
  where
    by_held : (b : Bool) → MatchBool b (IsRelaxed (leaving P (Reached.stop r)) (Reached.secs r) old new) (new ≡ old) → height new.marks + (length new.waiting - (next + 1)) < height old.marks + (length old.waiting - next)
    by_held true k = (let many : length new.waiting ≡ length old.waiting + length k.more = ap length k.grows ∙ length-append old.waiting k.more in omega (arith, many, k.cost, below))
    by_held false k = (let tall : height new.marks ≡ height old.marks = ap (λ (x : SearchData). height x.marks) k in let many : length new.waiting ≡ length old.waiting = ap (λ (x : SearchData). length x.waiting) k in omega (arith, tall, many, below))
