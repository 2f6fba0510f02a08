-- Each step keeps the rule.
use Rattle.std.proofs.Common.{◌≡◌, ◌≢◌, ℕ, zero, suc, ◌<◌, ◌==◌, Bool, true, false, List, [], ◌∷◌, ◌++◌, length, refl, ap, sym, subst, ◌∙◌, arith, inl, None}
use Rattle.std.proofs.lemmas.List.{append-nil, length-set, length-append, get_or-set_same, get_or-set_other, get_or_append_left}
use Rattle.std.proofs.lemmas.Bool.{false≢true}
use Rattle.std.proofs.lemmas.Bool.Decides.{nat_tests}
use Rattle.std.specs.Prelude.{slice_set}
use prog.Atomic.{either}
use Rattle.logbook.specs.Pages.{Cell, cell, keeps, gives, adds, Nib, no_nib, may_write, step, Moves, Goes}
use Rattle.history.specs.declared.entry.Entry.{Entry}
use Rattle.history.specs.Logs.{shown, Guarded, Turned}
use Rattle.history.specs.Rules.{IsKept, Draws, Begins, Adds, Stays}
use Rattle.history.proofs.Logs.{legal_more, turned_as, turned_more, latest}

home_set : (cs : List Cell) (k n j : ℕ) → (cell cs j).1 ≡ true → (cell (slice_set cs k (n, true)) j).1 ≡ true
home_set [] k n j h = h
home_set (c ∷ cs) zero n zero h = refl
home_set (c ∷ cs) zero n (suc j) h = h
home_set (c ∷ cs) (suc k) n zero h = h
home_set (c ∷ cs) (suc k) n (suc j) h = home_set cs k n j h

home_more : (cs : List Cell) (c : Cell) (j : ℕ) → (cell cs j).1 ≡ true → (cell (cs ++ c ∷ []) j).1 ≡ true
home_more [] c j h = absurd (false≢true h)
home_more (d ∷ cs) c zero h = h
home_more (d ∷ cs) c (suc j) h = home_more cs c j h

here_set : (cs : List Cell) (k n : ℕ) → k < length cs → cell (slice_set cs k (n, true)) k ≡ (n, true)
here_set cs k n lt = get_or-set_same cs k (n, true) (0, false) lt

first_more : (cs : List Cell) (c : Cell) → 0 < length cs → cell (cs ++ c ∷ []) 0 ≡ cell cs 0
first_more cs c lt = get_or_append_left cs (c ∷ []) (0, false) 0 lt

tested : (n : ℕ) → 0 < n → (n == 0) ≡ false
tested n lt = grind (arith, nat_tests)

still_zero : (n : ℕ) → either (n == 0) 0 n ≡ 0 → n ≡ 0
still_zero zero e = refl
still_zero (suc n) e = subst (λ (b : Bool). either b 0 (suc n) ≡ 0) (tested (suc n) (omega arith)) e

never_zero : (n : ℕ) → either (n == 0) 1 n ≡ 0 → ⊥
never_zero zero e = omega arith
never_zero (suc n) e = let e' : suc n ≡ 0 = subst (λ (b : Bool). either b 1 (suc n) ≡ 0) (tested (suc n) (omega arith)) e in omega arith

module _ {E : Type 0} where
  abbrev pub none : List (Entry E) → List (Entry E)
  none log = []

  abbrev pub moved : Entry E → List (Entry E) → List (Entry E) → ℕ → Type 0
  moved ask xs ys n = Unit {0}

  pub draws : (v : List (Entry E)) (ask : Entry E) → Moves IsKept none (moved ask) 0 (v, (no_nib, None)) (λ n. either (n == 0) 0 n) (Draws (step 0 0 0 ask) (v, (no_nib, None)))
  draws v ask cs log kept pre away = let n = (cell cs 0).0 in let cs' = slice_set cs 0 (either (n == 0) 0 n, true) in let ds = cs' ++ (0, false) ∷ [] in
      let some' : 0 < length cs' = omega (arith, kept.some, length-set cs 0 (either (n == 0) 0 n, true)) in
      let first : cell ds 0 ≡ (either (n == 0) 0 n, true) = first_more cs' (0, false) some' ∙ here_set cs 0 (either (n == 0) 0 n) kept.some in
      let next : IsKept ds log = record {
        some = omega (arith, some', length-append cs' ((0, false) ∷ []));
        head = ap (λ (c : Cell). c.1) first;
        fresh = λ e. kept.fresh (still_zero n (sym (ap (λ (c : Cell). c.0) first) ∙ e));
        turned = turned_as cs ds log (λ j h. home_more cs' (0, false) j (home_set cs 0 (either (n == 0) 0 n) j h)) kept.turned;
        legal = kept.legal;
      } in
      (kept.some, kept.head, (adds, [], None, tt, subst (λ (l : List (Entry E)). IsKept ds l) (sym (append-nil log)) next, inl (refl, refl), (length cs, refl)))

  begins_goes : (v log : List (Entry E)) (ask : Entry E) (cs : List Cell) → IsKept cs log → (b : Bool) → ((cell cs 0).0 == 0) ≡ b
      → Goes IsKept none (moved ask) 0 (v, (no_nib, None)) (λ n. either (n == 0) 1 n) (Begins (step 0 0 1 ask) (v, (no_nib, None))) cs log
  begins_goes v log ask cs kept true is = let n = (cell cs 0).0 in let ds = slice_set cs 0 (either (n == 0) 1 n, true) in
      let zero' : n ≡ 0 = grind (arith, nat_tests) in
      let empty : log ≡ [] = kept.fresh zero' in
      let first : cell ds 0 ≡ (either (n == 0) 1 n, true) = here_set cs 0 (either (n == 0) 1 n) kept.some in
      let next : IsKept ds (ask ∷ []) = record {
        some = omega (arith, kept.some, length-set cs 0 (either (n == 0) 1 n, true));
        head = ap (λ (c : Cell). c.1) first;
        fresh = λ e. absurd (never_zero n (sym (ap (λ (c : Cell). c.0) first) ∙ e));
        turned = tt;
        legal = tt;
      } in
      let is' : log ++ ask ∷ [] ≡ ask ∷ [] = ap (λ (l : List (Entry E)). l ++ ask ∷ []) empty in
      (keeps, ask ∷ [], None, tt, subst (λ (l : List (Entry E)). IsKept ds l) (sym is') next, inl (refl, refl), rw is (is'))
  begins_goes v log ask cs kept false is = let n = (cell cs 0).0 in let ds = slice_set cs 0 (either (n == 0) 1 n, true) in
      let first : cell ds 0 ≡ (either (n == 0) 1 n, true) = here_set cs 0 (either (n == 0) 1 n) kept.some in
      let next : IsKept ds log = record {
        some = omega (arith, kept.some, length-set cs 0 (either (n == 0) 1 n, true));
        head = ap (λ (c : Cell). c.1) first;
        fresh = λ e. absurd (never_zero n (sym (ap (λ (c : Cell). c.0) first) ∙ e));
        turned = turned_as cs ds log (λ j h. home_set cs 0 (either (n == 0) 1 n) j h) kept.turned;
        legal = kept.legal;
      } in
      (keeps, [], None, tt, subst (λ (l : List (Entry E)). IsKept ds l) (sym (append-nil log)) next, inl (refl, refl), rw is (tt))

  pub begins : (v : List (Entry E)) (ask : Entry E) → Moves IsKept none (moved ask) 0 (v, (no_nib, None)) (λ n. either (n == 0) 1 n) (Begins (step 0 0 1 ask) (v, (no_nib, None)))
  begins v ask cs log kept pre away = (kept.some, kept.head, begins_goes v log ask cs kept ((cell cs 0).0 == 0) refl)

  pub adds_to : (v : List (Entry E)) (ask : Entry E) (p : Nib) → p.right ≡ may_write → Guarded p.key v → (shown v).closed ≡ false
      → Moves IsKept none (moved ask) 0 (v, (p, None)) (λ n. either (n == 0) 1 n) (Adds (step 0 0 1 ask) (v, (p, None)))
  adds_to v ask p right guarded free cs log kept pre away = let n = (cell cs 0).0 in let m = either (n == 0) 1 n in let cs' = slice_set cs 0 (m, true) in let ds = slice_set cs' p.key (p.value, true) in
      let there = away right in
      let same : v ≡ log = latest cs v log p.key pre guarded there.1 kept.turned in
      let apart : 0 ≢ p.key = λ e. false≢true (sym there.1 ∙ subst (λ (k : ℕ). (cell cs k).1 ≡ true) e kept.head) in
      let first : cell ds 0 ≡ (m, true) = get_or-set_other cs' p.key 0 (p.value, true) (0, false) apart ∙ here_set cs 0 m kept.some in
      let lt : p.key < length cs' = omega (arith, there.0, length-set cs 0 (m, true)) in
      let up : (j : ℕ) → (cell cs j).1 ≡ true → (cell ds j).1 ≡ true = λ j h. home_set cs' p.key p.value j (home_set cs 0 m j h) in
      let mine : (cell ds p.key).1 ≡ true = ap (λ (c : Cell). c.1) (here_set cs' p.key p.value lt) in
      let next : IsKept ds (log ++ ask ∷ []) = record {
        some = omega (arith, kept.some, length-set cs 0 (m, true), length-set cs' p.key (p.value, true));
        head = ap (λ (c : Cell). c.1) first;
        fresh = λ e. absurd (never_zero n (sym (ap (λ (c : Cell). c.0) first) ∙ e));
        turned = turned_more ds log ask p.key (subst (λ (l : List (Entry E)). Guarded p.key l) same guarded) mine (turned_as cs ds log up kept.turned);
        legal = legal_more log ask (subst (λ (l : List (Entry E)). (shown l).closed ≡ false) same free) kept.legal;
      } in
      (kept.some, kept.head, (gives, ask ∷ [], None, right, next, inl (refl, refl), ap (λ (l : List (Entry E)). l ++ ask ∷ []) (sym same)))

  pub stays : (v : List (Entry E)) (ask : Entry E) (p : Nib) → p.right ≡ may_write → ask.key ≡ p.key
      → Moves IsKept none (moved ask) 0 (v, (p, None)) (λ n. either (n == 0) 0 n) (Stays (step 0 0 0 ask) (v, (p, None)))
  stays v ask p right same cs log kept pre away = let n = (cell cs 0).0 in let m = either (n == 0) 0 n in let ds = slice_set cs 0 (m, true) in
      let there = away right in
      let first : cell ds 0 ≡ (m, true) = here_set cs 0 m kept.some in
      let next : IsKept ds log = record {
        some = omega (arith, kept.some, length-set cs 0 (m, true));
        head = ap (λ (c : Cell). c.1) first;
        fresh = λ e. kept.fresh (still_zero n (sym (ap (λ (c : Cell). c.0) first) ∙ e));
        turned = turned_as cs ds log (λ j h. home_set cs 0 m j h) kept.turned;
        legal = kept.legal;
      } in
      let left : (cell cs ask.key).1 ≡ false = subst (λ (k : ℕ). (cell cs k).1 ≡ false) (sym same) there.1 in
      let turned : Turned cs (log ++ []) = subst (λ (l : List (Entry E)). Turned cs l) (sym (append-nil log)) kept.turned in
      (kept.some, kept.head, (keeps, [], None, tt, subst (λ (l : List (Entry E)). IsKept ds l) (sym (append-nil log)) next, inl (refl, refl), (refl, (cs, left, turned))))
