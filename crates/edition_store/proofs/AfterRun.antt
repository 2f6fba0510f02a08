-- A run that leaves a list and what each side saw of it.
use Rattle.std.proofs.Common.{◌≡◌, ◌∙◌, refl, ap, sym, subst, arith, ℕ, zero, suc, ◌<◌, ◌≤◌, ◌==◌, ◌⊎◌, inl, inr, List, [], ◌∷◌, ◌++◌, Bool, true, false, length, take, append_assoc}
use Rattle.std.proofs.lemmas.List.{append-nil, nil_from_length, length-take}
use Rattle.std.proofs.lemmas.Bool.{cases_lt}
use Rattle.std.proofs.lemmas.Bool.Decides.{nat_tests}
use Rattle.std.specs.Prelude.{if◌then◌else◌}
use Rattle.history.specs.Lists.{Shown}
use Rattle.edition_store.specs.Rules.{SawLast, IsKept}
use Rattle.edition_store.specs.Steps.{Step, Publish, Finish, Pin, Editions, alone, starting, informed, after, ends, Runs}
use Rattle.edition_store.specs.AfterRun.{IsAfterRun}
use Rattle.edition_store.proofs.Follows.{ends_append}

abbrev less : ℕ → ℕ
less zero = zero
less (suc n) = n

last_or_below : (j k : ℕ) → j < suc k → (j ≡ k) ⊎ (j < k)
last_or_below j k h = elim (cases_lt j k) [ inl lt ↦ inr lt | inr le ↦ inl (omega (arith, h, le)) ]

no_less : (j k : ℕ) → j < k → j ≡ k → ⊥
no_less j k h e = absurd (omega (arith, h, e))

module _ {A : Type 0} where
  abbrev open_list : List A → Shown A
  open_list list = record { list = list; closed = false }

  abbrev ended : List A → Shown A
  ended list = record { list = list; closed = true }

  runs_append : (s : Editions A) (xs ys : List (Step A)) → Runs s xs → Runs (ends s xs) ys → Runs s (xs ++ ys)
  runs_append s [] ys r q = q
  runs_append s (x ∷ xs) ys r q = (r.0, runs_append (after s x) xs ys r.1 q)

  -- Each seat below k for which w isn't 0 pins.
  abbrev pin_if : ℕ → ℕ → List (Step A) → List (Step A)
  pin_if k zero xs = xs
  pin_if k (suc n) xs = Pin k ∷ xs

  abbrev pins : ℕ → (ℕ → ℕ) → List (Step A)
  pins zero w = []
  pins (suc k) w = pin_if k (w k) (pins k w)

  abbrev pick : ℕ → Shown A → Shown A → Shown A
  pick zero old now = old
  pick (suc n) old now = now

  record Pinned (k : ℕ) (w : ℕ → ℕ) (s : Editions A) (xs : List (Step A)) : Type 0 where
    runs : Runs s xs
    now : (ends s xs).now ≡ s.now
    below : (j : ℕ) → j < k → (ends s xs).known j ≡ pick (w j) (s.known j) s.now
    above : (j : ℕ) → k ≤ j → (ends s xs).known j ≡ s.known j

  itself : (s : Editions A) (k : ℕ) (y : Shown A) → (informed s k y).known k ≡ y
  itself s k y = let same : (k == k) ≡ true = grind (arith, nat_tests) in ap (λ (b : Bool). if b then y else s.known k) same

  other : (s : Editions A) (k j : ℕ) (y : Shown A) → (j ≡ k → ⊥) → (informed s k y).known j ≡ s.known j
  other s k j y differ = let not_same : (j == k) ≡ false = grind (arith, nat_tests, differ) in ap (λ (b : Bool). if b then y else s.known j) not_same

  seat_pins : (k n : ℕ) (w : ℕ → ℕ) (s : Editions A) → n ≡ w k → ((t : Editions A) → Pinned k w t (pins k w)) → Pinned (suc k) w s (pin_if k n (pins k w))
  seat_pins k zero w s e below = let rest : Pinned k w s (pins k w) = below s in record {
    runs = rest.runs;
    now = rest.now;
    below = λ j h. elim (last_or_below j k h) [
      | inl same ↦ rest.above j (omega (arith, same)) ∙ subst (λ (i : ℕ). s.known j ≡ pick (w i) (s.known j) s.now) (sym same) (ap (λ (n : ℕ). pick n (s.known j) s.now) e)
      | inr lt ↦ rest.below j lt
    ];
    above = λ j h. rest.above j (omega (arith, h));
  }
  seat_pins k (suc n) w s e below =
      let t : Editions A = informed s k s.now in
      let rest : Pinned k w t (pins k w) = below t in record {
        runs = (tt, rest.runs);
        now = rest.now;
        below = λ j h. elim (last_or_below j k h) [
          | inl same ↦ subst (λ (i : ℕ). (ends t (pins k w)).known i ≡ pick (w i) (s.known i) s.now) (sym same) (rest.above k (omega arith) ∙ itself s k s.now ∙ ap (λ (m : ℕ). pick m (s.known k) s.now) e)
          | inr lt ↦ rest.below j lt ∙ ap (λ (old : Shown A). pick (w j) old s.now) (other s k j s.now (no_less j k lt))
        ];
        above = λ j h. rest.above j (omega (arith, h)) ∙ other s k j s.now (λ same. absurd (omega (arith, h, same)));
      }

  pins_pin : (k : ℕ) (w : ℕ → ℕ) (s : Editions A) → Pinned k w s (pins k w)
  pins_pin zero w s = record { runs = tt; now = refl; below = λ j h. absurd (omega (arith, h)); above = λ j h. refl }
  pins_pin (suc k) w s = seat_pins k (w k) w s refl (pins_pin k w)

  -- the list after so many steps, of which the last one may be the end
  abbrev shown_at : List A → Bool → Shown A → ℕ → Shown A
  shown_at more mark z zero = z
  shown_at [] true z (suc i) = ended z.list
  shown_at [] false z (suc i) = z
  shown_at (e ∷ more) mark z (suc i) = shown_at more mark (open_list (z.list ++ e ∷ [])) i

  -- what a seat is to know: what it knows, or the list after so many steps
  abbrev wanted : List A → Bool → Shown A → Shown A → ℕ → Shown A
  wanted more mark z old zero = old
  wanted more mark z old (suc i) = shown_at more mark z i

  record Comes (more : List A) (mark : Bool) (s : Editions A) (k : ℕ) (w : ℕ → ℕ) : Type 0 where
    steps : List (Step A)
    runs : Runs s steps
    list : (ends s steps).now ≡ record { list = s.now.list ++ more; closed = mark }
    known : (j : ℕ) → j < k → (ends s steps).known j ≡ wanted more mark s.now (s.known j) (w j)

  at_last : (z old : Shown A) (n : ℕ) → pick n old z ≡ wanted [] false z old n
  at_last z old zero = refl
  at_last z old (suc zero) = refl
  at_last z old (suc (suc i)) = refl

  at_end : (z old : Shown A) (n : ℕ) → pick (less n) (pick n old z) (ended z.list) ≡ wanted [] true z old n
  at_end z old zero = refl
  at_end z old (suc zero) = refl
  at_end z old (suc (suc i)) = refl

  at_more : (e : A) (more : List A) (mark : Bool) (z old : Shown A) (n : ℕ) → wanted more mark (open_list (z.list ++ e ∷ [])) (pick n old z) (less n) ≡ wanted (e ∷ more) mark z old n
  at_more e more mark z old zero = refl
  at_more e more mark z old (suc zero) = refl
  at_more e more mark z old (suc (suc i)) = refl

  same_shown : (x : Shown A) (list : List A) (mark : Bool) → x.list ≡ list → x.closed ≡ mark → x ≡ record { list = list; closed = mark }
  same_shown x list mark e o = λ i. record { list = e i; closed = o i }

  come : (more : List A) (mark : Bool) (s : Editions A) (k : ℕ) (w : ℕ → ℕ) → s.now.closed ≡ false → Comes more mark s k w
  come [] false s k w open_now = let first : Pinned k w s (pins k w) = pins_pin k w s in record {
    steps = pins k w;
    runs = first.runs;
    list = first.now ∙ same_shown s.now (s.now.list ++ []) false (sym (append-nil s.now.list)) open_now;
    known = λ j h. first.below j h ∙ at_last s.now (s.known j) (w j);
  }
  come [] true s k w open_now =
      let first : Pinned k w s (pins k w) = pins_pin k w s in
      let t : Editions A = ends s (pins k w) in
      let u : Editions A = after t Finish in
      let w' : ℕ → ℕ = λ j. less (w j) in
      let later : Pinned k w' u (pins k w') = pins_pin k w' u in
      let whole : ends s (pins k w ++ Finish ∷ pins k w') ≡ ends u (pins k w') = ends_append s (pins k w) (Finish ∷ pins k w') in record {
        steps = pins k w ++ Finish ∷ pins k w';
        runs = runs_append s (pins k w) (Finish ∷ pins k w') first.runs (ap (λ (z : Shown A). z.closed) first.now ∙ open_now, later.runs);
        list = ap (λ (x : Editions A). x.now) whole ∙ later.now ∙ ap (λ (z : Shown A). ended z.list) first.now ∙ ap ended (sym (append-nil s.now.list));
        known = λ j h. ap (λ (x : Editions A). x.known j) whole ∙ later.below j h ∙ ap (λ (old : Shown A). pick (w' j) old u.now) (first.below j h)
            ∙ ap (λ (z : Shown A). pick (w' j) (pick (w j) (s.known j) s.now) (ended z.list)) first.now ∙ at_end s.now (s.known j) (w j);
      }
  come (e ∷ more) mark s k w open_now =
      let first : Pinned k w s (pins k w) = pins_pin k w s in
      let t : Editions A = ends s (pins k w) in
      let u : Editions A = after t (Publish e) in
      let w' : ℕ → ℕ = λ j. less (w j) in
      let later : Comes more mark u k w' = come more mark u k w' refl in
      let whole : ends s (pins k w ++ Publish e ∷ later.steps) ≡ ends u later.steps = ends_append s (pins k w) (Publish e ∷ later.steps) in record {
        steps = pins k w ++ Publish e ∷ later.steps;
        runs = runs_append s (pins k w) (Publish e ∷ later.steps) first.runs (ap (λ (z : Shown A). z.closed) first.now ∙ open_now, later.runs);
        list = ap (λ (x : Editions A). x.now) whole ∙ later.list ∙ ap (λ (z : Shown A). record { list = (z.list ++ e ∷ []) ++ more; closed = mark }) first.now
            ∙ ap (λ (l : List A). record { list = l; closed = mark }) (append_assoc s.now.list (e ∷ []) more);
        known = λ j h. ap (λ (x : Editions A). x.known j) whole ∙ later.known j h ∙ ap (λ (old : Shown A). wanted more mark u.now old (w' j)) (first.below j h)
            ∙ ap (λ (z : Shown A). wanted more mark (open_list (z.list ++ e ∷ [])) (pick (w j) (s.known j) s.now) (w' j)) first.now ∙ at_more e more mark s.now (s.known j) (w j);
      }

  -- the list after steps that are no end, and after the end
  shown_open : (more : List A) (mark : Bool) (front : List A) (i : ℕ) → i ≤ length more → shown_at more mark (open_list front) i ≡ open_list (front ++ take i more)
  shown_open more mark front zero h = ap open_list (sym (append-nil front))
  shown_open [] mark front (suc i) h = absurd (omega (arith, h))
  shown_open (e ∷ more) mark front (suc i) h = shown_open more mark (front ++ e ∷ []) i (omega (arith, h)) ∙ ap open_list (append_assoc front (e ∷ []) (take i more))

  shown_ended : (more : List A) (front : List A) → shown_at more true (open_list front) (suc (length more)) ≡ ended (front ++ more)
  shown_ended [] front = ap ended (sym (append-nil front))
  shown_ended (e ∷ more) front = shown_ended more (front ++ e ∷ []) ∙ ap ended (append_assoc front (e ∷ []) more)

  -- when a side saw its list: 0 for none, 1 for the first edition alone
  abbrev moment : ℕ → Shown A → ℕ
  moment count v = if v.closed then suc (suc count) else length v.list

  abbrev moments : ℕ → List (Shown A) → ℕ → ℕ
  moments count [] j = zero
  moments count (v ∷ views) zero = moment count v
  moments count (v ∷ views) (suc j) = moments count views j

  moment_of : (count : ℕ) (views : List (Shown A)) (j : ℕ) (v : Shown A) → SawLast views j v → (j < length views) × (moments count views j ≡ moment count v)
  moment_of count [] j v e = absurd cc
  moment_of count (x ∷ views) zero v e = (omega arith, let same : x ≡ v = cc in ap (moment count) same)
  moment_of count (x ∷ views) (suc j) v e = let rest = moment_of count views j v e in (let h = rest.0 in omega (arith, h), rest.1)

  -- a list that was seen is the one after so many steps, or nothing was seen
  seen_then : (first : A) (more : List A) (mark : Bool) (v : Shown A) → take (length v.list) (first ∷ more) ≡ v.list → (v.closed ≡ true → record { list = first ∷ more; closed = mark } ≡ v) →
      (v.list ≡ []) ⊎ (wanted more mark (alone first) (alone first) (moment (length more) v) ≡ v)
  seen_then first more mark v begins ends_it = by_mark v.closed refl where
    by_length : (n : ℕ) → n ≡ length v.list → v.closed ≡ false → (v.list ≡ []) ⊎ (wanted more mark (alone first) (alone first) n ≡ v)
    by_length zero none o = inl (nil_from_length v.list (sym none))
    by_length (suc i) some o = inr (
        let list : first ∷ take i more ≡ v.list = ap (λ (n : ℕ). take n (first ∷ more)) some ∙ begins in
        let short : i ≤ length more = omega (arith, some, length-take (length v.list) (first ∷ more), ap length begins) in
        shown_open more mark (first ∷ []) i short ∙ sym (same_shown v (first ∷ take i more) false (sym list) o)
        )

    by_mark : (b : Bool) → v.closed ≡ b → (v.list ≡ []) ⊎ (wanted more mark (alone first) (alone first) (moment (length more) v) ≡ v)
    by_mark true c = inr (
        let whole : record { list = first ∷ more; closed = mark } ≡ v = ends_it c in
        let marked : mark ≡ true = ap (λ (z : Shown A). z.closed) whole ∙ c in
        let when : moment (length more) v ≡ suc (suc (length more)) = ap (λ (b : Bool). if b then suc (suc (length more)) else length v.list) c in
        ap (wanted more mark (alone first) (alone first)) when
        ∙ ap (λ (b : Bool). wanted more b (alone first) (alone first) (suc (suc (length more)))) marked
        ∙ shown_ended more (first ∷ [])
        ∙ ap (λ (b : Bool). record { list = first ∷ more; closed = b }) (sym marked)
        ∙ whole
        )
    by_mark false c = let when : moment (length more) v ≡ length v.list = ap (λ (b : Bool). if b then suc (suc (length more)) else length v.list) c in
        subst (λ (n : ℕ). (v.list ≡ []) ⊎ (wanted more mark (alone first) (alone first) n ≡ v)) (sym when) (by_length (length v.list) refl c)

  of_list : (list : List A) (mark : Bool) (views : List (Shown A)) → 0 < length list → IsKept (record { list = list; closed = mark }) views → IsAfterRun (record { list = list; closed = mark }) views
  of_list [] mark views some kept = absurd (omega (arith, some))
  of_list (first ∷ more) mark views some kept =
      let run : Comes more mark (starting first) (length views) (moments (length more) views) = come more mark (starting first) (length views) (moments (length more) views) refl in record {
        first = first;
        steps = run.steps;
        runs = run.runs;
        list = run.list;
        known = λ j v saw. let at = moment_of (length more) views j v saw in
            elim (seen_then first more mark v (kept.begins j v saw) (kept.ends j v saw)) [
              | inl none ↦ inl none
              | inr is ↦ inr (run.known j at.0 ∙ ap (wanted more mark (alone first) (alone first)) at.1 ∙ is)
            ];
      }

  pub after_run : (z : Shown A) (views : List (Shown A)) → 0 < length z.list → IsKept z views → IsAfterRun z views
  after_run z views some kept = of_list z.list z.closed views some kept
