-- What words above a floor are seen as.
use Rattle.std.proofs.Common.{◌≡◌, ◌≢◌, ◌∙◌, sym, ap, subst, refl, ℕ, ◌+◌, ◌-◌, ◌<◌, ◌≤◌, ◌⊎◌, inl, inr, Bool, true, false, cond, List, [], ◌∷◌, ◌++◌, length, map, take, replicate, get_or, set, ℤ, pos, negsuc, ◌+ℤ◌, ◌≤ℤ◌, Some, None, arith, get_or-set_same, get_or-set_other, length-set, min}
use Rattle.std.specs.Prelude.{All, IsSomeAnd, nat_lt}
use Rattle.std.proofs.lemmas.Bool.{cases_eq, cases_lt}
use Rattle.std.proofs.lemmas.Bool.Decides.{nat_tests}
use Rattle.std.proofs.lemmas.Int.{ints}
use Rattle.std.proofs.lemmas.List.{get_or-map, length-replicate, map-set, set-get_or, take_all}
use Rattle.std.proofs.Math.Nat.{min-eq_left, min-eq_right}
use Rattle.std.proofs.lemmas.List.Elements.{All-head, All-replicate, All-tail}
use Rattle.transfer_reduce.specs.Reached.{IsBy}
use Rattle.transfer_reduce.specs.Words.{time_in}

-- a word of an earlier trip has no time
earlier_none : (f w : ℕ) → f + 446400 ≤ w → time_in f w ≡ None
earlier_none f w h =
    let test : nat_lt w (f + 446400) ≡ false = grind (arith, nat_tests, h) in
    ap (λ b. cond b (Some (pos (w - f) +ℤ negsuc 86399)) None) test

pub none_timed : (f : ℕ) (ws : List ℕ) → All (λ w. f + 446400 ≤ w) ws → map (time_in f) ws ≡ replicate (length ws) None
none_timed f [] earlier = refl
none_timed f (w ∷ ws) earlier =
    let first : time_in f w ≡ None = earlier_none f w (All-head (λ x. f + 446400 ≤ x) w ws earlier) in
    let rest : map (time_in f) ws ≡ replicate (length ws) None = none_timed f ws (All-tail (λ x. f + 446400 ≤ x) w ws earlier) in
    (λ i. first i ∷ rest i)

-- the word that is written
written : (f w : ℕ) (time : ℤ) → f ≤ w → w < f + 446400 → pos w ≡ ((pos f +ℤ time) +ℤ pos 86400) → time_in f w ≡ Some time
written f w time low high is =
    let test : nat_lt w (f + 446400) ≡ true = grind (arith, nat_tests, high) in
    let parts : w ≡ f + (w - f) = omega (arith, low) in
    ap (λ b. cond b (Some (pos (w - f) +ℤ negsuc 86399)) None) test ∙ ap Some (seconds (w - f) parts)
  where
    seconds : (n : ℕ) → w ≡ f + n → (pos n +ℤ negsuc 86399) ≡ time
    seconds n e = omega (arith, ints, e, is)

-- a greater word has a later time
later : (f w v : ℕ) (time x : ℤ) → f ≤ w → w ≤ v → pos w ≡ ((pos f +ℤ time) +ℤ pos 86400) → IsSomeAnd (time_in f v) (λ t. t ≤ℤ x) → time ≤ℤ x
later f w v time x low less is = by_test (nat_lt v (f + 446400))
  where
    after : (n : ℕ) → v ≡ f + n → (pos n +ℤ negsuc 86399) ≤ℤ x → time ≤ℤ x
    after n e h = omega (arith, ints, e, is, less, h)

    by_test : (b : Bool) → IsSomeAnd (cond b (Some (pos (v - f) +ℤ negsuc 86399)) None) (λ t. t ≤ℤ x) → time ≤ℤ x
    by_test true h = after (v - f) (omega (arith, low, less)) h
    by_test false h = absurd h

-- and a word that isn't greater a time that isn't later
sooner : (f w v : ℕ) (time x : ℤ) → f ≤ v → v ≤ w → w < f + 446400 → pos w ≡ ((pos f +ℤ time) +ℤ pos 86400) → time ≤ℤ x → IsSomeAnd (time_in f v) (λ t. t ≤ℤ x)
sooner f w v time x low less high is h =
    let test : nat_lt v (f + 446400) ≡ true = grind (arith, nat_tests, less, high) in
    subst (λ b. IsSomeAnd (cond b (Some (pos (v - f) +ℤ negsuc 86399)) None) (λ t. t ≤ℤ x)) (sym test) (before (v - f) (omega (arith, low)))
  where
    before : (n : ℕ) → v ≡ f + n → (pos n +ℤ negsuc 86399) ≤ℤ x
    before n e = omega (arith, ints, e, is, less, h)

module _ (f : ℕ) (ws : List ℕ) (stop w : ℕ) (time : ℤ) (inside : stop < length ws) (low : f ≤ w) (high : w < f + 446400) (is : pos w ≡ ((pos f +ℤ time) +ℤ pos 86400)) (all : All (λ v. f ≤ v) ws) where
  at_stop : (vs : List ℕ) → stop < length vs → get_or (map (time_in f) vs) stop None ≡ time_in f (get_or vs stop 0)
  at_stop vs below = get_or-map (time_in f) vs stop 0 None below

  -- a word that is less is written
  lowered : w ≤ get_or ws stop 0 → (p : ℕ) (x : ℤ) → (IsBy (map (time_in f) (set ws stop w)) p x → IsBy (map (time_in f) ws) p x ⊎ ((stop ≡ p) × (time ≤ℤ x)))
      × (IsBy (map (time_in f) ws) p x ⊎ ((stop ≡ p) × (time ≤ℤ x)) → IsBy (map (time_in f) (set ws stop w)) p x)
  lowered less p x = by_case (cases_eq p stop)
    where
      own : get_or (map (time_in f) (set ws stop w)) stop None ≡ Some time
      own = at_stop (set ws stop w) (subst (λ n. stop < n) (sym (length-set ws stop w)) inside) ∙ ap (time_in f) (get_or-set_same ws stop w 0 inside) ∙ written f w time low high is

      other : p ≢ stop → get_or (map (time_in f) (set ws stop w)) p None ≡ get_or (map (time_in f) ws) p None
      other apart = ap (λ vs. get_or vs p None) (map-set (time_in f) ws stop w) ∙ get_or-set_other (map (time_in f) ws) stop p (time_in f w) None apart

      by_case : (p ≡ stop) ⊎ (p ≢ stop) → (IsBy (map (time_in f) (set ws stop w)) p x → IsBy (map (time_in f) ws) p x ⊎ ((stop ≡ p) × (time ≤ℤ x)))
          × (IsBy (map (time_in f) ws) p x ⊎ ((stop ≡ p) × (time ≤ℤ x)) → IsBy (map (time_in f) (set ws stop w)) p x)
      by_case (inl e) = (λ h. inr (sym e, subst (λ o. IsSomeAnd o (λ t. t ≤ℤ x)) (ap (λ q. get_or (map (time_in f) (set ws stop w)) q None) e ∙ own) h), back)
        where
          now : time ≤ℤ x → IsBy (map (time_in f) (set ws stop w)) p x
          now h = subst (λ o. IsSomeAnd o (λ t. t ≤ℤ x)) (sym (ap (λ q. get_or (map (time_in f) (set ws stop w)) q None) e ∙ own)) h

          back : IsBy (map (time_in f) ws) p x ⊎ ((stop ≡ p) × (time ≤ℤ x)) → IsBy (map (time_in f) (set ws stop w)) p x
          back (inl h) = now (later f w (get_or ws stop 0) time x low less is (subst (λ o. IsSomeAnd o (λ t. t ≤ℤ x)) (ap (λ q. get_or (map (time_in f) ws) q None) e ∙ at_stop ws inside) h))
          back (inr h) = now h.1
      by_case (inr apart) = (λ h. inl (subst (λ o. IsSomeAnd o (λ t. t ≤ℤ x)) (other apart) h), back)
        where
          back : IsBy (map (time_in f) ws) p x ⊎ ((stop ≡ p) × (time ≤ℤ x)) → IsBy (map (time_in f) (set ws stop w)) p x
          back (inl h) = subst (λ o. IsSomeAnd o (λ t. t ≤ℤ x)) (sym (other apart)) h
          back (inr h) = absurd (apart (sym h.0))

  -- and beside one that isn't greater none
  not_lowered : get_or ws stop 0 ≤ w → (p : ℕ) (x : ℤ) → (IsBy (map (time_in f) ws) p x → IsBy (map (time_in f) ws) p x ⊎ ((stop ≡ p) × (time ≤ℤ x)))
      × (IsBy (map (time_in f) ws) p x ⊎ ((stop ≡ p) × (time ≤ℤ x)) → IsBy (map (time_in f) ws) p x)
  not_lowered less p x = (λ h. inl h, back)
    where
      back : IsBy (map (time_in f) ws) p x ⊎ ((stop ≡ p) × (time ≤ℤ x)) → IsBy (map (time_in f) ws) p x
      back (inl h) = h
      back (inr h) =
          subst (λ o. IsSomeAnd o (λ t. t ≤ℤ x)) (sym (ap (λ q. get_or (map (time_in f) ws) q None) (sym h.0) ∙ at_stop ws inside))
          (sooner f w (get_or ws stop 0) time x (all stop 0 inside) less high is h.1)

  -- so the lesser of both may stand there
  pub lesser_written : (v : ℕ) → v ≡ min w (get_or ws stop 0) → (p : ℕ) (x : ℤ) → (IsBy (map (time_in f) (set ws stop v)) p x → IsBy (map (time_in f) ws) p x ⊎ ((stop ≡ p) × (time ≤ℤ x)))
      × (IsBy (map (time_in f) ws) p x ⊎ ((stop ≡ p) × (time ≤ℤ x)) → IsBy (map (time_in f) (set ws stop v)) p x)
  lesser_written v e p x = elim (cases_lt (get_or ws stop 0) w) [
    | inl h ↦
        let same : set ws stop v ≡ ws = ap (set ws stop) (e ∙ min-eq_right (omega (arith, h))) ∙ set-get_or ws stop 0 in
        subst (λ vs. (IsBy (map (time_in f) vs) p x → IsBy (map (time_in f) ws) p x ⊎ ((stop ≡ p) × (time ≤ℤ x))) × (IsBy (map (time_in f) ws) p x ⊎ ((stop ≡ p) × (time ≤ℤ x)) → IsBy (map (time_in f) vs) p x)) (sym same)
        (not_lowered (omega (arith, h)) p x)
    | inr h ↦
        subst (λ n. (IsBy (map (time_in f) (set ws stop n)) p x → IsBy (map (time_in f) ws) p x ⊎ ((stop ≡ p) × (time ≤ℤ x))) × (IsBy (map (time_in f) ws) p x ⊎ ((stop ≡ p) × (time ≤ℤ x)) → IsBy (map (time_in f) (set ws stop n)) p x)) (sym (e ∙ min-eq_left h))
        (lowered h p x)
  ]

-- words that no trip has written have no time
unwritten : (f n : ℕ) → f + 446400 ≤ 4294880895 → map (time_in f) (replicate n 4294880895) ≡ replicate n None
unwritten f n h =
    none_timed f (replicate n 4294880895) (All-replicate (λ (w : ℕ). f + 446400 ≤ w) n 4294880895 h)
    ∙ ap (λ k. replicate k None) (length-replicate n 4294880895)

pub begun_words : (f n k : ℕ) (old ws : List ℕ) → f + 446400 ≤ 4294880895 → old ≡ [] → k ≡ 0 → ws ≡ take n old ++ replicate (n - k) 4294880895 → map (time_in f) ws ≡ replicate n None
begun_words f n k old ws low empty none e =
    let all : length old ≤ n = (let zero : length old ≡ 0 = ap length empty in omega (arith, zero)) in
    let rest : n - k ≡ n = omega (arith, none) in
    ap (map (time_in f)) (e ∙ ap (λ xs. xs ++ replicate (n - k) 4294880895) (take_all n old all ∙ empty) ∙ ap (λ m. replicate m 4294880895) rest) ∙ unwritten f n low
