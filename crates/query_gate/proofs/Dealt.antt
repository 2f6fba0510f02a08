-- Runs of requests, one after another.
use Rattle.std.proofs.Common.{◌≡◌, ◌∙◌, refl, ap, sym, subst, ℕ, zero, suc, ◌+◌, ◌-◌, ◌<◌, ◌≤◌, List, [], ◌∷◌, ◌++◌, length, take, drop, get_or, arith}
use Rattle.std.specs.Prelude.{slice_index_or}
use Rattle.std.proofs.lemmas.List.{take_more}
use Rattle.query_gate.specs.declared.dealing.Place.{Place}
use Rattle.query_gate.specs.Dealing.{AreAnswered, AreDealt, AreReplies, HasAnswered, run_of}

pub dealt_more : {D A : Type 0} (from at : ℕ) (places : List (Place D A)) (p : Place D A) → AreDealt from places at → p.from ≡ at → at ≤ p.to → AreDealt from (places ++ p ∷ []) p.to
dealt_more from at [] p h e le = (e ∙ sym h, omega (arith, h, le), omega arith, refl)
dealt_more from at (s ∷ places) p h e le = (h.0, h.1, omega (arith, h.2, le), dealt_more s.to at places p h.3 e le)

pub dealt_at : {D A : Type 0} (from whole : ℕ) (places : List (Place D A)) (i : ℕ) (d : Place D A) → AreDealt from places whole → i < length places → ((slice_index_or places i d).from ≤ (slice_index_or places i d).to) × ((slice_index_or places i d).to ≤ whole)
dealt_at from whole [] i d h lt = absurd (omega (arith, lt))
dealt_at from whole (p ∷ places) zero d h lt = (omega (arith, h.0, h.1), h.2)
dealt_at from whole (p ∷ places) (suc i) d h lt = dealt_at p.to whole places i d h.3 (omega (arith, lt))

module _ {Q A : Type 0} (Right : Q → A → Type 0) where
  pub replies_more : (xs ys : List Q) (rs bs : List A) → AreReplies Right xs rs → AreReplies Right ys bs → AreReplies Right (xs ++ ys) (rs ++ bs)
  replies_more [] ys [] bs h i = i
  replies_more [] ys (a ∷ rs) bs h i = absurd h
  replies_more (x ∷ xs) ys [] bs h i = absurd h
  replies_more (x ∷ xs) ys (a ∷ rs) bs h i = (h.0, replies_more xs ys rs bs h.1 i)

  -- one more reply
  pub reply_more : (requests : List Q) (i : ℕ) (d : Q) (rs more : List A) (a : A) → i < length requests → AreReplies Right (take i requests) rs → Right (get_or requests i d) a → more ≡ rs ++ a ∷ [] → AreReplies Right (take (i + 1) requests) more
  reply_more requests i d rs more a lt h r e =
      let both = replies_more (take i requests) (get_or requests i d ∷ []) rs (a ∷ []) h (r, tt) in
      subst (λ l. AreReplies Right l more) (sym (take_more requests i d lt)) (subst (λ l. AreReplies Right (take i requests ++ get_or requests i d ∷ []) l) (sym e) both)

  -- one more run
  pub run_more : (requests : List Q) (from to : ℕ) (rs bs : List A) → from ≤ to → to ≤ length requests → AreReplies Right (take from requests) rs → AreReplies Right (run_of requests from to) bs → AreReplies Right (take to requests) (rs ++ bs)
  run_more requests from to rs bs le most h i =
      let n : from + (to - from) ≡ to = omega (arith, le) in
      let cut : take to requests ≡ take from requests ++ run_of requests from to = ap (λ k. take k requests) (sym n) ∙ both_parts from (to - from) requests (omega (arith, le, most)) in
      subst (λ l. AreReplies Right l (rs ++ bs)) (sym cut) (replies_more (take from requests) (run_of requests from to) rs bs h i)
    where
      both_parts : (a n : ℕ) (xs : List Q) → a ≤ length xs → take (a + n) xs ≡ take a xs ++ take n (drop a xs)
      both_parts zero n xs h = let e : 0 + n ≡ n = omega arith in ap (λ k. take k xs) e
      both_parts (suc a) n [] h = absurd (omega (arith, h))
      both_parts (suc a) n (x ∷ xs) h = let e : suc a + n ≡ suc (a + n) = omega arith in ap (λ k. take k (x ∷ xs)) e ∙ ap (λ l. x ∷ l) (both_parts a n xs (omega (arith, h)))

  -- the lanes answered the runs that were dealt
  pub all_answered : {D : Type 0} (requests : List Q) (from whole : ℕ) (before now : List (Place D A)) → length now ≡ length before → AreDealt from before whole
      → ((k : ℕ) (d : Place D A) → k < length before → ((slice_index_or now k d).from ≡ (slice_index_or before k d).from) × ((slice_index_or now k d).to ≡ (slice_index_or before k d).to)
      × HasAnswered Right (run_of requests (slice_index_or now k d).from (slice_index_or now k d).to) (slice_index_or now k d).replies)
      → AreAnswered Right requests from now whole
  all_answered requests from whole [] [] e h f = h
  all_answered requests from whole [] (s ∷ now) e h f = absurd (omega (arith, e))
  all_answered requests from whole (p ∷ before) [] e h f = absurd (omega (arith, e))
  all_answered requests from whole (p ∷ before) (s ∷ now) e h f =
      let here = f 0 s (omega arith) in
      let from_is : s.from ≡ from = here.0 ∙ h.0 in
      let to_is : s.to ≡ p.to = here.1 in (
        from_is,
        subst (λ t. from ≤ t) (sym to_is) h.1,
        subst (λ t. t ≤ whole) (sym to_is) h.2,
        subst (λ k. HasAnswered Right (run_of requests k s.to) s.replies) from_is here.2,
        all_answered requests s.to whole before now (omega (arith, e)) (subst (λ t. AreDealt t before whole) (sym to_is) h.3) (λ k d lt. f (suc k) d (omega (arith, lt))),
      )
