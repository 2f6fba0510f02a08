-- The nearest of targets that are looked at in turn.
use Rattle.std.proofs.Common.{◌≡◌, ℕ, ◌+◌, ◌<◌, ◌≤◌, ◌⊎◌, inl, inr, List, [], ◌∷◌, ◌++◌, Bool, true, false, cond, length, take, get_or, refl, sym, ap, subst, arith, Option, Some, None, nat_le}
use Rattle.std.specs.Prelude.{Contains, IfSome, nat_lt}
use Rattle.std.proofs.lemmas.Bool.Decides.{nat_tests}
use Rattle.std.proofs.lemmas.Bool.{cases_lt}
use Rattle.tb_base.specs.declared.table.Path.{Path}
use Rattle.tb_base.specs.TimetableData.{TimetableData}
use Rattle.tb_base.specs.Walking.{walk}
use Rattle.tb_base.proofs.Ordered.{Member-from_Contains, Contains-from_Member}
use Rattle.tb_base.proofs.Members.{Member-append, Member-left, Member-right}
use Rattle.earliest_query.specs.Choices.{IsNearest, IsPreferred, IsFirstChoice, nearer_of}

pub contains_push : (xs : List ℕ) (x q : ℕ) → Contains (xs ++ x ∷ []) q → Contains xs q ⊎ (x ≡ q)
contains_push xs x q h =
    elim (Member-append q xs (x ∷ []) (Member-from_Contains q (xs ++ x ∷ []) h)) [
      | inl k ↦ inl (Contains-from_Member q xs k)
      | inr k ↦ inr (elim k [ inl e ↦ e | inr k0 ↦ absurd k0 ])
    ]

pub contains_left : {X : Type 0} (xs ys : List X) (q : X) → Contains xs q → Contains (xs ++ ys) q
contains_left xs ys q h = Contains-from_Member q (xs ++ ys) (Member-left q xs ys (Member-from_Contains q xs h))

pub contains_right : {X : Type 0} (xs ys : List X) (q : X) → Contains ys q → Contains (xs ++ ys) q
contains_right xs ys q h = Contains-from_Member q (xs ++ ys) (Member-right q xs ys (Member-from_Contains q ys h))

contains_last : (xs : List ℕ) (x : ℕ) → Contains (xs ++ x ∷ []) x
contains_last xs x = contains_right xs (x ∷ []) x (Contains-from_Member x (x ∷ []) (inl refl))

module _ (T : TimetableData) (p : ℕ) where
  same_secs : (x q s w : ℕ) → x ≡ q → walk T p x ≡ Some s → walk T p q ≡ Some w → s ≡ w
  same_secs x q s w e f g = let k : walk T p x ≡ walk T p q = ap (walk T p) e in cc

  no_secs : (x q w : ℕ) → x ≡ q → walk T p x ≡ None → walk T p q ≡ Some w → ⊥
  no_secs x q w e f g = let k : walk T p x ≡ walk T p q = ap (walk T p) e in cc

  -- one more target is looked at
  nearest_push : (xs : List ℕ) (x : ℕ) (best : Option Path) (o : Option ℕ) → IsNearest T p xs best → walk T p x ≡ o → IsNearest T p (xs ++ x ∷ []) (nearer_of best x o)
  nearest_push xs x None None h e = λ q s to w. elim (contains_push xs x q to) [ inl k ↦ h q s k w | inr f ↦ no_secs x q s f e w ]
  nearest_push xs x (Some f) None h e = record {
    target = contains_left xs (x ∷ []) f.to h.target;
    walks = h.walks;
    nearest = λ q s to w. elim (contains_push xs x q to) [ inl k ↦ h.nearest q s k w | inr g ↦ absurd (no_secs x q s g e w) ];
  }
  nearest_push xs x None (Some secs) h e = record {
    target = contains_last xs x;
    walks = e;
    nearest = λ q s to w. elim (contains_push xs x q to) [ inl k ↦ absurd (h q s k w) | inr g ↦ omega (arith, same_secs x q secs s g e w) ];
  }
  nearest_push xs x (Some f) (Some secs) h e = by_test (nat_le f.secs secs) refl
    where
      by_test : (b : Bool) → b ≡ nat_le f.secs secs → IsNearest T p (xs ++ x ∷ []) (cond b (Some f) (Some (record { to = x; secs = secs })))
      by_test true t = record {
        target = contains_left xs (x ∷ []) f.to h.target;
        walks = h.walks;
        nearest = λ q s to w. elim (contains_push xs x q to) [ inl k ↦ h.nearest q s k w | inr g ↦ (let less : f.secs ≤ secs = grind (arith, nat_tests, t) in omega (arith, less, same_secs x q secs s g e w)) ];
      }
      by_test false t = record {
        target = contains_last xs x;
        walks = e;
        nearest = λ q s to w. elim (contains_push xs x q to) [ inl k ↦ (let less : secs < f.secs = grind (arith, nat_tests, t) in omega (arith, less, h.nearest q s k w)) | inr g ↦ omega (arith, same_secs x q secs s g e w) ];
      }

pub nearest_more : (T : TimetableData) (p : ℕ) (xs : List ℕ) (i x : ℕ) (best : Option Path) → take (i + 1) xs ≡ take i xs ++ x ∷ [] → IsNearest T p (take i xs) best → IsNearest T p (take (i + 1) xs) (nearer_of best x (walk T p x))
nearest_more T p xs i x best e h = subst (λ ys. IsNearest T p ys (nearer_of best x (walk T p x))) (sym e) (nearest_push T p (take i xs) x best (walk T p x) h refl)

pub nearer_within : (best : Option Path) (to : ℕ) (secs : Option ℕ) → IfSome best (λ f. f.secs ≤ 86400) → IfSome secs (λ s. s ≤ 86400) → IfSome (nearer_of best to secs) (λ f. f.secs ≤ 86400)
nearer_within best to None h k = h
nearer_within None to (Some s) h k = k
nearer_within (Some f) to (Some s) h k =
    elim (nat_le f.secs s) as (λ b. IfSome (cond b (Some f) (Some (record { to = to; secs = s }))) (λ (g : Path). g.secs ≤ 86400)) [ true ↦ h | false ↦ k ]

-- where no place is preferred, the choice is the first
pub none_preferred : (T : TimetableData) (origins : List ℕ) (place stop secs : ℕ) → place ≤ length origins →
    ((k : ℕ) → k < length origins → IsPreferred (walk T (get_or origins k 0) stop) secs (nat_lt k place) → ⊥) → IsFirstChoice T origins place stop secs
none_preferred T origins place stop secs within none = record {
  nearest = λ b s inside w. at_most s secs (λ less. none b inside (subst (λ o. IsPreferred o secs (nat_lt b place)) (sym w) (inl less)));
  first = λ b s before w. less s secs (at_most s secs (λ shorter. none b (omega (arith, before, within)) (subst (λ o. IsPreferred o secs (nat_lt b place)) (sym w) (inl shorter))))
      (λ same. none b (omega (arith, before, within)) (subst (λ o. IsPreferred o secs (nat_lt b place)) (sym w) (inr ((let t : nat_lt b place ≡ true = grind (arith, nat_tests, before) in t), same))));
}
  where
    at_most : (s secs : ℕ) → (s < secs → ⊥) → secs ≤ s
    at_most s secs h = elim (cases_lt s secs) [ inl k ↦ absurd (h k) | inr k ↦ k ]

    less : (s secs : ℕ) → secs ≤ s → (s ≡ secs → ⊥) → secs < s
    less s secs h k = elim (either s secs h) [ inl e ↦ absurd (k e) | inr l ↦ l ]
      where
        either : (a b : ℕ) → b ≤ a → (a ≡ b) ⊎ (b < a)
        either a b h = grind arith

-- and where one is, it is not
pub one_preferred : (T : TimetableData) (origins : List ℕ) (place stop secs k : ℕ) → k < length origins → IsPreferred (walk T (get_or origins k 0) stop) secs (nat_lt k place) → IsFirstChoice T origins place stop secs → ⊥
one_preferred T origins place stop secs k inside preferred choice = by_walk (walk T (get_or origins k 0) stop) refl preferred
  where
    by_walk : (o : Option ℕ) → walk T (get_or origins k 0) stop ≡ o → IsPreferred o secs (nat_lt k place) → ⊥
    by_walk None w p = p
    by_walk (Some s) w (inl shorter) = omega (arith, shorter, choice.nearest k s inside w)
    by_walk (Some s) w (inr (before, same)) = (let b : k < place = grind (arith, nat_tests, before) in omega (arith, same, choice.first k s b w))
