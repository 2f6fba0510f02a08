-- The values that a sweep has found, with those of new hits.
use Rattle.std.proofs.Common.{◌≡◌, ◌⊎◌, inl, inr, List, [], ◌∷◌, ◌++◌, length, map, Bool, true, false, refl, sym, subst, arith}
use Rattle.std.specs.Prelude.{All, Contains}
use Rattle.std.specs.List.{items_where_true}
use Rattle.std.specs.List.Retain.{IsFiltered, ReturnsInTurn}
use Rattle.std.proofs.lemmas.List.Elements.{Contains-append_cases, Contains-append_left, Contains-append_right}
use Rattle.tb_base.specs.declared.query.Value.{Value}
use Rattle.tb_base.specs.BestValues.{IsNoWorse}
use Rattle.tb_base.proofs.Ordered.{Member, Contains-from_Member, Member-from_Contains}
use Rattle.tb_laws.specs.Pruning.{AreCoveredBy}
use Rattle.segment_queue.specs.declared.desk.Hit.{Hit}
use Rattle.segment_queue.proofs.Distinct.{all_by_member}
use Rattle.earliest_query.specs.Sweeping.{IsKeptBeside, values_with}
use Rattle.earliest_query.specs.UnderWay.{IsHit}
use Rattle.earliest_query.proofs.Keeping.{value_member}
use Rattle.tb_base.proofs.NumberFacts.{≤ℤ-refl}

-- what `retain` keeps was there, and what it lets go has P, where the closure's `false` gives it
module _ {X F : Type 0} (R : F → X → Bool → F → Type 0) (P : X → Type 0) (f : F) (h : (x : X) (b : Bool) (f' : F) → R f x b f' → (b ≡ false → P x) × (f' ≡ f)) where
  kept_or_not : (bs : List Bool) (xs : List X) (q : F) → length bs ≡ length xs → ReturnsInTurn R f bs xs q → (x : X) → Member x xs → Member x (items_where_true bs xs) ⊎ P x
  kept_or_not bs [] q long t x m = absurd m
  kept_or_not [] (y ∷ ys) q long t x m = absurd (omega (arith, long))
  kept_or_not (b ∷ bs) (y ∷ ys) q long t x m =
      let one = h y b t.0 t.1 in
      by_answer b one.0 m (kept_or_not bs ys q (omega (arith, long)) (subst (λ (g : F). ReturnsInTurn R g bs ys q) one.1 t.2) x)
    where
      by_answer : (b : Bool) → (b ≡ false → P y) → Member x (y ∷ ys) → (Member x ys → Member x (items_where_true bs ys) ⊎ P x) → Member x (items_where_true (b ∷ bs) (y ∷ ys)) ⊎ P x
      by_answer true gone (inl e) rest = inl (inl e)
      by_answer true gone (inr m) rest = elim (rest m) [ inl k ↦ inl (inr k) | inr p ↦ inr p ]
      by_answer false gone (inl e) rest = inr (subst P e (gone refl))
      by_answer false gone (inr m) rest = rest m

  was_there : (bs : List Bool) (xs : List X) (x : X) → Member x (items_where_true bs xs) → Member x xs
  was_there [] xs x m = absurd m
  was_there (b ∷ bs) [] x m = absurd m
  was_there (true ∷ bs) (y ∷ ys) x (inl e) = inl e
  was_there (true ∷ bs) (y ∷ ys) x (inr m) = inr (was_there bs ys x m)
  was_there (false ∷ bs) (y ∷ ys) x m = inr (was_there bs ys x m)

  pub retained_or : (xs ys : List X) → IsFiltered R f xs ys → (x : X) → Contains xs x → Contains ys x ⊎ P x
  retained_or xs ys k x c =
      elim (kept_or_not k.0 xs k.1 k.2 k.3 x (Member-from_Contains x xs c)) [
        | inl m ↦ inl (Contains-from_Member x ys (subst (Member x) (sym k.4) m))
        | inr p ↦ inr p
      ]

  pub retained_there : (xs ys : List X) → IsFiltered R f xs ys → (x : X) → Contains ys x → Contains xs x
  retained_there xs ys k x c = Contains-from_Member x xs (was_there k.0 xs x (subst (Member x) k.4 (Member-from_Contains x ys c)))

-- what `retain` keeps has P, where the closure's `true` gives it
module _ {X F : Type 0} (R : F → X → Bool → F → Type 0) (P : X → Type 0) (f : F) (h : (x : X) (b : Bool) (f' : F) → R f x b f' → (b ≡ true → P x) × (f' ≡ f)) where
  kept_has : (bs : List Bool) (xs : List X) (q : F) → ReturnsInTurn R f bs xs q → (x : X) → Member x (items_where_true bs xs) → P x
  kept_has [] xs q t x m = absurd m
  kept_has (b ∷ bs) [] q t x m = absurd m
  kept_has (true ∷ bs) (y ∷ ys) q t x (inl e) = subst P e ((h y true t.0 t.1).0 refl)
  kept_has (true ∷ bs) (y ∷ ys) q t x (inr m) = kept_has bs ys q (subst (λ (g : F). ReturnsInTurn R g bs ys q) (h y true t.0 t.1).1 t.2) x m
  kept_has (false ∷ bs) (y ∷ ys) q t x m = kept_has bs ys q (subst (λ (g : F). ReturnsInTurn R g bs ys q) (h y false t.0 t.1).1 t.2) x m

  pub retained_has : (xs ys : List X) → IsFiltered R f xs ys → (x : X) → Contains ys x → P x
  retained_has xs ys k x c = kept_has k.0 xs k.1 k.3 x (subst (Member x) k.4 (Member-from_Contains x ys c))

abbrev values_of : List Hit → List Value
values_of hits = map (λ (h : Hit). h.value) hits

itself : (v : Value) → IsNoWorse v v
itself v = (≤ℤ-refl v.arrive, omega arith)

module _ (hits : List Hit) (old kept new : List Value) (is : new ≡ kept ++ values_of hits) where
  -- the new values are old ones and those of the hits
  pub taken_from : ((v : Value) → Contains kept v → Contains old v) → All (Contains (values_with hits old)) new
  taken_from there = all_by_member (Contains (values_with hits old)) new (λ v m.
      elim (Contains-append_cases kept (values_of hits) v (subst (λ vs. Contains vs v) is (Contains-from_Member v new m))) [
        | inl k ↦ Contains-append_right (values_of hits) old v (there v k)
        | inr h ↦ Contains-append_left (values_of hits) old v h
      ])

  -- an old value that stays is one that no hit is no worse than
  pub taken_beside : ((v : Value) → Contains kept v → IsHit hits v → ⊥) → All (IsKeptBeside hits) new
  taken_beside unbeaten = all_by_member (IsKeptBeside hits) new (λ v m.
      elim (Contains-append_cases kept (values_of hits) v (subst (λ vs. Contains vs v) is (Contains-from_Member v new m))) [
        | inl k ↦ inr (unbeaten v k)
        | inr h ↦ inl h
      ])

  -- and each of those has one among the new that is no worse
  pub taken_covers : ((v : Value) → Contains old v → Contains kept v ⊎ IsHit hits v) → AreCoveredBy (values_with hits old) new
  taken_covers or_hit v c =
      elim (Contains-append_cases (values_of hits) old v c) [
        | inl h ↦ of_hit v h (itself v)
        | inr o ↦ elim (or_hit v o) [
          | inl k ↦ (v, subst (λ vs. Contains vs v) (sym is) (Contains-append_left kept (values_of hits) v k), itself v)
          | inr hit ↦ of_hit hit.by.value (Contains-from_Member hit.by.value (values_of hits) (value_member hit.by hits (Member-from_Contains hit.by hits hit.one))) hit.no_worse
        ]
      ]
    where
      of_hit : (w : Value) → Contains (values_of hits) w → IsNoWorse w v → (u : Value) × Contains new u × IsNoWorse u v
      of_hit w h le = (w, subst (λ vs. Contains vs w) (sym is) (Contains-append_right kept (values_of hits) w h), le)
