-- The best values of a query are one list.
use Rattle.std.proofs.Common.{◌≡◌, ◌<◌, inl, inr, List, arith}
use Rattle.std.proofs.lemmas.Int.{ints}
use Rattle.tb_base.specs.declared.query.Slot.{Slot}
use Rattle.tb_base.specs.Profiles.{WindowData, IsProfileSlot, IsProfile, SlotPrecedes}
use Rattle.std.proofs.lemmas.List.Elements.{All-contains}
use Rattle.tb_base.specs.declared.query.Value.{Value}
use Rattle.tb_base.specs.TimetableData.{TimetableData}
use Rattle.tb_base.specs.BestValues.{QueryData, IsBest, AreBestValues}
use Rattle.tb_base.proofs.Ordered.{Member-from_Contains, Contains-from_Member, same_members}

pub best_values_unique : (T : TimetableData) (Q : QueryData) (vs ws : List Value) → AreBestValues T Q vs → AreBestValues T Q ws → vs ≡ ws
best_values_unique T Q vs ws a b =
    same_members (λ (v w : Value). v.rides < w.rides) (λ v w p q. omega (arith, p, q)) vs ws a.ordered b.ordered
    (λ v h. Member-from_Contains v ws (b.complete v (All-contains (IsBest T Q) vs v a.best (Contains-from_Member v vs h))))
    (λ v h. Member-from_Contains v vs (a.complete v (All-contains (IsBest T Q) ws v b.best (Contains-from_Member v ws h))))

SlotPrecedes-asymmetric : (u v : Slot) → SlotPrecedes u v → SlotPrecedes v u → ⊥
SlotPrecedes-asymmetric u v (inl h) (inl k) = omega (arith, ints, h, k)
SlotPrecedes-asymmetric u v (inl h) (inr k) = omega (arith, ints, h, k.0)
SlotPrecedes-asymmetric u v (inr h) (inl k) = omega (arith, ints, h.0, k)
SlotPrecedes-asymmetric u v (inr h) (inr k) = omega (arith, h.1, k.1)

pub profile_unique : (T : TimetableData) (W : WindowData) (us vs : List Slot) → IsProfile T W us → IsProfile T W vs → us ≡ vs
profile_unique T W us vs a b =
    same_members SlotPrecedes SlotPrecedes-asymmetric us vs a.ordered b.ordered
    (λ v h. Member-from_Contains v vs (b.complete v (All-contains (IsProfileSlot T W) us v a.best (Contains-from_Member v us h))))
    (λ v h. Member-from_Contains v us (a.complete v (All-contains (IsProfileSlot T W) vs v b.best (Contains-from_Member v vs h))))
