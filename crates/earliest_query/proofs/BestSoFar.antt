-- Hits and bounds of a ride, while the queue grows.
use Rattle.std.proofs.Common.{◌≡◌, ◌∙◌, ℕ, ◌<◌, ◌≤◌, ◌⊎◌, inl, inr, List, length, Bool, true, false, cond, refl, sym, ap, subst, arith, Option, None, Some, ℤ, pos, ◌+ℤ◌, ◌≤ℤ◌, ◌<ℤ◌}
use Rattle.std.specs.Prelude.{Contains, IfSome, IsSomeAnd, IsTrue, int_lt}
use Rattle.std.proofs.lemmas.Int.{ints}
use Rattle.tb_base.specs.declared.table.Path.{Path}
use Rattle.tb_base.specs.TimetableData.{TimetableData, arrival_at, stop_at, event_at, MayAlight}
use Rattle.tb_base.specs.Walking.{walk}
use Rattle.tb_base.specs.BestValues.{QueryData}
use Rattle.segment_queue.specs.declared.desk.Segment.{Segment}
use Rattle.segment_queue.specs.declared.desk.Hit.{Hit}
use Rattle.segment_queue.specs.declared.desk.LastLeg.{LastLeg}
use Rattle.segment_queue.specs.declared.desk.LastLeg.TheVariants.{OnFoot, Aboard}
use Rattle.segment_queue.specs.Queue.{DeskData}
use Rattle.segment_queue.specs.Traced.{IsTracedBy, IsTracedHit, round_of, segment_of}
use Rattle.earliest_query.specs.Choices.{ArrivesBy, IsBetterHit, IsNearestTarget, IsWalked, IsWeighed, alighting_hit, earlier_hit, walking_hit}
use Rattle.earliest_query.specs.UnderWay.{Covers, AddsSegments, IsBounded, IsImproved, IsNewHit}
use Rattle.earliest_query.proofs.Growing.{extends-long, extends-round, extends-segment}

pub traced-kept : (T : TimetableData) (Q : QueryData) (D D' : DeskData) (joined : ℕ) (h : Hit) → AddsSegments D D' joined → IsTracedHit T Q D.segments h → IsTracedHit T Q D'.segments h
traced-kept T Q D D' joined h e traced = by_leg h.last traced
  where
    by_leg : (last : LastLeg) → IsTracedBy T Q D.segments last h.value.arrive h.value.rides → IsTracedBy T Q D'.segments last h.value.arrive h.value.rides
    by_leg (OnFoot from to) k = k
    by_leg (Aboard n i to) k =
        let same : segment_of D'.segments n ≡ segment_of D.segments n = extends-segment D D' joined e n k.inside in
        record {
          inside = omega (arith, k.inside, extends-long D D' joined e);
          onward = omega (arith, k.onward, ap (λ (s : Segment). s.board) same);
          within = omega (arith, k.within, ap (λ (s : Segment). s.end) same);
          alights = subst (λ (s : Segment). MayAlight T s.trip i) (sym same) k.alights;
          target = k.target;
          secs = k.secs;
          walks = subst (λ (s : Segment). walk T (stop_at T s.trip i) to ≡ Some k.secs) (sym same) k.walks;
          nearest = subst (λ (s : Segment). (q s' : ℕ) → Contains Q.to q → walk T (stop_at T s.trip i) q ≡ Some s' → k.secs ≤ s') (sym same) k.nearest;
          arrives = subst (λ (s : Segment). h.value.arrive ≡ arrival_at T s.trip i +ℤ pos k.secs) (sym same) k.arrives;
          rounds = k.rounds ∙ sym (extends-round D D' joined e n k.inside);
        }

pub some_weaker : {X : Type 0} (P R : X → Type 0) → ((x : X) → P x → R x) → (o : Option X) → IsSomeAnd o P → IsSomeAnd o R
some_weaker P R f None h = h
some_weaker P R f (Some x) h = f x h

pub new_hit-kept : (T : TimetableData) (Q : QueryData) (D D' : DeskData) (joined round : ℕ) (best result : Option Hit) → AddsSegments D D' joined → IsImproved T Q D round best result → IsImproved T Q D' round best result
new_hit-kept T Q D D' joined round best result e (inl same) = inl same
new_hit-kept T Q D D' joined round best result e (inr new) =
    inr (some_weaker (IsNewHit T Q D round best) (IsNewHit T Q D' round best) (λ h n. record { traced = traced-kept T Q D D' joined h e n.traced; rides = n.rides; sooner = n.sooner }) result new)

sooner_still : (a b : Option Hit) (h : Hit) → IsSomeAnd b (λ x. IfSome a (λ o. x.value.arrive <ℤ o.value.arrive)) → IfSome b (λ o. h.value.arrive <ℤ o.value.arrive) → IfSome a (λ o. h.value.arrive <ℤ o.value.arrive)
sooner_still None b h p q = tt
sooner_still (Some o) None h p q = absurd p
sooner_still (Some o) (Some x) h p q = omega (arith, ints, p, q)

pub improved-trans : (T : TimetableData) (Q : QueryData) (D D' : DeskData) (joined round : ℕ) (a b c : Option Hit) → AddsSegments D D' joined → IsImproved T Q D round a b → IsImproved T Q D' round b c → IsImproved T Q D' round a c
improved-trans T Q D D' joined round a b c e first (inl same) = subst (λ x. IsImproved T Q D' round a x) (sym same) (new_hit-kept T Q D D' joined round a b e first)
improved-trans T Q D D' joined round a b c e (inl same) (inr new) = inr (subst (λ x. IsSomeAnd c (IsNewHit T Q D' round x)) same new)
improved-trans T Q D D' joined round a b c e (inr old) (inr new) =
    inr (some_weaker (IsNewHit T Q D' round b) (IsNewHit T Q D' round a)
    (λ h n. record { traced = n.traced; rides = n.rides; sooner = sooner_still a b h (some_weaker (IsNewHit T Q D round a) (λ x. IfSome a (λ o. x.value.arrive <ℤ o.value.arrive)) (λ x m. m.sooner) b old) n.sooner }) c new)

-- what the best arrives by, a better one arrives by
pub arrives_by-improved : (T : TimetableData) (Q : QueryData) (D : DeskData) (round : ℕ) (a b : Option Hit) (time : ℤ) → IsImproved T Q D round a b → ArrivesBy a time → ArrivesBy b time
arrives_by-improved T Q D round a b time (inl same) by = subst (λ x. ArrivesBy x time) (sym same) by
arrives_by-improved T Q D round None b time (inr new) by = absurd by
arrives_by-improved T Q D round (Some o) None time (inr new) by = absurd new
arrives_by-improved T Q D round (Some o) (Some h) time (inr new) by = (let sooner : h.value.arrive <ℤ o.value.arrive = new.sooner in omega (arith, ints, sooner, by))

pub bounded-improved : (T : TimetableData) (Q : QueryData) (D E : DeskData) (round : ℕ) (a b : Option Hit) (n i : ℕ) → IsImproved T Q E round a b → IsBounded T Q D a n i → IsBounded T Q D b n i
bounded-improved T Q D E round a b n i improved bounded = λ q secs offer. arrives_by-improved T Q E round a b (arrival_at T (segment_of D.segments n).trip i +ℤ pos secs) improved (bounded q secs offer)

int_lt_cases : (a b : ℤ) → ((a <ℤ b) × (int_lt a b ≡ true)) ⊎ ((b ≤ℤ a) × (int_lt a b ≡ false))
int_lt_cases a b = by_test (int_lt a b) refl
  where
    by_test : (r : Bool) → r ≡ int_lt a b → ((a <ℤ b) × (int_lt a b ≡ true)) ⊎ ((b ≤ℤ a) × (int_lt a b ≡ false))
    by_test true e = inl (let f : a <ℤ b = grind (arith, ints, e) in f, sym e)
    by_test false e = inr (let f : b ≤ℤ a = grind (arith, ints, e) in f, sym e)

-- the nearest target is weighed
pub weighed_nearest : (T : TimetableData) (Q : QueryData) (stop : ℕ) (arr : ℤ) (alight : Bool) (n i round : ℕ) (best : Option Hit) (f : Path) → IsTrue alight → IsNearestTarget T stop Q.to f.to f.secs
    → IsWeighed T Q stop arr alight n i round best (earlier_hit best (alighting_hit arr f n i round))
weighed_nearest T Q stop arr alight n i round None f allowed target = record {
  kept = inr (allowed, record { to = f.to; secs = f.secs; target = target; is = refl; sooner = tt });
  bounded = λ _ q s to w. (let less = target.nearest q s to w in omega (arith, ints, less));
}
weighed_nearest T Q stop arr alight n i round (Some b) f allowed target =
    elim (int_lt_cases (arr +ℤ pos f.secs) b.value.arrive) [
      | inl e ↦ subst (λ t. IsWeighed T Q stop arr alight n i round (Some b) (cond t (Some (alighting_hit arr f n i round)) (Some b))) (sym e.1) (record {
        kept = inr (allowed, record { to = f.to; secs = f.secs; target = target; is = refl; sooner = e.0 });
        bounded = λ _ q s to w. (let less = target.nearest q s to w in omega (arith, ints, less));
      })
      | inr e ↦ subst (λ t. IsWeighed T Q stop arr alight n i round (Some b) (cond t (Some (alighting_hit arr f n i round)) (Some b))) (sym e.1) (record {
        kept = inl refl;
        bounded = λ _ q s to w. (let less = target.nearest q s to w in omega (arith, ints, less, e.0));
      })
    ]

module _ (T : TimetableData) (Q : QueryData) (D D' : DeskData) (joined n i round : ℕ) (best result : Option Hit) (extends : AddsSegments D D' joined) (inside : n < length D.segments) (covers : Covers D n i) (is_round : round_of D.segments n ≡ round)
    (weighed : IsWeighed T Q (stop_at T (segment_of D.segments n).trip i) (arrival_at T (segment_of D.segments n).trip i) (event_at T (segment_of D.segments n).trip i).alight n i round best result) where
  pub weighed_bounded : IsBounded T Q D result n i
  weighed_bounded = λ q secs offer. weighed.bounded offer.alights q secs offer.target offer.walks

  pub weighed_improved : IsImproved T Q D' round best result
  weighed_improved = elim weighed.kept [ inl same ↦ inl same | inr new ↦ inr (some_weaker (IsBetterHit T Q (stop_at T (segment_of D.segments n).trip i) (arrival_at T (segment_of D.segments n).trip i) n i round best) (IsNewHit T Q D' round best) (λ h b. better h b new.0) result new.1) ]
    where
      better : (h : Hit) → IsBetterHit T Q (stop_at T (segment_of D.segments n).trip i) (arrival_at T (segment_of D.segments n).trip i) n i round best h → MayAlight T (segment_of D.segments n).trip i → IsNewHit T Q D' round best h
      better h b alights = record {
        traced = traced-kept T Q D D' joined h extends (subst (IsTracedHit T Q D.segments) (sym b.is) (record {
          inside = inside;
          onward = covers.onward;
          within = covers.within;
          alights = alights;
          target = b.target.target;
          secs = b.secs;
          walks = b.target.walks;
          nearest = b.target.nearest;
          arrives = refl;
          rounds = sym is_round;
        }));
        rides = ap (λ (x : Hit). x.value.rides) b.is;
        sooner = b.sooner;
      }

pub covers-kept : (D E : DeskData) (n i : ℕ) → segment_of D.segments n ≡ segment_of E.segments n → Covers D n i → Covers E n i
covers-kept D E n i same c = record { onward = omega (arith, c.onward, ap (λ (s : Segment). s.board) same); within = omega (arith, c.within, ap (λ (s : Segment). s.end) same) }

pub bounded-same : (T : TimetableData) (Q : QueryData) (E D : DeskData) (best : Option Hit) (n i : ℕ) → segment_of E.segments n ≡ segment_of D.segments n → IsBounded T Q E best n i → IsBounded T Q D best n i
bounded-same T Q E D best n i same bounded = λ q secs offer.
    subst (λ (s : Segment). ArrivesBy best (arrival_at T s.trip i +ℤ pos secs)) same
    (bounded q secs (record {
      alights = subst (λ (s : Segment). MayAlight T s.trip i) (sym same) offer.alights;
      target = offer.target;
      walks = subst (λ (s : Segment). walk T (stop_at T s.trip i) q ≡ Some secs) (sym same) offer.walks;
    }))

pub weighed_as : (T : TimetableData) (Q : QueryData) (p q : ℕ) (a b : ℤ) (x y : Bool) (n i round : ℕ) (best result : Option Hit) → p ≡ q → a ≡ b → x ≡ y → IsWeighed T Q p a x n i round best result → IsWeighed T Q q b y n i round best result
weighed_as T Q p q a b x y n i round best result e f g w =
    subst (λ z. IsWeighed T Q q b z n i round best result) g (subst (λ z. IsWeighed T Q q z x n i round best result) f (subst (λ z. IsWeighed T Q z a x n i round best result) e w))

pub earlier_kept : (best : Option Hit) (h : Hit) → (earlier_hit best h ≡ best) ⊎ (earlier_hit best h ≡ Some h)
earlier_kept None h = inr refl
earlier_kept (Some b) h = elim (int_lt_cases h.value.arrive b.value.arrive) [ inl e ↦ inr (ap (λ t. cond t (Some h) (Some b)) e.1) | inr e ↦ inl (ap (λ t. cond t (Some h) (Some b)) e.1) ]

pub earlier_still : (best : Option Hit) (h : Hit) (time : ℤ) → ArrivesBy best time → ArrivesBy (earlier_hit best h) time
earlier_still None h time by = absurd by
earlier_still (Some b) h time by =
    elim (int_lt_cases h.value.arrive b.value.arrive) [
      | inl e ↦ subst (λ t. ArrivesBy (cond t (Some h) (Some b)) time) (sym e.1) (let less = e.0 in omega (arith, ints, less, by))
      | inr e ↦ subst (λ t. ArrivesBy (cond t (Some h) (Some b)) time) (sym e.1) by
    ]

earlier_by : (best : Option Hit) (h : Hit) (time : ℤ) → h.value.arrive ≤ℤ time → ArrivesBy (earlier_hit best h) time
earlier_by None h time by = by
earlier_by (Some b) h time by =
    elim (int_lt_cases h.value.arrive b.value.arrive) [
      | inl e ↦ subst (λ t. ArrivesBy (cond t (Some h) (Some b)) time) (sym e.1) by
      | inr e ↦ subst (λ t. ArrivesBy (cond t (Some h) (Some b)) time) (sym e.1) (let more = e.0 in omega (arith, ints, more, by))
    ]

some_first : {X : Type 0} (P : X → Type 0) (o : Option X) (x : X) → o ≡ Some x → P x → IsSomeAnd o P
some_first P o x e p = subst (λ r. IsSomeAnd r P) (sym e) p

-- the walks from an origin are weighed by the walk to the nearest target
pub walked_nearest : (T : TimetableData) (Q : QueryData) (origin : ℕ) (best : Option Hit) (f : Path) → IsNearestTarget T origin Q.to f.to f.secs → IsWalked T Q origin best (earlier_hit best (walking_hit Q.leave origin f))
walked_nearest T Q origin best f target = record {
  kept = elim (earlier_kept best (walking_hit Q.leave origin f)) [
    | inl e ↦ inl e
    | inr e ↦ inr (some_first (λ h. (f : Path) × IsNearestTarget T origin Q.to f.to f.secs × (h ≡ walking_hit Q.leave origin f)) (earlier_hit best (walking_hit Q.leave origin f)) (walking_hit Q.leave origin f) e (f, target, refl))
  ];
  bounded = λ q s to w. earlier_by best (walking_hit Q.leave origin f) (Q.leave +ℤ pos s) (let less = target.nearest q s to w in omega (arith, ints, less));
  still = λ time by. earlier_still best (walking_hit Q.leave origin f) time by;
}

-- the best walk so far
abbrev pub IsWalkHit : TimetableData → QueryData → Hit → Type 0
IsWalkHit T Q h = ((segments : List Segment) → IsTracedHit T Q segments h) × (h.value.rides ≡ 0)

pub walked_traced : (T : TimetableData) (Q : QueryData) (origin : ℕ) (best result : Option Hit) → Contains Q.from origin → IfSome best (IsWalkHit T Q) → IsWalked T Q origin best result → IfSome result (IsWalkHit T Q)
walked_traced T Q origin best result from old walked = elim walked.kept [ inl e ↦ subst (λ o. IfSome o (IsWalkHit T Q)) (sym e) old | inr new ↦ fresh result new ]
  where
    fresh : (o : Option Hit) → IsSomeAnd o (λ h. (f : Path) × IsNearestTarget T origin Q.to f.to f.secs × (h ≡ walking_hit Q.leave origin f)) → IfSome o (IsWalkHit T Q)
    fresh None h = tt
    fresh (Some h) (f, target, is) = (
      λ segments. subst (IsTracedHit T Q segments) (sym is) (record { origin = from; target = target.target; secs = f.secs; walks = target.walks; arrives = refl; no_ride = refl }),
      ap (λ (x : Hit). x.value.rides) is,
    )
