-- The lesser of two times, and the least that some events offer.
use Rattle.std.proofs.Common.{◌≡◌, ◌∙◌, sym, ap, subst, refl, ℕ, ◌⊎◌, inl, inr, Bool, true, false, cond, ◌||◌, List, [], ◌∷◌, ℤ, pos, ◌+ℤ◌, ◌≤ℤ◌, Option, Some, None, arith}
use Rattle.std.specs.Prelude.{int_le, int_lt, filter_map, IsSomeAnd}
use Rattle.std.specs.List.{cons_option, list_any}
use Rattle.std.specs.Int.{int_min}
use Rattle.std.specs.Option.{option_map}
use Rattle.std.proofs.lemmas.Int.{ints}
use Rattle.tb_base.specs.declared.table.Event.{Event}
use Rattle.tb_base.specs.TimetableData.{TimetableData}
use Rattle.tb_base.specs.Walking.{walk}
use Rattle.tb_base.specs.Transfers.{earliest_offer, is_sooner, least}
use Rattle.tb_base.proofs.Ordered.{Member}
use Rattle.tb_laws.specs.Labels.{lesser, label}
use Rattle.tb_base.proofs.NumberFacts.{≤ℤ-antisym, le-int_le, int_lt-false, ≤ℤ-trans}

pub ≤ℤ-cases : (x y : ℤ) → (x ≤ℤ y) ⊎ (y ≤ℤ x)
≤ℤ-cases x y = by_test (int_le x y) refl
  where
    yes : int_le x y ≡ true → x ≤ℤ y
    yes h = grind (arith, ints, h)

    no : int_le x y ≡ false → y ≤ℤ x
    no h = grind (arith, ints, h)

    by_test : (b : Bool) → b ≡ int_le x y → (x ≤ℤ y) ⊎ (y ≤ℤ x)
    by_test true e = inl (yes (sym e))
    by_test false e = inr (no (sym e))

pub lesser-left : (x y : ℤ) → x ≤ℤ y → lesser (Some x) (Some y) ≡ Some x
lesser-left x y h = ap (λ b. cond b (Some x) (Some y)) (le-int_le x y h)

pub lesser-right : (x y : ℤ) → y ≤ℤ x → lesser (Some x) (Some y) ≡ Some y
lesser-right x y h = by_case (≤ℤ-cases x y)
  where
    by_case : (x ≤ℤ y) ⊎ (y ≤ℤ x) → lesser (Some x) (Some y) ≡ Some y
    by_case (inl g) = lesser-left x y g ∙ ap (λ z. Some z) (≤ℤ-antisym x y g h)
    by_case (inr g) = by_test (int_le x y) refl
      where
        yes : int_le x y ≡ true → x ≤ℤ y
        yes k = grind (arith, ints, k)

        by_test : (b : Bool) → b ≡ int_le x y → cond b (Some x) (Some y) ≡ Some y
        by_test true e = ap (λ z. Some z) (≤ℤ-antisym x y (yes (sym e)) h)
        by_test false e = refl

pub lesser-none : (a : Option ℤ) → lesser a None ≡ a
lesser-none None = refl
lesser-none (Some x) = refl

pub lesser-comm : (a b : Option ℤ) → lesser a b ≡ lesser b a
lesser-comm None b = sym (lesser-none b)
lesser-comm (Some x) None = refl
lesser-comm (Some x) (Some y) = elim (≤ℤ-cases x y) [ inl h ↦ lesser-left x y h ∙ sym (lesser-right y x h) | inr h ↦ lesser-right x y h ∙ sym (lesser-left y x h) ]

pub lesser-assoc : (a b c : Option ℤ) → lesser (lesser a b) c ≡ lesser a (lesser b c)
lesser-assoc None b c = refl
lesser-assoc (Some x) None c = refl
lesser-assoc (Some x) (Some y) None = lesser-none (lesser (Some x) (Some y))
lesser-assoc (Some x) (Some y) (Some z) = by_cases (≤ℤ-cases x y) (≤ℤ-cases y z)
  where
    by_cases : (x ≤ℤ y) ⊎ (y ≤ℤ x) → (y ≤ℤ z) ⊎ (z ≤ℤ y) → lesser (lesser (Some x) (Some y)) (Some z) ≡ lesser (Some x) (lesser (Some y) (Some z))
    by_cases (inl g) (inl h) = ap (λ o. lesser o (Some z)) (lesser-left x y g) ∙ lesser-left x z (≤ℤ-trans x y z g h) ∙ sym (ap (lesser (Some x)) (lesser-left y z h) ∙ lesser-left x y g)
    by_cases (inl g) (inr h) = ap (λ o. lesser o (Some z)) (lesser-left x y g) ∙ sym (ap (lesser (Some x)) (lesser-right y z h))
    by_cases (inr g) (inl h) = ap (λ o. lesser o (Some z)) (lesser-right x y g) ∙ lesser-left y z h ∙ sym (ap (lesser (Some x)) (lesser-left y z h) ∙ lesser-right x y g)
    by_cases (inr g) (inr h) = ap (λ o. lesser o (Some z)) (lesser-right x y g) ∙ lesser-right y z h ∙ sym (ap (lesser (Some x)) (lesser-right y z h) ∙ lesser-right x z (≤ℤ-trans z y x h g))

-- the lesser is one of the two, and at most each
pub lesser-is : (a b : Option ℤ) (x : ℤ) → lesser a b ≡ Some x → (a ≡ Some x) ⊎ (b ≡ Some x)
lesser-is None b x h = inr h
lesser-is (Some y) None x h = inl h
lesser-is (Some y) (Some z) x h = elim (≤ℤ-cases y z) [ inl k ↦ inl (sym (lesser-left y z k) ∙ h) | inr k ↦ inr (sym (lesser-right y z k) ∙ h) ]

pub lesser-below_left : (a b : Option ℤ) (x : ℤ) → IsSomeAnd a (λ y. y ≤ℤ x) → IsSomeAnd (lesser a b) (λ y. y ≤ℤ x)
lesser-below_left None b x h = absurd h
lesser-below_left (Some y) None x h = h
lesser-below_left (Some y) (Some z) x h = elim (≤ℤ-cases y z) [
  | inl k ↦ subst (λ o. IsSomeAnd o (λ y. y ≤ℤ x)) (sym (lesser-left y z k)) h
  | inr k ↦ subst (λ o. IsSomeAnd o (λ y. y ≤ℤ x)) (sym (lesser-right y z k)) (≤ℤ-trans z y x k h)
]

-- the lesser comes by a time where one of the two does
pub lesser-by : (a b : Option ℤ) (x : ℤ) → IsSomeAnd (lesser a b) (λ y. y ≤ℤ x) → IsSomeAnd a (λ y. y ≤ℤ x) ⊎ IsSomeAnd b (λ y. y ≤ℤ x)
lesser-by None b x h = inr h
lesser-by (Some y) None x h = inl h
lesser-by (Some y) (Some z) x h = elim (≤ℤ-cases y z) [
  | inl k ↦ inl (subst (λ o. IsSomeAnd o (λ y. y ≤ℤ x)) (lesser-left y z k) h)
  | inr k ↦ inr (subst (λ o. IsSomeAnd o (λ y. y ≤ℤ x)) (lesser-right y z k) h)
]

pub lesser-below_right : (a b : Option ℤ) (x : ℤ) → IsSomeAnd b (λ y. y ≤ℤ x) → IsSomeAnd (lesser a b) (λ y. y ≤ℤ x)
lesser-below_right a b x h = subst (λ o. IsSomeAnd o (λ y. y ≤ℤ x)) (lesser-comm b a) (lesser-below_left b a x h)

-- what is not sooner comes no earlier than some time
pub not_sooner-some : (x : ℤ) (b : Option ℤ) → is_sooner (Some x) b ≡ false → IsSomeAnd b (λ y. y ≤ℤ x)
not_sooner-some x None h = cc
not_sooner-some x (Some y) h = int_lt-false x y h

pub some_not_sooner : (x : ℤ) (b : Option ℤ) → IsSomeAnd b (λ y. y ≤ℤ x) → is_sooner (Some x) b ≡ false
some_not_sooner x None h = absurd h
some_not_sooner x (Some y) h = not_less x y h
  where
    not_less : (x y : ℤ) → y ≤ℤ x → int_lt x y ≡ false
    not_less x y h = grind (arith, ints)

pub is_sooner-lesser_left : (a b c : Option ℤ) → is_sooner (lesser a b) c ≡ (is_sooner a c || is_sooner b c)
is_sooner-lesser_left None b c = refl
is_sooner-lesser_left (Some x) None c = or_false (is_sooner (Some x) c)
  where
    or_false : (b : Bool) → b ≡ (b || false)
    or_false true = refl
    or_false false = refl
is_sooner-lesser_left (Some x) (Some y) None = by_case (≤ℤ-cases x y)
  where
    by_case : (x ≤ℤ y) ⊎ (y ≤ℤ x) → is_sooner (lesser (Some x) (Some y)) None ≡ true
    by_case (inl h) = ap (λ o. is_sooner o None) (lesser-left x y h)
    by_case (inr h) = ap (λ o. is_sooner o None) (lesser-right x y h)
is_sooner-lesser_left (Some x) (Some y) (Some z) = by_case (≤ℤ-cases x y)
  where
    left : (x y z : ℤ) → x ≤ℤ y → int_lt x z ≡ (int_lt x z || int_lt y z)
    left x y z h = grind (arith, ints)

    right : (x y z : ℤ) → y ≤ℤ x → int_lt y z ≡ (int_lt x z || int_lt y z)
    right x y z h = grind (arith, ints)

    by_case : (x ≤ℤ y) ⊎ (y ≤ℤ x) → is_sooner (lesser (Some x) (Some y)) (Some z) ≡ (int_lt x z || int_lt y z)
    by_case (inl h) = ap (λ o. is_sooner o (Some z)) (lesser-left x y h) ∙ left x y z h
    by_case (inr h) = ap (λ o. is_sooner o (Some z)) (lesser-right x y h) ∙ right x y z h

-- ---- the least that some events offer

lesser-int_min : (x y : ℤ) → Some (int_min x y) ≡ lesser (Some x) (Some y)
lesser-int_min x y = elim (≤ℤ-cases x y) [ inl h ↦ ap (λ z. Some z) (least_left x y h) ∙ sym (lesser-left x y h) | inr h ↦ ap (λ z. Some z) (least_right x y h) ∙ sym (lesser-right x y h) ]
  where
    least_left : (x y : ℤ) → x ≤ℤ y → int_min x y ≡ x
    least_left x y h = grind (arith, ints)

    least_right : (x y : ℤ) → y ≤ℤ x → int_min x y ≡ y
    least_right x y h = grind (arith, ints)

least-cons : (x : ℤ) (xs : List ℤ) → least (x ∷ xs) ≡ lesser (Some x) (least xs)
least-cons x [] = refl
least-cons x (y ∷ ys) =
    least-cons (int_min x y) ys ∙ ap (λ o. lesser o (least ys)) (lesser-int_min x y) ∙ lesser-assoc (Some x) (Some y) (least ys) ∙ ap (lesser (Some x)) (sym (least-cons y ys))

-- what an event offers at a stop, by these seconds
abbrev pub offer_by : (ℕ → ℕ → Option ℕ) → Event → ℕ → Option ℤ
offer_by secs_to e p = earliest_offer secs_to (e ∷ []) p

-- it walks there
pub offer_by-walk : (T : TimetableData) (e : Event) (p : ℕ) → offer_by (walk T) e p ≡ option_map (λ secs. e.arr +ℤ pos secs) (walk T e.stop p)
offer_by-walk T e p = by_option (walk T e.stop p)
  where
    by_option : (o : Option ℕ) → least (cons_option (option_map (λ secs. e.arr +ℤ pos secs) o) []) ≡ option_map (λ secs. e.arr +ℤ pos secs) o
    by_option None = refl
    by_option (Some secs) = refl

pub earliest_offer-cons : (secs_to : ℕ → ℕ → Option ℕ) (e : Event) (es : List Event) (p : ℕ) → earliest_offer secs_to (e ∷ es) p ≡ lesser (offer_by secs_to e p) (earliest_offer secs_to es p)
earliest_offer-cons secs_to e es p = by_option (secs_to e.stop p)
  where
    by_option : (o : Option ℕ) → least (cons_option (option_map (λ secs. e.arr +ℤ pos secs) o) (filter_map (λ e. option_map (λ secs. e.arr +ℤ pos secs) (secs_to e.stop p)) es))
        ≡ lesser (least (cons_option (option_map (λ secs. e.arr +ℤ pos secs) o) [])) (earliest_offer secs_to es p)
    by_option None = refl
    by_option (Some secs) = least-cons (e.arr +ℤ pos secs) (filter_map (λ e. option_map (λ secs. e.arr +ℤ pos secs) (secs_to e.stop p)) es)

-- the earliest of some events is sooner where one of them is
pub earliest_sooner : (secs_to : ℕ → ℕ → Option ℕ) (es : List Event) (p : ℕ) (c : Option ℤ) → is_sooner (earliest_offer secs_to es p) c ≡ list_any (λ e. is_sooner (offer_by secs_to e p) c) es
earliest_sooner secs_to [] p c = refl
earliest_sooner secs_to (e ∷ es) p c =
    ap (λ o. is_sooner o c) (earliest_offer-cons secs_to e es p) ∙ is_sooner-lesser_left (offer_by secs_to e p) (earliest_offer secs_to es p) c ∙ ap (λ b. is_sooner (offer_by secs_to e p) c || b) (earliest_sooner secs_to es p c)

-- a label is the offer of an event of some earlier alternative
pub record IsTimeOffered (secs_to : ℕ → ℕ → Option ℕ) (ess : List (List Event)) (p : ℕ) (time : ℤ) : Type 0 where
  pub events : List Event
  pub among : Member events ess
  pub event : Event
  pub member : Member event events
  pub offer : offer_by secs_to event p ≡ Some time

pub earliest_is : (secs_to : ℕ → ℕ → Option ℕ) (es : List Event) (p : ℕ) (time : ℤ) → earliest_offer secs_to es p ≡ Some time → (e : Event) × Member e es × (offer_by secs_to e p ≡ Some time)
earliest_is secs_to [] p time h = cc
earliest_is secs_to (e ∷ es) p time h = by_case (λ k. earliest_is secs_to es p time k) (lesser-is (offer_by secs_to e p) (earliest_offer secs_to es p) time (sym (earliest_offer-cons secs_to e es p) ∙ h))
  where
    by_case : (earliest_offer secs_to es p ≡ Some time → (f : Event) × Member f es × (offer_by secs_to f p ≡ Some time)) → (offer_by secs_to e p ≡ Some time) ⊎ (earliest_offer secs_to es p ≡ Some time) → (f : Event) × Member f (e ∷ es) × (offer_by secs_to f p ≡ Some time)
    by_case more (inl k) = (e, inl refl, k)
    by_case more (inr k) = let r = more k in (r.0, inr r.1, r.2)

pub label_offered : (secs_to : ℕ → ℕ → Option ℕ) (ess : List (List Event)) (p : ℕ) (time : ℤ) → label secs_to ess p ≡ Some time → IsTimeOffered secs_to ess p time
label_offered secs_to [] p time h = cc
label_offered secs_to (es ∷ ess) p time h = by_case (λ k. label_offered secs_to ess p time k) (lesser-is (earliest_offer secs_to es p) (label secs_to ess p) time h)
  where
    by_case : (label secs_to ess p ≡ Some time → IsTimeOffered secs_to ess p time) → (earliest_offer secs_to es p ≡ Some time) ⊎ (label secs_to ess p ≡ Some time) → IsTimeOffered secs_to (es ∷ ess) p time
    by_case more (inl k) = let r = earliest_is secs_to es p time k in record { events = es; among = inl refl; event = r.0; member = r.1; offer = r.2 }
    by_case more (inr k) = let r : IsTimeOffered secs_to ess p time = more k in record { events = r.events; among = inr r.among; event = r.event; member = r.member; offer = r.offer }

-- and at most each such offer
pub earliest_below : (secs_to : ℕ → ℕ → Option ℕ) (es : List Event) (p : ℕ) (e : Event) (x : ℤ) → Member e es → IsSomeAnd (offer_by secs_to e p) (λ y. y ≤ℤ x) → IsSomeAnd (earliest_offer secs_to es p) (λ y. y ≤ℤ x)
earliest_below secs_to [] p e x m h = absurd m
earliest_below secs_to (f ∷ fs) p e x (inl is) h =
    subst (λ o. IsSomeAnd o (λ y. y ≤ℤ x)) (sym (earliest_offer-cons secs_to f fs p))
    (lesser-below_left (offer_by secs_to f p) (earliest_offer secs_to fs p) x (subst (λ (g : Event). IsSomeAnd (offer_by secs_to g p) (λ y. y ≤ℤ x)) (sym is) h))
earliest_below secs_to (f ∷ fs) p e x (inr m) h =
    subst (λ o. IsSomeAnd o (λ y. y ≤ℤ x)) (sym (earliest_offer-cons secs_to f fs p)) (lesser-below_right (offer_by secs_to f p) (earliest_offer secs_to fs p) x (earliest_below secs_to fs p e x m h))

pub label_below : (secs_to : ℕ → ℕ → Option ℕ) (ess : List (List Event)) (p : ℕ) (es : List Event) (e : Event) (x : ℤ) → Member es ess → Member e es → IsSomeAnd (offer_by secs_to e p) (λ y. y ≤ℤ x) → IsSomeAnd (label secs_to ess p) (λ y. y ≤ℤ x)
label_below secs_to [] p es e x m n h = absurd m
label_below secs_to (fs ∷ ess) p es e x (inl is) n h =
    lesser-below_left (earliest_offer secs_to fs p) (label secs_to ess p) x (earliest_below secs_to fs p e x (subst (λ gs. Member e gs) (sym is) n) h)
label_below secs_to (fs ∷ ess) p es e x (inr m) n h = lesser-below_right (earliest_offer secs_to fs p) (label secs_to ess p) x (label_below secs_to ess p es e x m n h)
