-- The first trip of each of some names.
use Rattle.std.proofs.Common.{◌≡◌, ◌∙◌, sym, ap, subst, refl, ℕ, suc, ◌+◌, ◌<◌, ◌≤◌, List, [], ◌∷◌, length, get_or, set, map, take, drop, Bool, true, false, cond, ◌&&◌, ◌||◌, Option, Some, None, inl, inr, arith}
use Rattle.std.specs.Prelude.{All, IfSome, position, nat_lt, bytes_eq, option_map}
use Rattle.std.specs.List.{list_any, position_or_len}
use Rattle.std.proofs.lemmas.Bool.{cases_Bool, false≢true, or_left, or_right}
use Rattle.std.proofs.lemmas.Bool.Decides.{nat_tests}
use Rattle.std.proofs.Math.Seq.{drop-length}
use Rattle.std.proofs.lemmas.List.{drop_more, length-set, take_more}
use Rattle.std.proofs.lemmas.List.Elements.{All-push}
use Rattle.std.proofs.lemmas.List.Folds.{position_or_len-set}
use Rattle.std.proofs.lemmas.Slice.Eq.{bytes_eq-Decides}
use Rattle.std.specs.Map.{lookup}
use Rattle.indexmap.specs.IndexMap.{insert_entry}
use Rattle.tb_base.specs.declared.days.ServiceDay.{ServiceDay}
use Rattle.tb_base.specs.ServiceDays.{same_day}
use Rattle.tb_base.specs.TimetableData.{TripData}
use Rattle.late_edit.specs.Amended.{is_named, trip_named}
use Rattle.late_edit.specs.Finding.{FindsFirst, FirstData, HaveNames, trip_found}
use Rattle.late_edit.specs.Updates.{day_of, trip_of}
use Rattle.late_edit.specs.declared.update.Update.{Update}

-- what is noted of a name is found by it, and each other name has what it had
module _ {V : Type 0} (items : V → List ℕ) (name : List ℕ) (k : V) (t : ℕ) where
  abbrev found : List (V × ℕ) → Option ℕ
  found es = lookup (λ v. bytes_eq name (items v)) es

  same_name : (v : V) → bytes_eq (items k) (items v) ≡ true → bytes_eq name (items v) ≡ bytes_eq name (items k)
  same_name v e = ap (bytes_eq name) (sym ((bytes_eq-Decides (items k) (items v)).0 e))

  swap : (a b : Bool) (o : Option ℕ) (v : ℕ) → (a ≡ true → b ≡ false) → cond b (Some v) (cond a (Some t) o) ≡ cond a (Some t) (cond b (Some v) o)
  swap true b o v apart = rw (apart refl) refl
  swap false b o v apart = refl

  both : (v : V) → bytes_eq (items k) (items v) ≡ false → bytes_eq name (items k) ≡ true → bytes_eq name (items v) ≡ false
  both v e n = ap (λ (m : List ℕ). bytes_eq m (items v)) ((bytes_eq-Decides name (items k)).0 n) ∙ e

  pub noted : (es : List (V × ℕ)) → found (insert_entry (λ u v. bytes_eq (items u) (items v)) es k t) ≡ cond (bytes_eq name (items k)) (Some t) (found es)
  noted [] = refl
  noted (e ∷ es) =
      elim (cases_Bool (bytes_eq (items k) (items e.0))) [
        | inl y ↦ rw (y, same_name e.0 y) (let again : (b : Bool) (o : Option ℕ) (w : ℕ) → cond b (Some t) o ≡ cond b (Some t) (cond b (Some w) o) = λ b o w. elim (cases_Bool b) [ inl h ↦ rw h refl | inr h ↦ rw h refl ] in again (bytes_eq name (items k)) (found es) e.1)
        | inr n ↦ rw n (ap (λ o. cond (bytes_eq name (items e.0)) (Some e.1) o) (noted es) ∙ swap (bytes_eq name (items k)) (bytes_eq name (items e.0)) (found es) e.1 (both e.0 n))
      ]

-- the same of names alone
pub names_alone : {V : Type 0} (items : V → List ℕ) (name : List ℕ) (es : List (V × ℕ)) → lookup (bytes_eq name) (map (λ e. (items e.0, e.1)) es) ≡ lookup (λ v. bytes_eq name (items v)) es
names_alone items name [] = refl
names_alone items name (e ∷ es) = ap (λ o. cond (bytes_eq name (items e.0)) (Some e.1) o) (names_alone items name es)

pub name_noted : {V : Type 0} (items : V → List ℕ) (name m : List ℕ) (k : V) (t : ℕ) (old new : List (V × ℕ)) → new ≡ insert_entry (λ u v. bytes_eq (items u) (items v)) old k t → items k ≡ m
    → lookup (bytes_eq name) (map (λ e. (items e.0, e.1)) new) ≡ cond (bytes_eq name m) (Some t) (lookup (bytes_eq name) (map (λ e. (items e.0, e.1)) old))
name_noted items name m k t old new is key =
    names_alone items name new ∙ (ap (λ es. lookup (λ v. bytes_eq name (items v)) es) is ∙ (noted items name k t old ∙ (ap (λ (n : List ℕ). cond (bytes_eq name n) (Some t) (lookup (λ v. bytes_eq name (items v)) old)) key ∙ ap (λ o. cond (bytes_eq name m) (Some t) o) (sym (names_alone items name old)))))

-- the first place in a list, by its first element
module _ {X : Type 0} (p : X → Bool) where
  next_lt : (m n : ℕ) → nat_lt (1 + m) (suc n) ≡ nat_lt m n
  next_lt m n =
      elim (cases_Bool (nat_lt m n)) [
        | inl t ↦ let h : m < n = grind (arith, nat_tests, t) in let k : nat_lt (1 + m) (suc n) ≡ true = grind (arith, nat_tests, h) in k ∙ sym t
        | inr f ↦ let h : n ≤ m = grind (arith, nat_tests, f) in let k : nat_lt (1 + m) (suc n) ≡ false = grind (arith, nat_tests, h) in k ∙ sym f
      ]

  later : (b : Bool) (m : ℕ) → cond b (Some (1 + m)) None ≡ option_map (λ k. 1 + k) (cond b (Some m) None)
  later true m = refl
  later false m = refl

  pub position_first : (x : X) (xs : List X) → position p (x ∷ xs) ≡ cond (p x) (Some 0) (option_map (λ k. 1 + k) (position p xs))
  position_first x xs =
      elim (cases_Bool (p x)) [
        | inl t ↦ let z : nat_lt 0 (suc (length xs)) ≡ true = grind (arith, nat_tests) in rw (t, z) refl
        | inr f ↦ rw (f, next_lt (position_or_len p xs) (length xs)) (later (nat_lt (position_or_len p xs) (length xs)) (position_or_len p xs))
      ]

-- ---- the first trip of each name among those from one on

-- one of these names
abbrev pub IsAmong : List (List ℕ) → List ℕ → Type 0
IsAmong names name = list_any (bytes_eq name) names ≡ true

-- what finds the first trip of each of these names
abbrev pub FindsFrom : FirstData → List (List ℕ) → List TripData → ℕ → Type 0
FindsFrom F names trips t =
    (day : ServiceDay) (name : List ℕ) → IsAmong names name → trip_found F day name ≡ option_map (λ k. t + k) (position (is_named day name) (drop t trips))

pub finds_none : (F : FirstData) (names : List (List ℕ)) (trips : List TripData) (t : ℕ) → t ≡ length trips → ((day : ServiceDay) (name : List ℕ) → trip_found F day name ≡ None) → FindsFrom F names trips t
finds_none F names trips t end none = λ day name among.
    none day name ∙ sym (ap (λ ts. option_map (λ k. t + k) (position (is_named day name) ts)) (ap (λ n. drop n trips) end ∙ drop-length trips))

shifted : (b : Bool) (o : Option ℕ) (t : ℕ) → cond b (Some t) (option_map (λ k. t + 1 + k) o) ≡ option_map (λ k. t + k) (cond b (Some 0) (option_map (λ k. 1 + k) o))
shifted true o t = let e : t ≡ t + 0 = omega arith in ap (λ (k : ℕ). Some k) e
shifted false None t = refl
shifted false (Some k) t = let e : t + 1 + k ≡ t + (1 + k) = omega arith in ap (λ (j : ℕ). Some j) e

pub finds_more : (names : List (List ℕ)) (old new : FirstData) (trips : List TripData) (t : ℕ) (x : TripData) → t < length trips → x ≡ get_or trips t x → FindsFrom old names trips (t + 1)
    → ((day : ServiceDay) (name : List ℕ) → IsAmong names name → trip_found new day name ≡ cond (is_named day name x) (Some t) (trip_found old day name)) → FindsFrom new names trips t
finds_more names old new trips t x inside at so_far after = λ day name among.
    let p : TripData → Bool = is_named day name in
    let rest : drop t trips ≡ x ∷ drop (t + 1) trips = drop_more trips t x inside ∙ ap (λ (y : TripData). y ∷ drop (t + 1) trips) (sym at) in
    after day name among ∙ (ap (λ o. cond (p x) (Some t) o) (so_far day name among)
    ∙ (shifted (p x) (position p (drop (t + 1) trips)) t
    ∙ sym (ap (λ ts. option_map (λ k. t + k) (position p ts)) rest ∙ ap (λ o. option_map (λ k. t + k) o) (position_first p x (drop (t + 1) trips)))))

from_zero : (o : Option ℕ) → option_map (λ k. 0 + k) o ≡ o
from_zero None = refl
from_zero (Some k) = let e : 0 + k ≡ k = omega arith in ap (λ (j : ℕ). Some j) e

pub finds_first : (F : FirstData) (names : List (List ℕ)) (trips : List TripData) (t : ℕ) → t ≡ 0 → FindsFrom F names trips t → FindsFirst F names trips
finds_first F names trips t start h = λ day name among.
    let k : FindsFrom F names trips 0 = subst (FindsFrom F names trips) start h in
    k day name among ∙ from_zero (position (is_named day name) trips)

-- a trip of another name is none of those that are looked for
pub passed_over : (names : List (List ℕ)) (x : TripData) (t : ℕ) (o : Option ℕ) (day : ServiceDay) (name : List ℕ) → list_any (bytes_eq x.name) names ≡ false → IsAmong names name → o ≡ cond (is_named day name x) (Some t) o
passed_over names x t o day name other among = by_name (bytes_eq name x.name) refl
  where
    none : (a : Bool) → o ≡ cond (a && false) (Some t) o
    none true = refl
    none false = refl

    by_name : (b : Bool) → b ≡ bytes_eq name x.name → o ≡ cond (same_day day x.day && bytes_eq name x.name) (Some t) o
    by_name true e = absurd (false≢true (sym other ∙ (ap (λ (n : List ℕ). list_any (bytes_eq n) names) (sym ((bytes_eq-Decides name x.name).0 (sym e))) ∙ among)))
    by_name false e = none (same_day day x.day) ∙ ap (λ b. cond (same_day day x.day && b) (Some t) o) e

-- ---- the names of updates

-- with the name of one more
pub names_more : (updates : List Update) (k : ℕ) (u : Update) (old new : List (List ℕ)) → k < length updates → u ≡ get_or updates k u → ((name : List ℕ) → list_any (bytes_eq name) new ≡ (list_any (bytes_eq name) old || bytes_eq name (trip_of u)))
    → HaveNames (take k updates) old → HaveNames (take (k + 1) updates) new
names_more updates k u old new inside at members so_far =
    subst (λ us. HaveNames us new) (sym (take_more updates k u inside))
    (All-push (λ v. IsAmong new (trip_of v)) (take k updates) (get_or updates k u)
    (λ i d below. members (trip_of (get_or (take k updates) i d)) ∙ or_left (list_any (bytes_eq (trip_of (get_or (take k updates) i d))) old) (bytes_eq (trip_of (get_or (take k updates) i d)) (trip_of u)) (so_far i d below))
    (subst (λ v. IsAmong new (trip_of v)) at
    (members (trip_of u) ∙ or_right (list_any (bytes_eq (trip_of u)) old) (bytes_eq (trip_of u) (trip_of u)) ((bytes_eq-Decides (trip_of u) (trip_of u)).1 refl))))

-- the trip that one of them names
pub found_named : (F : FirstData) (names : List (List ℕ)) (trips : List TripData) (updates : List Update) (k : ℕ) (u : Update) → FindsFirst F names trips → HaveNames updates names → k < length updates → u ≡ get_or updates k u
    → trip_found F (day_of u) (trip_of u) ≡ trip_named trips u
found_named F names trips updates k u finds have inside at =
    finds (day_of u) (trip_of u) (subst (λ v. IsAmong names (trip_of v)) (sym at) (have k u inside))

-- in whose place one of its name and day stands, all updates name the same trips as before
pub named_set : (trips : List TripData) (t : ℕ) (x d : TripData) → x.name ≡ (get_or trips t d).name → x.day ≡ (get_or trips t d).day → (u : Update) → trip_named (set trips t x) u ≡ trip_named trips u
named_set trips t x d named began u =
    let p : TripData → Bool = is_named (day_of u) (trip_of u) in
    let same : p x ≡ p (get_or trips t d) = λ i. same_day (day_of u) (began i) && bytes_eq (trip_of u) (named i) in
    let place = position_or_len-set p trips t x d same in
    let long : length (set trips t x) ≡ length trips = length-set trips t x in
    λ i. cond (nat_lt (place i) (long i)) (Some (place i)) None

-- ---- the trips that updates name

-- one of them has a mark, where it is one of so many trips
abbrev pub IsMarked : ℕ → List Bool → Option ℕ → Type 0
IsMarked count marks o = IfSome o (λ t. t < count → get_or marks t false ≡ true)

-- with one more
pub marks_more : (named : List (Option ℕ)) (k count : ℕ) (o : Option ℕ) (old new : List Bool) → k < length named → o ≡ get_or named k o → ((t : ℕ) → get_or old t false ≡ true → get_or new t false ≡ true) → IsMarked count new o
    → All (IsMarked count old) (take k named) → All (IsMarked count new) (take (k + 1) named)
marks_more named k count o old new inside at kept marked so_far =
    subst (All (IsMarked count new)) (sym (take_more named k o inside))
    (All-push (IsMarked count new) (take k named) (get_or named k o) (λ i d below. stays (get_or (take k named) i d) (so_far i d below)) (subst (IsMarked count new) at marked))
  where
    stays : (p : Option ℕ) → IsMarked count old p → IsMarked count new p
    stays None h = tt
    stays (Some t) h = λ below. kept t (h below)
