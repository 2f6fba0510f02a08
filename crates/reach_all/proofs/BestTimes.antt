-- The least of some times, and figures of all stops.
use Rattle.std.proofs.Common.{◌≡◌, ◌∙◌, ℕ, zero, suc, ◌+◌, ◌-◌, ◌<◌, ◌≤◌, List, [], ◌∷◌, ◌++◌, length, get_or, map, reverse, refl, sym, ap, subst, arith, Option, Some, None, ℤ, pos, ◌+ℤ◌, ◌-ℤ◌, ◌≤ℤ◌, ◌⊎◌, inl, inr}
use Rattle.std.specs.Prelude.{All, Contains}
use Rattle.std.proofs.lemmas.Int.{ints}
use Rattle.std.proofs.lemmas.List.{get_or-map, get_or-reverse, length-map, length-reverse}
use Rattle.tb_base.specs.declared.query.Value.{Value}
use Rattle.tb_base.specs.BestValues.{IsLeast}
use Rattle.tb_base.specs.TimetableData.{TimetableData}
use Rattle.tb_base.proofs.Ordered.{Member, Member-from_Contains}
use Rattle.plain_rounds.specs.OneRide.{earlier_of}
use Rattle.plain_rounds.proofs.Least.{IsLeast-contained, IsLeast-more, IsLeast-same, earlier_of-least, get_or-inside}
use Rattle.reach_all.specs.declared.figures.Figures.{Figures}
use Rattle.reach_all.specs.Arriving.{lone}
use Rattle.reach_all.specs.Reach.{values_at}
use Rattle.reach_all.specs.TravelTimes.{AreFigures, HaveFigures, IsTravelTime, IsWithin}
use Rattle.reach_all.specs.Ranks.{AreTimesAt, IsTimeOf}
use Rattle.reach_all.specs.Swept.{IsWalkOrRide}
use Rattle.reach_all.proofs.Ranking.{all_more}

pub within-fewer : (most : Option ℕ) (m n : ℕ) → m ≤ n → IsWithin most n → IsWithin most m
within-fewer None m n le h = h
within-fewer (Some k) m n le h = omega (arith, le, h)

-- the least time at which one of the first values arrives
abbrev pub IsTimeOfFirst : List Value → ℤ → ℕ → Option ℤ → Type 0
IsTimeOfFirst values leave i time = IsLeast (λ secs. (k : ℕ) × (k < i) × ((d : Value) → (get_or values k d).arrive ≡ leave +ℤ secs)) time

module _ (values : List Value) (leave : ℤ) where
  pub time_of_none : IsTimeOfFirst values leave 0 None
  time_of_none = λ secs h. omega (arith, h.1)

  pub time_of_next : (i : ℕ) (v : Value) (time : Option ℤ) → i < length values → v ≡ get_or values i v → IsTimeOfFirst values leave i time → IsTimeOfFirst values leave (i + 1) (earlier_of time (Some (v.arrive -ℤ leave)))
  time_of_next i v time inside is before =
      IsLeast-more (λ k secs. (d : Value) → (get_or values k d).arrive ≡ leave +ℤ secs) i time (Some (v.arrive -ℤ leave)) before
      ((λ d. subst (λ (w : Value). w.arrive ≡ leave +ℤ (v.arrive -ℤ leave)) (is ∙ get_or-inside values i v d inside) (there leave v.arrive), λ secs h. no_more leave v.arrive secs (subst (λ (w : Value). w.arrive ≡ leave +ℤ secs) (sym is) (h v))))
    where
      there : (l a : ℤ) → a ≡ (l +ℤ (a -ℤ l))
      there l a = omega (arith, ints)

      no_more : (l a s : ℤ) → a ≡ (l +ℤ s) → (a -ℤ l) ≤ℤ s
      no_more l a s e = omega (arith, ints, e)

  pub time_of_all : (i : ℕ) (d : Value) (time : Option ℤ) → i ≡ length values → IsTimeOfFirst values leave i time → IsTimeOf values leave time
  time_of_all i d time all h =
      IsLeast-contained (λ (v : Value) secs. v.arrive ≡ leave +ℤ secs) values d i time all
      (IsLeast-same (λ secs. (k : ℕ) × (k < i) × ((e : Value) → (get_or values k e).arrive ≡ leave +ℤ secs)) (λ secs. (k : ℕ) × (k < i) × ((get_or values k d).arrive ≡ leave +ℤ secs))
      (λ secs p. (p.0, p.1, p.2 d)) (λ secs p. (p.0, p.1, λ e. subst (λ (v : Value). v.arrive ≡ leave +ℤ secs) (get_or-inside values p.0 d e (subst (λ n. p.0 < n) all p.1)) p.2)) time h)

-- a lone arrival
pub lone_later : (arrival : Option ℤ) (a leave : ℤ) → arrival ≡ Some a → All (λ (v : Value). leave ≤ℤ v.arrive) (lone arrival) → leave ≤ℤ a
lone_later arrival a leave is all = subst (λ o. All (λ (v : Value). leave ≤ℤ v.arrive) (lone o)) is all 0 (record { arrive = a; rides = 1 }) (omega arith)

only_one : (w v : Value) → Member v (w ∷ []) → w ≡ v
only_one w v (inl is) = is
only_one w v (inr h) = absurd h

pub lone_time : (arrival : Option ℤ) (a leave time : ℤ) → arrival ≡ Some a → time ≡ a -ℤ leave → IsTimeOf (lone arrival) leave (Some time)
lone_time arrival a leave time is e = subst (λ o. IsTimeOf (lone o) leave (Some time)) (sym is) ((one, (0, omega arith, refl), there), least)
  where
    one : Value
    one = record { arrive = a; rides = 1 }

    there : a ≡ leave +ℤ time
    there = omega (arith, ints, e)

    least : (secs : ℤ) → ((v : Value) × Contains (one ∷ []) v × (v.arrive ≡ leave +ℤ secs)) → time ≤ℤ secs
    least secs h =
        let same : one ≡ h.0 = only_one one h.0 (Member-from_Contains h.0 (one ∷ []) h.1) in
        let at : a ≡ leave +ℤ secs = ap (λ (v : Value). v.arrive) same ∙ h.2 in
        omega (arith, ints, e, at)

-- by walks and by rides
pub time_at : (walks rides : List Value) (leave : ℤ) (a b : Option ℤ) → IsTimeOf walks (pos 0) a → IsTimeOf rides leave b → IsLeast (IsWalkOrRide walks rides leave) (earlier_of a b)
time_at walks rides leave a b h k = earlier_of-least (λ secs. (v : Value) × Contains walks v × (v.arrive ≡ pos 0 +ℤ secs)) (λ secs. (v : Value) × Contains rides v × (v.arrive ≡ leave +ℤ secs)) a b h k

-- a list of lists by stops
pub list_at : {V : Type 0} (items : V → List Value) (lists : List V) (k : ℕ) (list : V) → k < length lists → list ≡ get_or lists k list → values_at (map items lists) k ≡ items list
list_at items lists k list inside is = get_or-map items lists k list [] inside ∙ ap items (sym is)

-- the column of a stop, in lists by stops
column : {V : Type 0} (items : V → List (Option ℤ)) (p k : ℕ) (o : Option ℤ) (lists : List V) → k < length lists → get_or (map (λ list. get_or (items list) p None) lists) k o ≡ get_or (get_or (map items lists) k []) p None
column items p k o [] h = absurd (omega (arith, h))
column items p zero o (x ∷ xs) h = refl
column items p (suc k) o (x ∷ xs) h = column items p k o xs (omega (arith, h))

-- the figures of all stops, from travel times by departures and stops
module _ {V : Type 0} (items : V → List (Option ℤ)) (T : TimetableData) (from : List ℕ) (most : Option ℕ) (departures : List ℤ) (lists : List V) (figures : List Figures) where
  pub have_figures : length lists ≡ length departures → ((k : ℕ) (t : ℤ) (o : List (Option ℤ)) → k < length departures → AreTimesAt T from most (get_or departures k t) (get_or (map items lists) k o))
      → length figures ≡ length T.stops → ((p : ℕ) (f : Figures) → p < length T.stops → AreFigures (map (λ list. get_or (items list) p None) lists) (get_or figures p f)) → HaveFigures T from most departures figures
  have_figures long times each_stop each = record {
    each_stop = each_stop;
    stop = λ p f inside. (
      map (λ list. get_or (items list) p None) lists,
      record {
        each_departure = length-map lists (λ list. get_or (items list) p None) ∙ long;
        travel = λ k t o below. let in_lists : k < length lists = omega (arith, long, below) in
            subst (λ z. IsTravelTime T from most (get_or departures k t) p z) (sym (column items p k o lists in_lists)) (AreTimesAt.travel (times k t [] below) p None inside);
      },
      each p f inside,
    );
  }

-- each of the lists has a time for each stop
pub lists_long : {V : Type 0} (items : V → List (Option ℤ)) (T : TimetableData) (from : List ℕ) (most : Option ℕ) (departures : List ℤ) (lists : List V) → length lists ≡ length departures → ((k : ℕ) (t : ℤ) (o : List (Option ℤ)) → k < length departures → AreTimesAt T from most (get_or departures k t) (get_or (map items lists) k o))
    → (k : ℕ) (list : V) → k < length lists → length (items (get_or lists k list)) ≡ length T.stops
lists_long items T from most departures lists long times k list inside =
    ap length (sym (get_or-map items lists k list [] inside)) ∙ AreTimesAt.each_stop (times k (pos 0) [] (omega (arith, inside, long)))

-- what holds of lists by their numbers from the end holds of the lists turned round
pub turned : {V : Type 0} (items : V → List (Option ℤ)) (P : ℕ → List (Option ℤ) → Type 0) (lists : List V) (n : ℕ) → length lists ≡ n → ((k : ℕ) (o : List (Option ℤ)) → k < n → P (n - 1 - k) (get_or (map items lists) k o)) → (k : ℕ) (o : List (Option ℤ)) → k < n → P k (get_or (map items (reverse lists)) k o)
turned items P [] n long each k o inside = absurd (omega (arith, long, inside))
turned items P (x ∷ xs) n long each k o inside =
    let j : ℕ = n - 1 - k in
    let below : j < n = omega (arith, inside) in
    let back : n - 1 - j ≡ k = omega (arith, inside) in
    let there : j < length (x ∷ xs) = omega (arith, below, long) in
    let here : k < length (x ∷ xs) = omega (arith, inside, long) in
    let same : length (x ∷ xs) - 1 - k ≡ j = ap (λ m. m - 1 - k) long in
    subst (P k) (sym
    (get_or-map items (reverse (x ∷ xs)) k x o (omega (arith, here, length-reverse (x ∷ xs)))
    ∙ (ap items (get_or-reverse (x ∷ xs) k x here ∙ ap (λ m. get_or (x ∷ xs) m x) same)
    ∙ sym (get_or-map items (x ∷ xs) j x o there))))
    (subst (λ m. P m (get_or (map items (x ∷ xs)) j o)) back (each j o below))

-- what holds of each list by its number
abbrev pub AreLists : {V : Type 0} → (V → List (Option ℤ)) → (ℕ → List (Option ℤ) → Type 0) → List V → Type 0
AreLists {V} items P lists = (k : ℕ) (list : V) → k < length lists → P k (items (get_or lists k list))

pub lists_more : {V : Type 0} (items : V → List (Option ℤ)) (P : ℕ → List (Option ℤ) → Type 0) (lists new : List V) (n : ℕ) (list : V) → length lists ≡ n → AreLists items P lists → P n (items list) → new ≡ lists ++ list ∷ [] → AreLists items P new
lists_more items P lists new n list long before this is =
    let more = all_more (λ k v. P k (items v)) lists new n list long (λ k d below. before k d (subst (λ m. k < m) (sym long) below)) this is in
    λ k d below. more.1 k d (subst (λ m. k < m) more.0 below)

pub lists_mapped : {V : Type 0} (items : V → List (Option ℤ)) (P : ℕ → List (Option ℤ) → Type 0) (lists : List V) → AreLists items P lists → (k : ℕ) (o : List (Option ℤ)) → k < length lists → P k (get_or (map items lists) k o)
lists_mapped items P [] each k o inside = absurd (omega (arith, inside))
lists_mapped items P (x ∷ xs) each k o inside = subst (P k) (sym (get_or-map items (x ∷ xs) k x o inside)) (each k x inside)
