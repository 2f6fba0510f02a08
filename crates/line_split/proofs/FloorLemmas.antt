-- A line whose floor is later than a trip is not joined by it.
use Rattle.std.proofs.Common.{◌≡◌, ◌≢◌, ◌∙◌, sym, ap, subst, refl, ℕ, zero, suc, ◌+◌, ◌*◌, ◌/◌, ◌%◌, ◌<◌, ◌≤◌, ◌⊎◌, inl, inr, Bool, true, false, cond, List, [], ◌∷◌, ◌++◌, length, get_or, set, replicate, find, Some, None, ℤ, ◌≤ℤ◌, arith, length-set, get_or-set_same, get_or-set_other}
use Rattle.std.specs.Prelude.{All, Option, is_some}
use Rattle.std.proofs.lemmas.Bool.{cases_eq}
use Rattle.std.proofs.lemmas.Int.{ints}
use Rattle.std.proofs.lemmas.List.{append-nil, get_or_append_left, get_or_push, length_push}
use Rattle.tb_base.specs.declared.table.Event.{Event}
use Rattle.tb_base.specs.TimetableData.{TimetableData, events_of, no_event}
use Rattle.tb_base.specs.Lines.{last_trip, may_follow}
use Rattle.tb_base.proofs.LineFacts.{no_later}
use Rattle.tb_base.proofs.NumberFacts.{below_or_at}
use Rattle.line_split.specs.Buckets.{IsFirstPlace, IsFirstWithin, NonePasses, last_of}
use Rattle.line_split.specs.Bitmaps.{AreBitmapsOf, AreMarked, IsPicked}
use Rattle.line_split.specs.Floors.{IsEarlier, AreNoLater, IsLower, AreBelow, FloorsData, no_floor, AreFloorsOf, AreFloors, IsNoted, AreNoted, IsPassed, IsSameBut}
use Rattle.line_split.proofs.Placing.{joins, last_trip-push, none_in}
use Rattle.line_split.proofs.BitmapLemmas.{bitmaps_joined, bitmaps_marked, bitmaps_opened, out_unjoined}

-- ---- the first that passes

pub before_or_from : (k n : ℕ) → (k < n) ⊎ (n ≤ k)
before_or_from k n = grind arith

-- numbers of one block
pub same_block : (first k : ℕ) → first % 64 ≡ 0 → first ≤ k → k < first + 64 → k / 64 ≡ first / 64
same_block first k h low below = omega (arith, h, low, below)

module _ (test : ℕ → Bool) where
  pub find_at : (xs : List ℕ) (p : ℕ) → p < length xs → ((k : ℕ) → k < p → k < length xs → test (get_or xs k 0) ≡ false) → test (get_or xs p 0) ≡ true → find test xs ≡ Some (get_or xs p 0)
  find_at [] p h before here = absurd (omega arith)
  find_at (x ∷ xs) zero h before here = ap (λ b. cond b (Some x) (find test xs)) here
  find_at (x ∷ xs) (suc p) h before here =
      ap (λ b. cond b (Some x) (find test xs)) (before 0 (omega arith) (omega arith)) ∙ find_at xs p (omega (arith, h)) (λ k low below. before (suc k) (omega (arith, low)) (omega (arith, below))) here

  pub find_nowhere : (xs : List ℕ) → ((k : ℕ) → k < length xs → test (get_or xs k 0) ≡ false) → find test xs ≡ None
  find_nowhere [] none = refl
  find_nowhere (x ∷ xs) none = ap (λ b. cond b (Some x) (find test xs)) (none 0 (omega arith)) ∙ find_nowhere xs (λ k below. none (suc k) (omega (arith, below)))

  -- up to one place, and then at this place
  pub none_more : (row : List ℕ) (low place : ℕ) → NonePasses test row low place → test (get_or row place 0) ≡ false → NonePasses test row low (place + 1)
  none_more row low place none here = λ k above below inside. by_case k above below inside (cases_eq k place)
    where
      by_case : (k : ℕ) → low ≤ k → k < place + 1 → k < length row → (k ≡ place) ⊎ (k ≢ place) → test (get_or row k 0) ≡ false
      by_case k above below inside (inl is) = ap (λ i. test (get_or row i 0)) is ∙ here
      by_case k above below inside (inr other) = none k above (omega (arith, below, other)) inside

  -- up to one place, and then from it on
  pub first_behind : (row : List ℕ) (place : ℕ) (found : Option ℕ) → NonePasses test row 0 place → IsFirstWithin test row place (place + 64) found → is_some found ≡ true → IsFirstPlace test row found
  first_behind row place None none is some = cc
  first_behind row place (Some p) none is some = (is.0, find_at row p is.0 (λ k below inside. by_case k below inside (before_or_from k place)) is.1)
    where
      by_case : (k : ℕ) → k < p → k < length row → (k < place) ⊎ (place ≤ k) → test (get_or row k 0) ≡ false
      by_case k below inside (inl low) = none k (omega arith) low inside
      by_case k below inside (inr high) = is.2 k high below inside

-- ---- floors

at_most : (a b c : ℤ) → a ≤ℤ b → b ≤ℤ c → a ≤ℤ c
at_most a b c f g = omega (arith, ints, f, g)

earlier_than : (e f g : Event) → IsEarlier e f → IsEarlier f g → IsEarlier e g
earlier_than e f g h k = record { arr = at_most e.arr f.arr g.arr h.arr k.arr; dep = at_most e.dep f.dep g.dep h.dep k.dep }

-- a lower floor
pub lower_floor : (low floor es : List Event) → IsLower low floor → AreNoLater floor es → AreNoLater low es
lower_floor low floor es l h j below inside =
    let in_floor : j < length floor = omega (arith, below, l.long) in
    earlier_than (get_or low j no_event) (get_or floor j no_event) (get_or es j no_event) (l.at j below in_floor) (h j in_floor inside)

not_lowered : (floor : List Event) → IsLower floor floor
not_lowered floor = record { long = omega arith; at = λ j below inside. record { arr = omega (arith, ints); dep = omega (arith, ints) } }

lower_than : (a b c : List Event) → IsLower a b → IsLower b c → IsLower a c
lower_than a b c h k = record { long = omega (arith, h.long, k.long); at = lower_floor a b c h k.at }

-- a block of lines is passed over, by its floor or by one of floors
pub near_later : (near : List (List Event)) (es : List Event) (place : ℕ) → place % 64 ≡ 0 → ¬ (AreNoLater (get_or near (place / 64) []) es) → (k : ℕ) → place ≤ k → k < place + 64 → ¬ (AreNoLater (get_or near (k / 64) []) es)
near_later near es place first later k low below h = later (subst (λ b. AreNoLater (get_or near b []) es) (same_block place k first low below) h)

pub far_later : (far near : List (List Event)) (es : List Event) (place : ℕ) → AreBelow far near → place % 64 ≡ 0 → place / 64 % 64 ≡ 0 → ¬ (AreNoLater (get_or far (place / 64 / 64) []) es) → (k : ℕ) → place ≤ k → k < place + 4096 → k < 64 * length near → ¬ (AreNoLater (get_or near (k / 64) []) es)
far_later far near es place are first far_first later k low below inside h =
    let block : k / 64 < length near = omega (arith, inside) in
    let same : k / 64 / 64 ≡ place / 64 / 64 = omega (arith, first, far_first, low, below) in
    later (subst (λ b. AreNoLater (get_or far b []) es) same (lower_floor (get_or far (k / 64 / 64) []) (get_or near (k / 64) []) es (are.lower (k / 64) block) h))

-- a row is noted
module _ (place : ℕ) (events : List Event) (old new : List (List Event)) (noted : IsNoted place events old new) where
  pub still_lower : (j : ℕ) → j < length old → IsLower (get_or new j []) (get_or old j [])
  still_lower j below = by_case (cases_eq j (place / 64))
    where
      by_case : (j ≡ place / 64) ⊎ (j ≢ place / 64) → IsLower (get_or new j []) (get_or old j [])
      by_case (inl e) = subst (λ i. IsLower (get_or new i []) (get_or old i [])) (sym e) (noted.lower (subst (λ i. i < length old) e below))
      by_case (inr n) = subst (λ row. IsLower row (get_or old j [])) (sym (noted.others j n)) (not_lowered (get_or old j []))

-- so is the floor of its block, below which a floor is noted
pub still_below : (far near far_new near_new : List (List Event)) (place : ℕ) (events : List Event) → AreBelow far near → IsNoted place events near near_new → IsNoted (place / 64) (get_or near_new (place / 64) []) far far_new → AreBelow far_new near_new
still_below far near far_new near_new place events are noted far_noted = record { room = enough (before_or_from (64 * length far_new) (length near_new)); lower = λ j below. by_case j below (cases_eq j (place / 64)) }
  where
    enough : (64 * length far_new < length near_new) ⊎ (length near_new ≤ 64 * length far_new) → length near_new ≤ 64 * length far_new
    enough (inl more) =
        let other : 64 * length far_new ≢ place / 64 = λ e. omega (arith, e, far_noted.room) in
        let old : 64 * length far_new < length near = noted.most (64 * length far_new) more other in
        absurd (omega (arith, old, are.room, far_noted.grown))
    enough (inr h) = h

    by_case : (j : ℕ) → j < length near_new → (j ≡ place / 64) ⊎ (j ≢ place / 64) → IsLower (get_or far_new (j / 64) []) (get_or near_new j [])
    by_case j below (inl e) = subst (λ i. IsLower (get_or far_new (i / 64) []) (get_or near_new i [])) (sym e) far_noted.here
    by_case j below (inr n) =
        let old : j < length near = noted.most j below n in
        let inside : j / 64 < length far = omega (arith, old, are.room) in
        subst (λ row. IsLower (get_or far_new (j / 64) []) row) (sym (noted.others j n))
        (lower_than (get_or far_new (j / 64) []) (get_or far (j / 64) []) (get_or near j []) (still_lower (place / 64) (get_or near_new (place / 64) []) far far_new far_noted (j / 64) inside) (are.lower j old))

-- a later trip
later_trip : (T : TimetableData) (floor : List Event) (t u : ℕ) → may_follow (events_of T t) (events_of T u) ≡ true → AreNoLater floor (events_of T t) → AreNoLater floor (events_of T u)
later_trip T floor t u follows h j below inside =
    let n = no_later T t u (inr follows) in
    let e = n.at j in
    earlier_than (get_or floor j no_event) (get_or (events_of T t) j no_event) (get_or (events_of T u) j no_event) (h j below (omega (arith, inside, n.long))) (record { arr = e.arr; dep = e.dep })

-- no line of a block is joined by a trip that its floor is later than
pub floor_later : (T : TimetableData) (lines : List (List ℕ)) (row : List ℕ) (floors : FloorsData) → AreFloorsOf T lines row floors → (t k : ℕ) → k < length row → ¬ (AreNoLater (get_or floors.near (k / 64) []) (events_of T t)) → joins T lines (events_of T t) (get_or row k 0) ≡ false
floor_later T lines row floors are t k below later = by_test (joins T lines (events_of T t) (get_or row k 0)) refl
  where
    by_test : (b : Bool) → b ≡ joins T lines (events_of T t) (get_or row k 0) → joins T lines (events_of T t) (get_or row k 0) ≡ false
    by_test false e = sym e
    by_test true e = absurd (later (later_trip T (get_or floors.near (k / 64) []) (last_of lines (get_or row k 0)) t (sym e) (are.no_later k below)))

-- no line is joined that is passed over
pub passed_unjoined : (T : TimetableData) (lines : List (List ℕ)) (row : List ℕ) (floors : FloorsData) (picked : List ℕ) → AreFloorsOf T lines row floors → (t k : ℕ) → k < length row → All (IsPicked floors.bitmaps (events_of T t)) picked
    → IsPassed floors (events_of T t) picked k → joins T lines (events_of T t) (get_or row k 0) ≡ false
passed_unjoined T lines row floors picked are t k below chosen (inl later) = floor_later T lines row floors are t k below later
passed_unjoined T lines row floors picked are t k below chosen (inr out) = out_unjoined T lines row floors.bitmaps picked t k are.bitmaps chosen out

-- ---- the floors stay right

-- a trip joins line l
pub floors_joined : (T : TimetableData) (lines buckets : List (List ℕ)) (floors : List FloorsData) (t l : ℕ) → l < length lines → joins T lines (events_of T t) l ≡ true → AreFloors T lines buckets floors
    → AreFloors T (set lines l (get_or lines l [] ++ t ∷ [])) buckets floors
floors_joined T lines buckets floors t l h j are = record {
  many = are.many;
  each = λ b. record { room = (are.each b).room; no_later = λ k below. rises b k below (cases_eq (get_or (get_or buckets b []) k 0) l); far = (are.each b).far; bitmaps = bitmaps_joined T lines (get_or buckets b []) (get_or floors b no_floor).bitmaps t l h j (are.each b).bitmaps };
}
  where
    rises : (b k : ℕ) → k < length (get_or buckets b []) → (get_or (get_or buckets b []) k 0 ≡ l) ⊎ (get_or (get_or buckets b []) k 0 ≢ l)
        → AreNoLater (get_or (get_or floors b no_floor).near (k / 64) []) (events_of T (last_of (set lines l (get_or lines l [] ++ t ∷ [])) (get_or (get_or buckets b []) k 0)))
    rises b k below (inl e) =
        let floor = get_or (get_or floors b no_floor).near (k / 64) [] in
        let before = subst (λ i. AreNoLater floor (events_of T (last_of lines i))) e ((are.each b).no_later k below) in
        let last : last_of (set lines l (get_or lines l [] ++ t ∷ [])) (get_or (get_or buckets b []) k 0) ≡ t = ap (last_of (set lines l (get_or lines l [] ++ t ∷ []))) e ∙ ap last_trip (get_or-set_same lines l (get_or lines l [] ++ t ∷ []) [] h) ∙ last_trip-push (get_or lines l []) t in
        subst (λ u. AreNoLater floor (events_of T u)) (sym last) (later_trip T floor (last_of lines l) t j before)
    rises b k below (inr e) =
        subst (λ line. AreNoLater (get_or (get_or floors b no_floor).near (k / 64) []) (events_of T (last_trip line))) (sym (get_or-set_other lines l (get_or (get_or buckets b []) k 0) (get_or lines l [] ++ t ∷ []) [] e)) ((are.each b).no_later k below)

-- a trip opens a line, which is listed in bucket b
module _ (T : TimetableData) (lines buckets : List (List ℕ)) (floors new : List FloorsData) (t b : ℕ) (are : AreFloors T lines buckets floors) (known : (b : ℕ) → All (λ l. l < length lines) (get_or buckets b [])) (inside : b < length buckets)
    (many : length new ≡ length floors) (others : (c : ℕ) → c ≢ b → get_or new c no_floor ≡ get_or floors c no_floor) (noted : AreNoted (length (get_or buckets b [])) (events_of T t) (get_or floors b no_floor) (get_or new b no_floor)) where
  abbrev opened : List (List ℕ)
  opened = lines ++ (t ∷ []) ∷ []

  abbrev row : List ℕ
  row = get_or buckets b []

  still : (c k : ℕ) → k < length (get_or buckets c []) → AreNoLater (get_or (get_or floors c no_floor).near (k / 64) []) (events_of T (last_of opened (get_or (get_or buckets c []) k 0)))
  still c k below =
      subst (λ line. AreNoLater (get_or (get_or floors c no_floor).near (k / 64) []) (events_of T (last_trip line))) (sym (get_or_append_left lines ((t ∷ []) ∷ []) [] (get_or (get_or buckets c []) k 0) (known c k 0 below))) ((are.each c).no_later k below)

  unmoved : (c : ℕ) → AreBitmapsOf T opened (get_or buckets c []) (get_or floors c no_floor).bitmaps
  unmoved c = subst (λ r. AreBitmapsOf T opened r (get_or floors c no_floor).bitmaps) (append-nil (get_or buckets c [])) (bitmaps_opened T lines (get_or buckets c []) [] (t ∷ []) (get_or floors c no_floor).bitmaps (known c) (are.each c).bitmaps)

  last_new : (k : ℕ) → k ≡ length row → last_of opened (get_or (row ++ length lines ∷ []) k 0) ≡ t
  last_new k at = ap (last_of opened) (get_or_push row (length lines) 0 k (sym at)) ∙ ap last_trip (get_or_push lines (t ∷ []) [] (length lines) refl)

  one_more : AreFloorsOf T opened (row ++ length lines ∷ []) (get_or new b no_floor)
  one_more = record {
    room = omega (arith, length_push row (length lines), noted.near.room);
    no_later = λ k below. by_case k (below_or_at k (length row) (omega (arith, below, length_push row (length lines))));
    far = still_below (get_or floors b no_floor).far (get_or floors b no_floor).near (get_or new b no_floor).far (get_or new b no_floor).near (length row) (events_of T t) (are.each b).far noted.near noted.far;
    bitmaps = bitmaps_marked T opened (row ++ length lines ∷ []) (get_or floors b no_floor).bitmaps (get_or new b no_floor).bitmaps (length row) (omega (arith, length_push row (length lines)))
        (subst (λ u. AreMarked (length row) (events_of T u) (get_or floors b no_floor).bitmaps (get_or new b no_floor).bitmaps) (sym (last_new (length row) refl)) noted.bitmaps)
        (bitmaps_opened T lines row (length lines ∷ []) (t ∷ []) (get_or floors b no_floor).bitmaps (known b) (are.each b).bitmaps);
  }
    where
      by_case : (k : ℕ) → (k < length row) ⊎ (k ≡ length row) → AreNoLater (get_or (get_or new b no_floor).near (k / 64) []) (events_of T (last_of opened (get_or (row ++ length lines ∷ []) k 0)))
      by_case k (inl low) =
          let l : get_or (row ++ length lines ∷ []) k 0 ≡ get_or row k 0 = get_or_append_left row (length lines ∷ []) 0 k low in
          subst (λ i. AreNoLater (get_or (get_or new b no_floor).near (k / 64) []) (events_of T (last_of opened i))) (sym l)
          (lower_floor (get_or (get_or new b no_floor).near (k / 64) []) (get_or (get_or floors b no_floor).near (k / 64) []) (events_of T (last_of opened (get_or row k 0))) (still_lower (length row) (events_of T t) (get_or floors b no_floor).near (get_or new b no_floor).near noted.near (k / 64) (omega (arith, low, (are.each b).room))) (still b k low))
      by_case k (inr at) =
          subst (λ u. AreNoLater (get_or (get_or new b no_floor).near (k / 64) []) (events_of T u)) (sym (last_new k at)) (subst (λ i. AreNoLater (get_or (get_or new b no_floor).near (i / 64) []) (events_of T t)) (sym at) noted.near.here.at)

  pub floors_opened : AreFloors T (lines ++ (t ∷ []) ∷ []) (set buckets b (get_or buckets b [] ++ length lines ∷ [])) new
  floors_opened = record {
    many = many ∙ are.many ∙ sym (length-set buckets b (row ++ length lines ∷ []));
    each = λ c. by_case c (cases_eq c b);
  }
    where
      by_case : (c : ℕ) → (c ≡ b) ⊎ (c ≢ b) → AreFloorsOf T opened (get_or (set buckets b (row ++ length lines ∷ [])) c []) (get_or new c no_floor)
      by_case c (inl e) =
          subst (λ i. AreFloorsOf T opened (get_or (set buckets b (row ++ length lines ∷ [])) i []) (get_or new i no_floor)) (sym e)
          (subst (λ r. AreFloorsOf T opened r (get_or new b no_floor)) (sym (get_or-set_same buckets b (row ++ length lines ∷ []) [] inside)) one_more)
      by_case c (inr e) =
          subst (λ r. AreFloorsOf T opened r (get_or new c no_floor)) (sym (get_or-set_other buckets b c (row ++ length lines ∷ []) [] e))
          (subst (λ fs. AreFloorsOf T opened (get_or buckets c []) fs) (sym (others c e)) (record { room = (are.each c).room; no_later = still c; far = (are.each c).far; bitmaps = unmoved c }))

pub replicated : {X : Type 0} (x : X) (n : ℕ) → length (replicate n x) ≡ n
replicated x zero = refl
replicated x (suc n) = ap (λ k. suc k) (replicated x n)

-- before any trip
pub no_floors_yet : (T : TimetableData) (n m : ℕ) → n ≡ m → AreFloors T [] (replicate n []) (replicate m no_floor)
no_floors_yet T n m e = record {
  many = replicated no_floor m ∙ sym e ∙ sym (replicated (let none : List ℕ = [] in none) n);
  each = λ b. subst (λ row. AreFloorsOf T [] row (get_or (replicate m no_floor) b no_floor)) (sym (none_in n b))
      (subst (λ fs. AreFloorsOf T [] [] fs) (sym (nowhere m b)) (record { room = omega arith; no_later = λ k below. absurd (omega (arith, below)); far = record { room = omega arith; lower = λ j below. absurd (omega (arith, below)) }; bitmaps = λ i d below. absurd (omega (arith, below)) }));
}
  where
    nowhere : (m b : ℕ) → get_or (replicate m no_floor) b no_floor ≡ no_floor
    nowhere zero b = refl
    nowhere (suc m) zero = refl
    nowhere (suc m) (suc b) = nowhere m b

-- the bitmaps of one bucket change
pub floors_changed : (T : TimetableData) (lines buckets : List (List ℕ)) (floors new : List FloorsData) (b : ℕ) → AreFloors T lines buckets floors → IsSameBut b floors new → AreBitmapsOf T lines (get_or buckets b []) (get_or new b no_floor).bitmaps → AreFloors T lines buckets new
floors_changed T lines buckets floors new b are same bitmaps = record { many = same.many ∙ are.many; each = λ c. by_case c (cases_eq c b) }
  where
    by_case : (c : ℕ) → (c ≡ b) ⊎ (c ≢ b) → AreFloorsOf T lines (get_or buckets c []) (get_or new c no_floor)
    by_case c (inl e) =
        subst (λ i. AreFloorsOf T lines (get_or buckets i []) (get_or new i no_floor)) (sym e)
        (record {
          room = subst (λ rows. length (get_or buckets b []) ≤ 64 * length rows) (sym same.near) (are.each b).room;
          no_later = λ k below. subst (λ rows. AreNoLater (get_or rows (k / 64) []) (events_of T (last_of lines (get_or (get_or buckets b []) k 0)))) (sym same.near) ((are.each b).no_later k below);
          far = subst (λ rows. AreBelow rows (get_or new b no_floor).near) (sym same.far) (subst (λ rows. AreBelow (get_or floors b no_floor).far rows) (sym same.near) (are.each b).far);
          bitmaps = bitmaps;
        })
    by_case c (inr e) = subst (λ fs. AreFloorsOf T lines (get_or buckets c []) fs) (sym (same.others c e)) (are.each c)

-- a trip joins the line at a place of a bucket, which is marked there
pub floors_marked : (T : TimetableData) (lines buckets : List (List ℕ)) (floors new : List FloorsData) (t b place l : ℕ) → l < length lines → joins T lines (events_of T t) l ≡ true → place < length (get_or buckets b []) → get_or (get_or buckets b []) place 0 ≡ l
    → AreFloors T lines buckets floors → IsSameBut b floors new → AreMarked place (events_of T t) (get_or floors b no_floor).bitmaps (get_or new b no_floor).bitmaps → AreFloors T (set lines l (get_or lines l [] ++ t ∷ [])) buckets new
floors_marked T lines buckets floors new t b place l h j inside is are same marked =
    let more = set lines l (get_or lines l [] ++ t ∷ []) in
    let row = get_or buckets b [] in
    let joined = floors_joined T lines buckets floors t l h j are in
    let last : last_of (set lines l (get_or lines l [] ++ t ∷ [])) (get_or (get_or buckets b []) place 0) ≡ t = ap (last_of more) is ∙ ap last_trip (get_or-set_same lines l (get_or lines l [] ++ t ∷ []) [] h) ∙ last_trip-push (get_or lines l []) t in
    floors_changed T more buckets floors new b joined same
    (bitmaps_marked T more row (get_or floors b no_floor).bitmaps (get_or new b no_floor).bitmaps place inside (subst (λ u. AreMarked place (events_of T u) (get_or floors b no_floor).bitmaps (get_or new b no_floor).bitmaps) (sym last) marked) (joined.each b).bitmaps)
