-- Marks that fall along a line.
use Rattle.std.proofs.Common.{◌≡◌, ◌≢◌, ◌∙◌, ℕ, ◌+◌, ◌<◌, ◌≤◌, inl, inr, List, [], ◌∷◌, ◌↔◌, drop, get_or, ◌||◌, Bool, true, false, cond, refl, length, length-set, set, sym, ap, subst, arith, Option, Some, None}
use Rattle.std.specs.Prelude.{All, AllPairs, min, unwrap_or}
use Rattle.std.proofs.lemmas.List.{drop_more, get_or-set_same, get_or-set_other}
use Rattle.std.proofs.lemmas.List.Elements.{All-head, All-tail, All-weaker}
use Rattle.std.proofs.lemmas.Bool.Decides.{nat_tests}
use Rattle.tb_base.specs.TimetableData.{TimetableData}
use Rattle.tb_base.specs.Lines.{AreDividedInto}
use Rattle.tb_base.proofs.Ordered.{Member, AllPairs-tail}
use Rattle.segment_queue.specs.Scans.{trips_from}
use Rattle.segment_queue.specs.Queue.{IsFalling, lowered_mark, mark_of, last_index}
use Rattle.segment_queue.specs.Words.{is_at_most, lowered_marks}
use Rattle.segment_queue.proofs.Distinct.{all_by_member, has, has_member, same_or_other, member_or_not, before_member, pairs_weaker}
use Rattle.segment_queue.proofs.LineParts.{pairs_of, all_distinct, trips_no_later}
use Rattle.segment_queue.proofs.LineViews.{member_at}

pub lowered-in : (trips : List ℕ) (at u m : ℕ) → has u trips ≡ true → lowered_mark trips at u m ≡ min m at
lowered-in trips at u m e = ap (λ b. cond b (min m at) m) e

pub lowered-out : (trips : List ℕ) (at u m : ℕ) → has u trips ≡ false → lowered_mark trips at u m ≡ m
lowered-out trips at u m e = ap (λ b. cond b (min m at) m) e

pub lowered-le : (trips : List ℕ) (at u m : ℕ) → lowered_mark trips at u m ≤ m
lowered-le trips at u m =
    elim (member_or_not u trips) [ inl e ↦ omega (arith, lowered-in trips at u m e.1) | inr e ↦ omega (arith, lowered-out trips at u m e.1) ]

-- where the mark isn't above the index it stays
pub lowered-kept : (trips : List ℕ) (at u m : ℕ) → (Member u trips → m ≤ at) → lowered_mark trips at u m ≡ m
lowered-kept trips at u m low =
    elim (member_or_not u trips) [ inl e ↦ omega (arith, low e.0, lowered-in trips at u m e.1) | inr e ↦ lowered-out trips at u m e.1 ]

pub mark-set_same : (T : TimetableData) (marks : List (Option ℕ)) (t at : ℕ) → t < length marks → mark_of T (set marks t (Some at)) t ≡ at
mark-set_same T marks t at inside = ap (λ o. unwrap_or o (last_index T t)) (get_or-set_same marks t (Some at) None inside)

pub mark-set_other : (T : TimetableData) (marks : List (Option ℕ)) (t at u : ℕ) → u ≢ t → mark_of T (set marks t (Some at)) u ≡ mark_of T marks u
mark-set_other T marks t at u other = ap (λ o. unwrap_or o (last_index T u)) (get_or-set_other marks t u (Some at) None other)

-- one trip is entered, and the rest of the line is still to do
one_done : (T : TimetableData) (marks : List (Option ℕ)) (t at : ℕ) (rest : List ℕ) → t < length marks → at < mark_of T marks t → (u : ℕ)
    → lowered_mark (t ∷ rest) at u (mark_of T marks u) ≡ lowered_mark rest at u (mark_of T (set marks t (Some at)) u)
one_done T marks t at rest inside above u =
    elim (same_or_other t u) [
      | inl e ↦
          (let here : mark_of T (set marks t (Some at)) u ≡ at = subst (λ k. mark_of T (set marks t (Some at)) k ≡ at) e.0 (mark-set_same T marks t at inside) in
          let old : at < mark_of T marks u = subst (λ k. at < mark_of T marks k) e.0 above in
          lowered-in (t ∷ rest) at u (mark_of T marks u) (has_member u (t ∷ rest) (inl e.0))
          ∙ min_at (mark_of T marks u) old
          ∙ sym (ap (lowered_mark rest at u) here ∙ lowered-kept rest at u at (λ _. omega arith)))
      | inr e ↦
          (let there : mark_of T (set marks t (Some at)) u ≡ mark_of T marks u = mark-set_other T marks t at u (λ f. e.0 (sym f)) in
          ap (λ b. cond (b || has u rest) (min (mark_of T marks u) at) (mark_of T marks u)) e.1
          ∙ ap (lowered_mark rest at u) (sym there))
    ]
  where
    min_at : (m : ℕ) → at < m → min m at ≡ at
    min_at m h = omega (arith, h)

drop_item : (trips : List ℕ) (k t : ℕ) → k < length trips → t ≡ get_or trips k t → drop k trips ≡ t ∷ drop (k + 1) trips
drop_item trips k t there is = drop_more trips k t there ∙ ap (λ x. x ∷ drop (k + 1) trips) (sym is)

-- The marks of the rest of the trips are still to be lowered.
pub record StillToLower (T : TimetableData) (whole rest : List ℕ) (at : ℕ) (old marks : List (Option ℕ)) : Type 0 where
  pub todo : (u : ℕ) → u < length T.trips → lowered_mark whole at u (mark_of T old u) ≡ lowered_mark rest at u (mark_of T marks u)
  pub falling : IsFalling T marks rest
  pub distinct : AllPairs (λ x y. x ≢ y) rest

-- those of all trips from one on, when it begins
pub all_to_lower : (T : TimetableData) (lines : List (List ℕ)) (t at : ℕ) (trips : List ℕ) (marks : List (Option ℕ)) → AreDividedInto T lines → trips ≡ trips_from lines t → IsFalling T marks (trips_from lines t)
    → StillToLower T (trips_from lines t) trips at marks marks
all_to_lower T lines t at trips marks divided same falling = record {
  todo = λ u h. ap (λ xs. lowered_mark xs at u (mark_of T marks u)) (sym same);
  falling = subst (λ xs. IsFalling T marks xs) (sym same) falling;
  distinct = subst (λ xs. AllPairs (λ x y. x ≢ y) xs) (sym same) (pairs_of (λ x y. x ≢ y) t lines (all_distinct lines divided.once));
}

one_lowered : (T : TimetableData) (whole rest : List ℕ) (t at : ℕ) (old marks : List (Option ℕ)) → StillToLower T whole (t ∷ rest) at old marks → t < length marks → at < mark_of T marks t
    → StillToLower T whole rest at old (set marks t (Some at))
one_lowered T whole rest t at old marks still inside above = record {
  todo = λ u h. still.todo u h ∙ one_done T marks t at rest inside above u;
  falling = pairs_weaker (λ x y. mark_of T marks y ≤ mark_of T marks x) (λ x y. mark_of T (set marks t (Some at)) y ≤ mark_of T (set marks t (Some at)) x) rest
      (λ x y h k r. omega (arith, other x h, other y k, r))
      (AllPairs-tail (λ x y. mark_of T marks y ≤ mark_of T marks x) t rest still.falling);
  distinct = AllPairs-tail (λ x y. x ≢ y) t rest still.distinct;
}
  where
    other : (x : ℕ) → Member x rest → mark_of T (set marks t (Some at)) x ≡ mark_of T marks x
    other x h = mark-set_other T marks t at x (λ e. before_member (λ x y. x ≢ y) t rest x still.distinct h (sym e))

-- the mark of one more trip has been lowered
pub one_more_lowered : (T : TimetableData) (whole trips : List ℕ) (k t at : ℕ) (old marks new : List (Option ℕ)) → StillToLower T whole (drop k trips) at old marks → k < length trips → t ≡ get_or trips k t
    → t < length marks → at < mark_of T marks t → new ≡ set marks t (Some at) → StillToLower T whole (drop (k + 1) trips) at old new
one_more_lowered T whole trips k t at old marks new still there is inside above same =
    subst (λ (m : List (Option ℕ)). StillToLower T whole (drop (k + 1) trips) at old m) (sym same)
    (one_lowered T whole (drop (k + 1) trips) t at old marks (subst (λ (xs : List ℕ). StillToLower T whole xs at old marks) (drop_item trips k t there is) still) inside above)

stops : (T : TimetableData) (whole rest : List ℕ) (t at : ℕ) (old marks : List (Option ℕ)) → StillToLower T whole (t ∷ rest) at old marks → mark_of T marks t ≤ at
    → (u : ℕ) → u < length T.trips → mark_of T marks u ≡ lowered_mark whole at u (mark_of T old u)
stops T whole rest t at old marks still low u h = sym (still.todo u h ∙ lowered-kept (t ∷ rest) at u (mark_of T marks u) below)
  where
    below : Member u (t ∷ rest) → mark_of T marks u ≤ at
    below (inl e) = subst (λ k. mark_of T marks k ≤ at) e low
    below (inr m) = omega (arith, before_member (λ x y. mark_of T marks y ≤ mark_of T marks x) t rest u still.falling m, low)

-- where a trip's mark isn't above the index, nor are those of later trips
pub no_more_to_lower : (T : TimetableData) (whole trips : List ℕ) (k t at : ℕ) (old marks : List (Option ℕ)) → StillToLower T whole (drop k trips) at old marks → k < length trips → t ≡ get_or trips k t → mark_of T marks t ≤ at
    → (u : ℕ) → u < length T.trips → mark_of T marks u ≡ lowered_mark whole at u (mark_of T old u)
no_more_to_lower T whole trips k t at old marks still there is low =
    stops T whole (drop (k + 1) trips) t at old marks (subst (λ (xs : List ℕ). StillToLower T whole xs at old marks) (drop_item trips k t there is) still) low

-- what is read of a trip of the line is above the index just where its mark is, if one without a
-- mark is given what is above it just where the first trip's last index is
pub read_above : (T : TimetableData) (lines : List (List ℕ)) (t : ℕ) (trips : List ℕ) (k u last at m : ℕ) (marks : List (Option ℕ)) → AreDividedInto T lines → trips ≡ trips_from lines t → k < length trips → u ≡ get_or trips k u
    → (at < last) ↔ (at < last_index T t) → m ≡ unwrap_or (get_or marks u None) last → (at < m) ↔ (at < mark_of T marks u)
read_above T lines t trips k u last at m marks divided same there is stands read = by_mark (get_or marks u None) read
  where
    here : Member u (trips_from lines t)
    here = subst (λ xs. Member u xs) same (subst (λ v. Member v trips) (sym is) (member_at trips k u there))

    long : last_index T t ≡ last_index T u
    long = omega (arith, (trips_no_later T lines t u divided here).long)

    by_mark : (o : Option ℕ) → m ≡ unwrap_or o last → (at < m) ↔ (at < unwrap_or o (last_index T u))
    by_mark None e = (λ h. omega (arith, long, stands.0 (omega (arith, h, e))), λ h. omega (arith, e, stands.1 (omega (arith, h, long))))
    by_mark (Some x) e = (λ h. omega (arith, h, e), λ h. omega (arith, h, e))

-- a mark is at most the index, or above it, as its test says
low_mark : (o : Option ℕ) (at last : ℕ) → true ≡ is_at_most at o → unwrap_or o last ≤ at
low_mark None at last e = cc
low_mark (Some own) at last e = grind (arith, nat_tests, e)

high_mark : (o : Option ℕ) (at last : ℕ) → at < last → false ≡ is_at_most at o → at < unwrap_or o last
high_mark None at last below e = below
high_mark (Some own) at last below e = grind (arith, nat_tests, e)

pub length-lowered_marks : (trips : List ℕ) (at : ℕ) (marks : List (Option ℕ)) → length (lowered_marks trips at marks) ≡ length marks
length-lowered_marks [] at marks = refl
length-lowered_marks (t ∷ trips) at marks = elim (is_at_most at (get_or marks t None)) as (λ b. length (cond b marks (lowered_marks trips at (set marks t (Some at)))) ≡ length marks) [
  | true ↦ refl
  | false ↦ length-lowered_marks trips at (set marks t (Some at)) ∙ length-set marks t (Some at)
]

-- the rest of the trips get the index, up to the first whose mark isn't above it
rest_lowered : (T : TimetableData) (whole rest : List ℕ) (at : ℕ) (old marks : List (Option ℕ)) → StillToLower T whole rest at old marks → All (λ t. t < length marks) rest → All (λ t. at < last_index T t) rest → (u : ℕ) → u < length T.trips →
    mark_of T (lowered_marks rest at marks) u ≡ lowered_mark whole at u (mark_of T old u)
rest_lowered T whole [] at old marks still inside below u h = sym (still.todo u h)
rest_lowered T whole (t ∷ rest) at old marks still inside below u h = by_test (is_at_most at (get_or marks t None)) refl (λ next. rest_lowered T whole rest at old fallen next there (All-tail (λ x. at < last_index T x) t rest below) u h)
  where
    fallen : List (Option ℕ)
    fallen = set marks t (Some at)

    there : All (λ x. x < length fallen) rest
    there = All-weaker (λ x. x < length marks) (λ x. x < length fallen) (λ x k. omega (arith, k, length-set marks t (Some at))) rest (All-tail (λ x. x < length marks) t rest inside)

    by_test : (b : Bool) → b ≡ is_at_most at (get_or marks t None) → (StillToLower T whole rest at old fallen → mark_of T (lowered_marks rest at fallen) u ≡ lowered_mark whole at u (mark_of T old u)) →
        mark_of T (cond b marks (lowered_marks rest at fallen)) u ≡ lowered_mark whole at u (mark_of T old u)
    by_test true e more = stops T whole rest t at old marks still (low_mark (get_or marks t None) at (last_index T t) e) u h
    by_test false e more =
        let above : at < mark_of T marks t = high_mark (get_or marks t None) at (last_index T t) (All-head (λ x. at < last_index T x) t rest below) e in
        more (one_lowered T whole rest t at old marks still (All-head (λ x. x < length marks) t rest inside) above)

-- where the index is below the last one, that lowers the marks of all trips from one on
pub line_lowered : (T : TimetableData) (lines : List (List ℕ)) (t at : ℕ) (trips : List ℕ) (old new : List (Option ℕ)) → AreDividedInto T lines → trips ≡ trips_from lines t → IsFalling T old (trips_from lines t) → All (λ u. u < length T.trips) trips →
    length T.trips ≤ length old → at < last_index T t → new ≡ lowered_marks trips at old → (u : ℕ) → u < length T.trips → mark_of T new u ≡ lowered_mark (trips_from lines t) at u (mark_of T old u)
line_lowered T lines t at trips old new divided same falling there room below are u h =
    ap (λ (marks : List (Option ℕ)). mark_of T marks u) are
    ∙ rest_lowered T (trips_from lines t) trips at old old (all_to_lower T lines t at trips old divided same falling)
    (All-weaker (λ x. x < length T.trips) (λ x. x < length old) (λ x k. omega (arith, k, room)) trips there)
    (all_by_member (λ x. at < last_index T x) trips (λ x m. omega (arith, below, (trips_no_later T lines t x divided (subst (λ xs. Member x xs) same m)).long))) u h
