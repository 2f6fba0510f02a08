-- Who walks to a stop by a time.
use Rattle.std.proofs.Common.{◌≡◌, ◌≢◌, ◌∙◌, sym, ap, subst, refl, ℕ, ◌+◌, ◌<◌, ◌≤◌, ◌⊎◌, inl, inr, Bool, true, false, List, length, get_or, ℤ, pos, ◌+ℤ◌, ◌≤ℤ◌, ◌<ℤ◌, Option, Some, None, arith}
use Rattle.std.specs.Option.{option_map}
use Rattle.std.proofs.lemmas.Bool.{cases_eq, cases_lt}
use Rattle.std.proofs.lemmas.Int.{ints}
use Rattle.std.proofs.lemmas.List.{get_or_default, get_or_past}
use Rattle.tb_base.specs.declared.table.Path.{Path}
use Rattle.tb_base.specs.Soundness.{IsSound}
use Rattle.tb_base.specs.TimetableData.{TimetableData}
use Rattle.tb_base.specs.Transfers.{is_sooner}
use Rattle.tb_base.specs.Walking.{walk}
use Rattle.tb_base.proofs.NumberFacts.{below_or_at, int_lt-false, int_lt-true}
use Rattle.tb_laws.proofs.Triangles.{walk-same}
use Rattle.transfer_pack.specs.TurnedPaths.{turned_into}
use Rattle.transfer_pack.proofs.Ways.{path_way, way_path}
use Rattle.transfer_reduce.specs.Reached.{IsReachedOnFoot}

module _ (T : TimetableData) (times : List (Option ℤ)) (q : ℕ) (time : ℤ) where
  -- from a stop from where it is no sooner one walks there by then
  late_from : (p secs : ℕ) → walk T p q ≡ Some secs → is_sooner (Some time) (option_map (λ t. t +ℤ pos secs) (get_or times p None)) ≡ false → IsReachedOnFoot T times q time
  late_from p secs way h = by_option (get_or times p None) refl h
    where
      by_option : (o : Option ℤ) → o ≡ get_or times p None → is_sooner (Some time) (option_map (λ t. t +ℤ pos secs) o) ≡ false → IsReachedOnFoot T times q time
      by_option None e k = cc
      by_option (Some t) e k = record { from = p; since = t; secs = secs; there = sym e; way = way; in_time = int_lt-false time (t +ℤ pos secs) k }

  pub late_there : is_sooner (Some time) (option_map (λ t. t +ℤ pos 0) (get_or times q None)) ≡ false → IsReachedOnFoot T times q time
  late_there h = late_from q 0 (walk-same T q) h

  -- and from one from where it is sooner one doesn't
  not_from : (p secs : ℕ) (since : ℤ) → get_or times p None ≡ Some since → (since +ℤ pos secs) ≤ℤ time → is_sooner (Some time) (option_map (λ t. t +ℤ pos secs) (get_or times p None)) ≡ true → ⊥
  not_from p secs since there in_time h =
      let less : time <ℤ (since +ℤ pos secs) = int_lt-true time (since +ℤ pos secs) (ap (λ o. is_sooner (Some time) (option_map (λ t. t +ℤ pos secs) o)) (sym there) ∙ h) in
      clash (since +ℤ pos secs) time in_time less
    where
      clash : (a b : ℤ) → a ≤ℤ b → b <ℤ a → ⊥
      clash a b g k = omega (arith, ints, g, k)

  module _ (sound : IsSound T) (row : List Path) (is : row ≡ turned_into T.footpaths.paths q (length T.stops)) where
    pub path_there : (j : ℕ) (d : Path) → j < length row → ((get_or row j d).to < length T.stops) × ((get_or row j d).secs ≤ 86400)
    path_there j d below =
        subst (λ (r : List Path). ((get_or r j d).to < length T.stops) × ((get_or r j d).secs ≤ 86400)) (sym is)
        (let way = path_way T sound q j d (subst (λ (r : List Path). j < length r) is below) in (way.0.to, way.0.secs))

    pub late_by_path : (j : ℕ) (d : Path) → j < length row → is_sooner (Some time) (option_map (λ t. t +ℤ pos (get_or row j d).secs) (get_or times (get_or row j d).to None)) ≡ false → IsReachedOnFoot T times q time
    late_by_path j d below =
        subst (λ (r : List Path). is_sooner (Some time) (option_map (λ t. t +ℤ pos (get_or r j d).secs) (get_or times (get_or r j d).to None)) ≡ false → IsReachedOnFoot T times q time) (sym is)
        (let way = path_way T sound q j d (subst (λ (r : List Path). j < length r) is below) in
        late_from (get_or (turned_into T.footpaths.paths q (length T.stops)) j d).to (get_or (turned_into T.footpaths.paths q (length T.stops)) j d).secs way.1)

    pub not_reached : length times ≡ length T.stops → is_sooner (Some time) (option_map (λ t. t +ℤ pos 0) (get_or times q None)) ≡ true →
        ((j : ℕ) (d : Path) → j < length row → is_sooner (Some time) (option_map (λ t. t +ℤ pos (get_or row j d).secs) (get_or times (get_or row j d).to None)) ≡ true) → IsReachedOnFoot T times q time → ⊥
    not_reached long own others r = by_place (cases_lt r.from (length times)) (cases_eq r.from q)
      where
        none : (o : Option ℤ) (t : ℤ) → o ≡ None → o ≡ Some t → ⊥
        none o t g h = cc

        nothing : (o : Option ℕ) (n : ℕ) → o ≡ Some 0 → o ≡ Some n → n ≡ 0
        nothing o n g h = cc

        by_place : (r.from < length times) ⊎ (length times ≤ r.from) → (r.from ≡ q) ⊎ (r.from ≢ q) → ⊥
        by_place (inr past) k = none (get_or times r.from None) r.since (get_or_past times r.from None past) r.there
        by_place (inl below) (inl e) =
            let stays : r.secs ≡ 0 = nothing (walk T q q) r.secs (walk-same T q) (ap (λ p. walk T p q) (sym e) ∙ r.way) in
            not_from q 0 r.since (ap (λ p. get_or times p None) (sym e) ∙ r.there) (subst (λ n. (r.since +ℤ pos n) ≤ℤ time) stays r.in_time) own
        by_place (inl below) (inr apart) =
            let p_below : r.from < length T.stops = omega (arith, below, long) in
            let k = way_path T sound r.from q r.secs p_below apart r.way in
            let d : Path = record { to = 0; secs = 0 } in
            let one = k.2 (record { to = 0; secs = 0 }) in
            let inside : k.0 < length row = subst (λ (r : List Path). k.0 < length r) (sym is) k.1 in
            let at = others k.0 d inside in
            not_from r.from r.secs r.since r.there r.in_time
            (subst (λ n. is_sooner (Some time) (option_map (λ t. t +ℤ pos n) (get_or times r.from None)) ≡ true) one.1
            (subst (λ p. is_sooner (Some time) (option_map (λ t. t +ℤ pos (get_or (turned_into T.footpaths.paths q (length T.stops)) k.0 d).secs) (get_or times p None)) ≡ true) one.0
            (subst (λ (r : List Path). is_sooner (Some time) (option_map (λ t. t +ℤ pos (get_or r k.0 d).secs) (get_or times (get_or r k.0 d).to None)) ≡ true) is at)))

-- one footpath more
pub more_sooner : (test : Path → Bool) (row : List Path) (k : ℕ) (f : Path) → k < length row → f ≡ get_or row k f → test f ≡ true → ((j : ℕ) (d : Path) → j < k → test (get_or row j d) ≡ true) → (j : ℕ) (d : Path) → j < k + 1 → test (get_or row j d) ≡ true
more_sooner test row k f below is one before j d h = by_case (below_or_at j k h)
  where
    by_case : (j < k) ⊎ (j ≡ k) → test (get_or row j d) ≡ true
    by_case (inl less) = before j d less
    by_case (inr e) = ap (λ i. test (get_or row i d)) e ∙ ap test (get_or_default row k d f below ∙ sym is) ∙ one
