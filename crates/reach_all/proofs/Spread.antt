-- A value at a stop is offered wherever one can walk from there.
use Rattle.std.proofs.Common.{◌≡◌, ◌∙◌, ℕ, ◌+◌, ◌≤◌, inl, inr, List, [], length, get_or, refl, replicate, sym, ap, subst, arith, ℤ, pos, ◌+ℤ◌}
use Rattle.std.specs.Prelude.{All, AllPairs, Contains, IsSome, Some, slice_get}
use Rattle.std.proofs.lemmas.Bool.{cases_lt}
use Rattle.std.proofs.lemmas.Int.{ints}
use Rattle.std.proofs.lemmas.List.{get_or-replicate, get_or_past, length-replicate}
use Rattle.std.proofs.lemmas.List.Elements.{All-nil}
use Rattle.tb_base.specs.declared.query.Value.{Value}
use Rattle.tb_base.specs.declared.table.Path.{Path}
use Rattle.tb_base.specs.BestValues.{IsAttained, IsStep}
use Rattle.tb_base.specs.TimetableData.{TimetableData}
use Rattle.tb_base.specs.Walking.{walk}
use Rattle.tb_base.proofs.Members.{All-from_Member}
use Rattle.tb_base.proofs.NumberFacts.{below_or_at}
use Rattle.tb_base.proofs.Ordered.{Contains-from_Member}
use Rattle.tb_base.proofs.Values.{same_value}
use Rattle.tb_laws.specs.Pruning.{IsLate}
use Rattle.tb_laws.proofs.Triangles.{walk-same, walk_secs-is}
use Rattle.earliest_query.proofs.FromOrigins.{walked_to}
use Rattle.reach_all.specs.Reach.{query_to, values_at}
use Rattle.reach_all.specs.Arriving.{AreOfferedBy, IsOfferedFrom}
use Rattle.reach_all.specs.Spreading.{AreStarts, AreStartsOf, IsOnFoot}
use Rattle.reach_all.proofs.Offering.{Offered, keep-trans, late-kept}

no_time : (v : Value) → v ≡ record { arrive = v.arrive +ℤ pos 0; rides = v.rides }
no_time v = same_value v.arrive (v.arrive +ℤ pos 0) v.rides v.rides (omega (arith, ints)) refl

module _ (T : TimetableData) (stop : ℕ) (v : Value) (paths : List Path) where
  pub offered_own : (old new : List (List Value)) → Offered stop v old new → AreOfferedBy T stop v paths 0 old new
  offered_own old new o = record {
    each_stop = o.each_stop;
    own = o.held;
    by_path = λ k d below. absurd (omega (arith, below));
    kept = o.kept;
    only = λ q w c. elim (o.only q w c) [
      | inl h ↦ inl h
      | inr e ↦ inr (record { secs = 0; walks = subst (λ k. walk T stop k ≡ Some 0) (sym e.0) (walk-same T stop); is = e.1 ∙ no_time v })
    ];
    stairs = o.stairs;
  }

  pub offered_on : (count : ℕ) (old mid new : List (List Value)) (f : Path) → AreOfferedBy T stop v paths count old mid → ((d : Path) → get_or paths count d ≡ f) → walk T stop f.to ≡ Some f.secs →
      Offered f.to (record { arrive = v.arrive +ℤ pos f.secs; rides = v.rides }) mid new → AreOfferedBy T stop v paths (count + 1) old new
  offered_on count old mid new f before read walks o = record {
    each_stop = o.each_stop ∙ before.each_stop;
    own = late-kept mid new stop v.arrive v.rides o.kept before.own;
    by_path = λ k d below. elim (below_or_at k count below) [
      | inl earlier ↦ late-kept mid new (get_or paths k d).to (v.arrive +ℤ pos (get_or paths k d).secs) v.rides o.kept (before.by_path k d earlier)
      | inr e ↦ subst (λ (g : Path). IsLate (values_at new g.to) (v.arrive +ℤ pos g.secs) v.rides) (sym (ap (λ m. get_or paths m d) e ∙ read d)) o.held
    ];
    kept = keep-trans old mid new before.kept o.kept;
    only = λ q w c. elim (o.only q w c) [
      | inl h ↦ before.only q w h
      | inr e ↦ inr (record { secs = f.secs; walks = subst (λ k. walk T stop k ≡ Some f.secs) (sym e.0) walks; is = e.1 })
    ];
    stairs = o.stairs;
  }

  pub offered_all : (count : ℕ) (old new : List (List Value)) → slice_get T.footpaths.paths stop ≡ Some paths → length paths ≤ count → AreOfferedBy T stop v paths count old new → IsOfferedFrom T stop v old new
  offered_all count old new row end offers = record {
    each_stop = offers.each_stop;
    held = λ q secs walks. elim (walked_to T stop paths q secs row walks) [
      | inl e ↦ subst (λ k. IsLate (values_at new k) (v.arrive +ℤ pos secs) v.rides) (sym e.0) (subst (λ a. IsLate (values_at new stop) a v.rides) (now secs e.1) offers.own)
      | inr w ↦
          (let read : get_or paths w.index w.path ≡ w.path = w.is w.path in
          subst (λ k. IsLate (values_at new k) (v.arrive +ℤ pos secs) v.rides) w.to
          (subst (λ s. IsLate (values_at new (Path.to w.path)) (v.arrive +ℤ pos s) v.rides) w.secs
          (subst (λ (g : Path). IsLate (values_at new g.to) (v.arrive +ℤ pos g.secs) v.rides) read (offers.by_path w.index w.path (omega (arith, w.inside, end))))))
    ];
    kept = offers.kept;
    only = offers.only;
    stairs = offers.stairs;
  }
    where
      now : (secs : ℕ) → secs ≡ 0 → v.arrive ≡ (v.arrive +ℤ pos secs)
      now secs none = omega (arith, ints, none)

module _ (T : TimetableData) (from : List ℕ) (leave : ℤ) where
  -- a walk from an origin is a journey
  pub on_foot_attained : (q : ℕ) (v : Value) → IsOnFoot T from leave q v → IsAttained T (query_to from leave q) v
  on_foot_attained q v foot = (
    record { origin = foot.origin; rides = []; target = q },
    record {
      journey = record { origin = foot.is_origin; target = (0, omega arith, refl); leads = subst (λ o. IsSome o) (sym foot.walks) refl };
      leaves = tt;
      value = foot.is ∙ same_value (leave +ℤ pos foot.secs) _ 0 0 (ap (λ z. leave +ℤ z) (sym (walk_secs-is T foot.origin q foot.secs foot.walks))) refl;
    },
  )

  abbrev no_value : List Value
  no_value = []

  pub none_at : (n q : ℕ) → values_at (replicate n []) q ≡ []
  none_at n q = elim (cases_lt q n) [
    | inl inside ↦ get_or-replicate n q [] [] inside
    | inr past ↦ get_or_past (replicate n []) q [] (let long : length (replicate n no_value) ≡ n = length-replicate n no_value in omega (arith, past, long))
  ]

  pub starts_none : (lists : List (List Value)) → lists ≡ replicate (length T.stops) [] → AreStartsOf T from leave 0 lists
  starts_none lists is = subst (AreStartsOf T from leave 0) (sym is) (record {
    each_stop = length-replicate (length T.stops) [];
    held = λ k d q secs below. absurd (omega (arith, below));
    only = λ q v c. absurd (let h = subst (λ vs. Contains vs v) (none_at (length T.stops) q) c in omega (arith, h.1));
    stairs = record {
      few = λ q. subst (λ vs. All (λ (v : Value). v.rides ≤ 0) vs) (sym (none_at (length T.stops) q)) (All-nil (λ (v : Value). v.rides ≤ 0));
      stairs = λ q. subst (λ vs. AllPairs IsStep vs) (sym (none_at (length T.stops) q)) (λ i j d a b. absurd (omega (arith, b)));
    };
  })

  pub starts_more : (count o : ℕ) (old new : List (List Value)) → AreStartsOf T from leave count old → Contains from o → ((d : ℕ) → get_or from count d ≡ o) → IsOfferedFrom T o (record { arrive = leave; rides = 0 }) old new → AreStartsOf T from leave (count + 1) new
  starts_more count o old new before in_from read offers = record {
    each_stop = offers.each_stop ∙ before.each_stop;
    held = λ k d q secs below walks. elim (below_or_at k count below) [
      | inl earlier ↦ late-kept old new q (leave +ℤ pos secs) 0 offers.kept (before.held k d q secs earlier walks)
      | inr e ↦ offers.held q secs (subst (λ p. walk T p q ≡ Some secs) (ap (λ m. get_or from m d) e ∙ read d) walks)
    ];
    only = λ q w c. elim (offers.only q w c) [
      | inl h ↦ before.only q w h
      | inr n ↦ record { origin = o; is_origin = in_from; secs = n.secs; walks = n.walks; is = n.is }
    ];
    stairs = offers.stairs;
  }

  pub starts_all : (count : ℕ) (lists : List (List Value)) → AreStartsOf T from leave count lists → length from ≤ count → AreStarts T from leave lists
  starts_all count lists starts end = record {
    found = record {
      each_stop = starts.each_stop;
      attained = λ q. All-from_Member (IsAttained T (query_to from leave q)) (values_at lists q) (λ v member. on_foot_attained q v (starts.only q v (Contains-from_Member v (values_at lists q) member)));
      stairs = starts.stairs;
    };
    held = λ p q secs c walks. starts.held c.0 p q secs (omega (arith, c.1, end)) (subst (λ o. walk T o q ≡ Some secs) (sym c.2) walks);
    only = starts.only;
  }
