-- Each stop is boarded from one origin.
use Rattle.std.proofs.Common.{◌≡◌, ◌≢◌, ◌∙◌, ℕ, ◌+◌, ◌<◌, ◌≤◌, ◌⊎◌, inl, inr, List, [], ◌∷◌, ◌++◌, length, get_or, refl, sym, ap, subst, arith, Some}
use Rattle.std.specs.Prelude.{AllPairs, Contains, is_some, slice_index}
use Rattle.std.specs.List.{list_any}
use Rattle.std.proofs.lemmas.List.Elements.{All-append, All-nil, All-push, All-weaker}
use Rattle.std.proofs.lemmas.List.Folds.{list_any_at}
use Rattle.std.proofs.lemmas.List.Sums.{sum_by-append, sum_by_push}
use Rattle.tb_base.specs.Network.{NetData}
use Rattle.tb_base.specs.declared.table.Path.{Path}
use Rattle.tb_base.specs.Transfers.{numbers_below}
use Rattle.tb_base.specs.Walking.{walk}
use Rattle.tb_base.proofs.Ordered.{Member, Member-from_Contains, Contains-from_Member, AllPairs-tail}
use Rattle.tb_base.proofs.Members.{Member-append, Member-filter, Member-numbers_below}
use Rattle.segment_queue.specs.Scans.{line_indices_at}
use Rattle.segment_queue.proofs.Totals.{distinct_sum}
use Rattle.segment_queue.proofs.Distinct.{before_member, of_member, pairs_from_head}
use Rattle.earliest_query.specs.Choices.{IsFirstChoice, lines_near, stops_near}
use Rattle.earliest_query.specs.UnderWay.{BoardsAmong, BoardsOnce, BoardsStops, IsChosen}

pub pairs_append : {X : Type 0} (R : X → X → Type 0) (xs ys : List X) → AllPairs R xs → AllPairs R ys → ((x y : X) → Member x xs → Member y ys → R x y) → AllPairs R (xs ++ ys)
pairs_append R [] ys p q cross = q
pairs_append R (x ∷ xs) ys p q cross =
    pairs_from_head R x (xs ++ ys) (λ y h. elim (Member-append y xs ys h) [ inl k ↦ before_member R x xs y p k | inr k ↦ cross x y (inl refl) k ])
    (pairs_append R xs ys (AllPairs-tail R x xs p) q (λ a b h k. cross a b (inr h) k))

module _ (N : NetData) (origins : List ℕ) where
  same_secs : (o q r s w : ℕ) → q ≡ r → walk N.table o q ≡ Some s → walk N.table o r ≡ Some w → s ≡ w
  same_secs o q r s w e f g = let k : walk N.table o q ≡ walk N.table o r = ap (walk N.table o) e in cc

  -- no stop is chosen at two places
  chosen_once : (low mid high q r : ℕ) → IsChosen N.table origins low mid q → IsChosen N.table origins mid high r → q ≢ r
  chosen_once low mid high q r a b e =
      let there : walk N.table (slice_index origins b.place) q ≡ Some b.secs = ap (walk N.table (slice_index origins b.place)) e ∙ b.walks in
      let here : walk N.table (slice_index origins a.place) r ≡ Some a.secs = ap (walk N.table (slice_index origins a.place)) (sym e) ∙ a.walks in
      omega (arith, a.first.nearest b.place b.secs b.within there, b.first.first a.place a.secs (omega (arith, a.below, b.from_low)) here)

  chosen-wider : (low high low' high' q : ℕ) → low' ≤ low → high ≤ high' → IsChosen N.table origins low high q → IsChosen N.table origins low' high' q
  chosen-wider low high low' high' q l h c = record { inside = c.inside; place = c.place; from_low = omega (arith, l, c.from_low); below = omega (arith, h, c.below); within = c.within; secs = c.secs; walks = c.walks; first = c.first }

  abbrev pub boards_none : (low high steps : ℕ) → BoardsStops N origins low high steps steps
  boards_none low high steps = record { stops = []; distinct = λ i j d before below. absurd (omega (arith, below)); chosen = All-nil (IsChosen N.table origins low high); steps = omega arith }

  pub boards_join : (low mid high a b c : ℕ) → low ≤ mid → mid ≤ high → BoardsStops N origins low mid a b → BoardsStops N origins mid high b c → BoardsStops N origins low high a c
  boards_join low mid high a b c l h x y = record {
    stops = x.stops ++ y.stops;
    distinct = pairs_append (λ p q. p ≢ q) x.stops y.stops x.distinct y.distinct (λ q r k m. chosen_once low mid high q r (of_member (IsChosen N.table origins low mid) x.stops q x.chosen k) (of_member (IsChosen N.table origins mid high) y.stops r y.chosen m));
    chosen = All-append (IsChosen N.table origins low high) x.stops y.stops
        (All-weaker (IsChosen N.table origins low mid) (IsChosen N.table origins low high) (λ q k. chosen-wider low mid low high q (omega arith) h k) x.stops x.chosen)
        (All-weaker (IsChosen N.table origins mid high) (IsChosen N.table origins low high) (λ q k. chosen-wider mid high low high q l (omega arith) k) y.stops y.chosen);
    steps = omega (arith, x.steps, y.steps, sum_by-append (λ p. length (line_indices_at N.table N.lines p)) x.stops y.stops);
  }

  near_stop : (low high q : ℕ) → IsChosen N.table origins low high q → Member q (stops_near N.table origins)
  near_stop low high q c =
      Member-filter (λ p. list_any (λ o. is_some (walk N.table o p)) origins) q (numbers_below (length N.table.stops)) (Member-numbers_below q (length N.table.stops) c.inside)
      (list_any_at (λ o. is_some (walk N.table o q)) origins c.place 0 c.within (ap is_some c.walks))

  -- the steps are at most the line indices at the stops with a walk from an origin
  pub boards_bounded : (low high a b : ℕ) → BoardsStops N origins low high a b → b ≤ a + lines_near N origins
  boards_bounded low high a b x =
      omega (arith, x.steps, distinct_sum (λ p. length (line_indices_at N.table N.lines p)) x.stops (stops_near N.table origins) x.distinct (λ q h. near_stop low high q (of_member (IsChosen N.table origins low high) x.stops q x.chosen h)))

  -- one stop more, or none
  abbrev boards_push : (place q a b c : ℕ) → (x : BoardsStops N origins place (place + 1) a b) → (Contains x.stops q → ⊥) → IsChosen N.table origins place (place + 1) q → c ≡ b + length (line_indices_at N.table N.lines q) → BoardsStops N origins place (place + 1) a c
  boards_push place q a b c x fresh chosen steps = record {
    stops = x.stops ++ q ∷ [];
    distinct = pairs_append (λ p r. p ≢ r) x.stops (q ∷ []) x.distinct (λ i j d before below. absurd (omega (arith, before, below)))
        (λ p r h k. elim k [ inl e ↦ (λ f. fresh (Contains-from_Member q x.stops (subst (λ z. Member z x.stops) (f ∙ sym e) h))) | inr none ↦ absurd none ]);
    chosen = All-push (IsChosen N.table origins place (place + 1)) x.stops q x.chosen chosen;
    steps = omega (arith, x.steps, steps, sum_by_push (λ p. length (line_indices_at N.table N.lines p)) x.stops q);
  }

  chosen_here : (place q secs : ℕ) → place < length origins → q < length N.table.stops → walk N.table (slice_index origins place) q ≡ Some secs → IsFirstChoice N.table origins place q secs → IsChosen N.table origins place (place + 1) q
  chosen_here place q secs within inside walks first = record { inside = inside; place = place; from_low = omega arith; below = omega arith; within = within; secs = secs; walks = walks; first = first }

  module _ (place origin : ℕ) (paths : List Path) (within : place < length origins) where
    abbrev AmongPaths : ℕ → ℕ → Type 0
    AmongPaths count q = (q ≡ origin) ⊎ ((k : ℕ) × (k < count) × ((d : Path) → (get_or paths k d).to ≡ q))

    pub among_start : (secs a b : ℕ) → origin < length N.table.stops → walk N.table (slice_index origins place) origin ≡ Some secs → BoardsOnce N origins place origin secs a b → BoardsAmong N origins place origin paths 0 a b
    among_start secs a b inside walks (inl same) = record {
      stops = [];
      distinct = λ i j d before below. absurd (omega (arith, below));
      chosen = All-nil (IsChosen N.table origins place (place + 1));
      steps = omega (arith, same);
      among = λ q h. absurd (omega (arith, h.1));
    }
    among_start secs a b inside walks (inr once) =
        let x = boards_push place origin a a b (boards_none place (place + 1) a) (λ h. omega (arith, h.1)) (chosen_here place origin secs within inside walks once.0) once.1 in
        record { stops = x.stops; distinct = x.distinct; chosen = x.chosen; steps = x.steps; among = λ q h. inl (only q (Member-from_Contains q (origin ∷ []) h)) }
      where
        only : (q : ℕ) → Member q (origin ∷ []) → q ≡ origin
        only q (inl e) = sym e
        only q (inr none) = absurd none

    abbrev pub among_all : (count a b : ℕ) → BoardsAmong N origins place origin paths count a b → BoardsStops N origins place (place + 1) a b
    among_all count a b x = record { stops = x.stops; distinct = x.distinct; chosen = x.chosen; steps = x.steps }

    wider : (count q : ℕ) → AmongPaths count q → AmongPaths (count + 1) q
    wider count q (inl e) = inl e
    wider count q (inr (k, below, at)) = inr (k, omega (arith, below), at)

    pub among_more : (count secs a b c : ℕ) (f : Path) → ((d : Path) → get_or paths count d ≡ f) → f.to < length N.table.stops → f.to ≢ origin → ((k : ℕ) (d : Path) → k < count → (get_or paths k d).to ≢ f.to) →
        walk N.table (slice_index origins place) f.to ≡ Some secs → BoardsAmong N origins place origin paths count a b → BoardsOnce N origins place f.to secs b c → BoardsAmong N origins place origin paths (count + 1) a c
    among_more count secs a b c f is inside away earlier walks x (inl same) =
        record { stops = x.stops; distinct = x.distinct; chosen = x.chosen; steps = omega (arith, x.steps, same); among = λ q h. wider count q (x.among q h) }
    among_more count secs a b c f is inside away earlier walks x (inr once) =
        let y = boards_push place f.to a b c (among_all count a b x) (λ h. fresh (x.among f.to h)) (chosen_here place f.to secs within inside walks once.0) once.1 in
        record { stops = y.stops; distinct = y.distinct; chosen = y.chosen; steps = y.steps; among = λ q h. by_member q (Member-append q x.stops (f.to ∷ []) (Member-from_Contains q (x.stops ++ f.to ∷ []) h)) }
      where
        fresh : AmongPaths count f.to → ⊥
        fresh (inl e) = away e
        fresh (inr (k, below, at)) = earlier k f below (at f)

        by_member : (q : ℕ) → Member q x.stops ⊎ Member q (f.to ∷ []) → AmongPaths (count + 1) q
        by_member q (inl h) = wider count q (x.among q (Contains-from_Member q x.stops h))
        by_member q (inr (inl e)) = inr (count, omega arith, λ d. ap (λ (g : Path). g.to) (is d) ∙ e)
        by_member q (inr (inr none)) = absurd none
