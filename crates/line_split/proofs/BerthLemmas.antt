-- Where lines call, each is at an index of one of them, and where they may be boarded.
use Rattle.std.proofs.Common.{◌≡◌, ◌∙◌, sym, ap, subst, ℕ, ◌+◌, ◌<◌, ◌⊎◌, inl, inr, Bool, true, false, cond, ◌==◌, List, [], ◌∷◌, ◌++◌, length, map, get_or, take, arith}
use Rattle.std.specs.Prelude.{All, filter}
use Rattle.std.proofs.lemmas.List.{append-nil, get_or_append_left, get_or_push, map-append}
use Rattle.std.proofs.lemmas.List.Elements.{All-push, filter_more}
use Rattle.tb_base.specs.TimetableData.{TimetableData, stop_at}
use Rattle.tb_base.specs.Transfers.{numbers_below}
use Rattle.tb_base.proofs.Ordered.{Member}
use Rattle.tb_base.proofs.Members.{All-from_Member, Member-filter_back, Member-flat_map_back, Member-numbers_below_back}
use Rattle.tb_base.proofs.NumberFacts.{below_or_at}
use Rattle.line_split.specs.declared.boardings.Boarding.{Boarding}
use Rattle.line_split.specs.declared.lines.Berth.{Berth}
use Rattle.line_split.specs.Layout.{AreBoardings, IsBoarding, berth_of}
use Rattle.line_split.specs.LinesOf.{IsBerth, berths_at, calls_at, is_boarded, line_events}

pub berths_inside : (T : TimetableData) (lines : List (List ℕ)) (q : ℕ) → All (IsBerth T lines) (berths_at T lines q)
berths_inside T lines q = All-from_Member (IsBerth T lines) (berths_at T lines q) (λ b m. inside b m)
  where
    mapped : (l : ℕ) (js : List ℕ) (b : Berth) → Member b (map (λ j. record { line = l; at = j }) js) → (b.line ≡ l) × Member b.at js
    mapped l [] b m = absurd m
    mapped l (j ∷ js) b (inl e) = (ap (λ (c : Berth). c.line) (sym e), inl (ap (λ (c : Berth). c.at) e))
    mapped l (j ∷ js) b (inr m) = let r = mapped l js b m in (r.0, inr r.1)

    inside : (b : Berth) → Member b (berths_at T lines q) → IsBerth T lines b
    inside b m =
        let on = Member-flat_map_back (λ l. map (λ j. record { line = l; at = j }) (calls_at T (get_or lines l []) q)) b (numbers_below (length lines)) m in
        let at = mapped on.0 (calls_at T (get_or lines on.0 []) q) b on.2 in
        let index = (Member-filter_back (λ j. stop_at T (get_or (get_or lines on.0 []) 0 0) j == q) b.at (numbers_below (length (line_events T (get_or lines on.0 [])))) at.1).0 in
        record {
          line = let h : on.0 < length lines = Member-numbers_below_back on.0 (length lines) on.1 in omega (arith, h, at.0);
          at = subst (λ l. b.at < length (line_events T (get_or lines l []))) (sym at.0) (Member-numbers_below_back b.at (length (line_events T (get_or lines on.0 []))) index);
        }

-- ---- where lines may be boarded, one berth more

module _ (T : TimetableData) (lines : List (List ℕ)) (berths : List Berth) (k : ℕ) (b : Berth) (below : k < length berths) (is : b ≡ get_or berths k b) (row : List Boarding) (are : AreBoardings T lines (take k berths) row) where
  passed : (c : Bool) → is_boarded T lines b ≡ c → filter (is_boarded T lines) (take (k + 1) berths) ≡ map berth_of row ++ cond c (b ∷ []) []
  passed c e =
      filter_more (is_boarded T lines) berths k b below
      ∙ ap (λ x. filter (is_boarded T lines) (take k berths) ++ cond (is_boarded T lines x) (x ∷ []) []) (sym is)
      ∙ ap (λ c. filter (is_boarded T lines) (take k berths) ++ cond c (b ∷ []) []) e
      ∙ ap (λ bs. bs ++ cond c (b ∷ []) []) (sym are.called)

  pub not_boarded : is_boarded T lines b ≡ false → AreBoardings T lines (take (k + 1) berths) row
  not_boarded e = record { called = sym (passed false e ∙ append-nil (map berth_of row)); each = are.each }

  pub one_boarded : (x : Boarding) (new : List Boarding) → is_boarded T lines b ≡ true → berth_of x ≡ b → IsBoarding T lines x → new ≡ row ++ x ∷ [] → AreBoardings T lines (take (k + 1) berths) new
  one_boarded x new e same boarding h = record {
    called = ap (map berth_of) h ∙ map-append berth_of row (x ∷ []) ∙ ap (λ y. map berth_of row ++ y ∷ []) same ∙ sym (passed true e);
    each = subst (All (IsBoarding T lines)) (sym h) (All-push (IsBoarding T lines) row x are.each boarding);
  }

-- one row more
pub rows_pushed : {X : Type 0} (P : ℕ → List X → Type 0) (rows new : List (List X)) (row : List X) (n : ℕ) → length rows ≡ n → new ≡ rows ++ row ∷ [] → ((q : ℕ) → q < n → P q (get_or rows q [])) → P n row → (q : ℕ) → q < n + 1 → P q (get_or new q [])
rows_pushed P rows new row n long h before here q below = by_case (below_or_at q n below)
  where
    by_case : (q < n) ⊎ (q ≡ n) → P q (get_or new q [])
    by_case (inl k) = subst (P q) (sym (ap (λ rs. get_or rs q []) h ∙ get_or_append_left rows (row ∷ []) [] q (omega (arith, k, long)))) (before q k)
    by_case (inr e) = subst (P q) (sym (ap (λ rs. get_or rs q []) h ∙ get_or_push rows row [] q (long ∙ sym e))) (subst (λ i. P i row) (sym e) here)
