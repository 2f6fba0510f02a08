-- Doubts of two rows of boardings, one boarding after another.
use Rattle.std.proofs.Common.{◌≡◌, ◌∙◌, sym, ap, subst, refl, ℕ, ◌+◌, ◌<◌, ◌≤◌, inl, inr, Bool, true, false, cond, ◌&&◌, List, [], ◌∷◌, ◌++◌, length, get_or, take, Option, Some, None, ℤ, pos, ◌+ℤ◌, arith}
use Rattle.std.specs.Prelude.{All, IfSome, filter_map, find, nat_lt, int_le}
use Rattle.std.specs.List.{cons_option}
use Rattle.std.specs.Option.{option_map, option_and_then, option_to_list}
use Rattle.std.proofs.lemmas.List.{append-nil, take_more}
use Rattle.std.proofs.lemmas.List.Elements.{All-append, All-contains, All-get_or, All-pop, All-push, filter_map-append}
use Rattle.tb_base.specs.declared.table.Event.{Event}
use Rattle.tb_base.specs.declared.transfer.Transfer.{Transfer}
use Rattle.tb_base.specs.TimetableData.{TimetableData, no_event, events_of, departure_at}
use Rattle.tb_base.specs.Transfers.{earliest_trip, is_own_line_onward, may_be_boarded}
use Rattle.tb_base.proofs.Members.{find_found}
use Rattle.tb_base.proofs.Ordered.{Member, Contains-from_Member}
use Rattle.line_split.specs.declared.boardings.Boarding.{Boarding}
use Rattle.line_split.specs.Layout.{AreBoardings, IsBoarding, berth_of}
use Rattle.line_split.specs.LinesData.{LinesData}
use Rattle.line_split.specs.LinesOf.{berths_at}
use Rattle.transfer_make.specs.ByBerth.{row_by}
use Rattle.transfer_make.proofs.ByBerth.{boarded_rows}
use Rattle.late_edit.specs.declared.doubts.Doubt.{Doubt}
use Rattle.late_edit.specs.Doubts.{AreDoubts, AreDoubtsAt, ArePassed, AreSettled, IsAlike, IsDoubt, IsSettled, LeadsCalm, row_onto, rows_onto}
use Rattle.late_edit.specs.Touched.{has_other_events}
use Rattle.late_edit.proofs.ListFacts.{find-same}
use Rattle.late_edit.proofs.SameEvents.{same_trip}

-- ---- one line

-- the row of a trip that is boarded, where there is one
abbrev row_of_trip : ℕ → ℕ → ℕ → Option ℕ → Option Transfer
row_of_trip t i j o = option_map (λ u. record { trip = t; at = i; to_trip = u; to_at = j }) o

-- of the line's trips the first one, unless staying does as well
abbrev unless_own : List ℕ → ℕ → ℕ → ℕ → Option ℕ → Option ℕ
unless_own line t i j o = option_and_then (λ u. cond (is_own_line_onward line t i u j) None (Some u)) o

-- the row onto a line at index j
abbrev row_on : TimetableData → ℕ → ℕ → ℤ → List ℕ → ℕ → Option Transfer
row_on T t i time line j = row_of_trip t i j (cond (may_be_boarded T (get_or line 0 0) j) (unless_own line t i j (earliest_trip T line j time)) None)

none_either_way : {X : Type 0} (b : Bool) (o : Option X) → o ≡ None → cond b o None ≡ None
none_either_way true o h = h
none_either_way false o h = refl

module _ (L M : LinesData) (t i : ℕ) (time : ℤ) where
  abbrev T : TimetableData
  T = L.table

  abbrev U : TimetableData
  U = M.table

  line_same : (line : List ℕ) (j : ℕ) → ((u : ℕ) → Member u line → has_other_events T U u ≡ false) → row_on T t i time line j ≡ row_on U t i time line j
  line_same [] j calm =
      ap (row_of_trip t i j)
      (none_either_way (may_be_boarded T 0 j) (unless_own [] t i j (earliest_trip T [] j time)) refl ∙ sym (none_either_way (may_be_boarded U 0 j) (unless_own [] t i j (earliest_trip U [] j time)) refl))
  line_same (x ∷ xs) j calm = λ k.
      row_of_trip t i j (cond ((get_or (events x (inl refl) k) j no_event).board && nat_lt (j + 1) (length (events x (inl refl) k))) (unless_own (x ∷ xs) t i j (first k)) None)
    where
      events : (u : ℕ) → Member u (x ∷ xs) → events_of T u ≡ events_of U u
      events u m = same_trip T U u (calm u m)

      first : earliest_trip T (x ∷ xs) j time ≡ earliest_trip U (x ∷ xs) j time
      first = find-same (λ u. int_le time (departure_at T u j)) (λ u. int_le time (departure_at U u j)) (x ∷ xs)
          (λ u m k. int_le time (get_or (events u m k) j no_event).dep)

  line_calm : (line : List ℕ) (j : ℕ) → ((u : ℕ) → Member u line → has_other_events T U u ≡ false) → IfSome (row_on T t i time line j) (LeadsCalm L M)
  line_calm line j calm = by_trip (may_be_boarded T (get_or line 0 0) j) (earliest_trip T line j time) refl
    where
      by_own : (u : ℕ) → has_other_events T U u ≡ false → (b : Bool) → IfSome (row_of_trip t i j (cond b None (Some u))) (LeadsCalm L M)
      by_own u h true = tt
      by_own u h false = h

      by_trip : (b : Bool) (o : Option ℕ) → o ≡ earliest_trip T line j time → IfSome (row_of_trip t i j (cond b (unless_own line t i j o) None)) (LeadsCalm L M)
      by_trip true None e = tt
      by_trip true (Some u) e = by_own u (calm u (find_found (λ v. int_le time (departure_at T v j)) line u (sym e)).0) (is_own_line_onward line t i u j)
      by_trip false o e = tt

  -- ---- two lines that are alike

  alike_same : (b c : Boarding) → IsAlike L M b c → row_onto L t i time (Some b) ≡ row_onto M t i time (Some c)
  alike_same b c alike =
      line_same (get_or L.lines b.line []) b.at (λ u m. All-contains (λ u. has_other_events T U u ≡ false) (get_or L.lines b.line []) u alike.calm (Contains-from_Member u (get_or L.lines b.line []) m))
      ∙ (λ k. row_on U t i time (alike.trips k) (alike.at k))

  alike_calm : (b c : Boarding) → IsAlike L M b c → IfSome (row_onto L t i time (Some b)) (LeadsCalm L M)
  alike_calm b c alike =
      line_calm (get_or L.lines b.line []) b.at (λ u m. All-contains (λ u. has_other_events T U u ≡ false) (get_or L.lines b.line []) u alike.calm (Contains-from_Member u (get_or L.lines b.line []) m))

  -- ---- rows behind one another

  settled-none : AreSettled L M [] []
  settled-none = record { same = refl; calm = λ k d below. absurd (omega (arith, below)) }

  pub settled-append : (a b c d : List Transfer) → AreSettled L M a b → AreSettled L M c d → AreSettled L M (a ++ c) (b ++ d)
  settled-append a b c d first second = record {
    same = λ k. first.same k ++ second.same k;
    calm = All-append (LeadsCalm L M) a c first.calm second.calm;
  }

  one : (o p : Option Transfer) → o ≡ p → IfSome o (LeadsCalm L M) → AreSettled L M (option_to_list o) (option_to_list p)
  one o p same calm = record { same = ap option_to_list same; calm = by_row o calm }
    where
      by_row : (o : Option Transfer) → IfSome o (LeadsCalm L M) → All (LeadsCalm L M) (option_to_list o)
      by_row None h = λ k d below. absurd (omega (arith, below))
      by_row (Some r) h = All-push (LeadsCalm L M) [] r (λ k d below. absurd (omega (arith, below))) h

row_more : (N : LinesData) (t i : ℕ) (time : ℤ) (bs : List Boarding) (o : Option Boarding) → rows_onto N t i time (bs ++ option_to_list o) ≡ rows_onto N t i time bs ++ option_to_list (row_onto N t i time o)
row_more N t i time bs None = ap (rows_onto N t i time) (append-nil bs) ∙ sym (append-nil (rows_onto N t i time bs))
row_more N t i time bs (Some b) =
    filter_map-append (λ b. row_by N.table N.lines t i time (berth_of b)) bs (b ∷ [])
    ∙ ap (λ rs. rows_onto N t i time bs ++ rs) (alone (row_onto N t i time (Some b)))
  where
    alone : (o : Option Transfer) → cons_option o [] ≡ option_to_list o
    alone None = refl
    alone (Some r) = refl

-- a boarding of a row is one
pub boarding_at : (N : LinesData) (bs : List Boarding) (i : ℕ) (b : Boarding) → All (IsBoarding N.table N.lines) bs → i < length bs → b ≡ get_or bs i b → IsBoarding N.table N.lines b
boarding_at N bs i b all inside is = subst (IsBoarding N.table N.lines) (sym is) (All-get_or (IsBoarding N.table N.lines) bs i b inside all)

-- ---- doubts, boarding after boarding

module _ (L M : LinesData) where
  no_doubts : AreDoubts L M [] [] []
  no_doubts = record { each = λ k d below. absurd (omega (arith, below)); settled = λ t i time all. settled-none L M t i time }

  both_settled : (t i : ℕ) (time : ℤ) (bs cs : List Boarding) (o p : Option Boarding) → AreSettled L M (rows_onto L t i time bs) (rows_onto M t i time cs) → row_onto L t i time o ≡ row_onto M t i time p
      → IfSome (row_onto L t i time o) (LeadsCalm L M) → AreSettled L M (rows_onto L t i time (bs ++ option_to_list o)) (rows_onto M t i time (cs ++ option_to_list p))
  both_settled t i time bs cs o p so_far same calm =
      subst (λ rs. AreSettled L M rs (rows_onto M t i time (cs ++ option_to_list p))) (sym (row_more L t i time bs o))
      (subst (AreSettled L M (rows_onto L t i time bs ++ option_to_list (row_onto L t i time o))) (sym (row_more M t i time cs p))
      (settled-append L M t i time (rows_onto L t i time bs) (rows_onto M t i time cs) (option_to_list (row_onto L t i time o)) (option_to_list (row_onto M t i time p)) so_far
      (one L M t i time (row_onto L t i time o) (row_onto M t i time p) same calm)))

  passed : (bs cs : List Boarding) (ds : List Doubt) (b c : Boarding) → AreDoubts L M bs cs ds → IsAlike L M b c → AreDoubts L M (bs ++ b ∷ []) (cs ++ c ∷ []) ds
  passed bs cs ds b c so_far alike = record {
    each = so_far.each;
    settled = λ t i time all. both_settled t i time bs cs (Some b) (Some c) (so_far.settled t i time all) (alike_same L M t i time b c alike) (alike_calm L M t i time b c alike);
  }

  added : (bs cs : List Boarding) (ds : List Doubt) (o p : Option Boarding) → AreDoubts L M bs cs ds → IsDoubt L M (record { old = o; new = p }) → AreDoubts L M (bs ++ option_to_list o) (cs ++ option_to_list p) (ds ++ record { old = o; new = p } ∷ [])
  added bs cs ds o p so_far doubt = record {
    each = All-push (IsDoubt L M) ds (record { old = o; new = p }) so_far.each doubt;
    settled = λ t i time all.
        let d : Doubt = record { old = o; new = p } in
        let parts : All (IsSettled L M t i time) ds × IsSettled L M t i time d = All-pop (IsSettled L M t i time) (ds ++ d ∷ []) ds (Some d) refl all in
        both_settled t i time bs cs o p (so_far.settled t i time parts.0) parts.1.same parts.1.calm;
  }

  -- ---- the steps over two rows

  one_more : (bs : List Boarding) (i : ℕ) (b : Boarding) → i < length bs → b ≡ get_or bs i b → take i bs ++ b ∷ [] ≡ take (i + 1) bs
  one_more bs i b inside is = ap (λ x. take i bs ++ x ∷ []) is ∙ sym (take_more bs i b inside)

  module _ (bs cs : List Boarding) (ds : List Doubt) (i j : ℕ) (so_far : AreDoubts L M (take i bs) (take j cs) ds) where
    pub alike_step : (b c : Boarding) → i < length bs → j < length cs → b ≡ get_or bs i b → c ≡ get_or cs j c → IsAlike L M b c → AreDoubts L M (take (i + 1) bs) (take (j + 1) cs) ds
    alike_step b c in_bs in_cs b_is c_is alike =
        subst (λ xs. AreDoubts L M xs (take (j + 1) cs) ds) (one_more bs i b in_bs b_is)
        (subst (λ ys. AreDoubts L M (take i bs ++ b ∷ []) ys ds) (one_more cs j c in_cs c_is) (passed (take i bs) (take j cs) ds b c so_far alike))

    pub pair_step : (b c : Boarding) (new : List Doubt) → i < length bs → j < length cs → b ≡ get_or bs i b → c ≡ get_or cs j c → IsBoarding L.table L.lines b → IsBoarding M.table M.lines c
        → new ≡ ds ++ record { old = Some b; new = Some c } ∷ [] → AreDoubts L M (take (i + 1) bs) (take (j + 1) cs) new
    pair_step b c new in_bs in_cs b_is c_is old_one new_one is =
        subst (λ xs. AreDoubts L M xs (take (j + 1) cs) new) (one_more bs i b in_bs b_is)
        (subst (λ ys. AreDoubts L M (take i bs ++ b ∷ []) ys new) (one_more cs j c in_cs c_is)
        (subst (AreDoubts L M (take i bs ++ b ∷ []) (take j cs ++ c ∷ [])) (sym is)
        (added (take i bs) (take j cs) ds (Some b) (Some c) so_far (record { old = old_one; new = new_one }))))

  pub old_step : (bs cs : List Boarding) (ds new : List Doubt) (i : ℕ) (b : Boarding) → AreDoubts L M (take i bs) cs ds → i < length bs → b ≡ get_or bs i b → IsBoarding L.table L.lines b → new ≡ ds ++ record { old = Some b; new = None } ∷ []
      → AreDoubts L M (take (i + 1) bs) cs new
  old_step bs cs ds new i b so_far inside b_is old_one is =
      subst (λ xs. AreDoubts L M xs cs new) (one_more bs i b inside b_is)
      (subst (λ ys. AreDoubts L M (take i bs ++ b ∷ []) ys new) (append-nil cs)
      (subst (AreDoubts L M (take i bs ++ b ∷ []) (cs ++ [])) (sym is)
      (added (take i bs) cs ds (Some b) None so_far (record { old = old_one; new = tt }))))

  pub new_step : (bs cs : List Boarding) (ds new : List Doubt) (j : ℕ) (c : Boarding) → AreDoubts L M bs (take j cs) ds → j < length cs → c ≡ get_or cs j c → IsBoarding M.table M.lines c → new ≡ ds ++ record { old = None; new = Some c } ∷ []
      → AreDoubts L M bs (take (j + 1) cs) new
  new_step bs cs ds new j c so_far inside c_is new_one is =
      subst (λ xs. AreDoubts L M xs (take (j + 1) cs) new) (append-nil bs)
      (subst (λ ys. AreDoubts L M (bs ++ []) ys new) (one_more cs j c inside c_is)
      (subst (AreDoubts L M (bs ++ []) (take j cs ++ c ∷ [])) (sym is)
      (added bs (take j cs) ds None (Some c) so_far (record { old = tt; new = new_one }))))

  pub none_passed : (bs cs : List Boarding) (ds : List Doubt) → ds ≡ [] → ArePassed L M bs cs ds (0, 0)
  none_passed bs cs ds none = record { old = omega arith; new = omega arith; doubts = subst (AreDoubts L M [] []) (sym none) no_doubts }

  -- ---- at a stop

  pub doubts_at : (q : ℕ) (bs cs : List Boarding) (ds : List Doubt) → AreBoardings L.table L.lines (berths_at L.table L.lines q) bs → AreBoardings M.table M.lines (berths_at M.table M.lines q) cs → AreDoubts L M bs cs ds → AreDoubtsAt L M q ds
  doubts_at q bs cs ds olds news are = record {
    each = are.each;
    settled = λ t i time all.
        subst (λ rs. AreSettled L M rs (filter_map (row_by M.table M.lines t i time) (berths_at M.table M.lines q))) (boarded_rows L.table L.lines t i time (berths_at L.table L.lines q) bs olds)
        (subst (AreSettled L M (rows_onto L t i time bs)) (boarded_rows M.table M.lines t i time (berths_at M.table M.lines q) cs news) (are.settled t i time all));
  }
