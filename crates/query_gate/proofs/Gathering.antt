-- Leaving times gathered from line indices, and taken from the last on.
use Rattle.std.proofs.Common.{◌≡◌, ◌∙◌, ℕ, suc, ◌<◌, ◌⊎◌, inl, inr, List, [], ◌∷◌, ◌++◌, length, get_or, refl, sym, subst, arith, Option, Some, None, ℤ, pos, negsuc, ◌+ℤ◌, ◌-ℤ◌, ◌≤ℤ◌, ◌<ℤ◌}
use Rattle.std.specs.Prelude.{All, AllPairs, Contains, slice_get, ◌↔◌}
use Rattle.std.proofs.lemmas.Int.{ints}
use Rattle.std.proofs.lemmas.List.{get_or_append_left, get_or_push, length_push}
use Rattle.std.proofs.lemmas.List.Elements.{All-contains, All-contains_itself, All-weaker, Contains-push, Contains-push_cases}
use Rattle.tb_base.specs.Network.{NetData}
use Rattle.tb_base.specs.declared.table.Path.{Path}
use Rattle.tb_base.specs.TimetableData.{TimetableData}
use Rattle.tb_base.specs.Lines.{AreDividedInto}
use Rattle.tb_base.specs.Profiles.{WindowData}
use Rattle.tb_base.specs.Soundness.{IsSoundPath}
use Rattle.segment_queue.specs.Scans.{line_indices_at}
use Rattle.query_gate.specs.Leaving.{AreLeavingTimes, DepartsAt, HaveJoined, IsLeavingBefore, IsLeavingTime, IsLineDeparture, IsWithin, LeavesFor, line_departure}
use Rattle.query_gate.proofs.Departures.{departs_by_line, departs_sooner, departs_then, line_departs}
use Rattle.query_gate.proofs.FromOrigin.{LeavesBy, by_walk, leaves, no_path}
use Rattle.query_gate.proofs.Joining.{joined_all, joined_none, joined_push, joined_same}
use Rattle.tb_base.proofs.NumberFacts.{cases_ltℤ, ≤ℤ-same_back}

-- how many seconds are left from the next time on
abbrev pub seconds_to : ℤ → ℕ
seconds_to (pos n) = suc n
seconds_to (negsuc n) = 0

abbrev pub left_until : ℤ → Option ℤ → ℕ
left_until last None = 0
left_until last (Some time) = seconds_to (last -ℤ time)

fewer : (a b : ℤ) → pos 0 ≤ℤ b → a <ℤ b → seconds_to a < seconds_to b
fewer (pos m) (pos n) h k = omega (arith, ints, k)
fewer (pos m) (negsuc n) h k = absurd (omega (arith, ints, h))
fewer (negsuc m) (pos n) h k = omega arith
fewer (negsuc m) (negsuc n) h k = absurd (omega (arith, ints, h))

-- one leaves within the window who takes the path, and departs by the line index with this number
abbrev pub LeavesByLine : NetData → WindowData → Path → ℕ → ℤ → Type 0
LeavesByLine N W path berth n = IsWithin W n × IsLineDeparture N path.to berth (n +ℤ pos path.secs)

-- the leaving times with a departure before some time have joined, and the next departure from it
-- on is known
pub record AreGathered (N : NetData) (W : WindowData) (path : Path) (berth : ℕ) (old times : List ℤ) (next : Option ℤ) : Type 0 where
  pub since : ℤ
  pub from : (W.first +ℤ pos path.secs) ≤ℤ since
  pub following : line_departure N path.to since berth ≡ next
  pub so_far : HaveJoined (λ n. LeavesByLine N W path berth n × ((n +ℤ pos path.secs) <ℤ since)) old times

module _ (N : NetData) (W : WindowData) (path : Path) (berth : ℕ) (divided : AreDividedInto N.table N.lines) (inside : berth < length (line_indices_at N.table N.lines path.to)) where
  pub gather_begun : (times : List ℤ) (since : ℤ) (next : Option ℤ) → since ≡ (W.first +ℤ pos path.secs) → next ≡ line_departure N path.to since berth → AreGathered N W path berth times times next
  gather_begun times since next e is = record {
    since = since;
    from = ≤ℤ-same_back _ _ e;
    following = sym is;
    so_far = joined_none (λ n. LeavesByLine N W path berth n × ((n +ℤ pos path.secs) <ℤ since)) times (λ n p. clash W.first n since path.secs e p.0.0.0 p.1);
  }
    where
      clash : (a n b : ℤ) (s : ℕ) → b ≡ (a +ℤ pos s) → a ≤ℤ n → (n +ℤ pos s) <ℤ b → ⊥
      clash a n b s e h k = omega (arith, ints, e, h, k)

  module _ (old times : List ℤ) (next : Option ℤ) (g : AreGathered N W path berth old times next) where
    -- no departure is between
    none_before : (m n : ℤ) → next ≡ Some m → LeavesByLine N W path berth n → g.since ≤ℤ (n +ℤ pos path.secs) → m ≤ℤ (n +ℤ pos path.secs)
    none_before m n e p late =
        let s : (x : ℤ) × (line_departure N path.to g.since berth ≡ Some x) × (x ≤ℤ (n +ℤ pos path.secs)) = departs_sooner N path.to divided (n +ℤ pos path.secs) g.since berth (n +ℤ pos path.secs) inside p.1 late in
        let same : s.0 ≡ m = (let k : ◌≡◌ {A = Option ℤ} (Some s.0) (Some m) = sym s.1 ∙ g.following ∙ e in cc) in
        subst (λ x. x ≤ℤ (n +ℤ pos path.secs)) same s.2

    -- the times are complete where what may follow is not within the window
    complete_before : ((n : ℤ) → LeavesByLine N W path berth n → g.since ≤ℤ (n +ℤ pos path.secs) → ⊥) → HaveJoined (LeavesByLine N W path berth) old times
    complete_before none =
        joined_same (λ n. LeavesByLine N W path berth n × ((n +ℤ pos path.secs) <ℤ g.since)) (LeavesByLine N W path berth) old times (λ n p. p.0) (λ n p. by_time n p (cases_ltℤ (n +ℤ pos path.secs) g.since)) g.so_far
      where
        by_time : (n : ℤ) → LeavesByLine N W path berth n → ((n +ℤ pos path.secs) <ℤ g.since) ⊎ (g.since ≤ℤ (n +ℤ pos path.secs)) → LeavesByLine N W path berth n × ((n +ℤ pos path.secs) <ℤ g.since)
        by_time n p (inl h) = (p, h)
        by_time n p (inr h) = absurd (none n p h)

    -- nothing departs any more
    pub gather_ended : next ≡ None → HaveJoined (LeavesByLine N W path berth) old times
    gather_ended e = complete_before (λ n p late.
        let s : (x : ℤ) × (line_departure N path.to g.since berth ≡ Some x) × (x ≤ℤ (n +ℤ pos path.secs)) = departs_sooner N path.to divided (n +ℤ pos path.secs) g.since berth (n +ℤ pos path.secs) inside p.1 late in
        let k : ◌≡◌ {A = Option ℤ} (Some s.0) None = sym s.1 ∙ g.following ∙ e in
        cc)

    pub next_departs : (d : ℤ) → next ≡ Some d → DepartsAt N.table path.to d
    next_departs d e = (line_departs N path.to divided g.since berth d inside (g.following ∙ e)).1

    module _ (d : ℤ) (e : next ≡ Some d) where
      is_next : (g.since ≤ℤ d) × IsLineDeparture N path.to berth d
      is_next = ((line_departs N path.to divided g.since berth d inside (g.following ∙ e)).0, departs_then N path.to divided g.since berth d inside (g.following ∙ e))

      -- the next one leaves after the window
      pub gather_past : (time : ℤ) → time ≡ (d -ℤ pos path.secs) → W.last <ℤ time → HaveJoined (LeavesByLine N W path berth) old times
      gather_past time is past = complete_before (λ n p late. clash d n W.last time path.secs is past p.0.1 (none_before d n e p late))
        where
          clash : (d n last time : ℤ) (s : ℕ) → time ≡ (d -ℤ pos s) → last <ℤ time → n ≤ℤ last → d ≤ℤ (n +ℤ pos s) → ⊥
          clash d n last time s is past h k = omega (arith, ints, is, past, h, k)

      -- the next one has joined
      pub gather_more : (time since : ℤ) (then : Option ℤ) → time ≡ (d -ℤ pos path.secs) → time ≤ℤ W.last → since ≡ (d +ℤ pos 1) → then ≡ line_departure N path.to since berth → AreGathered N W path berth old (times ++ time ∷ []) then
      gather_more time since then is within next_is then_is = record {
        since = since;
        from = on W.first g.since d since path.secs g.from is_next.0 next_is;
        following = sym then_is;
        so_far = joined_same (λ n. (LeavesByLine N W path berth n × ((n +ℤ pos path.secs) <ℤ g.since)) ⊎ (time ≡ n)) (λ n. LeavesByLine N W path berth n × ((n +ℤ pos path.secs) <ℤ since)) old (times ++ time ∷ [])
            (λ n p. is_one n p) (λ n p. by_time n p (cases_ltℤ (n +ℤ pos path.secs) g.since))
            (joined_push (λ n. LeavesByLine N W path berth n × ((n +ℤ pos path.secs) <ℤ g.since)) old times time g.so_far);
      }
        where
          on : (a b d c : ℤ) (s : ℕ) → (a +ℤ pos s) ≤ℤ b → b ≤ℤ d → c ≡ (d +ℤ pos 1) → (a +ℤ pos s) ≤ℤ c
          on a b d c s g h e = omega (arith, ints, g, h, e)

          before : (n b d c : ℤ) (s : ℕ) → (n +ℤ pos s) <ℤ b → b ≤ℤ d → c ≡ (d +ℤ pos 1) → (n +ℤ pos s) <ℤ c
          before n b d c s g h e = omega (arith, ints, g, h, e)

          back : (d t : ℤ) (s : ℕ) → t ≡ (d -ℤ pos s) → (t +ℤ pos s) ≡ d
          back d t s e = omega (arith, ints, e)

          first_in : (a b d t : ℤ) (s : ℕ) → (a +ℤ pos s) ≤ℤ b → b ≤ℤ d → t ≡ (d -ℤ pos s) → a ≤ℤ t
          first_in a b d t s g h e = omega (arith, ints, g, h, e)

          below : {x d c : ℤ} → x ≡ d → c ≡ (d +ℤ pos 1) → x <ℤ c
          below e f = omega (arith, ints, e, f)

          same : (n d c t : ℤ) (s : ℕ) → (n +ℤ pos s) <ℤ c → c ≡ (d +ℤ pos 1) → d ≤ℤ (n +ℤ pos s) → t ≡ (d -ℤ pos s) → t ≡ n
          same n d c t s g e h f = omega (arith, ints, g, e, h, f)

          here : LeavesByLine N W path berth time × ((time +ℤ pos path.secs) <ℤ since)
          here = (
            ((first_in W.first g.since d time path.secs g.from is_next.0 is, within), subst (IsLineDeparture N path.to berth) (sym (back d time path.secs is)) is_next.1),
            below (back d time path.secs is) next_is,
          )

          is_one : (n : ℤ) → (LeavesByLine N W path berth n × ((n +ℤ pos path.secs) <ℤ g.since)) ⊎ (time ≡ n) → LeavesByLine N W path berth n × ((n +ℤ pos path.secs) <ℤ since)
          is_one n (inl p) = (p.0, before n g.since d since path.secs p.1 is_next.0 next_is)
          is_one n (inr e) = subst (λ x. LeavesByLine N W path berth x × ((x +ℤ pos path.secs) <ℤ since)) e here

          by_time : (n : ℤ) → LeavesByLine N W path berth n × ((n +ℤ pos path.secs) <ℤ since) → ((n +ℤ pos path.secs) <ℤ g.since) ⊎ (g.since ≤ℤ (n +ℤ pos path.secs)) → (LeavesByLine N W path berth n × ((n +ℤ pos path.secs) <ℤ g.since)) ⊎ (time ≡ n)
          by_time n p (inl h) = inl (p.0, h)
          by_time n p (inr h) = inr (same n d since time path.secs p.1 next_is (none_before d n e p.0 h) is)

      -- with it fewer seconds are left
      pub gather_less : (time since end : ℤ) (then : Option ℤ) → time ≡ (d -ℤ pos path.secs) → time ≤ℤ W.last → since ≡ (d +ℤ pos 1) → end ≡ (W.last +ℤ pos path.secs) → then ≡ line_departure N path.to since berth → left_until end then < left_until end next
      gather_less time since end then is within next_is end_is then_is = subst (λ o. left_until end then < left_until end o) (sym e) (by_next then (sym then_is))
        where
          there : (d t l x : ℤ) (s : ℕ) → t ≡ (d -ℤ pos s) → t ≤ℤ l → x ≡ (l +ℤ pos s) → pos 0 ≤ℤ (x -ℤ d)
          there d t l x s e h f = omega (arith, ints, e, h, f)

          less : (d c m x : ℤ) → c ≡ (d +ℤ pos 1) → c ≤ℤ m → (x -ℤ m) <ℤ (x -ℤ d)
          less d c m x e h = omega (arith, ints, e, h)

          some : (x : ℤ) → pos 0 ≤ℤ x → 0 < seconds_to x
          some (pos n) h = omega arith
          some (negsuc n) h = absurd (omega (arith, ints, h))

          by_next : (o : Option ℤ) → line_departure N path.to since berth ≡ o → left_until end o < left_until end (Some d)
          by_next None f = some (end -ℤ d) (there d time W.last end path.secs is within end_is)
          by_next (Some m) f = fewer (end -ℤ m) (end -ℤ d) (there d time W.last end path.secs is within end_is) (less d since m end next_is (line_departs N path.to divided since berth m inside f).0)

-- those of all line indices at the end of a path are those of the departures there
pub lines_gathered : (N : NetData) (W : WindowData) (path : Path) → AreDividedInto N.table N.lines → (count : ℕ) (old times : List ℤ) → count ≡ length (line_indices_at N.table N.lines path.to) →
    HaveJoined (λ n. (k : ℕ) × (k < count) × LeavesByLine N W path k n) old times → HaveJoined (λ n. IsWithin W n × DepartsAt N.table path.to (n +ℤ pos path.secs)) old times
lines_gathered N W path divided count old times all joined =
    joined_same (λ n. (k : ℕ) × (k < count) × LeavesByLine N W path k n) (λ n. IsWithin W n × DepartsAt N.table path.to (n +ℤ pos path.secs)) old times
    (λ n p. (p.2.0, (line_departs N path.to divided (n +ℤ pos path.secs) p.0 (n +ℤ pos path.secs) (subst (λ m. p.0 < m) all p.1) p.2.1).1))
    (λ n q. (let d : (k : ℕ) × (k < length (line_indices_at N.table N.lines path.to)) × IsLineDeparture N path.to k (n +ℤ pos path.secs) = departs_by_line N path.to divided (n +ℤ pos path.secs) q.1 in
    (d.0, subst (λ m. d.0 < m) (sym all) d.1, (q.0, d.2))))
    joined

-- those of an origin and of the paths from it are those at which one leaves it
pub paths_gathered : (T : TimetableData) (W : WindowData) (origin : ℕ) (paths : List Path) → slice_get T.footpaths.paths origin ≡ Some paths → AllPairs (λ (f g : Path). f.to < g.to) paths → All (IsSoundPath (length T.stops) origin) paths → (count : ℕ) (old times : List ℤ) → count ≡ length paths →
    HaveJoined (λ n. (IsWithin W n × DepartsAt T origin (n +ℤ pos 0)) ⊎ ((k : ℕ) × (k < count) × (IsWithin W n × LeavesBy T (get_or paths k no_path) n))) old times → HaveJoined (λ n. IsWithin W n × LeavesFor T origin n) old times
paths_gathered T W origin paths row ascending sound count old times all joined =
    joined_same (λ n. (IsWithin W n × DepartsAt T origin (n +ℤ pos 0)) ⊎ ((k : ℕ) × (k < count) × (IsWithin W n × LeavesBy T (get_or paths k no_path) n))) (λ n. IsWithin W n × LeavesFor T origin n) old times
    (λ n p. elim p [
      | inl q ↦ (q.0, leaves T origin paths row ascending sound n (inl q.1))
      | inr q ↦ (q.2.0, leaves T origin paths row ascending sound n (inr (q.0, subst (λ m. q.0 < m) all q.1, q.2.1)))
    ])
    (λ n q. elim (by_walk T origin paths row ascending sound n q.1) [ inl d ↦ inl (q.0, d) | inr r ↦ inr (r.0, subst (λ m. r.0 < m) (sym all) r.1, (q.0, r.2)) ])
    joined

module _ (T : TimetableData) (W : WindowData) where
  -- those of all origins are the leaving times
  pub origins_gathered : (origins : List ℕ) → origins ≡ W.from → (count : ℕ) (times : List ℤ) → count ≡ length origins → HaveJoined (λ n. (k : ℕ) × (k < count) × (IsWithin W n × LeavesFor T (get_or origins k 0) n)) [] times → HaveJoined (λ n. IsWithin W n × IsLeavingTime T W.from n) [] times
  origins_gathered origins same count times all joined =
      subst (λ o. HaveJoined (λ n. IsWithin W n × IsLeavingTime T o n) [] times) same
      (joined_same (λ n. (o : ℕ) × Contains origins o × (IsWithin W n × LeavesFor T o n)) (λ n. IsWithin W n × IsLeavingTime T origins n) [] times (λ n p. (p.2.0, (p.0, p.1, p.2.1))) (λ n q. (q.1.0, q.1.1, (q.0, q.1.2)))
      (joined_all (λ o n. IsWithin W n × LeavesFor T o n) origins 0 count [] times all joined))

  -- within a window that ends before it begins there is none
  pub none_within : W.last <ℤ W.first → AreLeavingTimes T W (W.last +ℤ pos 1) []
  none_within empty = record {
    all = λ k d h. absurd (omega (arith, h));
    complete = λ n b. absurd (clash W.first n W.last b.not_before b.not_after empty);
    ordered = λ i j d before h. absurd (omega (arith, h));
  }
    where
      clash : (a n b : ℤ) → a ≤ℤ n → n ≤ℤ b → b <ℤ a → ⊥
      clash a n b g h k = omega (arith, ints, g, h, k)

  -- all times at which one leaves an origin, in order, are the leaving times
  pub all_gathered : (gathered times : List ℤ) → HaveJoined (λ n. IsWithin W n × IsLeavingTime T W.from n) [] gathered → ((n : ℤ) → Contains gathered n ↔ Contains times n) → AllPairs (λ m n. m <ℤ n) times → AreLeavingTimes T W (W.last +ℤ pos 1) times
  all_gathered gathered times joined same rise = record {
    all = All-weaker (Contains times) (IsLeavingBefore T W (W.last +ℤ pos 1)) (λ n c. is_one n (joined.further n ((same n).1 c))) times (All-contains_itself times);
    complete = λ n b. (same n).0 (joined.complete n ((b.not_before, b.not_after), b.leaves));
    ordered = rise;
  }
    where
      next_to : (a b : ℤ) → a ≤ℤ b → a <ℤ (b +ℤ pos 1)
      next_to a b h = omega (arith, ints, h)

      is_one : (n : ℤ) → Contains [] n ⊎ (IsWithin W n × IsLeavingTime T W.from n) → IsLeavingBefore T W (W.last +ℤ pos 1) n
      is_one n (inl (k, none, is)) = absurd (omega (arith, none))
      is_one n (inr p) = record { leaves = p.1; not_before = p.0.0; not_after = p.0.1; before = next_to n W.last p.0.1 }

  -- the last of them is taken: it is one, and none is between it and the end
  pub record IsTaken (end : ℤ) (rest : List ℤ) (time : ℤ) : Type 0 where
    pub remain : AreLeavingTimes T W time rest
    pub one : IsLeavingBefore T W end time
    pub gap : (n : ℤ) → IsLeavingBefore T W end n → time <ℤ n → ⊥

  pub last_taken : (end : ℤ) (rest : List ℤ) (time : ℤ) → AreLeavingTimes T W end (rest ++ time ∷ []) → IsTaken end rest time
  last_taken end others time are = record {
    remain = record {
      all = λ k d inside. (let b : IsLeavingBefore T W end (get_or others k d) = kept k d inside in
          record { leaves = b.leaves; not_before = b.not_before; not_after = b.not_after; before = earlier k d inside });
      complete = λ n b. by_case n b (Contains-push_cases others time n (are.complete n (record { leaves = b.leaves; not_before = b.not_before; not_after = b.not_after; before = less n time end b.before one.before })));
      ordered = λ i j d before inside. two (get_or-left i d (omega (arith, before, inside))) (get_or-left j d inside) (are.ordered i j d before (omega (arith, inside, length_push others time)));
    };
    one = one;
    gap = λ n b late. none n b late (Contains-push_cases others time n (are.complete n b));
  }
    where
      one : IsLeavingBefore T W end time
      one = All-contains (IsLeavingBefore T W end) (others ++ time ∷ []) time are.all (Contains-push others time)

      less : (a b c : ℤ) → a <ℤ b → b <ℤ c → a <ℤ c
      less a b c g h = omega (arith, ints, g, h)

      clash : (a b : ℤ) → a <ℤ b → b <ℤ a → ⊥
      clash a b g h = omega (arith, ints, g, h)

      get_or-left : (k : ℕ) (d : ℤ) → k < length others → get_or (others ++ time ∷ []) k d ≡ get_or others k d
      get_or-left k d inside = get_or_append_left others (time ∷ []) d k inside

      two : {a b c d : ℤ} → a ≡ c → b ≡ d → a <ℤ b → c <ℤ d
      two e f h = omega (arith, ints, e, f, h)

      kept : (k : ℕ) (d : ℤ) → k < length others → IsLeavingBefore T W end (get_or others k d)
      kept k d inside = subst (IsLeavingBefore T W end) (get_or-left k d inside) (are.all k d (omega (arith, inside, length_push others time)))

      earlier : (k : ℕ) (d : ℤ) → k < length others → get_or others k d <ℤ time
      earlier k d inside = two (get_or-left k d inside) (get_or_push others time d (length others) refl) (are.ordered k (length others) d inside (omega (arith, length_push others time)))

      by_case : (n : ℤ) → IsLeavingBefore T W time n → Contains others n ⊎ (time ≡ n) → Contains others n
      by_case n b (inl c) = c
      by_case n b (inr e) = absurd (same_not e b.before)
        where
          same_not : {a c : ℤ} → a ≡ c → c <ℤ a → ⊥
          same_not e h = omega (arith, ints, e, h)

      none : (n : ℤ) → IsLeavingBefore T W end n → time <ℤ n → Contains others n ⊎ (time ≡ n) → ⊥
      none n b late (inl c) = clash time n late (before_all n c)
        where
          before_all : (n : ℤ) → Contains others n → n <ℤ time
          before_all n (k, inside, is) = subst (λ x. x <ℤ time) is (earlier k n inside)
      none n b late (inr e) = not_same e late
        where
          not_same : {a c : ℤ} → a ≡ c → a <ℤ c → ⊥
          not_same e h = omega (arith, ints, e, h)
