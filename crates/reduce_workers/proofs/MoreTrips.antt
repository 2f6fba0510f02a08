-- What the reduction has made, with more trips.
use Rattle.std.proofs.Common.{◌≡◌, ◌∙◌, ℕ, ◌+◌, List, [], ◌∷◌, ◌++◌, length, map, sym, ap, arith}
use Rattle.std.proofs.lemmas.List.{map-append}
use Rattle.std.proofs.lemmas.List.Sums.{sum_by-cons}
use Rattle.tb_base.specs.declared.transfer.Hop.{Hop}
use Rattle.tb_base.specs.declared.transfer.Transfer.{Transfer}
use Rattle.tb_base.specs.TimetableData.{TimetableData}
use Rattle.tb_base.specs.Transfers.{candidates, candidates_without_u_turns, kept_hops, transfers_of}
use Rattle.reduce_workers.specs.Reductions.{ReducedData, count_from, reduced_from}
use Rattle.reduce_workers.proofs.Counts.{count_more, rows_more}

-- the next trips' lists stand behind those before, and the counts are added
pub record IsJoined (old more new : ReducedData) : Type 0 where
  pub rows : new.rows ≡ old.rows ++ more.rows
  pub generated : new.generated ≡ old.generated + more.generated
  pub after_uturn : new.after_uturn ≡ old.after_uturn + more.after_uturn
  pub kept : new.kept ≡ old.kept + more.kept
  pub trips : new.trips ≡ old.trips + more.trips

pub more_trips : (T : TimetableData) (lines : List (List ℕ)) (a n m : ℕ) (old more new : ReducedData) → old ≡ reduced_from T lines a n
    → more ≡ reduced_from T lines (a + n) m → IsJoined old more new → new ≡ reduced_from T lines a (n + m)
more_trips T lines a n m old more new before after joined = λ k. record {
  rows = (joined.rows ∙ (λ i. (before i).rows ++ (after i).rows) ∙ sym (rows_more T (kept_hops T lines) a n m)) k;
  generated = (joined.generated ∙ (λ i. (before i).generated + (after i).generated) ∙ sym (count_more T (candidates T lines) a n m)) k;
  after_uturn = (joined.after_uturn ∙ (λ i. (before i).after_uturn + (after i).after_uturn) ∙ sym (count_more T (candidates_without_u_turns T lines) a n m)) k;
  kept = (joined.kept ∙ (λ i. (before i).kept + (after i).kept) ∙ sym (count_more T (kept_hops T lines) a n m)) k;
  trips = (joined.trips ∙ (λ i. (before i).trips + (after i).trips)) k;
}

-- what the reduction makes of one trip
abbrev pub one_trip : TimetableData → List (List ℕ) → ℕ → List Transfer → ReducedData
one_trip T lines t row = record {
  rows = row ∷ [];
  generated = length (transfers_of T (candidates T lines t) t);
  after_uturn = length (transfers_of T (candidates_without_u_turns T lines t) t);
  kept = length row;
  trips = 1;
}

count_one : (T : TimetableData) (hops : ℕ → ℕ → List Hop) (t : ℕ) → length (transfers_of T (hops t) t) ≡ count_from T hops t 1
count_one T hops t = omega (arith, sum_by-cons (λ u. length (transfers_of T (hops u) u)) t [])

pub one_trip_from : (T : TimetableData) (lines : List (List ℕ)) (t : ℕ) (row : List Transfer) → row ≡ transfers_of T (kept_hops T lines t) t
    → one_trip T lines t row ≡ reduced_from T lines t 1
one_trip_from T lines t row is = λ k. record {
  rows = is k ∷ [];
  generated = count_one T (candidates T lines) t k;
  after_uturn = count_one T (candidates_without_u_turns T lines) t k;
  kept = (ap length is ∙ count_one T (kept_hops T lines) t) k;
  trips = 1;
}

pub one_more_count : (T : TimetableData) (hops : ℕ → ℕ → List Hop) (a n t : ℕ) → a + n ≡ t → count_from T hops a (n + 1) ≡ count_from T hops a n + length (transfers_of T (hops t) t)
one_more_count T hops a n t at = count_more T hops a n 1 ∙ ap (λ b. count_from T hops a n + count_from T hops b 1) at ∙ ap (λ m. count_from T hops a n + m) (sym (count_one T hops t))

-- the same trips, counted in other words
pub same_trips : (T : TimetableData) (lines : List (List ℕ)) (r : ReducedData) (a n b m : ℕ) → r ≡ reduced_from T lines a n → a ≡ b → n ≡ m → r ≡ reduced_from T lines b m
same_trips T lines r a n b m is from many = is ∙ (λ i. reduced_from T lines (from i) (many i))

pub rows_joined : {V : Type 0} (items : V → List Transfer) (rows more new : List V) → new ≡ rows ++ more → map items new ≡ map items rows ++ map items more
rows_joined items rows more new joined = ap (map items) joined ∙ map-append items rows more
