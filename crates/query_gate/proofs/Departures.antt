-- The departures at a stop are those of its line indices.
use Rattle.std.proofs.Common.{◌≡◌, ◌∙◌, ℕ, ◌<◌, length, get_or, false, refl, sym, ap, subst, Option, Some, None, ℤ, ◌≤ℤ◌, ◌<ℤ◌, ◌⊎◌, inl, inr}
use Rattle.std.specs.Prelude.{IsTrue, ◌↔◌}
use Rattle.std.specs.Option.{option_map}
use Rattle.tb_base.specs.Network.{NetData}
use Rattle.tb_base.specs.declared.transfer.Hop.{Hop}
use Rattle.tb_base.specs.TimetableData.{departure_at}
use Rattle.tb_base.specs.Lines.{AreDividedInto}
use Rattle.segment_queue.specs.Scans.{LineIndex, boarding_hop, line_indices_at, no_line_index}
use Rattle.earliest_query.proofs.LineBoarding.{boarded_sooner, boarding_facts, served}
use Rattle.query_gate.specs.Leaving.{DepartsAt, IsLineDeparture, line_departure}
use Rattle.tb_base.proofs.NumberFacts.{cases_ltℤ, ≤ℤ-refl, ≤ℤ-antisym, ≤ℤ-same_back}

-- a time that is not past a limit
pub not_past : (last time : ℤ) → (IsTrue false ↔ (last <ℤ time)) → time ≤ℤ last
not_past last time h = by_case (cases_ltℤ last time)
  where
    by_case : (last <ℤ time) ⊎ (time ≤ℤ last) → time ≤ℤ last
    by_case (inl k) = absurd (let no : IsTrue false = h.1 k in cc)
    by_case (inr k) = k

module _ (N : NetData) (stop : ℕ) (divided : AreDividedInto N.table N.lines) where
  abbrev index : ℕ → LineIndex
  index k = get_or (line_indices_at N.table N.lines stop) k no_line_index

  abbrev departure_of : Option Hop → Option ℤ
  departure_of o = option_map (λ (h : Hop). departure_at N.table h.trip h.at) o

  some_hop : (o : Option Hop) (n : ℤ) → departure_of o ≡ Some n → (h : Hop) × (o ≡ Some h) × (departure_at N.table h.trip h.at ≡ n)
  some_hop None n f = cc
  some_hop (Some h) n f = (h, refl, cc)

  -- who boards a line index departs at the stop in time
  pub line_departs : (time : ℤ) (k : ℕ) (n : ℤ) → k < length (line_indices_at N.table N.lines stop) → line_departure N stop time k ≡ Some n → (time ≤ℤ n) × DepartsAt N.table stop n
  line_departs time k n inside is =
      let h = some_hop (boarding_hop N.table (index k) time) n is in
      let boards = boarding_facts N.table N.lines stop divided k time h.0 inside h.1 in
      (subst (λ x. time ≤ℤ x) h.2 boards.in_time, record { trip = h.0.trip; board = h.0.at; boards = boards.boards; not_last = boards.not_last; here = boards.stop; departs = h.2 })

  -- from another time on, that is no later, one departs no later by it
  pub departs_sooner : (time since : ℤ) (k : ℕ) (n : ℤ) → k < length (line_indices_at N.table N.lines stop) → line_departure N stop time k ≡ Some n → since ≤ℤ n → (m : ℤ) × (line_departure N stop since k ≡ Some m) × (m ≤ℤ n)
  departs_sooner time since k n inside is late =
      let h = some_hop (boarding_hop N.table (index k) time) n is in
      let sooner = boarded_sooner N.table N.lines stop divided k time since h.0 inside h.1 (subst (λ x. since ≤ℤ x) (sym h.2) late) in (
        departure_at N.table sooner.hop.trip sooner.hop.at,
        ap departure_of sooner.is,
        subst (λ x. departure_at N.table sooner.hop.trip sooner.hop.at ≤ℤ x) h.2 sooner.no_later,
      )

  -- who departs by a line index from some time on departs by it just then
  pub departs_then : (time : ℤ) (k : ℕ) (n : ℤ) → k < length (line_indices_at N.table N.lines stop) → line_departure N stop time k ≡ Some n → IsLineDeparture N stop k n
  departs_then time k n inside is =
      let m : (m : ℤ) × (line_departure N stop n k ≡ Some m) × (m ≤ℤ n) = departs_sooner time n k n inside is (≤ℤ-refl n) in
      m.1 ∙ ap Some (≤ℤ-antisym m.0 n m.2 (line_departs n k m.0 inside m.1).0)

  -- who departs at the stop departs by a line index
  pub departs_by_line : (n : ℤ) → DepartsAt N.table stop n → (k : ℕ) × (k < length (line_indices_at N.table N.lines stop)) × IsLineDeparture N stop k n
  departs_by_line n d =
      let s = served N.table N.lines stop divided n d.trip d.board d.boards d.not_last d.here (≤ℤ-same_back _ _ d.departs) in
      let m : ℤ = departure_at N.table s.hop.trip s.hop.at in
      let is : line_departure N stop n s.index ≡ Some m = ap departure_of s.is in
      let late : m ≤ℤ n = subst (λ x. m ≤ℤ x) (ap (departure_at N.table d.trip) s.at ∙ d.departs) (s.trip.at s.hop.at).dep in
      (s.index, s.inside, is ∙ ap Some (≤ℤ-antisym m n late (line_departs n s.index m s.inside is).0))
