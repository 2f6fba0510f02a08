-- A trip on a line that calls at no stop from which a change leads to one with doubts isn't touched.
use Rattle.std.proofs.Common.{◌≡◌, ◌∙◌, sym, ap, subst, refl, ℕ, ◌<◌, Bool, true, false, not, List, [], length, get_or, Some, arith}
use Rattle.std.specs.Prelude.{slice_get}
use Rattle.std.proofs.lemmas.Option.{get_or_from_slice_get, slice_get-get_or, slice_get_within}
use Rattle.tb_base.specs.declared.table.Event.{Event}
use Rattle.tb_base.specs.Lines.{AreDividedInto, IsTripNoLater}
use Rattle.tb_base.specs.Soundness.{IsSound}
use Rattle.tb_base.specs.TimetableData.{no_event, no_trip, event_at, events_of, stop_at}
use Rattle.tb_base.proofs.LineFacts.{first_no_later}
use Rattle.tb_base.proofs.Ordered.{Member}
use Rattle.tb_base.proofs.Walks.{leaving_sound, paths_ascending}
use Rattle.line_split.specs.LinesData.{LinesData}
use Rattle.line_split.specs.LinesOf.{StandsAt, line_events}
use Rattle.line_split.proofs.RunLemmas.{stands_inside}
use Rattle.late_edit.specs.declared.doubts.Doubt.{Doubt}
use Rattle.late_edit.specs.Doubts.{AreAllDoubts, MarksLines, MarksNear, calls_near}
use Rattle.late_edit.specs.Touched.{has_other_events, is_touched, is_touched_at}
use Rattle.late_edit.specs.Updated.{IsUpdated}
use Rattle.late_edit.proofs.ListFacts.{list_any-none, Member-get_or}
use Rattle.late_edit.proofs.SettledEvents.{far_along, far_here, settled_at}
use Rattle.late_edit.proofs.TouchedEvents.{untouched}

pub off_from : (b : Bool) → not b ≡ true → b ≡ false
off_from true h = sym h
off_from false h = refl

-- a trip that stands on a line is one of its trips
on_line : (line : List ℕ) (k t : ℕ) → slice_get line k ≡ Some t → Member t line
on_line line k t stands =
    subst (λ u. Member u line) (get_or_from_slice_get line k t t stands) (Member-get_or line k t (slice_get_within line k t stands))

module _ (L M : LinesData) (same : IsUpdated L.table M.table) (sound : IsSound L.table) (divided : AreDividedInto L.table L.lines) (rows : List (List Doubt)) (near marks : List Bool)
    (all : AreAllDoubts L M rows) (marks_near : MarksNear L.table rows near) (marks_lines : MarksLines L near marks) (t : ℕ) (there : t < length L.table.trips) (times : has_other_events L.table M.table t ≡ false) where
  -- no doubts are near the stop of an event
  far_event : (i : ℕ) → i < length (events_of L.table t) → get_or near (stop_at L.table t i) false ≡ false → is_touched_at L M t i ≡ false
  far_event i below off =
      let p = stop_at L.table t i in
      let arr = (event_at L.table t i).arr in
      let fs = get_or L.table.footpaths.paths p [] in
      let inside : stop_at L.table t i < length L.table.stops = ((sound.trip t no_trip there).events i no_event below).stop in
      let in_rows : stop_at L.table t i < length L.table.footpaths.paths = omega (arith, inside, sound.footpaths.rows, sound.change_times) in
      let row = slice_get-get_or L.table.footpaths.paths p [] in_rows in
      let up = paths_ascending L.table p fs sound row in
      let leaving = leaving_sound L.table p sound inside in
      settled_at L M same t i times (event_at L.table t i) refl inside fs row up leaving
      (far_here L M rows near all marks_near p inside off t i arr)
      (far_along L M rows near all marks_near p inside off t i arr fs row up leaving)

  module _ (place : ℕ × ℕ) (stands : StandsAt L.lines t place) (off : get_or marks place.0 false ≡ false) where
    abbrev line : List ℕ
    line = get_or L.lines place.0 []

    inside_lines : place.0 < length L.lines
    inside_lines = stands_inside L.lines place.0 place.1 t stands

    -- the first trip of the line calls at the same stops
    like : IsTripNoLater L.table (get_or line 0 0) t
    like = first_no_later L.table line t (divided.ordered place.0 [] inside_lines) (on_line line place.1 t stands)

    far_stop : (i : ℕ) → i < length (events_of L.table t) → get_or near (stop_at L.table t i) false ≡ false
    far_stop i below =
        let es = line_events L.table line in
        let first_below : i < length (line_events L.table line) = omega (arith, below, like.long) in
        let none : calls_near near (line_events L.table line) ≡ false = sym (marks_lines.told place.0 inside_lines) ∙ off in
        ap (λ p. get_or near p false) (sym (like.at i).stop)
        ∙ list_any-none (λ (e : Event). get_or near e.stop false) es none (get_or es i no_event) (Member-get_or es i no_event first_below)

    pub far_untouched : is_touched L M t ≡ false
    far_untouched = untouched L M t times (λ i below. far_event i below (far_stop i below))
