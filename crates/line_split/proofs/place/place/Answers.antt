use Rattle.std.proofs.Common.{ℕ, List, Option, Some, None, ◌≡◌, ap, sym, subst, ◌∙◌, ◌<◌, [], ◌∷◌, ◌++◌, find, get_or, set, length}
use Rattle.tb_base.specs.TimetableData.{TimetableData, events_of}
use Rattle.line_split.specs.Bitmaps.{AreMarked}
use Rattle.line_split.specs.Buckets.{AreBucketed, IsFirstPlace}
use Rattle.line_split.specs.Floors.{AreFloors, AreNoted, no_floor}
use Rattle.line_split.proofs.FloorLemmas.{floors_marked, floors_opened}
use Rattle.line_split.proofs.Placing.{found_inside, placed_on, placed_behind, bucketed_on, bucketed_behind, joins}
use Rattle.line_split.proofs.RowLemmas.{on_ok_subst}
use Rattle.line_split.proofs.place.place.Goals as goal

own_row : (row : List ℕ) (buckets : List (List ℕ)) (numbers : List ℕ) (i t : ℕ) → row ≡ get_or buckets (get_or numbers i 0) [] → i ≡ t → row ≡ get_or buckets (get_or numbers t 0) []
own_row row buckets numbers i t h e = h ∙ ap (λ j. get_or buckets (get_or numbers j 0) []) e

-- the line at the place that was found
found_line : (T : TimetableData) (lines : List (List ℕ)) (t : ℕ) (row own : List ℕ) (found : Option ℕ) (place line : ℕ) → IsFirstPlace (joins T lines (events_of T t)) row found → found ≡ Some place → row ≡ own → line ≡ get_or own place 0
    → find (joins T lines (events_of T t)) own ≡ Some line
found_line T lines t row own found place line first is same at =
    (subst (λ r. IsFirstPlace (joins T lines (events_of T t)) r (Some place)) same (subst (λ p. IsFirstPlace (joins T lines (events_of T t)) row p) is first)).1 ∙ ap (λ l. Some l) (sym at)

found_below : (T : TimetableData) (lines : List (List ℕ)) (t : ℕ) (row own : List ℕ) (found : Option ℕ) (place : ℕ) → IsFirstPlace (joins T lines (events_of T t)) row found → found ≡ Some place → row ≡ own → place < length own
found_below T lines t row own found place first is same =
    (subst (λ r. IsFirstPlace (joins T lines (events_of T t)) r (Some place)) same (subst (λ p. IsFirstPlace (joins T lines (events_of T t)) row p) is first)).0

found_nowhere : (T : TimetableData) (lines : List (List ℕ)) (t : ℕ) (row own : List ℕ) (found : Option ℕ) → IsFirstPlace (joins T lines (events_of T t)) row found → found ≡ None → row ≡ own → find (joins T lines (events_of T t)) own ≡ None
found_nowhere T lines t row own found first is same =
    subst (λ r. find (joins T lines (events_of T t)) r ≡ None) same (subst (λ p. IsFirstPlace (joins T lines (events_of T t)) row p) is first)

pub returns-in-Some-clause-placed : goal.returns-in-Some-clause-placed
returns-in-Some-clause-placed c =
    let T = c.args.table.now in
    let lines = c.args.lines.now in
    let buckets = c.args.buckets.now in
    let numbers = c.args.numbers.now in
    let t = c.args.trip in
    let line = get_or c.row-in-Some.result.now c.in-Some.place 0 in
    let own = own_row c.row.result.now buckets numbers c.index.result t c.row.ensures c.index.ensures in
    let at = ap (λ r. get_or r c.in-Some.place 0) (own_row c.row-in-Some.result.now buckets numbers c.index.result t c.row-in-Some.ensures c.index.ensures) in
    let f = found_line T lines t c.row.result.now (get_or buckets (get_or numbers t 0) []) c.in_ok-place.field-0 c.in-Some.place line c.in_ok-place.ensures c.in-Some.is own at in
    rw (placed_on T numbers lines buckets c.requires.numbered c.requires.bucketed t c.requires.trip line f) c.add.ensures

pub returns-in-Some-clause-bucketed : goal.returns-in-Some-clause-bucketed
returns-in-Some-clause-bucketed c =
    let T = c.args.table.now in
    let lines = c.args.lines.now in
    let buckets = c.args.buckets.now in
    let numbers = c.args.numbers.now in
    let t = c.args.trip in
    let line = get_or c.row-in-Some.result.now c.in-Some.place 0 in
    let own = own_row c.row.result.now buckets numbers c.index.result t c.row.ensures c.index.ensures in
    let at = ap (λ r. get_or r c.in-Some.place 0) (own_row c.row-in-Some.result.now buckets numbers c.index.result t c.row-in-Some.ensures c.index.ensures) in
    let f = found_line T lines t c.row.result.now (get_or buckets (get_or numbers t 0) []) c.in_ok-place.field-0 c.in-Some.place line c.in_ok-place.ensures c.in-Some.is own at in
    let found = found_inside T numbers lines buckets c.requires.numbered c.requires.bucketed t c.requires.trip line f in
    on_ok_subst c.add.result (λ ls. AreBucketed c.args.table.now c.args.numbers.now ls c.args.buckets.now) c.add.new.self _ c.add.ensures
    (bucketed_on T numbers lines buckets c.requires.numbered c.requires.bucketed t c.requires.trip line found.0 found.1)

pub returns-in-Some-clause-floors : goal.returns-in-Some-clause-floors
returns-in-Some-clause-floors c =
    let T = c.args.table.now in
    let lines = c.args.lines.now in
    let buckets = c.args.buckets.now in
    let numbers = c.args.numbers.now in
    let t = c.args.trip in
    let place = c.in-Some.place in
    let line = get_or c.row-in-Some.result.now c.in-Some.place 0 in
    let own = own_row c.row.result.now buckets numbers c.index.result t c.row.ensures c.index.ensures in
    let at = ap (λ r. get_or r c.in-Some.place 0) (own_row c.row-in-Some.result.now buckets numbers c.index.result t c.row-in-Some.ensures c.index.ensures) in
    let f = found_line T lines t c.row.result.now (get_or buckets (get_or numbers t 0) []) c.in_ok-place.field-0 place line c.in_ok-place.ensures c.in-Some.is own at in
    let found = found_inside T numbers lines buckets c.requires.numbered c.requires.bucketed t c.requires.trip line f in
    let old = c.map_lines.new.floors in
    let new = c.mark_at.new.floors in
    let b = get_or numbers c.index.result 0 in
    let below = found_below T lines t c.row.result.now (get_or buckets b []) c.in_ok-place.field-0 place c.in_ok-place.ensures c.in-Some.is c.row.ensures in
    let marked = subst (λ es. AreMarked place es (get_or old b no_floor).bitmaps (get_or new b no_floor).bitmaps) c.events_of.ensures c.mark_at.ensures.marked in
    on_ok_subst c.add.result (λ ls. AreFloors c.args.table.now ls c.args.buckets.now c.mark_at.new.floors) c.add.new.self _ c.add.ensures
    (floors_marked T lines buckets old new t b place line found.0 found.1 below (sym (ap (λ r. get_or r place 0) c.row-in-Some.ensures)) c.in_ok-map_lines.ensures c.mark_at.ensures.same marked)

pub returns-in_ok-add-in-None-clause-placed : goal.returns-in_ok-add-in-None-clause-placed
returns-in_ok-add-in-None-clause-placed c =
    let T = c.args.table.now in
    let lines = c.args.lines.now in
    let buckets = c.args.buckets.now in
    let numbers = c.args.numbers.now in
    let t = c.args.trip in
    let own = own_row c.row.result.now buckets numbers c.index.result t c.row.ensures c.index.ensures in
    let f = found_nowhere T lines t c.row.result.now (get_or buckets (get_or numbers t 0) []) c.in_ok-place.field-0 c.in_ok-place.ensures c.in-None.is own in
    rw (placed_behind T numbers lines buckets c.requires.numbered c.requires.bucketed t c.requires.trip f) c.open_with.ensures

pub returns-in_ok-add-in-None-clause-bucketed : goal.returns-in_ok-add-in-None-clause-bucketed
returns-in_ok-add-in-None-clause-bucketed c =
    let T = c.args.table.now in
    let listed = c.in_ok-add-in-None.ensures ∙ (λ i. set c.args.buckets.now (get_or c.args.numbers.now (c.index.ensures i) 0) (get_or c.args.buckets.now (get_or c.args.numbers.now (c.index.ensures i) 0) [] ++ c.len.ensures i ∷ [])) in
    on_ok_subst c.open_with.result (λ ls. AreBucketed c.args.table.now c.args.numbers.now ls c.add-in-None.new.self) c.open_with.new.self _ c.open_with.ensures
    (subst (λ bs. AreBucketed T c.args.numbers.now (c.args.lines.now ++ (c.args.trip ∷ []) ∷ []) bs) (sym listed) (bucketed_behind T c.args.numbers.now c.args.lines.now c.args.buckets.now c.requires.numbered c.requires.bucketed c.args.trip c.requires.trip))

pub returns-in_ok-add-in-None-clause-floors : goal.returns-in_ok-add-in-None-clause-floors
returns-in_ok-add-in-None-clause-floors c =
    let T = c.args.table.now in
    let lines = c.args.lines.now in
    let buckets = c.args.buckets.now in
    let floors = c.map_lines.new.floors in
    let new = c.note_in.new.floors in
    let b = get_or c.args.numbers.now c.index.result 0 in
    let below : get_or c.args.numbers.now c.index.result 0 < length c.args.buckets.now = subst (λ i. get_or c.args.numbers.now i 0 < length c.args.buckets.now) (sym c.index.ensures) (c.requires.numbered.below c.args.trip c.requires.trip) in
    let listed = c.in_ok-add-in-None.ensures ∙ ap (λ n. set buckets b (get_or buckets b [] ++ n ∷ [])) c.len.ensures in
    let noted = subst (λ r. AreNoted (length r) (events_of T c.args.trip) (get_or floors b no_floor) (get_or new b no_floor)) c.row-count.ensures
    (subst (λ es. AreNoted (length c.row-count.result.now) es (get_or floors b no_floor) (get_or new b no_floor)) c.events_of-in-None.ensures c.in_ok-note_in-in-None.ensures.noted) in
    on_ok_subst c.open_with.result (λ ls. AreFloors T ls c.add-in-None.new.self new) c.open_with.new.self _ c.open_with.ensures
    (subst (λ bs. AreFloors T (lines ++ (c.args.trip ∷ []) ∷ []) bs new) (sym listed)
    (floors_opened T lines buckets floors new c.args.trip b c.in_ok-map_lines.ensures c.requires.bucketed.known below c.in_ok-note_in-in-None.ensures.many c.in_ok-note_in-in-None.ensures.others noted))
