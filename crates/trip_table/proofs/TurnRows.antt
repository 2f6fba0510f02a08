-- Rows of stops.txt by the turns in which they lack their parents.
use Rattle.std.proofs.Common.{◌≡◌, ◌≢◌, ◌∙◌, refl, sym, ap, ℕ, ◌+◌, ◌-◌, ◌<◌, ◌≤◌, ◌==◌, List, [], ◌∷◌, ◌++◌, length, map, take, drop, get_or, Bool, true, false, arith, inl, inr, append-nil}
use Rattle.std.specs.Prelude.{All, Result, Ok, Err, IfOk, filter, nat_le}
use Rattle.std.specs.List.{list_any, range_with_len}
use Rattle.std.proofs.lemmas.Bool.{cases_lt, or_parts}
use Rattle.std.proofs.lemmas.Bool.Decides.{nat_tests}
use Rattle.std.proofs.lemmas.List.{drop_more, drop_all, get_or-map, append_assoc, get_or_default, length-map, map_more}
use Rattle.std.proofs.lemmas.List.Elements.{All-filter}
use Rattle.std.proofs.lemmas.List.FromFn.{get_or-range_with_len, length-range_with_len}
use Rattle.tb_base.specs.KeyPlaces.{places_of}
use Rattle.tb_base.proofs.ByPlaces.{rows_by_places}
use Rattle.tb_base.proofs.Lists.{length-filter_le}
use Rattle.gtfs_rows.specs.StopsFile.{StopData}
use Rattle.gtfs_rows.specs.declared.fault.FeedFault.{FeedFault}
use Rattle.footpaths.specs.Stops.{lacks_parent, stop_id}
use Rattle.footpaths.proofs.StopPlaces.{kind_new, kind_same}
use Rattle.trip_table.specs.LeftFeed.{leave_orphans, orphan_fault}
use Rattle.trip_table.specs.Sieves.{Sieved, after, ended}
use Rattle.trip_table.specs.Turns.{bases_of, base_of, is_there, turn_of}
use Rattle.trip_table.proofs.OrphanSteps.{no_orphan, orphans}
use Rattle.trip_table.proofs.StopsRight.{IsApart}
use Rattle.trip_table.proofs.TurnSteps.{rows_after, rows_before, rows_in}
use Rattle.trip_table.proofs.WalkSteps.{steps_most}

-- the row at hand
pub row_at : {A : Type 0} (rows old rest : List A) (place : ℕ) (row : A) → old ≡ drop place rows → old ≡ row ∷ rest → (place < length rows) × (row ≡ get_or rows place row) × (rest ≡ drop (place + 1) rows)
row_at rows old rest place row e at =
    elim (cases_lt place (length rows)) [
      | inl lt ↦
          let more = drop_more rows place row lt in
          let same : row ∷ rest ≡ get_or rows place row ∷ drop (place + 1) rows = sym at ∙ e ∙ more in
          let here : row ≡ get_or rows place row = cc in
          let there : rest ≡ drop (place + 1) rows = cc in
          (lt, here, there)
      | inr past ↦ let none : row ∷ rest ≡ [] = sym at ∙ e ∙ drop_all place rows past in absurd (cc)
    ]

turn_at : (rows : List StopData) (turns : List ℕ) (place : ℕ) (row : StopData) → turns ≡ map (turn_of rows) rows → place < length rows → row ≡ get_or rows place row → get_or turns place 0 ≡ turn_of rows row
turn_at rows turns place row e lt at = ap (λ turns. get_or turns place 0) e ∙ get_or-map (turn_of rows) rows place row 0 lt ∙ ap (turn_of rows) (sym at)

-- it is there in the turn
pub stays : (rows kept new : List StopData) (turns : List ℕ) (turn place : ℕ) (row : StopData) → turns ≡ map (turn_of rows) rows → place < length rows → row ≡ get_or rows place row → turn ≤ get_or turns place 0 → kept ≡ filter (is_there rows turn) (take place rows) → new ≡ kept ++ row ∷ []
    → new ≡ filter (is_there rows turn) (take (place + 1) rows)
stays rows kept new turns turn place row e lt at there so_far more =
    let same = turn_at rows turns place row e lt at in
    let is : nat_le turn (turn_of rows row) ≡ true = grind (arith, nat_tests, same, there) in
    more ∙ ap (λ l. l ++ row ∷ []) so_far ∙ sym (kind_new (is_there rows turn) rows place row lt at is)

-- or no longer
pub goes : (rows kept : List StopData) (turns : List ℕ) (turn place : ℕ) (row : StopData) → turns ≡ map (turn_of rows) rows → place < length rows → row ≡ get_or rows place row → get_or turns place 0 < turn → kept ≡ filter (is_there rows turn) (take place rows)
    → kept ≡ filter (is_there rows turn) (take (place + 1) rows)
goes rows kept turns turn place row e lt at gone so_far =
    let same = turn_at rows turns place row e lt at in
    let is : nat_le turn (turn_of rows row) ≡ false = grind (arith, nat_tests, same, gone) in
    so_far ∙ sym (kind_same (is_there rows turn) rows place row lt at is)

-- one fault more
pub told_more : (rows : List StopData) (places : List ℕ) (begin old new : List FeedFault) (i place : ℕ) (row other : StopData) (f : FeedFault) → i < length places → place ≡ get_or places i 0 → place < length rows → row ≡ get_or rows place row → f ≡ orphan_fault row
    → old ≡ begin ++ map (λ place. orphan_fault (get_or rows place other)) (take i places) → new ≡ old ++ f ∷ [] → new ≡ begin ++ map (λ place. orphan_fault (get_or rows place other)) (take (i + 1) places)
told_more rows places begin old new i place row other f lt at within is fault so_far more =
    let tell : ℕ → FeedFault = λ place. orphan_fault (get_or rows place other) in
    let here : f ≡ tell (get_or places i 0) = fault ∙ ap orphan_fault (is ∙ get_or_default rows place row other within) ∙ ap tell at in
    more ∙ ap (λ l. l ++ f ∷ []) so_far ∙ append_assoc begin (map tell (take i places)) (f ∷ []) ∙ ap (λ g. begin ++ (map tell (take i places) ++ g ∷ [])) here ∙ ap (λ l. begin ++ l) (sym (map_more tell places i 0 lt))

-- turns are few
pub turns_within : (rows : List StopData) (turns : List ℕ) → turns ≡ map (turn_of rows) rows → (i : ℕ) → i < length turns → get_or turns i 0 < length rows + 1
turns_within [] turns e i lt = let none = ap length e in absurd (omega (arith, none))
turns_within (first ∷ others) turns e i lt =
    let rows = first ∷ others in
    let long = ap length e ∙ length-map rows (turn_of rows) in
    let below : i < length rows = omega (arith, long, lt) in
    let at = turn_at rows turns i (get_or rows i first) e below (get_or_default rows i first (get_or rows i first) below) in
    let most = steps_most (bases_of rows) (length rows) (length rows) (base_of (map stop_id rows) (get_or rows i first)) in
    omega (arith, at, most)

-- places of a turn are places of rows
pub places_within : (rows : List StopData) (turns : List ℕ) (turn : ℕ) → turns ≡ map (turn_of rows) rows → All (λ place. place < length rows) (places_of turns turn)
places_within rows turns turn e =
    let long : length turns ≡ length rows = ap length e ∙ length-map rows (turn_of rows) in
    All-filter (λ i. get_or turns i 0 == turn) (λ place. place < length rows) (range_with_len 0 (length turns)) (λ k d lt. let many = length-range_with_len 0 (length turns) in let below : k < length turns = omega (arith, many, lt) in let at = get_or-range_with_len 0 (length turns) k d below in omega (arith, at, long, below))

-- they are the places of the rows that lack their parents then
map_twice : {A B C : Type 0} (f : B → C) (g : A → B) (xs : List A) → map f (map g xs) ≡ map (λ x. f (g x)) xs
map_twice f g [] = refl
map_twice f g (x ∷ xs) = ap (λ l. f (g x) ∷ l) (map_twice f g xs)

faults_in : (rows : List StopData) (turns places : List ℕ) (turn : ℕ) (other : StopData) → IsApart [] rows → turn < length rows → turns ≡ map (turn_of rows) rows → places ≡ places_of turns turn
    → map (λ place. orphan_fault (get_or rows place other)) places ≡ map orphan_fault (filter (lacks_parent (filter (is_there rows turn) rows)) (filter (is_there rows turn) rows))
faults_in rows turns places turn other apart lt e at =
    let long : length turns ≡ length rows = ap length e ∙ length-map rows (turn_of rows) in
    sym (map_twice orphan_fault (λ place. get_or rows place other) places)
    ∙ ap (map orphan_fault) (ap (map (λ place. get_or rows place other)) at
    ∙ rows_by_places (λ s. turn_of rows s == turn) rows turns turn other long (λ i below. ap (λ t. t == turn) (ap (λ turns. get_or turns i 0) e ∙ get_or-map (turn_of rows) rows i other 0 below))
    ∙ sym (rows_in rows turn apart lt))

-- before the first turn
pub first_turn : (begin : List FeedFault) (rows : List StopData) → after begin (leave_orphans (length rows) rows) ≡ after begin (leave_orphans (length rows - 0) (filter (is_there rows 0) rows))
first_turn begin rows =
    let n : length rows ≡ length rows - 0 = omega arith in
    ap (λ n. after begin (leave_orphans n rows)) n ∙ ap (λ l. after begin (leave_orphans (length rows - 0) l)) (sym (rows_before rows rows))

-- in a turn no row lacks its parent
pub no_place : (whole : Sieved (List StopData)) (begin told : List FeedFault) (rows : List StopData) (turns places : List ℕ) (turn : ℕ) → IsApart [] rows → turn < length rows → turns ≡ map (turn_of rows) rows → places ≡ places_of turns turn → length places ≡ 0
    → after begin whole ≡ after told (leave_orphans (length rows - turn) (filter (is_there rows turn) rows)) → after begin whole ≡ ended told (Ok (filter (is_there rows turn) rows))
no_place whole begin told [] turns places turn apart lt e at none before = absurd (omega arith)
no_place whole begin told (first ∷ others) turns [] turn apart lt e at none before =
    let rows = first ∷ others in
    no_orphan whole begin told [] (length rows) turn (filter (is_there rows turn) rows) lt (faults_in rows turns [] turn first apart lt e at) refl before
no_place whole begin told (first ∷ others) turns (p ∷ more) turn apart lt e at none before = absurd (cc)

-- some do
pub some_places : (whole : Sieved (List StopData)) (begin told now : List FeedFault) (rows : List StopData) (turns places : List ℕ) (turn : ℕ) → IsApart [] rows → turn < length rows → turns ≡ map (turn_of rows) rows → places ≡ places_of turns turn → length places ≢ 0
    → ((other : StopData) → now ≡ told ++ map (λ place. orphan_fault (get_or rows place other)) places)
    → after begin whole ≡ after told (leave_orphans (length rows - turn) (filter (is_there rows turn) rows)) → after begin whole ≡ after now (leave_orphans (length rows - (turn + 1)) (filter (is_there rows (turn + 1)) rows))
some_places whole begin told now [] turns places turn apart lt e at some pushed before = absurd (omega arith)
some_places whole begin told now (first ∷ others) turns places turn apart lt e at some pushed before =
    let rows = first ∷ others in
    let faults = map (λ place. orphan_fault (get_or rows place first)) places in
    orphans whole begin told now faults (length rows) turn (filter (is_there rows turn) rows) (filter (is_there rows (turn + 1)) rows) lt (faults_in rows turns places turn first apart lt e at)
    (λ z. some (sym (length-map places (λ place. orphan_fault (get_or rows place first))) ∙ z)) (pushed first) (sym (rows_after rows turn apart lt)) before

-- no row lacks its parent to begin with
none_kept : (p : StopData → Bool) (rows : List StopData) → list_any p rows ≡ false → filter p rows ≡ []
none_kept p [] e = refl
none_kept p (s ∷ rest) e = let h = or_parts (p s) (list_any p rest) e in rw h.0 (none_kept p rest h.1)

pub none_lacks : (begin : List FeedFault) (rows : List StopData) → list_any (lacks_parent rows) rows ≡ false → after begin (leave_orphans (length rows) rows) ≡ ended begin (Ok rows)
none_lacks begin [] e = ap (λ told. ended told (Ok [])) (append-nil begin)
none_lacks begin (first ∷ others) e =
    let rows = first ∷ others in
    let none = none_kept (lacks_parent rows) rows e in
    no_orphan (leave_orphans (length rows) rows) begin begin [] (length rows) 0 rows (omega arith) (sym (ap (map orphan_fault) none)) refl (let n : length rows ≡ length rows - 0 = omega arith in ap (λ n. after begin (leave_orphans n rows)) n)

-- rows that are there are no more than all
pub few_there : {V E : Type 0} (items : V → List StopData) (p : StopData → Bool) (rows : List StopData) (result : Result V E) → IfOk result (λ kept. items kept ≡ filter p rows) → IfOk result (λ kept. length (items kept) ≤ length rows)
few_there items p rows (Ok kept) e = omega (arith, ap length e, length-filter_le p rows)
few_there items p rows (Err f) e = tt
