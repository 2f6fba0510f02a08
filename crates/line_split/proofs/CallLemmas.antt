-- One call more, and one line more.
use Rattle.std.proofs.Common.{◌≡◌, ◌≢◌, ◌∙◌, sym, ap, refl, ℕ, suc, ◌+◌, ◌<◌, ◌⊎◌, inl, inr, true, false, ◌==◌, List, [], ◌∷◌, ◌++◌, length, map, get_or, set, arith, append_assoc, get_or-set_same, get_or-set_other}
use Rattle.std.specs.Prelude.{filter, flat_map, slice_index_or}
use Rattle.std.proofs.lemmas.Bool.{cases_eq, eq-eqb, ne_eqb}
use Rattle.std.proofs.lemmas.List.{append-nil, map-append}
use Rattle.std.proofs.lemmas.List.Elements.{filter-append}
use Rattle.std.proofs.lemmas.List.Concat.{flat_map-append}
use Rattle.tb_base.specs.declared.table.Event.{Event}
use Rattle.tb_base.specs.TimetableData.{TimetableData, no_event}
use Rattle.tb_base.specs.Transfers.{numbers_below}
use Rattle.line_split.specs.declared.lines.Berth.{Berth}
use Rattle.line_split.specs.LinesOf.{calls_at, line_events}
use Rattle.line_split.specs.Calls.{calls_of}

pub numbers_below-more : (n : ℕ) → numbers_below (n + 1) ≡ numbers_below n ++ n ∷ []
numbers_below-more n = let e : n + 1 ≡ suc n = omega arith in ap numbers_below e

-- the berths at stop q of the first n lines
abbrev pub berths_before : TimetableData → List (List ℕ) → ℕ → ℕ → List Berth
berths_before T lines q n = flat_map (λ l. map (λ j. record { line = l; at = j }) (calls_at T (slice_index_or lines l []) q)) (numbers_below n)

calls_of-more : (line : ℕ) (events : List Event) (q n : ℕ) → calls_of line events q (n + 1) ≡ calls_of line events q n ++ map (λ j. record { line = line; at = j }) (filter (λ j. (slice_index_or events j no_event).stop == q) (n ∷ []))
calls_of-more line events q n =
    ap (λ ns. map (λ j. record { line = line; at = j }) (filter (λ j. (slice_index_or events j no_event).stop == q) ns)) (numbers_below-more n)
    ∙ ap (map (λ j. record { line = line; at = j })) (filter-append (λ j. (slice_index_or events j no_event).stop == q) (numbers_below n) (n ∷ []))
    ∙ map-append (λ j. record { line = line; at = j }) (filter (λ j. (slice_index_or events j no_event).stop == q) (numbers_below n)) (filter (λ j. (slice_index_or events j no_event).stop == q) (n ∷ []))

-- one call more
pub call_more : (line : ℕ) (events : List Event) (old rows new : List (List Berth)) (stop at q : ℕ) → stop ≡ (slice_index_or events at no_event).stop → q < length old → length rows ≡ length old
    → new ≡ set rows stop (get_or rows stop [] ++ record { line = line; at = at } ∷ []) → get_or rows q [] ≡ get_or old q [] ++ calls_of line events q at → get_or new q [] ≡ get_or old q [] ++ calls_of line events q (at + 1)
call_more line events old rows new stop at q is h long e k = by_case (cases_eq q stop)
  where
    one : List ℕ → List Berth
    one js = map (λ j. record { line = line; at = j }) js

    by_case : (q ≡ stop) ⊎ (q ≢ stop) → get_or new q [] ≡ get_or old q [] ++ calls_of line events q (at + 1)
    by_case (inl s) =
        let test : ((slice_index_or events at no_event).stop == q) ≡ true = eq-eqb _ q (sym is ∙ sym s) in
        let here : get_or new q [] ≡ get_or rows q [] ++ record { line = line; at = at } ∷ [] = rw (e, s) (get_or-set_same rows stop (get_or rows stop [] ++ record { line = line; at = at } ∷ []) [] (omega (arith, s, h, long))) in
        let more : calls_of line events q (at + 1) ≡ calls_of line events q at ++ record { line = line; at = at } ∷ [] = rw (calls_of-more line events q at, test) refl in
        rw (here, k, more) (append_assoc (get_or old q []) (calls_of line events q at) (record { line = line; at = at } ∷ []))
    by_case (inr s) =
        let test : ((slice_index_or events at no_event).stop == q) ≡ false = ne_eqb _ q (λ f. s (sym f ∙ sym is)) in
        let here : get_or new q [] ≡ get_or rows q [] = rw e (get_or-set_other rows stop q (get_or rows stop [] ++ record { line = line; at = at } ∷ []) [] s) in
        let more : calls_of line events q (at + 1) ≡ calls_of line events q at = rw (calls_of-more line events q at, test) (append-nil (calls_of line events q at)) in
        rw (here, k, more) refl

-- one line more
pub line_more : (T : TimetableData) (lines : List (List ℕ)) (q n : ℕ) (old new : List Berth) (events : List Event) → events ≡ line_events T (get_or lines n []) → old ≡ berths_before T lines q n
    → new ≡ old ++ calls_of n events q (length events) → new ≡ berths_before T lines q (n + 1)
line_more T lines q n old new events is k e =
    let more : berths_before T lines q (n + 1) ≡ berths_before T lines q n ++ (map (λ j. record { line = n; at = j }) (calls_at T (get_or lines n []) q) ++ [])
    = ap (flat_map (λ l. map (λ j. record { line = l; at = j }) (calls_at T (get_or lines l []) q))) (numbers_below-more n) ∙ flat_map-append (λ l. map (λ j. record { line = l; at = j }) (calls_at T (get_or lines l []) q)) (numbers_below n) (n ∷ []) in
    e ∙ ap (λ es. old ++ calls_of n es q (length es)) is ∙ ap (λ bs. bs ++ calls_of n (line_events T (get_or lines n [])) q (length (line_events T (get_or lines n [])))) k
    ∙ sym (more ∙ ap (λ bs. berths_before T lines q n ++ bs) (append-nil (map (λ j. record { line = n; at = j }) (calls_at T (get_or lines n []) q))))
