-- Rows of stops.txt of which those that lack their parent are left out, once more.
use Rattle.std.proofs.Common.{◌≡◌, ◌≢◌, ◌∙◌, refl, sym, ap, ℕ, suc, ◌+◌, ◌-◌, ◌<◌, List, [], ◌∷◌, ◌++◌, length, map, arith, append-nil}
use Rattle.std.specs.Prelude.{Ok, filter, not}
use Rattle.gtfs_rows.specs.StopsFile.{StopData}
use Rattle.gtfs_rows.specs.declared.fault.FeedFault.{FeedFault}
use Rattle.footpaths.specs.Stops.{lacks_parent}
use Rattle.trip_table.specs.LeftFeed.{leave_found, leave_orphans, orphan_fault}
use Rattle.trip_table.specs.Sieves.{Sieved, after, ended, silent}
use Rattle.trip_table.proofs.Looks.{after_twice}

none_found : (found rows : List StopData) (later : Sieved (List StopData)) → map orphan_fault found ≡ [] → leave_found found rows later ≡ silent (Ok rows)
none_found [] rows later e = refl
none_found (s ∷ more) rows later e = absurd (cc)

some_found : (found rows : List StopData) (later : Sieved (List StopData)) → map orphan_fault found ≢ [] → leave_found found rows later ≡ after (map orphan_fault found) later
some_found [] rows later e = absurd (e refl)
some_found (s ∷ more) rows later e = refl

once_more : (count turn : ℕ) (rows : List StopData) → turn < count
    → leave_orphans (count - turn) rows ≡ leave_found (filter (lacks_parent rows) rows) rows (leave_orphans (count - (turn + 1)) (filter (λ s. not (lacks_parent rows s)) rows))
once_more count turn rows h = let more : count - turn ≡ suc (count - (turn + 1)) = omega (arith, h) in ap (λ n. leave_orphans n rows) more

empty : (faults : List FeedFault) → length faults ≡ 0 → faults ≡ []
empty [] e = refl
empty (f ∷ rest) e = absurd (cc)

filled : (faults : List FeedFault) → length faults ≢ 0 → faults ≢ []
filled faults some e = some (ap length e)

-- no row lacks its parent
pub no_orphan : (whole : Sieved (List StopData)) (begin told faults : List FeedFault) (count turn : ℕ) (rows : List StopData) → turn < count → faults ≡ map orphan_fault (filter (lacks_parent rows) rows) → length faults ≡ 0
    → after begin whole ≡ after told (leave_orphans (count - turn) rows) → after begin whole ≡ ended told (Ok rows)
no_orphan whole begin told faults count turn rows h e none before =
    before ∙ ap (after told) (once_more count turn rows h ∙ none_found (filter (lacks_parent rows) rows) rows _ (sym e ∙ empty faults none)) ∙ ap (λ told. ended told (Ok rows)) (append-nil told)

-- some do
pub orphans : (whole : Sieved (List StopData)) (begin told now faults : List FeedFault) (count turn : ℕ) (rows left : List StopData) → turn < count → faults ≡ map orphan_fault (filter (lacks_parent rows) rows) → length faults ≢ 0 → now ≡ told ++ faults
    → left ≡ filter (λ s. not (lacks_parent rows s)) rows → after begin whole ≡ after told (leave_orphans (count - turn) rows) → after begin whole ≡ after now (leave_orphans (count - (turn + 1)) left)
orphans whole begin told now faults count turn rows left h e some pushed kept before =
    let later = leave_orphans (count - (turn + 1)) (filter (λ s. not (lacks_parent rows s)) rows) in
    before ∙ ap (after told) (once_more count turn rows h ∙ some_found (filter (lacks_parent rows) rows) rows later (λ n. filled faults some (e ∙ n))) ∙ after_twice told (map orphan_fault (filter (lacks_parent rows) rows)) later
    ∙ ap (λ l. after l later) (ap (λ l. told ++ l) (sym e) ∙ sym pushed) ∙ ap (λ rows. after now (leave_orphans (count - (turn + 1)) rows)) (sym kept)
