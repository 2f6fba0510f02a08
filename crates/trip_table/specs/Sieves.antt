-- What a look at a feed, or at a part of it, gives where bad rows are left out.
use Rattle.std.specs.Prelude.{◌≡◌, List, [], ◌++◌, Result, Ok, Err, MatchResult, ⊤}
use Rattle.gtfs_rows.specs.declared.fault.FeedFault.{FeedFault}
use Rattle.gtfs_rows.specs.declared.fault.RowsFault.{RowsFault}
use Rattle.gtfs_rows.specs.declared.fault.RowsFault.TheVariants as why

-- each fault that is told, in order, and what is left in the end, or the fault that ends it
pub record Sieved (A : Type 0) : Type 0 where
  pub faults : List FeedFault
  pub end : Result A FeedFault

abbrev pub ended : {A : Type 0} → List FeedFault → Result A FeedFault → Sieved A
ended faults end = record { faults = faults; end = end }

-- nothing is left out
abbrev pub silent : {A : Type 0} → Result A FeedFault → Sieved A
silent end = ended [] end

-- the same after earlier faults
abbrev pub after : {A : Type 0} → List FeedFault → Sieved A → Sieved A
after before s = ended (before ++ s.faults) s.end

-- a look, and then the next one at what it leaves, unless a fault ends it
abbrev pub look_on : {A B : Type 0} → List FeedFault → Result A FeedFault → (A → Sieved B) →
    Sieved B
look_on faults (Ok x) next = after faults (next x)
look_on faults (Err f) next = ended faults (Err f)

abbrev pub and_look : {A B : Type 0} → Sieved A → (A → Sieved B) → Sieved B
and_look s next = look_on s.faults s.end next

-- The faults that were told after earlier ones, and what is left, are those that are meant, and so
-- is a fault that ends it; want of memory says nothing.
abbrev pub EndsBy : {A : Type 0} → Sieved A → List FeedFault → List FeedFault → RowsFault → Type 0
EndsBy meant before now (why.Feed f) = after before meant ≡ ended now (Err f)
EndsBy meant before now why.Memory = ⊤

abbrev pub Sieves : {X A : Type 0} → Sieved A → List FeedFault → List FeedFault →
    Result X RowsFault → (X → A) → Type 0
Sieves meant before now result view =
    MatchResult result (λ x. after before meant ≡ ended now (Ok (view x))) (EndsBy meant before now)
