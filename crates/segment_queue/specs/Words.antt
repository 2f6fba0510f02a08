-- Marks in one word a trip, and how the marks of several trips fall.
use Rattle.std.specs.Prelude.{◌≡◌, ℕ, ◌+◌, ◌-◌, ◌<◌, ◌≤◌, List, [], ◌∷◌, Bool, false, Option, None, Some, nat_le, nat_lt, slice_index_or, slice_set, if◌then◌else◌}

-- the index in a word, if it was written above this floor: the word is the floor and the index
abbrev pub mark_in : ℕ → ℕ → Option ℕ
mark_in floor word = if nat_lt word (floor + 10000000) then Some (word - floor) else None

-- a word lies so far above the floor: that is its index, if it has one
abbrev pub IsAbove : ℕ → Option ℕ → Type 0
IsAbove above None = 10000000 ≤ above
IsAbove above (Some at) = (at ≡ above) × (above < 10000000)

-- these trips get this word, in order, up to the first whose own isn't greater
abbrev pub lowered_words : List ℕ → ℕ → List ℕ → List ℕ
lowered_words [] word words = words
lowered_words (t ∷ trips) word words = if nat_le (slice_index_or words t 0) word then words
    else lowered_words trips word (slice_set words t word)

-- whether a trip has an index, and it is at most this one
abbrev pub is_at_most : ℕ → Option ℕ → Bool
is_at_most at None = false
is_at_most at (Some own) = nat_le own at

-- these trips get this index, in order, up to the first that has one that isn't greater
abbrev pub lowered_marks : List ℕ → ℕ → List (Option ℕ) → List (Option ℕ)
lowered_marks [] at marks = marks
lowered_marks (t ∷ trips) at marks = if is_at_most at (slice_index_or marks t None) then marks
    else lowered_marks trips at (slice_set marks t (Some at))
