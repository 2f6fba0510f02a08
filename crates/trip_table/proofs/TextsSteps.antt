-- The bytes of one file more.
use Rattle.std.proofs.Common.{◌≡◌, ◌∙◌, refl, sym, ap, ℕ, suc, ◌+◌, ◌<◌, ◌≤◌, List, [], ◌∷◌, ◌++◌, length, drop, get_or, Option, add-one, append-nil, append_assoc, drop-cons}
use Rattle.std.specs.Prelude.{Result, Ok, Err}
use Rattle.std.proofs.lemmas.List.{drop_all}
use Rattle.gtfs_rows.specs.Steps.{and_then, prepend}
use Rattle.gtfs_rows.specs.declared.fault.FeedFile.{FeedFile}
use Rattle.gtfs_rows.specs.declared.fault.FeedFault.{FeedFault}
use Rattle.trip_table.specs.Answers.{IsDayRefused}
use Rattle.trip_table.specs.Feed.{Feed, sized}
use Rattle.trip_table.specs.LeftFeed.{sized_all}
use Rattle.trip_table.specs.declared.day_fault.DayFault.{DayFault}
use Rattle.trip_table.specs.declared.day_fault.DayFault.TheVariants as why

prepend_twice : {A : Type 0} (xs ys : List A) (rest : Result (List A) FeedFault) → prepend xs (prepend ys rest) ≡ prepend (xs ++ ys) rest
prepend_twice xs ys (Ok zs) = ap Ok (sym (append_assoc xs ys zs))
prepend_twice xs ys (Err f) = refl

next_file : (feed : Feed) (files : List FeedFile) (i : ℕ) (file : FeedFile) → i < length files → file ≡ get_or files i file
    → sized_all feed (drop i files) ≡ and_then (sized file (feed file)) (λ text. prepend (text ∷ []) (sized_all feed (drop (i + 1) files)))
next_file feed files i file h at = let rest : drop i files ≡ file ∷ drop (i + 1) files = rw add-one (drop-cons files i file h ∙ ap (λ y. y ∷ drop (suc i) files) (sym at)) in ap (sized_all feed) rest

-- it is read
pub file_more : (feed : Feed) (files : List FeedFile) (i : ℕ) (file : FeedFile) (all : Result (List (Option (List ℕ))) FeedFault) (texts new : List (Option (List ℕ))) (text : Option (List ℕ)) → i < length files → file ≡ get_or files i file → sized file (feed file) ≡ Ok text
    → new ≡ texts ++ text ∷ [] → all ≡ prepend texts (sized_all feed (drop i files)) → all ≡ prepend new (sized_all feed (drop (i + 1) files))
file_more feed files i file all texts new text h at e pushed before =
    before ∙ ap (prepend texts) (next_file feed files i file h at ∙ ap (λ r. and_then r (λ text. prepend (text ∷ []) (sized_all feed (drop (i + 1) files)))) e) ∙ prepend_twice texts (text ∷ []) (sized_all feed (drop (i + 1) files))
    ∙ ap (λ l. prepend l (sized_all feed (drop (i + 1) files))) (sym pushed)

-- it isn't
pub file_refused : (feed : Feed) (files : List FeedFile) (i : ℕ) (file : FeedFile) (all : Result (List (Option (List ℕ))) FeedFault) (texts : List (Option (List ℕ))) (f : DayFault) → i < length files → file ≡ get_or files i file → IsDayRefused (sized file (feed file)) f
    → all ≡ prepend texts (sized_all feed (drop i files)) → IsDayRefused all f
file_refused feed files i file all texts (why.Feed f) h at e before =
    before ∙ ap (prepend texts) (next_file feed files i file h at ∙ ap (λ r. and_then r (λ text. prepend (text ∷ []) (sized_all feed (drop (i + 1) files)))) e)
file_refused feed files i file all texts why.ReadFault h at e before = tt
file_refused feed files i file all texts why.Memory h at e before = tt

-- all were read
pub files_done : (feed : Feed) (files : List FeedFile) (i : ℕ) (all : Result (List (Option (List ℕ))) FeedFault) (texts : List (Option (List ℕ))) → length files ≤ i → all ≡ prepend texts (sized_all feed (drop i files)) → all ≡ Ok texts
files_done feed files i all texts h before = before ∙ ap (λ l. prepend texts (sized_all feed l)) (drop_all i files h) ∙ ap Ok (append-nil texts)
