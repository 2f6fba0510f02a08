-- How the program ends about a check of a feed.
use Rattle.std.proofs.Common.{◌≡◌, ◌∙◌, ◌⊎◌, ℕ, inl, inr, List, ◌∷◌, [], Option, Result, Ok, Err, refl, sym, ap, ap₂, subst}
use Rattle.std.specs.Prelude.{◌≤◌, IfErr, IfOk, IsSome, length, take}
use Rattle.std.specs.Io.KnownBytes.{Appends}
use Rattle.tb_base.specs.TimetableData.{TimetableData}
use Rattle.footpaths.specs.declared.paths.Options.{Options}
use Rattle.gtfs_rows.specs.declared.fault.FeedFault.{FeedFault}
use Rattle.tb_io.specs.Files.{FileList}
use Rattle.trip_table.specs.Answers.{feed_of}
use Rattle.trip_table.specs.AskedDay.{AreFaultsOf, with_last}
use Rattle.trip_table.specs.Feed.{Feed}
use Rattle.trip_table.specs.LeftFeed.{IsLenientOf}
use Rattle.trip_table.specs.declared.warning.Warning.{Warning}
use Rattle.command_line.specs.Checks.{CheckRequestData}
use Rattle.router_cli.proofs.Written.{IsWritten, Text}
use Rattle.router_cli.specs.Checks.{ChecksTo, IsCheckEnding, IsCheckOutcome, IsWholeCheck, WarnsOf, check_shown, whole_status}
use Rattle.router_cli.specs.Outcome.{WritesText}
use Rattle.router_cli.specs.declared.status.Status.{Status}
use Rattle.router_cli.specs.declared.status.Status.TheVariants as status

-- what is told to one who is lenient, and what ends it, is determined
abbrev pub IsToldOnce : Type 0
IsToldOnce = (feed : Feed) (day : ℕ) (options : Options) (told others : List FeedFault) (a b : Result TimetableData FeedFault) →
    IsLenientOf feed day options told a → IsLenientOf feed day options others b → (told ≡ others) × (a ≡ b)

faults_once : IsToldOnce → (feed : Feed) (day : ℕ) (options : Options) (faults others : List FeedFault) →
    AreFaultsOf feed day options faults → AreFaultsOf feed day options others → faults ≡ others
faults_once once feed day options faults others (told, a, p, is) (also, b, q, by) =
    let same = once feed day options told also a b p q in
    is ∙ ap₂ with_last same.0 same.1 ∙ sym by

whole : IsToldOnce → (files : Option FileList) → IsSome files → (r : CheckRequestData) (s : Status) (before now : Option (List ℕ)) → IsWholeCheck files r s before now →
    (faults : List FeedFault) → AreFaultsOf (feed_of files r.dir) r.date r.options faults → IsCheckEnding faults s
whole once files shown r s before now check faults are =
    inl (check.ends ∙ ap whole_status (faults_once once (feed_of files r.dir) r.date r.options check.faults faults (check.are shown) are))

pub check_completed : IsToldOnce → (files : Option FileList) → IsSome files → (r : CheckRequestData) (s : Status) (before now : Option (List ℕ)) →
    IsCheckOutcome files r s before now → (s ≡ status.ReadFault → ⊥) → (s ≡ status.WriteFault → ⊥) →
    (faults : List FeedFault) → AreFaultsOf (feed_of files r.dir) r.date r.options faults → IsCheckEnding faults s
check_completed once files shown r status.Done before now h read write faults are = whole once files shown r status.Done before now h faults are
check_completed once files shown r status.FaultsFound before now h read write faults are = whole once files shown r status.FaultsFound before now h faults are
check_completed once files shown r status.ReadFault before now h read write faults are = absurd (read refl)
check_completed once files shown r status.WriteFault before now h read write faults are = absurd (write refl)
check_completed once files shown r status.Memory before now h read write faults are = inr refl
check_completed once files shown r status.Usage before now h read write faults are = absurd h
check_completed once files shown r (status.FeedRefused f) before now h read write faults are = absurd h
check_completed once files shown r (status.ScriptRefused f) before now h read write faults are = absurd h
check_completed once files shown r (status.LateRefused f) before now h read write faults are = absurd h
check_completed once files shown r (status.JourneyRefused f) before now h read write faults are = absurd h

-- a check that is written whole ends as its faults say
whole_ends : (files : Option FileList) (r : CheckRequestData) (faults : List FeedFault) (before now : Option (List ℕ)) →
    IsWholeCheck files r (whole_status faults) before now → IsCheckOutcome files r (whole_status faults) before now
whole_ends files r [] before now h = h
whole_ends files r (f ∷ faults) before now h = h

-- how a check ends by how its writing did
abbrev pub IsEnded : Status → List FeedFault → Status → Type 0
IsEnded s faults ends = (s ≡ status.Done × (ends ≡ whole_status faults)) ⊎ ((s ≡ status.Done → ⊥) × (ends ≡ s))

-- what the status says where a text was there to write
with_check : (files : Option FileList) (r : CheckRequestData) (faults : List FeedFault) (warnings : List Warning) (bytes : List ℕ) (s : Status) (before now : Option (List ℕ)) →
    ChecksTo files r faults → WarnsOf files r warnings → bytes ≡ check_shown r.json faults warnings → WritesText bytes s before now → (s ≡ status.Done → ⊥) → IsCheckOutcome files r s before now
with_check files r faults warnings bytes status.Done before now are warned same added none = absurd (none refl)
with_check files r faults warnings bytes status.WriteFault before now are warned same (n, few, added) none =
    record { faults = faults; are = are; warnings = warnings; warned = warned; count = n; few = subst (λ b. n ≤ length b) same few; text = subst (λ b. Appends before now (take n b)) same added }
with_check files r faults warnings bytes status.Usage before now are warned same h none = absurd h
with_check files r faults warnings bytes (status.FeedRefused f) before now are warned same h none = absurd h
with_check files r faults warnings bytes status.ReadFault before now are warned same h none = absurd h
with_check files r faults warnings bytes status.Memory before now are warned same h none = absurd h
with_check files r faults warnings bytes (status.ScriptRefused f) before now are warned same h none = absurd h
with_check files r faults warnings bytes (status.LateRefused f) before now are warned same h none = absurd h
with_check files r faults warnings bytes (status.JourneyRefused f) before now are warned same h none = absurd h
with_check files r faults warnings bytes status.FaultsFound before now are warned same h none = absurd h

-- a text that was written whole was there
text_there : (text : Text) (s : Status) (shown : List ℕ) (before now : Option (List ℕ)) → IfOk text (λ v. v.items ≡ shown) → IfErr text (λ why. why ≡ status.Memory) →
    IsWritten text s before now → s ≡ status.Done → Appends before now shown
text_there (Ok v) s shown before now same refused written is = subst (Appends before now) same (subst (λ x. WritesText v.items x before now) is written)
text_there (Err why) s shown before now same refused written is =
    absurd (let e : status.Memory ≡ status.Done = sym refused ∙ sym written ∙ is in cc)

-- what the status says of a check, by the text that was to be written
pub check_outcome : (files : Option FileList) (r : CheckRequestData) (faults : List FeedFault) (warnings : List Warning) (text : Text) (s ends : Status) (before now : Option (List ℕ)) →
    ChecksTo files r faults → WarnsOf files r warnings → IfOk text (λ v. v.items ≡ check_shown r.json faults warnings) → IfErr text (λ why. why ≡ status.Memory) → IsWritten text s before now →
    IsEnded s faults ends → IsCheckOutcome files r ends before now
check_outcome files r faults warnings text s ends before now are warned same refused written (inl (done, is)) =
    subst (λ x. IsCheckOutcome files r x before now) (sym is)
    (whole_ends files r faults before now
    (record { faults = faults; are = are; warnings = warnings; warned = warned; ends = refl; text = text_there text s (check_shown r.json faults warnings) before now same refused written done }))
check_outcome files r faults warnings (Ok v) s ends before now are warned same refused written (inr (none, is)) =
    subst (λ x. IsCheckOutcome files r x before now) (sym is) (with_check files r faults warnings v.items s before now are warned same written none)
check_outcome files r faults warnings (Err why) s ends before now are warned same refused written (inr (none, is)) =
    subst (λ x. IsCheckOutcome files r x before now) (sym (is ∙ written ∙ refused)) tt
