-- There is one timetable of a day, or one first fault.
use Rattle.std.proofs.Common.{◌≡◌, ◌∙◌, sym, ap, subst, ℕ, ◌≤◌, ◌+◌, List, Option, Some, None, inl, inr, arith}
use Rattle.std.specs.Prelude.{Bool, true, false, Result, Ok, Err, IsSomeAnd}
use Rattle.tb_base.specs.TimetableData.{TimetableData, FootpathData}
use Rattle.tb_base.specs.Walking.{KeepsFootpathLaw}
use Rattle.gtfs_rows.specs.StopsFile.{StopData}
use Rattle.gtfs_rows.specs.declared.fault.FeedFault.{FeedFault}
use Rattle.footpaths.specs.declared.law.LawFault.{LawFault}
use Rattle.footpaths.specs.declared.paths.Options.{Options}
use Rattle.footpaths.specs.Law.{IsGood, IsBreach, IsFirstOver, IsFirstFrom, IsFirstBreach}
use Rattle.trip_table.specs.Feed.{Feed}
use Rattle.trip_table.specs.Day.{DayParts, day_parts, breach_fault, timetable, KeepTheLaw, AreClosedOrTested, IsTimetableOf, IsTimetableOfParts, Then}
use Rattle.trip_table.proofs.OneClosing.{same, closing_unique}

bad : (P : FootpathData) (p q r : ℕ) (f : LawFault) → IsBreach P p q r f → IsGood P p q r → ⊥
bad P p q r f (inl (is, at)) good = good.there at
bad P p q r f (inr (is, at)) good = good.short at

breach_unique : (P : FootpathData) (p q r : ℕ) (f g : LawFault) → IsBreach P p q r f → IsBreach P p q r g → f ≡ g
breach_unique P p q r f g (inl (is, at)) (inl (also, by)) = is ∙ sym also
breach_unique P p q r f g (inl (is, at)) (inr (also, by)) = absurd (let no : None ≡ Some by.u = sym at.absent ∙ by.direct in cc)
breach_unique P p q r f g (inr (is, at)) (inl (also, by)) = absurd (let no : None ≡ Some at.u = sym by.absent ∙ at.direct in cc)
breach_unique P p q r f g (inr (is, at)) (inr (also, by)) = is ∙ sym also

over_unique : (P : FootpathData) (p q : ℕ) (f g : LawFault) → IsFirstOver P p q f → IsFirstOver P p q g → f ≡ g
over_unique P p q f g a b =
    let is = same a.r b.r (λ l. bad P p q a.r f a.breach (b.earlier_end a.r l)) (λ l. bad P p q b.r g b.breach (a.earlier_end b.r l)) in
    breach_unique P p q b.r f g (subst (λ r. IsBreach P p q r f) is a.breach) b.breach

from_unique : (P : FootpathData) (p : ℕ) (f g : LawFault) → IsFirstFrom P p f → IsFirstFrom P p g → f ≡ g
from_unique P p f g a b =
    let is = same a.q b.q (λ l. bad P p a.q a.over.r f a.over.breach (b.earlier_middle a.q a.over.r l)) (λ l. bad P p b.q b.over.r g b.over.breach (a.earlier_middle b.q b.over.r l)) in
    over_unique P p b.q f g (subst (λ q. IsFirstOver P p q f) is a.over) b.over

-- there is one first breach of the footpath law
first_unique : (P : FootpathData) (f g : LawFault) → IsFirstBreach P f → IsFirstBreach P g → f ≡ g
first_unique P f g a b =
    let is = same a.p b.p (λ l. bad P a.p a.from.q a.from.over.r f a.from.over.breach (b.earlier_start a.p a.from.q a.from.over.r l))
    (λ l. bad P b.p b.from.q b.from.over.r g b.from.over.breach (a.earlier_start b.p b.from.q b.from.over.r l)) in
    from_unique P b.p f g (subst (λ p. IsFirstFrom P p f) is a.from) b.from

-- and none where the law is kept
kept : (P : FootpathData) (p q r : ℕ) (f : LawFault) → KeepsFootpathLaw P → IsBreach P p q r f → ⊥
kept P p q r f law (inl (is, at)) = subst (λ (o : Option ℕ). IsSomeAnd o (λ u. u ≤ at.s + at.t)) at.absent (law p q r at.s at.t at.row.away at.row.onward at.row.first at.row.second)
kept P p q r f law (inr (is, at)) =
    let u : at.u ≤ at.s + at.t = subst (λ (o : Option ℕ). IsSomeAnd o (λ u. u ≤ at.s + at.t)) at.direct (law p q r at.s at.t at.row.away at.row.onward at.row.first at.row.second) in
    let long = at.long in
    omega (arith, u, long)

kept_first : (P : FootpathData) (f : LawFault) → KeepsFootpathLaw P → IsFirstBreach P f → ⊥
kept_first P f law first = kept P first.p first.from.q first.from.over.r f law first.from.over.breach

tested_unique : (stops : List StopData) (told : FootpathData) (a b : Result FootpathData FeedFault) → KeepTheLaw stops told a → KeepTheLaw stops told b → a ≡ b
tested_unique stops told (Ok a) (Ok b) (is, law) (also, by) = ap Ok (is ∙ sym also)
tested_unique stops told (Ok a) (Err g) (is, law) (breach, first, fault) = absurd (kept_first told breach law first)
tested_unique stops told (Err f) (Ok b) (breach, first, fault) (is, law) = absurd (kept_first told breach law first)
tested_unique stops told (Err f) (Err g) (breach, first, fault) (other, also, by) =
    ap Err (fault ∙ ap (breach_fault stops) (first_unique told breach other first also) ∙ sym by)

pub settled_unique : (close : Bool) (stops : List StopData) (told : FootpathData) (a b : Result FootpathData FeedFault) → AreClosedOrTested close stops told a → AreClosedOrTested close stops told b → a ≡ b
settled_unique true stops told a b p q = closing_unique stops told a b p q
settled_unique false stops told a b p q = tested_unique stops told a b p q

parts_unique : (close : Bool) (parts : DayParts) (a b : Result TimetableData FeedFault) → IsTimetableOfParts close parts a → IsTimetableOfParts close parts b → a ≡ b
parts_unique close parts (Ok a) (Ok b) (footpaths, settled, is) (others, also, by) =
    let e : Ok footpaths ≡ Ok others = settled_unique close parts.stops parts.footpaths (Ok footpaths) (Ok others) settled also in
    let one : footpaths ≡ others = cc in
    ap Ok (is ∙ ap (timetable parts) one ∙ sym by)
parts_unique close parts (Ok a) (Err g) (footpaths, settled, is) other = absurd (let e : Ok footpaths ≡ Err g = settled_unique close parts.stops parts.footpaths (Ok footpaths) (Err g) settled other in cc)
parts_unique close parts (Err f) (Ok b) settled (others, also, by) = absurd (let e : Err f ≡ Ok others = settled_unique close parts.stops parts.footpaths (Err f) (Ok others) settled also in cc)
parts_unique close parts (Err f) (Err g) settled other = let e : Err f ≡ Err g = settled_unique close parts.stops parts.footpaths (Err f) (Err g) settled other in let one : f ≡ g = cc in ap Err one

pub then_unique : (close : Bool) (meant : Result DayParts FeedFault) (a b : Result TimetableData FeedFault) → Then meant (IsTimetableOfParts close) a → Then meant (IsTimetableOfParts close) b → a ≡ b
then_unique close (Ok parts) a b p q = parts_unique close parts a b p q
then_unique close (Err f) a b p q = p ∙ sym q

-- there is one timetable of a day, or one first fault
pub timetable_unique : (feed : Feed) (day : ℕ) (options : Options) (a b : Result TimetableData FeedFault) → IsTimetableOf feed day options a → IsTimetableOf feed day options b → a ≡ b
timetable_unique feed day options a b p q = then_unique options.close (day_parts feed day options) a b p q
