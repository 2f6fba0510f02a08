-- There is one timetable of a day, or one fault that ends it, as the options ask for it.
use Rattle.std.proofs.Common.{◌≡◌, ◌∙◌, refl, sym, subst, inl, inr, ℕ, List, [], Bool, true, false, Option, Some, None}
use Rattle.std.specs.Prelude.{Result, Ok, Err, is_some}
use Rattle.tb_base.specs.TimetableData.{TimetableData}
use Rattle.gtfs_rows.specs.LeftOut.{bearer, IsUnborne}
use Rattle.gtfs_rows.specs.declared.fault.FeedFault.{FeedFault}
use Rattle.footpaths.specs.declared.paths.Options.{Options}
use Rattle.trip_table.specs.AskedDay.{AreFaultsOf, IsAskedAs, IsAskedDay}
use Rattle.trip_table.specs.Day.{IsTimetableOf, Then}
use Rattle.trip_table.specs.Feed.{Feed}
use Rattle.trip_table.specs.LeftFeed.{IsLenientOf, IsTimetableLeft, LeftData, feed_files, left_data, parts_left, sized_all}
use Rattle.trip_table.specs.Sieves.{and_look, silent}
use Rattle.trip_table.proofs.Determined.{then_unique, timetable_unique}

left_unique : (day : ℕ) (options : Options) (end : Result LeftData FeedFault) (a b : Result TimetableData FeedFault) →
    Then end (IsTimetableLeft day options) a → Then end (IsTimetableLeft day options) b → a ≡ b
left_unique day options (Ok left) a b p q = then_unique options.close (parts_left day options left) a b p q
left_unique day options (Err f) a b p q = p ∙ sym q

not_borne : {A : Type 0} (o : Option A) → is_some o ≡ true → o ≡ None → ⊥
not_borne None some none = cc
not_borne (Some x) some none = cc

-- what no row bears is no fault that a row bears
other_way : (f : FeedFault) (r : Result TimetableData FeedFault) → r ≡ Err f → is_some (bearer f) ≡ true → IsUnborne true r → ⊥
other_way f r is borne unborne = not_borne (bearer f) borne (subst (λ x. IsUnborne true x) is unborne refl)

-- for one who is lenient
pub lenient_unique : (feed : Feed) (day : ℕ) (options : Options) (told others : List FeedFault) (a b : Result TimetableData FeedFault) →
    IsLenientOf feed day options told a → IsLenientOf feed day options others b → (told ≡ others) × (a ≡ b)
lenient_unique feed day options told others a b (inl (p, u, t)) (inl (q, v, s)) = (t ∙ sym s, timetable_unique feed day options a b p q)
lenient_unique feed day options told others a b (inl (p, u, t)) (inr (g, q, borne, left)) =
    absurd (other_way g a (timetable_unique feed day options a (Err g) p q) borne u)
lenient_unique feed day options told others a b (inr (f, p, borne, left)) (inl (q, v, s)) =
    absurd (other_way f b (timetable_unique feed day options b (Err f) q p) borne v)
lenient_unique feed day options told others a b (inr (f, p, borne, left)) (inr (g, q, also, other)) =
    let looked = and_look (silent (sized_all feed feed_files)) left_data in
    (left.0 ∙ sym other.0, left_unique day options looked.end a b left.1 other.1)

as_unique : (lenient : Bool) (feed : Feed) (day : ℕ) (options : Options) (told others : List FeedFault) (a b : Result TimetableData FeedFault) →
    IsAskedAs lenient feed day options told a → IsAskedAs lenient feed day options others b → a ≡ b
as_unique false feed day options told others a b p q = timetable_unique feed day options a b p.0 q.0
as_unique true feed day options told others a b p q = (lenient_unique feed day options told others a b p q).1

pub asked_unique : (feed : Feed) (day : ℕ) (options : Options) (a b : Result TimetableData FeedFault) →
    IsAskedDay feed day options a → IsAskedDay feed day options b → a ≡ b
asked_unique feed day options a b (told, p) (others, q) = as_unique options.lenient feed day options told others a b p q

-- nothing is left out of a feed without a fault
pub lenient_good : (feed : Feed) (day : ℕ) (options : Options) (T : TimetableData) → IsTimetableOf feed day options (Ok T) →
    IsLenientOf feed day options [] (Ok T)
lenient_good feed day options T is = inl (is, tt, refl)

-- and nothing is told of it
pub good_untold : (feed : Feed) (day : ℕ) (options : Options) (T : TimetableData) (faults : List FeedFault) → IsTimetableOf feed day options (Ok T) → AreFaultsOf feed day options faults → faults ≡ []
good_untold feed day options T faults is (told, Ok U, meant, all) = all ∙ (lenient_unique feed day options told [] (Ok U) (Ok T) meant (lenient_good feed day options T is)).0
good_untold feed day options T faults is (told, Err f, meant, all) =
    absurd (let e : Err f ≡ Ok T = (lenient_unique feed day options told [] (Err f) (Ok T) meant (lenient_good feed day options T is)).1 in cc)
