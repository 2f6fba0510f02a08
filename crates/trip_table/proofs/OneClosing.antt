-- There is one outcome of closing.
use Rattle.std.proofs.Common.{◌≡◌, ◌∙◌, sym, ap, subst, ℕ, ◌<◌, ◌≤◌, ◌⊎◌, List, length, Option, Some, None, inl, inr, arith}
use Rattle.std.specs.Prelude.{Result, Ok, Err, IfSome, IsSomeAnd}
use Rattle.gtfs_rows.specs.StopsFile.{StopData}
use Rattle.gtfs_rows.specs.declared.fault.FeedFault.{FeedFault}
use Rattle.gtfs_rows.specs.declared.fault.FeedFault.TheVariants as fault
use Rattle.footpaths.specs.Footpaths.{Changes, paths_of}
use Rattle.tb_base.specs.TimetableData.{FootpathData}
use Rattle.tb_base.specs.Walking.{change_between}
use Rattle.foot_close.specs.Closure.{IsClosure}
use Rattle.foot_close.specs.Closing.{ClosureHas, IsFirstFar}
use Rattle.foot_close.proofs.Chains.{one_closure}
use Rattle.trip_table.specs.Day.{platform_id, IsWithinLimits, HasTooMany, HasFarPair, AreClosed}

pub same : (a b : ℕ) → (a < b → ⊥) → (b < a → ⊥) → a ≡ b
same a b p q = omega (arith, p, q)

-- closures of the same changes are the same
pub same_closure : (given one other : Changes) → IsClosure given one → IsClosure given other → one ≡ other
same_closure given one other h k = λ i p r. one_closure given one other h k p r i

-- no change is both near and far
near_and_far : (o : Option ℕ) → IfSome o (λ secs. secs ≤ 86400) → IsSomeAnd o (λ secs. 86400 < secs) → ⊥
near_and_far None near far = far
near_and_far (Some s) near far = omega (arith, near, far)

-- there is one first far pair
first_start : (closed : Changes) (p q a b : ℕ) → IsFirstFar closed p q → IsFirstFar closed a b → p ≡ a
first_start closed p q a b first other = same p a (λ l. near_and_far (closed p q) (other.earlier_start p q l) first.far) (λ l. near_and_far (closed a b) (first.earlier_start a b l) other.far)

first_end : (closed : Changes) (p q b : ℕ) → IsFirstFar closed p q → IsFirstFar closed p b → q ≡ b
first_end closed p q b first other = same q b (λ l. near_and_far (closed p q) (other.earlier_end q l) first.far) (λ l. near_and_far (closed p b) (first.earlier_end b l) other.far)

-- a closure within the limits has no fault
within : (stops : List StopData) (told : FootpathData) (closed : Changes) (f : FeedFault) → IsWithinLimits told closed → HasTooMany told closed f ⊎ HasFarPair stops told closed f → ⊥
within stops told closed f limits (inl x) = (let few = limits.few in let total = x.total in omega (arith, few, total))
within stops told closed f limits (inr x) = near_and_far (closed x.from x.to) (limits.near x.from x.to) x.far.far

-- and any other has one
one_fault : (stops : List StopData) (told : FootpathData) (closed : Changes) (f g : FeedFault) → HasTooMany told closed f ⊎ HasFarPair stops told closed f → HasTooMany told closed g ⊎ HasFarPair stops told closed g → f ≡ g
one_fault stops told closed f g (inl x) (inl y) = x.named ∙ sym y.named
one_fault stops told closed f g (inl x) (inr y) = absurd (let few = y.few in let total = x.total in omega (arith, few, total))
one_fault stops told closed f g (inr x) (inl y) = absurd (let few = x.few in let total = y.total in omega (arith, few, total))
one_fault stops told closed f g (inr x) (inr y) =
    let start : x.from ≡ y.from = first_start closed x.from x.to y.from y.to x.far y.far in
    let end : x.to ≡ y.to = first_end closed y.from x.to y.to (subst (λ p. IsFirstFar closed p x.to) start x.far) y.far in
    x.named ∙ (ap (λ p. fault.FarFootpath (platform_id stops p) (platform_id stops x.to)) start ∙ (ap (λ q. fault.FarFootpath (platform_id stops y.from) (platform_id stops q)) end ∙ sym y.named))

-- what becomes of change times and footpaths with a closure
abbrev IsClosedTo : List StopData → FootpathData → Changes → Result FootpathData FeedFault → Type 0
IsClosedTo stops told closed (Ok paths) = (paths ≡ paths_of (length told.change) closed) × IsWithinLimits told closed
IsClosedTo stops told closed (Err f) = HasTooMany told closed f ⊎ HasFarPair stops told closed f

outcome : (stops : List StopData) (told : FootpathData) (a : Result FootpathData FeedFault) → AreClosed stops told a → ClosureHas told (λ closed. IsClosedTo stops told closed a)
outcome stops told (Ok paths) h = h
outcome stops told (Err f) h = h

outcome_unique : (stops : List StopData) (told : FootpathData) (closed : Changes) (a b : Result FootpathData FeedFault) → IsClosedTo stops told closed a → IsClosedTo stops told closed b → a ≡ b
outcome_unique stops told closed (Ok a) (Ok b) (is, limits) (also, by) = ap Ok (is ∙ sym also)
outcome_unique stops told closed (Ok a) (Err g) (is, limits) other = absurd (within stops told closed g limits other)
outcome_unique stops told closed (Err f) (Ok b) other (is, limits) = absurd (within stops told closed f limits other)
outcome_unique stops told closed (Err f) (Err g) one other = ap Err (one_fault stops told closed f g one other)

-- there is one outcome of closing
pub closing_unique : (stops : List StopData) (told : FootpathData) (a b : Result FootpathData FeedFault) → AreClosed stops told a → AreClosed stops told b → a ≡ b
closing_unique stops told a b p q =
    let h = outcome stops told a p in
    let k = outcome stops told b q in
    let one : k.closed ≡ h.closed = same_closure (change_between told) k.closed h.closed k.closure h.closure in
    outcome_unique stops told h.closed a b h.has (subst (λ (closed : Changes). IsClosedTo stops told closed b) one k.has)
