-- What a text claims: the value of a journey, and its legs; or the first fault of its lines.
use Rattle.std.specs.Prelude.{◌≡◌, ℕ, ◌+◌, List, [], ◌∷◌, length, codes, bytes_eq, nat_lt, position, ◌&&◌, Option, Some, None, Result, Ok, Err, MatchResult, if◌then◌else◌}
use Rattle.std.specs.Option.{ok_or, option_and_then, option_map}
use Rattle.gtfs_rows.specs.Numbers.{number_of}
use Rattle.gtfs_rows.specs.Steps.{and_then, prepend}
use Rattle.tb_base.specs.BestValues.{ChoiceData}
use Rattle.tb_base.specs.ServiceDays.{day_by}
use Rattle.text_lines.specs.LineWords.{line_words}
use Rattle.tb_base.specs.Refusals.{IsRefused}
use Rattle.tb_base.specs.TimetableData.{TimetableData}
use Rattle.tb_base.specs.declared.days.ServiceDay.{ServiceDay}
use Rattle.tb_base.specs.declared.query.Leg.{Leg}
use Rattle.tb_base.specs.declared.query.Leg.TheVariants.{Walk as WalkLeg}
use Rattle.tb_base.specs.declared.query.Value.{Value}
use Rattle.tb_base.specs.declared.refused.Refused.{Refused}
use Rattle.journey_read.specs.declared.claim.JourneyFault.{JourneyFault}
use Rattle.journey_read.specs.declared.claim.JourneyFault.TheVariants as fault
use Rattle.journey_read.specs.declared.rides.Ends.{Ends}
use Rattle.text_lines.specs.Lines.{lines_of}
use Rattle.journey_read.specs.Rides.{ride_among}
use Rattle.journey_read.specs.Times.{shown_time_of}

-- the number of the stop with a name, where a stop has it; stations don't count
abbrev pub stop_named : TimetableData → List ℕ → Option ℕ
stop_named T name = position (λ s. bytes_eq name s.name) T.stops

-- what a line wants, or that the line is bad; a stop's number, or that no stop has the name
abbrev pub good : {A : Type 0} → ℕ → Option A → Result A JourneyFault
good n wanted = ok_or wanted (fault.BadLine n)

abbrev pub stop_of : TimetableData → ℕ → List ℕ → Result ℕ JourneyFault
stop_of T n name = ok_or (stop_named T name) (fault.UnknownStop n)

-- the walk that line n claims
abbrev pub walk_between : TimetableData → ℕ → List ℕ → List ℕ → List ℕ → Result Leg JourneyFault
walk_between T n from to secs =
    and_then (good n (number_of secs))
    (λ s. and_then (stop_of T n from)
    (λ p. and_then (stop_of T n to) (λ q. Ok (WalkLeg p q s))))

-- line n is `walk STOP STOP SECONDS`
abbrev pub walk_of : TimetableData → ℕ → List (List ℕ) → Result Leg JourneyFault
walk_of T n (from ∷ to ∷ secs ∷ []) = walk_between T n from to secs
walk_of T n words = Err (fault.BadLine n)

-- where and when the ride of line n begins and ends: the times are read before the stops
abbrev pub ends_of : TimetableData → ℕ → List ℕ → List ℕ → List ℕ → List ℕ →
    Result Ends JourneyFault
ends_of T n from departure to arrival =
    and_then (good n (shown_time_of departure))
    (λ d. and_then (good n (shown_time_of arrival))
    (λ a. and_then (stop_of T n from)
    (λ p. and_then (stop_of T n to)
    (λ q. Ok (record { from = p; departure = d; to = q; arrival = a })))))

-- the ride that line n claims between these ends, on a trip with this name and
-- service day
abbrev pub ride_named : TimetableData → ℕ → List ℕ → ServiceDay → Ends → Result Leg JourneyFault
ride_named T n trip day ends =
    ok_or (ride_among trip day ends 0 T.trips) (fault.NoSuchRide n)

-- line n is `ride TRIP STOP TIME STOP TIME`, or the same with a service day behind it
abbrev pub ride_claimed : TimetableData → ℕ → List (List ℕ) → Result Leg JourneyFault
ride_claimed T n (trip ∷ from ∷ departure ∷ to ∷ arrival ∷ marks) =
    and_then (good n (day_by marks))
    (λ day. and_then (ends_of T n from departure to arrival) (ride_named T n trip day))
ride_claimed T n words = Err (fault.BadLine n)

-- the leg that line n claims
abbrev pub leg_of : TimetableData → ℕ → List (List ℕ) → Result Leg JourneyFault
leg_of T n [] = Err (fault.BadLine n)
leg_of T n (word ∷ words) =
    if bytes_eq word (codes "walk") then walk_of T n words
    else if bytes_eq word (codes "ride") then ride_claimed T n words
    else Err (fault.BadLine n)

-- the legs that line n claims, by its words: none where it has none
abbrev pub legs_on : TimetableData → ℕ → Option (List (List ℕ)) → Result (List Leg) JourneyFault
legs_on T n None = Err (fault.BadLine n)
legs_on T n (Some []) = Ok []
legs_on T n (Some (word ∷ words)) =
    and_then (leg_of T n (word ∷ words)) (λ leg. Ok (leg ∷ []))

-- the legs of these lines, in order, of which the first is line n
abbrev pub legs_from : TimetableData → ℕ → List (List ℕ) → Result (List Leg) JourneyFault
legs_from T n [] = Ok []
legs_from T n (line ∷ lines) =
    and_then (legs_on T n (line_words line)) (λ legs. prepend legs (legs_from T (n + 1) lines))

-- TIME and N, as a value
abbrev pub value_shown : List ℕ → List ℕ → Option Value
value_shown time count =
    option_and_then (λ t. option_map (λ k. record { arrive = t; rides = k }) (number_of count))
    (shown_time_of time)

-- `arrive TIME rides N`
abbrev pub value_claimed : List (List ℕ) → Option Value
value_claimed (arrive ∷ time ∷ rides ∷ count ∷ []) =
    if bytes_eq arrive (codes "arrive") && bytes_eq rides (codes "rides")
    then value_shown time count
    else None
value_claimed words = None

-- a value, with legs before further legs
abbrev pub claim_with : Value → List Leg → Result (List Leg) JourneyFault →
    Result ChoiceData JourneyFault
claim_with v legs further =
    and_then (prepend legs further) (λ all. Ok (record { value = v; legs = all }))

-- The claim that begins at line n, by its words: a line without words is passed over, and the claim
-- begins later; else it has the value, and further lines have the legs.
abbrev pub claim_at : ℕ → Option (List (List ℕ)) → Result (List Leg) JourneyFault →
    Result ChoiceData JourneyFault → Result ChoiceData JourneyFault
claim_at n None further later = Err (fault.BadLine n)
claim_at n (Some []) further later = later
claim_at n (Some (word ∷ words)) further later =
    and_then (good n (value_claimed (word ∷ words))) (λ v. claim_with v [] further)

-- the claim of these lines, of which the first is line n
abbrev pub claim_from : TimetableData → ℕ → List (List ℕ) → Result ChoiceData JourneyFault
claim_from T n [] = Err (fault.BadLine 0)
claim_from T n (line ∷ lines) =
    claim_at n (line_words line) (legs_from T (n + 1) lines) (claim_from T (n + 1) lines)

-- The claim of a text of at most 1,048,576 bytes, or its first fault. Lines are counted from 1; a
-- text without a line that has words is bad at line 0.
abbrev pub claim_of : TimetableData → List ℕ → Result ChoiceData JourneyFault
claim_of T bytes =
    if nat_lt 1048576 (length bytes) then Err fault.TooLong else claim_from T 1 (lines_of bytes)

-- the claim of further lines, of which the first is line n, behind what is read of it
abbrev pub claim_behind : TimetableData → Option ChoiceData → ℕ → List (List ℕ) →
    Result ChoiceData JourneyFault
claim_behind T None n lines = claim_from T n lines
claim_behind T (Some c) n lines = claim_with c.value c.legs (legs_from T n lines)

-- the same, where line n has these words
abbrev pub claim_with_words : TimetableData → ℕ → Option ChoiceData → List (List ℕ) →
    List (List ℕ) → Result ChoiceData JourneyFault
claim_with_words T n None words lines =
    claim_at n (Some words) (legs_from T (n + 1) lines) (claim_from T (n + 1) lines)
claim_with_words T n (Some c) words lines =
    claim_with c.value c.legs
    (and_then (legs_on T n (Some words)) (λ legs. prepend legs (legs_from T (n + 1) lines)))

-- what is read of a claim: how many lines, and the claim so far, once it has begun
pub record SoFar : Type 0 where
  pub lines : ℕ
  pub claimed : Option ChoiceData

abbrev pub claim_so_far : TimetableData → SoFar → List (List ℕ) → Result ChoiceData JourneyFault
claim_so_far T s lines = claim_behind T s.claimed (s.lines + 1) lines

-- line n, with these words, is read, whatever lines follow it, or the claim is refused for it
abbrev pub ReadsWords : TimetableData → ℕ → Option ChoiceData → List (List ℕ) →
    Result ChoiceData (Refused JourneyFault) → Type 0
ReadsWords T n claimed words result =
    (lines : List (List ℕ)) →
    MatchResult result
    (λ c. claim_with_words T n claimed words lines ≡ claim_behind T (Some c) (n + 1) lines)
    (IsRefused (claim_with_words T n claimed words lines))

-- a line is read, whatever lines follow it, or the claim is refused for it
abbrev pub Reads : TimetableData → SoFar → List ℕ → Result SoFar (Refused JourneyFault) → Type 0
Reads T s line result =
    (lines : List (List ℕ)) →
    MatchResult result (λ now. claim_so_far T s (line ∷ lines) ≡ claim_so_far T now lines)
    (IsRefused (claim_so_far T s (line ∷ lines)))
