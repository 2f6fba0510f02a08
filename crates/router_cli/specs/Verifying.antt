-- What the program's status says of a claimed journey.
use Rattle.std.specs.Prelude.{◌≡◌, ◌↔◌, Bool, ℕ, ◌<◌, List, ◌++◌, codes, if◌then◌else◌, Option, IfSome, Result, Ok, Err, ⊤}
use Rattle.std.specs.Fmt.{decimal}
use Rattle.std.specs.Io.KnownBytes.{Consumes}
use Rattle.tb_base.specs.BestValues.{ChoiceData, QueryData}
use Rattle.tb_base.specs.JourneyRules.{SpellValue}
use Rattle.tb_base.specs.TimetableData.{TimetableData}
use Rattle.tb_base.specs.declared.rule.Rule.{Rule}
use Rattle.tb_base.specs.declared.rule.Rule.TheVariants as rule
use Rattle.tb_base.specs.Clock.{time_text}
use Rattle.answer_json.specs.Frames.{count_json, member_json}
use Rattle.answer_json.specs.Reached.{value_json}
use Rattle.gtfs_rows.specs.declared.fault.FeedFault.{FeedFault}
use Rattle.tb_io.specs.Files.{FileList}
use Rattle.journey_read.specs.Claims.{claim_of}
use Rattle.journey_read.specs.JsonClaims.{json_claim_of}
use Rattle.journey_read.specs.Judging.{IsVerdict}
use Rattle.journey_read.specs.declared.claim.JourneyFault.{JourneyFault}
use Rattle.journey_read.specs.declared.verdict.Verdict.{Verdict}
use Rattle.journey_read.specs.declared.verdict.Verdict.TheVariants as verdict
use Rattle.query_gate.specs.Questions.{query_at}
use Rattle.command_line.specs.Inquiries.{InquiryData}
use Rattle.command_line.specs.Verifications.{VerifyRequestData}
use Rattle.router_cli.specs.Answers.{IsTextBetween}
use Rattle.router_cli.specs.Outcome.{EndsBy, GivesDay}
use Rattle.router_cli.specs.declared.status.Status.{Status}
use Rattle.router_cli.specs.declared.status.Status.TheVariants as status

-- the name of a rule
abbrev pub rule_text : Rule → List ℕ
rule_text rule.BadNumber = codes "BadNumber"
rule_text rule.TwoWalks = codes "TwoWalks"
rule_text rule.NoWalk = codes "NoWalk"
rule_text rule.NoBoarding = codes "NoBoarding"
rule_text rule.NoAlighting = codes "NoAlighting"
rule_text rule.WrongStart = codes "WrongStart"
rule_text rule.TooEarly = codes "TooEarly"
rule_text rule.Apart = codes "Apart"
rule_text rule.TooLate = codes "TooLate"
rule_text rule.WrongEnd = codes "WrongEnd"

-- `yes`, or `no` with the rule and the leg that breaks it, or with the journey's own value
abbrev pub verdict_text : Verdict → List ℕ
verdict_text verdict.Yes = codes "yes\n"
verdict_text (verdict.Broken r) =
    codes "no " ++ rule_text r.rule ++ codes " leg " ++ decimal r.leg ++ codes "\n"
verdict_text (verdict.OtherValue v) =
    codes "no value arrive " ++ time_text v.arrive ++ codes " rides " ++ decimal v.rides
    ++ codes "\n"

-- `{"valid":true}`, or `{"valid":false` with the rule and the leg, or with the value
abbrev pub verdict_json : Verdict → List ℕ
verdict_json verdict.Yes = codes "{\"valid\":true}\n"
verdict_json (verdict.Broken r) =
    codes "{\"valid\":false" ++ member_json (codes "rule") (rule_text r.rule)
    ++ count_json (codes "leg") r.leg ++ codes "}\n"
verdict_json (verdict.OtherValue v) =
    codes "{\"valid\":false," ++ codes "\"value\":" ++ value_json v ++ codes "}\n"

abbrev pub verdict_shown : Bool → Verdict → List ℕ
verdict_shown json said = if json then verdict_json said else verdict_text said

-- the verdict on a claim: yes exactly where the legs spell a journey that has the claimed value
pub record ShowsVerdict (json : Bool) (T : TimetableData) (claimed : ChoiceData) (Q : QueryData)
    (bytes : List ℕ) : Type 0 where
  pub said : Verdict
  pub is : IsVerdict T Q claimed said
  pub yes : (said ≡ verdict.Yes) ↔ SpellValue T Q claimed.legs claimed.value
  pub text : bytes ≡ verdict_shown json said

-- what is written of a claim about two places
abbrev pub IsVerifiedText : Bool → TimetableData → InquiryData → ChoiceData → List ℕ → Type 0
IsVerifiedText json T i claimed =
    IsTextBetween json T i.from i.to (λ ends. ShowsVerdict json T claimed (query_at ends i.time))

-- what bytes claim, as JSON or as lines
abbrev pub claim_as : Bool → TimetableData → List ℕ → Result ChoiceData JourneyFault
claim_as json T bytes = if json then json_claim_of T bytes else claim_of T bytes

-- where the source tells its bytes, they claim this over the timetable
abbrev pub ClaimGives : Bool → TimetableData → Option (List ℕ) → Result ChoiceData JourneyFault
    → Type 0
ClaimGives json T told result = IfSome told (λ bytes. claim_as json T bytes ≡ result)

-- the bytes are what is written of the claim over the timetable of the day
pub record IsVerifyAnswer (files : Option FileList) (told : Option (List ℕ)) (r : VerifyRequestData)
    (bytes : List ℕ) : Type 0 where
  pub table : TimetableData
  pub day : GivesDay files r.dir r.date r.options (Ok table)
  pub claimed : ChoiceData
  pub claim : ClaimGives r.json table told (Ok claimed)
  pub text : IsVerifiedText r.json table r.inquiry claimed bytes

-- the day of a request has a timetable: any sound one, where the folder doesn't tell its files
abbrev pub HasDay : Option FileList → VerifyRequestData → Type 0
HasDay files r = (T : TimetableData) × GivesDay files r.dir r.date r.options (Ok T)

-- the timetable of the day is there, and over it the claim has this first fault
abbrev pub ClaimRefused : Option FileList → Option (List ℕ) → VerifyRequestData → JourneyFault
    → Type 0
ClaimRefused files told r f =
    (T : TimetableData) × GivesDay files r.dir r.date r.options (Ok T)
    × ClaimGives r.json T told (Err f)

-- Why nothing is written of a claim: the feed is refused; or the day has a timetable, and the claim
-- is refused over it. Of ReadFault and Memory nothing is said here.
abbrev pub IsNoVerifyAnswer : Option FileList → Option (List ℕ) → VerifyRequestData → Status → Type 0
IsNoVerifyAnswer files told r (status.FeedRefused f) = GivesDay files r.dir r.date r.options (Err f)
IsNoVerifyAnswer files told r (status.JourneyRefused f) = ClaimRefused files told r f
IsNoVerifyAnswer files told r status.ReadFault = ⊤
IsNoVerifyAnswer files told r status.Memory = ⊤
IsNoVerifyAnswer files told r s = ⊥

-- What is left of a claim's source, and its count of faults, before and now: nothing is taken of it
-- where the feed is refused, or a read failed and it was none of the source.
abbrev pub LeavesClaim : Status → Option (List ℕ) → Option (List ℕ) → ℕ → ℕ → Type 0
LeavesClaim (status.FeedRefused f) before now faults risen = now ≡ before
LeavesClaim status.ReadFault before now faults risen =
    (risen ≡ faults → now ≡ before) × ((bs : List ℕ) × Consumes before now bs)
LeavesClaim s before now faults risen = (bs : List ℕ) × Consumes before now bs

-- How a claim may end where nothing fails outside: by its first fault, or with what is written of
-- it; or for want of memory.
abbrev pub IsClaimEnding : Result ChoiceData JourneyFault → Status → Type 0
IsClaimEnding (Ok claimed) = EndsBy status.Done
IsClaimEnding (Err f) = EndsBy (status.JourneyRefused f)

-- The same of a request: by the feed's first fault; else as the claim over the day's timetable.
abbrev pub IsVerifyEnding : Bool → Option (List ℕ) → Result TimetableData FeedFault → Status
    → Type 0
IsVerifyEnding json told (Ok T) s =
    IfSome told (λ bytes. IsClaimEnding (claim_as json T bytes) s)
IsVerifyEnding json told (Err f) s = EndsBy (status.FeedRefused f) s

-- why a source gives no claim, by its count of faults before and now
abbrev pub IsNoClaim : Bool → TimetableData → Option (List ℕ) → ℕ → ℕ → Status → Type 0
IsNoClaim json T told before now (status.JourneyRefused f) =
    ClaimGives json T told (Err f) × (now ≡ before)
IsNoClaim json T told before now status.ReadFault = before < now
IsNoClaim json T told before now status.Memory = now ≡ before
IsNoClaim json T told before now s = ⊥
