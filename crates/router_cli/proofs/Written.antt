-- What is written of the text for a request, and how the program ends then.
use Rattle.std.proofs.Common.{◌≡◌, ◌∙◌, ℕ, ◌⊎◌, inl, inr, List, Option, Some, None, Result, Ok, Err, ap, subst, sym}
use Rattle.std.specs.Prelude.{IfErr, IfOk, MatchResult, Vec}
use Rattle.std.specs.Global.{Global}
use Rattle.gtfs_rows.specs.declared.fault.FeedFault.{FeedFault}
use Rattle.tb_io.specs.Files.{FileList}
use Rattle.command_line.specs.declared.request.Request.{Request}
use Rattle.command_line.specs.declared.request.Request.TheVariants as request
use Rattle.lane_serve.specs.declared.script.ScriptFault.{ScriptFault}
use Rattle.router_cli.proofs.Matrices.{origins_in_part}
use Rattle.router_cli.specs.Outcome.{IsUnwritten, Writes, WritesText, status_of_text}
use Rattle.router_cli.specs.Promise.{HasReadBehind, IsNoRequestAnswer, IsRequestAnswer, IsRequestOutcome, LeavesScript, ReadsBehind, TellsFirst}
use Rattle.router_cli.specs.declared.status.Status.{Status}
use Rattle.router_cli.specs.declared.status.Status.TheVariants as status

-- a text, or why there is none
abbrev pub Text : Type 0
Text = Result (Vec ℕ Global) Status

-- what writing a text makes of it, by the status that it ends with
abbrev pub IsWritten : Text → Status → Option (List ℕ) → Option (List ℕ) → Type 0
IsWritten text s before now = MatchResult text (λ v. WritesText v.items s before now) (λ why. s ≡ why)

-- no request is without a text for these reasons
no_usage : (files : Option FileList) (told : Option (List ℕ)) (r : Request) → IsNoRequestAnswer files told r status.Usage → ⊥
no_usage files told (request.Day r) h = h
no_usage files told (request.Serve r) h = h
no_usage files told (request.Live r) h = h
no_usage files told (request.Matrix r) h = h
no_usage files told (request.Check r) h = h
no_usage files told (request.City r) h = h
no_usage files told (request.Verify r) h = h
no_usage files told (request.Late r) h = h

not_done : (files : Option FileList) (told : Option (List ℕ)) (r : Request) → IsNoRequestAnswer files told r status.Done → ⊥
not_done files told (request.Day r) h = h
not_done files told (request.Serve r) h = h
not_done files told (request.Live r) h = h
not_done files told (request.Matrix r) h = h
not_done files told (request.Check r) h = h
not_done files told (request.City r) h = h
not_done files told (request.Verify r) h = h
not_done files told (request.Late r) h = h

not_begun : (files : Option FileList) (told : Option (List ℕ)) (r : Request) → IsNoRequestAnswer files told r status.WriteFault → ⊥
not_begun files told (request.Day r) h = h
not_begun files told (request.Serve r) h = h
not_begun files told (request.Live r) h = h
not_begun files told (request.Matrix r) h = h
not_begun files told (request.Check r) h = h
not_begun files told (request.City r) h = h
not_begun files told (request.Verify r) h = h
not_begun files told (request.Late r) h = h

not_found : (files : Option FileList) (told : Option (List ℕ)) (r : Request) → IsNoRequestAnswer files told r status.FaultsFound → ⊥
not_found files told (request.Day r) h = h
not_found files told (request.Serve r) h = h
not_found files told (request.Live r) h = h
not_found files told (request.Matrix r) h = h
not_found files told (request.Check r) h = h
not_found files told (request.City r) h = h
not_found files told (request.Verify r) h = h
not_found files told (request.Late r) h = h

unwritten : (files : Option FileList) (told : Option (List ℕ)) (r : Request) (s : Status) → IsNoRequestAnswer files told r s → IsUnwritten s
unwritten files told r status.Done h = not_done files told r h
unwritten files told r status.WriteFault h = not_begun files told r h
unwritten files told r status.Usage h = tt
unwritten files told r (status.FeedRefused f) h = tt
unwritten files told r status.ReadFault h = tt
unwritten files told r status.Memory h = tt
unwritten files told r (status.ScriptRefused f) h = tt
unwritten files told r (status.LateRefused f) h = tt
unwritten files told r (status.JourneyRefused f) h = tt
unwritten files told r status.FaultsFound h = absurd (not_found files told r h)

pub none_written : (files : Option FileList) (told : Option (List ℕ)) (r : Request) (text : Text) → IfErr text (IsNoRequestAnswer files told r) → IfErr text IsUnwritten
none_written files told r (Ok v) h = tt
none_written files told r (Err why) h = unwritten files told r why h

-- what is said of a text of a kind, and of why there is none
with_text : (IsText : List ℕ → Type 0) (Comes : Status → Type 0) (bytes : List ℕ) (s : Status) (before now : Option (List ℕ)) →
    IsText bytes → WritesText bytes s before now → Writes IsText Comes s before now
with_text IsText Comes bytes status.Done before now is added = (bytes, is, added)
with_text IsText Comes bytes status.WriteFault before now is (n, few, added) = (bytes, n, is, few, added)
with_text IsText Comes bytes status.Usage before now is h = absurd h
with_text IsText Comes bytes (status.FeedRefused f) before now is h = absurd h
with_text IsText Comes bytes status.ReadFault before now is h = absurd h
with_text IsText Comes bytes status.Memory before now is h = absurd h
with_text IsText Comes bytes (status.ScriptRefused f) before now is h = absurd h
with_text IsText Comes bytes (status.LateRefused f) before now is h = absurd h
with_text IsText Comes bytes (status.JourneyRefused f) before now is h = absurd h
with_text IsText Comes bytes status.FaultsFound before now is h = absurd h

without_text : (IsText : List ℕ → Type 0) (Comes : Status → Type 0) (s : Status) (before now : Option (List ℕ)) →
    IsUnwritten s → Comes s → Writes IsText Comes s before now
without_text IsText Comes status.Done before now none comes = absurd none
without_text IsText Comes status.WriteFault before now none comes = absurd none
without_text IsText Comes status.Usage before now none comes = comes
without_text IsText Comes (status.FeedRefused f) before now none comes = comes
without_text IsText Comes status.ReadFault before now none comes = comes
without_text IsText Comes status.Memory before now none comes = comes
without_text IsText Comes (status.ScriptRefused f) before now none comes = comes
without_text IsText Comes (status.LateRefused f) before now none comes = comes
without_text IsText Comes (status.JourneyRefused f) before now none comes = comes
without_text IsText Comes status.FaultsFound before now none comes = absurd none

-- the outcome of a request by its text, by what is said of such a text and of why there is none
promised_by : (IsText : List ℕ → Type 0) (Comes : Status → Type 0) (text : Text) (s : Status) (before now : Option (List ℕ)) → IfErr text IsUnwritten →
    IfOk text (λ v. IsText v.items) → IfErr text Comes → IsWritten text s before now → Writes IsText Comes s before now
promised_by IsText Comes (Ok v) s before now none is refused written = with_text IsText Comes v.items s before now is written
promised_by IsText Comes (Err why) s before now none is refused same =
    subst (λ x. Writes IsText Comes x before now) (sym same) (without_text IsText Comes why before now none refused)

no_text : {A : Type 0} (text : Text) → IfOk text (λ v. ⊥) → IfErr text (λ s. ⊥) → A
no_text (Ok v) is refused = absurd is
no_text (Err why) is refused = absurd refused

-- the outcome of a request by its text
pub promised : (files : Option FileList) (faults risen : ℕ) (told left : Option (List ℕ)) (r : Request) (text : Text) (s : Status) (before now : Option (List ℕ)) →
    IfOk text (λ v. IsRequestAnswer files told r v.items) → IfErr text (IsNoRequestAnswer files told r) → IsWritten text s before now →
    IsRequestOutcome files faults risen told left r s before now
promised files faults risen told left r text s before now is refused written = by r (none_written files told r text refused) is refused where
  by : (q : Request) → IfErr text IsUnwritten → IfOk text (λ v. IsRequestAnswer files told q v.items) → IfErr text (IsNoRequestAnswer files told q) →
      IsRequestOutcome files faults risen told left q s before now
  by (request.Live q) none is refused = no_text text is refused
  by (request.Matrix q) none is refused = no_text text is refused
  by (request.Check q) none is refused = no_text text is refused
  by (request.Day q) none is refused = promised_by (IsRequestAnswer files told (request.Day q)) (IsNoRequestAnswer files told (request.Day q)) text s before now none is refused written
  by (request.Serve q) none is refused = promised_by (IsRequestAnswer files told (request.Serve q)) (IsNoRequestAnswer files told (request.Serve q)) text s before now none is refused written
  by (request.City q) none is refused = promised_by (IsRequestAnswer files told (request.City q)) (IsNoRequestAnswer files told (request.City q)) text s before now none is refused written
  by (request.Verify q) none is refused = promised_by (IsRequestAnswer files told (request.Verify q)) (IsNoRequestAnswer files told (request.Verify q)) text s before now none is refused written
  by (request.Late q) none is refused = promised_by (IsRequestAnswer files told (request.Late q)) (IsNoRequestAnswer files told (request.Late q)) text s before now none is refused written

-- what is not said of a text and of its first part, is said of why there is none
why_none : (text : Text) (s why : Status) (before now : Option (List ℕ)) → ((bytes : List ℕ) → WritesText bytes why before now → ⊥) →
    IsWritten text s before now → s ≡ why → text ≡ Err why
why_none (Ok v) s why before now none written is = absurd (none v.items (subst (λ x. WritesText v.items x before now) is written))
why_none (Err other) s why before now none same is = ap Err (sym same ∙ is)

pub unread_text : (text : Text) (s : Status) (before now : Option (List ℕ)) → IsWritten text s before now → s ≡ status.ReadFault → text ≡ Err status.ReadFault
unread_text text s before now written is = why_none text s status.ReadFault before now (λ bytes h. h) written is

pub ends_unread : (text : Text) (s : Status) (before now : Option (List ℕ)) → IsWritten text s before now → text ≡ Err status.ReadFault → s ≡ status.ReadFault
ends_unread (Ok v) s before now written is = cc
ends_unread (Err why) s before now same is = cc

-- words that have a meaning don't end as those that have none
pub has_meaning : (files : Option FileList) (told : Option (List ℕ)) (r : Request) (text : Text) (s : Status) (before now : Option (List ℕ)) →
    IfErr text (IsNoRequestAnswer files told r) → IsWritten text s before now → s ≡ status.Usage → ⊥
has_meaning files told r text s before now refused written is =
    let none : text ≡ Err status.Usage = why_none text s status.Usage before now (λ bytes h. h) written is in
    no_usage files told r (subst (λ t. IfErr t (IsNoRequestAnswer files told r)) none refused)

-- what holds of a text that is written whole, and also where it is written in part
pub at_end : (P : Status → Type 0) (text : Text) (s : Status) (before now : Option (List ℕ)) → (P status.Done → P status.WriteFault) → IsWritten text s before now →
    P (status_of_text text) → P s
at_end P (Err why) s before now part same h = subst P (sym same) h
at_end P (Ok v) status.Done before now part written h = h
at_end P (Ok v) status.WriteFault before now part written h = part h
at_end P (Ok v) status.Usage before now part written h = absurd written
at_end P (Ok v) (status.FeedRefused f) before now part written h = absurd written
at_end P (Ok v) status.ReadFault before now part written h = absurd written
at_end P (Ok v) status.Memory before now part written h = absurd written
at_end P (Ok v) (status.ScriptRefused f) before now part written h = absurd written
at_end P (Ok v) (status.LateRefused f) before now part written h = absurd written
at_end P (Ok v) (status.JourneyRefused f) before now part written h = absurd written
at_end P (Ok v) status.FaultsFound before now part written h = absurd written

not_refused : (f : ScriptFault) → (status.Done ≡ status.ScriptRefused f) ⊎ (status.Done ≡ status.Memory) → ⊥
not_refused f (inl is) = cc
not_refused f (inr is) = cc

pub first_in_part : (told : Option (List ℕ)) (r : Request) → TellsFirst told r status.Done → TellsFirst told r status.WriteFault
first_in_part told (request.Day r) h = h
first_in_part told (request.Live r) h = h
first_in_part told (request.Matrix r) h = h
first_in_part told (request.City r) h = h
first_in_part told (request.Check r) h = h
first_in_part told (request.Verify r) h = h
first_in_part told (request.Late r) h = h
first_in_part None (request.Serve r) h = tt
first_in_part (Some bytes) (request.Serve r) h = λ f is. absurd (not_refused f (h f is))

left_in_part : (r : Request) (before now : Option (List ℕ)) (faults risen : ℕ) → LeavesScript (Some r) status.Done before now faults risen →
    LeavesScript (Some r) status.WriteFault before now faults risen
left_in_part (request.Day r) before now faults risen h = h
left_in_part (request.Serve r) before now faults risen h = h
left_in_part (request.Live r) before now faults risen h = h
left_in_part (request.Matrix r) before now faults risen h = origins_in_part r.origins before now faults risen h
left_in_part (request.City r) before now faults risen h = h
left_in_part (request.Check r) before now faults risen h = h
left_in_part (request.Verify r) before now faults risen h = h
left_in_part (request.Late r) before now faults risen h = h

pub left_at_end : (r : Request) (text : Text) (s : Status) (before now left left_now : Option (List ℕ)) (faults risen : ℕ) → IsWritten text s before now →
    LeavesScript (Some r) (status_of_text text) left left_now faults risen → LeavesScript (Some r) s left left_now faults risen
left_at_end r text s before now left left_now faults risen written h =
    at_end (λ (x : Status). LeavesScript (Some r) x left left_now faults risen) text s before now (left_in_part r left left_now faults risen) written h

-- a count stands where no read failed
pub read_or_kept : {Kept : Type 0} (text : Text) (s : Status) (before now : Option (List ℕ)) → IsWritten text s before now →
    (text ≡ Err status.ReadFault) ⊎ Kept → (s ≡ status.ReadFault) ⊎ Kept
read_or_kept text s before now written (inl failed) = inl (ends_unread text s before now written failed)
read_or_kept text s before now written (inr kept) = inr kept

-- what holds unless a read failed holds where a feed is refused
pub at_refusal : {Kept : Type 0} (s : Status) (f : FeedFault) → (s ≡ status.ReadFault) ⊎ Kept → s ≡ status.FeedRefused f → Kept
at_refusal s f (inl failed) is = absurd (cc (sym failed ∙ is))
at_refusal s f (inr kept) is = kept

-- what holds of a request whose text is gathered
pub or_live : {A B Live : Type 0} → A ⊎ B → A ⊎ B ⊎ Live
or_live (inl a) = inl a
or_live (inr b) = inr (inl b)

-- what holds where a source failed, of a request whose text is gathered
pub read_behind : (files : Option FileList) (told left : Option (List ℕ)) (r : Request) (text : Text) (before now : Option (List ℕ)) →
    IfOk text (λ v. IsRequestAnswer files told r v.items) → IfErr text (IsNoRequestAnswer files told r) → ReadsBehind files r → HasReadBehind files told left r before now
read_behind files told left (request.Live q) text before now is refused h = no_text text is refused
read_behind files told left (request.Matrix q) text before now is refused h = no_text text is refused
read_behind files told left (request.Check q) text before now is refused h = no_text text is refused
read_behind files told left (request.Day q) text before now is refused h = h
read_behind files told left (request.Serve q) text before now is refused h = h
read_behind files told left (request.City q) text before now is refused h = h
read_behind files told left (request.Verify q) text before now is refused h = h
read_behind files told left (request.Late q) text before now is refused h = h

-- what holds where a text is there, holds where it was written whole
pub where_done : (P : Type 0) (text : Text) (s : Status) (before now : Option (List ℕ)) → IfErr text IsUnwritten → IsWritten text s before now →
    IfOk text (λ v. P) → s ≡ status.Done → P
where_done P (Ok v) s before now none written h is = h
where_done P (Err why) s before now none same h is = absurd (subst IsUnwritten (sym same ∙ is) none)
