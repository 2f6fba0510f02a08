-- Looks one after another.
use Rattle.std.proofs.Common.{◌≡◌, ◌∙◌, refl, sym, ap, List, ◌++◌, append_assoc, append-nil}
use Rattle.std.specs.Prelude.{Result, Ok, Err}
use Rattle.gtfs_rows.specs.declared.fault.FeedFault.{FeedFault}
use Rattle.gtfs_rows.specs.declared.fault.RowsFault.{RowsFault}
use Rattle.gtfs_rows.specs.declared.fault.RowsFault.TheVariants as why
use Rattle.trip_table.specs.Sieves.{Sieved, ended, silent, after, look_on, and_look, EndsBy}

pub after_twice : {A : Type 0} (before more : List FeedFault) (s : Sieved A) → after before (after more s) ≡ after (before ++ more) s
after_twice before more s = ap (λ l. ended l s.end) (sym (append_assoc before more s.faults))

on_by : {A B : Type 0} (before faults mid : List FeedFault) (end : Result A FeedFault) (x : A) (next : A → Sieved B) → ended (before ++ faults) end ≡ ended mid (Ok x) → after before (look_on faults end next) ≡ after mid (next x)
on_by before faults mid (Ok y) x next e =
    let first : before ++ faults ≡ mid = ap (λ (s : Sieved _). s.faults) e in
    let same : (let r : Result _ FeedFault = Ok y in r) ≡ Ok x = ap (λ (s : Sieved _). s.end) e in
    let here : y ≡ x = cc in
    rw (here, ← first) (after_twice before faults (next x))
on_by before faults mid (Err f) x next e = let no : (let r : Result _ FeedFault = Err f in r) ≡ Ok x = ap (λ (s : Sieved _). s.end) e in absurd (cc)

-- what is left is looked at next
pub on : {A B : Type 0} (before mid : List FeedFault) (s : Sieved A) (x : A) (next : A → Sieved B) → after before s ≡ ended mid (Ok x) → after before (and_look s next) ≡ after mid (next x)
on before mid s x next e = on_by before s.faults mid s.end x next e

stop_by : {A B : Type 0} (before faults mid : List FeedFault) (end : Result A FeedFault) (f : FeedFault) (next : A → Sieved B) → ended (before ++ faults) end ≡ ended mid (Err f) → after before (look_on faults end next) ≡ ended mid (Err f)
stop_by before faults mid (Ok y) f next e = let no : (let r : Result _ FeedFault = Ok y in r) ≡ Err f = ap (λ (s : Sieved _). s.end) e in absurd (cc)
stop_by before faults mid (Err g) f next e =
    let first : before ++ faults ≡ mid = ap (λ (s : Sieved _). s.faults) e in
    let same : (let r : Result _ FeedFault = Err g in r) ≡ Err f = ap (λ (s : Sieved _). s.end) e in
    let here : g ≡ f = cc in
    rw (here, first) refl

-- a fault ends it
pub stop : {A B : Type 0} (before mid : List FeedFault) (s : Sieved A) (f : FeedFault) (next : A → Sieved B) → after before s ≡ ended mid (Err f) → after before (and_look s next) ≡ ended mid (Err f)
stop before mid s f next e = stop_by before s.faults mid s.end f next e

pub stops : {A B : Type 0} (before mid : List FeedFault) (s : Sieved A) (next : A → Sieved B) (f : RowsFault) → EndsBy s before mid f → EndsBy (and_look s next) before mid f
stops before mid s next (why.Feed f) e = stop before mid s f next e
stops before mid s next why.Memory e = tt

-- a look that leaves nothing out
pub silently : {A : Type 0} (before : List FeedFault) (end other : Result A FeedFault) → end ≡ other → after before (silent end) ≡ ended before other
silently before end other e = rw (e, append-nil before) refl

-- what follows ends as all of it does
pub follows : {A B : Type 0} (before mid now : List FeedFault) (s : Sieved A) (x : A) (next : A → Sieved B) (f : RowsFault) → after before s ≡ ended mid (Ok x) → EndsBy (next x) mid now f → EndsBy (and_look s next) before now f
follows before mid now s x next (why.Feed f) e h = on before mid s x next e ∙ h
follows before mid now s x next why.Memory e h = tt
