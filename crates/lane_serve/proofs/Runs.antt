-- A lane's run and its closing replies grow by one reply, and stay right over a longer list.
use Rattle.std.proofs.Common.{◌≡◌, ℕ, zero, suc, ◌+◌, ◌-◌, ◌<◌, ◌≤◌, List, [], ◌∷◌, ◌++◌, Bool, true, false, take, length, get_or, refl, sym, ap, subst, ◌∙◌, if◌then◌else◌, arith}
use Rattle.std.specs.Prelude.{All}
use Rattle.std.proofs.lemmas.List.{append-nil, take_all, take_more, length-take}
use Rattle.std.proofs.lemmas.List.Elements.{All-push}
use Rattle.history.specs.Lists.{Shown, StartsWith}
use Rattle.query_gate.proofs.Longer.{starts_get}
use Rattle.edition_store.specs.Editions.{EditionData}
use Rattle.query_gate.specs.declared.said.Line.{Line}
use Rattle.lane_serve.specs.declared.lane.ReplyText.{ReplyText}
use Rattle.lane_serve.specs.Lanes.{Due, IsRequestAnswered, RunsFrom, IsLaneRun, IsClosing, is_due, to_close}

get_or_default : {A : Type 0} (xs : List A) (i : ℕ) (d e : A) → i < length xs → get_or xs i d ≡ get_or xs i e
get_or_default [] i d e lt = absurd (omega arith)
get_or_default (x ∷ xs) zero d e lt = refl
get_or_default (x ∷ xs) (suc i) d e lt = get_or_default xs i d e (omega arith)

starts_length : {A : Type 0} (ys xs : List A) → StartsWith ys xs → length xs ≤ length ys
starts_length ys xs h = omega (arith, length-take (length xs) ys, sym (ap length h))

answered_more : (fs es : List EditionData) → StartsWith fs es → (q : Line) (r : ReplyText) → IsRequestAnswered es q r → IsRequestAnswered fs q r
answered_more fs es s q r h = record {
  by = h.by;
  edition = (h.edition.0, starts_get fs es (r.edition - 1) h.by s h.edition.1);
  reply = h.reply;
  right = h.right;
  text = h.text;
}

pub runs_more : (fs es : List EditionData) → StartsWith fs es → (k least : ℕ) (qs : List Line) (rs : List ReplyText) → RunsFrom es k least qs rs → RunsFrom fs k least qs rs
runs_more fs es s k least [] [] h = tt
runs_more fs es s k least [] (r ∷ rs) h = absurd h
runs_more fs es s k least (q ∷ qs) [] h = absurd h
runs_more fs es s k least (q ∷ qs) (r ∷ rs) h = (h.0, h.1, answered_more fs es s q r h.2, runs_more fs es s (k + 1) r.edition qs rs h.3)

-- the edition of the last reply
abbrev pub last_edition : ℕ → List ReplyText → ℕ
last_edition least [] = least
last_edition least (r ∷ rs) = last_edition r.edition rs

last_of_more : (least : ℕ) (rs : List ReplyText) (r : ReplyText) → last_edition least (rs ++ r ∷ []) ≡ r.edition
last_of_more least [] r = refl
last_of_more least (q ∷ rs) r = last_of_more q.edition rs r

runs_snoc : (es : List EditionData) (k least : ℕ) (qs : List Line) (rs : List ReplyText) (q : Line) (r : ReplyText) → RunsFrom es k least qs rs
    → r.line ≡ k + length qs → last_edition least rs ≤ r.edition → IsRequestAnswered es q r → RunsFrom es k least (qs ++ q ∷ []) (rs ++ r ∷ [])
runs_snoc es k least [] [] q r h l le a = (omega arith, le, a, tt)
runs_snoc es k least [] (p ∷ rs) q r h l le a = absurd h
runs_snoc es k least (o ∷ qs) [] q r h l le a = absurd h
runs_snoc es k least (o ∷ qs) (p ∷ rs) q r h l le a = (h.0, h.1, h.2, runs_snoc es (k + 1) p.edition qs rs q r h.3 (omega arith) le a)

pub runs_length : (es : List EditionData) (k least : ℕ) (qs : List Line) (rs : List ReplyText) → RunsFrom es k least qs rs → length rs ≡ length qs
runs_length es k least [] [] h = refl
runs_length es k least [] (r ∷ rs) h = absurd h
runs_length es k least (q ∷ qs) [] h = absurd h
runs_length es k least (q ∷ qs) (r ∷ rs) h = ap suc (runs_length es (k + 1) r.edition qs rs h.3)

-- what a lane's loop keeps: a run over the list that the caller keeps, which has these editions
pub record IsSoFar (es : List EditionData) (requests : List Line) (i : ℕ) (replies : List ReplyText) : Type 0 where
  pub run : RunsFrom es 1 0 (take i requests) replies
  pub at_most : last_edition 0 replies ≤ length es

pub so_far_more : (fs es : List EditionData) → StartsWith fs es → (requests : List Line) (i : ℕ) (d : Line) (replies : List ReplyText) (r : ReplyText)
    → IsSoFar es requests i replies → i < length requests → r.line ≡ i + 1 → r.edition ≡ length fs → IsRequestAnswered fs (get_or requests i d) r → IsSoFar fs requests (i + 1) (replies ++ r ∷ [])
so_far_more fs es s requests i d replies r h lt l n a =
    let q = get_or requests i d in
    let here : length (take i requests) ≡ i = omega (arith, length-take i requests) in
    let le = starts_length fs es s in
    let most = h.at_most in
    let step = runs_snoc fs 1 0 (take i requests) replies q r (runs_more fs es s 1 0 (take i requests) replies h.run) (omega arith) (omega arith) a in
    record {
      run = subst (λ l. RunsFrom fs 1 0 l (replies ++ r ∷ [])) (sym (take_more requests i d lt)) step;
      at_most = omega (arith, last_of_more 0 replies r);
    }

pub so_far_longer : (es : List EditionData) (requests : List Line) (i : ℕ) (replies : List ReplyText) → length requests ≤ i → IsSoFar es requests i replies → (fs : List EditionData) → StartsWith fs es → IsLaneRun fs requests replies
so_far_longer es requests i replies le h fs s = runs_more fs es s 1 0 requests replies (subst (λ l. RunsFrom es 1 0 l replies) (take_all i requests le) h.run)

-- one more reply, by the last edition of a list that begins with this one, is no earlier than it
pub since_more : (fs es : List EditionData) → StartsWith fs es → (rs : List ReplyText) (r : ReplyText) → All (λ (p : ReplyText). length es ≤ p.edition) rs → r.edition ≡ length fs → All (λ (p : ReplyText). length es ≤ p.edition) (rs ++ r ∷ [])
since_more fs es s rs r h n =
    let le = starts_length fs es s in
    All-push (λ (p : ReplyText). length es ≤ p.edition) rs r h (omega arith)

closing_snoc : (es : List EditionData) (ds : List Due) (cs : List ReplyText) (d : Due) (c : ReplyText) → IsClosing es ds cs
    → c.line ≡ d.line → c.edition ≡ length es → IsRequestAnswered es d.request c → IsClosing es (ds ++ d ∷ []) (cs ++ c ∷ [])
closing_snoc es [] [] d c h l n a = (l, n, a, tt)
closing_snoc es [] (x ∷ cs) d c h l n a = absurd h
closing_snoc es (p ∷ ds) [] d c h l n a = absurd h
closing_snoc es (p ∷ ds) (x ∷ cs) d c h l n a = (h.0, h.1, h.2, closing_snoc es ds cs d c h.3 l n a)

if_more : {A : Type 0} (b : Bool) (x : A) (xs ys : List A) → (if b then x ∷ (xs ++ ys) else (xs ++ ys)) ≡ (if b then x ∷ xs else xs) ++ ys
if_more true x xs ys = refl
if_more false x xs ys = refl

abbrev pub one_if : Bool → Due → List Due
one_if true d = d ∷ []
one_if false d = []

if_one : (b : Bool) (d : Due) → (if b then d ∷ [] else []) ≡ one_if b d
if_one true d = refl
if_one false d = refl

-- request k of a lane
abbrev pub due_at : ℕ → Line → Due
due_at k q = record { line = k; request = q }

to_close_snoc : (k : ℕ) (qs : List Line) (rs : List ReplyText) (q : Line) (r : ReplyText) → length rs ≡ length qs
    → to_close k (qs ++ q ∷ []) (rs ++ r ∷ []) ≡ to_close k qs rs ++ one_if (is_due (k + length qs) q r) (due_at (k + length qs) q)
to_close_snoc k [] [] q r e = let z : k + 0 ≡ k = omega arith in rw z (if_one (is_due k q r) (due_at k q))
to_close_snoc k [] (p ∷ rs) q r e = absurd (omega arith)
to_close_snoc k (o ∷ qs) [] q r e = absurd (omega arith)
to_close_snoc k (o ∷ qs) (p ∷ rs) q r e =
    let z : k + suc (length qs) ≡ k + 1 + length qs = omega arith in
    let rest = to_close_snoc (k + 1) qs rs q r (omega arith) in
    let b = is_due k o p in
    ap (λ l. if b then due_at k o ∷ l else l) rest
    ∙ if_more b (due_at k o) (to_close (k + 1) qs rs) (one_if (is_due (k + 1 + length qs) q r) (due_at (k + 1 + length qs) q))
    ∙ ap (λ n. (if b then due_at k o ∷ to_close (k + 1) qs rs else to_close (k + 1) qs rs) ++ one_if (is_due n q r) (due_at n q)) (sym z)

-- request i from 0 is request i + 1 of its lane
close_at : (requests : List Line) (replies : List ReplyText) (i : ℕ) (d : Line) (e : ReplyText) → length replies ≡ length requests → i < length requests
    → to_close 1 (take (i + 1) requests) (take (i + 1) replies) ≡ to_close 1 (take i requests) (take i replies)
    ++ one_if (is_due (i + 1) (get_or requests i d) (get_or replies i e)) (due_at (i + 1) (get_or requests i d))
close_at requests replies i d e same lt =
    let q = get_or requests i d in
    let r = get_or replies i e in
    let here : length (take i requests) ≡ i = omega (arith, length-take i requests) in
    let there : length (take i replies) ≡ i = omega (arith, length-take i replies) in
    let step = to_close_snoc 1 (take i requests) (take i replies) q r (there ∙ sym here) in
    let at : 1 + length (take i requests) ≡ i + 1 = omega arith in
    ap (λ l. to_close 1 l (take (i + 1) replies)) (take_more requests i d lt)
    ∙ ap (λ l. to_close 1 (take i requests ++ q ∷ []) l) (take_more replies i e (omega arith)) ∙ step
    ∙ ap (λ n. to_close 1 (take i requests) (take i replies) ++ one_if (is_due n q r) (due_at n q)) at

-- where the caller keeps the whole list: a request that is due is answered once more
pub closing_then : (es : List EditionData) (now : Shown EditionData) → now ≡ record { list = es; closed = true } → (requests : List Line) (replies : List ReplyText) (i : ℕ) (d : Line) (e : ReplyText) (cs : List ReplyText) (c : ReplyText) → length replies ≡ length requests → i < length requests
    → is_due (i + 1) (get_or requests i d) (get_or replies i e) ≡ true → IsClosing es (to_close 1 (take i requests) (take i replies)) cs → c.line ≡ i + 1 → c.edition ≡ length now.list → IsRequestAnswered now.list (get_or requests i d) c
    → IsClosing es (to_close 1 (take (i + 1) requests) (take (i + 1) replies)) (cs ++ c ∷ [])
closing_then es now same requests replies i d e cs c long lt due h l n a =
    let at = close_at requests replies i d e long lt ∙ ap (λ b. to_close 1 (take i requests) (take i replies) ++ one_if b (due_at (i + 1) (get_or requests i d))) due in
    subst (λ k. IsClosing es k (cs ++ c ∷ [])) (sym at)
    (closing_snoc es (to_close 1 (take i requests) (take i replies)) cs (due_at (i + 1) (get_or requests i d)) c h l
    (n ∙ ap (λ (s : Shown EditionData). length s.list) same)
    (subst (λ (s : Shown EditionData). IsRequestAnswered s.list (get_or requests i d) c) same a))

-- and one that isn't due is not
pub closing_else : (es : List EditionData) (requests : List Line) (replies : List ReplyText) (i : ℕ) (d : Line) (e : ReplyText) (cs : List ReplyText) → length replies ≡ length requests → i < length requests
    → is_due (i + 1) (get_or requests i d) (get_or replies i e) ≡ false → IsClosing es (to_close 1 (take i requests) (take i replies)) cs
    → IsClosing es (to_close 1 (take (i + 1) requests) (take (i + 1) replies)) cs
closing_else es requests replies i d e cs long lt due h =
    let at = close_at requests replies i d e long lt ∙ ap (λ b. to_close 1 (take i requests) (take i replies) ++ one_if b (due_at (i + 1) (get_or requests i d))) due ∙ append-nil (to_close 1 (take i requests) (take i replies)) in
    subst (λ k. IsClosing es k cs) (sym at) h

-- the same request, as it was read
pub read_as : (es : List EditionData) (p q : Line) (r : ReplyText) → p ≡ q → IsRequestAnswered es p r → IsRequestAnswered es q r
read_as es p q r e h = subst (λ k. IsRequestAnswered es k r) e h

pub due_as : (k : ℕ) (p q : Line) (r s : ReplyText) (b : Bool) → p ≡ q → r ≡ s → is_due k p r ≡ b → is_due k q s ≡ b
due_as k p q r s b e f h = subst (λ x. is_due k x s ≡ b) e (subst (λ y. is_due k p y ≡ b) f h)

pub read_again : {A : Type 0} (xs : List A) (i : ℕ) (d e : A) → i < length xs → e ≡ get_or xs i e → e ≡ get_or xs i d
read_again xs i d e lt is = is ∙ get_or_default xs i e d lt
