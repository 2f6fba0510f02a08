-- Histories that grow.
use Rattle.std.proofs.Common.{◌≡◌, ℕ, zero, suc, ◌≤◌, ◌⊎◌, List, [], ◌∷◌, ◌++◌, true, false, length, refl, sym, ap, subst, ◌∙◌, arith, inl, inr}
use Rattle.std.proofs.lemmas.Bool.{false≢true}
use mathlib.Core.List.{IsPrefix}
use Rattle.logbook.specs.Pages.{Cell, cell}
use Rattle.history.specs.declared.entry.Event.{Event}
use Rattle.history.specs.declared.entry.Event.TheVariants.{Publish, Finish}
use Rattle.history.specs.declared.entry.Entry.{Entry}
use Rattle.history.specs.Lists.{Shown, Extends}
use Rattle.history.specs.Logs.{put, shown, GoesOn, Legal, Guarded, Turned}
use Rattle.history.proofs.Lists.{extends_self, prefix_total}

module _ {E : Type 0} where
  none : Shown E
  none = record { list = []; closed = false }

  extends_put : (v : Event E) (x y : Shown E) → GoesOn v → Extends y x → Extends (put v y) (put v x)
  extends_put (Publish e) x y g h = (ap (λ (l : List E). e ∷ l) h.0, λ c. ap (λ (s : Shown E). put (Publish e) s) (h.1 c))
  extends_put Finish x y g h = absurd g

  one_begins : (v : Event E) (y : Shown E) → GoesOn v → Extends (put v y) (put v (record { list = []; closed = false }))
  one_begins (Publish e) y g = (refl, λ c. absurd (false≢true c))
  one_begins Finish y g = absurd g

  -- a history extends each beginning of it
  pub legal_extends : (xs ys : List (Entry E)) → IsPrefix xs ys → Legal ys → Extends (shown ys) (shown xs)
  legal_extends [] ys p h = (refl, λ c. absurd (false≢true c))
  legal_extends (x ∷ xs) [] p h = absurd (cc (p.1))
  legal_extends (x ∷ []) (y ∷ []) p h = let same : x ≡ y = cc (p.1) in subst (λ (z : Entry E). Extends (shown (z ∷ [])) (shown (x ∷ []))) same (extends_self _)
  legal_extends (x ∷ x' ∷ xs) (y ∷ []) p h = absurd (cc (p.1))
  legal_extends (x ∷ []) (y ∷ y' ∷ ys) p h = let same : y ≡ x = cc (p.1) in subst (λ (z : Entry E). Extends (shown (y ∷ y' ∷ ys)) (shown (z ∷ []))) same (one_begins y.event (shown (y' ∷ ys)) h.0)
  legal_extends (x ∷ x' ∷ xs) (y ∷ y' ∷ ys) p h = let same : y ≡ x = cc (p.1) in
      let rest : IsPrefix (x' ∷ xs) (y' ∷ ys) = (p.0, cc (p.1)) in
      subst (λ (z : Entry E). Extends (shown (y ∷ y' ∷ ys)) (shown (z ∷ x' ∷ xs))) same (extends_put y.event (shown (x' ∷ xs)) (shown (y' ∷ ys)) h.0 (legal_extends (x' ∷ xs) (y' ∷ ys) rest h.1))

  pub legal_prefix : (xs ys : List (Entry E)) → IsPrefix xs ys → Legal ys → Legal xs
  legal_prefix [] ys p h = tt
  legal_prefix (x ∷ []) ys p h = tt
  legal_prefix (x ∷ x' ∷ xs) [] p h = absurd (cc (p.1))
  legal_prefix (x ∷ x' ∷ xs) (y ∷ []) p h = absurd (cc (p.1))
  legal_prefix (x ∷ x' ∷ xs) (y ∷ y' ∷ ys) p h = let same : y ≡ x = cc (p.1) in
      (subst (λ (z : Entry E). GoesOn z.event) same h.0, legal_prefix (x' ∷ xs) (y' ∷ ys) (p.0, cc (p.1)) h.1)

  -- of two beginnings of one history one extends the other
  pub compared : (xs ys zs : List (Entry E)) → IsPrefix xs zs → IsPrefix ys zs → Legal xs → Legal ys → Extends (shown xs) (shown ys) ⊎ Extends (shown ys) (shown xs)
  compared xs ys zs p q h i = by_length (λ le. inr (legal_extends xs ys (prefix_total xs ys zs p q le) i)) (λ le. inl (legal_extends ys xs (prefix_total ys xs zs q p le) h))
    where
      by_length : {G : Type 0} → (length xs ≤ length ys → G) → (length ys ≤ length xs → G) → G
      by_length f g = total (length xs) (length ys) f g where
        total : {G : Type 0} (n m : ℕ) → (n ≤ m → G) → (m ≤ n → G) → G
        total zero m f g = f (omega arith)
        total (suc n) zero f g = g (omega arith)
        total (suc n) (suc m) f g = total n m (λ le. f (omega arith)) (λ le. g (omega arith))

  goes_on : (v : Event E) (s : Shown E) → (put v s).closed ≡ false → GoesOn v × (s.closed ≡ false)
  goes_on (Publish e) s o = (tt, o)
  goes_on Finish s o = absurd (false≢true (sym o))

  put_more : (v : Event E) (s : Shown E) (e : E) → GoesOn v → put v (record { list = s.list ++ e ∷ []; closed = false }) ≡ record { list = (put v s).list ++ e ∷ []; closed = false }
  put_more (Publish d) s e g = refl
  put_more Finish s e g = absurd g

  put_end : (v : Event E) (s : Shown E) → put v (record { list = s.list; closed = true }) ≡ record { list = (put v s).list; closed = true }
  put_end (Publish d) s = refl
  put_end Finish s = refl

  pub shown_publish : (log : List (Entry E)) (e : E) (k : ℕ) → (shown log).closed ≡ false
      → shown (log ++ record { event = Publish e; key = k } ∷ []) ≡ record { list = (shown log).list ++ e ∷ []; closed = false }
  shown_publish [] e k o = refl
  shown_publish (x ∷ xs) e k o = let g = goes_on x.event (shown xs) o in
      ap (λ (s : Shown E). put x.event s) (shown_publish xs e k g.1) ∙ put_more x.event (shown xs) e g.0

  pub shown_finish : (log : List (Entry E)) (k : ℕ) → shown (log ++ record { event = Finish; key = k } ∷ []) ≡ record { list = (shown log).list; closed = true }
  shown_finish [] k = refl
  shown_finish (x ∷ xs) k = ap (λ (s : Shown E). put x.event s) (shown_finish xs k) ∙ put_end x.event (shown xs)

  pub legal_more : (log : List (Entry E)) (z : Entry E) → (shown log).closed ≡ false → Legal log → Legal (log ++ z ∷ [])
  legal_more [] z o h = tt
  legal_more (x ∷ []) z o h = ((goes_on x.event (shown []) o).0, tt)
  legal_more (x ∷ y ∷ ys) z o h = (h.0, legal_more (y ∷ ys) z (goes_on x.event (shown (y ∷ ys)) o).1 h.1)

  pub guarded_more : (log : List (Entry E)) (z : Entry E) → Guarded z.key (log ++ z ∷ [])
  guarded_more [] z = refl
  guarded_more (x ∷ []) z = refl
  guarded_more (x ∷ y ∷ ys) z = guarded_more (y ∷ ys) z

  pub turned_as : (cs ds : List Cell) (log : List (Entry E)) → ((j : ℕ) → (cell cs j).1 ≡ true → (cell ds j).1 ≡ true) → Turned cs log → Turned ds log
  turned_as cs ds [] up h = tt
  turned_as cs ds (x ∷ []) up h = tt
  turned_as cs ds (x ∷ y ∷ ys) up h = (up x.key h.0, turned_as cs ds (y ∷ ys) up h.1)

  pub turned_more : (cs : List Cell) (log : List (Entry E)) (z : Entry E) (k : ℕ) → Guarded k log → (cell cs k).1 ≡ true → Turned cs log → Turned cs (log ++ z ∷ [])
  turned_more cs [] z k g c h = absurd g
  turned_more cs (x ∷ []) z k g c h = (subst (λ (j : ℕ). (cell cs j).1 ≡ true) (sym g) c, tt)
  turned_more cs (x ∷ y ∷ ys) z k g c h = (h.0, turned_more cs (y ∷ ys) z k g c h.1)

  -- who has the pen of the last entry that was seen has seen all
  pub latest : (cs : List Cell) (v log : List (Entry E)) (k : ℕ) → IsPrefix v log → Guarded k v → (cell cs k).1 ≡ false → Turned cs log → v ≡ log
  latest cs [] log k p g a h = absurd g
  latest cs (x ∷ xs) [] k p g a h = absurd (cc (p.1))
  latest cs (x ∷ []) (y ∷ []) k p g a h = cc (p.1)
  latest cs (x ∷ x' ∷ xs) (y ∷ []) k p g a h = absurd (cc (p.1))
  latest cs (x ∷ []) (y ∷ y' ∷ ys) k p g a h = let same : y ≡ x = cc (p.1) in
      absurd (false≢true (sym a ∙ subst (λ (j : ℕ). (cell cs j).1 ≡ true) (ap (λ (z : Entry E). z.key) same ∙ g) h.0))
  latest cs (x ∷ x' ∷ xs) (y ∷ y' ∷ ys) k p g a h = let rest = latest cs (x' ∷ xs) (y' ∷ ys) k (p.0, cc (p.1)) g a h.1 in cc (p.1, rest)

  -- who has the pen of the last entry knows of no beginning that goes further
  pub extends_known : (cs : List Cell) (v known log : List (Entry E)) (k : ℕ) → IsPrefix v log → IsPrefix known log → Guarded k v → (cell cs k).1 ≡ false → Turned cs log → Legal v
      → Extends (shown v) (shown known)
  extends_known cs v known log k p q g a h legal =
      legal_extends known v (subst (λ (l : List (Entry E)). IsPrefix known l) (sym (latest cs v log k p g a h)) q) legal
