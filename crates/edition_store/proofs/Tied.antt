-- The list after a run is what the history of its events shows.
use Rattle.std.proofs.Common.{◌≡◌, List, [], ◌∷◌, ◌++◌, true, false, refl, sym, ap, ◌∙◌, append_assoc}
use Rattle.std.proofs.lemmas.List.{append-nil}
use Rattle.std.proofs.lemmas.Bool.{false≢true}
use Rattle.history.specs.declared.entry.Event.{Event}
use Rattle.history.specs.declared.entry.Event.TheVariants.{Finish}
use Rattle.history.specs.Lists.{Shown}
use Rattle.edition_store.specs.Steps.{Step, Editions, Runs, starting, after, ends}
use Rattle.edition_store.specs.Steps as core
use Rattle.edition_store.specs.Tied.{events_of, shown_by, IsTied}

module _ {A : Type 0} where
  abbrev joined : Shown A → Shown A → Shown A
  joined s t = record { list = s.list ++ t.list; closed = t.closed }

  -- nothing happens to a closed list
  stays : (s : Editions A) (xs : List (Step A)) → s.now.closed ≡ true → Runs s xs → ((ends s xs).now ≡ s.now) × (events_of xs ≡ [])
  stays s [] c r = (refl, refl)
  stays s (core.Publish e ∷ xs) c r = absurd (false≢true (sym r.0 ∙ c))
  stays s (core.Finish ∷ xs) c r = absurd (false≢true (sym r.0 ∙ c))
  stays s (core.Pin j ∷ xs) c r = stays (after s (core.Pin j)) xs c r.1
  stays s (core.Learn j x ∷ xs) c r = stays (after s (core.Learn j x)) xs c r.1

  grows : (s : Editions A) (xs : List (Step A)) → s.now.closed ≡ false → Runs s xs → (ends s xs).now ≡ joined s.now (shown_by (events_of xs))
  grows s [] o r = λ i. record { list = sym (append-nil s.now.list) i; closed = o i }
  grows s (core.Publish e ∷ xs) o r = grows (after s (core.Publish e)) xs refl r.1 ∙ (λ i. record { list = append_assoc s.now.list (e ∷ []) (shown_by (events_of xs)).list i; closed = (shown_by (events_of xs)).closed })
  grows s (core.Finish ∷ xs) o r = let rest = stays (after s core.Finish) xs refl r.1 in
      rest.0 ∙ (λ i. record { list = sym (append-nil s.now.list) i; closed = true }) ∙ ap (λ (es : List (Event A)). joined s.now (shown_by (Finish ∷ es))) (sym rest.1)
  grows s (core.Pin j ∷ xs) o r = grows (after s (core.Pin j)) xs o r.1
  grows s (core.Learn j x ∷ xs) o r = grows (after s (core.Learn j x)) xs o r.1

  pub tied : (first : A) → IsTied first
  tied first xs r = grows (starting first) xs refl r
