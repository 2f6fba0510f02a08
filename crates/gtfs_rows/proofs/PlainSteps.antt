-- The steps of the machine that reads records, over text without quotes.
use Rattle.std.proofs.Common.{◌≡◌, ◌≢◌, ◌∙◌, sym, ap, subst, refl, ℕ, zero, suc, ◌+◌, ◌-◌, ◌<◌, ◌≤◌, List, [], ◌∷◌, ◌++◌, length, take, drop, get_or, Option, Some, None, Bool, true, false, arith, inl, inr, length-drop, get_or-drop}
use Rattle.std.specs.Prelude.{◌==◌, ◌||◌, if◌then◌else◌}
use Rattle.std.proofs.lemmas.Bool.{cases_Bool, false≢true}
use Rattle.std.proofs.lemmas.Bool.Decides.{eqb_tells}
use Rattle.std.proofs.lemmas.List.{take_more, drop_more, take_rest, drop_all}
use Rattle.std.proofs.lemmas.List.Elements.{All-head, All-drop}
use Rattle.csv.specs.Machine.{Read, next_record, ends_at_end}
use Rattle.csv.specs.Reading.{default_config, records_from}
use Rattle.csv.specs.declared.parser.State.{State}
use Rattle.csv.specs.declared.parser.State.TheVariants as st
use Rattle.gtfs_rows.specs.Records.{Record}
use Rattle.gtfs_rows.specs.PlainText.{IsNoQuote, IsUnquoted, is_line_end, skip_line_ends, starts_record, records_of}
use Rattle.gtfs_rows.proofs.Stream.{remaining, remaining_some, remaining_none}

pub same_byte : (a b : ℕ) → a ≡ b → (a == b) ≡ true
same_byte a b e = elim (eqb_tells a b) [ inl p ↦ p.0 | inr p ↦ absurd (p.1 e) ]

pub other_byte : (a b : ℕ) → a ≢ b → (a == b) ≡ false
other_byte a b n = elim (eqb_tells a b) [ inl p ↦ absurd (n p.1) | inr p ↦ p.0 ]

-- what is left to read goes by the next record
same_left : (s t : State) (xs ys : List ℕ) (o : Option Read) → ends_at_end s ≡ false → ends_at_end t ≡ false
    → next_record default_config s [] [] xs ≡ o → next_record default_config t [] [] ys ≡ o → remaining default_config s xs ≡ remaining default_config t ys
same_left s t xs ys None p q e f = remaining_none default_config s xs e ∙ sym (remaining_none default_config t ys f)
same_left s t xs ys (Some r) p q e f = (remaining_some default_config s xs r p e).0 ∙ sym (remaining_some default_config t ys r q f).0

pub no_records : records_of [] ≡ []
unfolding records_from next_record
no_records = refl

-- a line end before a record is passed over
line_end_passed : (b : ℕ) (rest : List ℕ) → is_line_end b ≡ true → next_record default_config st.StartRecord [] [] (b ∷ rest) ≡ next_record default_config st.StartRecord [] [] rest
unfolding next_record
line_end_passed b rest e = rw e refl

pub skipped : (xs : List ℕ) → records_of (skip_line_ends xs) ≡ records_of xs
skipped [] = refl
skipped (b ∷ rest) =
    elim (cases_Bool (is_line_end b)) [
      | inl t ↦ rw t (skipped rest ∙ same_left st.StartRecord st.StartRecord rest (b ∷ rest) (next_record default_config st.StartRecord [] [] rest) refl refl refl (line_end_passed b rest t))
      | inr f ↦ rw f refl
    ]

pub starts : (xs : List ℕ) → skip_line_ends xs ≢ [] → starts_record (skip_line_ends xs) ≡ true
starts [] some = absurd (some refl)
starts (b ∷ rest) some =
    elim (cases_Bool (is_line_end b)) [
      | inl t ↦ rw t (starts rest (rw t at some))
      | inr f ↦ rw (f, f) refl
    ]

pub skip_unquoted : (xs : List ℕ) → IsUnquoted xs → IsUnquoted (skip_line_ends xs)
skip_unquoted [] q = q
skip_unquoted (b ∷ rest) q =
    elim (cases_Bool (is_line_end b)) [
      | inl t ↦ rw t (skip_unquoted rest (All-drop IsNoQuote 1 (b ∷ rest) q))
      | inr f ↦ rw f q
    ]

-- behind a carriage return records are read as at a text's start
or_true : (x : Bool) → (x || true) ≡ true
or_true true = refl
or_true false = refl

feed_passed : (b : ℕ) (rest : List ℕ) → (b == 10) ≡ true → next_record default_config st.AfterCr [] [] (b ∷ rest) ≡ next_record default_config st.StartRecord [] [] rest
unfolding next_record
feed_passed b rest e = rw e refl

other_passed : (b : ℕ) (rest : List ℕ) → (b == 10) ≡ false → next_record default_config st.AfterCr [] [] (b ∷ rest) ≡ next_record default_config st.StartRecord [] [] (b ∷ rest)
unfolding next_record
other_passed b rest e = rw e refl

after_return : (xs : List ℕ) → next_record default_config st.AfterCr [] [] xs ≡ next_record default_config st.StartRecord [] [] xs
unfolding next_record
after_return [] = refl
after_return (b ∷ rest) =
    elim (cases_Bool (b == 10)) [
      | inl t ↦ feed_passed b rest t ∙ sym (line_end_passed b rest (rw t (or_true (b == 13))))
      | inr f ↦ other_passed b rest f
    ]

behind_line : (r : Bool) (xs : List ℕ) → remaining default_config (if r then st.AfterCr else st.StartRecord) xs ≡ records_of xs
behind_line true xs = same_left st.AfterCr st.StartRecord xs xs (next_record default_config st.StartRecord [] [] xs) refl refl (after_return xs) refl
behind_line false xs = refl

module _ (fields : Record) (field : List ℕ) where
  -- a byte of a field joins it
  joins : (b : ℕ) (rest : List ℕ) → (b == 44) ≡ false → is_line_end b ≡ false → next_record default_config st.InField fields field (b ∷ rest) ≡ next_record default_config st.InField fields (field ++ b ∷ []) rest
  unfolding next_record
  joins b rest c e = rw (c, e) refl

  field_ends : (b : ℕ) (rest : List ℕ) → (b == 44) ≡ true → next_record default_config st.InField fields field (b ∷ rest) ≡ next_record default_config st.StartField (fields ++ field ∷ []) [] rest
  unfolding next_record
  field_ends b rest c = rw c refl

  line_ends : (b : ℕ) (rest : List ℕ) → (b == 44) ≡ false → is_line_end b ≡ true
      → next_record default_config st.InField fields field (b ∷ rest) ≡ Some (fields ++ field ∷ [], if b == 13 then st.AfterCr else st.StartRecord, rest)
  unfolding next_record
  line_ends b rest c e = rw (c, e) refl

  text_ends : next_record default_config st.InField fields field [] ≡ Some (fields ++ field ∷ [], st.StartRecord, [])
  unfolding next_record
  text_ends = refl

  -- a field that doesn't start with a quote is read as from its midst
  unquoted_start : (xs : List ℕ) → IsUnquoted xs → next_record default_config st.StartField fields field xs ≡ next_record default_config st.InField fields field xs
  unfolding next_record
  unquoted_start [] q = refl
  unquoted_start (b ∷ rest) q = rw (All-head IsNoQuote b rest q) refl

  -- the same of a record that doesn't start with a line end
  record_start : (b : ℕ) (rest : List ℕ) → (b == 34) ≡ false → is_line_end b ≡ false → next_record default_config st.StartRecord fields field (b ∷ rest) ≡ next_record default_config st.InField fields field (b ∷ rest)
  unfolding next_record
  record_start b rest q e = rw (e, q) refl

pub begun : (text : List ℕ) → IsUnquoted text → starts_record text ≡ true → next_record default_config st.StartRecord [] [] text ≡ next_record default_config st.InField [] [] text
begun [] q s = absurd (false≢true s)
begun (b ∷ rest) q s =
    elim (cases_Bool (is_line_end b)) [
      | inl t ↦ absurd (false≢true (rw t at s))
      | inr f ↦ record_start [] [] b rest (All-head IsNoQuote b rest q) f
    ]

-- a record of which the fields before a byte are known, and the bytes of the field at hand
module _ (text : List ℕ) (fields : Record) (start at : ℕ) (same : next_record default_config st.StartRecord [] [] text ≡ next_record default_config st.InField fields (take (at - start) (drop start text)) (drop at text)) where
  at_byte : at < length text → next_record default_config st.StartRecord [] [] text ≡ next_record default_config st.InField fields (take (at - start) (drop start text)) (get_or text at 0 ∷ drop (at + 1) text)
  at_byte inside = same ∙ ap (λ xs. next_record default_config st.InField fields (take (at - start) (drop start text)) xs) (drop_more text at 0 inside)

  longer : start ≤ at → at < length text → take (at - start) (drop start text) ++ get_or text at 0 ∷ [] ≡ take (at + 1 - start) (drop start text)
  longer within inside =
      let l = length-drop start text in
      let on : at + 1 - start ≡ at - start + 1 = omega (arith, within) in
      let there : start + (at - start) ≡ at = omega (arith, within) in
      let here : get_or (drop start text) (at - start) 0 ≡ get_or text at 0 = get_or-drop start text (at - start) 0 ∙ ap (λ k. get_or text k 0) there in
      sym (ap (λ n. take n (drop start text)) on ∙ take_more (drop start text) (at - start) 0 (omega (arith, l, within, inside)) ∙ ap (λ b. take (at - start) (drop start text) ++ b ∷ []) here)

  pub joined : start ≤ at → at < length text → get_or text at 0 ≢ 44 → is_line_end (get_or text at 0) ≡ false
      → next_record default_config st.StartRecord [] [] text ≡ next_record default_config st.InField fields (take (at + 1 - start) (drop start text)) (drop (at + 1) text)
  joined within inside comma line =
      at_byte inside ∙ joins fields (take (at - start) (drop start text)) (get_or text at 0) (drop (at + 1) text) (other_byte (get_or text at 0) 44 comma) line
      ∙ ap (λ field. next_record default_config st.InField fields field (drop (at + 1) text)) (longer within inside)

  pub field_ended : IsUnquoted text → at < length text → get_or text at 0 ≡ 44
      → next_record default_config st.StartRecord [] [] text ≡ next_record default_config st.InField (fields ++ take (at - start) (drop start text) ∷ []) (take (at + 1 - (at + 1)) (drop (at + 1) text)) (drop (at + 1) text)
  field_ended q inside comma =
      let none : at + 1 - (at + 1) ≡ 0 = omega arith in
      at_byte inside ∙ field_ends fields (take (at - start) (drop start text)) (get_or text at 0) (drop (at + 1) text) (same_byte (get_or text at 0) 44 comma)
      ∙ unquoted_start (fields ++ take (at - start) (drop start text) ∷ []) [] (drop (at + 1) text) (All-drop IsNoQuote (at + 1) text q)
      ∙ ap (λ n. next_record default_config st.InField (fields ++ take (at - start) (drop start text) ∷ []) (take n (drop (at + 1) text)) (drop (at + 1) text)) (sym none)

  pub line_ended : at < length text → get_or text at 0 ≢ 44 → is_line_end (get_or text at 0) ≡ true
      → records_of text ≡ (fields ++ take (at - start) (drop start text) ∷ []) ∷ records_of (take (length text - (at + 1)) (drop (at + 1) text))
  line_ended inside comma line =
      let field = take (at - start) (drop start text) in
      let b = get_or text at 0 in
      let next = at_byte inside ∙ line_ends fields field b (drop (at + 1) text) (other_byte b 44 comma) line in
      (remaining_some default_config st.StartRecord text (fields ++ field ∷ [], if b == 13 then st.AfterCr else st.StartRecord, drop (at + 1) text) refl next).0
      ∙ ap (λ rs. (fields ++ field ∷ []) ∷ rs) (behind_line (b == 13) (drop (at + 1) text))
      ∙ ap (λ rest. (fields ++ field ∷ []) ∷ records_of rest) (sym (take_rest text (at + 1)))

  pub text_ended : at ≡ length text → records_of text ≡ (fields ++ take (length text - start) (drop start text) ∷ []) ∷ records_of (take (length text - length text) (drop (length text) text))
  text_ended end =
      let none : length text - length text ≡ 0 = omega arith in
      let next = same ∙ ap (λ xs. next_record default_config st.InField fields (take (at - start) (drop start text)) xs) (drop_all at text (omega (arith, end))) ∙ text_ends fields (take (at - start) (drop start text)) in
      (remaining_some default_config st.StartRecord text (fields ++ take (at - start) (drop start text) ∷ [], st.StartRecord, []) refl next).0
      ∙ ap (λ n. (fields ++ take (n - start) (drop start text) ∷ []) ∷ records_of []) end
      ∙ ap (λ n. (fields ++ take (length text - start) (drop start text) ∷ []) ∷ records_of (take n (drop (length text) text))) (sym none)

-- of bytes past the comma none is a line end
high_no_end : (b : ℕ) → 44 < b → is_line_end b ≡ false
high_no_end b high = rw (other_byte b 13 (λ e. absurd (omega (arith, e, high))), other_byte b 10 (λ e. absurd (omega (arith, e, high)))) refl

-- the same of a run of bytes of which none is a comma or a line end
module _ (text : List ℕ) (fields : Record) (start : ℕ) where
  abbrev Stands : ℕ → Type 0
  Stands at = next_record default_config st.StartRecord [] [] text ≡ next_record default_config st.InField fields (take (at - start) (drop start text)) (drop at text)

  run : (n at : ℕ) → start ≤ at → at + n ≤ length text → ((k : ℕ) → at ≤ k → k < at + n → 44 < get_or text k 0) → Stands at → Stands (at + n)
  run zero at within inside high same = let e : at ≡ at + 0 = omega arith in subst Stands e same
  run (suc n) at within inside high same =
      let here = high at (omega arith) (omega arith) in
      let e : at + 1 + n ≡ at + suc n = omega arith in
      subst Stands e
      (run n (at + 1) (omega (arith, within)) (omega (arith, inside)) (λ k low below. high k (omega (arith, low)) (omega (arith, below)))
      (joined text fields start at same within (omega (arith, inside)) (λ c. absurd (omega (arith, c, here))) (high_no_end (get_or text at 0) here)))

  pub run_joined : (at next : ℕ) → start ≤ at → at ≤ next → next ≤ length text → ((k : ℕ) → at ≤ k → k < next → 44 < get_or text k 0)
      → next_record default_config st.StartRecord [] [] text ≡ next_record default_config st.InField fields (take (at - start) (drop start text)) (drop at text)
      → next_record default_config st.StartRecord [] [] text ≡ next_record default_config st.InField fields (take (next - start) (drop start text)) (drop next text)
  run_joined at next within on inside high same =
      let e : at + (next - at) ≡ next = omega (arith, on) in
      subst Stands e (run (next - at) at within (omega (arith, on, inside)) (λ k low below. high k low (omega (arith, below, on))) same)
