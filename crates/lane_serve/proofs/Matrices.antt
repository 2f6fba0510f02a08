-- Rows of origins, run after run.
use Rattle.std.proofs.Common.{◌≡◌, ◌∙◌, refl, ap, sym, subst, ℕ, ◌+◌, ◌-◌, ◌<◌, ◌≤◌, List, [], ◌∷◌, ◌++◌, length, take, drop, get_or, Option, Some, None, Vec, Global, append_assoc, arith, ◌⊎◌, inl, inr}
use Rattle.std.proofs.lemmas.List.{append-nil, length-append, take-append-drop, take-append-le, take_all, take_more}
use Rattle.std.proofs.Math.Seq.{take-append-add}
use Rattle.std.specs.Io.KnownBytes.{Appends}
use Rattle.tb_base.specs.TimetableData.{TimetableData}
use Rattle.tb_io.proofs.Pieces.{appends_more}
use Rattle.query_gate.specs.Dealing.{run_of}
use Rattle.query_gate.proofs.Dealt.{run_more}
use Rattle.std.proofs.lemmas.Grind.{flat_map-append}
use Rattle.query_gate.specs.Dealing.{joined_texts}
use Rattle.lane_serve.specs.Rows.{AreRowsFrom, head_of}
use Rattle.lane_serve.specs.Matrix.{AreRows, HasCutMatrix, HasCutRows, HasCutRun, HasMatrix, HasRows, IsCutHead, IsMatrix}
use Rattle.lane_serve.specs.declared.matrix.MatrixFault.{MatrixFault}
use Rattle.lane_serve.specs.declared.matrix.MatrixFault.TheVariants as fault
use Rattle.lane_serve.specs.declared.rows.RowForm.{RowForm}
use Rattle.lane_serve.specs.declared.rows.TimesAsked.{TimesAsked}

pub appends_none : (w : Option (List ℕ)) → Appends w w []
appends_none None = tt
appends_none (Some xs) = sym (append-nil xs)

pub joined_append : (xs ys : List (Vec ℕ Global)) → joined_texts (xs ++ ys) ≡ joined_texts xs ++ joined_texts ys
joined_append xs ys = flat_map-append (λ v. v.items) xs ys

module _ (form : RowForm) (T : TimetableData) (a : TimesAsked) where
  abbrev Right : List ℕ → Vec ℕ Global → Type 0
  Right = λ origin text. AreRowsFrom form T a origin (Vec.items text)

  pub rows_none : (origins : List (List ℕ)) (w : Option (List ℕ)) → HasRows form T a (take 0 origins) w w
  rows_none origins w = record { texts = []; rows = tt; written = appends_none w }

  -- the rows of a run behind those of the origins before it
  joined : (origins : List (List ℕ)) (from to : ℕ) (xs ys : List (Vec ℕ Global)) → from ≤ to → to ≤ length origins → AreRows form T a (take from origins) xs → AreRows form T a (run_of origins from to) ys → AreRows form T a (take to origins) (xs ++ ys)
  joined origins from to xs ys le most h i = run_more Right origins from to xs ys le most h i

  pub rows_more : (origins : List (List ℕ)) (from to : ℕ) (w1 w2 w3 : Option (List ℕ)) → from ≤ to → to ≤ length origins → HasRows form T a (take from origins) w1 w2 → HasRows form T a (run_of origins from to) w2 w3 → HasRows form T a (take to origins) w1 w3
  rows_more origins from to w1 w2 w3 le most h i = record {
    texts = h.texts ++ i.texts;
    rows = joined origins from to h.texts i.texts le most h.rows i.rows;
    written = subst (λ t. Appends w1 w3 t) (sym (joined_append h.texts i.texts)) (appends_more w1 w2 w3 (joined_texts h.texts) (joined_texts i.texts) h.written i.written);
  }

  pub rows_cut : (cause : MatrixFault) (origins : List (List ℕ)) (from to : ℕ) (w1 w2 w3 : Option (List ℕ)) → from ≤ to → to ≤ length origins → HasRows form T a (take from origins) w1 w2 → HasCutRun cause form T a (run_of origins from to) w2 w3 → HasCutRows cause form T a origins w1 w3
  rows_cut fault.WriteFault origins from to w1 w2 w3 le most h i =
      let first = joined_texts h.texts in
      let more = joined_texts i.0 in record {
        done = to;
        texts = h.texts ++ i.0;
        count = length first + i.1;
        rows = joined origins from to h.texts i.0 le most h.rows i.2;
        whole = inl refl;
        written = subst (λ t. Appends w1 w3 (take (length first + i.1) t)) (sym (joined_append h.texts i.0))
            (subst (λ t. Appends w1 w3 t) (sym (take-append-add first more i.1)) (appends_more w1 w2 w3 first (take i.1 more) h.written i.3));
      }
  rows_cut fault.Memory origins from to w1 w2 w3 le most h i = record {
    done = from;
    texts = h.texts;
    count = length (joined_texts h.texts);
    rows = h.rows;
    whole = inr refl;
    written = subst (λ w. Appends w1 w (take (length (joined_texts h.texts)) (joined_texts h.texts))) (sym i)
        (subst (λ t. Appends w1 w2 t) (sym (take_all (length (joined_texts h.texts)) (joined_texts h.texts) (omega arith))) h.written);
  }

  -- the names of the columns stand before all rows
  pub headed : (origins : List (List ℕ)) (w1 w2 w3 : Option (List ℕ)) → Appends w1 w2 (head_of form) → HasRows form T a origins w2 w3 → HasMatrix form T a origins w1 w3
  headed origins w1 w2 w3 h i = record {
    text = head_of form ++ joined_texts i.texts;
    matrix = record { texts = i.texts; rows = i.rows; whole = refl };
    written = appends_more w1 w2 w3 (head_of form) (joined_texts i.texts) h i.written;
  }

  counted : (cause : MatrixFault) (head text : List ℕ) (count : ℕ) → (cause ≡ fault.WriteFault) ⊎ (count ≡ length text) → (cause ≡ fault.WriteFault) ⊎ (length head + count ≡ 0) ⊎ (length head + count ≡ length (head ++ text))
  counted cause head text count (inl is) = inl is
  counted cause head text count (inr is) = inr (inr (omega (arith, is, length-append head text)))

  pub headed_cut : (cause : MatrixFault) (origins : List (List ℕ)) (w1 w2 w3 : Option (List ℕ)) → Appends w1 w2 (head_of form) → HasCutRows cause form T a origins w2 w3 → HasCutMatrix cause form T a origins w1 w3
  headed_cut cause origins w1 w2 w3 h i =
      let head = head_of form in
      let more = joined_texts i.texts in record {
        done = i.done;
        text = head ++ more;
        count = length head + i.count;
        matrix = record { texts = i.texts; rows = i.rows; whole = refl };
        whole = counted cause head more i.count i.whole;
        written = subst (λ t. Appends w1 w3 t) (sym (take-append-add head more i.count)) (appends_more w1 w2 w3 head (take i.count more) h i.written);
      }

  -- nothing but a first part of the head is written
  only_head : (origins : List (List ℕ)) → IsMatrix form T a (take 0 origins) (head_of form)
  only_head origins = record { texts = []; rows = tt; whole = sym (append-nil (head_of form)) }

  pub cut_at_head : (cause : MatrixFault) (origins : List (List ℕ)) (w1 w2 : Option (List ℕ)) → IsCutHead cause form w1 w2 → HasCutMatrix cause form T a origins w1 w2
  cut_at_head fault.WriteFault origins w1 w2 h = record { done = 0; text = head_of form; count = h.0; matrix = only_head origins; whole = inl refl; written = h.1 }
  cut_at_head fault.Memory origins w1 w2 h = record { done = 0; text = head_of form; count = 0; matrix = only_head origins; whole = inr (inl refl); written = subst (λ w. Appends w1 w []) (sym h) (appends_none w1) }

  pub cut_before : (origins : List (List ℕ)) (w : Option (List ℕ)) → HasCutMatrix fault.Memory form T a origins w w
  cut_before origins w = cut_at_head fault.Memory origins w w refl

-- texts that are written, one after another
joined_more : (texts : List (Vec ℕ Global)) (i : ℕ) (v : Vec ℕ Global) → i < length texts → v ≡ get_or texts i v → joined_texts (take (i + 1) texts) ≡ joined_texts (take i texts) ++ v.items
joined_more texts i v lt is =
    let first = joined_texts (take i texts) in
    ap joined_texts (take_more texts i v lt) ∙ joined_append (take i texts) (get_or texts i v ∷ [])
    ∙ ap (λ (w : Vec ℕ Global). first ++ (w.items ++ [])) (sym is) ∙ ap (λ l. first ++ l) (append-nil v.items)

pub text_more : (texts : List (Vec ℕ Global)) (i : ℕ) (v : Vec ℕ Global) (w1 w2 w3 : Option (List ℕ)) → i < length texts → v ≡ get_or texts i v → Appends w1 w2 (joined_texts (take i texts)) → Appends w2 w3 v.items
    → Appends w1 w3 (joined_texts (take (i + 1) texts))
text_more texts i v w1 w2 w3 lt is h w = subst (λ t. Appends w1 w3 t) (sym (joined_more texts i v lt is)) (appends_more w1 w2 w3 (joined_texts (take i texts)) v.items h w)

-- a first part of the next text ends a first part of all texts
pub part_of : (texts : List (Vec ℕ Global)) (i n : ℕ) (v : Vec ℕ Global) (w1 w2 w3 : Option (List ℕ)) → i < length texts → v ≡ get_or texts i v → n ≤ length v.items → Appends w1 w2 (joined_texts (take i texts)) → Appends w2 w3 (take n v.items)
    → (k : ℕ) × Appends w1 w3 (take k (joined_texts texts))
part_of texts i n v w1 w2 w3 lt is few h w =
    let first = joined_texts (take i texts) in
    let rest = joined_texts (drop (i + 1) texts) in
    let whole : joined_texts texts ≡ first ++ (v.items ++ rest) = ap joined_texts (sym (take-append-drop (i + 1) texts)) ∙ joined_append (take (i + 1) texts) (drop (i + 1) texts) ∙ ap (λ l. l ++ rest) (joined_more texts i v lt is) ∙ append_assoc first v.items rest in
    let front : take (length first + n) (first ++ (v.items ++ rest)) ≡ first ++ take n v.items = take-append-add first (v.items ++ rest) n ∙ ap (λ l. first ++ l) (take-append-le n v.items rest few) in (
      length first + n,
      subst (λ t. Appends w1 w3 (take (length first + n) t)) (sym whole) (subst (λ t. Appends w1 w3 t) (sym front) (appends_more w1 w2 w3 first (take n v.items) h w)),
    )
