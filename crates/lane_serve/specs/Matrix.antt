-- What is written of the travel times from many origins.
use Rattle.std.specs.Prelude.{◌≡◌, ◌⊎◌, ℕ, List, ◌++◌, Option, Vec, length, take}
use Rattle.std.specs.declared.alloc.Global.{Global}
use Rattle.std.specs.Io.KnownBytes.{Appends}
use Rattle.tb_base.specs.TimetableData.{TimetableData}
use Rattle.query_gate.specs.Dealing.{AreReplies}
use Rattle.query_gate.specs.Dealing.{joined_texts}
use Rattle.lane_serve.specs.Rows.{AreRowsFrom, head_of}
use Rattle.lane_serve.specs.declared.matrix.MatrixFault.{MatrixFault}
use Rattle.lane_serve.specs.declared.matrix.MatrixFault.TheVariants as fault
use Rattle.lane_serve.specs.declared.rows.RowForm.{RowForm}
use Rattle.lane_serve.specs.declared.rows.TimesAsked.{TimesAsked}

-- one text for each origin, in order, with its rows
abbrev pub AreRows : RowForm → TimetableData → TimesAsked → List (List ℕ) → List (Vec ℕ Global)
    → Type 0
AreRows form T a origins texts =
    AreReplies (λ origin text. AreRowsFrom form T a origin (Vec.items text)) origins texts

-- the text has the names of the columns, and then the rows of each origin, in order
pub record IsMatrix (form : RowForm) (T : TimetableData) (a : TimesAsked) (origins : List (List ℕ))
    (text : List ℕ) : Type 0 where
  pub texts : List (Vec ℕ Global)
  pub rows : AreRows form T a origins texts
  pub whole : text ≡ head_of form ++ joined_texts texts

-- the rows of these origins were written
pub record HasRows (form : RowForm) (T : TimetableData) (a : TimesAsked)
    (origins : List (List ℕ)) (before now : Option (List ℕ)) : Type 0 where
  pub texts : List (Vec ℕ Global)
  pub rows : AreRows form T a origins texts
  pub written : Appends before now (joined_texts texts)

-- a first part of the rows of these origins was written where the sink failed; else nothing was
abbrev pub HasCutRun : MatrixFault → RowForm → TimetableData → TimesAsked → List (List ℕ) →
    Option (List ℕ) → Option (List ℕ) → Type 0
HasCutRun fault.WriteFault form T a origins before now =
    (texts : List (Vec ℕ Global)) × (count : ℕ) × AreRows form T a origins texts
    × Appends before now (take count (joined_texts texts))
HasCutRun fault.Memory form T a origins before now = now ≡ before

-- a first part of the names of the columns was written where the sink failed; else nothing was
abbrev pub IsCutHead : MatrixFault → RowForm → Option (List ℕ) → Option (List ℕ) → Type 0
IsCutHead fault.WriteFault form before now =
    (count : ℕ) × Appends before now (take count (head_of form))
IsCutHead fault.Memory form before now = now ≡ before

-- the rows of some first origins were written, or a first part of them where the sink failed
pub record HasCutRows (cause : MatrixFault) (form : RowForm) (T : TimetableData) (a : TimesAsked)
    (origins : List (List ℕ)) (before now : Option (List ℕ)) : Type 0 where
  pub done : ℕ
  pub texts : List (Vec ℕ Global)
  pub count : ℕ
  pub rows : AreRows form T a (take done origins) texts
  pub whole : (cause ≡ fault.WriteFault) ⊎ (count ≡ length (joined_texts texts))
  pub written : Appends before now (take count (joined_texts texts))

-- the names of the columns and the rows of all origins were written
pub record HasMatrix (form : RowForm) (T : TimetableData) (a : TimesAsked)
    (origins : List (List ℕ)) (before now : Option (List ℕ)) : Type 0 where
  pub text : List ℕ
  pub matrix : IsMatrix form T a origins text
  pub written : Appends before now text

-- The same of some first origins, or of that a first part where the sink failed; or nothing was
-- written, for want of memory.
pub record HasCutMatrix (cause : MatrixFault) (form : RowForm) (T : TimetableData) (a : TimesAsked)
    (origins : List (List ℕ)) (before now : Option (List ℕ)) : Type 0 where
  pub done : ℕ
  pub text : List ℕ
  pub count : ℕ
  pub matrix : IsMatrix form T a (take done origins) text
  pub whole : (cause ≡ fault.WriteFault) ⊎ (count ≡ 0) ⊎ (count ≡ length text)
  pub written : Appends before now (take count text)
