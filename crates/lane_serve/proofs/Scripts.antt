-- Scripts are read line by line.
use Rattle.std.proofs.Common.{◌≡◌, refl, sym, ap, subst, Bool, ℕ, zero, suc, ◌+◌, ◌-◌, ◌<◌, ◌≤◌, List, [], ◌∷◌, ◌++◌, length, get_or, slice_set, Result, arith}
use Rattle.std.specs.Prelude.{All}
use Rattle.std.proofs.lemmas.List.{length-append}
use Rattle.std.proofs.lemmas.List.Sums.{sum_by-cons}
use Rattle.std.proofs.lemmas.List.Elements.{All-append, All-cons, All-nil}
use Rattle.tb_base.specs.Refusals.{IsRefused}
use Rattle.tb_base.specs.declared.refused.Refused.{Refused}
use Rattle.tb_base.specs.declared.refused.Refused.TheVariants as refused
use Rattle.gtfs_rows.specs.Steps.{and_then}
use Rattle.text_lines.specs.Lines.{lines_of}
use Rattle.query_gate.specs.declared.said.Line.{Line}
use Rattle.lane_serve.specs.Script.{LaneData, SoFar, IsWithinLimits, request_count, script_from, with_request}
use Rattle.query_gate.specs.Said.{IsAskable}

-- the last lane gets one more request
pub set_last : (lanes : List LaneData) (i : ℕ) (request : Line) (name : List ℕ) (lines : List Line) →
    length lanes ≡ suc i →
    get_or lanes i (record { name = name; lines = lines }) ≡ record { name = name; lines = lines } →
    slice_set lanes i (record { name = name; lines = lines ++ request ∷ [] }) ≡ with_request request lanes
set_last [] i request name lines e h = absurd (omega arith)
set_last (x ∷ []) zero request name lines e h =
    ap (λ (l : LaneData). record { name = l.name; lines = l.lines ++ request ∷ [] } ∷ []) (sym h)
set_last (x ∷ []) (suc i) request name lines e h = absurd (omega arith)
set_last (x ∷ y ∷ rest) zero request name lines e h = absurd (omega arith)
set_last (x ∷ y ∷ rest) (suc i) request name lines e h =
    ap (λ l. x ∷ l) (set_last (y ∷ rest) i request name lines (omega arith) h)

pub add_last : (lanes : List LaneData) (n : ℕ) (request : Line) (name : List ℕ) (lines more : List Line) (lane : LaneData) →
    n ≡ length lanes → 0 < n → record { name = name; lines = lines } ≡ lane → lane ≡ get_or lanes (n - 1) lane →
    more ≡ lines ++ request ∷ [] →
    slice_set lanes (n - 1) (record { name = name; lines = more }) ≡ with_request request lanes
add_last lanes n request name lines more lane e some is at m =
    rw m (set_last lanes (n - 1) request name lines (omega arith)
    (subst (λ (l : LaneData). get_or lanes (n - 1) l ≡ l) (sym is) (sym at)))

count_more : (lanes : List LaneData) (request : Line) → 0 < length lanes →
    request_count (with_request request lanes) ≡ request_count lanes + 1
count_more [] request some = absurd (omega arith)
count_more (l ∷ []) request some = omega (arith, length-append l.lines (request ∷ []))
count_more (l ∷ m ∷ rest) request some =
    let f : LaneData → ℕ = λ k. length (LaneData.lines k) in
    let a = sum_by-cons f l (with_request request (m ∷ rest)) in
    let b = sum_by-cons f l (m ∷ rest) in
    let c = count_more (m ∷ rest) request (omega arith) in
    omega (arith, a, b, c)

length_same : (lanes : List LaneData) (request : Line) → length (with_request request lanes) ≡ length lanes
length_same [] request = refl
length_same (l ∷ []) request = refl
length_same (l ∷ m ∷ rest) request = ap suc (length_same (m ∷ rest) request)

abbrev AreAskable : LaneData → Type 0
AreAskable l = All IsAskable l.lines

times_more : (lanes : List LaneData) (request : Line) → IsAskable request → All AreAskable lanes →
    All AreAskable (with_request request lanes)
times_more [] request h all = all
times_more (l ∷ []) request h all =
    All-cons AreAskable (record { name = l.name; lines = l.lines ++ request ∷ [] }) []
    (All-append IsAskable l.lines (request ∷ []) (all 0 l (omega arith)) (All-cons IsAskable request [] h (All-nil IsAskable)))
    (All-nil AreAskable)
times_more (l ∷ m ∷ rest) request h all =
    All-cons AreAskable l (with_request request (m ∷ rest)) (all 0 l (omega arith))
    (times_more (m ∷ rest) request h (λ i x lt. all (suc i) x (omega (arith, lt))))

pub one_more : (lanes now : List LaneData) (request : Line) (n : ℕ) → 0 < length lanes → n ≡ request_count lanes → n < 20000 →
    IsWithinLimits lanes → IsAskable request → now ≡ with_request request lanes →
    (n + 1 ≡ request_count now) × IsWithinLimits now
one_more lanes now request n some e lt good h is =
    let c = count_more lanes request some in
    let l = length_same lanes request in
    let few = good.few in
    rw is (
      omega (arith, c),
      record {
        few = omega (arith, l, few);
        requests = omega (arith, c, e, lt);
        times = times_more lanes request h good.times;
      },
    )

-- a refusal of the next line is one of the script
pub refused_on : {A B F : Type 0} (why : Refused F) (step : Result A F) (rest : A → Result B F) →
    IsRefused step why → IsRefused (and_then step rest) why
refused_on (refused.Fault f) step rest h = rw h refl
refused_on refused.Memory step rest h = tt

-- what the first lines say, where the text behind them is still to be read
pub record IsReadTo (json : Bool) (bytes text : List ℕ) (s : SoFar) : Type 0 where
  pub count : s.lines + length text ≤ length bytes
  pub rest : script_from (record { json = json; lines = 0; requests = 0; lanes = [] }) (lines_of bytes)
      ≡ script_from s (lines_of text)
