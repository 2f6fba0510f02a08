-- A line whose bit is 1 in a bitmap that was picked for a trip is not joined by it.
use Rattle.std.proofs.Common.{◌≡◌, ◌≢◌, ◌∙◌, sym, ap, subst, refl, ℕ, zero, suc, ◌+◌, ◌*◌, ◌/◌, ◌%◌, ◌^◌, ◌-◌, ◌<◌, ◌≤◌, ◌⊎◌, inl, inr, Bool, true, false, List, [], ◌∷◌, ◌++◌, length, get_or, set, ℤ, ◌≤ℤ◌, ◌<ℤ◌, arith, w64, length-set, replicate, get_or-set_same, get_or-set_other}
use Rattle.std.specs.Prelude.{All}
use Rattle.std.proofs.lemmas.Bool.{cases_eq}
use Rattle.std.proofs.lemmas.Int.{ints}
use Rattle.std.proofs.lemmas.List.{get_or_append_left, get_or_default, length-append}
use Rattle.std.proofs.lemmas.Nat.Bits.{bit_at_and, bit_at_or, bit_at-lt, bit_at_set_other, bit_at_ones, bit_at-zero}
use Rattle.std.proofs.lemmas.Simd.{length-chunk, length-replicate, length-zip2, get_or-chunk, get_or-zip2}
use Rattle.std.specs.Int.{bit_at}
use Rattle.std.specs.Int.RustNames.{bit_and, bit_or}
use Rattle.std.specs.Simd.Lanes.{chunk, fold_l, zip2}
use Rattle.tb_base.specs.declared.table.Event.{Event}
use Rattle.tb_base.specs.TimetableData.{TimetableData, events_of, no_event}
use Rattle.tb_base.specs.Lines.{last_trip, may_follow}
use Rattle.tb_base.proofs.LineFacts.{no_later}
use Rattle.line_split.specs.Buckets.{last_of}
use Rattle.line_split.specs.Bitmaps.{BitmapData, no_bitmap, time_by, time_at, IsOut, IsLate, IsUnset, IsBitmapOf, AreBitmapsOf, IsMarked, AreMarked, AreOutIn, IsPicked, IsOutBy}
use Rattle.line_split.proofs.Placing.{joins, last_trip-push}

below_most : (a b c : ℤ) → a <ℤ b → b ≤ℤ c → a <ℤ c
below_most a b c f g = omega (arith, ints, f, g)

-- a trip that may follow another is no earlier at any event
time_rises : (departs : Bool) (e f : Event) → e.arr ≤ℤ f.arr → e.dep ≤ℤ f.dep → time_by departs e ≤ℤ time_by departs f
time_rises true e f a d = d
time_rises false e f a d = a

later_time : (T : TimetableData) (t u event : ℕ) (departs : Bool) → may_follow (events_of T t) (events_of T u) ≡ true → time_at event departs (events_of T t) ≤ℤ time_at event departs (events_of T u)
later_time T t u event departs follows =
    let n = no_later T t u (inr follows) in
    let e = n.at event in
    time_rises departs (get_or (events_of T t) event no_event) (get_or (events_of T u) event no_event) e.arr e.dep

stays_late : (T : TimetableData) (t u : ℕ) (bitmap : BitmapData) → may_follow (events_of T t) (events_of T u) ≡ true → IsLate bitmap (events_of T t) → IsLate bitmap (events_of T u)
stays_late T t u bitmap follows late =
    below_most bitmap.limit (time_at bitmap.event bitmap.departs (events_of T t)) (time_at bitmap.event bitmap.departs (events_of T u)) late (later_time T t u bitmap.event bitmap.departs follows)

-- of one time and limit
same_late : (b c : BitmapData) (es : List Event) → c.event ≡ b.event → c.departs ≡ b.departs → c.limit ≡ b.limit → IsLate b es → IsLate c es
same_late b c es event departs limit late =
    subst (λ l. l <ℤ time_at c.event c.departs es) (sym limit) (subst (λ e. b.limit <ℤ time_at e c.departs es) (sym event) (subst (λ s. b.limit <ℤ time_at b.event s es) (sym departs) late))

-- ---- what a bit tells

-- no line is joined that is out
pub out_unjoined : (T : TimetableData) (lines : List (List ℕ)) (row : List ℕ) (bitmaps : List BitmapData) (picked : List ℕ) (t k : ℕ) → AreBitmapsOf T lines row bitmaps → All (IsPicked bitmaps (events_of T t)) picked → IsOutBy bitmaps picked k
    → joins T lines (events_of T t) (get_or row k 0) ≡ false
out_unjoined T lines row bitmaps picked t k are chosen out = by_test (joins T lines (events_of T t) (get_or row k 0)) refl
  where
    by_test : (b : Bool) → b ≡ joins T lines (events_of T t) (get_or row k 0) → joins T lines (events_of T t) (get_or row k 0) ≡ false
    by_test false e = sym e
    by_test true e =
        let pick = chosen out.0 0 out.1 in
        let late = (are (get_or picked out.0 0) no_bitmap pick.0).late k out.2 in
        absurd (pick.1 (stays_late T (last_of lines (get_or row k 0)) t (get_or bitmaps (get_or picked out.0 0) no_bitmap) (sym e) late))

-- one bitmap more
pub out_more : (bitmaps : List BitmapData) (picked : List ℕ) (n k out : ℕ) → n < length picked → (bit_at out (k % 64) ≡ 1 → IsOutBy bitmaps picked k)
    → bit_at (bit_or out (get_or (get_or bitmaps (get_or picked n 0) no_bitmap).bits (k / 64) 0)) (k % 64) ≡ 1 → IsOutBy bitmaps picked k
out_more bitmaps picked n k out inside before e = by_bit (bit_at out (k % 64)) refl
  where
    by_bit : (b : ℕ) → b ≡ bit_at out (k % 64) → IsOutBy bitmaps picked k
    by_bit zero s = (n, inside, omega (arith, s, e, bit_at_or out (get_or (get_or bitmaps (get_or picked n 0) no_bitmap).bits (k / 64) 0) (k % 64), bit_at-lt (get_or (get_or bitmaps (get_or picked n 0) no_bitmap).bits (k / 64) 0) (k % 64)))
    by_bit (suc b) s = before (omega (arith, s, bit_at-lt out (k % 64)))

pub out_step : (bitmaps : List BitmapData) (picked : List ℕ) (n word out own : ℕ) (bitmap : BitmapData) → All (λ i. i < length bitmaps) picked → n < length picked → bitmap ≡ get_or bitmaps (get_or picked n 0) bitmap → own ≡ get_or bitmap.bits word 0
    → ((k : ℕ) → k / 64 ≡ word → bit_at out (k % 64) ≡ 1 → IsOutBy bitmaps picked k) → (k : ℕ) → k / 64 ≡ word → bit_at (bit_or out own) (k % 64) ≡ 1 → IsOutBy bitmaps picked k
out_step bitmaps picked n word out own bitmap within inside there bits before k same e = out_more bitmaps picked n k out inside (before k same) (subst (λ w. bit_at (bit_or out w) (k % 64) ≡ 1) is e)
  where
    is : own ≡ get_or (get_or bitmaps (get_or picked n 0) no_bitmap).bits (k / 64) 0
    is = bits ∙ ap (λ (b : BitmapData). get_or b.bits word 0) (there ∙ get_or_default bitmaps (get_or picked n 0) bitmap no_bitmap (within n 0 inside)) ∙ ap (λ w. get_or (get_or bitmaps (get_or picked n 0) no_bitmap).bits w 0) (sym same)

-- ---- eight words

-- words of zeros
zero_at : (n i : ℕ) → ◌≡◌ {A = ℕ} (get_or (replicate n 0) i 0) 0
zero_at zero i = refl
zero_at (suc n) zero = refl
zero_at (suc n) (suc i) = zero_at n i

pub zeros_out : (Out : ℕ → Type 0) (word : ℕ) → AreOutIn Out word (replicate 8 0)
zeros_out Out word = record { many = length-replicate {A = ℕ} 8 0; out = λ k low below one. absurd (omega (arith, sym (ap (λ w. bit_at w (k % 64)) (zero_at 8 (k / 64 - word)) ∙ bit_at-zero (k % 64)) ∙ one)) }

-- the words of a bitmap
pub own_out : (bitmap : BitmapData) (bits : List ℕ) (word : ℕ) → bits ≡ bitmap.bits → word + 8 ≤ length bits → AreOutIn (IsOut bitmap) word (chunk word 8 bits)
own_out bitmap bits word is room = record {
  many = length-chunk word 8 bits room;
  out = λ k low below one.
      let at : word + (k / 64 - word) ≡ k / 64 = omega (arith, low) in
      let same = get_or-chunk word 8 bits (k / 64 - word) 0 (omega (arith, low, below)) ∙ ap (λ i. get_or bits i 0) at ∙ ap (λ (ws : List ℕ). get_or ws (k / 64) 0) is in
      sym (ap (λ w. bit_at w (k % 64)) same) ∙ one;
}

-- those of one bitmap more
pub words_more : (bitmaps : List BitmapData) (picked : List ℕ) (n word : ℕ) (bitmap : BitmapData) (out own : List ℕ) → All (λ i. i < length bitmaps) picked → n < length picked → bitmap ≡ get_or bitmaps (get_or picked n 0) bitmap
    → AreOutIn (IsOutBy bitmaps picked) word out → AreOutIn (IsOut bitmap) word own → AreOutIn (IsOutBy bitmaps picked) word (zip2 bit_or out own)
words_more bitmaps picked n word bitmap out own within inside there before new = record {
  many = length-zip2 bit_or out own (before.many ∙ sym new.many) ∙ before.many;
  out = λ k low below one.
      let j = k / 64 - word in
      let both = get_or-zip2 bit_or out own j 0 0 0 (omega (arith, low, below, before.many)) (omega (arith, low, below, new.many)) in
      by_bit k low below (sym (ap (λ w. bit_at w (k % 64)) both) ∙ one) (bit_at (get_or out j 0) (k % 64)) refl;
}
  where
    own_bit : (k : ℕ) → IsOut bitmap k → IsOutBy bitmaps picked k
    own_bit k out = (n, inside, subst (λ b. IsOut b k) (there ∙ get_or_default bitmaps (get_or picked n 0) bitmap no_bitmap (within n 0 inside)) out)

    by_bit : (k : ℕ) → word ≤ k / 64 → k / 64 < word + 8 → bit_at (bit_or (get_or out (k / 64 - word) 0) (get_or own (k / 64 - word) 0)) (k % 64) ≡ 1 → (b : ℕ) → b ≡ bit_at (get_or out (k / 64 - word) 0) (k % 64) → IsOutBy bitmaps picked k
    by_bit k low below one zero s =
        own_bit k (new.out k low below (omega (arith, s, one, bit_at_or (get_or out (k / 64 - word) 0) (get_or own (k / 64 - word) 0) (k % 64), bit_at-lt (get_or own (k / 64 - word) 0) (k % 64))))
    by_bit k low below one (suc b) s = before.out k low below (omega (arith, s, bit_at-lt (get_or out (k / 64 - word) 0) (k % 64)))

-- what is 1 in all of them
both_ones : (v w i : ℕ) → bit_at (bit_and v w) i ≡ 1 → (bit_at v i ≡ 1) × (bit_at w i ≡ 1)
both_ones v w i one = (omega (arith, one, bit_at_and v w i, bit_at-lt v i), omega (arith, one, bit_at_and v w i, bit_at-lt w i))

one_more : (w : ℕ) (words : List ℕ) (i : ℕ) → bit_at w i ≡ 1 → ((j : ℕ) → j < length words → bit_at (get_or words j 0) i ≡ 1) → (j : ℕ) → j < length (w ∷ words) → bit_at (get_or (w ∷ words) j 0) i ≡ 1
one_more w words i here rest zero below = here
one_more w words i here rest (suc j) below = rest j (omega (arith, below))

ones_in : (words : List ℕ) (first i : ℕ) → bit_at (fold_l bit_and first words) i ≡ 1 → (bit_at first i ≡ 1) × ((j : ℕ) → j < length words → bit_at (get_or words j 0) i ≡ 1)
ones_in [] first i one = (one, λ j below. absurd (omega (arith, below)))
ones_in (w ∷ words) first i one =
    let rest = ones_in words (bit_and first w) i one in
    let here = both_ones first w i rest.0 in
    (here.0, one_more w words i here.1 rest.1)

-- words of ones
pub all_out : (Out : ℕ → Type 0) (word first : ℕ) (words : List ℕ) → AreOutIn Out word words → fold_l bit_and first words ≡ 2 ^ 64 - 1 → (k : ℕ) → word ≤ k / 64 → k / 64 < word + 8 → Out k
all_out Out word first words are ones k low below =
    are.out k low below ((ones_in words first (k % 64) (ap (λ w. bit_at w (k % 64)) ones ∙ bit_at_ones 64 (k % 64) (omega arith))).1 (k / 64 - word) (omega (arith, low, below, are.many)))

-- ---- the bitmaps stay right

pub unset_right : (T : TimetableData) (lines : List (List ℕ)) (row : List ℕ) (bitmaps : List BitmapData) → All IsUnset bitmaps → AreBitmapsOf T lines row bitmaps
unset_right T lines row bitmaps unset = λ i d below. record { inside = λ k out. absurd (unset i d below k out); late = λ k out. absurd (unset i d below k out) }

-- a trip joins line l
pub bitmaps_joined : (T : TimetableData) (lines : List (List ℕ)) (row : List ℕ) (bitmaps : List BitmapData) (t l : ℕ) → l < length lines → joins T lines (events_of T t) l ≡ true → AreBitmapsOf T lines row bitmaps
    → AreBitmapsOf T (set lines l (get_or lines l [] ++ t ∷ [])) row bitmaps
bitmaps_joined T lines row bitmaps t l h j are = λ i d below. record {
  inside = (are i d below).inside;
  late = λ k out. rises (get_or bitmaps i d) k ((are i d below).late k out) (cases_eq (get_or row k 0) l);
}
  where
    rises : (bitmap : BitmapData) (k : ℕ) → IsLate bitmap (events_of T (last_of lines (get_or row k 0))) → (get_or row k 0 ≡ l) ⊎ (get_or row k 0 ≢ l) → IsLate bitmap (events_of T (last_of (set lines l (get_or lines l [] ++ t ∷ [])) (get_or row k 0)))
    rises bitmap k late (inl e) =
        let new = set lines l (get_or lines l [] ++ t ∷ []) in
        let before = subst (λ i. IsLate bitmap (events_of T (last_of lines i))) e late in
        let last : last_of (set lines l (get_or lines l [] ++ t ∷ [])) (get_or row k 0) ≡ t = ap (last_of new) e ∙ ap last_trip (get_or-set_same lines l (get_or lines l [] ++ t ∷ []) [] h) ∙ last_trip-push (get_or lines l []) t in
        subst (λ u. IsLate bitmap (events_of T u)) (sym last) (stays_late T (last_of lines l) t bitmap j before)
    rises bitmap k late (inr e) =
        subst (λ line. IsLate bitmap (events_of T (last_trip line))) (sym (get_or-set_other lines l (get_or row k 0) (get_or lines l [] ++ t ∷ []) [] e)) late

-- a line is opened, in the same bucket or in another
pub bitmaps_opened : (T : TimetableData) (lines : List (List ℕ)) (row more line : List ℕ) (bitmaps : List BitmapData) → All (λ l. l < length lines) row → AreBitmapsOf T lines row bitmaps → AreBitmapsOf T (lines ++ line ∷ []) (row ++ more) bitmaps
bitmaps_opened T lines row more line bitmaps known are = λ i d below. record {
  inside = λ k out. omega (arith, (are i d below).inside k out, length-append row more);
  late = λ k out.
      let bitmap = get_or bitmaps i d in
      let within : k < length row = (are i d below).inside k out in
      let l : get_or (row ++ more) k 0 ≡ get_or row k 0 = get_or_append_left row more 0 k within in
      let same : last_of (lines ++ line ∷ []) (get_or row k 0) ≡ last_of lines (get_or row k 0) = ap last_trip (get_or_append_left lines (line ∷ []) [] (get_or row k 0) (known k 0 within)) in
      subst (λ u. IsLate bitmap (events_of T u)) (sym (ap (last_of (lines ++ line ∷ [])) l ∙ same)) ((are i d below).late k out);
}

-- a line is marked where it stands
pub bitmaps_marked : (T : TimetableData) (lines : List (List ℕ)) (row : List ℕ) (old new : List BitmapData) (place : ℕ) → place < length row → AreMarked place (events_of T (last_of lines (get_or row place 0))) old new → AreBitmapsOf T lines row old
    → AreBitmapsOf T lines row new
bitmaps_marked T lines row old new place inside marked are = λ i d below.
    let within : i < length old = omega (arith, below, marked.many) in
    let one = marked_right (get_or old i no_bitmap) (get_or new i no_bitmap) (marked.each i within) (are i no_bitmap within) in
    subst (λ b. IsBitmapOf T lines row b) (get_or_default new i no_bitmap d below) one
  where
    marked_right : (b c : BitmapData) → IsMarked place (events_of T (last_of lines (get_or row place 0))) b c → IsBitmapOf T lines row b → IsBitmapOf T lines row c
    marked_right b c m is = record { inside = λ k out. within k (m.out k out); late = λ k out. same_late b c (events_of T (last_of lines (get_or row k 0))) m.event m.departs m.limit (was_late k (m.out k out)) }
      where
        within : (k : ℕ) → IsOut b k ⊎ ((k ≡ place) × IsLate b (events_of T (last_of lines (get_or row place 0)))) → k < length row
        within k (inl out) = is.inside k out
        within k (inr now) = subst (λ i. i < length row) (sym now.0) inside

        was_late : (k : ℕ) → IsOut b k ⊎ ((k ≡ place) × IsLate b (events_of T (last_of lines (get_or row place 0)))) → IsLate b (events_of T (last_of lines (get_or row k 0)))
        was_late k (inl out) = is.late k out
        was_late k (inr now) = subst (λ i. IsLate b (events_of T (last_of lines (get_or row i 0)))) (sym now.0) now.1

-- ---- a line is marked

pub unmarked : (place : ℕ) (es : List Event) (b : BitmapData) → IsMarked place es b b
unmarked place es b = record { event = refl; departs = refl; limit = refl; out = λ k out. inl out }

-- one bit becomes 1
pub marked_one : (place : ℕ) (es : List Event) (old new : BitmapData) → new.event ≡ old.event → new.departs ≡ old.departs → new.limit ≡ old.limit → place / 64 < length old.bits → IsLate old es
    → new.bits ≡ set old.bits (place / 64) (bit_or (get_or old.bits (place / 64) 0) (1 * 2 ^ (place % 64) % 2 ^ 64)) → IsMarked place es old new
marked_one place es old new event departs limit inside late is = record { event = event; departs = departs; limit = limit; out = λ k out. by_word k (subst (λ bits. bit_at (get_or bits (k / 64) 0) (k % 64) ≡ 1) is out) (cases_eq (k / 64) (place / 64)) }
  where
    by_bit : (k : ℕ) → bit_at (bit_or (get_or old.bits (place / 64) 0) (1 * 2 ^ (place % 64) % 2 ^ 64)) (k % 64) ≡ 1 → k / 64 ≡ place / 64 → (k % 64 ≡ place % 64) ⊎ (k % 64 ≢ place % 64) → IsOut old k ⊎ ((k ≡ place) × IsLate old es)
    by_bit k out word (inl same) = inr (omega (arith, word, same), late)
    by_bit k out word (inr other) = inl (subst (λ w. bit_at (get_or old.bits w 0) (k % 64) ≡ 1) (sym word) (sym (bit_at_set_other w64 (get_or old.bits (place / 64) 0) (place % 64) (omega arith) (k % 64) other) ∙ out))

    by_word : (k : ℕ) → bit_at (get_or (set old.bits (place / 64) (bit_or (get_or old.bits (place / 64) 0) (1 * 2 ^ (place % 64) % 2 ^ 64))) (k / 64) 0) (k % 64) ≡ 1 → (k / 64 ≡ place / 64) ⊎ (k / 64 ≢ place / 64) → IsOut old k ⊎ ((k ≡ place) × IsLate old es)
    by_word k out (inl word) =
        let here = ap (λ w. get_or (set old.bits (place / 64) (bit_or (get_or old.bits (place / 64) 0) (1 * 2 ^ (place % 64) % 2 ^ 64))) w 0) word ∙ get_or-set_same old.bits (place / 64) (bit_or (get_or old.bits (place / 64) 0) (1 * 2 ^ (place % 64) % 2 ^ 64)) 0 inside in
        by_bit k (subst (λ n. bit_at n (k % 64) ≡ 1) here out) word (cases_eq (k % 64) (place % 64))
    by_word k out (inr other) = inl (subst (λ n. bit_at n (k % 64) ≡ 1) (get_or-set_other old.bits (place / 64) (k / 64) (bit_or (get_or old.bits (place / 64) 0) (1 * 2 ^ (place % 64) % 2 ^ 64)) 0 other) out)

-- and then another
pub marked_then : (place : ℕ) (es : List Event) (a b c : BitmapData) → IsMarked place es a b → IsMarked place es b c → IsMarked place es a c
marked_then place es a b c first second = record { event = second.event ∙ first.event; departs = second.departs ∙ first.departs; limit = second.limit ∙ first.limit; out = λ k out. was k (second.out k out) }
  where
    was : (k : ℕ) → IsOut b k ⊎ ((k ≡ place) × IsLate b es) → IsOut a k ⊎ ((k ≡ place) × IsLate a es)
    was k (inl out) = first.out k out
    was k (inr now) = inr (now.0, same_late b a es (sym first.event) (sym first.departs) (sym first.limit) now.1)

pub none_marked : (place : ℕ) (es : List Event) (bitmaps : List BitmapData) → AreMarked place es bitmaps bitmaps
none_marked place es bitmaps = record { many = refl; each = λ i below. unmarked place es (get_or bitmaps i no_bitmap) }

pub are_marked_then : (place : ℕ) (es : List Event) (a b c : List BitmapData) → AreMarked place es a b → AreMarked place es b c → AreMarked place es a c
are_marked_then place es a b c first second = record {
  many = second.many ∙ first.many;
  each = λ i below. marked_then place es (get_or a i no_bitmap) (get_or b i no_bitmap) (get_or c i no_bitmap) (first.each i below) (second.each i (omega (arith, below, first.many)));
}

-- one of these bitmaps is marked
pub one_marked : (place : ℕ) (es : List Event) (bitmaps : List BitmapData) (i : ℕ) (new : BitmapData) → i < length bitmaps → IsMarked place es (get_or bitmaps i no_bitmap) new → AreMarked place es bitmaps (set bitmaps i new)
one_marked place es bitmaps i new inside marked = record { many = length-set bitmaps i new; each = λ j below. by_case j (cases_eq j i) }
  where
    by_case : (j : ℕ) → (j ≡ i) ⊎ (j ≢ i) → IsMarked place es (get_or bitmaps j no_bitmap) (get_or (set bitmaps i new) j no_bitmap)
    by_case j (inl e) = subst (λ k. IsMarked place es (get_or bitmaps k no_bitmap) (get_or (set bitmaps i new) k no_bitmap)) (sym e) (subst (λ b. IsMarked place es (get_or bitmaps i no_bitmap) b) (sym (get_or-set_same bitmaps i new no_bitmap inside)) marked)
    by_case j (inr e) = subst (λ b. IsMarked place es (get_or bitmaps j no_bitmap) b) (sym (get_or-set_other bitmaps i j new no_bitmap e)) (unmarked place es (get_or bitmaps j no_bitmap))

pub zeros_unset : (bitmap : BitmapData) (n : ℕ) → bitmap.bits ≡ replicate n 0 → IsUnset bitmap
zeros_unset bitmap n is = λ k out. omega (arith, sym (ap (λ bits. bit_at (get_or bits (k / 64) 0) (k % 64)) is ∙ ap (λ w. bit_at w (k % 64)) (zero_at n (k / 64)) ∙ bit_at-zero (k % 64)) ∙ out)
