-- The steps that cut sixteen bytes.
use Rattle.std.proofs.Common.{◌≡◌, ◌≢◌, ℕ, ◌+◌, ◌-◌, ◌<◌, ◌≤◌, List, [], ◌∷◌, ◌++◌, length, take, drop, get_or, true, false, arith, w64}
use Rattle.std.specs.Int.{bit_at, trailing_zeros}
use Rattle.gtfs_rows.specs.PlainText.{IsUnquoted, is_line_end, records_of}
use Rattle.gtfs_rows.specs.Windows.{AreMarks, StandsAt, IsCutting, records_after}
use Rattle.gtfs_rows.proofs.PlainSteps.{joined, field_ended, line_ended, run_joined}
use Rattle.gtfs_rows.proofs.Marks.{first_inside, first_on, first_set, high_before, others_marked, none_left}

pub cutting : (text : List ℕ) (fields : List (List ℕ)) (start at : ℕ) (m : ℕ) → start ≤ at → StandsAt text fields start at → AreMarks text at at m → IsCutting text fields start at m
cutting text fields start at m within same marked = record {
  next = at;
  within = within;
  from = omega arith;
  inside = omega arith;
  same = same;
  marked = marked;
}

module _ (text : List ℕ) (fields : List (List ℕ)) (start at m : ℕ) (full : at + 16 ≤ length text) (cut : IsCutting text fields start at m) where
  pub window_passed : m ≡ 0 → (start ≤ at + 16) × StandsAt text fields start (at + 16)
  window_passed none =
      let none_marked : AreMarks text at cut.next 0 = rw none at cut.marked in
      let within = cut.within in
      let inside = cut.inside in (
        omega (arith, within, inside),
        run_joined text fields start cut.next (at + 16) cut.within cut.inside full (none_left text at cut.next none_marked cut.from) cut.same,
      )

  module _ (some : m ≢ 0) where
    abbrev place : ℕ
    place = at + trailing_zeros w64 m

    pub place_inside : place < length text
    place_inside = let t = first_inside text at cut.next m cut.marked some in omega (arith, t, full)

    pub place_set : bit_at m (trailing_zeros w64 m) ≡ 1
    place_set = first_set text at cut.next m cut.marked some

    pub few_places : trailing_zeros w64 m < 64
    few_places = let t = first_inside text at cut.next m cut.marked some in omega (arith, t)

    pub start_within : start ≤ place
    start_within =
        let within = cut.within in
        let on = first_on text at cut.next m cut.marked some in
        omega (arith, within, on)

    stands : StandsAt text fields start place
    stands =
        let inside = place_inside in
        run_joined text fields start cut.next place cut.within (first_on text at cut.next m cut.marked some) (omega (arith, inside)) (high_before text at cut.next m cut.marked some cut.from) cut.same

    module _ (n : ℕ) (fewer : n < m) (this : bit_at n (trailing_zeros w64 m) ≡ 0) (others : (k : ℕ) → k < 64 → k ≢ trailing_zeros w64 m → bit_at n k ≡ bit_at m k) where
      pub comma_cut : IsUnquoted text → get_or text place 0 ≡ 44 → IsCutting text (fields ++ take (place - start) (drop start text) ∷ []) (place + 1) at n
      comma_cut q comma =
          let t = first_inside text at cut.next m cut.marked some in
          record {
            next = place + 1;
            within = omega arith;
            from = omega arith;
            inside = omega (arith, t);
            same = field_ended text fields start place stands q place_inside comma;
            marked = others_marked text at cut.next m cut.marked some n fewer this others;
          }

      pub byte_joined : get_or text place 0 ≢ 44 → is_line_end (get_or text place 0) ≡ false → IsCutting text fields start at n
      byte_joined comma line =
          let t = first_inside text at cut.next m cut.marked some in
          let within = start_within in
          record {
            next = place + 1;
            within = omega (arith, within);
            from = omega arith;
            inside = omega (arith, t);
            same = joined text fields start place stands start_within place_inside comma line;
            marked = others_marked text at cut.next m cut.marked some n fewer this others;
          }

    pub line_cut : get_or text place 0 ≢ 44 → is_line_end (get_or text place 0) ≡ true → records_of text ≡ (fields ++ take (place - start) (drop start text) ∷ []) ∷ records_after text (place + 1)
    line_cut comma line = line_ended text fields start place stands place_inside comma line
