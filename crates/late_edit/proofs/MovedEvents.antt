-- Events of a trip that are moved.
use Rattle.std.proofs.Common.{◌≡◌, ◌∙◌, sym, ap, refl, ℕ, ◌+◌, ◌-◌, ◌<◌, ◌≤◌, List, ◌++◌, length, get_or, map, take, drop, true, false, arith}
use Rattle.std.specs.Prelude.{nat_lt, int_lt, Ok, Err}
use Rattle.std.specs.List.{list_any}
use Rattle.std.proofs.lemmas.Bool.Decides.{nat_tests}
use Rattle.std.proofs.lemmas.List.{get_or-append_right, get_or-drop, get_or-map, get_or-take, get_or_append_left, length-drop, length-take-le, get_or_default, take_rest}
use Rattle.std.proofs.lemmas.List.Folds.{list_any_at}
use Rattle.tb_base.specs.declared.table.Event.{Event}
use Rattle.tb_base.specs.TimetableData.{no_event}
use Rattle.tb_base.proofs.Lists.{list_any-over_map}
use Rattle.late_edit.specs.Amended.{events_moved, has_time_outside, is_over_a_day, is_reached_early, delayed, moved_from}
use Rattle.late_edit.specs.UpdateData.{LateData}
use Rattle.late_edit.specs.declared.late.LateFault.TheVariants as fault

-- one event that leaves the limits settles it
pub outside_at : (secs : Rattle.std.proofs.Common.ℤ) (es : List Event) (i : ℕ) (d : Event) → i < length es → has_time_outside (delayed secs (get_or es i d)) ≡ true → list_any has_time_outside (map (delayed secs) es) ≡ true
outside_at secs es i d inside at = list_any-over_map has_time_outside (delayed secs) es ∙ list_any_at (λ e. has_time_outside (delayed secs e)) es i d inside at

-- the part of a list from a place on
pub rest_is : (es : List Event) (i j : ℕ) → i ≡ j → take (length es - i) (drop i es) ≡ drop j es
rest_is es i j same = take_rest es i ∙ ap (λ k. drop k es) same

-- an event at or behind the first that is moved, and one before it
module _ (from : ℕ) (secs : Rattle.std.proofs.Common.ℤ) (es : List Event) (within : from ≤ length es) where
  before : length (take from es) ≡ from
  before = length-take-le from es within

  pub moved_at : (i : ℕ) (d e : Event) → from ≤ i → i < length es → get_or (moved_from from secs es) i d ≡ delayed secs (get_or es i e)
  moved_at i d e behind inside =
      let long : length (drop from es) ≡ length es - from = length-drop from es in
      let back : from + (i - from) ≡ i = omega (arith, behind) in
      get_or-append_right (take from es) (map (delayed secs) (drop from es)) from i d before behind
      ∙ (get_or-map (delayed secs) (drop from es) (i - from) e d (omega (arith, long, behind, inside))
      ∙ ap (delayed secs) (get_or-drop from es (i - from) e ∙ ap (λ k. get_or es k e) back))

  pub kept_at : (i : ℕ) (d : Event) → i < from → get_or (moved_from from secs es) i d ≡ get_or es i d
  kept_at i d ahead =
      get_or_append_left (take from es) (map (delayed secs) (drop from es)) d i (omega (arith, before, ahead)) ∙ get_or-take from es i d ahead

  -- whether the first moved event is reached early
  pub early_is : (e d : Event) → 0 < from → from < length es → int_lt (delayed secs (get_or es from e)).arr (get_or es (from - 1) d).dep ≡ is_reached_early (moved_from from secs es) from
  early_is e d some inside =
      let there : nat_lt 0 from ≡ true = grind (arith, nat_tests, some) in
      let ahead : from - 1 < from = omega (arith, some) in
      let below : from - 1 < length es = omega (arith, ahead, inside) in
      let one : get_or (moved_from from secs es) from no_event ≡ delayed secs (get_or es from e) = moved_at from no_event e (omega arith) inside in
      let two : get_or (moved_from from secs es) (from - 1) no_event ≡ get_or es (from - 1) d = kept_at (from - 1) no_event ahead ∙ get_or_default es (from - 1) no_event d below in
      rw there (λ i. int_lt (sym one i).arr (sym two i).dep)

-- the faults of a late, and what it gives where it has none
module _ (late : LateData) (es : List Event) (inside : late.from < length es) where
  here : nat_lt late.from (length es) ≡ true
  here = grind (arith, nat_tests, inside)

  pub over_a_day : is_over_a_day late.secs ≡ true → events_moved late es ≡ Err (fault.OutOfRange late.line)
  over_a_day over = rw (here, over) refl

  module _ (within : is_over_a_day late.secs ≡ false) where
    pub leaves_limits : list_any has_time_outside (map (delayed late.secs) (drop late.from es)) ≡ true → events_moved late es ≡ Err (fault.OutOfRange late.line)
    leaves_limits leave = rw (here, within, leave) refl

    module _ (kept : list_any has_time_outside (map (delayed late.secs) (drop late.from es)) ≡ false) where
      pub runs_back : is_reached_early (moved_from late.from late.secs es) late.from ≡ true → events_moved late es ≡ Err (fault.TimeRunsBack late.line)
      runs_back early = rw (here, within, kept, early) refl

      pub is_moved : is_reached_early (moved_from late.from late.secs es) late.from ≡ false → events_moved late es ≡ Ok (moved_from late.from late.secs es)
      is_moved later = rw (here, within, kept, later) refl
