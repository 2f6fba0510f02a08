use Rattle.std.proofs.Common.{◌≡◌, ◌++◌, flat_map, take}
use Rattle.reach_all.specs.TimesText.{duration_text}
use Rattle.reach_all.proofs.travel_text.add_durations.Given as goal

abbrev pub invariant-loop-time : goal.invariant-loop-time
invariant-loop-time l = l.text ≡ l.fn.text ++ flat_map duration_text (take l.time-index l.times)
