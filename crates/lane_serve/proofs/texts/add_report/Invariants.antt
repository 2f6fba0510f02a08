use Rattle.std.proofs.Common.{◌≡◌, ◌++◌, take, flat_map}
use Rattle.lane_serve.specs.Texts.{answered_text}
use Rattle.lane_serve.proofs.texts.add_report.Given as goal

abbrev pub invariant-loop-reply : goal.invariant-loop-reply
invariant-loop-reply l =
    l.text ≡ l.initial.text ++ flat_map answered_text (take l.reply-index l.report.replies)
