use Rattle.std.proofs.Common.{◌≡◌, ◌++◌, take, flat_map}
use Rattle.lane_serve.specs.Json.{answered_json}
use Rattle.lane_serve.proofs.json.add_replies.Given as goal

abbrev pub invariant-loop-reply : goal.invariant-loop-reply
invariant-loop-reply l = l.text ≡ l.fn.text ++ flat_map (answered_json l.name) (take l.reply-index l.replies)
