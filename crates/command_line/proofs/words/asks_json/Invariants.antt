use Rattle.std.proofs.Common.{◌≡◌, drop, map, string_bytes}
use Rattle.command_line.specs.Requests.{asks_json}
use Rattle.command_line.proofs.words.asks_json.Given as goal

abbrev pub invariant-loop-word : goal.invariant-loop-word
invariant-loop-word l = asks_json (map string_bytes l.words) ≡ asks_json (map string_bytes (drop l.word-index l.words))
