-- Beginnings of a history, and the right to add to it, say the same to every thread.
use denote.RattleType.{RattleType}
use denote.Param.Send.{IsSend, IsSync, sendable}
use Rattle.std.proofs.Crossing.{crosses}
use Rattle.logbook.proofs.tokens.Seen.TheSendSync as seen
use Rattle.logbook.proofs.tokens.Pen.TheSendSync as pens
use Rattle.logbook.proofs.word.Word.TheSendSync as words
use Rattle.history.specs.declared.law.Naming.{Ghosts}
use Rattle.history.specs.contracts.front.Front as front
use Rattle.history.specs.contracts.pen.History as history

pub front_send : (E J : RattleType) (g : Ghosts J.Denot) → IsSend (front.the_row E J g)
front_send E J g = search (seen.the_send, sendable, crosses) depth 40 fits 100000

pub front_sync : (E J : RattleType) (g : Ghosts J.Denot) → IsSync (front.the_row E J g)
front_sync E J g = search (seen.the_sync, sendable, crosses) depth 40 fits 100000

pub history_send : (E J : RattleType) (g : Ghosts J.Denot) → IsSend (history.the_row E J g)
history_send E J g = search (seen.the_send, pens.the_send, words.the_send, sendable, crosses) depth 40 fits 100000
