-- What goes to other threads: a caller; and what lanes share, an edition.
use mathlib.Core.Bool.{Bool, true, false}
use denote.Exit.{Exit, if_kept, unseen}
use denote.RattleType.{RattleType}
use denote.Param.Send.{IsSend, IsSync, Quiet, sendable}
use Rattle.std.proofs.Crossing.{crosses}
use Rattle.history.specs.declared.law.Naming.{Ghosts}
use Rattle.edition_store.proofs.Sent.{seat_send}
use Rattle.edition_store.specs.contracts.edition.Edition as edition
use Rattle.edition_store.specs.contracts.network.Network as network
use Rattle.query_gate.specs.contracts.caller.Caller as caller

pub caller_send : (J : RattleType) (g : Ghosts J.Denot) → IsSend (caller.the_row J g)
caller_send J g = search (seat_send, sendable, crosses) depth 40 fits 100000

network_sync : IsSync network.the_row
network_sync = search (sendable, crosses) depth 40 fits 100000

-- what lanes share: an edition
pub edition_sync : IsSync edition.the_row
edition_sync = search (network_sync, sendable, crosses) depth 40 fits 100000

-- what is left at an end that may be seen
pub quiet_either : {D : Type 0} (seen : Bool) (e : Exit D) → Quiet e → Quiet (if_kept seen e unseen)
quiet_either true e q = q
quiet_either false e q = λ x w. tt
