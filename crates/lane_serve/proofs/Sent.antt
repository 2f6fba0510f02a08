-- What goes to other threads: a lane's seat, and what the closure of the lanes captures.
use mathlib.Core.List.{[], ◌∷◌}
use denote.RattleType.{RattleType}
use denote.Ref.{NamedLft}
use denote.Struct.Field.{row_field}
use denote.Struct.Tuple.{TupleAt, type_at}
use denote.Param.Send.{IsSend, IsSync, sendable}
use denote.Param.SendFields.{FieldsHave, as_row_send, declared_send, declared_sync}
use Rattle.std.proofs.Crossing.{crosses}
use Rattle.history.specs.declared.law.Naming.{Ghosts}
use Rattle.query_gate.proofs.Sent.{caller_send, edition_sync}
use Rattle.lane_serve.specs.contracts.matrix.Clerk as clerk
use Rattle.lane_serve.specs.contracts.run.Seated as seated
use Rattle.lane_serve.specs.contracts.script.Lane as lane

pub seated_send : (J : RattleType) (g : Ghosts J.Denot) → IsSend (seated.the_row J g)
seated_send J g = search (caller_send, sendable, crosses) depth 40 fits 100000

pub lane_sync : IsSync lane.the_row
lane_sync = search (sendable, crosses) depth 40 fits 100000

-- what answers origins
pub clerk_sync : (κ : NamedLft) → IsSync (clerk.the_row κ)
clerk_sync κ =
    let parts : FieldsHave IsSync (clerk.the_type κ).parts = (
      search (sendable, crosses) depth 40 fits 100000,
      (
        search (sendable, crosses) depth 40 fits 100000,
        (search (edition_sync, sendable, crosses) depth 40 fits 100000, tt),
      ),
    ) in
    declared_sync (clerk.the_type κ) parts

-- five captures, each of which may go
pub captures_send : (A B C D E : RattleType) → IsSend A → IsSend B → IsSend C → IsSend D → IsSend E → IsSend (TupleAt [] (A ∷ B ∷ C ∷ D ∷ E ∷ []))
captures_send A B C D E a b c d e =
    declared_send (type_at [] (A ∷ B ∷ C ∷ D ∷ E ∷ []))
    (as_row_send (row_field A) a, (as_row_send (row_field B) b, (as_row_send (row_field C) c, (as_row_send (row_field D) d, (as_row_send (row_field E) e, tt)))))
