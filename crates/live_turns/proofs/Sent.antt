-- What is given and taken crosses threads where the things may. The search does not find these rows by itself, since the things are a parameter.
use denote.RattleType.{RattleType}
use denote.Param.Send.{IsSend, sendable}
use denote.Param.SendFields.{FieldsHave, declared_send}
use Rattle.std.proofs.Crossing.{crosses}
use Rattle.history.specs.declared.law.Naming.{Ghosts}
use Rattle.history.proofs.Sent.{front_send, history_send}
use Rattle.live_turns.specs.contracts.handed.Handed as handed
use Rattle.live_turns.specs.contracts.handed.Handed.TheInside as inside
use Rattle.live_turns.specs.contracts.giver.Given as given
use Rattle.live_turns.specs.contracts.giver.Giver as giver
use Rattle.live_turns.specs.contracts.taker.Taker as taker

module _ (T J : RattleType) (g : Ghosts J.Denot) (t : IsSend T) where
  handed_inside : IsSend (inside.the_row T J g)
  handed_inside =
      let parts : FieldsHave IsSend (inside.the_type T J g).parts = (
        search (sendable, crosses) depth 40 fits 100000,
        (
          search (t, sendable) depth 40 fits 100000,
          (search (front_send, sendable) depth 40 fits 100000, tt),
        ),
      ) in
      declared_send (inside.the_type T J g) parts

  pub handed_send : IsSend (handed.the_row T J g)
  handed_send = let i = handed_inside in record { owned = λ d vs x. (i.owned x.0 vs, tt); leaving = λ k d u. tt }

  pub given_send : IsSend (given.the_row T J g)
  given_send = search (history_send, sendable) depth 40 fits 100000

  pub giver_send : IsSend (giver.the_row T J g)
  giver_send = search (history_send, handed_send, sendable, crosses) depth 40 fits 100000

  pub taker_send : IsSend (taker.the_row T J g)
  taker_send = search (front_send, handed_send, sendable, crosses) depth 40 fits 100000
