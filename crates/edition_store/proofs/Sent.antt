-- What goes to other threads: the parts of a store. The search does not find the publisher's row by itself, since its writer is a parameter.
use denote.RattleType.{RattleType}
use denote.Param.Send.{IsSend, IsSync, sendable}
use denote.Param.SendFields.{FieldsHave, declared_send}
use Rattle.edition_store.specs.contracts.publisher.Publishing.TheInside as inside
use Rattle.std.proofs.Crossing.{crosses}
use Rattle.left_right.proofs.reader.Reader.TheSendSync as readers
use Rattle.history.specs.declared.law.Naming.{Ghosts}
use Rattle.history.proofs.Sent.{front_send, front_sync, history_send}
use Rattle.edition_store.specs.declared.publisher.Shows as shows
use Rattle.edition_store.specs.contracts.content.Content as content
use Rattle.edition_store.specs.contracts.edition.Edition as edition
use Rattle.edition_store.specs.contracts.network.Network as network
use Rattle.edition_store.specs.contracts.pinned.Last as last
use Rattle.edition_store.specs.contracts.pinned.Pinned as pinned
use Rattle.edition_store.specs.contracts.pinned.Receipt as receipt
use Rattle.edition_store.specs.contracts.publisher.Publishing as publishing
use Rattle.edition_store.specs.contracts.seat.Seat as seat
use Rattle.edition_store.specs.contracts.shared.Shared as shared

network_send : IsSend network.the_row
network_send = search (sendable, crosses) depth 40 fits 100000

network_sync : IsSync network.the_row
network_sync = search (sendable, crosses) depth 40 fits 100000

edition_send : IsSend edition.the_row
edition_send = search (network_send, sendable, crosses) depth 40 fits 100000

edition_sync : IsSync edition.the_row
edition_sync = search (network_sync, sendable, crosses) depth 40 fits 100000

pub shared_send : IsSend shared.the_row
shared_send = search (edition_send, edition_sync, sendable, crosses) depth 40 fits 100000

pub shared_sync : IsSync shared.the_row
shared_sync = search (edition_send, edition_sync, sendable, crosses) depth 40 fits 100000

module _ (J : RattleType) (g : Ghosts J.Denot) where
  pub content_send : IsSend (content.the_row J g)
  content_send = search (front_send, shared_send, shared_sync, sendable, crosses) depth 40 fits 100000

  pub content_sync : IsSync (content.the_row J g)
  content_sync = search (front_sync, shared_send, shared_sync, sendable, crosses) depth 40 fits 100000

  pub pinned_send : IsSend (pinned.the_row J g)
  pinned_send = search (content_send, sendable) depth 40 fits 100000

  pub receipt_send : IsSend (receipt.the_row J g)
  receipt_send = search (content_send, sendable) depth 40 fits 100000

  pub last_send : IsSend (last.the_row J g)
  last_send = search (content_send, sendable) depth 40 fits 100000

  pub last_sync : IsSync (last.the_row J g)
  last_sync = search (content_sync, sendable) depth 40 fits 100000

  pub seat_send : IsSend (seat.the_row J g)
  seat_send = search (readers.the_send, content_send, content_sync, sendable, crosses) depth 40 fits 100000

  inside_send : (W : RattleType) (s : shows.Ghosts W.Denot) → IsSend W → IsSend (inside.the_row J W g s)
  inside_send W s w =
      let parts : FieldsHave IsSend (inside.the_type J W g s).parts = (
        search (history_send, sendable) depth 40 fits 100000,
        (
          search (content_send, sendable) depth 40 fits 100000,
          (search (w, sendable) depth 40 fits 100000, tt),
        ),
      ) in
      declared_send (inside.the_type J W g s) parts

  pub publishing_send : (W : RattleType) (s : shows.Ghosts W.Denot) → IsSend W → IsSend (publishing.the_row J W g s)
  publishing_send W s w = let i = inside_send W s w in record { owned = λ d vs x. (i.owned x.0 vs, tt); leaving = λ k d u. tt }
