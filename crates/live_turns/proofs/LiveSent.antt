-- What goes to other threads of a process that lives: those of the publisher, and of the lanes.
use mathlib.Core.List.{List, [], ◌∷◌}
use mir.Syntax.{Dict}
use denote.RattleType.{RattleType}
use denote.Struct.Field.{row_field}
use denote.Struct.Tuple.{TupleAt, type_at}
use denote.Ref.{NamedLft}
use denote.Param.Send.{IsSend, IsSync, sendable}
use denote.Param.SendFields.{FieldsHave, as_row_send, declared_send, declared_sync}
use Rattle.std.proofs.Crossing.{crosses}
use Rattle.std.specs.contracts.alloc.Global as global
use Rattle.std.specs.contracts.marker.PhantomData as mark
use Rattle.std.specs.contracts.impls.GlobalAllocator.TheImpl as allocates
use Rattle.std.specs.contracts.option.Option as option
use Rattle.history.specs.declared.law.Naming.{Ghosts}
use Rattle.left_right.proofs.writer.Writer.TheSendSync as writers
use Rattle.left_right.specs.contracts.writer.Writer as writer
use Rattle.edition_store.proofs.Sent.{content_send, content_sync, last_send, last_sync, publishing_send}
use Rattle.edition_store.specs.contracts.content.Content as content
use Rattle.edition_store.specs.contracts.content.ContentAbsorb.TheImpl as absorbs
use Rattle.edition_store.specs.contracts.pinned.Last as last
use Rattle.edition_store.specs.contracts.publisher.Publishing as publishing
use Rattle.edition_store.specs.contracts.publisher.WriterContentContentViewKeptShows.TheImpl as shows
use Rattle.edition_store.specs.contracts.rule.Kept as kept
use Rattle.edition_store.specs.contracts.rule.KeptProtocolContentView.TheImpl as keeps
use Rattle.edition_store.specs.contracts.rule.View as view
use Rattle.query_gate.proofs.Sent.{edition_sync}
use Rattle.live_turns.specs.contracts.live.office.Bureau as bureau
use Rattle.live_turns.specs.contracts.live.news.Became as became
use Rattle.live_turns.specs.contracts.live.news.News as news
use Rattle.live_turns.specs.contracts.live.news.News.TheInside as news_inside
use Rattle.edition_build.specs.contracts.finding.Building as building
use Rattle.edition_build.specs.contracts.plan.PlanItem as item

pub item_sync : IsSync item.the_row
item_sync = search (sendable, crosses) depth 40 fits 100000

pub item_send : IsSend item.the_row
item_send = search (sendable, crosses) depth 40 fits 100000

pub building_sync : IsSync building.the_row
building_sync = search (sendable, crosses) depth 40 fits 100000

became_send : IsSend became.the_row
became_send = search (sendable, crosses) depth 100 fits 1000000

news_inside_send : IsSend news_inside.the_row
news_inside_send =
    let parts : FieldsHave IsSend news_inside.the_type.parts = (
      search (sendable, crosses) depth 40 fits 100000,
      (search (became_send, sendable) depth 40 fits 100000, tt),
    ) in
    declared_send news_inside.the_type parts

pub news_send : IsSend news.the_row
news_send = let i = news_inside_send in record { owned = λ d vs x. (i.owned x.0 vs, tt); leaving = λ k d u. tt }

-- a place of something that may go
pub slot_send : (A : RattleType) → IsSend A → IsSend (option.the_row A)
slot_send A a = search sendable depth 12

pub mark_sync : (T : RattleType) → IsSync (mark.the_row T)
mark_sync T = search (sendable, crosses) depth 12

-- eleven captures, each of which may go
pub eleven_send : (A B C D E F G H I J K : RattleType) → IsSend A → IsSend B → IsSend C → IsSend D → IsSend E → IsSend F → IsSend G → IsSend H → IsSend I → IsSend J → IsSend K → IsSend (TupleAt [] (A ∷ B ∷ C ∷ D ∷ E ∷ F ∷ G ∷ H ∷ I ∷ J ∷ K ∷ []))
eleven_send A B C D E F G H I J K a b c d e f g h i j k =
    declared_send (type_at [] (A ∷ B ∷ C ∷ D ∷ E ∷ F ∷ G ∷ H ∷ I ∷ J ∷ K ∷ []))
    (as_row_send (row_field A) a, (as_row_send (row_field B) b, (as_row_send (row_field C) c, (as_row_send (row_field D) d, (as_row_send (row_field E) e, (as_row_send (row_field F) f, (as_row_send (row_field G) g, (as_row_send (row_field H) h, (as_row_send (row_field I) i, (as_row_send (row_field J) j, (as_row_send (row_field K) k, tt)))))))))))

-- the publisher of a list of editions: the search does not find its row by itself
module _ (A : RattleType) (g : Ghosts A.Denot) (d : Dict) where
  abbrev pub writing : RattleType
  writing = writer.the_row (content.the_row A g) (content.the_row A g) view.the_row kept.the_row global.the_row (content.the_row A g) (absorbs.ghosts A g d) (keeps.ghosts A g d) allocates.ghosts

  writing_send : IsSend writing
  writing_send = search (writers.the_send, content_send, content_sync, sendable, crosses) depth 40 fits 100000

  pub publisher_send : IsSend (publishing.the_row A writing g (shows.ghosts A g d))
  publisher_send = publishing_send A g writing (shows.ghosts A g d) writing_send

  pub left_send : IsSend (last.the_row A g)
  left_send = last_send A g

  pub left_sync : IsSync (last.the_row A g)
  left_sync = last_sync A g

-- what answers the requests of a turn
pub bureau_sync : (κ : NamedLft) (G : RattleType) → IsSync G → IsSync (bureau.the_row κ G)
bureau_sync κ G s =
    let parts : FieldsHave IsSync (bureau.the_type κ G).parts = (
      search (s, sendable, crosses) depth 40 fits 100000,
      (
        search (sendable, crosses) depth 40 fits 100000,
        (
          search (sendable, crosses) depth 40 fits 100000,
          (search (edition_sync, sendable, crosses) depth 40 fits 100000, tt),
        ),
      ),
    ) in
    declared_sync (bureau.the_type κ G) parts
