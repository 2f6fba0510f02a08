use Rattle.std.proofs.Common.{◌≡◌, ◌∙◌, ◌<◌, inl, inr, length, get_or, refl, sym, ap, subst, arith}
use Rattle.tb_base.specs.BestValues.{QueryData}
use Rattle.tb_base.specs.TimetableData.{TimetableData, stop_at}
use Rattle.tb_base.proofs.NumberFacts.{below_or_at}
use Rattle.segment_queue.specs.Queue.{DeskData}
use Rattle.earliest_query.specs.Sweeping.{IsWalkedFrom}
use Rattle.earliest_query.proofs.Following.{get_or-inside}
use Rattle.earliest_query.proofs.FromOrigins.{boarded-kept}
use Rattle.earliest_query.proofs.Growing.{extends-refl, extends-trans}
use Rattle.earliest_query.proofs.search.Search.start_level.Goals as goal

pub loop-origin-init : goal.loop-origin-init
loop-origin-init g c = record {
  queue = c.requires.queue;
  extends = extends-refl c.args.desk.now 1;
  walked = λ k d below. absurd (omega (arith, below));
  still = λ h. h;
}

pub loop-origin-preserved : goal.loop-origin-preserved
loop-origin-preserved g c =
    let T : TimetableData = (g.S.Scan.net c.args.self.now.scan.now).table in
    let Q : QueryData = c.args.self.now.query.now in
    let E : DeskData = c.loop-origin.desk in
    let F : DeskData = c.start_from.new.desk in
    let items = c.origins-origin-items.result.now in
    let more = c.in_ok-start_from.ensures in
    record {
      queue = more.queue;
      extends = extends-trans c.args.desk.now E F 1 c.loop-origin.invariant.extends more.extends;
      walked = λ i d below. elim (below_or_at i c.loop-origin.origin-index below) [
        | inl before ↦ λ stop secs walks. boarded-kept T Q E F stop secs more.extends (c.loop-origin.invariant.walked i d before stop secs walks)
        | inr e ↦ subst (IsWalkedFrom T Q F) (sym (get_or-inside items c.loop-origin.origin-index d c.origin-item.result c.loop-origin-test.true ∙ sym c.origin-item.is) ∙ ap (λ m. get_or items m d) (sym e)) more.boarded
      ];
      still = λ h. more.still (c.loop-origin.invariant.still h);
    }

pub returns-clause-starts : goal.returns-clause-starts
returns-clause-starts g c = λ p t b secs from boards not_last walks in_time.
    let T : TimetableData = (g.S.Scan.net c.args.self.now.scan.now).table in
    let items = c.origins-origin-items.result.now in
    let before : from.0 < c.loop-origin.origin-index = omega (arith, from.1, ap length c.origins-origin-items.ensures, c.loop-origin-test.false) in
    let is : get_or items from.0 p ≡ p = ap (λ xs. get_or xs from.0 p) c.origins-origin-items.ensures ∙ from.2 in
    subst (IsWalkedFrom T c.args.self.now.query.now c.loop-origin.desk) is (c.loop-origin.invariant.walked from.0 p before) (stop_at T t b) secs walks t b boards not_last refl in_time
