use Rattle.std.proofs.Common.{◌≡◌, ℕ, ◌<◌, List, length, get_or, arith, ℤ, pos, ◌+ℤ◌}
use Rattle.std.proofs.lemmas.List.Elements.{at_read}
use Rattle.tb_base.specs.declared.table.Path.{Path}
use Rattle.tb_base.specs.Profiles.{WindowData}
use Rattle.query_gate.specs.Leaving.{DepartsAt, HaveJoined, IsWithin}
use Rattle.query_gate.proofs.FromOrigin.{LeavesBy, no_path}
use Rattle.query_gate.proofs.Gathering.{paths_gathered}
use Rattle.query_gate.proofs.Joining.{joined_both, joined_more}
use Rattle.query_gate.proofs.leaving.gather_from.Goals as goal

pub loop-path-preserved : goal.loop-path-preserved
loop-path-preserved g c =
    let T = c.args.table.now in
    let W : WindowData = c.args.window.now in
    let paths : List Path = c.paths-path-items.result.now in
    let times : List ℤ = c.loop-path.times.items in
    let new : List ℤ = c.gather_at-in-loop-path.new.times.items in
    joined_more (λ k n. IsWithin W n × LeavesBy T (get_or paths k no_path) n) c.loop-path.path-index c.gather_at.new.times.items times new c.loop-path.invariant
    (at_read paths (λ (f : Path). HaveJoined (λ n. IsWithin W n × LeavesBy T f n) times new) c.loop-path.path-index c.path-item.result c.loop-path-test.true c.path-item.is c.in_ok-gather_at-2.ensures no_path)

pub returns : goal.returns
returns g c =
    let T = c.args.table.now in
    let W : WindowData = c.args.window.now in
    let paths : List Path = c.paths-path-items.result.now in
    let old : List ℤ = c.args.times.now.items in
    let times : List ℤ = c.loop-path.times.items in
    let all : c.loop-path.path-index ≡ length paths = omega arith in
    paths_gathered T W c.args.origin paths c.paths-path-items.ensures.paths c.paths-path-items.ensures.ascending c.paths-path-items.ensures.sound c.loop-path.path-index old times all
    (joined_both (λ n. IsWithin W n × DepartsAt T c.args.origin (n +ℤ pos 0)) (λ n. (k : ℕ) × (k < c.loop-path.path-index) × (IsWithin W n × LeavesBy T (get_or paths k no_path) n)) old c.gather_at.new.times.items times c.in_ok-gather_at.ensures c.loop-path.invariant)
