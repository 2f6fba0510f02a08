use Rattle.std.proofs.Common.{◌∙◌, subst, arith}
use Rattle.std.specs.Prelude.{IfSome}
use Rattle.journey_read.specs.Calls.{HoldsCalls, first_begin, first_end}
use Rattle.journey_read.proofs.CallEnds.{begins_and_ends, board_inside, first_told, never_begins, never_ends}
use Rattle.journey_read.proofs.rides.Ends.among_calls.Goals as goal

pub returns-in_err-board : goal.returns-in_err-board
returns-in_err-board c =
    let ends = c.args.self.now in
    let events = c.args.events.now in
    let calls = c.in-Some.calls.now in
    let holds : HoldsCalls events calls = subst (λ o. IfSome o (λ d. HoldsCalls events d.now)) c.in-Some.is c.requires.calls in
    let first = first_told c.as_slice.result.now calls.departures.items c.first_begin.result (first_begin ends) c.first_call.result _ c.as_slice.ensures.value c.first_begin.ensures c.in_err-board.was c.first_call.ensures in
    c.from_residual.ensures ∙ never_begins ends events calls holds first

pub first_end-requires : goal.first_end-requires
first_end-requires c =
    let ends = c.args.self.now in
    let events = c.args.events.now in
    let calls = c.in-Some.calls.now in
    let board = c.in_ok-board.board in
    let holds : HoldsCalls events calls = subst (λ o. IfSome o (λ d. HoldsCalls events d.now)) c.in-Some.is c.requires.calls in
    let first = first_told c.as_slice.result.now calls.departures.items c.first_begin.result (first_begin ends) c.first_call.result _ c.as_slice.ensures.value c.first_begin.ensures c.in_ok-board.was c.first_call.ensures in
    let inside = board_inside ends events calls holds board first in
    omega (arith, inside, c.requires.count)

pub returns-in_err-alight : goal.returns-in_err-alight
returns-in_err-alight c =
    let ends = c.args.self.now in
    let events = c.args.events.now in
    let calls = c.in-Some.calls.now in
    let board = c.in_ok-board.board in
    let holds : HoldsCalls events calls = subst (λ o. IfSome o (λ d. HoldsCalls events d.now)) c.in-Some.is c.requires.calls in
    let first = first_told c.as_slice.result.now calls.departures.items c.first_begin.result (first_begin ends) c.first_call.result _ c.as_slice.ensures.value c.first_begin.ensures c.in_ok-board.was c.first_call.ensures in
    let last = first_told c.as_slice-2.result.now calls.arrivals.items c.first_end.result (first_end ends board) c.first_call-2.result _ c.as_slice-2.ensures.value c.first_end.ensures c.in_err-alight.was c.first_call-2.ensures in
    c.from_residual-in_err-alight.ensures ∙ never_ends ends events calls holds board first last

pub returns : goal.returns
returns c =
    let ends = c.args.self.now in
    let events = c.args.events.now in
    let calls = c.in-Some.calls.now in
    let board = c.in_ok-board.board in
    let holds : HoldsCalls events calls = subst (λ o. IfSome o (λ d. HoldsCalls events d.now)) c.in-Some.is c.requires.calls in
    let first = first_told c.as_slice.result.now calls.departures.items c.first_begin.result (first_begin ends) c.first_call.result _ c.as_slice.ensures.value c.first_begin.ensures c.in_ok-board.was c.first_call.ensures in
    let last = first_told c.as_slice-2.result.now calls.arrivals.items c.first_end.result (first_end ends board) c.first_call-2.result _ c.as_slice-2.ensures.value c.first_end.ensures c.in_ok-alight.was c.first_call-2.ensures in
    begins_and_ends ends events calls holds board first c.in_ok-alight.alight last
