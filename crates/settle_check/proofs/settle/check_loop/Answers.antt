use Rattle.std.proofs.Common.{inr}
use Rattle.std.proofs.lemmas.Result.{err_from_is_err_and}
use Rattle.settle_check.specs.Course.{tube_of}
use Rattle.settle_check.specs.Certificates.{state_box, certificate_of}
use Rattle.settle_check.proofs.SettleFacts.{turns_of, start_room, rest_room, costs_room, costs_are, told, passed, rest_is, states_are}
use Rattle.settle_check.proofs.settle.check_loop.Goals as goal

pub tube_from-requires : goal.tube_from-requires
tube_from-requires c = c.requires.certificate.start

pub tube_from-requires-2 : goal.tube_from-requires-2
tube_from-requires-2 c = c.requires.certificate.rest

pub returns-in_err-there-clause-fault : goal.returns-in_err-there-clause-fault
returns-in_err-there-clause-fault c =
    let l = c.args.closed.now in
    let s = certificate_of c.args.certificate.now in
    let e = err_from_is_err_and c.from_residual.result c.from_residual.ensures.1 in
    rw (e.1, e.2) (start_room l s (states_are l c.args.certificate.now c.requires.low c.requires.high) _ c.in_err-there.ensures.fault)

pub returns-in_err-again-clause-fault : goal.returns-in_err-again-clause-fault
returns-in_err-again-clause-fault c =
    let l = c.args.closed.now in
    let s = certificate_of c.args.certificate.now in
    let e = err_from_is_err_and c.from_residual-in_err-again.result c.from_residual-in_err-again.ensures.1 in
    rw (e.1, e.2) (rest_room l s (states_are l c.args.certificate.now c.requires.low c.requires.high) _ c.in_err-again.ensures.fault)

pub returns-in_err-costs-clause-fault : goal.returns-in_err-costs-clause-fault
returns-in_err-costs-clause-fault c =
    let l = c.args.closed.now in
    let s = certificate_of c.args.certificate.now in
    let e = err_from_is_err_and c.from_residual-in_err-costs.result c.from_residual-in_err-costs.ensures.1 in
    rw (e.1, e.2) (costs_room l s (states_are l c.args.certificate.now c.requires.low c.requires.high) _ c.in_err-costs.ensures.fault)

pub returns-clause-costs : goal.returns-clause-costs
returns-clause-costs c =
    let l = c.args.closed.now in
    let s = certificate_of c.args.certificate.now in
    costs_are l s (states_are l c.args.certificate.now c.requires.low c.requires.high) c.in_ok-costs.costs c.in_ok-costs.ensures.value

pub returns-in_err-test_tubes-clause-fault : goal.returns-in_err-test_tubes-clause-fault
returns-in_err-test_tubes-clause-fault c =
    let l = c.args.closed.now in
    let s = certificate_of c.args.certificate.now in
    let e = err_from_is_err_and c.from_residual-in_err-test_tubes.result c.from_residual-in_err-test_tubes.ensures.1 in
    rw (e.1, e.2) (inr (told l s (states_are l c.args.certificate.now c.requires.low c.requires.high) c.in_ok-there.there c.in_ok-again.again c.in_ok-there.ensures.value c.in_ok-again.ensures.value
    c.in_ok-there.ensures.room c.in_ok-again.ensures.room c.in_ok-costs.ensures.room _ c.in_err-test_tubes.ensures.fault))

pub test_tubes-requires-clause-sized : goal.test_tubes-requires-clause-sized
test_tubes-requires-clause-sized c = c.args.closed.now.sized

pub test_tubes-requires-clause-certificate : goal.test_tubes-requires-clause-certificate
test_tubes-requires-clause-certificate c = rw (← c.args.closed.now.matched.states) c.requires.certificate

pub test_tubes-requires-clause-there : goal.test_tubes-requires-clause-there
test_tubes-requires-clause-there c =
    rw (← c.args.closed.now.matched.states) (turns_of c.args.closed.now.parts.now.states c.args.certificate.now.turns (tube_of c.args.closed.now (state_box c.args.certificate.now.start)) c.in_ok-there.there c.in_ok-there.ensures.value)

pub test_tubes-requires-clause-again : goal.test_tubes-requires-clause-again
test_tubes-requires-clause-again c =
    rw (← c.args.closed.now.matched.states) (turns_of c.args.closed.now.parts.now.states c.args.certificate.now.back (tube_of c.args.closed.now (state_box c.args.certificate.now.rest)) c.in_ok-again.again c.in_ok-again.ensures.value)

pub hull_of-requires-clause-tube : goal.hull_of-requires-clause-tube
hull_of-requires-clause-tube c =
    let h = turns_of c.args.closed.now.parts.now.states c.args.certificate.now.back (tube_of c.args.closed.now (state_box c.args.certificate.now.rest)) c.in_ok-again.again c.in_ok-again.ensures.value in
    rw h.low_rows h

pub returns-clause-rest : goal.returns-clause-rest
returns-clause-rest c =
    let l = c.args.closed.now in
    let s = certificate_of c.args.certificate.now in
    rest_is l s (states_are l c.args.certificate.now c.requires.low c.requires.high) c.in_ok-again.again c.in_ok-rest.rest c.requires.certificate.some c.in_ok-again.ensures.value c.in_ok-rest.ensures

pub returns-clause-passes : goal.returns-clause-passes
returns-clause-passes c =
    let l = c.args.closed.now in
    let s = certificate_of c.args.certificate.now in
    passed l s (states_are l c.args.certificate.now c.requires.low c.requires.high) c.in_ok-there.there c.in_ok-again.again c.in_ok-there.ensures.value c.in_ok-again.ensures.value
    c.in_ok-there.ensures.room c.in_ok-again.ensures.room c.in_ok-costs.ensures.room c.in_ok-test_tubes.ensures.passes
