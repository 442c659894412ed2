use Rattle.std.proofs.Common.{◌≡◌, true, false, refl}
use Rattle.std.proofs.lemmas.Result.{err_from_is_err_and}
use Rattle.qp_model.specs.machine.Controller.{numbers}
use Rattle.settle_check.specs.Certificates.{certificate_of}
use Rattle.settle_check.specs.Tubes.{tube_at}
use Rattle.settle_check.proofs.SettleFacts.{moved}
use Rattle.settle_check.proofs.settle.test_tubes.Goals as goal

pub rows_have_room-requires-clause-still : goal.rows_have_room-requires-clause-still
rows_have_room-requires-clause-still c = c.requires.certificate.still

pub test_still-requires-clause-low : goal.test_still-requires-clause-low
test_still-requires-clause-low c = rw c.deref.ensures.value c.requires.certificate.still.low

pub test_still-requires-clause-high : goal.test_still-requires-clause-high
test_still-requires-clause-high c = rw c.deref-2.ensures.value c.requires.certificate.still.high

pub returns-then-not-rows_have_room-clause-fault : goal.returns-then-not-rows_have_room-clause-fault
returns-then-not-rows_have_room-clause-fault c = λ room. (let e : false ≡ true = c.if-not-rows_have_room.ensures.1 room in cc)

pub returns-in_err-test_still-clause-fault : goal.returns-in_err-test_still-clause-fault
returns-in_err-test_still-clause-fault c =
    let e = err_from_is_err_and c.from_residual.result c.from_residual.ensures.1 in
    rw (e.1, e.2) (moved (numbers c.args.c.now) (certificate_of c.args.certificate.now) (tube_at c.args.there.now) (tube_at c.args.again.now) _
    (c.if-not-rows_have_room.ensures.0 refl) (rw (c.deref.ensures.value, c.deref-2.ensures.value) at c.in_err-test_still.ensures.fault))

pub test_turns-requires-clause-certificate : goal.test_turns-requires-clause-certificate
test_turns-requires-clause-certificate c = rw c.requires.certificate.still.low c.requires.certificate

pub test_turns-requires-clause-tube : goal.test_turns-requires-clause-tube
test_turns-requires-clause-tube c = rw c.requires.certificate.still.low c.requires.there

pub returns-in-Err-clause-fault : goal.returns-in-Err-clause-fault
returns-in-Err-clause-fault c =
    rw c.unsettled.ensures
    (c.if-not-rows_have_room.ensures.0 refl, rw (c.deref.ensures.value, c.deref-2.ensures.value) at c.in_ok-test_still.ensures.still, rw c.requires.certificate.still.low at c.in-Err.ensures.beyond)

pub returns-in-Err-test_turns-clause-fault : goal.returns-in-Err-test_turns-clause-fault
returns-in-Err-test_turns-clause-fault c =
    rw c.no_return.ensures (
      c.if-not-rows_have_room.ensures.0 refl,
      rw (c.deref.ensures.value, c.deref-2.ensures.value) at c.in_ok-test_still.ensures.still,
      rw c.requires.certificate.still.low at c.in_default.ensures.inside,
      rw c.requires.certificate.still.low at c.in-Err-test_turns.ensures.beyond,
    )

pub returns-clause-passes : goal.returns-clause-passes
returns-clause-passes c = record {
  room = c.if-not-rows_have_room.ensures.0 refl;
  still = rw (c.deref.ensures.value, c.deref-2.ensures.value) at c.in_ok-test_still.ensures.still;
  there = rw c.requires.certificate.still.low at c.in_default.ensures.inside;
  again = rw c.requires.certificate.still.low at c.in_default-test_turns.ensures.inside;
}
