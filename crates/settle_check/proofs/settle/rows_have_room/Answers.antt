use Rattle.std.proofs.Common.{◌≡◌, below_more, arith, refl}
use Rattle.settle_check.proofs.settle.rows_have_room.Goals as goal

pub returns : goal.returns
returns c =
    let e : c.loop-i.i ≡ c.args.c.now.m = omega (arith, c.loop-i.auto.i-end, c.loop-i-test.false) in
    (λ t. (rw e at c.loop-i.invariant.room), λ h. refl)

pub loop-i-preserved : goal.loop-i-preserved
loop-i-preserved c =
    let room = rw (c.deref.ensures.value, c.deref-in-loop-i.ensures.value) at c.still_sum.ensures.room in
    record { end = c.loop-i.invariant.end; room = below_more _ _ c.loop-i.invariant.room (room.0 c.if-is_none.ensures) }
