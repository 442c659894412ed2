use Rattle.std.proofs.Common.{◌≡◌, ◌∙◌, arith}
use Rattle.qp_model.specs.machine.Controller.{numbers}
use Rattle.overflow_check.proofs.Sizes.{length-plan_reach}
use Rattle.c_program.specs.ByMachine.{plans_for}
use Rattle.c_writer.proofs.Held.{plans_times, plans_room}
use Rattle.c_writer.proofs.tops.sum_top.Goals as goal

pub bounds-from-j : goal.bounds-from-j
bounds-from-j c = rw c.args.from.now.plan_tops (omega (arith, length-plan_reach (numbers c.args.from.now.c.now), c.requires.in_range))

pub overflow_mul-result : goal.overflow_mul-result
overflow_mul-result c =
    let m = c.args.from.now in
    let n = numbers m.c.now in
    let s : c.from.result ≡ plans_for m.machine n = c.from.ensures ∙ c.plans_of.ensures.value in
    rw (s, m.plan_tops) (omega (arith, plans_room m.machine n c.args.j m.sound m.fast c.requires.in_range))

pub returns : goal.returns
returns c =
    let m = c.args.from.now in
    let n = numbers m.c.now in
    let s : c.from.result ≡ plans_for m.machine n = c.from.ensures ∙ c.plans_of.ensures.value in
    rw (s, m.plan_tops) (plans_times m.machine n c.args.j)
