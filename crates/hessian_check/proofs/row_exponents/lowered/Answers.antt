use Rattle.std.proofs.Common.{◌≡◌, ◌-◌, ◌<◌, length, arith, rules}
use Rattle.qp_model.specs.problem.Parts.{design_of}
use Rattle.hessian_check.proofs.LoweringLaws.{refused_next, sums_along, taken_all, taken_more}
use Rattle.hessian_check.proofs.RowLaws.{not_true}
use Rattle.hessian_check.proofs.row_exponents.lowered.Goals as goal

pub loop-k-init : goal.loop-k-init
loop-k-init c =
    let s = c.args.s in
    record {
      cost = c.requires.cost;
      accepted = λ p f e low high. absurd (omega arith);
      sums = sums_along c.args.c.now c.args.before.now (length c.args.before.now) s c.args.sums.now.mid c.args.sums.now.rad s (s - 0) (omega arith) c.requires.sums;
    }

pub try_lower-requires-clause-form : goal.try_lower-requires-clause-form
try_lower-requires-clause-form c = c.requires.form

pub try_lower-requires-clause-ready : goal.try_lower-requires-clause-ready
try_lower-requires-clause-ready c = c.requires.ready

pub try_lower-requires-clause-small : goal.try_lower-requires-clause-small
try_lower-requires-clause-small c = omega (arith, c.loop-k-test.true, c.min-most.ensures)

pub try_lower-requires-clause-below : goal.try_lower-requires-clause-below
try_lower-requires-clause-below c = omega (arith, c.loop-k-test.true, c.min-most.ensures)

pub try_lower-requires-clause-cost : goal.try_lower-requires-clause-cost
try_lower-requires-clause-cost c = c.loop-k.invariant.cost

pub try_lower-requires-clause-sums : goal.try_lower-requires-clause-sums
try_lower-requires-clause-sums c = c.loop-k.invariant.sums

pub returns-then-not-branch-clause-cost : goal.returns-then-not-branch-clause-cost
returns-then-not-branch-clause-cost c = c.in_ok-try_lower.ensures.cost

pub returns-then-not-branch-clause-lowered : goal.returns-then-not-branch-clause-lowered
returns-then-not-branch-clause-lowered c = λ p f.
    let es = c.args.before.now in
    let small : c.loop-k.k < 4 = omega (arith, c.loop-k-test.true, c.min-most.ensures) in
    refused_next (design_of p) c.args.s es (length es) c.loop-k.k (c.loop-k.invariant.accepted p f) small (λ a. not_true (rw c.if-not-branch.true at ((c.in_ok-try_lower.ensures.accepted p f).1 a)))

pub returns-then-not-branch-clause-sums : goal.returns-then-not-branch-clause-sums
returns-then-not-branch-clause-sums c = rw (c.in_ok-try_lower.ensures.refused (rw c.if-not-branch.true not_true)) c.loop-k.invariant.sums

pub loop-k-preserved : goal.loop-k-preserved
loop-k-preserved c = record {
  cost = c.in_ok-try_lower.ensures.cost;
  accepted = λ p f.
      (let es = c.args.before.now in
      taken_more (design_of p) c.args.s es (length es) c.loop-k.k (c.loop-k.invariant.accepted p f) ((c.in_ok-try_lower.ensures.accepted p f).0 (rw c.if-not-branch.false (search rules))));
  sums = c.in_ok-try_lower.ensures.lowered (rw c.if-not-branch.false (search rules));
}

pub returns-clause-lowered : goal.returns-clause-lowered
returns-clause-lowered c = λ p f.
    let q : c.loop-k.k ≡ c.min-most.result = omega arith in
    taken_all (design_of p) c.args.s c.args.before.now (length c.args.before.now) c.loop-k.k (c.loop-k.invariant.accepted p f) c.min-most.result q c.min-most.ensures

pub returns-clause-sums : goal.returns-clause-sums
returns-clause-sums c =
    let s = c.args.s in
    let q : s - c.loop-k.k ≡ s - c.min-most.result = omega arith in
    sums_along c.args.c.now c.args.before.now (length c.args.before.now) s c.loop-k.sums.mid c.loop-k.sums.rad (s - c.loop-k.k) (s - c.min-most.result) q c.loop-k.invariant.sums
