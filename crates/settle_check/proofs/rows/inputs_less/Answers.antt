use Rattle.std.proofs.Common.{◌≡◌, ℕ, ◌+◌, ◌*◌, ◌<◌, ◌∙◌, ℤ, pos, ◌-ℤ◌, ◌*ℤ◌, unsigned_abs, to_z, of_z, arith, rules, refl, FitsSigned}
use Rattle.std.specs.Int.{w128, int_max}
use Rattle.std.proofs.lemmas.Int.{to_z-of_z}
use Rattle.integer_algebra.specs.Sums.{at, coimage}
use Rattle.integer_algebra.proofs.SumLaws.{total_more}
use Rattle.integer_algebra.proofs.SizeLaws.{amount_term, amount_next, amount_more}
use Rattle.mat_int.specs.Matrix.{entry_of}
use Rattle.qp_model.specs.problem.Parts.{design_of}
use Rattle.qp_model.specs.machine.Controller.{numbers, plan_length}
use Rattle.stay_check.proofs.SumFacts.{coordinate_at}
use Rattle.settle_check.specs.TurnSize.{input_size}
use Rattle.settle_check.proofs.StillLaws.{first_inputs}
use Rattle.settle_check.proofs.CountedFacts.{le_times_more}
use Rattle.settle_check.proofs.rows.inputs_less.Goals as goal

pub returns-in_err-input_of_row-clause-room : goal.returns-in_err-input_of_row-clause-room
returns-in_err-input_of_row-clause-room c =
    let term : ℕ → ℕ = λ l. input_size (design_of c.args.parts.now) (at c.args.row.now) l * (unsigned_abs (at c.args.c.now.t.items l) + 1) in
    let lt : c.loop-l.l < c.args.parts.now.inputs = omega (arith, c.loop-l-test.true, c.loop-l.invariant.end) in
    rw c.from_residual.ensures (
      λ s. cc,
      λ h. c.in_err-input_of_row.ensures.room.1
          (omega (arith, amount_term c.loop-l.l c.args.parts.now.inputs term lt, le_times_more (input_size (design_of c.args.parts.now) (at c.args.row.now) c.loop-l.l) (unsigned_abs (at c.args.c.now.t.items c.loop-l.l)), h)),
    )

pub returns-in_err-most-clause-room : goal.returns-in_err-most-clause-room
returns-in_err-most-clause-room c =
    let term : ℕ → ℕ = λ l. input_size (design_of c.args.parts.now) (at c.args.row.now) l * (unsigned_abs (at c.args.c.now.t.items l) + 1) in
    let lt : c.loop-l.l < c.args.parts.now.inputs = omega (arith, c.loop-l-test.true, c.loop-l.invariant.end) in
    let f : FitsSigned w128 c.index.result.now = search rules in
    let few = first_inputs (numbers c.args.c.now) c.args.parts.now.inputs c.requires.sized c.requires.matched.inputs in
    let read = coordinate_at c.args.c.now.t.items (plan_length (numbers c.args.c.now)) c.loop-l.l c.index.result.now c.requires.sized.shaped.offsets (omega (arith, lt, few)) c.index.ensures in
    let is : c.in_ok-input_of_row.field-0.size * (unsigned_abs (to_z w128 (of_z w128 c.index.result.now)) + 1) ≡ term c.loop-l.l = rw (c.in_ok-input_of_row.ensures.size, to_z-of_z w128 _ f, read) refl in
    rw c.from_residual-in_err-most.ensures (λ s. cc, λ h. c.in_err-most.ensures.room.1 (omega (arith, amount_term c.loop-l.l c.args.parts.now.inputs term lt, is, h)))

pub returns-in_err-sum-clause-room : goal.returns-in_err-sum-clause-room
returns-in_err-sum-clause-room c =
    let term : ℕ → ℕ = λ l. input_size (design_of c.args.parts.now) (at c.args.row.now) l * (unsigned_abs (at c.args.c.now.t.items l) + 1) in
    let lt : c.loop-l.l < c.args.parts.now.inputs = omega (arith, c.loop-l-test.true, c.loop-l.invariant.end) in
    let f : FitsSigned w128 c.index.result.now = search rules in
    let few = first_inputs (numbers c.args.c.now) c.args.parts.now.inputs c.requires.sized c.requires.matched.inputs in
    let read = coordinate_at c.args.c.now.t.items (plan_length (numbers c.args.c.now)) c.loop-l.l c.index.result.now c.requires.sized.shaped.offsets (omega (arith, lt, few)) c.index.ensures in
    let is : c.in_ok-most.most.size ≡ term c.loop-l.l = c.in_ok-most.ensures.size ∙ rw (c.in_ok-input_of_row.ensures.size, to_z-of_z w128 _ f, read) refl in
    rw c.from_residual-in_err-sum.ensures (λ s. cc, λ h. c.in_err-sum.ensures.room.1 (omega (arith, amount_next c.loop-l.l c.args.parts.now.inputs term lt, is, c.loop-l.invariant.size, h)))

pub loop-l-preserved : goal.loop-l-preserved
loop-l-preserved c =
    let lt : c.loop-l.l < c.args.parts.now.inputs = omega (arith, c.loop-l-test.true, c.loop-l.invariant.end) in
    let of_input : ℕ → ℤ = coimage c.args.parts.now.states (entry_of c.args.parts.now.b) (at c.args.row.now) in
    let number : ℕ → ℤ = λ l. int_max (of_input l) (pos 0) -ℤ of_input l *ℤ at c.args.c.now.t.items l in
    let term : ℕ → ℕ = λ l. input_size (design_of c.args.parts.now) (at c.args.row.now) l * (unsigned_abs (at c.args.c.now.t.items l) + 1) in
    let f : FitsSigned w128 c.index.result.now = search rules in
    let few = first_inputs (numbers c.args.c.now) c.args.parts.now.inputs c.requires.sized c.requires.matched.inputs in
    let read = coordinate_at c.args.c.now.t.items (plan_length (numbers c.args.c.now)) c.loop-l.l c.index.result.now c.requires.sized.shaped.offsets (omega (arith, lt, few)) c.index.ensures in
    let value : c.in_ok-most.most.value ≡ number c.loop-l.l = c.in_ok-most.ensures.value ∙ rw (c.in_ok-input_of_row.ensures.value, to_z-of_z w128 _ f, read) refl in
    let size : c.in_ok-most.most.size ≡ term c.loop-l.l = c.in_ok-most.ensures.size ∙ rw (c.in_ok-input_of_row.ensures.size, to_z-of_z w128 _ f, read) refl in
    record {
      end = c.loop-l.invariant.end;
      value = c.in_ok-sum.ensures.value ∙ rw (total_more c.loop-l.l number, c.loop-l.invariant.value, value) refl;
      size = c.in_ok-sum.ensures.size ∙ rw (amount_more c.loop-l.l term, c.loop-l.invariant.size, size) refl;
      room = omega (arith, c.in_ok-sum.ensures.room.0 refl, c.in_ok-sum.ensures.size);
    }
