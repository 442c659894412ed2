use Rattle.std.proofs.Common.{◌≡◌, ◌+◌, Some, length, arith}
use Rattle.std.specs.Prelude.{unwrap_or}
use Rattle.std.specs.Option.{option_or}
use Rattle.qp_model.specs.bounds.Least.{IsLeastBelow}
use Rattle.integer_algebra.specs.Matrices.{IsDominant}
use Rattle.hessian_check.specs.MatrixRoom.{matrix_at}
use Rattle.hessian_check.proofs.ChoiceLaws.{either_made, chosen_made, memory_outcome}
use Rattle.hessian_check.proofs.choice.exponents_of.Goals as goal

pub returns : goal.returns
returns c =
    let n = length c.args.matrices.now.cost.rows in
    let m = matrix_at c.args.matrices.now in
    let o = c.in_ok-first_dominant.field-0 in
    let e : option_or o c.args.squares ≡ Some c.in-Some.s1 = cc (c.or.ensures, c.in-Some.is) in
    let h : IsLeastBelow (unwrap_or c.args.squares 40 + 1) (λ s. IsDominant n (m s)) o = rw c.unwrap_or-last.ensures at c.in_ok-first_dominant.ensures in (
      either_made n m o c.args.squares c.in-Some.s1 e h,
      rw c.unwrap_or-s.ensures (chosen_made n m c.in-Some.s1 c.in_ok-first_passing.field-0 c.in_ok-first_passing.ensures),
    )

pub first_dominant-requires-clause-room : goal.first_dominant-requires-clause-room
first_dominant-requires-clause-room c = λ s l. c.requires.room s (omega (arith, c.unwrap_or-last.ensures))

pub returns-in_err-first_dominant : goal.returns-in_err-first_dominant
returns-in_err-first_dominant c = memory_outcome (length c.args.matrices.now.cost.rows) (matrix_at c.args.matrices.now) c.args.squares c.from_residual.result c.from_residual.ensures.1

pub returns-in_err-first_passing : goal.returns-in_err-first_passing
returns-in_err-first_passing c = memory_outcome (length c.args.matrices.now.cost.rows) (matrix_at c.args.matrices.now) c.args.squares c.from_residual-in_err-first_passing.result c.from_residual-in_err-first_passing.ensures.1
