use Rattle.std.proofs.Common.{length, pos, arith, FitsSigned, ◌∙◌}
use Rattle.std.specs.Int.{w64}
use Rattle.std.proofs.lemmas.Int.{to_z-of_z}
use Rattle.std.proofs.lemmas.List.FromFn.{fill_by_all}
use Rattle.qp_model.specs.machine.Controller.{numbers}
use Rattle.fixed_kernel.specs.WordForm.{row_base}
use Rattle.fixed_kernel.proofs.Copies.{filled_more}
use Rattle.fixed_kernel.proofs.word_bases.put_row_bases.Goals as goal

pub word_row_base-requires : goal.word_row_base-requires
word_row_base-requires c = record { sound = c.requires.sound; words = c.requires.words; state = c.requires.state; in_range = omega (arith, c.requires.out) }

pub loop-i-preserved : goal.loop-i-preserved
loop-i-preserved c =
    let base : FitsSigned w64 c.word_row_base.result = record { sfits = c.word_row_base.type_inv } in
    filled_more (row_base (numbers c.args.c.now) c.args.state.now) _ _ _ (omega arith) (to_z-of_z w64 _ base ∙ c.word_row_base.ensures) c.loop-i.invariant

pub returns : goal.returns
returns c =
    fill_by_all (row_base (numbers c.args.c.now) c.args.state.now) c.loop-i.out (length c.args.c.now.bound.items) (pos 0) (omega arith) (λ k h. c.loop-i.invariant k (omega arith))
