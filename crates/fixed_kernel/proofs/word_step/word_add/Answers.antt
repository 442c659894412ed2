use Rattle.std.proofs.Common.{rules, arith}
use Rattle.std.specs.Int.{w64}
use Rattle.std.proofs.lemmas.Int.{to_z-of_z}
use Rattle.fixed_kernel.proofs.Additions.{adds_next, all_added}
use Rattle.fixed_kernel.proofs.word_step.word_add.Goals as goal

pub overflow_add-sum : goal.overflow_add-sum
overflow_add-sum c =
    (adds_next w64 _ _ _ _ _ _ (omega arith) c.loop-j.invariant (to_z-of_z w64 _ (search rules)) (to_z-of_z w64 _ (search rules)) (omega (arith, c.requires.fit c.loop-j.j (omega arith)))).fits

pub loop-j-preserved : goal.loop-j-preserved
loop-j-preserved c =
    (adds_next w64 _ _ _ _ _ _ (omega arith) c.loop-j.invariant (to_z-of_z w64 _ (search rules)) (to_z-of_z w64 _ (search rules)) (omega (arith, c.requires.fit c.loop-j.j (omega arith)))).more

pub returns : goal.returns
returns c = all_added _ _ _ _ c.loop-j.invariant (omega arith) (omega arith)
