use Rattle.std.proofs.Common.{◌≡◌, ℕ, ◌+◌, ℤ, add-one, refl, rules, ◌∙◌, FitsSigned}
use Rattle.std.specs.Int.{w128, int_min}
use Rattle.std.proofs.lemmas.Int.{to_z-of_z}
use Rattle.mat_int.specs.Matrix.{entry_of}
use Rattle.hessian_check.specs.Recipe.{low}
use Rattle.hessian_check.proofs.root.least_diagonal.Goals as goal

pub loop-i-preserved : goal.loop-i-preserved
loop-i-preserved c =
    let x : FitsSigned w128 c.at.result = search rules in
    let y : FitsSigned w128 c.min-least.result = search rules in
    next _ c.loop-i.i (entry_of c.args.mat.now) _ _ _ (to_z-of_z w128 _ y ∙ c.min-least.ensures.value) c.loop-i.invariant (to_z-of_z w128 _ x ∙ c.at.ensures)
  where
    next : (t : ℤ) (n : ℕ) (m : ℕ → ℕ → ℤ) (r g a : ℤ) → r ≡ int_min g a → g ≡ low t n m → a ≡ m n n → r ≡ low t (n + 1) m
    next t n m r g a e f h = e ∙ rw (f, h, add-one) refl
