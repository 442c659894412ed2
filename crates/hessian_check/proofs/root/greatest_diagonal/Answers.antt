use Rattle.std.proofs.Common.{◌≡◌, ℕ, ◌+◌, ℤ, add-one, refl, rules, ◌∙◌, FitsSigned}
use Rattle.std.specs.Int.{w128, int_max}
use Rattle.std.proofs.lemmas.Int.{to_z-of_z}
use Rattle.mat_int.specs.Matrix.{entry_of}
use Rattle.hessian_check.specs.Recipe.{top}
use Rattle.hessian_check.proofs.root.greatest_diagonal.Goals as goal

pub loop-i-preserved : goal.loop-i-preserved
loop-i-preserved c =
    let x : FitsSigned w128 c.at.result = search rules in
    let y : FitsSigned w128 c.max-greatest.result = search rules in
    next c.loop-i.i (entry_of c.args.mat.now) _ _ _ (to_z-of_z w128 _ y ∙ c.max-greatest.ensures.value) c.loop-i.invariant (to_z-of_z w128 _ x ∙ c.at.ensures)
  where
    next : (n : ℕ) (m : ℕ → ℕ → ℤ) (r g a : ℤ) → r ≡ int_max g a → g ≡ top n m → a ≡ m n n → r ≡ top (n + 1) m
    next n m r g a e f h = e ∙ rw (f, h, add-one) refl
