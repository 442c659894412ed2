use Rattle.std.proofs.Common.{◌+ℤ◌, ℤ, List, ap, ◌∙◌, FitsSigned}
use Rattle.std.specs.Int.{w64}
use Rattle.std.proofs.lemmas.Int.{to_z-of_z}
use Rattle.mat_int.specs.Row.{list_dot}
use Rattle.fixed_kernel.proofs.word_mat.WordRow.dot.Goals as goal

pub returns-then-sparse : goal.returns-then-sparse
returns-then-sparse c =
    let made : FitsSigned w64 c.span_dot.result = record { sfits = c.span_dot.type_inv } in
    to_z-of_z w64 _ made ∙ c.span_dot.ensures ∙ ap (λ (z : ℤ). z +ℤ list_dot c.deref.result.now c.args.ys.now) (to_z-of_z w64 _ c.ranges.start) ∙
    ap (λ (xs : List ℤ). c.args.start +ℤ list_dot xs c.args.ys.now) (c.deref.ensures.value ∙ c.self.view_is)

pub returns-else-sparse : goal.returns-else-sparse
returns-else-sparse c =
    let made : FitsSigned w64 c.sum_in_words.result = record { sfits = c.sum_in_words.type_inv } in
    to_z-of_z w64 _ made ∙ c.sum_in_words.ensures ∙ ap (λ (z : ℤ). z +ℤ list_dot c.deref-else-sparse.result.now c.args.ys.now) (to_z-of_z w64 _ c.ranges.start) ∙
    ap (λ (xs : List ℤ). c.args.start +ℤ list_dot xs c.args.ys.now) (c.deref-else-sparse.ensures.value ∙ c.self.view_is)
