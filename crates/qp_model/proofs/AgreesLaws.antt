-- Numbers that agree with a design's condensed numbers.
use Rattle.std.proofs.Common.{◌≡◌, ℕ, ◌^◌, ◌<◌, ℤ, pos, ◌*ℤ◌, ap, sym, ◌∙◌}
use Rattle.integer_algebra.specs.Sums.{dot, image}
use Rattle.integer_algebra.proofs.RingLaws.{add_equations}
use Rattle.integer_algebra.proofs.SumLaws.{total_same}
use Rattle.integer_algebra.proofs.VectorLaws.{dot_same}
use Rattle.qp_model.specs.problem.Design.{entries}
use Rattle.qp_model.specs.form.Condensed.{slope_at}
use Rattle.qp_model.specs.form.Condensing.{condensed_of}
use Rattle.qp_model.proofs.CostLaws.{condensing}
use Rattle.qp_model.specs.problem.Runs.{AgreesLaw}
use Rattle.qp_model.proofs.RowLaws.{response_law}

pub agrees_law : AgreesLaw
agrees_law d k h a = record {
  symmetric = λ i j l m. a.hessian i j l m ∙ (condensing d h).symmetric i j l m ∙ sym (a.hessian j i m l);
  rows = response_law d k.by_plan k.by_state k.bound h a.limits;
  costs = λ q xi u. rw (form u, slope xi u) ((condensing d h).costs q xi u);
}
  where
    form : (u : ℕ → ℤ) → dot (entries d) u (image (entries d) k.hessian u) ≡ dot (entries d) u (image (entries d) (condensed_of d).hessian u)
    form u = dot_same (entries d) u _ _ (λ i l. total_same (entries d) _ _ (λ j m. ap (λ (z : ℤ). z *ℤ u j) (a.hessian i j l m)))

    at_entry : (xi : ℕ → ℤ) (j : ℕ) → j < entries d → slope_at d k xi j ≡ slope_at d (condensed_of d) xi j
    at_entry xi j l = add_equations (total_same d.states _ _ (λ i m. ap (λ (z : ℤ). z *ℤ xi i) (a.linear j i l m)))
        (ap (λ (z : ℤ). pos (2 ^ d.grid) *ℤ z) (a.constant j l))

    slope : (xi u : ℕ → ℤ) → dot (entries d) (slope_at d k xi) u ≡ dot (entries d) (slope_at d (condensed_of d) xi) u
    slope xi u = total_same (entries d) _ _ (λ j l. ap (λ (z : ℤ). z *ℤ u j) (at_entry xi j l))
