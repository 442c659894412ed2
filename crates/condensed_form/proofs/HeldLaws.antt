-- The least input weight of a condensed form is that of its design.
use Rattle.std.proofs.Common.{◌≡◌, ℕ, ◌≤◌, ℤ, pos, ◌≤ℤ◌, unsigned_abs, arith}
use Rattle.std.proofs.lemmas.Int.{ints}
use Rattle.integer_algebra.specs.Sums.{at}
use Rattle.qp_model.specs.declared.design_parts.DesignParts.{DesignParts}
use Rattle.qp_model.specs.problem.Parts.{IsDesign, design_of}
use Rattle.qp_model.specs.form.Quantities.{input_floor}
use Rattle.qp_model.proofs.SoundLaws.{least-le, least-met, weight_at}
use Rattle.condensed_form.specs.Form.{IsLeastInput}

pub least_equal : (p : DesignParts) (rho : ℤ) → IsDesign p → IsLeastInput (design_of p) rho → unsigned_abs rho ≡ input_floor (design_of p)
least_equal p rho h is =
    let m = least-met p.inputs (λ l. unsigned_abs (at p.input_weights.items l)) h.inputs.0 in
    close rho (at p.input_weights.items is.met.0) (at p.input_weights.items m.0) (input_floor (design_of p)) is.met.1.1 m.1.1
    (weight_at p h is.met.0 is.met.1.0).low (is.below m.0 m.1.0)
    (least-le p.inputs (λ l. unsigned_abs (at p.input_weights.items l)) is.met.0 is.met.1.0)
  where
    close : (rho w v : ℤ) (t : ℕ) → rho ≡ w → t ≡ unsigned_abs v → pos 1 ≤ℤ w → rho ≤ℤ v → t ≤ unsigned_abs w → unsigned_abs rho ≡ t
    close rho w v t e g o b k = omega (arith, ints)
