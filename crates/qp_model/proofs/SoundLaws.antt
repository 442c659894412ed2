-- The denominators and weights of a design that keeps its ranges.
use Rattle.std.proofs.Common.{◌≡◌, inl, inr, ℕ, zero, suc, ◌<◌, ◌≤◌, ℤ, pos, ◌≤ℤ◌, unsigned_abs, arith, refl}
use Rattle.std.proofs.lemmas.Int.{ints}
use Rattle.std.proofs.lemmas.Bool.{cases_lt}
use Rattle.std.proofs.lemmas.List.Elements.{All-get_or}
use Rattle.integer_algebra.specs.Sums.{at}
use Rattle.qp_model.specs.declared.design_parts.DesignParts.{DesignParts}
use Rattle.qp_model.specs.problem.Parts.{IsDesign, design_of}
use Rattle.qp_model.specs.problem.Range.{IsPositive}
use Rattle.qp_model.specs.form.Quantities.{input_floor, least}
use Rattle.qp_model.specs.problem.Sound.{IsSound}

-- the least of some numbers is at most each of them
pub least-le : (n : ℕ) (f : ℕ → ℕ) (i : ℕ) → i < n → least n f ≤ f i
least-le zero f i l = absurd (omega arith)
least-le (suc zero) f i l = let e : i ≡ 0 = omega arith in rw e (omega arith)
least-le (suc (suc n)) f i l = elim (cases_lt i (suc n)) [
  | inl o ↦ omega (arith, least-le (suc n) f i o)
  | inr o ↦ (let e : i ≡ suc n = omega arith in rw e (omega arith))
]

-- and one of them
pub least-met : (n : ℕ) (f : ℕ → ℕ) → 1 ≤ n → (i : ℕ) × ((i < n) × (least n f ≡ f i))
least-met zero f h = absurd (omega arith)
least-met (suc zero) f h = (0, (omega arith, refl))
least-met (suc (suc n)) f h =
    let before = least-met (suc n) f (omega arith) in
    elim (cases_lt (f (suc n)) (least (suc n) f)) [
      | inl l ↦ (suc n, (omega arith, omega arith))
      | inr l ↦ (before.0, (omega (arith, before.1.0), omega (arith, before.1.1)))
    ]

one_of : (z : ℤ) → pos 1 ≤ℤ z → 1 ≤ unsigned_abs z
one_of z h = omega (arith, ints)

same_of : (z : ℤ) → pos 1 ≤ℤ z → pos (unsigned_abs z) ≡ z
same_of z h = omega (arith, ints)

pub weight_at : (p : DesignParts) → IsDesign p → (l : ℕ) → l < p.inputs → IsPositive (at p.input_weights.items l)
weight_at p h l o = All-get_or IsPositive p.input_weights.items l (pos 0) (omega (arith, h.input_count)) h.input_weights

pub sound : (p : DesignParts) → IsDesign p → IsSound (design_of p) (input_floor (design_of p))
sound p h = record {
  plant_denominator = one_of p.plant_den h.plant_den.low;
  cost_denominator = one_of p.cost_den h.cost_den.low;
  row_denominator = one_of p.row_den h.row_den.low;
  limit_denominator = one_of p.limit_den h.limit_den.low;
  rho_positive = (let m = least-met p.inputs (λ l. unsigned_abs (at p.input_weights.items l)) h.inputs.0 in
      let o = one_of (at p.input_weights.items m.0) (weight_at p h m.0 m.1.0).low in omega (arith, m.1.1, o));
  inputs = h.inputs.0;
  input_weight = λ l o. (let e = same_of (at p.input_weights.items l) (weight_at p h l o).low in
      let b = least-le p.inputs (λ l. unsigned_abs (at p.input_weights.items l)) l o in omega (arith, ints, e, b));
  stage_weight = h.stage_weights;
  final_weight = h.final_weights;
}
