-- Sizes of the numbers of faces.
use Rattle.std.proofs.Common.{◌≡◌, inl, inr, ℕ, ◌+◌, ◌-◌, ◌*◌, ◌<◌, ◌≤◌, ◌^◌, length, get_or, ℤ, pos, unsigned_abs, arith, ◌∙◌}
use Rattle.std.proofs.lemmas.Int.{ints}
use Rattle.std.proofs.lemmas.Bool.{cases_lt, lt-ltb, le-ltb}
use Rattle.std.proofs.lemmas.Bool.Decides.{eqb_tells}
use Rattle.std.proofs.lemmas.Nat.{mul-lt}
use Rattle.std.proofs.lemmas.List.{get_or_default}
use Rattle.std.proofs.Math.Nat.{mul-add, mul_assoc, mul-le-mul_right, one-le-mul}
use Rattle.integer_algebra.specs.Sums.{at}
use Rattle.mat_int.specs.Matrix.{entry_of}
use Rattle.qp_model.specs.problem.Design.{Design, rows}
use Rattle.qp_model.specs.problem.Range.{IsDenominator}
use Rattle.qp_model.specs.problem.Parts.{design_of, IsDesign}
use Rattle.qp_model.specs.declared.design_parts.DesignParts.{DesignParts}
use Rattle.qp_model.proofs.CornerFacts.{grid_small, product_small}
use Rattle.stay_check.specs.FirstRows.{first_row_count, first_row, limits_on_state, next_limits}
use Rattle.stay_check.specs.FaceForms.{FaceNumbers, AreFacesFor}
use Rattle.stay_check.proofs.FirstRowLaws.{on_state_at}

-- ---- weights and factors
pub weight_small : (d : Design) (f : FaceNumbers) (e r : ℕ) → AreFacesFor d f → e < 2 * d.states → r < first_row_count d → unsigned_abs (entry_of f.weights e r) < 2 ^ 31
weight_small d f e r for l m =
    let w = for.weights e r l m in
    let low = w.low in
    let high = w.high in
    omega (arith, ints, low, high)

pub factor_small : (d : Design) (f : FaceNumbers) (e : ℕ) → AreFacesFor d f → e < 2 * d.states → (1 ≤ unsigned_abs (at f.factors e)) × (unsigned_abs (at f.factors e) < 2 ^ 31)
factor_small d f e for l =
    let p = for.factors e (pos 0) (omega (arith, for.count, l)) in
    let low = p.low in
    let high = p.high in
    (omega (arith, ints, low), omega (arith, ints, low, high))

pub denominator_small : (z : ℤ) → IsDenominator z → (1 ≤ unsigned_abs z) × (unsigned_abs z ≤ 2 ^ 20)
denominator_small z d =
    let low = d.low in
    let high = d.high in
    (omega (arith, ints, low), omega (arith, ints, low, high))

-- the factor that was read
pub factor_at : (d : Design) (f : FaceNumbers) (e : ℕ) (x : ℤ) → AreFacesFor d f → e < 2 * d.states → x ≡ get_or f.factors e x → x ≡ at f.factors e
factor_at d f e x for l h = h ∙ get_or_default f.factors e x (pos 0) (omega (arith, for.count, l))

pub factor_size : (d : Design) (f : FaceNumbers) (e : ℕ) (x : ℤ) → AreFacesFor d f → e < 2 * d.states → x ≡ get_or f.factors e x → (1 ≤ unsigned_abs x) × (unsigned_abs x < 2 ^ 31)
factor_size d f e x for l h = rw (factor_at d f e x for l h) (factor_small d f e for l)

pub denominator_is : (z : ℤ) → IsDenominator z → pos (unsigned_abs z) ≡ z
denominator_is z d = let low = d.low in omega (arith, ints, low)

-- ---- one more product of naturals
pub added_size : (most a b s x y k : ℕ) → s ≤ most * k → x < a → y < b → a * b ≤ most → (x * y ≤ most) × (s + x * y ≤ most * (k + 1))
added_size most a b s x y k h p q l =
    let small = mul-lt x y a b p q in
    let more : most * (k + 1) ≡ most * k + most = omega arith in
    (omega (arith, small), omega (arith, small, more))

-- ---- a term
pub term_is : (w b v F D : ℕ) → w * (F * b) + w * D * v ≡ w * (F * b + D * v)
term_is w b v F D = omega (arith, mul-add w (F * b) (D * v), mul_assoc w D v)

-- ---- denominators
pub scale_small : (p : DesignParts) → IsDesign p → 2 ^ p.grid * unsigned_abs p.plant_den ≤ 2 ^ 44
scale_small p d = omega (arith, product_small (2 ^ p.grid) (unsigned_abs p.plant_den) (2 ^ 24) (2 ^ 20) (grid_small p.grid d.grid) (denominator_small p.plant_den d.plant_den).1)

-- ---- the rows of a design
some_rows : (n l i : ℕ) → 2 ≤ n → i < l → l + i < n * l
some_rows n l i h k = omega (arith, mul-le-mul_right l h)

pub row_inside : (p : DesignParts) (r : ℕ) → IsDesign p → r < first_row_count (design_of p) → (first_row (design_of p) r).row < rows (design_of p)
row_inside p r d l = elim (cases_lt r (length p.stage_rows.rows)) [
  | inl o ↦ (let b = lt-ltb r (length p.stage_rows.rows) o in rw b (omega (arith, o, mul-le-mul_right (length p.stage_rows.rows) d.stages.0)))
  | inr o ↦ (let b = le-ltb r (length p.stage_rows.rows) o in
      let s = on_state_at (design_of p) (r - length p.stage_rows.rows) (omega (arith, o, l)) in
      rw b (below (get_or (limits_on_state (design_of p)) (r - length p.stage_rows.rows) 0) s.inside))
]
  where
    below : (i : ℕ) → i < next_limits (design_of p) → length p.stage_rows.rows + i < rows (design_of p)
    below i m = elim (eqb_tells p.stages 1) [
      | inl e ↦ (let one = e.0 in let n = rw one at m in let s = e.1 in rw s (omega (arith, n)))
      | inr e ↦ (let more = e.0 in let n = rw more at m in omega (arith, some_rows p.stages (length p.stage_rows.rows) i (omega (arith, e.1, d.stages.0)) n))
    ]

pub over_size : (k a : ℕ) → 1 ≤ k → k < 2 ^ 31 → 1 ≤ a → a ≤ 2 ^ 20 → (1 ≤ k * a * 2 ^ 40) × (k * a * 2 ^ 40 ≤ 2 ^ 91)
over_size k a h l m n =
    let low = one-le-mul h m in
    let high = product_small k a (2 ^ 31) (2 ^ 20) (omega (arith, l)) n in
    (omega (arith, low), omega (arith, high))
