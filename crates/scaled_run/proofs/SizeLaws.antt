-- The quantities of the one recipe in the two classes.
use Rattle.std.proofs.Common.{◌≡◌, ℕ, zero, suc, ◌+◌, ◌-◌, ◌*◌, ◌^◌, ◌≤◌, max, nat_le, Option, arith, ap, sym, subst, ◌∙◌, refl}
use Rattle.std.specs.Option.{SomeIff}
use Rattle.std.proofs.Math.Nat.{div-one, pow-suc, pow-zero, max-zero, mul-zero}
use Rattle.std.proofs.lemmas.Nat.{div-mul-add}
use Rattle.integer_algebra.specs.Division.{ceil_div}
use Rattle.qp_model.specs.problem.Design.{Design, entries, rows}
use Rattle.qp_model.specs.form.Quantities.{growth, cost_width, limit_width, weight_sum, prediction_size, hessian_size, rows_size, input_floor}
use Rattle.qp_model.specs.form.Form.{exact_form, rows_scale, HaveSameNumbers}
use Rattle.qp_model.specs.form.FineForm.{fine_form}
use Rattle.qp_model.specs.form.FineSizes.{reach_from}
use Rattle.qp_model.specs.form.CurvatureSize.{limit_squares, covering_exponent, curvature_of}
use Rattle.qp_model.specs.bounds.Least.{least_up_to}
use Rattle.integer_algebra.proofs.SizeLaws.{amount_same}
use Rattle.scaled_run.specs.ScaledForm.{exact_unit, scaled_form, scaled_radius}
use Rattle.scaled_run.specs.ScaledSizes.{scaled_reach_from, scaled_reach, scaled_hessian_size, scaled_rows_size}
use Rattle.scaled_run.specs.ScaledLaws.{FineSizesLaw, ExactReachLaw, ExactSizesLaw}
use Rattle.scaled_run.proofs.FormLaws.{exact_is_scaled, radius_none}

-- ---- enclosures
-- `curvature` where a response reaches n
curvature_at : Design → (s den more radius n : ℕ) → ℕ
curvature_at d s den more radius n =
    curvature_of s d.limit_denominator
    (ceil_div (max (entries d * (entries d + d.states + 1) * (2 * weight_sum d * (cost_width d * n) ^ 2)) (2 ^ 86 * radius)) den + more * entries d)
    d.cost_denominator d.row_denominator (ceil_div ((entries d + d.states + 1) * rows d * (limit_width d * n) ^ 2) den + more * entries d)

pub fine_reach_is : (d : Design) (first k : ℕ) → reach_from d first k ≡ scaled_reach_from 3 d first k
fine_reach_is d first zero = refl
fine_reach_is d first (suc k) = ap (λ n. ceil_div (growth d * n) d.plant_denominator + 3) (fine_reach_is d first k)

-- what code tells of the reach, with the quantity's own recursion
pub reach_told : (r : Option ℕ) (d : Design) (first : ℕ) →
    SomeIff r (growth d * scaled_reach_from 3 d first d.stages ≤ 2 ^ 126) (scaled_reach_from 3 d first d.stages) →
    SomeIff r (growth d * reach_from d first d.stages ≤ 2 ^ 126) (reach_from d first d.stages)
reach_told r d first = subst (λ (n : ℕ). SomeIff r (growth d * n ≤ 2 ^ 126) n) (sym (fine_reach_is d first d.stages))

pub fine_sizes_law : FineSizesLaw
unfolding curvature_at
fine_sizes_law d = record {
  prediction = ap (λ n. growth d * n) (fine_reach_is d (2 ^ 40) d.stages);
  hessian = ap (λ n. max (entries d * (entries d + d.states + 1) * (2 * weight_sum d * (cost_width d * n) ^ 2)) (2 ^ 86 * scaled_radius (2 ^ 40) (2 ^ 40) d))
      (fine_reach_is d (2 ^ 40) d.stages);
  rows = ap (λ n. (entries d + d.states + 1) * rows d * (limit_width d * n) ^ 2) (fine_reach_is d (2 ^ 40) d.stages);
  curvature = ap (λ n. curvature_at d (covering_exponent d (fine_form d)) (2 ^ 40) 4 (scaled_radius (2 ^ 40) (2 ^ 40) d) n) (fine_reach_is d (2 ^ 40) d.stages);
}

-- ---- exact numbers
-- a multiple of b, divided and rounded up
ceil_even : (n b : ℕ) → 1 ≤ b → ceil_div (n * b) b ≡ n
ceil_even n b h = div-mul-add n b (b - 1) (omega arith)

-- the powers of the plant's denominator that are left at a stage
left_before : (a n k : ℕ) → suc k ≤ n → a ^ (n - k) ≡ a ^ (n - suc k) * a
left_before a n k l = ap (λ m. a ^ m) (next n k l) ∙ pow-suc a (n - suc k)
  where
    next : (n k : ℕ) → suc k ≤ n → n - k ≡ suc (n - suc k)
    next n k l = omega arith

pub exact_reach_law : ExactReachLaw
exact_reach_law d zero h l = start (growth d) d.plant_denominator d.stages
  where
    all : (n : ℕ) → n - 0 ≡ n
    all n = omega arith

    start : (g a n : ℕ) → a ^ n ≡ g ^ 0 * a ^ (n - 0)
    start g a n = rw (pow-zero g, all n) (omega arith)
exact_reach_law d (suc k) h l =
    ap (λ n. ceil_div (growth d * n) d.plant_denominator + 0) (exact_reach_law d k h (shorter l)) ∙
    step (growth d) d.plant_denominator (growth d ^ k) (d.plant_denominator ^ (d.stages - suc k)) _ _ (left_before d.plant_denominator d.stages k l) (pow-suc (growth d) k) h
  where
    shorter : {a b : ℕ} → suc a ≤ b → a ≤ b
    shorter h = omega arith

    step : (g a p q r s : ℕ) → r ≡ q * a → s ≡ p * g → 1 ≤ a → ceil_div (g * (p * r)) a + 0 ≡ s * q
    step g a p q r s e f h = rw (e, f, turn g a p q, ceil_even (p * g * q) a h) (omega arith)
      where
        turn : (g a p q : ℕ) → g * (p * (q * a)) ≡ p * g * q * a
        turn g a p q = omega arith

pub prediction_is : (d : Design) → 1 ≤ d.plant_denominator → scaled_reach (exact_unit d) 0 d ≡ prediction_size d
prediction_is d h = exact_reach_law d d.stages h (same d.stages) ∙ last (prediction_size d) d.plant_denominator d.stages
  where
    same : (n : ℕ) → n ≤ n
    same n = omega arith

    none : (n : ℕ) → n - n ≡ 0
    none n = omega arith

    last : (p a n : ℕ) → p * a ^ (n - n) ≡ p
    last p a n = rw (none n, pow-zero a) (omega arith)

-- the greatest of a number and a multiple of 0
alone : (n m radius : ℕ) → radius ≡ 0 → max n (m * radius) ≡ n
alone n m radius e = rw (e, mul-zero m, max-zero n) refl

hessian_is : (d : Design) → 1 ≤ d.plant_denominator → scaled_hessian_size (exact_unit d) 1 0 d ≡ hessian_size d
hessian_is d h =
    alone _ (2 ^ 86) (scaled_radius (exact_unit d) 1 d) (radius_none d h) ∙
    ap (λ n. entries d * (entries d + d.states + 1) * (2 * weight_sum d * (cost_width d * n) ^ 2)) (prediction_is d h)

rows_is : (d : Design) → 1 ≤ d.plant_denominator → scaled_rows_size (exact_unit d) 0 d ≡ rows_size d
rows_is d h = ap (λ n. (entries d + d.states + 1) * rows d * (limit_width d * n) ^ 2) (prediction_is d h)

-- the squares of the rows ask one exponent
covering_is : (d : Design) → 1 ≤ d.plant_denominator → 1 ≤ d.inputs → covering_exponent d (scaled_form (exact_unit d) 1 d) ≡ covering_exponent d (exact_form d)
covering_is d h p = ap (λ n. least_up_to 40 (λ s. nat_le (d.cost_denominator * n) (2 ^ s * input_floor d * rows_scale d ^ 2))) squares
  where
    s : HaveSameNumbers (scaled_form (exact_unit d) 1 d) (exact_form d)
    s = exact_is_scaled d h p

    squares : limit_squares (scaled_form (exact_unit d) 1 d) ≡ limit_squares (exact_form d)
    squares = amount_same (rows d) _ _ (λ i l. amount_same (entries d) _ _ (λ j m. rw (s.by_plan i j l m, s.plan_radius i j l m) refl))

-- a row's quantity, rounded by nothing
whole_row : (size n : ℕ) → ceil_div size 1 + 0 * n ≡ size
whole_row size n = rw (div-one) (omega arith)

pub exact_sizes_law : ExactSizesLaw
exact_sizes_law d h p = record {
  prediction = sym (prediction_is d h);
  hessian = sym (hessian_is d h);
  rows = sym (rows_is d h);
  curvature = sym (same (covering_is d h p) (whole_row _ (entries d) ∙ hessian_is d h) (whole_row _ (entries d) ∙ rows_is d h));
}
  where
    same : {s t a b x y : ℕ} → s ≡ t → a ≡ b → x ≡ y →
        curvature_of s d.limit_denominator a d.cost_denominator d.row_denominator x ≡ curvature_of t d.limit_denominator b d.cost_denominator d.row_denominator y
    same e f g = rw (e, f, g) refl
