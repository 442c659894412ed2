-- The numbers over the exact unit are the exact ones, and their radii are none.
use Rattle.std.proofs.Common.{◌≡◌, ℕ, ◌*◌, ◌+◌, ◌^◌, ◌<◌, ◌≤◌, [], ℤ, pos, List, length, replicate, unsigned_abs, Fits, ◌≤ℤ◌, add-one, arith, ap, ap₂, sym, subst, ◌∙◌, refl}
use Rattle.std.specs.Int.{w128}
use Rattle.std.proofs.lemmas.Int.{ints}
use Rattle.std.proofs.lemmas.List.{ext_get_or, length-replicate, get_or-replicate}
use Rattle.std.proofs.Math.Nat.{pow-suc, pow-le-pow_right}
use Rattle.integer_algebra.specs.Sums.{at, none}
use Rattle.mat_int.specs.Matrix.{Matrix, row_of, zero_matrix}
use Rattle.enclosure.specs.declared.types.Enc.{Enc}
use Rattle.qp_model.specs.declared.design_parts.DesignParts.{DesignParts}
use Rattle.qp_model.specs.problem.Design.{Design, entries, rows}
use Rattle.qp_model.specs.problem.Parts.{design_of, IsDesign}
use Rattle.qp_model.specs.problem.Runs.{unit, Holds}
use Rattle.qp_model.specs.form.Form.{exact_form, HaveSameNumbers, HasNoRadii}
use Rattle.qp_model.specs.form.Quantities.{prediction_size, hessian_size, rows_size, cost_width, limit_width, weight_sum}
use Rattle.qp_model.proofs.RowLaws.{plan_number, state_number}
use Rattle.qp_model.proofs.SizeFacts.{positive}
use Rattle.condensed_form.specs.Lists.{HoldsMatrix}
use Rattle.condensed_form.specs.Numbers.{AreCostNumbers, AreLimitNumbers, AreNoRadii}
use Rattle.condensed_form.proofs.WeighedFacts.{hessian_is, linear_is, constant_is}
use Rattle.condensed_form.proofs.FormLaws.{limit_room}
use Rattle.scaled_run.specs.ScaledForm.{exact_unit, scaled_form}
use Rattle.scaled_run.proofs.FormLaws.{exact_is_scaled, exact_radii_law}
use Rattle.scaled_run.proofs.SizeLaws.{prediction_is}
use Rattle.scaled_condense.specs.Lists.{IsScale, mids, rads}
use Rattle.scaled_condense.specs.Numbers.{AreScaledCosts, AreScaledLimits}
use Rattle.scaled_condense.proofs.ColumnFacts.{mids_hold, rads_hold}
use Rattle.scaled_condense.proofs.ScaleLaws.{exact_scale_law, area_law}

-- ---- the unit as code makes it
pub next_power : (z : ℤ) (power den k : ℕ) → power ≡ unsigned_abs z ^ k → den ≡ unsigned_abs z → power * den ≡ unsigned_abs z ^ (k + 1)
next_power z power den k e f = rw (e, f, add-one, pow-suc (unsigned_abs z) k) refl

pub power_fits : (z : ℤ) (power den k n : ℕ) → pos 1 ≤ℤ z → power ≡ unsigned_abs z ^ k → den ≡ unsigned_abs z → k < n → unsigned_abs z ^ n ≤ 2 ^ 126 → Fits w128 (power * den)
power_fits z power den k n low e f l room = record { fits = rw (next_power z power den k e f) (last (pow-le-pow_right (positive z low) (over k n l)) room) }
  where
    over : (k n : ℕ) → k < n → k + 1 ≤ n
    over k n l = omega arith

    last : {a b : ℕ} → a ≤ b → b ≤ 2 ^ 126 → a < 2 ^ 128
    last h k = omega (arith, h, k)

pub last_power : (den power k n : ℕ) → k ≤ n → n ≤ k → power ≡ den ^ k → power ≡ den ^ n
last_power den power k n l m e = e ∙ ap (λ (i : ℕ). den ^ i) (same_stage k n l m)
  where
    same_stage : (k n : ℕ) → k ≤ n → n ≤ k → k ≡ n
    same_stage k n l m = omega arith

-- ---- lists and matrices of zeros
none_of : (z : ℤ) → unsigned_abs z ≡ 0 → z ≡ pos 0
none_of z h = omega (arith, ints, h)

within : {i n m : ℕ} → i < n → n ≡ m → i < m
within l e = omega (arith, l, e)

list_none : (xs : List ℤ) (n : ℕ) (f : ℕ → ℤ) → Holds xs n f → ((i : ℕ) → i < n → unsigned_abs (f i) ≡ 0) → xs ≡ replicate n (pos 0)
list_none xs n f h z =
    ext_get_or (pos 0) xs (replicate n (pos 0)) (h.long ∙ sym (length-replicate n (pos 0)))
    (λ i l. h.is i (within l h.long) ∙ none_of (f i) (z i (within l h.long)) ∙ sym (get_or-replicate n i (pos 0) (pos 0) (within l h.long)))

matrix_none : (m : Matrix) (a b : ℕ) (f : ℕ → ℕ → ℤ) → HoldsMatrix m a b b f → ((i j : ℕ) → i < a → j < b → unsigned_abs (f i j) ≡ 0) → m ≡ zero_matrix a b
matrix_none m a b f h z = ap₂ (λ (n : ℕ) (r : List (List ℤ)). with_rows n r) h.wide
    (ext_get_or [] m.rows (replicate a (replicate b (pos 0))) (h.long ∙ sym (length-replicate a (replicate b (pos 0)))) (λ i l. row i (within l h.long)))
  where
    with_rows : ℕ → List (List ℤ) → Matrix
    with_rows n r = record { cols = n; rows = r }

    row : (i : ℕ) → i < a → row_of m i ≡ row_of (zero_matrix a b) i
    row i l = list_none (row_of m i) b (f i) (record { long = h.regular i l; is = λ j o. h.is i j l o }) (λ j o. z i j l o) ∙
        sym (get_or-replicate a i (replicate b (pos 0)) [] l)

-- a matrix of numbers that are those of another formula
moved : {m : Matrix} {a b : ℕ} {f g : ℕ → ℕ → ℤ} → HoldsMatrix m a b b f → ((i j : ℕ) → i < a → j < b → f i j ≡ g i j) → HoldsMatrix m a b b g
moved h e = record { long = h.long; wide = h.wide; regular = h.regular; is = λ i j l o. h.is i j l o ∙ e i j l o }

-- numbers over a unit that is another
pub costs_moved : {m n : ℕ} {p : DesignParts} {a b c e : Matrix} {xs : List Enc} → m ≡ n → AreScaledCosts m 1 p a b c e xs → AreScaledCosts n 1 p a b c e xs
costs_moved {m} {n} {p} {a} {b} {c} {e} {xs} h = subst (λ (k : ℕ). AreScaledCosts k 1 p a b c e xs) h

pub limits_moved : {m n : ℕ} {p : DesignParts} {a b c e : Matrix} {xs : List ℤ} → m ≡ n → AreScaledLimits m p a b c e xs → AreScaledLimits n p a b c e xs
limits_moved {m} {n} {p} {a} {b} {c} {e} {xs} h = subst (λ (k : ℕ). AreScaledLimits k p a b c e xs) h

-- ---- of a design
module _ (p : DesignParts) (h : IsDesign p) where
  abbrev d : Design
  d = design_of p

  one : 1 ≤ d.plant_denominator
  one = positive p.plant_den h.plant_den.low

  same : HaveSameNumbers (scaled_form (exact_unit d) 1 d) (exact_form d)
  same = exact_is_scaled d one h.inputs.0

  no_radii : HasNoRadii (scaled_form (exact_unit d) 1 d)
  no_radii = exact_radii_law d one

  pub exact_scale : (reach : ℕ) → reach ≡ prediction_size d → hessian_size d ≤ 2 ^ 126 → IsScale p (exact_unit d) reach
  exact_scale reach e k = subst (λ (n : ℕ). IsScale p (exact_unit d) n) (prediction_is d one ∙ sym e) (exact_scale_law p h k)

  pub exact_area : (reach : ℕ) → reach ≡ prediction_size d → hessian_size d ≤ 2 ^ 126 → 4 * (weight_sum d * (cost_width d * reach) ^ 2) ≤ 2 ^ 126
  exact_area reach e k = area_law p reach h
      (subst (λ (n : ℕ). entries d * (entries d + p.states + 1) * (2 * weight_sum d * (cost_width d * n) ^ 2) ≤ 2 ^ 126) (sym e) k)

  pub limit_reached : (reach : ℕ) → reach ≡ prediction_size d → rows_size d ≤ 2 ^ 126 → limit_width d * reach ≤ 2 ^ 126
  limit_reached reach e k = subst (λ (n : ℕ). limit_width d * n ≤ 2 ^ 126) (sym e) (limit_room p h k)

  module _ (hess hess_rad lin lin_rad : Matrix) (off : List Enc) (k : AreScaledCosts (exact_unit d) 1 p hess hess_rad lin lin_rad off)
      (g g_rad e e_rad : Matrix) (b : List ℤ) (l : AreScaledLimits (exact_unit d) p g g_rad e e_rad b) where
    pub exact_costs : (xs : List ℤ) → xs ≡ mids off → AreCostNumbers d hess lin xs
    exact_costs xs f = record {
      hessian = moved k.hess.mids (λ i j a o. same.hessian i j a o ∙ hessian_is d i j h.inputs.0 a);
      linear = moved k.lin.mids (λ j i a o. same.linear j i a o ∙ linear_is d j i h.inputs.0);
      constant = rw f (record {
        long = (mids_hold off (entries d) _ k.constant).long;
        is = λ j a. (mids_hold off (entries d) _ k.constant).is j a ∙ same.constant j a ∙ constant_is d j h.inputs.0;
      });
    }

    pub exact_limits : AreLimitNumbers d g e b
    exact_limits = record {
      plan = moved l.plan.mids (λ i j a o. same.by_plan i j a o ∙ plan_number d i j h.inputs.0);
      state = moved l.state.mids (λ i j a o. same.by_state i j a o ∙ state_number d i j);
      bound = l.bound;
    }

    pub exact_radii : (xs : List ℤ) → xs ≡ rads off → AreNoRadii (entries d) p.states (rows d) hess_rad lin_rad xs g_rad e_rad
    exact_radii xs f = record {
      hessian = matrix_none hess_rad (entries d) (entries d) _ k.hess.rads no_radii.hessian;
      linear = matrix_none lin_rad (entries d) p.states _ k.lin.rads no_radii.linear;
      constant = rw f (list_none (rads off) (entries d) _ (rads_hold off (entries d) _ k.constant) no_radii.constant);
      plan = matrix_none g_rad (rows d) (entries d) _ l.plan.rads no_radii.plan;
      state = matrix_none e_rad (rows d) p.states _ l.state.rads no_radii.state;
    }
