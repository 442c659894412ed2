-- The gradient of the Lagrangian at a plan of the machine, in the design's words.
use Rattle.std.proofs.Common.{◌≡◌, ℕ, ◌+◌, ◌-◌, ◌*◌, ◌^◌, ◌<◌, ◌≤◌, [], ◌∷◌, ℤ, pos, ◌+ℤ◌, ◌*ℤ◌, List, arith, ap, ◌∙◌, refl}
use Rattle.std.proofs.lemmas.Nat.{pow-add}
use Rattle.integer_algebra.specs.Sums.{total, dot, image, coimage, at}
use Rattle.integer_algebra.proofs.RingLaws.{mul_assoc_z}
use Rattle.integer_algebra.proofs.SumLaws.{total_same, total_scale}
use Rattle.integer_algebra.proofs.VectorLaws.{image_scale}
use Rattle.integer_algebra.proofs.PowerLaws.{pow-two, four-pow}
use Rattle.integer_algebra.proofs.Quoting.{by_ring, quotes}
use Rattle.qp_model.specs.problem.Design.{Design, entries, rows}
use Rattle.qp_model.specs.problem.Cost.{cost_scale}
use Rattle.qp_model.specs.problem.Residual.{residual_scale}
use Rattle.qp_model.specs.form.Condensing.{condensed_of}
use Rattle.qp_model.specs.machine.Controller.{Numbers}
use Rattle.qp_model.specs.form.Form.{Form, hessian_scale, rows_scale}
use Rattle.qp_model.specs.form.Columns.{solve_column}
use Rattle.qp_model.specs.bounds.Built.{HasSizesOf}
use Rattle.step_error.specs.Laws.{slant}
use Rattle.step_error.specs.Machine.{pulls}
use Rattle.step_error.proofs.Forms.{counted}
use Rattle.step_error.proofs.Gains.{over_columns, state_pull, own_pull, row_pull, below, beyond, same, other}

-- ---- the columns of the systems
pub state_column : (d : Design) (h : Form) (i j : ℕ) → i < d.states → solve_column (counted d h) i j ≡ h.matrix_factor *ℤ h.numbers.linear j i
state_column d h i j k = below i d.states _ _ k

pub own_column : (d : Design) (h : Form) (j : ℕ) → solve_column (counted d h) d.states j ≡ h.matrix_factor *ℤ h.numbers.constant j
own_column d h j = beyond d.states d.states _ _ (omega arith) ∙ same d.states d.states _ _ refl

pub row_column : (d : Design) (h : Form) (i j : ℕ) → solve_column (counted d h) (d.states + 1 + i) j ≡ h.row_factor *ℤ h.numbers.by_plan i j
row_column d h i j = beyond (d.states + 1 + i) d.states _ _ (omega arith) ∙ other (d.states + 1 + i) d.states _ _ (omega arith)
    ∙ ap (λ (k : ℕ). h.row_factor *ℤ h.numbers.by_plan k j) (let e : d.states + 1 + i - (d.states + 1) ≡ i = omega arith in e)

-- the columns against what they are times
pub columns_are : (d : Design) (h : Form) (c : Numbers) (x l : List ℤ) (j : ℕ) → HasSizesOf d c →
    image (c.states + 1 + c.rows) (λ j i. solve_column (counted d h) i j) (pulls c x l) j ≡
    h.matrix_factor *ℤ (pos (2 ^ c.step_exponent) *ℤ dot d.states (h.numbers.linear j) (at x)) +ℤ
    h.matrix_factor *ℤ (pos (2 ^ (c.fraction_bits + c.step_exponent)) *ℤ h.numbers.constant j) +ℤ h.row_factor *ℤ coimage (rows d) h.numbers.by_plan (at l) j
columns_are d h c x l j sizes =
    over_columns c.states c.rows (λ i. solve_column (counted d h) i j *ℤ pulls c x l i) ∙ joined _ _ _ _ _ _ states own multipliers
  where
    turn : (a b s x : ℤ) → a *ℤ b *ℤ (s *ℤ x) ≡ (a *ℤ s) *ℤ (b *ℤ x)
    turn a b s x = by_ring (a ∷ b ∷ s ∷ x ∷ []) (search quotes depth 60 fits 20000) refl

    turn_row : (a b x : ℤ) → a *ℤ b *ℤ x ≡ a *ℤ (b *ℤ x)
    turn_row a b x = by_ring (a ∷ b ∷ x ∷ []) (search quotes depth 60 fits 20000) refl

    turn_own : (a b x : ℤ) → a *ℤ b *ℤ x ≡ a *ℤ (x *ℤ b)
    turn_own a b x = by_ring (a ∷ b ∷ x ∷ []) (search quotes depth 60 fits 20000) refl

    joined : (a b e a' b' e' : ℤ) → a ≡ a' → b ≡ b' → e ≡ e' → a +ℤ b +ℤ e ≡ a' +ℤ b' +ℤ e'
    joined a b e a' b' e' h k m = rw (h, k, m) refl

    states : total c.states (λ i. solve_column (counted d h) i j *ℤ pulls c x l i) ≡
        h.matrix_factor *ℤ (pos (2 ^ c.step_exponent) *ℤ dot d.states (h.numbers.linear j) (at x))
    states = total_same c.states _ _ (λ i k.
        rw (state_column d h i j (rw (← (sizes.states)) k), state_pull c x l i k)
        (turn h.matrix_factor (h.numbers.linear j i) (pos (2 ^ c.step_exponent)) (at x i)))
        ∙ total_scale c.states (h.matrix_factor *ℤ pos (2 ^ c.step_exponent)) (λ i. h.numbers.linear j i *ℤ at x i)
        ∙ ap (λ (n : ℕ). (h.matrix_factor *ℤ pos (2 ^ c.step_exponent)) *ℤ total n (λ i. h.numbers.linear j i *ℤ at x i)) sizes.states
        ∙ mul_assoc_z h.matrix_factor (pos (2 ^ c.step_exponent)) (dot d.states (h.numbers.linear j) (at x))

    own : solve_column (counted d h) c.states j *ℤ pulls c x l c.states ≡ h.matrix_factor *ℤ (pos (2 ^ (c.fraction_bits + c.step_exponent)) *ℤ h.numbers.constant j)
    own = rw (own_pull c x l) (ap (λ (n : ℕ). solve_column (counted d h) n j *ℤ pos (2 ^ (c.fraction_bits + c.step_exponent))) sizes.states
        ∙ ap (λ (z : ℤ). z *ℤ pos (2 ^ (c.fraction_bits + c.step_exponent))) (own_column d h j)
        ∙ turn_own h.matrix_factor (h.numbers.constant j) (pos (2 ^ (c.fraction_bits + c.step_exponent))))

    multipliers : total c.rows (λ i. solve_column (counted d h) (c.states + 1 + i) j *ℤ pulls c x l (c.states + 1 + i)) ≡ h.row_factor *ℤ coimage (rows d) h.numbers.by_plan (at l) j
    multipliers = total_same c.rows _ _ (λ i k. rw (row_pull c x l i)
        (ap (λ (n : ℕ). solve_column (counted d h) (n + 1 + i) j *ℤ at l i) sizes.states ∙ ap (λ (z : ℤ). z *ℤ at l i) (row_column d h i j)
        ∙ turn_row h.row_factor (h.numbers.by_plan i j) (at l i)))
        ∙ total_scale c.rows h.row_factor (λ i. h.numbers.by_plan i j *ℤ at l i)
        ∙ ap (λ (n : ℕ). h.row_factor *ℤ total n (λ i. h.numbers.by_plan i j *ℤ at l i)) sizes.rows

-- ---- the slant, by numbers alone: w is 2^grid, s the step, p what is left of the fraction
closed : (limit plant w s p cost row hu f h g rs cs q ww : ℤ) {fx : ℤ} →
    rs ≡ limit *ℤ w *ℤ plant → cs ≡ cost *ℤ (row *ℤ w *ℤ plant *ℤ (row *ℤ w *ℤ plant)) → q ≡ w *ℤ p *ℤ s → ww ≡ w *ℤ w → fx ≡ p *ℤ f →
    rs *ℤ (ww *ℤ (s *ℤ hu) +ℤ (w *ℤ q) *ℤ (f +ℤ w *ℤ h)) +ℤ cs *ℤ (w *ℤ g) ≡
    w *ℤ w *ℤ w *ℤ ((limit *ℤ plant) *ℤ (s *ℤ hu +ℤ s *ℤ fx +ℤ q *ℤ h) +ℤ cost *ℤ (row *ℤ plant *ℤ (row *ℤ plant)) *ℤ g)
closed limit plant w s p cost row hu f h g rs cs q ww a b e k m =
    rw (a, b, e, k, m) (by_ring (limit ∷ plant ∷ w ∷ s ∷ p ∷ cost ∷ row ∷ hu ∷ f ∷ h ∷ g ∷ []) (search quotes depth 90 fits 20000) refl)

-- the slant at the machine's plan and multipliers, over 2^(fraction_bits + step_exponent), where the state is xi over the fraction
pub slant_is : (d : Design) (c : Numbers) (x l : List ℤ) (xi u : ℕ → ℤ) (j : ℕ) → HasSizesOf d c → c.grid_bits ≤ c.fraction_bits →
    ((i : ℕ) → i < c.states → at x i ≡ xi i *ℤ pos (2 ^ (c.fraction_bits - c.grid_bits))) →
    slant d (condensed_of d) (pos (2 ^ (c.fraction_bits + c.step_exponent))) xi (λ j. pos (2 ^ c.step_exponent) *ℤ u j) (at l) j ≡
    pos (2 ^ d.grid) *ℤ pos (2 ^ d.grid) *ℤ pos (2 ^ d.grid) *ℤ (pos (rows_scale d) *ℤ
    (pos (2 ^ c.step_exponent) *ℤ image (entries d) (condensed_of d).hessian u j +ℤ pos (2 ^ c.step_exponent) *ℤ dot d.states ((condensed_of d).linear j) (at x) +ℤ
    pos (2 ^ (c.fraction_bits + c.step_exponent)) *ℤ (condensed_of d).constant j) +ℤ pos (hessian_scale d) *ℤ coimage (rows d) (condensed_of d).by_plan (at l) j)
slant_is d c x l xi u j sizes le scaled =
    rw (image_scale (entries d) (condensed_of d).hessian (pos (2 ^ c.step_exponent)) u j, pow-two (d.row_denominator * d.plant_denominator ^ d.stages))
    (closed (pos d.limit_denominator) (pos (d.plant_denominator ^ d.stages)) (pos (2 ^ d.grid)) (pos (2 ^ c.step_exponent)) (pos (2 ^ (c.fraction_bits - c.grid_bits)))
    (pos d.cost_denominator) (pos d.row_denominator) (image (entries d) (condensed_of d).hessian u j) (image d.states (condensed_of d).linear xi j) ((condensed_of d).constant j)
    (coimage (rows d) (condensed_of d).by_plan (at l) j) (pos (residual_scale d)) (pos (cost_scale d)) (pos (2 ^ (c.fraction_bits + c.step_exponent))) (pos (4 ^ d.grid))
    refl (ap (λ (n : ℕ). pos (d.cost_denominator * n)) (pow-two (d.row_denominator * 2 ^ d.grid * d.plant_denominator ^ d.stages))) fraction (ap pos (four-pow d.grid)) state)
  where
    fraction : pos (2 ^ (c.fraction_bits + c.step_exponent)) ≡ pos (2 ^ d.grid) *ℤ pos (2 ^ (c.fraction_bits - c.grid_bits)) *ℤ pos (2 ^ c.step_exponent)
    fraction =
        let split : c.fraction_bits ≡ d.grid + (c.fraction_bits - c.grid_bits) = omega (arith, sizes.grid) in
        ap pos (pow-add 2 c.fraction_bits c.step_exponent ∙ ap (λ (n : ℕ). n * 2 ^ c.step_exponent) (ap (λ (n : ℕ). 2 ^ n) split ∙ pow-add 2 d.grid (c.fraction_bits - c.grid_bits)))

    turn : (a b p : ℤ) → a *ℤ (b *ℤ p) ≡ p *ℤ (a *ℤ b)
    turn a b p = by_ring (a ∷ b ∷ p ∷ []) (search quotes depth 60 fits 20000) refl

    state : dot d.states ((condensed_of d).linear j) (at x) ≡ pos (2 ^ (c.fraction_bits - c.grid_bits)) *ℤ image d.states (condensed_of d).linear xi j
    state = total_same d.states _ _ (λ i k. rw (scaled i (rw sizes.states k)) (turn ((condensed_of d).linear j i) (xi i) (pos (2 ^ (c.fraction_bits - c.grid_bits)))))
        ∙ total_scale d.states (pos (2 ^ (c.fraction_bits - c.grid_bits))) (λ i. (condensed_of d).linear j i *ℤ xi i)
