-- A form of a design, whose numbers may be rounded: what its radii come to.
use Rattle.std.proofs.Common.{◌≡◌, ◌⊎◌, inl, inr, ℕ, zero, suc, ◌+◌, ◌*◌, ◌^◌, ◌<◌, ◌≤◌, [], ◌∷◌, ℤ, pos, negsuc, ◌+ℤ◌, ◌-ℤ◌, ◌*ℤ◌, ◌≤ℤ◌, unsigned_abs, arith, ap, ◌∙◌, refl}
use Rattle.std.proofs.lemmas.Int.{ints}
use Rattle.std.proofs.Math.Nat.{mul-le-mul_left, one-le-mul}
use Rattle.integer_algebra.specs.Sums.{total, dot}
use Rattle.integer_algebra.specs.Sizes.{amount}
use Rattle.integer_algebra.specs.Bounds.{absolute, IsWithin}
use Rattle.integer_algebra.specs.Division.{ceil_div}
use Rattle.integer_algebra.proofs.SumLaws.{total_same, total_scale, total_add, total_mono}
use Rattle.integer_algebra.proofs.SizeLaws.{total_amount}
use Rattle.integer_algebra.proofs.BoundLaws.{within_total, within_times, within_more}
use Rattle.integer_algebra.proofs.DivisionLaws.{le-mul-ceil_div, ceil_div-le}
use Rattle.integer_algebra.proofs.PowerLaws.{pow_positive}
use Rattle.integer_algebra.proofs.Quoting.{by_ring, quotes}
use Rattle.integer_algebra.proofs.AmountLaws.{amount_none}
use Rattle.qp_model.specs.problem.Design.{Design, entries, rows}
use Rattle.qp_model.specs.form.Form.{Form, EnclosesDesign, IsFormFor, hessian_radii, linear_radii, plan_radii, state_radii, column_radii}
use Rattle.qp_model.specs.problem.Sound.{IsSound}
use Rattle.qp_model.specs.form.Quantities.{greatest, input_floor}
use Rattle.qp_model.specs.bounds.Errors.{state_bound, error_sums_of, radius_error, row_radii}
use Rattle.qp_model.proofs.SizeFacts.{greatest_term}
use Rattle.step_error.specs.MachineLaws.{row_radius}

-- ---- its counts
-- the form with the design's own counts, which are its counts
abbrev pub counted : Design → Form → Form
counted d h = record h { entries = entries d; states = d.states; rows = rows d }

pub counted_is : (d : Design) (h : Form) → EnclosesDesign d h → h ≡ counted d h
counted_is d h e = λ i. record h { entries = e.entry_count i; states = e.state_count i; rows = e.row_count i }

-- ---- sums of numbers that are within radii
-- a scalar product with numbers, each of which is within a radius of another, where no entry of the other list is above `top`
pub dot_apart : (n : ℕ) (a b : ℤ) (s top : ℕ) (f g v : ℕ → ℤ) (radius : ℕ → ℕ) → ((i : ℕ) → i < n → IsWithin (pos (s * radius i)) (a *ℤ f i -ℤ b *ℤ g i)) →
    ((i : ℕ) → i < n → unsigned_abs (v i) ≤ top) → IsWithin (pos (s * (top * amount n radius))) (a *ℤ dot n f v -ℤ b *ℤ dot n g v)
dot_apart n a b s top f g v radius within small =
    rw (← collected) (within_more _ _ _
    (within_total n (λ i. pos (s * radius i) *ℤ absolute (v i)) (λ i. (a *ℤ f i -ℤ b *ℤ g i) *ℤ v i)
    (λ i l. within_times (pos (s * radius i)) (a *ℤ f i -ℤ b *ℤ g i) (v i) (within i l))) bounded)
  where
    turn : (a b f g v : ℤ) → (a *ℤ f -ℤ b *ℤ g) *ℤ v ≡ a *ℤ (f *ℤ v) +ℤ (negsuc 0 *ℤ b) *ℤ (g *ℤ v)
    turn a b f g v = by_ring (a ∷ b ∷ f ∷ g ∷ v ∷ []) (search quotes depth 60 fits 20000) refl

    closed : (a b x y : ℤ) → a *ℤ x +ℤ (negsuc 0 *ℤ b) *ℤ y ≡ a *ℤ x -ℤ b *ℤ y
    closed a b x y = by_ring (a ∷ b ∷ x ∷ y ∷ []) (search quotes depth 60 fits 20000) refl

    parts : (n : ℕ) (a b : ℤ) (x y : ℕ → ℤ) → total n (λ i. a *ℤ x i +ℤ b *ℤ y i) ≡ a *ℤ total n x +ℤ b *ℤ total n y
    parts n a b x y = simp (total_add, total_scale)

    collected : total n (λ i. (a *ℤ f i -ℤ b *ℤ g i) *ℤ v i) ≡ a *ℤ dot n f v -ℤ b *ℤ dot n g v
    collected = total_same n _ _ (λ i l. turn a b (f i) (g i) (v i)) ∙ parts n a (negsuc 0 *ℤ b) (λ i. f i *ℤ v i) (λ i. g i *ℤ v i) ∙ closed a b (dot n f v) (dot n g v)

    each : (r v : ℕ) → v ≤ top → (pos (s * r) *ℤ pos v) ≤ℤ (pos (s * top) *ℤ pos r)
    each r v h = let k = mul-le-mul_left (s * r) h in let e : s * r * top ≡ s * top * r = omega arith in omega (arith, ints, k, e)

    bounded : total n (λ i. pos (s * radius i) *ℤ absolute (v i)) ≤ℤ pos (s * (top * amount n radius))
    bounded = rw (← (let e : pos (s * top) *ℤ total n (λ i. pos (radius i)) ≡ pos (s * (top * amount n radius)) = rw (total_amount n radius) (flat (amount n radius)) in e))
        (rw (← (total_scale n (pos (s * top)) (λ i. pos (radius i)))) (total_mono n _ _ (λ i l. each (radius i) (unsigned_abs (v i)) (small i l))))
      where
        flat : (m : ℕ) → pos (s * top) *ℤ pos m ≡ pos (s * (top * m))
        flat m = ap pos (let e : s * top * m ≡ s * (top * m) = omega arith in e)

-- ---- what the radii come to
cost_positive : (d : Design) → IsSound d (input_floor d) → 0 < d.cost_denominator * d.row_denominator ^ 2
cost_positive d s = one-le-mul s.cost_denominator (pow_positive d.row_denominator 2 s.row_denominator)

-- the radii that reach an entry of the gradient, over the product of both scales and 2^40
pub gradient_radius : (d : Design) (h : Form) (r plan j : ℕ) → IsSound d (input_floor d) → IsFormFor d h → j < h.entries →
    2 ^ 40 * (h.rows_scale * (plan * hessian_radii h j + state_bound d * linear_radii h j + h.constant_radius j) + h.hessian_scale * (2 * r * column_radii h j)) ≤
    h.rows_scale * h.hessian_scale * radius_error (error_sums_of d h r) plan
gradient_radius d h r plan j sound form inside = elim form.class [
  | inl e ↦ none (2 ^ 40) h.rows_scale h.hessian_scale plan (state_bound d) (2 * r) (hessian_radii h j) (linear_radii h j) (h.constant_radius j) (column_radii h j)
      (radius_error (error_sums_of d h r) plan)
      (amount_none h.entries (h.hessian_radius j) (λ i l. e.0.hessian j i inside l)) (amount_none h.states (h.linear_radius j) (λ i l. e.0.linear j i inside l))
      (e.0.constant j inside) (amount_none h.rows (λ i. h.plan_radius i j) (λ i l. e.0.plan i j l inside))
  | inr e ↦ fine (2 ^ 40) (d.cost_denominator * d.row_denominator ^ 2) d.limit_denominator plan (state_bound d) (2 * r)
      (hessian_radii h j) (linear_radii h j) (h.constant_radius j) (column_radii h j)
      (greatest h.entries (hessian_radii h)) (greatest h.entries (linear_radii h)) (greatest h.entries h.constant_radius) (greatest h.entries (column_radii h))
      h.hessian_scale h.rows_scale _ _ e.0.hessian_scale e.0.rows_scale
      (greatest_term j h.entries (hessian_radii h) inside) (greatest_term j h.entries (linear_radii h) inside)
      (greatest_term j h.entries h.constant_radius inside) (greatest_term j h.entries (column_radii h) inside)
      (le-mul-ceil_div (plan * greatest h.entries (hessian_radii h) + state_bound d * greatest h.entries (linear_radii h) + greatest h.entries h.constant_radius)
      (d.cost_denominator * d.row_denominator ^ 2) (cost_positive d sound))
      (le-mul-ceil_div (2 * r * greatest h.entries (column_radii h)) d.limit_denominator sound.limit_denominator)
]
  where
    none : (p g s u x y a b c o q : ℕ) → a ≡ 0 → b ≡ 0 → c ≡ 0 → o ≡ 0 → p * (g * (u * a + x * b + c) + s * (y * o)) ≤ g * s * q
    none p g s u x y a b c o q ha hb hc ho = rw (ha, hb, hc, ho) (omega arith)

    fine : (p w l u x y a b c o a' b' c' o' s g q t : ℕ) → s ≡ w * p → g ≡ l * p → a ≤ a' → b ≤ b' → c ≤ c' → o ≤ o' → u * a' + x * b' + c' ≤ w * q → y * o' ≤ l * t →
        p * (g * (u * a + x * b + c) + s * (y * o)) ≤ g * s * (q + t)
    fine p w l u x y a b c o a' b' c' o' s g q t hs hg ha hb hc ho hq ht = rw (hs, hg)
        (let e : u * a + x * b + c ≤ w * q = omega (arith, mul-le-mul_left u ha, mul-le-mul_left x hb, hc, hq) in
        let f : y * o ≤ l * t = omega (arith, mul-le-mul_left y ho, ht) in
        omega (arith, mul-le-mul_left (p * l * p) e, mul-le-mul_left (p * w * p) f))

-- the radii that reach all residuals, over rows_scale
pub all_radii : (d : Design) (h : Form) (r plan : ℕ) → amount h.rows (row_radius d h plan) ≡ row_radii (error_sums_of d h r) plan
all_radii d h r plan = summed h.rows plan (state_bound d) (plan_radii h) (state_radii h)
  where
    summed : (n a b : ℕ) (f g : ℕ → ℕ) → amount n (λ i. a * f i + b * g i) ≡ a * amount n f + b * amount n g
    summed zero a b f g = omega arith
    summed (suc n) a b f g = omega (arith, summed n a b f g)

-- what they cost, where multipliers are up to 2 r
pub residual_radius : (d : Design) (h : Form) (r plan : ℕ) → IsSound d (input_floor d) → IsFormFor d h →
    2 ^ 40 * (2 * r * row_radii (error_sums_of d h r) plan) ≤ h.rows_scale * ceil_div (2 * r * row_radii (error_sums_of d h r) plan) d.limit_denominator
residual_radius d h r plan sound form = elim form.class [
  | inl e ↦ none (2 ^ 40) h.rows_scale (2 * r) plan (state_bound d) (amount h.rows (plan_radii h)) (amount h.rows (state_radii h)) _
      (amount_none h.rows (plan_radii h) (λ i l. amount_none h.entries (h.plan_radius i) (λ j m. e.0.plan i j l m)))
      (amount_none h.rows (state_radii h) (λ i l. amount_none h.states (h.state_radius i) (λ j m. e.0.state i j l m)))
  | inr e ↦ fine (2 ^ 40) d.limit_denominator (2 * r * row_radii (error_sums_of d h r) plan) h.rows_scale _ e.0.rows_scale
      (le-mul-ceil_div (2 * r * row_radii (error_sums_of d h r) plan) d.limit_denominator sound.limit_denominator)
]
  where
    none : (p g y u x a b q : ℕ) → a ≡ 0 → b ≡ 0 → p * (y * (u * a + x * b)) ≤ g * q
    none p g y u x a b q ha hb = rw (ha, hb) (omega arith)

    fine : (p l a g q : ℕ) → g ≡ l * p → a ≤ l * q → p * a ≤ g * q
    fine p l a g q e h = rw e (omega (arith, mul-le-mul_left p h))

-- with no radius the gradient has no radius error, and else the spread is 2
pub spread_of : (d : Design) (h : Form) (r plan : ℕ) → IsSound d (input_floor d) → IsFormFor d h → ((h.spread ≡ 1) × (radius_error (error_sums_of d h r) plan ≡ 0)) ⊎ (h.spread ≡ 2)
spread_of d h r plan sound form = elim form.class [
  | inl e ↦ inl (
    e.1,
    none plan (state_bound d) (2 * r) (d.cost_denominator * d.row_denominator ^ 2) d.limit_denominator
        (greatest h.entries (hessian_radii h)) (greatest h.entries (linear_radii h)) (greatest h.entries h.constant_radius) (greatest h.entries (column_radii h))
        (cost_positive d sound) sound.limit_denominator
        (greatest_none h.entries (hessian_radii h) (λ j l. amount_none h.entries (h.hessian_radius j) (λ i m. e.0.hessian j i l m)))
        (greatest_none h.entries (linear_radii h) (λ j l. amount_none h.states (h.linear_radius j) (λ i m. e.0.linear j i l m)))
        (greatest_none h.entries h.constant_radius (λ j l. e.0.constant j l))
        (greatest_none h.entries (column_radii h) (λ j l. amount_none h.rows (λ i. h.plan_radius i j) (λ i m. e.0.plan i j m l))),
  )
  | inr e ↦ inr e.1
]
  where
    greatest_none : (n : ℕ) (f : ℕ → ℕ) → ((i : ℕ) → i < n → f i ≡ 0) → greatest n f ≡ 0
    greatest_none zero f h = refl
    greatest_none (suc n) f h = omega (arith, greatest_none n f (λ i l. h i (omega arith)), h n (omega arith))

    none : (u x y w l a b c o : ℕ) → 0 < w → 0 < l → a ≡ 0 → b ≡ 0 → c ≡ 0 → o ≡ 0 → ceil_div (u * a + x * b + c) w + ceil_div (y * o) l ≡ 0
    none u x y w l a b c o pw pl ha hb hc ho = rw (ha, hb, hc, ho)
        (let e = ceil_div-le (u * 0 + x * 0 + 0) w 0 pw (omega arith) in
        let f = ceil_div-le (y * 0) l 0 pl (omega arith) in
        omega (arith, e, f))
