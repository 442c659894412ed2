-- The condensed cost as weighted sums over counted rows, and their bounds.
use Rattle.std.proofs.Common.{◌≡◌, inl, inr, ℕ, zero, suc, ◌+◌, ◌-◌, ◌*◌, ◌/◌, ◌%◌, ◌^◌, ◌<◌, ◌≤◌, [], ◌∷◌, Bool, true, false, ℤ, pos, ◌+ℤ◌, ◌*ℤ◌, neg_ℤ, nat_lt, if◌then◌else◌, unsigned_abs, arith, ◌∙◌, refl}
use Rattle.std.proofs.lemmas.Bool.{cases_lt, lt-ltb, le-ltb}
use Rattle.std.proofs.lemmas.Int.{unsigned_abs-mul}
use Rattle.std.proofs.Math.Nat.{mul-le-mul_left}
use Rattle.integer_algebra.specs.Sums.{total, none}
use Rattle.integer_algebra.specs.Sizes.{size, product_size}
use Rattle.integer_algebra.proofs.RingLaws.{add_equations}
use Rattle.integer_algebra.proofs.SumLaws.{total_same, total_scale}
use Rattle.integer_algebra.proofs.PowerLaws.{pow-two}
use Rattle.integer_algebra.proofs.Quoting.{by_ring, quotes}
use Rattle.qp_model.specs.problem.Design.{Design, CostRow, entries}
use Rattle.qp_model.specs.form.Condensing.{condensed_of, cost_target}
use Rattle.qp_model.specs.problem.Runs.{unit, cost_run, counted, counts}
use Rattle.qp_model.proofs.RowLaws.{lift_power, stage_inside}
use Rattle.qp_model.proofs.GramLaws.{gram_law, own_diagonal}
use Rattle.condensed_form.specs.Costs.{plan_cost, state_cost, weight_of, target_of, weighed, own_cost}

-- ---- each number as a weighted sum
chosen : (b : Bool) (w v a e p q : ℤ) → (if b then pos 2 *ℤ (w *ℤ (a *ℤ p)) else pos 2 *ℤ (v *ℤ (e *ℤ q))) ≡
    pos 2 *ℤ ((if b then a else e) *ℤ ((if b then w else v) *ℤ (if b then p else q)))
chosen true w v a e p q = by_ring (w ∷ a ∷ p ∷ []) (search quotes depth 60 fits 20000) refl
chosen false w v a e p q = by_ring (v ∷ e ∷ q ∷ []) (search quotes depth 60 fits 20000) refl

counted_weighed : (d : Design) (j : ℕ) (f : ℕ → CostRow → ℤ) →
    total (counts d) (counted d (λ k r. pos 2 *ℤ (r.weight *ℤ (cost_run d none (unit j) k r *ℤ f k r)))) ≡ weighed d j (counted d f)
counted_weighed d j f =
    total_same (counts d) _ _ (λ c l. chosen (nat_lt c (d.stages * d.stage_costs)) _ _ _ _ _ _) ∙
    total_scale (counts d) (pos 2) (λ c. plan_cost d j c *ℤ (weight_of d c *ℤ counted d f c))

pub hessian_is : (d : Design) (i j : ℕ) → 1 ≤ d.inputs → i < entries d → (condensed_of d).hessian i j ≡ weighed d i (plan_cost d j) +ℤ own_cost d i j
hessian_is d i j h l = (gram_law d).hessian i j h ∙ add_equations (counted_weighed d i (cost_run d none (unit j))) (own_diagonal d i j l)

pub linear_is : (d : Design) (j i : ℕ) → 1 ≤ d.inputs → (condensed_of d).linear j i ≡ weighed d j (state_cost d i)
linear_is d j i h = (gram_law d).linear j i h ∙ counted_weighed d j (cost_run d (unit i) none)

pub constant_is : (d : Design) (j : ℕ) → 1 ≤ d.inputs →
    (condensed_of d).constant j ≡ weighed d j (λ c. neg_ℤ (pos (d.plant_denominator ^ d.stages)) *ℤ target_of d c)
constant_is d j h = (gram_law d).constant j h ∙
    total_same (counts d) _ _ (λ c l. term c l) ∙
    total_scale (counts d) (pos 2) (λ c. plan_cost d j c *ℤ (weight_of d c *ℤ (neg_ℤ (pos (d.plant_denominator ^ d.stages)) *ℤ target_of d c)))
  where
    plain : (m q w a t : ℤ) → neg_ℤ (pos 2 *ℤ (w *ℤ (a *ℤ (m *ℤ (q *ℤ t))))) ≡ pos 2 *ℤ (a *ℤ (w *ℤ (neg_ℤ (m *ℤ q) *ℤ t)))
    plain m q w a t = by_ring (m ∷ q ∷ w ∷ a ∷ t ∷ []) (search quotes depth 60 fits 20000) refl

    turned : (m q n : ℕ) (w a t : ℤ) → m * q ≡ n → neg_ℤ (pos 2 *ℤ (w *ℤ (a *ℤ (pos m *ℤ (pos q *ℤ t))))) ≡ pos 2 *ℤ (a *ℤ (w *ℤ (neg_ℤ (pos n) *ℤ t)))
    turned m q n w a t e = rw (← e) (plain (pos m) (pos q) w a t)

    term : (c : ℕ) → c < counts d → counted d (λ k r. neg_ℤ (pos 2 *ℤ (r.weight *ℤ (cost_run d none (unit j) k r *ℤ cost_target d k r)))) c ≡
        pos 2 *ℤ (plan_cost d j c *ℤ (weight_of d c *ℤ (neg_ℤ (pos (d.plant_denominator ^ d.stages)) *ℤ target_of d c)))
    term c l = elim (cases_lt c (d.stages * d.stage_costs)) [
      | inl m ↦ rw (lt-ltb c (d.stages * d.stage_costs) m) (turned (d.plant_denominator ^ (d.stages - suc (c / d.stage_costs))) (d.plant_denominator ^ suc (c / d.stage_costs)) _ _
          (cost_run d none (unit j) (suc (c / d.stage_costs)) (d.stage_cost (c % d.stage_costs))) _
          (lift_power d.plant_denominator d.stages (suc (c / d.stage_costs)) (omega (arith, stage_inside c d.stages d.stage_costs m))))
      | inr m ↦ rw (le-ltb c (d.stages * d.stage_costs) m) (turned (d.plant_denominator ^ (d.stages - d.stages)) (d.plant_denominator ^ d.stages) _ _
          (cost_run d none (unit j) d.stages (d.final_cost (c - d.stages * d.stage_costs))) _
          (lift_power d.plant_denominator d.stages d.stages (omega arith)))
    ]

-- ---- bounds
-- the products of weighted numbers, each of at most b, with numbers of at most b
pub products_room : (n : ℕ) (a w f : ℕ → ℤ) (b : ℕ) → ((c : ℕ) → c < n → unsigned_abs (a c) ≤ b) → ((c : ℕ) → c < n → unsigned_abs (f c) ≤ b) →
    product_size n a (λ c. w c *ℤ f c) ≤ size n w * b ^ 2
products_room zero a w f b h k = omega arith
products_room (suc n) a w f b h k = numbers _ _ _ _ _ _ b (pow-two b) (pow-two b)
    (products_room n a w f b (λ c l. h c (omega arith)) (λ c l. k c (omega arith))) (one (a n) (w n) (f n) (h n (omega arith)) (k n (omega arith)))
  where
    one : (x y z : ℤ) → unsigned_abs x ≤ b → unsigned_abs z ≤ b → unsigned_abs (x *ℤ (y *ℤ z)) ≤ unsigned_abs y * (b * b)
    one x y z hx hz = rw (unsigned_abs-mul x (y *ℤ z), unsigned_abs-mul y z) (three (unsigned_abs x) (unsigned_abs y) (unsigned_abs z) hx hz)
      where
        three : (x y z : ℕ) → x ≤ b → z ≤ b → x * (y * z) ≤ y * (b * b)
        three x y z h k = omega (arith, mul-le-mul_left (y * z) h, mul-le-mul_left (y * b) k)

    numbers : (p q s t x y b : ℕ) → x ≡ b * b → y ≡ b * b → p ≤ s * x → q ≤ t * (b * b) → p + q ≤ (s + t) * y
    numbers p q s t x y b e f h k = rw f (omega (arith, rw e at h))
