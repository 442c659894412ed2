-- How the cost of a design changes along a step, and between plans.
use Rattle.std.specs.Prelude.{◌≡◌, ℕ, ◌^◌, ℤ, pos, ◌+ℤ◌, ◌-ℤ◌, ◌*ℤ◌, ◌≤ℤ◌}
use Rattle.integer_algebra.specs.Sums.{total, dot, image, square}
use Rattle.qp_model.specs.problem.Design.{Design, entries}
use Rattle.qp_model.specs.problem.Sound.{IsSound}
use Rattle.qp_model.specs.problem.Cost.{cost, cost_scale}
use Rattle.qp_model.specs.form.Condensed.{Condensed, IsCondensed, gradient_at}
use Rattle.qp_model.specs.form.Curvature.{curvature}

-- V(xi, u + v) = V(xi, u) + (H u + F x + h0)'v + Vq(v), times `cost_scale d` * q^2, for plans u and steps v over q
abbrev pub ExpansionLaw : Type 0
ExpansionLaw = (d : Design) (k : Condensed) → IsCondensed d k → (q : ℤ) (xi u v : ℕ → ℤ) →
    cost d q xi (λ j. u j +ℤ v j) ≡ cost d q xi u +ℤ dot (entries d) (gradient_at d k q xi u) v +ℤ curvature d v

-- 2 Vq(v) = v'Hv, times `cost_scale d`
abbrev pub HessianLaw : Type 0
HessianLaw = (d : Design) (k : Condensed) → IsCondensed d k → (v : ℕ → ℤ) →
    pos 2 *ℤ curvature d v ≡ pos (4 ^ d.grid) *ℤ dot (entries d) v (image (entries d) k.hessian v)

-- Vq(v) is at least rho / cost_denominator times the squares of the entries of v, times `cost_scale d` * cost_denominator
abbrev pub CurvatureLaw : Type 0
CurvatureLaw = (d : Design) (rho : ℕ) → IsSound d rho → (v : ℕ → ℤ) →
    (pos rho *ℤ pos (cost_scale d) *ℤ total (entries d) (λ j. square (v j))) ≤ℤ (pos d.cost_denominator *ℤ curvature d v)

-- the average of n plans over q costs at most the average of their costs, times `cost_scale d` * (n q)^2
abbrev pub AverageLaw : Type 0
AverageLaw = (d : Design) (rho : ℕ) → IsSound d rho → (q : ℤ) (xi : ℕ → ℤ) (n : ℕ) (u : ℕ → ℕ → ℤ) →
    cost d (pos n *ℤ q) xi (λ j. total n (λ k. u k j)) ≤ℤ (pos n *ℤ total n (λ k. cost d q xi (u k)))

-- 2 V(xi, u) = 2 V(xi, t) + (g(u) + g(t))'(u - t) with the gradients g, times `cost_scale d` * q^2 * r^2, for a plan u over q and a plan t over r
abbrev pub DifferenceLaw : Type 0
DifferenceLaw = (d : Design) (k : Condensed) → IsCondensed d k → (xi : ℕ → ℤ) (q : ℤ) (u : ℕ → ℤ) (r : ℤ) (t : ℕ → ℤ) →
    pos 2 *ℤ (cost d q xi u *ℤ square r) ≡ pos 2 *ℤ (cost d r xi t *ℤ square q) +ℤ
    dot (entries d) (λ j. r *ℤ gradient_at d k q xi u j +ℤ q *ℤ gradient_at d k r xi t j) (λ j. r *ℤ u j -ℤ q *ℤ t j)

-- V(xi, u) is at most V(xi, t) and the squares of the gradient at u over 4 rho / cost_denominator, times 4 rho * `cost_scale d`^2 * q^2 * r^2, for a plan
-- u over q and every plan t over r, feasible or not
abbrev pub FloorLaw : Type 0
FloorLaw = (d : Design) (rho : ℕ) (k : Condensed) → IsSound d rho → IsCondensed d k → (xi : ℕ → ℤ) (q : ℤ) (u : ℕ → ℤ) (r : ℤ) (t : ℕ → ℤ) →
    (pos 4 *ℤ (pos rho *ℤ pos (cost_scale d)) *ℤ (cost d q xi u *ℤ square r)) ≤ℤ
    (pos 4 *ℤ (pos rho *ℤ pos (cost_scale d)) *ℤ (cost d r xi t *ℤ square q) +ℤ
    pos d.cost_denominator *ℤ total (entries d) (λ j. square (gradient_at d k q xi u j)) *ℤ square r)
