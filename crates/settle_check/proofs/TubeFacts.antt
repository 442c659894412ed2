-- What a loop is to lie in at a turn, and whether it does.
use Rattle.std.proofs.Common.{◌≡◌, ℕ, zero, suc, ◌+◌, ◌-◌, ◌≤◌, ℤ, Bool, true, false, length, refl, subst, arith, ◌∙◌, if◌then◌else◌, nat_lt}
use Rattle.std.specs.Int.{int_max, int_min}
use Rattle.settle_check.specs.Still.{Box, IsPartOf}
use Rattle.settle_check.specs.Settling.{hull}
use Rattle.settle_check.specs.Certificates.{state_box, certificate_of, goal_of, HasLength, IsCertificateFor}
use Rattle.settle_check.specs.Beyond.{goal_at}
use Rattle.settle_check.specs.declared.certificate.StateBox.{StateBox}
use Rattle.settle_check.specs.declared.certificate.CertificateParts.{CertificateParts}

pub goal_is : (p : CertificateParts) (turns t : ℕ) → state_box (goal_of p turns t) ≡ goal_at (certificate_of p) turns t
goal_is p turns t = by_test (nat_lt t turns)
  where
    by_test : (b : Bool) → state_box (if b then p.still else p.rest) ≡ (if b then state_box p.still else state_box p.rest)
    by_test true = refl
    by_test false = refl

pub goal_long : (n : ℕ) (p : CertificateParts) (turns t : ℕ) → IsCertificateFor n p → HasLength n (goal_of p turns t)
goal_long n p turns t h = by_test (nat_lt t turns)
  where
    by_test : (b : Bool) → HasLength n (if b then p.still else p.rest)
    by_test true = h.still
    by_test false = h.rest

-- one turn more in the least box that holds the boxes of the turns
pub lower : (boxes : ℕ → Box) (i turn : ℕ) (least x r : ℤ) → 1 ≤ turn → least ≡ (hull boxes (turn - 1)).low i → x ≡ (boxes turn).low i → r ≡ int_min least x →
    r ≡ (hull boxes (turn + 1 - 1)).low i
lower boxes i zero least x r h e f g = absurd (omega (arith, h))
lower boxes i (suc k) least x r h e f g =
    let one : suc k + 1 - 1 ≡ suc k = omega arith in
    let before : suc k - 1 ≡ k = omega arith in
    rw one (g ∙ rw (e, f, before) refl)

pub higher : (boxes : ℕ → Box) (i turn : ℕ) (greatest x r : ℤ) → 1 ≤ turn → greatest ≡ (hull boxes (turn - 1)).high i → x ≡ (boxes turn).high i → r ≡ int_max greatest x →
    r ≡ (hull boxes (turn + 1 - 1)).high i
higher boxes i zero greatest x r h e f g = absurd (omega (arith, h))
higher boxes i (suc k) greatest x r h e f g =
    let one : suc k + 1 - 1 ≡ suc k = omega arith in
    let before : suc k - 1 ≡ k = omega arith in
    rw one (g ∙ rw (e, f, before) refl)

-- a goal that a box lies in, at its length
pub goal_inside : (n : ℕ) (p : CertificateParts) (turns t : ℕ) (goal : StateBox) (box : Box) → IsCertificateFor n p → goal ≡ goal_of p turns t →
    IsPartOf (length goal.low.items) (state_box goal) box → IsPartOf n (goal_at (certificate_of p) turns t) box
goal_inside n p turns t goal box h e inside =
    rw (← (goal_is p turns t), ← (goal_long n p turns t h).low) (subst (λ (g : StateBox). IsPartOf (length g.low.items) (state_box g) box) e inside)
