-- A certificate as the code holds it.
use Rattle.std.specs.Prelude.{◌≡◌, ℕ, ◌≤◌, length, if◌then◌else◌, nat_lt}
use Rattle.qp_model.specs.problem.Runs.{Holds}
use Rattle.settle_check.specs.Still.{Box, box_of}
use Rattle.settle_check.specs.Settling.{Certificate}
use Rattle.settle_check.specs.declared.certificate.StateBox.{StateBox}
use Rattle.settle_check.specs.declared.certificate.CertificateParts.{CertificateParts}

abbrev pub state_box : StateBox → Box
state_box b = box_of b.low.items b.high.items

abbrev pub certificate_of : CertificateParts → Certificate
certificate_of p = record { start = state_box p.start; still = state_box p.still; rest = state_box p.rest; turns = p.turns; after = p.after; back = p.back }

-- of n coordinates
pub record HasLength (n : ℕ) (b : StateBox) : Type 0 where
  pub low : length b.low.items ≡ n
  pub high : length b.high.items ≡ n

pub record IsCertificateFor (n : ℕ) (p : CertificateParts) : Type 0 where
  pub start : HasLength n p.start
  pub still : HasLength n p.still
  pub rest : HasLength n p.rest
  pub some : 1 ≤ p.back

-- the box that a loop is to lie in at a turn
abbrev pub goal_of : CertificateParts → (turns : ℕ) → ℕ → StateBox
goal_of p turns t = if nat_lt t turns then p.still else p.rest

-- the lists hold the ends of a box of n coordinates
pub record IsBoxOf (n : ℕ) (z : Box) (b : StateBox) : Type 0 where
  pub low : Holds b.low.items n z.low
  pub high : Holds b.high.items n z.high
