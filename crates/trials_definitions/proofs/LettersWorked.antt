-- Which letter of a controller's struct is which number, and which field of the bounds is printed as what: side by side in lists, those of one type in one.
use Rattle.std.proofs.Common.{◌≡◌, [], ◌∷◌, refl}
use Rattle.qp_model.specs.declared.controller_parts.ControllerParts.{ControllerParts}
use Rattle.qp_model.specs.declared.bounds.Bounds.{Bounds}
use Rattle.qp_model.specs.machine.Controller.{Numbers, numbers}
use Rattle.qp_model.specs.bounds.Printed.{Printed, printed}

-- ---- a controller
module _ (c : ControllerParts) where
  abbrev is : Numbers
  is = numbers c

  sizes : is.version ∷ is.states ∷ is.inputs ∷ is.stages ∷ is.rows ∷ is.words ∷ [] ≡ c.version ∷ c.n ∷ c.p ∷ c.stages ∷ c.m ∷ c.words ∷ []
  sizes = refl

  choices : is.fraction_bits ∷ is.grid_bits ∷ is.step_exponent ∷ is.width ∷ is.steps ∷ [] ≡ c.f ∷ c.g ∷ c.s ∷ c.w ∷ c.steps ∷ []
  choices = refl

  clamp : is.clamp ≡ c.clamp
  clamp = refl

  exponents : is.exponents ≡ c.exps.items
  exponents = refl

  lists : is.low ∷ is.high ∷ is.offsets ∷ is.bounds ∷ [] ≡ c.lo.items ∷ c.hi.items ∷ c.t.items ∷ c.bound.items ∷ []
  lists = refl

  matrices : is.state_gains ∷ is.dual_gains ∷ is.plan_rows ∷ is.state_rows ∷ [] ≡ c.p_mat ∷ c.w_mat ∷ c.g_mat ∷ c.e_mat ∷ []
  matrices = refl

-- ---- what is printed
module _ (b : Bounds) where
  abbrev line : Printed
  line = printed b

  counts : line.version ∷ line.step ∷ line.steps ∷ line.bits ∷ line.width ∷ line.words ∷ [] ≡ b.version ∷ b.step ∷ b.steps ∷ b.bits ∷ b.width ∷ b.words ∷ []
  counts = refl

  lean : line.lean ≡ b.lean
  lean = refl

  amounts : line.margin ∷ line.cost ∷ line.multiplier ∷ line.violation ∷ line.gap ∷ line.undercut ∷ [] ≡ b.margin ∷ b.cost ∷ b.multiplier ∷ b.violation ∷ b.gap ∷ b.undercut ∷ []
  amounts = refl

  row_violations : line.row_violations ≡ b.rows.items
  row_violations = refl
