-- How many instructions the step of a controller has.
use Rattle.std.specs.Prelude.{◌≡◌, ℕ, zero, suc, ◌+◌, ◌*◌, ℤ, pos, negsuc, List, [], ◌∷◌, length}
use Rattle.integer_algebra.specs.Sizes.{amount}
use Rattle.mat_int.specs.Matrix.{row_of}
use Rattle.qp_model.specs.machine.Controller.{Numbers, plan_length}
use Rattle.qp_model.specs.machine.AbsoluteSums.{IsController}
use Rattle.mac_listing.specs.Body.{body_of}

-- how many numbers of a list are 0
abbrev pub zeros_in : List ℤ → ℕ
zeros_in [] = 0
zeros_in (pos zero ∷ xs) = suc (zeros_in xs)
zeros_in (pos (suc n) ∷ xs) = zeros_in xs
zeros_in (negsuc n ∷ xs) = zeros_in xs

-- how many products are left out, since their constant is 0
abbrev pub left_out : Numbers → ℕ
left_out c =
    amount (length c.offsets) (λ j. zeros_in (row_of c.state_gains j) + zeros_in (row_of c.dual_gains j))
    + amount (length c.bounds) (λ i. zeros_in (row_of c.plan_rows i) + zeros_in (row_of c.state_rows i))

-- with them there are so many
abbrev pub full_length : Numbers → ℕ
full_length c = plan_length c * (c.states + 2 * c.rows + 9) + c.rows * (c.states + 7)

abbrev pub LengthLaw : Type 0
LengthLaw = (c : Numbers) → IsController c → length (body_of c) + left_out c ≡ full_length c
