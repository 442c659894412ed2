-- The instructions of one step of a controller's machine, in the order in which the step is written.
use Rattle.std.specs.Prelude.{ℕ, zero, suc, ◌+◌, ℤ, pos, neg_ℤ, List, [], ◌∷◌, ◌++◌, length}
use Rattle.integer_algebra.specs.Sums.{at}
use Rattle.mat_int.specs.Matrix.{row_of}
use Rattle.qp_model.specs.machine.Controller.{Numbers, plan_length}
use Rattle.qp_model.specs.machine.Machine.{lowering_of, top_of}
use Rattle.mac_listing.specs.declared.instruction.Op.{Op}
use Rattle.mac_listing.specs.declared.instruction.Op.TheVariants.{Clear, Load, Store, Mac, Con, AddM, Shl, Shr, Neg, Low, Cap}

-- ---- where the machine's words stand: the state, the multipliers, the plan and the sums, one behind the other
abbrev pub multiplier_address : Numbers → ℕ → ℕ
multiplier_address c i = c.states + i

abbrev pub plan_address : Numbers → ℕ → ℕ
plan_address c j = c.states + c.rows + j

abbrev pub sum_address : Numbers → ℕ → ℕ
sum_address c j = c.states + c.rows + plan_length c + j

-- ---- lists of instructions
-- those of 0, 1 .. n - 1, one after the other
unfoldable pub groups : (ℕ → List Op) → ℕ → List Op
groups f zero = []
groups f (suc n) = groups f n ++ f n

-- a constant times a word, raised by so many bits; none where the constant is 0
abbrev pub product_op : (a : ℕ) → ℤ → (k : ℕ) → List Op
product_op a (pos zero) k = []
product_op a c k = Mac a c k ∷ []

-- a row times the words from an address on, each raised by so many bits
abbrev pub row_ops : (first : ℕ) → List ℤ → (shift : ℕ → ℕ) → List Op
row_ops first row shift = groups (λ i. product_op (first + i) (at row i) (shift i)) (length row)

-- by none
abbrev pub unshifted : ℕ → ℕ
unshifted i = 0

-- ---- one step
-- plan entry j
abbrev pub entry_ops : Numbers → ℕ → List Op
entry_ops c j =
    Clear ∷ row_ops 0 (row_of c.state_gains j) unshifted
    ++ Con (at c.offsets j) c.fraction_bits ∷ Shl c.step_exponent ∷ row_ops c.states (row_of c.dual_gains j) (lowering_of c)
    ++ Shr (c.fraction_bits + c.step_exponent) ∷ Neg ∷ Store (plan_address c j) ∷ []

-- multiplier i: the sum of its row, and then the move along it
abbrev pub move_ops : Numbers → ℕ → List Op
move_ops c i =
    Con (neg_ℤ (at c.bounds i)) c.fraction_bits ∷ Shr c.fraction_bits ∷ AddM (multiplier_address c i) ∷ Low ∷ Cap (top_of c i)
    ∷ Store (multiplier_address c i) ∷ []

abbrev pub multiplier_ops : Numbers → ℕ → List Op
multiplier_ops c i =
    Clear ∷ row_ops (c.states + c.rows) (row_of c.plan_rows i) unshifted ++ row_ops 0 (row_of c.state_rows i) unshifted ++ move_ops c i

-- sum j
abbrev pub sum_ops : Numbers → ℕ → List Op
sum_ops c j = Load (sum_address c j) ∷ AddM (plan_address c j) ∷ Store (sum_address c j) ∷ []

-- the plan, then the multipliers, then the sums
abbrev pub body_of : Numbers → List Op
body_of c =
    groups (entry_ops c) (length c.offsets) ++ groups (multiplier_ops c) (length c.bounds) ++ groups (sum_ops c) (length c.offsets)
