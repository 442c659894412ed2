-- A stage row's sums, as code makes them from parts of lists.
use Rattle.std.proofs.Common.{◌≡◌, ℕ, ◌+◌, ◌-◌, ◌*◌, ◌^◌, ◌≤◌, ℤ, ◌*ℤ◌, List, length, take, drop, unsigned_abs, arith, FitsSigned}
use Rattle.std.specs.Int.{w128}
use Rattle.std.proofs.lemmas.Int.{to_z-of_z, unsigned_abs-mul}
use Rattle.std.proofs.lemmas.List.{length-take, length-drop}
use Rattle.std.proofs.Math.Nat.{mul-le-mul_left}
use Rattle.condensed_form.proofs.Rooms.{read, narrow}

pub length-part : (xs : List ℤ) (a c : ℕ) → a + c ≤ length xs → length (take (a + c - a) (drop a xs)) ≡ c
length-part xs a c h = let e : a + c - a ≡ c = omega arith in rw e (simp (length-take, length-drop) (omega arith))

-- a lifted number
module _ (m s : ℤ) (e : ℕ) (fm : FitsSigned w128 m) (fs : FitsSigned w128 s) (hs : unsigned_abs s ≤ e) (h : unsigned_abs m * e ≤ 2 ^ 126) where
  plain_fits : FitsSigned w128 (m *ℤ s)
  plain_fits = narrow (m *ℤ s) (omega (arith, unsigned_abs-mul m s, mul-le-mul_left (unsigned_abs m) hs))

  pub lifted_fits : FitsSigned w128 (read m *ℤ read s)
  lifted_fits = rw (to_z-of_z w128 m fm, to_z-of_z w128 s fs) plain_fits

  pub lifted : read (read m *ℤ read s) ≡ m *ℤ s
  lifted = rw (to_z-of_z w128 m fm, to_z-of_z w128 s fs) (to_z-of_z w128 (m *ℤ s) plain_fits)
