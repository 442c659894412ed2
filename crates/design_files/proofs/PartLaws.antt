-- What a reader of several parts answers, from what the readers of the parts do.
use Rattle.std.proofs.Common.{◌≡◌, ℕ, ◌+◌, ◌++◌, [], ◌∷◌, ℤ, List, length, Option, Some, inl, inr}
use Rattle.mat_int.specs.Matrix.{Matrix}
use Rattle.toml.specs.Data.{Data}
use Rattle.qp_model.specs.problem.PartRules.{AreLimits, AreHighs}
use Rattle.qp_model.specs.problem.Rules.{Rule, AllHold, shape, range}
use Rattle.number_text.specs.declared.text_fault.TextFault.{TextFault}
use Rattle.qp_model.proofs.RuleLaws.{all_hold}
use Rattle.design_files.specs.DesignText.{FailsRule}
use Rattle.design_files.specs.Numbers.{list_in, lists_in, list_of, lists_of, IsIntegerList, IsLists}
use Rattle.design_files.specs.Places.{final_row_rules, high_rules}
use Rattle.design_files.proofs.ReadLaws.{fails_before, fails_after}

-- ---- three parts
module _ (a b c : List Rule) where
  pub fails_first : (fault : TextFault) → FailsRule fault a → FailsRule fault (a ++ (b ++ c))
  fails_first fault failed = fails_before a (b ++ c) fault failed

  pub fails_second : (fault : TextFault) → AllHold a → FailsRule fault b → FailsRule fault (a ++ (b ++ c))
  fails_second fault first failed = fails_after a (b ++ c) fault first (fails_before b c fault failed)

  pub fails_third : (fault : TextFault) → AllHold a → AllHold b → FailsRule fault c → FailsRule fault (a ++ (b ++ c))
  fails_third fault first second failed = fails_after a (b ++ c) fault first (fails_after b c fault second failed)

  pub three_hold : AllHold a → AllHold b → AllHold c → AllHold (a ++ (b ++ c))
  three_hold first second third = all_hold a (b ++ c) first (all_hold b c second third)

-- ---- a value's shape, and then its numbers' range
pub fails_range : (of_shape of_range : Rule) (fault : TextFault) → of_shape.holds → (fault ≡ of_range.fault) × ¬ of_range.holds → FailsRule fault (of_shape ∷ of_range ∷ [])
fails_range of_shape of_range fault held failed = inr (inr (held, inl (failed.1, failed.0)))

-- ---- parts whose range asks for what was read before
module _ (n : ℕ) (low value : Option Data) (xs : List ℤ) (known : list_in low ≡ Some xs) (long : length xs ≡ n) where
  pub high_fails : (fault : TextFault) → FailsRule fault (shape 18 (IsIntegerList (length xs) value) ∷ range 18 (AreHighs (list_of value) xs (length xs)) ∷ []) → FailsRule fault (high_rules n low value)
  high_fails fault failed = rw (known, ← long) failed

  pub high_holds : AllHold (shape 18 (IsIntegerList (length xs) value) ∷ range 18 (AreHighs (list_of value) xs (length xs)) ∷ []) → AllHold (high_rules n low value)
  high_holds held = rw (known, ← long) held

module _ (n : ℕ) (others value : Option Data) (m : Matrix) (known : lists_in others ≡ Some m.rows) where
  pub final_fails : (fault : TextFault) → FailsRule fault (shape 15 (IsLists 0 12 (n + 1) value) ∷ range 15 (AreLimits (lists_of value) m.rows) ∷ []) → FailsRule fault (final_row_rules n others value)
  final_fails fault failed = rw known failed

  pub final_holds : AllHold (shape 15 (IsLists 0 12 (n + 1) value) ∷ range 15 (AreLimits (lists_of value) m.rows) ∷ []) → AllHold (final_row_rules n others value)
  final_holds held = rw known held
