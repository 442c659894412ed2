-- What the tests of a design's numbers tell of its rules.
use Rattle.std.proofs.Common.{◌≡◌, ◌↔◌, ◌≤◌, ℕ, eqb, leb, IsTrue, List, ℤ, length, arith, refl, All}
use Rattle.std.specs.Int.{w128}
use mir.Val.{SFits, to_z, of_z}
use Rattle.std.proofs.lemmas.Bool.Decides.{nat_tests}
use Rattle.std.proofs.lemmas.Int.{to_z-of_z}
use Rattle.qp_model.specs.problem.PartRules.{AreHighs}
use Rattle.qp_model.specs.problem.Range.{LiesIn, IsDenominator, IsNumerator, IsPositive}

-- of a denominator as a word
pub denominator_test : (z : ℤ) (test : Type 0) → SFits w128 z → (test ↔ IsDenominator (to_z w128 (of_z w128 z))) → (test ↔ IsDenominator z)
denominator_test z test fits exact = rw (to_z-of_z w128 z fits) at exact

-- of how many numbers there are
pub count_test : (xs : List ℤ) (len l n : ℕ) → len ≡ l → l ≡ length xs → (IsTrue (eqb len n) ↔ (length xs ≡ n))
count_test xs len l n h k = (λ t. grind (arith, nat_tests), λ e. grind (arith, nat_tests))

-- of weights as a slice
pub weights_test : (xs items : List ℤ) (test : Type 0) → xs ≡ items → (test ↔ All IsPositive xs) → (test ↔ All IsPositive items)
weights_test xs items test same exact = rw same at exact

pub numerators_test : (xs items : List ℤ) (test : Type 0) → xs ≡ items → (test ↔ All IsNumerator xs) → (test ↔ All IsNumerator items)
numerators_test xs items test same exact = rw same at exact

-- of a positive number as a word
pub positive_test : (z : ℤ) (test : Type 0) → SFits w128 z → (test ↔ IsPositive (to_z w128 (of_z w128 z))) → (test ↔ IsPositive z)
positive_test z test fits exact = rw (to_z-of_z w128 z fits) at exact

-- of a number that is at most another
pub at_most_test : (n most : ℕ) → (IsTrue (leb n most) ↔ (n ≤ most))
at_most_test n most = (λ t. grind (arith, nat_tests), λ l. grind (arith, nat_tests))

-- of a number from low to high
pub lies_test : (low high most n : ℕ) (test : Type 0) → high ≡ most → (test ↔ LiesIn low high n) → (test ↔ LiesIn low most n)
lies_test low high most n test same exact = rw same at exact

-- of the box's upper ends as slices
pub highs_test : (high hi low lo : List ℤ) (n : ℕ) (test : Type 0) → high ≡ hi → low ≡ lo → length lo ≡ n →
    (test ↔ AreHighs high low (length low)) → (test ↔ AreHighs hi lo n)
highs_test high hi low lo n test h l k exact = rw (h, l, k) at exact

pub highs_beside : (high hi low lo : List ℤ) (n : ℕ) → high ≡ hi → low ≡ lo → length lo ≡ n → length hi ≡ n → length low ≡ length high
highs_beside high hi low lo n h l k m = rw (h, l, k, m) refl
