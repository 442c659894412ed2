-- Places in lists of all stages, and counts of rows: small, so that they fit a word.
use Rattle.std.proofs.Common.{◌≡◌, ℕ, ◌+◌, ◌-◌, ◌*◌, ◌/◌, ◌%◌, ◌<◌, ◌≤◌, List, length, Fits, w64, arith, le_trans, zero, suc}
use Rattle.std.proofs.Math.Nat.{mul-le-mul, mul-le-mul_left, div-lt_iff_lt-mul}
use Rattle.enclosure.specs.declared.types.Enc.{Enc}
use Rattle.qp_model.specs.declared.design_parts.DesignParts.{DesignParts}
use Rattle.qp_model.specs.problem.Parts.{IsDesign}
use Rattle.qp_model.proofs.VersionLaws.{design_states_le, design_stages_le}
use Rattle.qp_model.proofs.RowLaws.{remainder_inside}

-- ---- what fits
first_fits : (a b : ℕ) → a + b ≤ 186 → Fits w64 a
first_fits a b h = record { fits = omega arith }

sum_fits : (a b : ℕ) → a + b ≤ 186 → Fits w64 (a + b)
sum_fits a b h = record { fits = omega arith }

bytes_fit : (a b : ℕ) → a + b ≤ 186 → Fits w64 (a * 32)
bytes_fit a b h = record { fits = omega arith }

-- ---- the numbers of a stage in a list of those of all stages
stage_inside : (k m n : ℕ) → k < m → k * n + n ≤ m * n
stage_inside k m n l = omega (arith, mul-le-mul_left n l)

few : (k m n : ℕ) → k < m → m ≤ 30 → n ≤ 6 → k * n + n ≤ 186
few k m n l h e = omega (arith, stage_inside k m n l, mul-le-mul h e)

module _ (p : DesignParts) (h : IsDesign p) (k : ℕ) (l : k < p.stages) where
  few_states : k * p.states + p.states ≤ 186
  few_states = few k p.stages p.states l (design_stages_le p h) (design_states_le p h)

  pub state_start : Fits w64 (k * p.states)
  state_start = first_fits (k * p.states) p.states few_states

  pub state_end : Fits w64 (k * p.states + p.states)
  state_end = sum_fits (k * p.states) p.states few_states

  pub state_bytes : Fits w64 (k * p.states * 32)
  state_bytes = bytes_fit (k * p.states) p.states few_states

  few_inputs : k * p.inputs + p.inputs ≤ 186
  few_inputs = few k p.stages p.inputs l (design_stages_le p h) (more h.inputs.1)
    where
      more : {n : ℕ} → n ≤ 3 → n ≤ 6
      more h = omega (arith, h)

  pub input_start : Fits w64 (k * p.inputs)
  input_start = first_fits (k * p.inputs) p.inputs few_inputs

  pub input_end : Fits w64 (k * p.inputs + p.inputs)
  input_end = sum_fits (k * p.inputs) p.inputs few_inputs

  pub input_bytes : Fits w64 (k * p.inputs * 32)
  input_bytes = bytes_fit (k * p.inputs) p.inputs few_inputs

-- the same up to the last stage, and of a row's part for the input
module _ (p : DesignParts) (h : IsDesign p) (k : ℕ) (l : k ≤ p.stages) where
  few_to_last : k * p.states + p.states ≤ 186
  few_to_last = last k p.states l (design_stages_le p h) (design_states_le p h)
    where
      last : (k n : ℕ) {m : ℕ} → k ≤ m → m ≤ 30 → n ≤ 6 → k * n + n ≤ 186
      last k n l h e = more (mul-le-mul (le_trans l h) e) e
        where
          more : k * n ≤ 30 * 6 → n ≤ 6 → k * n + n ≤ 186
          more h e = omega (arith, h, e)

  pub start_to_last : Fits w64 (k * p.states)
  start_to_last = first_fits (k * p.states) p.states few_to_last

  pub end_to_last : Fits w64 (k * p.states + p.states)
  end_to_last = sum_fits (k * p.states) p.states few_to_last

  pub bytes_to_last : Fits w64 (k * p.states * 32)
  bytes_to_last = bytes_fit (k * p.states) p.states few_to_last

module _ (p : DesignParts) (h : IsDesign p) where
  pub row_end : Fits w64 (p.states + p.inputs)
  row_end = both p.states p.inputs (design_states_le p h) h.inputs.1
    where
      both : (n m : ℕ) → n ≤ 6 → m ≤ 3 → Fits w64 (n + m)
      both n m h k = record { fits = omega (arith, h, k) }

  pub row_bytes : Fits w64 (p.states * 16)
  row_bytes = one p.states (design_states_le p h)
    where
      one : (n : ℕ) → n ≤ 6 → Fits w64 (n * 16)
      one n h = record { fits = omega (arith, h) }

-- the part of a stage is in order, and ends within the list
pub in_order : (a n : ℕ) → a ≤ a + n
in_order a n = omega arith

pub part_ends : (xs lent : List Enc) (k m n : ℕ) → lent ≡ xs → length xs ≡ m * n → k < m → k * n + n ≤ length lent
part_ends xs lent k m n e long l = rw (e, long) (stage_inside k m n l)

pub last_ends : (xs lent : List Enc) (k m n : ℕ) → lent ≡ xs → length xs ≡ (m + 1) * n → k ≤ m → k * n + n ≤ length lent
last_ends xs lent k m n e long l = part_ends xs lent k (m + 1) n e long (more l)
  where
    more : {a b : ℕ} → a ≤ b → a < b + 1
    more h = omega (arith, h)

-- ---- rows of all stages
module _ (s r n : ℕ) (few : s ≤ 30) (e : r ≡ n) (l : n ≤ 12) where
  stage_rows_few : s * r ≤ 360
  stage_rows_few = let h : r ≤ 12 = omega (arith, e, l) in omega (arith, mul-le-mul few h)

  pub stage_rows_fit : Fits w64 (s * r)
  stage_rows_fit = record { fits = omega (arith, stage_rows_few) }

-- the place of a row of a stage
module _ (i s r : ℕ) (l : i < s * r) where
  pub some_row : 0 < r
  some_row = positive r l
    where
      positive : (r : ℕ) → i < s * r → 0 < r
      positive zero h = absurd (omega (arith, h))
      positive (suc r) h = omega arith

  pub row_inside : (n : ℕ) → r ≡ n → i % r < n
  row_inside n e = omega (arith, e, remainder_inside i s r l)

  pub its_stage : i / r < s
  its_stage = (div-lt_iff_lt-mul some_row).1 l

  pub next_stage : i / r + 1 ≤ s
  next_stage = omega (arith, its_stage)

  pub next_stage_fits : s ≤ 30 → Fits w64 (i / r + 1)
  next_stage_fits h = record { fits = omega (arith, its_stage) }

-- of a final row
pub final_inside : (i s r n m : ℕ) → r ≡ n → s * r ≤ i → i < s * n + m → i - s * r < m
final_inside i s r n m e h l = inside (s * r) (rw e l) h
  where
    inside : (a : ℕ) → i < a + m → a ≤ i → i - a < m
    inside a l h = omega arith

-- a row has the numbers of the state, and more
pub row_long : (n more cols long : ℕ) → long ≡ cols → cols ≡ n + more → n ≤ long
row_long n more cols long e f = omega arith
