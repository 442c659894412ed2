-- The numbers of a corner that is run over a unit fit where its quantities do.
use Rattle.std.proofs.Common.{◌≡◌, inl, inr, ℕ, ◌+◌, ◌-◌, ◌*◌, ◌%◌, ◌^◌, ◌<◌, ◌≤◌, ℤ, pos, ◌+ℤ◌, ◌*ℤ◌, ◌≤ℤ◌, neg_ℤ, List, length, get_or, unsigned_abs, arith, sym}
use Rattle.std.proofs.lemmas.Bool.{cases_lt, lt-ltb, le-ltb}
use Rattle.std.proofs.lemmas.Int.{ints, unsigned_abs-mul}
use Rattle.std.proofs.lemmas.List.{get_or_read_under}
use Rattle.std.proofs.Math.Nat.{mul-le-mul_left}
use Rattle.integer_algebra.specs.Bounds.{absolute}
use Rattle.integer_algebra.specs.Sums.{at}
use Rattle.integer_algebra.specs.Sizes.{size}
use Rattle.integer_algebra.proofs.PowerLaws.{pow-two}
use Rattle.frac_scaled.specs.Enclosures.{magnitude}
use Rattle.qp_model.specs.declared.design_parts.DesignParts.{DesignParts}
use Rattle.qp_model.specs.problem.Design.{Design, rows}
use Rattle.qp_model.specs.problem.Parts.{design_of}
use Rattle.qp_model.specs.problem.Policy.{Plans}
use Rattle.qp_model.specs.problem.Runs.{counts}
use Rattle.qp_model.specs.form.Quantities.{limit_width, cost_row_width, cost_width, weight_sum}
use Rattle.qp_model.specs.form.FineForm.{counted_row, counted_stage, fine_cost}
use Rattle.qp_model.proofs.CornerFacts.{product_small}
use Rattle.qp_model.proofs.RowLaws.{remainder_inside}
use Rattle.qp_model.proofs.SizeFacts.{greatest_term, side_under, some_weight, some_cost, factor_under}
use Rattle.scaled_run.specs.ScaledCorners.{scaled_corner_state, scaled_corner_input, scaled_corner_limit, scaled_gap}
use Rattle.scaled_run.proofs.RoomLaws.{root_small}
use Rattle.scaled_run.specs.Lists.{Reaches}
use Rattle.scaled_run.proofs.Rooms.{reaches_more, whole_reaches, sum_reaches, row_reaches}
use Rattle.scaled_run.proofs.RowRooms.{counted_stage_in, limit_reaches}
use Rattle.corner_margin.specs.Corner.{IsCornerScale}

pub under : {a b t : ℕ} → a ≤ b → b ≤ t → a ≤ t
under h k = omega (arith, h, k)

pub one_times : (n : ℕ) → pos 1 *ℤ pos n ≡ pos n
one_times n = omega (arith, ints)

-- what is read of a list
pub over_is : (xs : List ℤ) (c n : ℕ) {x : ℤ} → x ≡ get_or xs c x → c < n → length xs ≡ n → x ≡ at xs c
over_is xs c n {x} h l e = get_or_read_under xs c n x (pos 0) h l (sym e)

-- a number times a unit
pub product_room : (unit n : ℕ) → unit ≤ 2 ^ 63 → n ≤ 2 ^ 63 → unit * n ≤ 2 ^ 126
product_room unit n h k = product_small unit n (2 ^ 63) (2 ^ 63) h k

-- ---- a counted cost row with its target
counted_width : (d : Design) (c : ℕ) → c < counts d → size d.states (counted_row d c).coefficient + unsigned_abs (counted_row d c).target ≤ cost_width d
counted_width d c l = elim (cases_lt c (d.stages * d.stage_costs)) [
  | inl m ↦ rw (lt-ltb c (d.stages * d.stage_costs) m)
      (omega (arith, greatest_term (c % d.stage_costs) d.stage_costs (λ r. cost_row_width d (d.stage_cost r)) (remainder_inside c d.stages d.stage_costs m)))
  | inr m ↦ rw (le-ltb c (d.stages * d.stage_costs) m)
      (omega (arith, greatest_term (c - d.stages * d.stage_costs) d.final_costs (λ r. cost_row_width d (d.final_cost r)) (omega arith)))
]

joined : (a b w m z : ℕ) → a + b ≤ w → m ≤ z → a * z + m * b ≤ w * z
joined a b w m z h k = omega (arith, mul-le-mul_left z h, mul-le-mul_left b k)

turned : (z : ℤ) → unsigned_abs (neg_ℤ z) ≤ unsigned_abs z
turned z = grind (arith, ints)

same : (n : ℕ) → n ≤ n
same n = omega arith

module _ {p : DesignParts} {s : Plans} {unit reach c : ℕ} (k : IsCornerScale p s unit reach c) where
  -- ---- the quantities
  -- what a cost row is at most, or an input over what it is over
  abbrev pub cost_side : ℕ
  cost_side = cost_width (design_of p) * reach

  pub side_room : cost_side ≤ 2 ^ 126
  side_room = side_under (weight_sum (design_of p)) _ _ (some_weight p k.design) k.cost

  pub square_room : cost_side ^ 2 ≤ 2 ^ 126
  square_room = last (weight_sum (design_of p)) _ (some_weight p k.design) k.cost
    where
      last : (w a : ℕ) → 1 ≤ w → w * a ≤ 2 ^ 126 → a ≤ 2 ^ 126
      last w a h k = omega (arith, mul-le-mul_left a h)

  pub limit_room : limit_width (design_of p) * reach ≤ 2 ^ 126
  limit_room = last _ k.slack
    where
      last : (a : ℕ) → 2 ^ 17 * a ≤ 2 ^ 126 → a ≤ 2 ^ 126
      last a h = omega (arith, h)

  -- what the corner is over
  pub unit_small : unit ≤ 2 ^ 63
  unit_small = under k.covers (factor_under (cost_width (design_of p)) reach (2 ^ 63) (some_cost p k.design) (root_small cost_side (rw (pow-two cost_side) at square_room)))

  pub unit_room : unit ≤ 2 ^ 126
  unit_room = last unit_small
    where
      last : {n : ℕ} → n ≤ 2 ^ 63 → n ≤ 2 ^ 126
      last h = omega (arith, h)

  -- the unit times a number of at most a width
  pub brought_size : (x w : ℕ) → x ≤ w → unit * x ≤ w * reach
  brought_size x w l = last unit reach k.covers
    where
      last : (a b : ℕ) → a ≤ b → a * x ≤ w * b
      last a b k = omega (arith, mul-le-mul_left x k, mul-le-mul_left b l)

  -- ---- what rows have of its run
  pub limit_within : (i : ℕ) → i < rows (design_of p) → Reaches (scaled_corner_limit unit (design_of p) s (c + 1) i) (limit_width (design_of p) * reach)
  limit_within i l = limit_reaches (design_of p) (scaled_corner_state unit (design_of p) (c + 1)) (scaled_corner_input unit s (c + 1)) reach k.near_states k.near_plan i l

  -- by how much it misses its target, in two parts
  cost_part : (r : ℕ) → Reaches (fine_cost (design_of p) (scaled_corner_state unit (design_of p) (c + 1)) (scaled_corner_input unit s (c + 1)) r)
      (size p.states (counted_row (design_of p) r).coefficient * reach)
  cost_part r = row_reaches (design_of p) (scaled_corner_state unit (design_of p) (c + 1)) (scaled_corner_input unit s (c + 1)) reach k.near_states k.near_plan
      (counted_row (design_of p) r).coefficient _ (counted_stage (design_of p) r) (same (size p.states (counted_row (design_of p) r).coefficient)) (counted_stage_in (design_of p) r)

  pub gap_within : (r : ℕ) → r < counts (design_of p) → Reaches (scaled_gap unit (design_of p) s (c + 1) r) cost_side
  gap_within r l = reaches_more (sum_reaches _ _ _ _ (cost_part r)
      (whole_reaches unit (neg_ℤ (counted_row (design_of p) r).target) _ (mul-le-mul_left unit (turned (counted_row (design_of p) r).target))))
      (joined _ _ _ _ reach (counted_width (design_of p) r l) k.covers)

  pub gap_room : (r : ℕ) → r < counts (design_of p) →
      (magnitude (fine_cost (design_of p) (scaled_corner_state unit (design_of p) (c + 1)) (scaled_corner_input unit s (c + 1)) r) +ℤ absolute (pos unit *ℤ (counted_row (design_of p) r).target)) ≤ℤ
      pos cost_side
  gap_room r l = rw (unsigned_abs-mul (pos unit) (counted_row (design_of p) r).target)
      (last _ _ (cost_part r).within (joined _ _ _ _ reach (counted_width (design_of p) r l) k.covers))
    where
      last : (z : ℤ) (m : ℕ) {a b : ℕ} → z ≤ℤ pos a → a + m ≤ b → (z +ℤ pos m) ≤ℤ pos b
      last z m h k = omega (arith, ints, h, k)
