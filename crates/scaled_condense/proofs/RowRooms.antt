-- How far what the rows have of units reaches, and the products of the cost rows, over any unit.
use Rattle.std.proofs.Common.{◌≡◌, inl, inr, ℕ, zero, suc, ◌+◌, ◌-◌, ◌*◌, ◌^◌, ◌<◌, ◌≤◌, ℤ, pos, negsuc, ◌+ℤ◌, ◌*ℤ◌, ◌≤ℤ◌, unsigned_abs, arith}
use Rattle.std.proofs.lemmas.Int.{ints, unsigned_abs-mul}
use Rattle.std.proofs.lemmas.Bool.{cases_lt, lt-ltb, le-ltb}
use Rattle.std.proofs.Math.Nat.{mul-le-mul, mul-le-mul_left}
use Rattle.integer_algebra.specs.Sums.{total, none}
use Rattle.integer_algebra.specs.Sizes.{size}
use Rattle.integer_algebra.proofs.PowerLaws.{pow-two}
use Rattle.integer_algebra.proofs.SizeLaws.{size_same}
use Rattle.frac_scaled.specs.Enclosures.{Enclosure, magnitude}
use Rattle.mat_int.specs.Enclosures.{gram_magnitude}
use Rattle.qp_model.specs.declared.design_parts.DesignParts.{DesignParts}
use Rattle.qp_model.specs.problem.Design.{Design, entries, rows}
use Rattle.qp_model.specs.problem.Parts.{design_of}
use Rattle.qp_model.specs.form.Quantities.{cost_width, limit_width, weight_sum}
use Rattle.qp_model.specs.problem.Runs.{unit, counts, bound_at}
use Rattle.qp_model.specs.form.FineForm.{counted_row}
use Rattle.qp_model.proofs.QuantityLaws.{target_width, weights_size, unit_small, bound_width}
use Rattle.scaled_run.specs.ScaledForm.{whole, wholes_over, scaled_costs, scaled_by_plan, scaled_by_state}
use Rattle.scaled_run.specs.Lists.{Reaches}
use Rattle.scaled_run.proofs.Rooms.{whole_reaches}
use Rattle.scaled_run.proofs.RowRooms.{cost_reaches, limit_reaches}
use Rattle.scaled_condense.specs.Lists.{IsScale}
use Rattle.scaled_condense.proofs.TargetFacts.{counted_at}

-- the weights together
pub weights_narrow : (d : Design) → size (counts d) (λ c. (counted_row d c).weight) ≤ weight_sum d
weights_narrow d = last _ _ d.cost_denominator (d.stages * size d.inputs d.input_weight) _ (size_same (counts d) _ _ (λ c o. counted_at d (λ r. r.weight) c)) (weights_size d)
  where
    last : (m n a b t : ℕ) → m ≡ n → a + m + b ≤ t → n ≤ t
    last m n a b t e h = rw (← e) (omega arith)

module _ (p : DesignParts) (m reach : ℕ) (h : IsScale p m reach) where
  abbrev d : Design
  d = design_of p

  -- ---- units
  once : (m n r : ℕ) → n ≤ 1 → m ≤ r → m * n ≤ r
  once m n r l k = omega (arith, mul-le-mul_left m l, k)

  pub none_reaches : (i : ℕ) → Reaches (wholes_over m none i) reach
  none_reaches i = whole_reaches m (none i) reach (omega arith)

  pub unit_reaches : (j i : ℕ) → Reaches (wholes_over m (unit j) i) reach
  unit_reaches j i = whole_reaches m (unit j i) reach (once m _ reach (unit_small j i) h.covers)

  -- ---- the cost rows
  target_reaches : (c : ℕ) → c < counts d → Reaches (whole m (counted_row d c).target) (cost_width d * reach)
  target_reaches c l = whole_reaches m (counted_row d c).target (cost_width d * reach)
      (turned _ _ (mul-le-mul h.covers (rw (← counted_at d (λ r. r.target) c) (target_width d c l))))
    where
      turned : (n w : ℕ) → m * n ≤ reach * w → m * n ≤ w * reach
      turned n w k = omega (arith, k)

  pub costs_reach : (c j : ℕ) → c < counts d → Reaches (scaled_costs m d c j) (cost_width d * reach)
  costs_reach c j l = elim (cases_lt j (entries d)) [
    | inl o ↦ rw (lt-ltb j (entries d) o) (cost_reaches d (wholes_over m none) (wholes_over m (unit j)) reach (h.of_plan j) (λ i q. unit_reaches j i) c l)
    | inr o ↦ (elim (cases_lt j (entries d + d.states)) [
      | inl n ↦ rw (le-ltb j (entries d) o, lt-ltb j (entries d + d.states) n)
          (cost_reaches d (wholes_over m (unit (j - entries d))) (wholes_over m none) reach (h.of_state (j - entries d)) (λ i q. none_reaches i) c l)
      | inr n ↦ rw (le-ltb j (entries d) o, le-ltb j (entries d + d.states) n) (target_reaches c l)
    ])
  ]

  -- ---- their products
  pub products_room : (j l : ℕ) → gram_magnitude (counts d) (λ c. (counted_row d c).weight) (scaled_costs m d) j l ≤ℤ pos (weight_sum d * (cost_width d * reach) ^ 2)
  products_room j l = under (summed (counts d) (λ c. (counted_row d c).weight) (λ c. magnitude (scaled_costs m d c j)) (λ c. magnitude (scaled_costs m d c l)) (cost_width d * reach)
      (λ c o. both (costs_reach c j o)) (λ c o. both (costs_reach c l o))) (rw (pow-two (cost_width d * reach)) (scaled _ _ (cost_width d * reach * (cost_width d * reach)) (weights_narrow d)))
    where
      under : {z : ℤ} {m n : ℕ} → z ≤ℤ pos m → m ≤ n → z ≤ℤ pos n
      under h k = omega (arith, ints, h, k)

      both : {e : Enclosure} {b : ℕ} → Reaches e b → (pos 0 ≤ℤ magnitude e) × (magnitude e ≤ℤ pos b)
      both h = (omega (arith, ints, h.radius), h.within)

      scaled : (a b r : ℕ) → a ≤ b → a * r ≤ b * r
      scaled a b r h = omega (arith, mul-le-mul_left r h)

      -- a term
      term : (w m n : ℤ) (b : ℕ) → (pos 0 ≤ℤ m) × (m ≤ℤ pos b) → (pos 0 ≤ℤ n) × (n ≤ℤ pos b) → (w *ℤ (m *ℤ n)) ≤ℤ pos (unsigned_abs w * (b * b))
      term w (pos m) (pos n) b h k = bounded (w *ℤ pos (m * n)) _ (rw (unsigned_abs-mul w (pos (m * n))) (more (unsigned_abs w) (square (natural m b h.1) (natural n b k.1))))
        where
          bounded : (z : ℤ) (n : ℕ) → unsigned_abs z ≤ n → z ≤ℤ pos n
          bounded z n h = omega (arith, ints)

          natural : (m b : ℕ) → pos m ≤ℤ pos b → m ≤ b
          natural m b h = omega (arith, ints)

          square : {m n b : ℕ} → m ≤ b → n ≤ b → m * n ≤ b * b
          square {m} {n} {b} h k = omega (arith, mul-le-mul_left n h, mul-le-mul_left b k)

          more : (w : ℕ) {m n : ℕ} → m ≤ n → w * m ≤ w * n
          more w h = mul-le-mul_left w h
      term w (negsuc m) n b h k = absurd h.0.le
      term w (pos m) (negsuc n) b h k = absurd k.0.le

      summed : (n : ℕ) (w m o : ℕ → ℤ) (b : ℕ) → ((i : ℕ) → i < n → (pos 0 ≤ℤ m i) × (m i ≤ℤ pos b)) → ((i : ℕ) → i < n → (pos 0 ≤ℤ o i) × (o i ≤ℤ pos b)) →
          total n (λ i. w i *ℤ (m i *ℤ o i)) ≤ℤ pos (size n w * (b * b))
      summed zero w m o b h k = omega (arith, ints)
      summed (suc n) w m o b h k = add _ _ (size n w) (unsigned_abs (w n)) (b * b) (summed n w m o b (λ i l. h i (omega arith)) (λ i l. k i (omega arith)))
          (term (w n) (m n) (o n) b (h n (omega arith)) (k n (omega arith)))
        where
          add : (p q : ℤ) (s c b : ℕ) → p ≤ℤ pos (s * b) → q ≤ℤ pos (c * b) → (p +ℤ q) ≤ℤ pos ((s + c) * b)
          add p q s c b h k = omega (arith, ints)

  -- ---- the limit rows
  pub plan_reaches : (i j : ℕ) → i < rows d → Reaches (scaled_by_plan m d i j) (limit_width d * reach)
  plan_reaches i j l = limit_reaches d (wholes_over m none) (wholes_over m (unit j)) reach (h.of_plan j) (λ i o. unit_reaches j i) i l

  pub state_reaches : (i j : ℕ) → i < rows d → Reaches (scaled_by_state m d i j) (limit_width d * reach)
  state_reaches i j l = limit_reaches d (wholes_over m (unit j)) (wholes_over m none) reach (h.of_state j) (λ i o. none_reaches i) i l

  -- a bound over the unit
  pub bound_within : (i : ℕ) → i < rows d → m * unsigned_abs (bound_at d i) ≤ limit_width d * reach
  bound_within i l = turned _ _ (mul-le-mul h.covers (bound_width d i l))
    where
      turned : (n w : ℕ) → m * n ≤ reach * w → m * n ≤ w * reach
      turned n w k = omega (arith, k)
