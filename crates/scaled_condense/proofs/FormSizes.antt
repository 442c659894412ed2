-- How far the numbers of the form reach, together and by rows.
use Rattle.std.proofs.Common.{◌≡◌, ◌≢◌, inl, inr, ℕ, zero, suc, ◌+◌, ◌*◌, ◌%◌, ◌^◌, ◌<◌, ◌≤◌, max, ℤ, pos, negsuc, ◌+ℤ◌, ◌*ℤ◌, ◌≤ℤ◌, unsigned_abs, lit<, lit≤, arith, refl}
use Rattle.std.proofs.lemmas.Int.{ints, unsigned_abs-mul}
use Rattle.std.proofs.lemmas.Bool.Decides.{eqb_tells}
use Rattle.std.proofs.Math.Nat.{mul-le-mul_left, pow-le-pow_left, one-le-mul}
use Rattle.integer_algebra.specs.Bounds.{absolute}
use Rattle.integer_algebra.specs.Division.{ceil_div}
use Rattle.integer_algebra.specs.Sums.{at}
use Rattle.integer_algebra.specs.Sizes.{amount}
use Rattle.integer_algebra.proofs.AmountLaws.{amount_none, amount_mono}
use Rattle.integer_algebra.proofs.DivisionLaws.{mul-ceil_div-lt, le-mul-ceil_div}
use Rattle.integer_algebra.proofs.PowerLaws.{pow-two}
use Rattle.integer_algebra.proofs.SizeLaws.{at_size}
use Rattle.frac_scaled.specs.Enclosures.{Enclosure}
use Rattle.qp_model.specs.declared.design_parts.DesignParts.{DesignParts}
use Rattle.qp_model.specs.problem.Design.{Design, entries, rows}
use Rattle.qp_model.specs.problem.Parts.{design_of, IsDesign}
use Rattle.qp_model.specs.form.Form.{farthest}
use Rattle.qp_model.specs.form.FineForm.{own_weight, fine_products, fine_hessian, fine_linear, fine_constant, fine_by_plan, fine_by_state}
use Rattle.qp_model.specs.form.FineSizes.{fine_reach, fine_response_size, fine_cost_entry_size, fine_limit_entry_size, fine_hessian_size, fine_cost_row_size}
use Rattle.qp_model.specs.form.Quantities.{cost_width, weight_sum}
use Rattle.qp_model.specs.problem.Runs.{bound_at}
use Rattle.qp_model.proofs.QuantityLaws.{bound_width}
use Rattle.qp_model.proofs.SizeFacts.{some_entry, some_weight}
use Rattle.condensed_form.proofs.StateFacts.{denominator_positive}
use Rattle.scaled_run.specs.Lists.{Reaches}
use Rattle.scaled_condense.specs.Lists.{IsScale}
use Rattle.scaled_condense.proofs.CostFacts.{products_reach}
use Rattle.scaled_condense.proofs.FineFacts.{fine_first}
use Rattle.scaled_condense.proofs.RowRooms.{plan_reaches, state_reaches, bound_within}

-- ---- one enclosure, at its farthest
pub far_of : {e : Enclosure} {b : ℕ} → Reaches e b → farthest e.mid (unsigned_abs e.rad) ≤ b
far_of {e} {b} h = last e.mid e.rad h.radius h.within
  where
    last : (x r : ℤ) → pos 0 ≤ℤ r → (absolute x +ℤ r) ≤ℤ pos b → unsigned_abs x + unsigned_abs r ≤ b
    last x r k l = omega (arith, ints, k, l)

-- a sum with one term
amount_once : (n i : ℕ) (f : ℕ → ℕ) (b : ℕ) → ((j : ℕ) → j ≢ i → f j ≡ 0) → f i ≤ b → amount n f ≤ b
amount_once zero i f b h k = omega arith
amount_once (suc n) i f b h k = elim (eqb_tells n i) [
  | inl e ↦ only (amount_none n f (λ j l. h j (other j l e.1))) (at_last e.1)
  | inr e ↦ more (amount_once n i f b h k) (h n e.1)
]
  where
    other : (j : ℕ) → j < n → n ≡ i → j ≢ i
    other j l e g = omega (arith, e, g, l)

    at_last : n ≡ i → f n ≤ b
    at_last e = rw e k

    only : {x y : ℕ} → x ≡ 0 → y ≤ b → x + y ≤ b
    only e l = omega (arith, e, l)

    more : {x y : ℕ} → x ≤ b → y ≡ 0 → x + y ≤ b
    more l e = omega (arith, e, l)

-- ---- plain numbers. x is the weights times the square of a response, t what is left of it over 2^40, o an input's own cost, over 2^40
-- twice a product, and an own cost, are at most a number of the cost
entry_room : (x t o : ℕ) → 2 ^ 40 * t < x + 2 ^ 40 → 2 ^ 40 * o ≤ x → 2 ^ 80 ≤ x → 2 * (t + 3) + 2 * o ≤ 2 * x
entry_room x t o h k l = omega (arith, h, k, l)

-- a row of them
row_room : (e n x t o q c : ℕ) → 1 ≤ e → 2 ^ 40 * t < x + 2 ^ 40 → 2 ^ 40 * o ≤ x → e * (e + n + 1) * (2 * x) ≤ q → q ≤ 2 ^ 40 * c → e * (2 * (t + 3)) + 2 * o ≤ 2 * (c + 4 * e)
row_room e n x t o q c he h k l m = last (mul-le-mul_left e (before h)) (grown e n x he) (more e x he)
  where
    before : 2 ^ 40 * t < x + 2 ^ 40 → 2 ^ 40 * t ≤ x + 2 ^ 40
    before h = omega (arith, h)

    -- e + n + 1 is at least 2
    grown : (e n x : ℕ) → 1 ≤ e → 4 * (e * x) ≤ e * (e + n + 1) * (2 * x)
    grown e n x h = turn (mul-le-mul_left (e * x) (two e n h))
      where
        two : (e n : ℕ) → 1 ≤ e → 2 ≤ e + n + 1
        two e n h = omega arith

        turn : e * x * 2 ≤ e * x * (e + n + 1) → 4 * (e * x) ≤ e * (e + n + 1) * (2 * x)
        turn h = omega (arith, h)

    more : (e x : ℕ) → 1 ≤ e → x ≤ e * x
    more e x h = omega (arith, mul-le-mul_left x h)

    last : e * (2 ^ 40 * t) ≤ e * (x + 2 ^ 40) → 4 * (e * x) ≤ e * (e + n + 1) * (2 * x) → x ≤ e * x → e * (2 * (t + 3)) + 2 * o ≤ 2 * (c + 4 * e)
    last f g i = omega (arith, f, g, i, k, l, m)

-- ---- of a design
module _ (p : DesignParts) (h : IsDesign p) where
  abbrev d : Design
  d = design_of p

  -- the weights times the square of a response
  abbrev weighed : ℕ
  weighed = weight_sum d * fine_response_size d ^ 2

  -- what the responses are over, over 2^40
  pub scale_square : d.row_denominator ^ 2 * 2 ^ 80 ≤ fine_response_size d ^ 2
  scale_square = turn d.row_denominator (fine_response_size d) (pow-le-pow_left (wide d.row_denominator (cost_width d) (fine_reach d d.stages) (omega arith) (fine_first p h)) 2)
    where
      wide : (r c b : ℕ) → r ≤ c → 2 ^ 40 ≤ b → r * 2 ^ 40 ≤ c * b
      wide r c b h k = omega (arith, mul-le-mul_left b h, mul-le-mul_left r k)

      turn : (r s : ℕ) → (r * 2 ^ 40) ^ 2 ≤ s ^ 2 → r ^ 2 * 2 ^ 80 ≤ s ^ 2
      turn r s k = rw (pow-two r) (omega (arith, rw (pow-two (r * 2 ^ 40)) at k))

  -- an input's weight is one of the weights
  input_within : (l : ℕ) → l < p.inputs → unsigned_abs (at p.input_weights.items l) ≤ weight_sum d
  input_within l o = last p.stages _ _ _ _ _ (at_size l p.inputs (at p.input_weights.items) o) h.stages.0
    where
      last : (n x s c a b : ℕ) → x ≤ s → 1 ≤ n → x ≤ c + n * (a + s) + b
      last n x s c a b k g = omega (arith, k, mul-le-mul_left (a + s) g)

  pub own_within : (l : ℕ) → l < p.inputs → 2 ^ 40 * (2 ^ 40 * (unsigned_abs (at p.input_weights.items l) * d.row_denominator ^ 2)) ≤ weighed
  own_within l o = last _ _ _ _ (input_within l o) scale_square
    where
      last : (w t r s : ℕ) → w ≤ t → r * 2 ^ 80 ≤ s → 2 ^ 40 * (2 ^ 40 * (w * r)) ≤ t * s
      last w t r s k g = omega (arith, mul-le-mul_left w g, mul-le-mul_left s k)

  many : 2 ^ 80 ≤ weighed
  many = last (weight_sum d) _ _ (some_weight p h) (squared d.row_denominator (denominator_positive p.row_den h.row_den.low)) scale_square
    where
      squared : (r : ℕ) → 1 ≤ r → 1 ≤ r ^ 2
      squared r k = rw (pow-two r) (one-le-mul k k)

      last : (t r s : ℕ) → 1 ≤ t → 1 ≤ r → r * 2 ^ 80 ≤ s → 2 ^ 80 ≤ t * s
      last t r s k g l = omega (arith, mul-le-mul_left s k, l, g)

  -- ---- the cost
  abbrev part : ℕ
  part = ceil_div weighed (2 ^ 40)

  part_small : 2 ^ 40 * part < weighed + 2 ^ 40
  part_small = mul-ceil_div-lt weighed (2 ^ 40) (lit< tt)

  -- what an input's own cost adds to a number
  own_far : ℕ → ℕ → ℕ
  own_far i j = 2 ^ 40 * unsigned_abs (own_weight d i j)

  own_beside : (i j : ℕ) → j ≢ i → own_far i j ≡ 0
  unfolding own_far
  own_beside i j n = elim (eqb_tells i j) [ inl e ↦ absurd (n (turned e.1)) | inr e ↦ rw e.0 refl ]
    where
      turned : {a b : ℕ} → a ≡ b → b ≡ a
      turned e = omega (arith, e)

  own_at : (i : ℕ) → 2 ^ 40 * own_far i i ≤ weighed
  unfolding own_far
  own_at i = elim (eqb_tells i i) [
    | inl e ↦ rw (e.0, unsigned_abs-mul (at p.input_weights.items (i % p.inputs)) (pos (d.row_denominator ^ 2))) (own_within (i % p.inputs) (small i p.inputs h.inputs.0))
    | inr e ↦ absurd (e.1 refl)
  ]
    where
      small : (i n : ℕ) → 1 ≤ n → i % n < n
      small i n h = omega arith

  own_any : (i j : ℕ) → 2 ^ 40 * own_far i j ≤ weighed
  own_any i j = elim (eqb_tells i j) [
    | inl e ↦ rw (← e.1) (own_at i)
    | inr e ↦ none_of (own_beside i j (λ f. e.1 (turned f)))
  ]
    where
      turned : {a b : ℕ} → a ≡ b → b ≡ a
      turned e = omega (arith, e)

      none_of : {x y : ℕ} → x ≡ 0 → 2 ^ 40 * x ≤ y
      none_of e = omega (arith, e)

  -- where the runs reach so far
  module _ (s : IsScale p (2 ^ 40) (fine_reach (design_of p) p.stages)) where
    reached : (i j : ℕ) → Reaches (fine_products d i j) (part + 3)
    reached i j = products_reach p (2 ^ 40) (2 ^ 40) (fine_reach d p.stages) s (lit≤ tt) i j

    -- a number of the hessian
    hessian_far : (i j : ℕ) → farthest (fine_hessian d i j).mid (unsigned_abs (fine_hessian d i j).rad) ≤ 2 * (part + 3) + 2 * own_far i j
    unfolding own_far
    hessian_far i j = last (fine_products d i j).mid (fine_products d i j).rad (own_weight d i j) (part + 3) (reached i j).radius (reached i j).within
      where
        last : (x r w : ℤ) (b : ℕ) → pos 0 ≤ℤ r → (absolute x +ℤ r) ≤ℤ pos b →
            unsigned_abs (pos 2 *ℤ (x +ℤ pos (2 ^ 40) *ℤ w)) + unsigned_abs (pos 2 *ℤ (r +ℤ pos 0)) ≤ 2 * b + 2 * (2 ^ 40 * unsigned_abs w)
        last x r w b k l = omega (arith, ints, k, l)

    pub hessian_small : (i j : ℕ) → farthest (fine_hessian d i j).mid (unsigned_abs (fine_hessian d i j).rad) ≤ fine_cost_entry_size d
    hessian_small i j = chained (hessian_far i j) (entry_room weighed part (own_far i j) part_small (own_any i j) many) (turn (weight_sum d) (fine_response_size d ^ 2))
      where
        turn : (w r : ℕ) → 2 * (w * r) ≡ 2 * w * r
        turn w r = omega arith

        chained : {a b c e : ℕ} → a ≤ b → b ≤ c → c ≡ e → a ≤ e
        chained k l g = omega (arith, k, l, g)

    doubled_small : (j l : ℕ) → 2 * (part + 3) ≤ fine_cost_entry_size d
    doubled_small j l = chained (entry_room weighed part 0 part_small (omega arith) many) (turn (weight_sum d) (fine_response_size d ^ 2))
      where
        turn : (w r : ℕ) → 2 * (w * r) ≡ 2 * w * r
        turn w r = omega arith

        chained : {a c e : ℕ} → a + 2 * 0 ≤ c → c ≡ e → a ≤ e
        chained k g = omega (arith, k, g)

    twice_far : (c x r : ℤ) (b : ℕ) → unsigned_abs c ≡ 2 → pos 0 ≤ℤ r → (absolute x +ℤ r) ≤ℤ pos b → farthest (c *ℤ x) (unsigned_abs (absolute c *ℤ r)) ≤ 2 * b
    twice_far c x r b e k l = rw (unsigned_abs-mul c x, unsigned_abs-mul (absolute c) r, e) (last (unsigned_abs x) (unsigned_abs r) (near x r k l))
      where
        near : (x r : ℤ) → pos 0 ≤ℤ r → (absolute x +ℤ r) ≤ℤ pos b → unsigned_abs x + unsigned_abs r ≤ b
        near x r k l = omega (arith, ints, k, l)

        last : (x r : ℕ) → x + r ≤ b → 2 * x + 2 * r ≤ 2 * b
        last x r k = omega (arith, k)

    pub linear_small : (j i : ℕ) → farthest (fine_linear d j i).mid (unsigned_abs (fine_linear d j i).rad) ≤ fine_cost_entry_size d
    linear_small j i = chained (twice_far (pos 2) (fine_products d j (entries d + i)).mid (fine_products d j (entries d + i)).rad (part + 3) refl (reached j (entries d + i)).radius
        (reached j (entries d + i)).within) (doubled_small j i)
      where
        chained : {a b c : ℕ} → a ≤ b → b ≤ c → a ≤ c
        chained k l = omega (arith, k, l)

    pub constant_small : (j : ℕ) → farthest (fine_constant d j).mid (unsigned_abs (fine_constant d j).rad) ≤ fine_cost_entry_size d
    constant_small j = chained (twice_far (negsuc 1) (fine_products d j (entries d + d.states)).mid (fine_products d j (entries d + d.states)).rad (part + 3) refl
        (reached j (entries d + d.states)).radius (reached j (entries d + d.states)).within) (doubled_small j j)
      where
        chained : {a b c : ℕ} → a ≤ b → b ≤ c → a ≤ c
        chained k l = omega (arith, k, l)

    -- a row of the hessian
    pub hessian_row_small : (i : ℕ) → amount (entries d) (λ j. farthest (fine_hessian d i j).mid (unsigned_abs (fine_hessian d i j).rad)) ≤ 2 * fine_cost_row_size d
    hessian_row_small i = chained (entries d * (2 * (part + 3))) (amount_mono (entries d) _ _ (λ j l. hessian_far i j)) (split (entries d) (2 * (part + 3)) (own_far i))
        (amount_once (entries d) i (own_far i) (own_far i i) (own_beside i) (same (own_far i i)))
        (row_room (entries d) d.states weighed part (own_far i i) (fine_hessian_size d) (ceil_div (fine_hessian_size d) (2 ^ 40)) (some_entry p h) part_small (own_at i)
        (under (entries d * (entries d + d.states + 1)) (weight_sum d) (fine_response_size d ^ 2) _) (le-mul-ceil_div (fine_hessian_size d) (2 ^ 40) (lit< tt)))
      where
        same : (n : ℕ) → n ≤ n
        same n = omega arith

        split : (n b : ℕ) (f : ℕ → ℕ) → amount n (λ j. b + 2 * f j) ≡ n * b + 2 * amount n f
        split zero b f = omega arith
        split (suc n) b f = omega (arith, split n b f)

        under : (m w r t : ℕ) → m * (2 * (w * r)) ≤ max (m * (2 * w * r)) t
        under m w r t = within (turn m w r)
          where
            turn : (m w r : ℕ) → m * (2 * (w * r)) ≡ m * (2 * w * r)
            turn m w r = omega arith

            within : {a b : ℕ} → a ≡ b → a ≤ max b t
            within e = omega (arith, e)

        chained : (n : ℕ) {a b s o c : ℕ} → a ≤ b → b ≡ n + 2 * s → s ≤ o → n + 2 * o ≤ c → a ≤ c
        chained n k e l g = omega (arith, k, e, l, g)

    -- ---- the limits
    pub plan_small : (i j : ℕ) → i < rows d → farthest (fine_by_plan d i j).mid (unsigned_abs (fine_by_plan d i j).rad) ≤ fine_limit_entry_size d
    plan_small i j l = far_of (plan_reaches p (2 ^ 40) (fine_reach d p.stages) s i j l)

    pub state_small : (i j : ℕ) → i < rows d → farthest (fine_by_state d i j).mid (unsigned_abs (fine_by_state d i j).rad) ≤ fine_limit_entry_size d
    state_small i j l = far_of (state_reaches p (2 ^ 40) (fine_reach d p.stages) s i j l)

    pub bound_small : (i : ℕ) → i < rows d → unsigned_abs (pos (2 ^ 40) *ℤ bound_at d i) ≤ fine_limit_entry_size d
    bound_small i l = rw (unsigned_abs-mul (pos (2 ^ 40)) (bound_at d i)) (bound_within p (2 ^ 40) (fine_reach d p.stages) s i l)
