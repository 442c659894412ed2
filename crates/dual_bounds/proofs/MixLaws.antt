-- From the corners of the box to all of it, and from a plan that breaks rows a little to a feasible one.
use Rattle.std.proofs.Common.{◌≡◌, ◌⊎◌, inl, inr, ◌≢◌, ℕ, zero, suc, ◌+◌, ◌-◌, ◌*◌, ◌/◌, ◌%◌, ◌^◌, ◌<◌, ◌≤◌, [], ◌∷◌, ℤ, pos, negsuc, ◌+ℤ◌, ◌-ℤ◌, ◌*ℤ◌, ◌≤ℤ◌, ◌<ℤ◌, neg_ℤ, nat_eq, unsigned_abs, if◌then◌else◌, arith, ap, ◌∙◌, refl, subst, below_more}
use Rattle.std.specs.Prelude.{◌==◌}
use Rattle.std.proofs.lemmas.Int.{ints, by_lt_z}
use Rattle.std.proofs.lemmas.Nat.{pow-add, pow_pos}
use Rattle.std.proofs.lemmas.Bool.{cases_lt, cases_eq, eq-eqb, ne_eqb}
use Rattle.std.proofs.Math.Nat.{pow-suc, mul-le-mul_left, add-mul-div_left, add-mul-mod_self_left, div-eq_of_lt, div-eq_of_lt-le}
use mathlib.Core.Path.{fun_ext}
use Rattle.integer_algebra.specs.Sums.{square}
use Rattle.integer_algebra.specs.Division.{ceil_div}
use Rattle.integer_algebra.proofs.OrderLaws.{add_pos_z, add_nonneg_z, le_of_lt_z, add-le-add_z, difference_nonneg, le_by, mul_nonneg_z, mul_pos_z, square_nonneg_z, mul-le-mul_left_z}
use Rattle.integer_algebra.proofs.DivisionLaws.{le-mul-ceil_div}
use Rattle.integer_algebra.proofs.Quoting.{by_ring, quotes}
use Rattle.qp_model.specs.problem.Design.{Design}
use Rattle.qp_model.specs.problem.Sound.{IsSound}
use Rattle.qp_model.specs.problem.Box.{IsGridState, corner}
use Rattle.qp_model.specs.problem.Cost.{cost, cost_scale}
use Rattle.qp_model.specs.problem.Residual.{residual_scale}
use Rattle.qp_model.specs.problem.Policy.{Plans, IsPolicyFor, corner_denominator, corner_plan}
use Rattle.qp_model.specs.bounds.Choices.{multiplier_bound, multiplier_of}
use Rattle.qp_model.specs.declared.bounds.Margin.{Margin}
use Rattle.dual_bounds.specs.Corners.{HasMarginAt, KeepsMargin, HasExcessAt, KeepsExcess, BoxLaw, RepairLaw, ExcessBoxLaw, ThresholdLaw}
use Rattle.dual_bounds.proofs.DesignMix.{Mixture, over as over_of, plan, slack_mixed, residual_mixed, cost_below, cost_nonneg}
use Rattle.dual_bounds.proofs.ExcessMix.{near_best_mixed}

-- ---- two states
-- what holds at two states holds at each of their mixtures
Mixing : Design → ((ℕ → ℤ) → Type 0) → Type 0
Mixing d P = (a b : ℤ) → pos 0 ≤ℤ a → pos 0 ≤ℤ b → pos 0 <ℤ (a +ℤ b) →
    (x y z : ℕ → ℤ) → ((j : ℕ) → j < d.states → (a +ℤ b) *ℤ z j ≡ a *ℤ x j +ℤ b *ℤ y j) → P x → P y → P z

-- a row of the mixture
row_mixed : (units s a b q r e f g : ℤ) → pos 0 ≤ℤ a → pos 0 ≤ℤ b → pos 0 ≤ℤ q → pos 0 ≤ℤ r → e ≡ a *ℤ r *ℤ f +ℤ b *ℤ q *ℤ g →
    (units *ℤ (s *ℤ q)) ≤ℤ (pos (2 ^ 16) *ℤ f) → (units *ℤ (s *ℤ r)) ≤ℤ (pos (2 ^ 16) *ℤ g) → (units *ℤ (s *ℤ ((a +ℤ b) *ℤ (q *ℤ r)))) ≤ℤ (pos (2 ^ 16) *ℤ e)
row_mixed units s a b q r e f g pa pb pq pr h k l = rw h
    (le_by (add-le-add_z (mul-le-mul_left_z (a *ℤ r) (mul_nonneg_z a r pa pr) k) (mul-le-mul_left_z (b *ℤ q) (mul_nonneg_z b q pb pq) l))
    (by_ring (units ∷ s ∷ a ∷ b ∷ q ∷ r ∷ f ∷ g ∷ []) (search quotes depth 60 fits 20000) refl))

-- its cost
cost_mixed : (most s a b q r e f g : ℤ) → pos 0 ≤ℤ a → pos 0 ≤ℤ b → pos 0 ≤ℤ (a +ℤ b) →
    e ≤ℤ ((a +ℤ b) *ℤ (a *ℤ square r) *ℤ f +ℤ (a +ℤ b) *ℤ (b *ℤ square q) *ℤ g) →
    f ≤ℤ (most *ℤ (s *ℤ square q)) → g ≤ℤ (most *ℤ (s *ℤ square r)) → e ≤ℤ (most *ℤ (s *ℤ square ((a +ℤ b) *ℤ (q *ℤ r))))
cost_mixed most s a b q r e f g pa pb ps h k l =
    le_by (add-le-add_z h (add-le-add_z
    (mul-le-mul_left_z ((a +ℤ b) *ℤ (a *ℤ square r)) (mul_nonneg_z (a +ℤ b) (a *ℤ square r) ps (mul_nonneg_z a (square r) pa (square_nonneg_z r))) k)
    (mul-le-mul_left_z ((a +ℤ b) *ℤ (b *ℤ square q)) (mul_nonneg_z (a +ℤ b) (b *ℤ square q) ps (mul_nonneg_z b (square q) pb (square_nonneg_z q))) l)))
    (by_ring (most ∷ s ∷ a ∷ b ∷ q ∷ r ∷ e ∷ f ∷ g ∷ []) (search quotes depth 60 fits 20000) refl)

-- margins at two states give one at their mixture
margin_mixed : (d : Design) (rho : ℕ) (m : Margin) → IsSound d rho → Mixing d (HasMarginAt d m)
unfolding Mixing
margin_mixed d rho m s a b pa pb ps x y z e h k = record {
  denominator = over_of w;
  plan = plan w;
  positive = mul_pos_z (a +ℤ b) (h.denominator *ℤ k.denominator) ps (mul_pos_z h.denominator k.denominator h.positive k.positive);
  slacks = λ i l. row_mixed m.units (pos (residual_scale d)) a b h.denominator k.denominator _ _ _ pa pb (le_of_lt_z h.positive) (le_of_lt_z k.positive) (slack_mixed w i).is (h.slacks i l) (k.slacks i l);
  cheap = cost_mixed m.cost (pos (cost_scale d)) a b h.denominator k.denominator _ _ _ pa pb (le_of_lt_z ps) (cost_below w rho s pa pb).is h.cheap k.cheap;
}
  where
    w : Mixture
    w = record { d = d; a = a; b = b; q = h.denominator; r = k.denominator; x = x; y = y; z = z; u = h.plan; v = k.plan; between = e }

-- and so do slacks with an excess
excess_mixed : (d : Design) (rho : ℕ) (units excess : ℤ) → IsSound d rho → Mixing d (HasExcessAt d units excess)
unfolding Mixing
excess_mixed d rho units excess s a b pa pb ps x y z e h k = record {
  denominator = over_of w;
  plan = plan w;
  positive = mul_pos_z (a +ℤ b) (h.denominator *ℤ k.denominator) ps (mul_pos_z h.denominator k.denominator h.positive k.positive);
  slacks = λ i l. row_mixed units (pos (residual_scale d)) a b h.denominator k.denominator _ _ _ pa pb (le_of_lt_z h.positive) (le_of_lt_z k.positive) (slack_mixed w i).is (h.slacks i l) (k.slacks i l);
  best = near_best_mixed w rho excess s pa pb ps h.positive k.positive h.best k.best;
}
  where
    w : Mixture
    w = record { d = d; a = a; b = b; q = h.denominator; r = k.denominator; x = x; y = y; z = z; u = h.plan; v = k.plan; between = e }

-- what mixes holds at a state that agrees
moved_to : (d : Design) (P : (ℕ → ℤ) → Type 0) → Mixing d P → (x z : ℕ → ℤ) → ((j : ℕ) → j < d.states → z j ≡ x j) → P x → P z
unfolding Mixing
moved_to d P mixes x z e h = mixes (pos 1) (pos 0) (omega (arith, ints)) (omega (arith, ints)) (omega (arith, ints)) x x z (λ j l. alone (pos 1) (pos 0) (z j) (x j) (e j l)) h h
  where
    alone : (a b z x : ℤ) → z ≡ x → (a +ℤ b) *ℤ z ≡ a *ℤ x +ℤ b *ℤ x
    alone a b z x e = rw e (by_ring (a ∷ b ∷ x ∷ []) (search quotes depth 60 fits 20000) refl)

-- ---- the corners, by their numbers
-- at a corner each state is the least or the greatest
IsCorner : Design → (ℕ → ℤ) → Type 0
IsCorner d x = (i : ℕ) → i < d.states → (x i ≡ d.low i) ⊎ (x i ≡ d.high i)

-- the number whose bits say which
record Code (low high x : ℕ → ℤ) (n : ℕ) : Type 0 where
  number : ℕ
  small : number < 2 ^ n
  bits : (i : ℕ) → i < n → x i ≡ (if number / 2 ^ i % 2 == 1 then high i else low i)

-- one more bit leaves those below it
bit_below : (k n i : ℕ) → i < n → (k + 2 ^ n) / 2 ^ i % 2 ≡ k / 2 ^ i % 2
bit_below k n i l = rw (power, add-mul-div_left k (2 * 2 ^ (n - i - 1)) some) (add-mul-mod_self_left (k / 2 ^ i) 2 (2 ^ (n - i - 1)))
  where
    some : 0 < 2 ^ i
    some = pow_pos i

    power : 2 ^ n ≡ 2 ^ i * (2 * 2 ^ (n - i - 1))
    power = ap (λ (e : ℕ). 2 ^ e) (omega arith) ∙ pow-add 2 i (suc (n - i - 1)) ∙ ap (λ (e : ℕ). 2 ^ i * e) (pow-suc 2 (n - i - 1) ∙ omega arith)

top_bit : (k n : ℕ) → k < 2 ^ n → (k + 2 ^ n) / 2 ^ n ≡ 1
top_bit k n h = div-eq_of_lt-le (2 ^ n) (omega arith) (omega arith)

last_bit : (low high x : ℕ → ℤ) (k n : ℕ) → k / 2 ^ n ≡ 0 → x n ≡ low n → x n ≡ (if k / 2 ^ n % 2 == 1 then high n else low n)
last_bit low high x k n h e = rw h e

first_bit : (low high x : ℕ → ℤ) (k n : ℕ) → k / 2 ^ n ≡ 1 → x n ≡ high n → x n ≡ (if k / 2 ^ n % 2 == 1 then high n else low n)
first_bit low high x k n h e = rw h e

coded : (low high x : ℕ → ℤ) (n : ℕ) → ((i : ℕ) → i < n → (x i ≡ low i) ⊎ (x i ≡ high i)) → Code low high x n
coded low high x zero h = record { number = 0; small = omega arith; bits = λ i l. absurd (omega arith) }
coded low high x (suc n) h = elim (h n (omega arith)) [
  | inl e ↦ below (coded low high x n (λ i l. h i (omega arith))) e
  | inr e ↦ above (coded low high x n (λ i l. h i (omega arith))) e
]
  where
    below : Code low high x n → x n ≡ low n → Code low high x (suc n)
    below c e = record {
      number = c.number;
      small = omega (arith, pow-suc 2 n, c.small);
      bits = λ i l. below_more (λ (i : ℕ). x i ≡ (if c.number / 2 ^ i % 2 == 1 then high i else low i)) n c.bits (last_bit low high x c.number n (div-eq_of_lt c.small) e) i (omega arith);
    }

    above : Code low high x n → x n ≡ high n → Code low high x (suc n)
    above c e = record {
      number = c.number + 2 ^ n;
      small = omega (arith, pow-suc 2 n, c.small);
      bits = λ i l. below_more (λ (i : ℕ). x i ≡ (if (c.number + 2 ^ n) / 2 ^ i % 2 == 1 then high i else low i)) n
          (λ i l. rw (bit_below c.number n i l) (c.bits i l)) (first_bit low high x (c.number + 2 ^ n) n (top_bit c.number n c.small) e) i (omega arith);
    }

-- what mixes and holds at the numbered corners holds at each corner
at_corner : (d : Design) (P : (ℕ → ℤ) → Type 0) → Mixing d P → ((c : ℕ) → 1 ≤ c → c ≤ 2 ^ d.states → P (corner d c)) → (x : ℕ → ℤ) → IsCorner d x → P x
unfolding IsCorner
at_corner d P mixes h x e = moved_to d P mixes (corner d (c.number + 1)) x agrees (h (c.number + 1) (omega arith) (omega (arith, c.small)))
  where
    c : Code d.low d.high x d.states
    c = coded d.low d.high x d.states e

    agrees : (j : ℕ) → j < d.states → x j ≡ corner d (c.number + 1) j
    agrees j l = c.bits j l ∙ ap (λ (k : ℕ). if k / 2 ^ j % 2 == 1 then d.high j else d.low j) (omega arith)

-- a corner's plan is over a positive number
corner_positive : (d : Design) (p : Plans) → IsPolicyFor d p → (c : ℕ) → 1 ≤ c → c ≤ 2 ^ d.states → pos 0 <ℤ corner_denominator p c
corner_positive d p f c first last = let q = f.denominators (c - 1) (pos 0) (omega (arith, f.count)) in omega (arith, ints, q.low)

-- ---- the box
-- x with another number at k
abbrev at_place : (ℕ → ℤ) → ℕ → ℤ → ℕ → ℤ
at_place x k c j = if nat_eq j k then c else x j

at_place_same : (x : ℕ → ℤ) (k : ℕ) (c : ℤ) → at_place x k c k ≡ c
at_place_same x k c = rw (eq-eqb k k refl) refl

at_place_other : (x : ℕ → ℤ) (k j : ℕ) (c : ℤ) → j ≢ k → at_place x k c j ≡ x j
at_place_other x k j c h = rw (ne_eqb j k h) refl

-- a number between two others, as their mixture
mixture : (x : ℕ → ℤ) (k j : ℕ) (low high : ℤ) →
    ((high -ℤ x k) +ℤ (x k -ℤ low)) *ℤ x j ≡ (high -ℤ x k) *ℤ at_place x k low j +ℤ (x k -ℤ low) *ℤ at_place x k high j
mixture x k j low high = elim (cases_eq j k) [
  | inl e ↦ rw (e, at_place_same x k low, at_place_same x k high) (by_ring (x k ∷ low ∷ high ∷ []) (search quotes depth 60 fits 20000) refl)
  | inr e ↦ rw (at_place_other x k j low e, at_place_other x k j high e) (by_ring (x k ∷ x j ∷ low ∷ high ∷ []) (search quotes depth 60 fits 20000) refl)
]

-- inside below k, and at a corner from k on
record IsMixed (n : ℕ) (low high : ℕ → ℤ) (k : ℕ) (x : ℕ → ℤ) : Type 0 where
  inside : (i : ℕ) → i < k → i < n → (low i ≤ℤ x i) × (x i ≤ℤ high i)
  corner : (i : ℕ) → k ≤ i → i < n → (x i ≡ low i) ⊎ (x i ≡ high i)

moved : (n : ℕ) (low high : ℕ → ℤ) (k : ℕ) (x : ℕ → ℤ) (c : ℤ) → IsMixed n low high (suc k) x → (c ≡ low k) ⊎ (c ≡ high k) → IsMixed n low high k (at_place x k c)
moved n low high k x c h e = record {
  inside = λ i l m. (let o : i ≢ k = omega arith in rw (at_place_other x k i c o) (h.inside i (omega arith) m));
  corner = λ i l m. elim (cases_eq i k) [
    | inl o ↦ rw (o, at_place_same x k c) e
    | inr o ↦ rw (at_place_other x k i c o) (h.corner i (omega arith) m)
  ];
}

stays : (x : ℕ → ℤ) (k : ℕ) (c : ℤ) → c ≡ x k → at_place x k c ≡ x
stays x k c e = fun_ext (λ j. elim (cases_eq j k) [
  | inl o ↦ rw (o, at_place_same x k c) e
  | inr o ↦ at_place_other x k j c o
])

inside_too : (d : Design) (P : (ℕ → ℤ) → Type 0) → Mixing d P → ((x : ℕ → ℤ) → IsCorner d x → P x) →
    (k : ℕ) (x : ℕ → ℤ) → IsMixed d.states d.low d.high k x → P x
unfolding IsCorner Mixing
inside_too d P mixes c zero x h = c x (λ i l. h.corner i (omega arith) l)
inside_too d P mixes c (suc k) x h = elim (cases_lt k d.states) [
  | inr l ↦ inside_too d P mixes c k x (record {
    inside = λ i n o. h.inside i (omega arith) o;
    corner = λ i n o. absurd (omega arith);
  })
  | inl l ↦ by_lt_z (d.low k) (d.high k)
      (λ n. mixes (d.high k -ℤ x k) (x k -ℤ d.low k) (difference_nonneg (h.inside k (omega arith) l).1)
      (difference_nonneg (h.inside k (omega arith) l).0) (omega (arith, ints))
      (at_place x k (d.low k)) (at_place x k (d.high k)) x (λ j o. mixture x k j (d.low k) (d.high k))
      (inside_too d P mixes c k (at_place x k (d.low k)) (moved d.states d.low d.high k x (d.low k) h (inl refl)))
      (inside_too d P mixes c k (at_place x k (d.high k)) (moved d.states d.low d.high k x (d.high k) h (inr refl))))
      (λ n. (let a = (h.inside k (omega arith) l).0 in let b = (h.inside k (omega arith) l).1 in
      let e : d.low k ≡ x k = omega (arith, ints, a, b) in
      subst P (stays x k (d.low k) e) (inside_too d P mixes c k (at_place x k (d.low k)) (moved d.states d.low d.high k x (d.low k) h (inl refl)))))
]

-- what mixes and holds at the corners holds at every grid state of the box
over_box : (d : Design) (P : (ℕ → ℤ) → Type 0) → Mixing d P → ((c : ℕ) → 1 ≤ c → c ≤ 2 ^ d.states → P (corner d c)) → (xi : ℕ → ℤ) → IsGridState d xi → P xi
over_box d P mixes h xi inside = inside_too d P mixes (at_corner d P mixes h) d.states xi
    (record { inside = λ i l n. inside i n; corner = λ i l n. absurd (omega arith) })

pub box_law : BoxLaw
box_law d rho p m s f h = over_box d (HasMarginAt d m) (margin_mixed d rho m s) (λ c first last. record {
  denominator = corner_denominator p c;
  plan = corner_plan p c;
  positive = corner_positive d p f c first last;
  slacks = λ i l. h.slacks c i first last l;
  cheap = h.costs c first last;
})

pub excess_box_law : ExcessBoxLaw
excess_box_law d rho p units excess s f h = over_box d (HasExcessAt d units excess) (excess_mixed d rho units excess s) (λ c first last. record {
  denominator = corner_denominator p c;
  plan = corner_plan p c;
  positive = corner_positive d p f c first last;
  slacks = λ i l. h.slacks c i first last l;
  best = h.excesses c first last;
})

-- ---- a feasible plan near one that breaks the rows a little
-- a row of the mixture of such a plan, and one with slack
row_mended : (units over den s q r e f g : ℤ) → pos 0 ≤ℤ units → pos 0 ≤ℤ over → pos 0 ≤ℤ q → pos 0 ≤ℤ r →
    e ≡ units *ℤ den *ℤ r *ℤ f +ℤ over *ℤ pos (2 ^ 16) *ℤ q *ℤ g →
    (den *ℤ f) ≤ℤ (over *ℤ s *ℤ q) → (units *ℤ (s *ℤ r)) ≤ℤ (pos (2 ^ 16) *ℤ neg_ℤ g) → e ≤ℤ pos 0
row_mended units over den s q r e f g pu po pq pr h k l = rw h
    (le_by (add-le-add_z (mul-le-mul_left_z (units *ℤ r) (mul_nonneg_z units r pu pr) k) (mul-le-mul_left_z (over *ℤ q) (mul_nonneg_z over q po pq) l))
    (by_ring (units ∷ over ∷ den ∷ s ∷ q ∷ r ∷ f ∷ g ∷ []) (search quotes depth 60 fits 20000) refl))

-- The cost of the mixture, at numbers alone: u costs c over q, the other plan e over r, and at most `most` over g more than u, and the mixture m. The
-- multiplier `factor` counts for an excess of at least t over g.
cost_mended : (s g most factor t v vd cd q r c e m : ℤ) → pos 0 ≤ℤ s → pos 0 ≤ℤ g → pos 0 ≤ℤ v → pos 0 ≤ℤ vd → pos 0 ≤ℤ factor → pos 0 ≤ℤ cd →
    most ≤ℤ (factor *ℤ (s +ℤ t)) → (t *ℤ vd) ≤ℤ (v *ℤ g) →
    (g *ℤ e *ℤ square q) ≤ℤ ((g *ℤ c +ℤ most *ℤ cd *ℤ square q) *ℤ square r) →
    m ≤ℤ ((s *ℤ vd +ℤ v *ℤ g) *ℤ (s *ℤ vd *ℤ square r) *ℤ c +ℤ (s *ℤ vd +ℤ v *ℤ g) *ℤ (v *ℤ g *ℤ square q) *ℤ e) →
    (vd *ℤ m *ℤ square q) ≤ℤ ((vd *ℤ c +ℤ factor *ℤ v *ℤ cd *ℤ square q) *ℤ square ((s *ℤ vd +ℤ v *ℤ g) *ℤ (q *ℤ r)))
cost_mended s g most factor t v vd cd q r c e m ps pg pv pd pf pc h n k l =
    le_by (add-le-add_z (mul-le-mul_left_z (square q *ℤ vd) part l)
    (add-le-add_z (mul-le-mul_left_z (square q *ℤ vd *ℤ (w *ℤ v)) (mul_nonneg_z (square q *ℤ vd) (w *ℤ v) part (mul_nonneg_z w v pw pv)) k)
    (add-le-add_z (mul-le-mul_left_z (all *ℤ vd) (mul_nonneg_z all vd pa pd) h) (mul-le-mul_left_z (all *ℤ factor) (mul_nonneg_z all factor pa pf) n))))
    (by_ring (s ∷ g ∷ most ∷ factor ∷ t ∷ v ∷ vd ∷ cd ∷ q ∷ r ∷ c ∷ e ∷ m ∷ []) (search quotes depth 60 fits 20000) refl)
  where
    w : ℤ
    w = s *ℤ vd +ℤ v *ℤ g

    pw : pos 0 ≤ℤ w
    pw = add_nonneg_z (mul_nonneg_z s vd ps pd) (mul_nonneg_z v g pv pg)

    part : pos 0 ≤ℤ (square q *ℤ vd)
    part = mul_nonneg_z (square q) vd (square_nonneg_z q) pd

    all : ℤ
    all = v *ℤ cd *ℤ w *ℤ square (q *ℤ r) *ℤ square q

    pa : pos 0 ≤ℤ all
    pa = mul_nonneg_z (v *ℤ cd *ℤ w *ℤ square (q *ℤ r)) (square q)
        (mul_nonneg_z (v *ℤ cd *ℤ w) (square (q *ℤ r)) (mul_nonneg_z (v *ℤ cd) w (mul_nonneg_z v cd pv pc) pw) (square_nonneg_z (q *ℤ r))) (square_nonneg_z q)

pub threshold_law : ThresholdLaw
threshold_law d rho p units excess factor threshold s f h pu large xi inside q u pq over den po pd least e = record {
  denominator = over_of w;
  plan = plan w;
  positive = mul_pos_z (w.a +ℤ w.b) (q *ℤ k.denominator)
      (add_pos_z (mul_pos_z units den (omega (arith, ints, pu)) pd) (mul_nonneg_z over (pos (2 ^ 16)) po (omega (arith, ints)))) (mul_pos_z q k.denominator pq k.positive);
  feasible = λ i l. row_mended units over den (pos (residual_scale d)) q k.denominator _ _ _ some po (le_of_lt_z pq) (le_of_lt_z k.positive) (residual_mixed w i).is (e i l) (k.slacks i l);
  cheap = cost_mended units (pos (2 ^ 16)) excess (pos factor) (pos threshold) over den (pos (cost_scale d)) q k.denominator _ _ _ some (omega (arith, ints)) po (le_of_lt_z pd) (omega (arith, ints)) (omega (arith, ints))
      large least (k.best q u pq) (cost_below w rho s (mul_nonneg_z units den some (le_of_lt_z pd)) (mul_nonneg_z over (pos (2 ^ 16)) po (omega (arith, ints)))).is;
}
  where
    k : HasExcessAt d units excess xi
    k = excess_box_law d rho p units excess s f h xi inside

    some : pos 0 ≤ℤ units
    some = omega (arith, ints, pu)

    w : Mixture
    w = record { d = d; a = units *ℤ den; b = over *ℤ pos (2 ^ 16); q = q; r = k.denominator; x = xi; y = xi; z = xi; u = u; v = k.plan; between = λ j l. same_state (units *ℤ den) (over *ℤ pos (2 ^ 16)) (xi j) }
      where
        same_state : (a b z : ℤ) → (a +ℤ b) *ℤ z ≡ a *ℤ z +ℤ b *ℤ z
        same_state a b z = by_ring (a ∷ b ∷ z ∷ []) (search quotes depth 60 fits 20000) refl

-- ---- with the corners' costs alone
-- what costs at most `most` costs at most so much more than any plan, since none costs less than nothing
near_nothing : (g most cd q r c e : ℤ) → pos 0 ≤ℤ g → pos 0 ≤ℤ e → c ≤ℤ (most *ℤ (cd *ℤ square q)) →
    (g *ℤ c *ℤ square r) ≤ℤ ((g *ℤ e +ℤ g *ℤ most *ℤ cd *ℤ square r) *ℤ square q)
near_nothing g most cd q r c e pg pe h =
    le_by (add-le-add_z (mul-le-mul_left_z (g *ℤ square r) (mul_nonneg_z g (square r) pg (square_nonneg_z r)) h)
    (mul_nonneg_z (g *ℤ square q) e (mul_nonneg_z g (square q) pg (square_nonneg_z q)) pe))
    (by_ring (g ∷ most ∷ cd ∷ q ∷ r ∷ c ∷ e ∷ []) (search quotes depth 60 fits 20000) refl)

-- so the corners' costs are excesses
pub excess_of_costs : (d : Design) (rho : ℕ) (p : Plans) (m : Margin) → IsSound d rho → KeepsMargin d p m → KeepsExcess d p m.units (pos (2 ^ 16) *ℤ m.cost)
excess_of_costs d rho p m s h = record {
  slacks = h.slacks;
  excesses = λ c first last r t pr. near_nothing (pos (2 ^ 16)) m.cost (pos (cost_scale d)) (corner_denominator p c) r _ _ (omega (arith, ints)) (cost_nonneg d rho s r (corner d c) t) (h.costs c first last);
}

enough : (u c : ℕ) → 0 < u → c * 65536 ≤ multiplier_bound u c * u
enough u c h =
    let most : ceil_div (2 ^ 16 * c) u ≤ multiplier_bound u c = omega arith in
    omega (arith, le-mul-ceil_div (2 ^ 16 * c) u h, mul-le-mul_left u most)

-- R is large enough: at least the cost over the slack
bound_enough : (units cost : ℤ) → pos 1 ≤ℤ units →
    (pos (2 ^ 16) *ℤ cost) ≤ℤ (pos (multiplier_bound (unsigned_abs units) (unsigned_abs cost)) *ℤ (units +ℤ pos 0))
bound_enough (pos u) (pos c) h = let e = enough u c (omega (arith, ints, h)) in omega (arith, ints, e)
bound_enough (pos u) (negsuc c) h = omega (arith, ints)
bound_enough (negsuc u) cost h = absurd (omega (arith, ints))

-- the threshold is 0
pub repair_law : RepairLaw
repair_law d rho p m s f h pu xi inside q u pq over den po pd =
    threshold_law d rho p m.units (pos (2 ^ 16) *ℤ m.cost) (multiplier_of m) 0 s f (excess_of_costs d rho p m s h) pu (bound_enough m.units m.cost pu)
    xi inside q u pq over den po pd (nothing den (over *ℤ pos (2 ^ 16)) (mul_nonneg_z over (pos (2 ^ 16)) po (omega (arith, ints))))
  where
    nothing : (z n : ℤ) → pos 0 ≤ℤ n → (pos 0 *ℤ z) ≤ℤ n
    nothing z n h = le_by h (by_ring (z ∷ n ∷ []) (search quotes depth 60 fits 20000) refl)
