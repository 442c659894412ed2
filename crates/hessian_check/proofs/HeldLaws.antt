-- The matrices that are held of a design.
use Rattle.std.proofs.Common.{◌≡◌, ℕ, ◌*◌, ◌/◌, ◌<◌, ◌≤◌, ◌^◌, [], ◌∷◌, Bool, true, false, ℤ, pos, ◌-ℤ◌, ◌*ℤ◌, ◌≤ℤ◌, ◌<ℤ◌, neg_ℤ, unsigned_abs, arith, ap, refl}
use Rattle.std.proofs.lemmas.Int.{ints, unsigned_abs-mul}
use Rattle.std.proofs.Math.IntN.{*ℤ_comm}
use Rattle.std.proofs.Math.Nat.{one-le-mul}
use Rattle.integer_algebra.specs.Bounds.{IsWithin}
use Rattle.integer_algebra.specs.Division.{floor_of, round_of}
use Rattle.integer_algebra.proofs.BoundLaws.{within_more}
use Rattle.integer_algebra.proofs.OrderLaws.{cancel-le_z, mul-le-mul_right_z, pos_positive}
use Rattle.integer_algebra.proofs.PowerLaws.{pow-two, pow_positive}
use Rattle.integer_algebra.proofs.Quoting.{by_ring, quotes}
use Rattle.integer_algebra.proofs.SumLaws.{total_same}
use Rattle.frac_scaled.specs.Enclosures.{Encloses, exactly, sum_of}
use Rattle.frac_scaled.proofs.EnclosureLaws.{encloses_within, within_encloses}
use Rattle.mat_int.proofs.EnclosureLaws.{gram_law}
use Rattle.qp_model.specs.form.Class.{form_in}
use Rattle.qp_model.specs.form.Condensed.{IsCondensed}
use Rattle.qp_model.specs.form.Condensing.{condensed_of}
use Rattle.qp_model.specs.problem.Design.{Design, entries, rows}
use Rattle.qp_model.specs.form.FineForm.{fine_form, fine_products, own_weight}
use Rattle.qp_model.specs.form.Form.{IsFormFor}
use Rattle.qp_model.specs.form.Quantities.{input_floor}
use Rattle.qp_model.specs.problem.Sound.{IsSound}
use Rattle.hessian_check.specs.Curvature.{IsHeld, weighted_products}
use Rattle.hessian_check.specs.Dominance.{IsSymmetric}
use Rattle.hessian_check.specs.Steps.{curved_of, held_by, held_in, row_enclosure, weighted_of}
use Rattle.hessian_check.proofs.DesignLaws.{half_turned, half_two, hessian_even}
use Rattle.hessian_check.proofs.RadiusLaws.{exact_law}

-- ---- a hessian and its radii are even
pub hessian_twice : (fine : Bool) (d : Design) (i j : ℕ) → (form_in fine d).numbers.hessian i j ≡ pos 2 *ℤ (held_in fine d).half i j
hessian_twice true d i j = doubled _ (sum_of (fine_products d i j) (exactly (own_weight d i j))).mid refl
  where
    doubled : (h x : ℤ) → h ≡ pos 2 *ℤ x → h ≡ pos 2 *ℤ floor_of h 2
    doubled h x e = rw (e, half_two x) refl
hessian_twice false d i j = hessian_even d i j

pub radius_twice : (fine : Bool) (d : Design) (i j : ℕ) → (form_in fine d).hessian_radius i j ≡ 2 * (held_in fine d).half_radius i j
radius_twice true d i j = doubled (sum_of (fine_products d i j) (exactly (own_weight d i j))).rad
  where
    doubled : (z : ℤ) → unsigned_abs (pos 2 *ℤ z) ≡ 2 * (unsigned_abs (pos 2 *ℤ z) / 2)
    doubled z = omega (arith, unsigned_abs-mul (pos 2) z)
radius_twice false d i j = refl

-- ---- numbers within radii, brought over other scales
along : {b c y z : ℤ} → b ≡ c → y ≡ z → IsWithin b y → IsWithin c z
along e f w = rw (← e, ← f) w

within_cancelled : (m b z : ℤ) → pos 0 <ℤ m → IsWithin (m *ℤ b) (m *ℤ z) → IsWithin b z
within_cancelled m b z h w = record {
  below = cancel-le_z m z b h w.below;
  above = cancel-le_z m (neg_ℤ b) z h (rw (turn m b) w.above);
}
  where
    turn : (m b : ℤ) → m *ℤ neg_ℤ b ≡ neg_ℤ (m *ℤ b)
    turn m b = by_ring (m ∷ b ∷ []) (search quotes depth 60 fits 20000) refl

-- both sides have a factor m
brought : (t m a : ℕ) (x y : ℤ) (r big small : ℕ) → 1 ≤ m → big ≡ m * a → small ≡ m * t → IsWithin (pos (big * r)) (pos small *ℤ x -ℤ pos big *ℤ y) →
    IsWithin (pos (a * r)) (pos t *ℤ x -ℤ pos a *ℤ y)
brought t m a x y r big small o e f w = within_cancelled (pos m) _ _ (pos_positive m o)
    (along (ap pos (naturals m a r)) (turn (pos m) (pos t) (pos a) x y) (moved big small e f w))
  where
    moved : (big small : ℕ) → big ≡ m * a → small ≡ m * t → IsWithin (pos (big * r)) (pos small *ℤ x -ℤ pos big *ℤ y) →
        IsWithin (pos (m * a * r)) (pos (m * t) *ℤ x -ℤ pos (m * a) *ℤ y)
    moved big small e f w = rw (← e, ← f) w

    naturals : (m a r : ℕ) → m * a * r ≡ m * (a * r)
    naturals m a r = omega arith

    turn : (m t a x y : ℤ) → m *ℤ t *ℤ x -ℤ m *ℤ a *ℤ y ≡ m *ℤ (t *ℤ x -ℤ a *ℤ y)
    turn m t a x y = by_ring (m ∷ t ∷ a ∷ x ∷ y ∷ []) (search quotes depth 60 fits 20000) refl

-- half of each
halved_within : (t a q : ℕ) (x y : ℤ) {h m : ℤ} {r : ℕ} → h ≡ pos 2 *ℤ x → m ≡ pos 2 *ℤ y → r ≡ 2 * q → IsWithin (pos (a * r)) (pos t *ℤ h -ℤ pos a *ℤ m) →
    IsWithin (pos (a * q)) (pos t *ℤ x -ℤ pos a *ℤ y)
halved_within t a q x y {h} {m} {r} e f g w = within_cancelled (pos 2) _ _ (pos_positive 2 (omega arith)) (along (ap pos (naturals a q)) (turn (pos t) (pos a) x y) (moved h m r e f g w))
  where
    moved : (h m : ℤ) (r : ℕ) → h ≡ pos 2 *ℤ x → m ≡ pos 2 *ℤ y → r ≡ 2 * q → IsWithin (pos (a * r)) (pos t *ℤ h -ℤ pos a *ℤ m) →
        IsWithin (pos (a * (2 * q))) (pos t *ℤ (pos 2 *ℤ x) -ℤ pos a *ℤ (pos 2 *ℤ y))
    moved h m r e f g w = rw (← e, ← f, ← g) w

    naturals : (a q : ℕ) → a * (2 * q) ≡ 2 * (a * q)
    naturals a q = omega arith

    turn : (t a x y : ℤ) → t *ℤ (pos 2 *ℤ x) -ℤ a *ℤ (pos 2 *ℤ y) ≡ pos 2 *ℤ (t *ℤ x -ℤ a *ℤ y)
    turn t a x y = by_ring (t ∷ a ∷ x ∷ y ∷ []) (search quotes depth 60 fits 20000) refl

-- an enclosure, as a number within a radius
enclosed : (t a : ℕ) (r m x : ℤ) → IsWithin (r *ℤ pos a) (pos t *ℤ x -ℤ m *ℤ pos a) → IsWithin (pos (a * unsigned_abs r)) (pos t *ℤ x -ℤ pos a *ℤ m)
enclosed t a r m x w = along refl (turn (pos t) (pos a) m x) (within_more _ _ _ w (rw (whole r a) (mul-le-mul_right_z (pos a) (natural a) (under r))))
  where
    natural : (n : ℕ) → pos 0 ≤ℤ pos n
    natural n = omega (arith, ints)

    under : (r : ℤ) → r ≤ℤ pos (unsigned_abs r)
    under r = omega (arith, ints)

    whole : (r : ℤ) (a : ℕ) → pos (a * unsigned_abs r) ≡ pos (unsigned_abs r) *ℤ pos a
    whole r a = *ℤ_comm (pos a) (pos (unsigned_abs r))

    turn : (t a m x : ℤ) → t *ℤ x -ℤ m *ℤ a ≡ t *ℤ x -ℤ a *ℤ m
    turn t a m x = by_ring (t ∷ a ∷ m ∷ x ∷ []) (search quotes depth 60 fits 20000) refl

-- and back
enclosing : (t a r : ℕ) (m x : ℤ) → IsWithin (pos (a * r)) (pos t *ℤ x -ℤ pos a *ℤ m) → IsWithin (pos r *ℤ pos a) (pos t *ℤ x -ℤ m *ℤ pos a)
enclosing t a r m x w = along (*ℤ_comm (pos a) (pos r)) (turn (pos t) (pos a) m x) w
  where
    turn : (t a m x : ℤ) → t *ℤ x -ℤ a *ℤ m ≡ t *ℤ x -ℤ m *ℤ a
    turn t a m x = by_ring (t ∷ a ∷ m ∷ x ∷ []) (search quotes depth 60 fits 20000) refl

-- ---- the matrices of enclosures
module _ (d : Design) (s : IsSound d (input_floor d)) (g : IsFormFor d (fine_form d)) where
  -- the plant's denominator over all stages
  abbrev power : ℕ
  power = d.plant_denominator ^ d.stages

  half_within : (i j : ℕ) → i < entries d → j < entries d →
      IsWithin (pos (power * power * (held_in true d).half_radius i j)) (pos (2 ^ 40) *ℤ (curved_of d).half i j -ℤ pos (power * power) *ℤ (held_in true d).half i j)
  half_within i j k l = halved_within (2 ^ 40) (power * power) _ ((curved_of d).half i j) ((held_in true d).half i j) (hessian_even d i j) (hessian_twice true d i j) (radius_twice true d i j)
      (brought (2 ^ 40) (d.cost_denominator * d.row_denominator ^ 2) (power * power) ((condensed_of d).hessian i j) ((fine_form d).numbers.hessian i j) _ _ _ (one-le-mul s.cost_denominator (pow_positive d.row_denominator 2 s.row_denominator))
      (scale d.cost_denominator d.row_denominator power) refl (g.encloses.hessian i j k l))
    where
      scale : (w r a : ℕ) → w * (r * a) ^ 2 ≡ w * r ^ 2 * (a * a)
      scale w r a = rw (pow-two (r * a), pow-two r) (omega arith)

  row_encloses : (l i : ℕ) → l < rows d → i < entries d → Encloses (row_enclosure (fine_form d) l i) ((condensed_of d).by_plan l i) (pos power)
  row_encloses l i k m = within_encloses _ _ _ (enclosing (2 ^ 40) power _ ((fine_form d).numbers.by_plan l i) ((condensed_of d).by_plan l i)
      (brought (2 ^ 40) d.limit_denominator power ((condensed_of d).by_plan l i) ((fine_form d).numbers.by_plan l i) _ _ _ s.limit_denominator refl refl (g.encloses.plan l i k m)))

  products_within : (weight : ℕ → ℕ) (i j : ℕ) → i < entries d → j < entries d →
      IsWithin (pos (power * power * (held_by true d weight).products_radius i j))
      (pos (2 ^ 40) *ℤ weighted_products (rows d) weight (condensed_of d).by_plan i j -ℤ pos (power * power) *ℤ (held_by true d weight).products i j)
  products_within weight i j k l = enclosed (2 ^ 40) (power * power) _ ((held_by true d weight).products i j) (weighted_products (rows d) weight (condensed_of d).by_plan i j)
      (encloses_within (gram_law (rows d) (λ l. pos (weight l)) (row_enclosure (fine_form d)) i j (condensed_of d).by_plan (λ i. pos power) some some
      (λ r o. (row_encloses r i o k, row_encloses r j o l))))
    where
      some : pos 1 ≤ℤ pos power
      some = natural power (pow_positive d.plant_denominator d.stages s.plant_denominator)
        where
          natural : (n : ℕ) → 1 ≤ n → pos 1 ≤ℤ pos n
          natural n h = omega (arith, ints, h)

  products_turned : (weight : ℕ → ℕ) → IsSymmetric (entries d) (held_by true d weight).products
  products_turned weight i j k l = ap (λ (z : ℤ). round_of z (2 ^ 40)) (total_same (rows d) _ _ (λ r o.
      ap (λ (z : ℤ). pos (weight r) *ℤ z) (*ℤ_comm ((fine_form d).numbers.by_plan r i) ((fine_form d).numbers.by_plan r j))))

-- by how often each row counts
pub weighted_law : (fine : Bool) (d : Design) (weight : ℕ → ℕ) → IsSound d (input_floor d) → IsCondensed d (condensed_of d) → IsFormFor d (form_in fine d) →
    IsHeld (weighted_of d weight) (held_by fine d weight)
weighted_law true d weight s c g = record {
  exact_scale = power d s g * power d s g;
  held_scale = 2 ^ 40;
  some = omega arith;
  turned = half_turned d c;
  half_turned = λ i j k l. ap (λ (z : ℤ). floor_of z 2) (g.encloses.symmetric i j k l);
  products_turned = products_turned d s g weight;
  half = half_within d s g;
  products = products_within d s g weight;
}
weighted_law false d weight s c g = exact_law (weighted_of d weight) (half_turned d c)

-- where each counts once
pub held_law : (fine : Bool) (d : Design) → IsSound d (input_floor d) → IsCondensed d (condensed_of d) → IsFormFor d (form_in fine d) → IsHeld (curved_of d) (held_in fine d)
held_law fine d s c g = weighted_law fine d (λ l. 1) s c g
