-- The matrices that code makes of a condensed form are those of its design.
use Rattle.std.proofs.Common.{◌≡◌, ℕ, ◌+◌, ◌*◌, ◌/◌, ◌<◌, ◌≤◌, ◌^◌, ℤ, pos, negsuc, ◌+ℤ◌, ◌-ℤ◌, ◌*ℤ◌, ◌≤ℤ◌, unsigned_abs, Bool, true, false, nat_eq, if◌then◌else◌, [], ◌∷◌, length, FitsSigned, arith, ap, ap₂, sym, ◌∙◌, refl}
use Rattle.std.specs.Int.{w128}
use Rattle.std.proofs.lemmas.Int.{ints, fits_signed_from_abs, to_z-of_z, unsigned_abs-mul}
use Rattle.std.proofs.Math.Nat.{mul-le-mul, mul-le-mul_left}
use Rattle.integer_algebra.specs.Division.{floor_of}
use Rattle.integer_algebra.specs.Sizes.{amount, size}
use Rattle.integer_algebra.proofs.AmountLaws.{amount_mono, amount_scale}
use Rattle.integer_algebra.proofs.PowerLaws.{pow-two}
use Rattle.integer_algebra.proofs.Quoting.{by_ring, quotes}
use Rattle.integer_algebra.proofs.SizeLaws.{amount_same, size_same}
use Rattle.mat_int.specs.Matrix.{Matrix, entry_of, HasEntries}
use Rattle.qp_model.specs.declared.design_parts.DesignParts.{DesignParts}
use Rattle.qp_model.specs.form.Class.{cost_row_in, form_in}
use Rattle.qp_model.specs.problem.Design.{Design, entries}
use Rattle.qp_model.specs.problem.Parts.{design_of}
use Rattle.qp_model.proofs.CostLaws.{condensing}
use Rattle.qp_model.proofs.SoundLaws.{sound}
use Rattle.condensed_form.specs.declared.condensed.Condensed.{Condensed}
use Rattle.condensed_form.specs.Form.{IsFormIn}
use Rattle.condensed_form.proofs.FormSums.{far_hessian, hessian_row}
use Rattle.hessian_check.specs.declared.matrices.StepMatrices.{StepMatrices}
use Rattle.hessian_check.specs.Curvature.{HeldMatrices, IsHeld, lowered, radius_of}
use Rattle.hessian_check.specs.DesignMatrices.{AreMatricesOf, IsCostMatrix, IsRowMatrix}
use Rattle.hessian_check.specs.Held.{IsMovable}
use Rattle.hessian_check.specs.StepMatrices.{AreMatrices}
use Rattle.hessian_check.specs.Steps.{half_of, held_by, held_in, weighted_of}
use Rattle.condensed_form.proofs.LimitFacts.{small, unit_small}
use Rattle.condensed_form.proofs.Rooms.{read}
use Rattle.hessian_check.proofs.HeldLaws.{hessian_twice, radius_twice, weighted_law}
use Rattle.hessian_check.proofs.RadiusLaws.{lowered_turned, raised_turned}
use Rattle.hessian_check.proofs.HeldMatrices.{amount_add, lowered_same, lowered_size, own_room}

-- ---- by class
half_is : (fine : Bool) (d : Design) (i j : ℕ) → (held_in fine d).half i j ≡ half_of (form_in fine d).numbers.hessian i j
half_is true d i j = refl
half_is false d i j = refl

radius_is : (fine : Bool) (d : Design) (i j : ℕ) → (held_in fine d).half_radius i j ≡ (form_in fine d).hessian_radius i j / 2
radius_is true d i j = refl
radius_is false d i j = refl

-- ---- halves
half-le : (z : ℤ) → unsigned_abs (floor_of z 2) ≤ unsigned_abs z
half-le (pos n) = omega arith
half-le (negsuc n) = omega arith

half_radius : (z : ℤ) (r : ℕ) → pos 0 ≤ℤ z → unsigned_abs z ≡ r → unsigned_abs (floor_of z 2) ≡ r / 2
half_radius (pos n) r h e = rw (← e) refl
half_radius (negsuc n) r h e = absurd h.le

module _ (fine : Bool) (p : DesignParts) (c : Condensed) (f : IsFormIn fine p c) where
  -- ---- the cost
  hessian_is : (i j : ℕ) → i < entries (design_of p) → j < entries (design_of p) → entry_of c.hess i j ≡ (form_in fine (design_of p)).numbers.hessian i j
  hessian_is i j k l = f.same.hessian i j (rw f.encloses.encloses.entry_count k) (rw f.encloses.encloses.entry_count l)

  hessian_radius_is : (i j : ℕ) → i < entries (design_of p) → j < entries (design_of p) → unsigned_abs (entry_of c.hess_rad i j) ≡ (form_in fine (design_of p)).hessian_radius i j
  hessian_radius_is i j k l = f.same.hessian_radius i j (rw f.encloses.encloses.entry_count k) (rw f.encloses.encloses.entry_count l)

  -- a row of halves comes to half of the row
  half_row : (i : ℕ) → i < entries (design_of p) →
      size (entries (design_of p)) ((held_in fine (design_of p)).half i) + amount (entries (design_of p)) ((held_in fine (design_of p)).half_radius i) ≤ cost_row_in fine (design_of p)
  half_row i a =
      let n = entries (design_of p) in
      let held = held_in fine (design_of p) in
      halved (amount_add n (λ j. unsigned_abs (held.half i j)) (held.half_radius i))
      (sym (amount_scale n 2 (λ j. unsigned_abs (held.half i j) + held.half_radius i j)))
      (amount_same n _ (far_hessian c i) (λ j b. doubled _ (held.half i j) _ _ (hessian_is i j a b ∙ hessian_twice fine (design_of p) i j) (hessian_radius_is i j a b ∙ radius_twice fine (design_of p) i j)))
      (rw f.shapes.hess.rows at (f.sizes.cost_row i a))
    where
      halved : {x y u z t : ℕ} → x ≡ u → 2 * x ≡ y → y ≡ z → z ≤ 2 * t → u ≤ t
      halved {x} {y} {u} {z} {t} e g h k = omega (arith, e, g, h, k)

      doubled : (x y : ℤ) (a b : ℕ) → x ≡ pos 2 *ℤ y → a ≡ 2 * b → 2 * (unsigned_abs y + b) ≡ unsigned_abs x + a
      doubled x y a b e g = rw (e, g, unsigned_abs-mul (pos 2) y) (omega arith)

  module _ (m r : Matrix) (h : HasEntries (length c.hess.rows) (length c.hess.rows) (half_of (entry_of c.hess)) m)
      (k : HasEntries (length c.hess_rad.rows) (length c.hess_rad.rows) (half_of (entry_of c.hess_rad)) r) where
    cost_entry : (i j : ℕ) → i < entries (design_of p) → j < entries (design_of p) → entry_of m i j ≡ (held_in fine (design_of p)).half i j
    cost_entry i j a b = h.entries i j (rw f.shapes.hess.rows a) (rw f.shapes.hess.rows b) ∙ ap (λ (z : ℤ). floor_of z 2) (hessian_is i j a b) ∙ sym (half_is fine (design_of p) i j)

    cost_radius : (i j : ℕ) → i < entries (design_of p) → j < entries (design_of p) → unsigned_abs (entry_of r i j) ≡ (held_in fine (design_of p)).half_radius i j
    cost_radius i j a b = ap unsigned_abs (k.entries i j (rw f.shapes.hess_rad.rows a) (rw f.shapes.hess_rad.rows b)) ∙
        half_radius (entry_of c.hess_rad i j) _ (f.radii.hess i j a b) (hessian_radius_is i j a b) ∙ sym (radius_is fine (design_of p) i j)

    pub cost_movable : IsMovable m r
    cost_movable = record {
      square = h.cols ∙ sym h.rows;
      rows = k.rows ∙ f.shapes.hess_rad.rows ∙ sym (h.rows ∙ f.shapes.hess.rows);
      cols = k.cols ∙ f.shapes.hess_rad.rows ∙ sym (h.rows ∙ f.shapes.hess.rows);
      room = λ i l.
          (let a : i < entries (design_of p) = rw (← (h.rows ∙ f.shapes.hess.rows)) l in
          rw (h.rows ∙ f.shapes.hess.rows) (under (own_room (entries (design_of p)) (entry_of m i) (entry_of r i) i _ a
          (amount_mono (entries (design_of p)) _ (far_hessian c i) (λ j b. entry i j a b))) (hessian_row fine p c f i a) f.sizes.cost_room));
    }
      where
        under : {x y t : ℕ} → x ≤ y → y ≤ t → t ≤ 2 ^ 126 → x < 2 ^ 127
        under {x} {y} {t} h k l = omega (arith, h, k, l)

        halves : (x y z w : ℤ) → x ≡ floor_of z 2 → y ≡ floor_of w 2 → unsigned_abs x + unsigned_abs y ≤ unsigned_abs z + unsigned_abs w
        halves x y z w e g = rw (e, g) (omega (arith, half-le z, half-le w))

        entry : (i j : ℕ) → i < entries (design_of p) → j < entries (design_of p) → unsigned_abs (entry_of m i j) + unsigned_abs (entry_of r i j) ≤ far_hessian c i j
        entry i j a b = halves _ _ (entry_of c.hess i j) (entry_of c.hess_rad i j) (h.entries i j (rw f.shapes.hess.rows a) (rw f.shapes.hess.rows b))
            (k.entries i j (rw f.shapes.hess_rad.rows a) (rw f.shapes.hess_rad.rows b))

    pub is_cost : (w : Matrix) → HasEntries (length m.rows) (length m.rows) (lowered (entry_of m) (λ i. size (length m.rows) (entry_of r i))) w → IsCostMatrix fine (design_of p) w
    is_cost w g = record {
      is = record {
        rows = g.rows ∙ count;
        cols = g.cols ∙ count;
        even = rw count at g.even;
        entries = entry;
      };
      row = λ i a. under (size_same (entries (design_of p)) (entry_of w i) _ (λ j b. entry i j a b))
          (lowered_size (entries (design_of p)) (held_in fine (design_of p)).half (λ i. amount (entries (design_of p)) ((held_in fine (design_of p)).half_radius i)) i) (half_row i a);
    }
      where
        count : length m.rows ≡ entries (design_of p)
        count = h.rows ∙ f.shapes.hess.rows

        under : {x y z t : ℕ} → x ≡ y → y ≤ z → z ≤ t → x ≤ t
        under {x} {y} {z} {t} e g k = omega (arith, e, g, k)

        entry : (i j : ℕ) → i < entries (design_of p) → j < entries (design_of p) →
            entry_of w i j ≡ lowered (held_in fine (design_of p)).half (λ i. amount (entries (design_of p)) ((held_in fine (design_of p)).half_radius i)) i j
        entry i j a b = g.entries i j (rw count a) (rw count b) ∙
            lowered_same (entry_of m) (held_in fine (design_of p)).half (λ i. size (length m.rows) (entry_of r i))
            (λ i. amount (entries (design_of p)) ((held_in fine (design_of p)).half_radius i)) i j (cost_entry i j a b)
            (rw count (amount_same (entries (design_of p)) (λ l. unsigned_abs (entry_of r i l)) ((held_in fine (design_of p)).half_radius i) (λ l o. cost_radius i l a o)))

-- ---- both, with their factors
-- an entry of a difference of a lowered matrix and a raised one is that of the difference, lowered by both
moved_difference : (b : Bool) (t a w : ℕ) (x y : ℤ) (u v : ℕ) {z : ℕ} → z ≡ t * a * u + w * v →
    pos t *ℤ pos a *ℤ (x -ℤ (if b then pos u else pos 0)) -ℤ pos w *ℤ (y +ℤ (if b then pos v else pos 0)) ≡
    pos t *ℤ pos a *ℤ x -ℤ pos w *ℤ y -ℤ (if b then pos z else pos 0)
moved_difference true t a w x y u v {z} e = rw e (turn (pos t) (pos a) (pos w) x y (pos u) (pos v))
  where
    turn : (t a w x y u v : ℤ) → t *ℤ a *ℤ (x -ℤ u) -ℤ w *ℤ (y +ℤ v) ≡ t *ℤ a *ℤ x -ℤ w *ℤ y -ℤ (t *ℤ a *ℤ u +ℤ w *ℤ v)
    turn t a w x y u v = by_ring (t ∷ a ∷ w ∷ x ∷ y ∷ u ∷ v ∷ []) (search quotes depth 60 fits 20000) refl
moved_difference false t a w x y u v {z} e = turn (pos t *ℤ pos a) (pos w) x y
  where
    turn : (a w x y : ℤ) → a *ℤ (x -ℤ pos 0) -ℤ w *ℤ (y +ℤ pos 0) ≡ a *ℤ x -ℤ w *ℤ y -ℤ pos 0
    turn a w x y = by_ring (a ∷ w ∷ x ∷ y ∷ []) (search quotes depth 60 fits 20000) refl

-- room
rows_room : (t l h x w r m y : ℕ) → x ≤ h → y ≤ m → t * l ^ 2 * h + w * r ^ 2 * m ≤ 2 ^ 126 → t * (l * l) * x + w * (r * r) * y < 2 ^ 127
rows_room t l h x w r m y a b k =
    let p = mul-le-mul_left (t * (l * l)) a in
    let q = mul-le-mul_left (w * (r * r)) b in
    let e : t * (l * l) * h + w * (r * r) * m ≤ 2 ^ 126 = rw (pow-two l, pow-two r) at k in
    omega (arith, p, q, e)

-- the radii of a row
radii_are : (d : Design) (weight : ℕ → ℕ) (h : HeldMatrices) (s i : ℕ) → amount (entries d) (radius_of (weighted_of d weight) h s i) ≡
    2 ^ s * (d.limit_denominator * d.limit_denominator) * amount (entries d) (h.half_radius i) +
    d.cost_denominator * (d.row_denominator * d.row_denominator) * amount (entries d) (h.products_radius i)
radii_are d weight h s i =
    rw (← (pow-two d.limit_denominator), ← (pow-two d.row_denominator)) (
    amount_add (entries d) (λ j. 2 ^ s * d.limit_denominator ^ 2 * h.half_radius i j) (λ j. d.cost_denominator * d.row_denominator ^ 2 * h.products_radius i j) ∙
    ap₂ (λ (x : ℕ) (y : ℕ). x + y) (amount_scale (entries d) (2 ^ s * d.limit_denominator ^ 2) (h.half_radius i)) (amount_scale (entries d) (d.cost_denominator * d.row_denominator ^ 2) (h.products_radius i)))

-- half the hessian, however often the rows count
half_by : (fine : Bool) (d : Design) (weight : ℕ → ℕ) (i j : ℕ) → (held_by fine d weight).half i j ≡ (held_in fine d).half i j
half_by true d weight i j = refl
half_by false d weight i j = refl

half_radius_by : (fine : Bool) (d : Design) (weight : ℕ → ℕ) (i j : ℕ) → (held_by fine d weight).half_radius i j ≡ (held_in fine d).half_radius i j
half_radius_by true d weight i j = refl
half_radius_by false d weight i j = refl

module _ (fine : Bool) (d : Design) (weight : ℕ → ℕ) (most : ℕ) (cost rows : Matrix) (x : IsCostMatrix fine d cost) (y : IsRowMatrix fine d weight most rows) where
  cost_entry_by : (i j : ℕ) → i < entries d → j < entries d → entry_of cost i j ≡ lowered (held_by fine d weight).half (λ i. amount (entries d) ((held_by fine d weight).half_radius i)) i j
  cost_entry_by i j k l = x.is.entries i j k l ∙ lowered_same (held_in fine d).half (held_by fine d weight).half (λ i. amount (entries d) ((held_in fine d).half_radius i))
      (λ i. amount (entries d) ((held_by fine d weight).half_radius i)) i j (sym (half_by fine d weight i j)) (amount_same (entries d) _ _ (λ j o. sym (half_radius_by fine d weight i j)))

  pub matrices_are : (g : StepMatrices) → g.cost ≡ cost → g.rows ≡ rows → g.cost_factor ≡ pos (d.limit_denominator * d.limit_denominator) →
      g.row_factor ≡ pos (d.cost_denominator * (d.row_denominator * d.row_denominator)) → AreMatricesOf fine d weight most g
  matrices_are g e f a b = record {
    size = rw e x.is.rows;
    same = λ s. record {
      is = λ i j k l. rw (a, b, e, f, cost_entry_by i j k l, y.is.entries i j k l) (moved_difference (nat_eq j i) (2 ^ s) (d.limit_denominator * d.limit_denominator)
          (d.cost_denominator * (d.row_denominator * d.row_denominator)) ((held_by fine d weight).half i j) ((held_by fine d weight).products i j) _ _ (radii_are d weight (held_by fine d weight) s i));
    };
    room = λ s r i l. (let t : i < entries d = rw (← x.is.rows, ← e) l in
        rw (a, b, e, f, x.is.rows) (rows_room (2 ^ s) d.limit_denominator (cost_row_in fine d) _ d.cost_denominator d.row_denominator most _ (x.row i t) (y.row i t) r));
  }

  pub matrices_sound : IsHeld (weighted_of d weight) (held_by fine d weight) → (a b : ℤ) → pos 0 ≤ℤ a → a ≤ℤ pos (2 ^ 40) → pos 0 ≤ℤ b → AreMatrices cost rows a b
  matrices_sound h a b l o q = record {
    shape = record {
      mat_cols = x.is.cols ∙ sym x.is.rows;
      root_cols = y.is.cols ∙ sym x.is.rows;
      root_rows = y.is.rows ∙ sym x.is.rows;
    };
    cost_turned = rw x.is.rows (λ i j s t. cost_entry_by i j s t ∙
        lowered_turned (entries d) (held_by fine d weight).half (λ i. amount (entries d) ((held_by fine d weight).half_radius i)) h.half_turned i j s t ∙ sym (cost_entry_by j i t s));
    rows_turned = rw x.is.rows (λ i j s t. y.is.entries i j s t ∙
        raised_turned (entries d) (held_by fine d weight).products (λ i. amount (entries d) ((held_by fine d weight).products_radius i)) h.products_turned i j s t ∙ sym (y.is.entries j i t s));
    cost_low = l;
    cost_high = o;
    row_low = q;
  }

-- ---- the factors as code makes them
pub record IsProduct (x y : ℤ) (n : ℕ) : Type 0 where
  pub fits : FitsSigned w128 (read x *ℤ read y)
  pub plain : read x *ℤ read y ≡ pos n
  pub is : read (read x *ℤ read y) ≡ pos n

product_is : (x y : ℤ) (a b : ℕ) → x ≡ pos a → y ≡ pos b → a < 2 ^ 127 → b < 2 ^ 127 → a * b < 2 ^ 127 → IsProduct x y (a * b)
product_is x y a b e f h k l = record {
  fits = rw whole (fits_signed_from_abs w128 (pos (a * b)) l);
  plain = whole;
  is = rw whole (to_z-of_z w128 (pos (a * b)) (fits_signed_from_abs w128 (pos (a * b)) l));
}
  where
    whole : read x *ℤ read y ≡ pos (a * b)
    whole = rw (e, f, to_z-of_z w128 (pos a) (fits_signed_from_abs w128 (pos a) h), to_z-of_z w128 (pos b) (fits_signed_from_abs w128 (pos b) k)) refl

pub record AreFactors (d : Design) (c : Condensed) : Type 0 where
  pub cost : IsProduct c.limit_den c.limit_den (d.limit_denominator * d.limit_denominator)
  pub scale : IsProduct c.cost_row_den c.cost_row_den (d.row_denominator * d.row_denominator)
  pub rows : IsProduct c.weight_den (read c.cost_row_den *ℤ read c.cost_row_den) (d.cost_denominator * (d.row_denominator * d.row_denominator))
  pub few : d.limit_denominator * d.limit_denominator ≤ 2 ^ 40

pub factors_of : (fine : Bool) (p : DesignParts) (c : Condensed) → IsFormIn fine p c → AreFactors (design_of p) c
factors_of fine p c f =
    let d = design_of p in
    let s = small p f.design in
    let few = (unit_small d s).0 in
    let r = mul-le-mul {n₁ = d.row_denominator} {m₁ = d.row_denominator} {n₂ = 2 ^ 20} {m₂ = 2 ^ 20} s.cost_row s.cost_row in
    let w = mul-le-mul {n₁ = d.cost_denominator} {m₁ = d.row_denominator * d.row_denominator} {n₂ = 2 ^ 20} {m₂ = 2 ^ 20 * 2 ^ 20} s.weight r in
    let scale = product_is c.cost_row_den c.cost_row_den d.row_denominator d.row_denominator f.denominators.cost_row_den f.denominators.cost_row_den
    (omega (arith, s.cost_row)) (omega (arith, s.cost_row)) (omega (arith, r)) in
    record {
      cost = product_is c.limit_den c.limit_den d.limit_denominator d.limit_denominator f.denominators.limit_den f.denominators.limit_den
          (omega (arith, s.limit)) (omega (arith, s.limit)) (omega (arith, few));
      scale = scale;
      rows = product_is c.weight_den _ d.cost_denominator (d.row_denominator * d.row_denominator) f.denominators.weight_den scale.plain
          (omega (arith, s.weight)) (omega (arith, r)) (omega (arith, w));
      few = few;
    }

-- ---- all of it
pub matrices_held : (fine : Bool) (p : DesignParts) (c : Condensed) → IsFormIn fine p c → (weight : ℕ → ℕ) (most : ℕ) (cost rows : Matrix) → IsCostMatrix fine (design_of p) cost →
    IsRowMatrix fine (design_of p) weight most rows → (a b : ℤ) → a ≡ pos ((design_of p).limit_denominator * (design_of p).limit_denominator) →
    b ≡ pos ((design_of p).cost_denominator * ((design_of p).row_denominator * (design_of p).row_denominator)) → AreMatrices cost rows a b
matrices_held fine p c f weight most cost rows x y a b e g =
    let d = design_of p in
    let h = weighted_law fine d weight (sound p f.design) (condensing d f.design.inputs.0) f.encloses in
    let few = (factors_of fine p c f).few in
    matrices_sound fine d weight most cost rows x y h a b (omega (arith, ints, e)) (omega (arith, ints, e, few)) (omega (arith, ints, g))
