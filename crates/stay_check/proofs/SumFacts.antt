-- What a face's sums come to at most.
use Rattle.std.proofs.Common.{◌≡◌, ℕ, ◌+◌, ◌*◌, ◌<◌, ◌≤◌, ◌^◌, [], ◌∷◌, List, length, ℤ, pos, neg_ℤ, ◌+ℤ◌, ◌-ℤ◌, ◌*ℤ◌, ◌≤ℤ◌, ◌<ℤ◌, Bool, true, false, if◌then◌else◌, max, unsigned_abs, FitsSigned, to_z, arith, ap, ◌∙◌, refl, get_or}
use Rattle.std.specs.Int.{w128, int_max}
use Rattle.std.proofs.lemmas.Int.{ints, clamps, unsigned_abs-mul, to_z-of_z, fits_signed_from_abs}
use Rattle.std.proofs.lemmas.List.{get_or_default}
use Rattle.std.proofs.Math.Nat.{mul-le-mul_left, mul-le-mul_right, mul_assoc, mul-add, one-le-mul, one-le-pow}
use Rattle.integer_algebra.specs.Sums.{at}
use Rattle.integer_algebra.specs.Sizes.{amount, size}
use Rattle.integer_algebra.specs.Division.{round_of}
use Rattle.integer_algebra.proofs.DivisionLaws.{round_of_bounds}
use Rattle.integer_algebra.proofs.SizeLaws.{total_size, dot_bound, amount_term}
use Rattle.integer_algebra.proofs.AmountLaws.{amount_mono, amount_scale}
use Rattle.integer_algebra.proofs.RingLaws.{neg-mul_z}
use Rattle.integer_algebra.proofs.Quoting.{by_ring, quotes}
use Rattle.mat_int.proofs.Dots.{abs-add_le}
use Rattle.qp_model.specs.problem.Design.{Design}
use Rattle.qp_model.specs.problem.Parts.{design_of, IsDesign}
use Rattle.qp_model.specs.declared.design_parts.DesignParts.{DesignParts}
use Rattle.qp_model.specs.bounds.CornerSizes.{box_magnitude}
use Rattle.qp_model.proofs.SizeFacts.{greatest_term}
use Rattle.stay_check.specs.FirstRows.{first_row_count, first_row}
use Rattle.stay_check.specs.FaceForms.{Face, FaceNumbers, AreFacesFor, towards, weighted, state_rest, greatest_rest, row_left, left_by_rows}
use Rattle.stay_check.specs.StaySize.{coefficient_size, rest_size, left_term, left_size}
use Rattle.stay_check.specs.declared.rows.Column.TheVariants.{State}
use Rattle.stay_check.proofs.FaceFacts.{factor_at, denominator_small}
use Rattle.stay_check.proofs.RoundLaws.{round_mono}

-- ---- towards a face
pub abs_towards : (b : Bool) (z : ℤ) → unsigned_abs (if b then z else neg_ℤ z) ≡ unsigned_abs z
abs_towards true z = refl
abs_towards false z = omega (arith, ints)

pub towards_small : (b : Bool) (z r : ℤ) (most : ℕ) → r ≡ (if b then z else neg_ℤ z) → unsigned_abs z ≤ most → unsigned_abs r ≤ most
towards_small b z r most e h = rw (e, abs_towards b z) h

pub factor_is : (d : Design) (f : FaceNumbers) (e : ℕ) (x : ℤ) → AreFacesFor d f → e < 2 * d.states → x ≡ get_or f.factors e x → pos (unsigned_abs (at f.factors e)) ≡ x
factor_is d f e x for l h =
    let same = factor_at d f e x for l h in
    let p = for.factors e (pos 0) (omega (arith, for.count, l)) in
    let low = p.low in
    rw same (omega (arith, ints, low))

-- ---- the rest
rest_le_size : (d : Design) (f : Face) (j : ℕ) → unsigned_abs (state_rest d f j) ≤ coefficient_size d f (State j)
rest_le_size d f j =
    apart (towards f (pos f.factor *ℤ d.plant_a f.coordinate j)) (weighted d f (λ r. (first_row d r).of_state j)) _ _
    (rw (abs_towards f.upper (pos f.factor *ℤ d.plant_a f.coordinate j), unsigned_abs-mul (pos f.factor) (d.plant_a f.coordinate j)) (omega arith))
    (dot_bound (first_row_count d) f.weight (λ r. (first_row d r).of_state j))
  where
    apart : (x y : ℤ) (a b : ℕ) → unsigned_abs x ≤ a → unsigned_abs y ≤ b → unsigned_abs (x -ℤ y) ≤ a + b
    apart x y a b h k = omega (arith, ints, h, k)

product_le : (r x : ℤ) (c b : ℕ) → unsigned_abs r ≤ c → unsigned_abs x ≤ b → unsigned_abs (r *ℤ x) ≤ b * c
product_le r x c b h k = rw (unsigned_abs-mul r x) (omega (arith, mul-le (unsigned_abs r) c (unsigned_abs x) b h k))
  where
    mul-le : (x a y b : ℕ) → x ≤ a → y ≤ b → x * y ≤ b * a
    mul-le x a y b h k = omega (arith, mul-le-mul_left x k, mul-le-mul_left b h)

coordinate_le : (d : Design) (j : ℕ) → j < d.states → (unsigned_abs (d.low j) ≤ box_magnitude d) × (unsigned_abs (d.high j) ≤ box_magnitude d)
coordinate_le d j l =
    let t = greatest_term j d.states (λ i. max (unsigned_abs (d.low i)) (unsigned_abs (d.high i))) l in
    (omega (arith, t), omega (arith, t))

max_le : (x y : ℤ) (m : ℕ) → unsigned_abs x ≤ m → unsigned_abs y ≤ m → unsigned_abs (int_max x y) ≤ m
max_le x y m h k = omega (arith, ints, clamps, h, k)

pub coordinate_at : (xs : List ℤ) (n j : ℕ) (x : ℤ) → length xs ≡ n → j < n → x ≡ get_or xs j x → x ≡ at xs j
coordinate_at xs n j x e l h = h ∙ get_or_default xs j x (pos 0) (omega (arith, e, l))

-- its products and their sum
pub record IsRestRoom (d : Design) (f : Face) (j : ℕ) : Type 0 where
  pub low : FitsSigned w128 (state_rest d f j *ℤ d.low j)
  pub high : FitsSigned w128 (state_rest d f j *ℤ d.high j)

pub rests_size : (d : Design) (f : Face) →
    size d.states (λ j. int_max (state_rest d f j *ℤ d.low j) (state_rest d f j *ℤ d.high j)) ≤ box_magnitude d * amount d.states (λ j. coefficient_size d f (State j))
rests_size d f =
    let sum = amount_scale d.states (box_magnitude d) (λ j. coefficient_size d f (State j)) in
    let each = amount_mono d.states (λ j. unsigned_abs (int_max (state_rest d f j *ℤ d.low j) (state_rest d f j *ℤ d.high j))) (λ j. box_magnitude d * coefficient_size d f (State j))
    (λ j l. max_le (state_rest d f j *ℤ d.low j) (state_rest d f j *ℤ d.high j) _
    (product_le (state_rest d f j) (d.low j) _ _ (rest_le_size d f j) (coordinate_le d j l).0) (product_le (state_rest d f j) (d.high j) _ _ (rest_le_size d f j) (coordinate_le d j l).1)) in
    omega (arith, sum, each)

pub box_part : (d : Design) (f : Face) → rest_size d f ≤ 2 ^ 125 → box_magnitude d * amount d.states (λ j. coefficient_size d f (State j)) ≤ 2 ^ 125
box_part d f h = omega (arith, mul_assoc (2 ^ 40) (box_magnitude d) (amount d.states (λ j. coefficient_size d f (State j))), h)

pub rest_room : (d : Design) (f : Face) (j : ℕ) → j < d.states → rest_size d f ≤ 2 ^ 125 → IsRestRoom d f j
rest_room d f j l h =
    let part = box_part d f h in
    let one = mul-le-mul_left (box_magnitude d) (amount_term j d.states (λ j. coefficient_size d f (State j)) l) in
    let below = product_le (state_rest d f j) (d.low j) _ _ (rest_le_size d f j) (coordinate_le d j l).0 in
    let above = product_le (state_rest d f j) (d.high j) _ _ (rest_le_size d f j) (coordinate_le d j l).1 in
    record { low = fits_signed_from_abs w128 _ (omega (arith, part, one, below)); high = fits_signed_from_abs w128 _ (omega (arith, part, one, above)) }

-- ---- what a row leaves
pub record AreParts (w F b D v : ℤ) (t : ℕ) : Type 0 where
  pub own : unsigned_abs (w *ℤ (F *ℤ b)) ≤ t
  pub beyond : unsigned_abs (w *ℤ D *ℤ v) ≤ t
  pub sum : unsigned_abs (w *ℤ (F *ℤ b) +ℤ w *ℤ D *ℤ v) ≤ t

pub parts : (w F b D v : ℤ) → AreParts w F b D v (unsigned_abs w * (unsigned_abs F * unsigned_abs b + unsigned_abs D * unsigned_abs v))
parts w F b D v = record {
  own = omega (arith, one, split);
  beyond = omega (arith, two, split);
  sum = omega (arith, one, two, split, abs-add_le (w *ℤ (F *ℤ b)) (w *ℤ D *ℤ v));
}
  where
    one : unsigned_abs (w *ℤ (F *ℤ b)) ≡ unsigned_abs w * (unsigned_abs F * unsigned_abs b)
    one = rw (unsigned_abs-mul w (F *ℤ b), unsigned_abs-mul F b) refl

    two : unsigned_abs (w *ℤ D *ℤ v) ≡ unsigned_abs w * (unsigned_abs D * unsigned_abs v)
    two = rw (unsigned_abs-mul (w *ℤ D) v, unsigned_abs-mul w D) (mul_assoc (unsigned_abs w) (unsigned_abs D) (unsigned_abs v))

    split : unsigned_abs w * (unsigned_abs F * unsigned_abs b + unsigned_abs D * unsigned_abs v) ≡ unsigned_abs w * (unsigned_abs F * unsigned_abs b) + unsigned_abs w * (unsigned_abs D * unsigned_abs v)
    split = mul-add (unsigned_abs w) (unsigned_abs F * unsigned_abs b) (unsigned_abs D * unsigned_abs v)

pub parts_are : (w F b D v : ℤ) → w *ℤ (F *ℤ b) +ℤ w *ℤ D *ℤ v ≡ w *ℤ (F *ℤ b +ℤ D *ℤ v)
parts_are w F b D v = by_ring (w ∷ F ∷ b ∷ D ∷ v ∷ []) (search quotes depth 60 fits 20000) refl

row_le : (d : Design) (excess : ℕ → ℤ) (f : Face) (r : ℕ) → unsigned_abs (row_left d excess f r) ≤ left_term d excess f r
row_le d excess f r =
    let t = parts (f.weight r) (pos (2 ^ 40)) (first_row d r).bound (pos d.limit_denominator) (excess (first_row d r).row) in
    rw (← parts_are (f.weight r) (pos (2 ^ 40)) (first_row d r).bound (pos d.limit_denominator) (excess (first_row d r).row)) t.sum

pub rows_left_size : (d : Design) (excess : ℕ → ℤ) (f : Face) → size (first_row_count d) (row_left d excess f) ≤ left_size d excess f
rows_left_size d excess f = amount_mono (first_row_count d) _ _ (λ r l. row_le d excess f r)

-- ---- the reach
pub record AreReachParts (G L : ℤ) (s : ℕ) : Type 0 where
  pub own : unsigned_abs (pos (2 ^ 40) *ℤ G) ≤ 2 ^ 125
  pub left : unsigned_abs (pos s *ℤ L) ≤ 2 ^ 125
  pub sum : unsigned_abs (pos (2 ^ 40) *ℤ G +ℤ pos s *ℤ L) ≤ 2 ^ 125

reach_parts : (G L : ℤ) (s box most left : ℕ) → unsigned_abs G ≤ box * most → unsigned_abs L ≤ left → 2 ^ 40 * box * most + s * left ≤ 2 ^ 125 → AreReachParts G L s
reach_parts G L s box most left h k l =
    let a = unsigned_abs-mul (pos (2 ^ 40)) G in
    let b = unsigned_abs-mul (pos s) L in
    let c = mul_assoc (2 ^ 40) box most in
    let e = mul-le-mul_left s k in
    record {
      own = omega (arith, a, c, h, l);
      left = omega (arith, b, e, l);
      sum = omega (arith, abs-add_le (pos (2 ^ 40) *ℤ G) (pos s *ℤ L), a, b, c, e, h, l);
    }

pub reach_room : (d : Design) (excess : ℕ → ℤ) (f : Face) → rest_size d f + 2 ^ d.grid * d.plant_denominator * left_size d excess f ≤ 2 ^ 125 →
    AreReachParts (greatest_rest d f) (left_by_rows d excess f) (2 ^ d.grid * d.plant_denominator)
reach_room d excess f h =
    reach_parts _ _ _ (box_magnitude d) (amount d.states (λ j. coefficient_size d f (State j))) (left_size d excess f)
    (omega (arith, total_size d.states (λ j. int_max (state_rest d f j *ℤ d.low j) (state_rest d f j *ℤ d.high j)), rests_size d f))
    (omega (arith, total_size (first_row_count d) (row_left d excess f), rows_left_size d excess f)) h

pub left_room : (p : DesignParts) (excess : ℕ → ℤ) (f : Face) → IsDesign p →
    rest_size (design_of p) f + 2 ^ p.grid * unsigned_abs p.plant_den * left_size (design_of p) excess f ≤ 2 ^ 125 → left_size (design_of p) excess f ≤ 2 ^ 125
left_room p excess f d h =
    let one = one-le-mul (one-le-pow p.grid 2 (omega arith)) (denominator_small p.plant_den d.plant_den).0 in
    let more = mul-le-mul_right (left_size (design_of p) excess f) one in
    omega (arith, more, h)

-- ---- a natural that is cast
pub cast : (n m : ℕ) → n ≡ m → m ≤ 2 ^ 126 → to_z w128 n ≡ pos m
cast n m e h = bits n (omega (arith, e, h)) ∙ ap pos e
  where
    bits : (n : ℕ) → n ≤ 2 ^ 126 → to_z w128 n ≡ pos n
    bits n h = to_z-of_z w128 (pos n) (fits_signed_from_abs w128 (pos n) (omega (arith, h)))

-- ---- rounding
round_one : (z : ℤ) → round_of z 1 ≡ z
round_one z = close (round_of z 1) z (round_of_bounds z 1 (omega arith)).0 (round_of_bounds z 1 (omega arith)).1 (by_ring (round_of z 1 ∷ []) (search quotes depth 60 fits 20000) refl)
  where
    close : (r z : ℤ) → (pos 2 *ℤ (r *ℤ pos 1)) ≤ℤ (pos 2 *ℤ z +ℤ pos 1) → (pos 2 *ℤ z +ℤ pos 1) <ℤ (pos 2 *ℤ (r *ℤ pos 1) +ℤ pos 2 *ℤ pos 1) → r *ℤ pos 1 ≡ r → r ≡ z
    close r z h k e = omega (arith, ints, h, k, e)

pub round_size : (z : ℤ) (d : ℕ) → 1 ≤ d → unsigned_abs (round_of z d) ≤ unsigned_abs z
round_size z d h =
    let up = rw (round_one (pos (unsigned_abs z))) at (round_mono z (pos (unsigned_abs z)) d 1 (omega arith) (omega arith) (above z d (mul-le-mul_left (unsigned_abs z) h))) in
    let down = rw (round_one (neg_ℤ (pos (unsigned_abs z)))) at (round_mono (neg_ℤ (pos (unsigned_abs z))) z 1 d (omega arith) (omega arith) (below z d (mul-le-mul_left (unsigned_abs z) h))) in
    omega (arith, ints, up, down)
  where
    above : (z : ℤ) (d : ℕ) → unsigned_abs z * 1 ≤ unsigned_abs z * d → (z *ℤ pos 1) ≤ℤ pos (unsigned_abs z * d)
    above z d h = omega (arith, ints, h)

    below : (z : ℤ) (d : ℕ) → unsigned_abs z * 1 ≤ unsigned_abs z * d → (neg_ℤ (pos (unsigned_abs z)) *ℤ pos d) ≤ℤ (z *ℤ pos 1)
    below z d h = rw (neg-mul_z (pos (unsigned_abs z)) (pos d)) (omega (arith, ints, h))

pub added_shift : (x y s : ℤ) {n : ℕ} → x ≡ y → unsigned_abs y ≤ n → n ≤ 2 ^ 125 → unsigned_abs s < 2 ^ 31 → unsigned_abs (x +ℤ s) < 2 ^ 127
added_shift x y s e h k l = rw e (omega (arith, ints, h, k, l, abs-add_le y s))
