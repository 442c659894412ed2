use Rattle.std.proofs.Common.{◌≡◌, ℕ, ◌+◌, ◌*◌, ◌<◌, ◌≤ℤ◌, ℤ, pos, unsigned_abs, rules, arith, refl, ap, ap₂, sym, ◌∙◌, FitsSigned, length}
use Rattle.std.specs.Int.{w128}
use Rattle.std.proofs.lemmas.Int.{ints, to_z-of_z, to_z_pos}
use Rattle.integer_algebra.specs.Sums.{at}
use Rattle.integer_algebra.proofs.SizeLaws.{amount_more}
use Rattle.frac_scaled.specs.Enclosures.{Enclosure, sum_of, multiple, whole_product}
use Rattle.mat_int.specs.Enclosures.{enclosure_at, gram_magnitude}
use Rattle.enclosure.specs.Values.{pair}
use Rattle.enclosure.proofs.RoomLaws.{limit_is}
use Rattle.enclosure.proofs.SumLaws.{combination_size, combination_more, step_refused, term_reach}
use Rattle.enclosure.proofs.GramLaws.{product_reach, product_nonneg, gram_reach_is}
use Rattle.enclosure.proofs.matrix.gram_entry.Goals as goal
use Rattle.enclosure.proofs.matrix.gram_entry.Goals.{Start, In_ok-weighted_product}

-- the radii of both columns
radii : (c : Start) → (i : ℕ) → i < length c.args.weights.now →
    (pos 0 ≤ℤ (enclosure_at c.args.x.now.mid c.args.x.now.rad i c.args.j).rad) × (pos 0 ≤ℤ (enclosure_at c.args.x.now.mid c.args.x.now.rad i c.args.l).rad)
radii c = λ i p.
    let sound = c.args.x.now.sound in
    (sound.nonnegative i c.args.j (omega (arith, c.requires.shape)) c.requires.row, sound.nonnegative i c.args.l (omega (arith, c.requires.shape)) c.requires.col)

-- what the whole sum reaches
whole : (c : Start) → gram_magnitude (length c.args.weights.now) (at c.args.weights.now) (enclosure_at c.args.x.now.mid c.args.x.now.rad) c.args.j c.args.l ≡
    pos (combination_size (length c.args.weights.now) (at c.args.weights.now)
    (λ i. whole_product (enclosure_at c.args.x.now.mid c.args.x.now.rad i c.args.j) (enclosure_at c.args.x.now.mid c.args.x.now.rad i c.args.l)))
whole c = gram_reach_is (length c.args.weights.now) (at c.args.weights.now) (enclosure_at c.args.x.now.mid c.args.x.now.rad) c.args.j c.args.l (λ i p. c.requires.signs i (pos 0) p) (radii c)

-- a turn's term, and what it reaches
record IsTerm (e p : Enclosure) (w : ℤ) : Type 0 where
  pub value : e ≡ multiple w p
  pub reach : unsigned_abs e.mid + unsigned_abs e.rad ≡ unsigned_abs w * (unsigned_abs p.mid + unsigned_abs p.rad)

term : (c : In_ok-weighted_product) → IsTerm (pair c.in_ok-weighted_product.field-0)
    (whole_product (enclosure_at c.args.x.now.mid c.args.x.now.rad c.loop-i.i c.args.j) (enclosure_at c.args.x.now.mid c.args.x.now.rad c.loop-i.i c.args.l)) (at c.args.weights.now c.loop-i.i)
term c =
    let x = enclosure_at c.args.x.now.mid c.args.x.now.rad in
    let i = c.loop-i.i in
    let weight : FitsSigned w128 (at c.args.weights.now i) = search rules in
    let sound = c.args.x.now.sound in
    let inside : i < length c.args.x.now.mid.rows = omega (arith, c.requires.shape, c.loop-i-test.true) in
    let value = c.in_ok-weighted_product.ensures.value ∙ ap₂ (λ (z : ℤ) (e : Enclosure). multiple z e) (to_z-of_z w128 _ weight)
    (ap₂ (λ (a b : Enclosure). whole_product a b) c.at.ensures c.at-in-loop-i.ensures) in
    let positive = product_nonneg (x i c.args.j) (x i c.args.l) (sound.nonnegative i c.args.j inside c.requires.row) (sound.nonnegative i c.args.l inside c.requires.col) in
    record { value = value; reach = term_reach (pair c.in_ok-weighted_product.field-0) (whole_product (x i c.args.j) (x i c.args.l)) (at c.args.weights.now i) positive value }

pub returns-in_err-weighted_product-clause-room : goal.returns-in_err-weighted_product-clause-room
returns-in_err-weighted_product-clause-room c =
    let weights = c.args.weights.now in
    let x = enclosure_at c.args.x.now.mid c.args.x.now.rad in
    let i = c.loop-i.i in
    let start = (goal.at.returns-in_err-weighted_product-clause-room c).Start in
    let weight : FitsSigned w128 (at weights i) = search rules in
    let sound = radii start i c.loop-i-test.true in
    let far = product_reach (x i c.args.j) (x i c.args.l) sound.0 sound.1 in
    let terms = λ (k : ℕ). unsigned_abs (at weights k) * (unsigned_abs (whole_product (x k c.args.j) (x k c.args.l)).mid + unsigned_abs (whole_product (x k c.args.j) (x k c.args.l)).rad) in
    let none = rw (
      to_z-of_z w128 _ weight,
      ap (λ (e : Enclosure). e.mid) c.at.ensures,
      ap (λ (e : Enclosure). e.rad) c.at.ensures,
      ap (λ (e : Enclosure). e.mid) c.at-in-loop-i.ensures,
      ap (λ (e : Enclosure). e.rad) c.at-in-loop-i.ensures,
    ) at c.in_err-weighted_product.ensures.room.1 in
    step_refused c.from_residual.result (length weights) i _ terms _ c.from_residual.ensures (whole start) c.loop-i-test.true
    (omega (arith, ap (λ (k : ℕ). unsigned_abs (at weights i) * k) far)) (λ h. let no = none h in cc)

pub returns-in_err-sum-clause-room : goal.returns-in_err-sum-clause-room
returns-in_err-sum-clause-room c =
    let weights = c.args.weights.now in
    let x = enclosure_at c.args.x.now.mid c.args.x.now.rad in
    let t = goal.at.returns-in_err-sum-clause-room c in
    let terms = λ (k : ℕ). unsigned_abs (at weights k) * (unsigned_abs (whole_product (x k c.args.j) (x k c.args.l)).mid + unsigned_abs (whole_product (x k c.args.j) (x k c.args.l)).rad) in
    step_refused c.from_residual-in_err-sum.result (length weights) c.loop-i.i _ terms _ c.from_residual-in_err-sum.ensures (whole t.Start) c.loop-i-test.true
    (omega (arith, (term t.In_ok-weighted_product).reach, c.loop-i.invariant.magnitude)) (λ h. let no = c.in_err-sum.ensures.room.1 h in cc)

pub loop-i-preserved : goal.loop-i-preserved
loop-i-preserved c =
    let weights = c.args.weights.now in
    let x = enclosure_at c.args.x.now.mid c.args.x.now.rad in
    let i = c.loop-i.i in
    let is = term (goal.at.loop-i-preserved c).In_ok-weighted_product in
    let terms = λ (k : ℕ). unsigned_abs (at weights k) * (unsigned_abs (whole_product (x k c.args.j) (x k c.args.l)).mid + unsigned_abs (whole_product (x k c.args.j) (x k c.args.l)).rad) in
    record {
      value = c.in_ok-sum.ensures.value ∙ ap₂ (λ (a b : Enclosure). sum_of a b) c.loop-i.invariant.value is.value ∙
          sym (combination_more i (at weights) (λ k. whole_product (x k c.args.j) (x k c.args.l)));
      magnitude = omega (arith, c.in_ok-sum.ensures.magnitude, is.reach, c.loop-i.invariant.magnitude, amount_more i terms);
    }

pub returns-clause-room : goal.returns-clause-room
returns-clause-room c =
    let end : c.loop-i.i ≡ length c.args.weights.now = omega (arith, c.loop-i-test.false, c.loop-i.auto.i-end) in
    let most = rw (c.loop-i.invariant.magnitude, end) at c.loop-i.sum.limited in
    (λ h. (limit_is _ _ (whole (goal.at.returns-clause-room c).Start)).0 most, λ h. refl)

pub at-requires-clause-row_in : goal.at-requires-clause-row_in
at-requires-clause-row_in c = omega (arith, c.requires.shape, c.loop-i-test.true)

pub at-requires-clause-col_in : goal.at-requires-clause-col_in
at-requires-clause-col_in c = c.requires.row

pub at-requires-in-loop-i-clause-row_in : goal.at-requires-in-loop-i-clause-row_in
at-requires-in-loop-i-clause-row_in c = omega (arith, c.requires.shape, c.loop-i-test.true)

pub at-requires-in-loop-i-clause-col_in : goal.at-requires-in-loop-i-clause-col_in
at-requires-in-loop-i-clause-col_in c = c.requires.col

pub returns-in_err-weighted_product-clause-value : goal.returns-in_err-weighted_product-clause-value
returns-in_err-weighted_product-clause-value c = rw c.from_residual.ensures tt

pub returns-in_err-sum-clause-value : goal.returns-in_err-sum-clause-value
returns-in_err-sum-clause-value c = rw c.from_residual-in_err-sum.ensures tt

pub divided-requires-clause-divisor : goal.divided-requires-clause-divisor
divided-requires-clause-divisor c = rw (to_z_pos w128 c.args.den (omega (arith, c.requires.small))) (omega (arith, ints, c.requires.some))

pub overflow_cast-den : goal.overflow_cast-den
overflow_cast-den c = omega (arith, c.requires.small)
