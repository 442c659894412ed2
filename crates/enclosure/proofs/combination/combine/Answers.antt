use Rattle.std.proofs.Common.{◌≡◌, ℕ, ◌+◌, ◌*◌, ◌<◌, ℤ, unsigned_abs, rules, arith, refl, ap, ap₂, sym, ◌∙◌, FitsSigned, length}
use Rattle.std.specs.Int.{w128}
use Rattle.std.proofs.lemmas.Int.{ints, to_z-of_z}
use Rattle.integer_algebra.specs.Sums.{at}
use Rattle.frac_scaled.specs.Enclosures.{Enclosure, sum_of, multiple, divided}
use Rattle.mat_int.specs.Enclosures.{combined}
use Rattle.enclosure.specs.Values.{pair, pair_at}
use Rattle.enclosure.proofs.RoomLaws.{limit_is}
use Rattle.enclosure.proofs.SumLaws.{combination_more, combination_reach_is, pair_at_is, radius_nonneg, step_refused, term_reach}
use Rattle.integer_algebra.proofs.SizeLaws.{amount_more}
use Rattle.std.proofs.Common.{subst}
use Rattle.mat_int.proofs.EnclosureLaws.{combined_law}
use Rattle.enclosure.specs.Laws.{EnclosesCombination}
use Rattle.enclosure.proofs.RoomLaws.{divisor_is}
use Rattle.enclosure.proofs.combination.combine.Goals as goal

pub returns-in_err-multiple-clause-room : goal.returns-in_err-multiple-clause-room
returns-in_err-multiple-clause-room c =
    let coeffs = c.args.coeffs.now in
    let xs = c.args.xs.now in
    let i = c.loop-i.i in
    let inside : i < length xs = c.loop-i-test.true in
    let coeff : FitsSigned w128 (at coeffs i) = search rules in
    let x : pair c.index-xs-i.result ≡ pair_at xs i = ap pair c.index-xs-i.is ∙ sym (pair_at_is xs i c.index-xs-i.result inside) in
    let none = rw (to_z-of_z w128 _ coeff, ap (λ (e : Enclosure). e.mid) x, ap (λ (e : Enclosure). e.rad) x) at c.in_err-multiple.ensures.room.1 in
    step_refused c.from_residual.result (length xs) i _ (λ k. unsigned_abs (at coeffs k) * (unsigned_abs (pair_at xs k).mid + unsigned_abs (pair_at xs k).rad)) _ c.from_residual.ensures
    (combination_reach_is (length xs) (at coeffs) (pair_at xs) (radius_nonneg xs)) inside (omega arith) (λ h. let no = none h in cc)

pub returns-in_err-sum-clause-room : goal.returns-in_err-sum-clause-room
returns-in_err-sum-clause-room c =
    let coeffs = c.args.coeffs.now in
    let xs = c.args.xs.now in
    let i = c.loop-i.i in
    let inside : i < length xs = c.loop-i-test.true in
    let coeff : FitsSigned w128 (at coeffs i) = search rules in
    let x : pair c.index-xs-i.result ≡ pair_at xs i = ap pair c.index-xs-i.is ∙ sym (pair_at_is xs i c.index-xs-i.result inside) in
    let term = c.in_ok-multiple.ensures.value ∙ ap₂ (λ (z : ℤ) (e : Enclosure). multiple z e) (to_z-of_z w128 _ coeff) x in
    let far = term_reach (pair c.in_ok-multiple.field-0) (pair_at xs i) (at coeffs i) (radius_nonneg xs i inside) term in
    step_refused c.from_residual-in_err-sum.result (length xs) i _ (λ k. unsigned_abs (at coeffs k) * (unsigned_abs (pair_at xs k).mid + unsigned_abs (pair_at xs k).rad)) _ c.from_residual-in_err-sum.ensures
    (combination_reach_is (length xs) (at coeffs) (pair_at xs) (radius_nonneg xs)) inside (omega (arith, far, c.loop-i.invariant.magnitude))
    (λ h. let no = c.in_err-sum.ensures.room.1 h in cc)

pub loop-i-preserved : goal.loop-i-preserved
loop-i-preserved c =
    let coeffs = c.args.coeffs.now in
    let xs = c.args.xs.now in
    let i = c.loop-i.i in
    let inside : i < length xs = c.loop-i-test.true in
    let coeff : FitsSigned w128 (at coeffs i) = search rules in
    let x : pair c.index-xs-i.result ≡ pair_at xs i = ap pair c.index-xs-i.is ∙ sym (pair_at_is xs i c.index-xs-i.result inside) in
    let term = c.in_ok-multiple.ensures.value ∙ ap₂ (λ (z : ℤ) (e : Enclosure). multiple z e) (to_z-of_z w128 _ coeff) x in
    let far = term_reach (pair c.in_ok-multiple.field-0) (pair_at xs i) (at coeffs i) (radius_nonneg xs i inside) term in
    record {
      value = c.in_ok-sum.ensures.value ∙ ap₂ (λ (a b : Enclosure). sum_of a b) c.loop-i.invariant.value term ∙ sym (combination_more i (at coeffs) (pair_at xs));
      magnitude = omega (arith, c.in_ok-sum.ensures.magnitude, far, c.loop-i.invariant.magnitude, amount_more i (λ k. unsigned_abs (at coeffs k) * (unsigned_abs (pair_at xs k).mid + unsigned_abs (pair_at xs k).rad)));
    }

pub returns-clause-value : goal.returns-clause-value
returns-clause-value c =
    let end : c.loop-i.i ≡ length c.args.xs.now = omega (arith, c.loop-i-test.false, c.loop-i.auto.i-end) in
    c.divided.ensures ∙
    ap₂ (λ (e : Enclosure) (d : ℤ). divided e (unsigned_abs d)) c.loop-i.invariant.value (to_z-of_z w128 _ c.ranges.den) ∙
    ap (λ (n : ℕ). combined n (at c.args.coeffs.now) (pair_at c.args.xs.now) (unsigned_abs c.args.den)) end

pub returns-clause-room : goal.returns-clause-room
returns-clause-room c =
    let xs = c.args.xs.now in
    let end : c.loop-i.i ≡ length xs = omega (arith, c.loop-i-test.false, c.loop-i.auto.i-end) in
    let most = rw (c.loop-i.invariant.magnitude, end) at c.loop-i.sum.limited in
    (λ h. (limit_is _ _ (combination_reach_is (length xs) (at c.args.coeffs.now) (pair_at xs) (radius_nonneg xs))).0 most, λ h. refl)

pub returns-clause-encloses : goal.returns-clause-encloses
returns-clause-encloses c =
    let n = length c.args.xs.now in
    let coeffs = at c.args.coeffs.now in
    let xs = pair_at c.args.xs.now in
    subst (λ (e : Enclosure). EnclosesCombination n coeffs xs c.args.den e) (sym (returns-clause-value c))
    (subst (λ (d : ℤ). EnclosesCombination n coeffs xs d (combined n coeffs xs (unsigned_abs c.args.den))) (divisor_is c.args.den c.requires.divisor)
    (combined_law n coeffs xs (unsigned_abs c.args.den) (omega (arith, ints, c.requires.divisor))))

pub divided-requires-clause-divisor : goal.divided-requires-clause-divisor
divided-requires-clause-divisor c = rw (to_z-of_z w128 _ c.ranges.den) c.requires.divisor
