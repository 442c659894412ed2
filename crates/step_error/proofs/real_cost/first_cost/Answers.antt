use Rattle.std.proofs.Common.{◌≡◌, ℕ, ◌≤◌, ◌*◌, ◌^◌, Fits, true, false, unsigned_abs, rules, arith, sym, ◌∙◌}
use Rattle.std.specs.Int.{w128}
use mir.Val.{SFits}
use Rattle.std.proofs.Math.Nat.{mul-le-mul_right}
use Rattle.qp_model.proofs.SizeFacts.{positive}
use Rattle.condensed_form.specs.Form.{held}
use Rattle.step_error.specs.ErrorSums.{sums_of}
use Rattle.step_error.proofs.Ceilings.{quotient_is}
use Rattle.step_error.proofs.SumFacts.{bounded, doubled, first_room, read_size, within_of}
use Rattle.step_error.specs.Gains.{gain_at, missed_squares, missed_cost, mean_of}
use Rattle.step_error.proofs.RoomTests.{cost_without, cost_with}
use Rattle.step_error.proofs.real_cost.first_cost.Goals as goal

pub returns-then-not-has_room : goal.returns-then-not-has_room
returns-then-not-has_room c =
    let g = c.args.gains.now in
    let h = held g.c.now in
    let none : c.has_room.result ≡ false = search rules in
    cost_without h g.f (gain_at g.p_mat.now g.t.now g.w_mat.now) (mean_of h g.means) (unsigned_abs g.c.now.weight_den) c.args.times (sums_of c.args.e.now) g.state g.top _
    (sym c.has_room.ensures ∙ none) c.requires.state c.requires.top (λ i. c.args.e.now.first)

pub squares-requires-clause-small : goal.squares-requires-clause-small
squares-requires-clause-small c = under (positive _ c.args.gains.now.made.systems.weight_den) c.requires.small
  where
    under : {a b : ℕ} → 1 ≤ a → a * b ≤ 2 ^ 126 → b ≤ 2 ^ 126
    under {a} {b} h k = omega (arith, mul-le-mul_right b h, k)

pub squares-requires-clause-room : goal.squares-requires-clause-room
squares-requires-clause-room c =
    let some : c.has_room.result ≡ true = search rules in
    sym c.has_room.ensures ∙ some

pub overflow_mul-squares : goal.overflow_mul-squares
overflow_mul-squares c =
    let g = c.args.gains.now in
    let h = held g.c.now in
    let f : SFits w128 g.c.now.weight_den = search rules in
    let weight = read_size _ _ f c.unsigned_abs.ensures.value in
    close (within_of (λ i. weight i * c.squares.ensures i) c.requires.small)
  where
    close : {a : ℕ} → a ≤ 2 ^ 126 → Fits w128 a
    close {a} h = omega (arith, h)

pub overflow_mul-e : goal.overflow_mul-e
overflow_mul-e c = omega (arith, (bounded c.args.e.now c.requires.sums).weight)

pub div_ceil-requires : goal.div_ceil-requires
div_ceil-requires c = doubled _ (bounded c.args.e.now c.requires.sums).some

value : (c : goal.After-div_ceil) → let g = c.args.gains.now in
    c.args.times * c.div_ceil.result ≡ missed_cost (held g.c.now) g.f (gain_at g.p_mat.now g.t.now g.w_mat.now) (mean_of (held g.c.now) g.means)
    (unsigned_abs g.c.now.weight_den) c.args.times (sums_of c.args.e.now)
value c =
    let g = c.args.gains.now in
    let h = held g.c.now in
    let x = gain_at g.p_mat.now g.t.now g.w_mat.now in
    let s = sums_of c.args.e.now in
    let f : SFits w128 g.c.now.weight_den = search rules in
    let some : c.has_room.result ≡ true = search rules in
    let weight = read_size _ _ f c.unsigned_abs.ensures.value in
    let quotient = quotient_is _ _ _ (unsigned_abs g.c.now.weight_den * missed_squares h g.f x g.state g.top (mean_of h g.means)) (2 * s.rho)
    (doubled _ (bounded c.args.e.now c.requires.sums).some) c.div_ceil.ensures (λ i. weight i * c.squares.ensures i) (λ i. 2 * s.rho) in
    cost_with h g.f x (mean_of h g.means) (unsigned_abs g.c.now.weight_den) c.args.times s g.state g.top _ (sym c.has_room.ensures ∙ some) c.requires.state c.requires.top
    (λ i. c.args.times * quotient i)

pub overflow_mul-result : goal.overflow_mul-result
overflow_mul-result c = close (within_of (value c) c.requires.cost) (first_room (sums_of c.args.e.now) (bounded c.args.e.now c.requires.sums))
  where
    close : {a b : ℕ} → a ≤ b → b ≤ 2 ^ 126 → Fits w128 a
    close {a} {b} h k = omega (arith, h, k)

pub returns : goal.returns
returns c = value c

pub squares-requires-clause-means : goal.squares-requires-clause-means
squares-requires-clause-means c = c.requires.means
