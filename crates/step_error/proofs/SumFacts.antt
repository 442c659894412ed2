-- What the sums of a design are within.
use Rattle.std.proofs.Common.{◌≡◌, inl, inr, ℕ, ◌+◌, ◌*◌, ◌%◌, ◌^◌, ◌≤◌, Bool, true, false, ℤ, pos, ◌≤ℤ◌, ◌<ℤ◌, unsigned_abs, arith, ap, sym, ◌∙◌, subst, Option}
use Rattle.std.proofs.lemmas.Int.{ints, to_z-of_z}
use Rattle.std.proofs.Common.{to_z, of_z}
use Rattle.std.specs.Int.{w128}
use Rattle.std.specs.Option.{SomeIff}
use Rattle.std.proofs.lemmas.Bool.{cases_lt}
use mir.Val.{SFits}
use Rattle.std.proofs.lemmas.Nat.{pow-add}
use Rattle.std.proofs.Math.Nat.{mul-le-mul, mul-le-mul_left, mul-le-mul_right, one-le-mul}
use Rattle.integer_algebra.specs.Sums.{at}
use Rattle.integer_algebra.proofs.PowerLaws.{four-pow, pow_positive}
use Rattle.qp_model.specs.declared.design_parts.DesignParts.{DesignParts}
use Rattle.qp_model.specs.problem.Design.{Design, entries, rows}
use Rattle.qp_model.specs.problem.Parts.{IsDesign, design_of}
use Rattle.qp_model.specs.form.Form.{Form, IsFormFor, spread_of}
use Rattle.qp_model.specs.form.Quantities.{input_floor}
use Rattle.qp_model.specs.bounds.Errors as errors
use Rattle.qp_model.specs.bounds.Errors.{plan_bound, residual_error, radius_error, row_radii, errors_cost, error_sums_of, error_size, plan_pull, gradient_error, gradient_squares}
use Rattle.qp_model.proofs.SizeFacts.{some_row, some_entry, positive}
use Rattle.qp_model.proofs.SoundLaws.{least-met, weight_at}
use Rattle.qp_model.proofs.VersionLaws.{design_states_le, design_stages_le}
use Rattle.step_error.specs.declared.sums.ErrorSums.{ErrorSums}
use Rattle.step_error.specs.ErrorSums.{AreSums, sums_of, rounding_cost, radius_cost, radius_size, size_by, cost_size}
use Rattle.step_error.proofs.Ceilings.{ceil_small}
use Rattle.step_error.proofs.FallingLaws.{power_rises, squares_rise, plan_bound_falls, residual_error_rises, moved_rises, radius_error_rises, row_radii_rises, halves}

-- ---- the least input weight
pub floor_range : (p : DesignParts) → IsDesign p → (1 ≤ input_floor (design_of p)) × (input_floor (design_of p) ≤ 2 ^ 31)
floor_range p h =
    let m = least-met p.inputs (λ l. unsigned_abs (at p.input_weights.items l)) h.inputs.0 in
    let w = weight_at p h m.0 m.1.0 in
    close (at p.input_weights.items m.0) (input_floor (design_of p)) m.1.1 w.low w.high
  where
    close : (z : ℤ) (t : ℕ) → t ≡ unsigned_abs z → pos 1 ≤ℤ z → z <ℤ pos (2 ^ 31) → (1 ≤ t) × (t ≤ 2 ^ 31)
    close z t e l k = (omega (arith, ints), omega (arith, ints))

-- ---- what a design has few of
pub record IsFew (d : Design) : Type 0 where
  pub entries : entries d ≤ 90
  pub rows : rows d ≤ 372
  pub states : d.states ≤ 6
  pub weight : d.cost_denominator ≤ 2 ^ 20
  pub row : d.row_denominator ≤ 2 ^ 20
  pub limit : d.limit_denominator ≤ 2 ^ 20

pub few : (p : DesignParts) → IsDesign p → IsFew (design_of p)
few p h = record {
  entries = mul-le-mul (design_stages_le p h) h.inputs.1;
  rows = both _ _ _ (mul-le-mul (design_stages_le p h) h.stage_rows.rows.1) h.final_rows.rows.1;
  states = design_states_le p h;
  weight = size p.cost_den h.cost_den.low h.cost_den.high;
  row = size p.row_den h.row_den.low h.row_den.high;
  limit = size p.limit_den h.limit_den.low h.limit_den.high;
}
  where
    both : (a b k : ℕ) → a ≤ k → b ≤ 12 → a + b ≤ k + 12
    both a b k h o = omega (arith, h, o)

    size : (z : ℤ) → pos 1 ≤ℤ z → z ≤ℤ pos (2 ^ 20) → unsigned_abs z ≤ 2 ^ 20
    size z h k = omega (arith, ints)

-- ---- the sums
pub record IsBounded (s : errors.ErrorSums) : Type 0 where
  pub some : 1 ≤ s.rho
  pub weight : s.rho ≤ 2 ^ 31
  pub entries : 1 ≤ s.plan_entries
  pub scale : 1 ≤ s.weight_scale
  pub weights : s.plan_entries * s.weight_scale ≤ 2 ^ 60
  pub rows : 1 ≤ s.top_rows
  pub top : 1 ≤ s.top
  pub cost_scale : 1 ≤ s.cost_scale
  pub row_scale : 1 ≤ s.row_scale
  pub spread_some : 1 ≤ s.spread
  pub spread_few : s.spread ≤ 2
  pub room : s.spread * 2 ^ 40 * s.first + 2 ^ 40 * s.top_rows * residual_error s (plan_bound s 0) + radius_size s (plan_bound s 0) ≤ 2 ^ 126

pub through : {a b c : ℕ} → a ≤ b → b ≤ c → a ≤ c
through {a} {b} {c} h k = omega (arith, h, k)

pub doubled : (n : ℕ) → 1 ≤ n → 1 ≤ 2 * n
doubled n h = omega (arith, h)

pub few_spread : (d : Design) (h : Form) → IsFormFor d h → (1 ≤ h.spread) × (h.spread ≤ 2)
few_spread d h f = elim f.class [
  | inl c ↦ (omega (arith, c.1), omega (arith, c.1))
  | inr c ↦ (omega (arith, c.1), omega (arith, c.1))
]

-- the part by rounding, with its factor and without
less_spread : (k a f y : ℕ) → 1 ≤ k → k ≤ 2 → k * 2 ^ 40 * f + 2 ^ 40 * y ≤ k ^ 2 * (a + 2 ^ 40 * (f + y))
less_spread k a f y h l = elim (cases_lt 1 k) [
  | inl o ↦ (let e : k ≡ 2 = omega (arith, o, l) in rw e (omega arith))
  | inr o ↦ (let e : k ≡ 1 = omega (arith, o, h) in rw e (omega arith))
]

-- sums fit where the quantity `error` by them is within its limit
pub size_room : (squares pull : ℕ) (s : errors.ErrorSums) → 1 ≤ s.spread → s.spread ≤ 2 → size_by squares pull s ≤ 2 ^ 126 → cost_size s ≤ 2 ^ 126
size_room squares pull s some few room =
    let plan = plan_bound s 0 in
    close _ _ s.top_rows (residual_error s plan) (radius_size s plan)
    (less_spread s.spread (pull + s.tail + squares) s.first (s.top_rows * residual_error s plan) some few) room
  where
    close : (x t m n y : ℕ) → x + 2 ^ 40 * (m * n) ≤ t → t + y ≤ 2 ^ 126 → x + 2 ^ 40 * m * n + y ≤ 2 ^ 126
    close x t m n y h k = omega (arith, h, k)

step_room : (d : Design) (h : Form) (r : ℕ) → IsFormFor d h → error_size d h r ≤ 2 ^ 126 → cost_size (error_sums_of d h r) ≤ 2 ^ 126
step_room d h r form room =
    let spread = few_spread d h form in
    size_room (d.cost_denominator * gradient_squares d (gradient_error d h r)) (plan_pull d h r) (error_sums_of d h r) spread.0 spread.1 (turned _ _ _ _ _ _ _ room)
  where
    turned : (x a b c e f g : ℕ) → x + a + b + c + e + f + g ≤ 2 ^ 126 → x + (a + b + c + e + f + g) ≤ 2 ^ 126
    turned x a b c e f g h = omega (arith, h)

design_bounded : (p : DesignParts) (h : Form) (r first weight : ℕ) → IsDesign p → IsFormFor (design_of p) h → 1 ≤ r → 1 ≤ weight → weight ≤ 2 ^ 53 →
    cost_size (record (error_sums_of (design_of p) h r) { first = first; weight_scale = weight }) ≤ 2 ^ 126 →
    IsBounded (record (error_sums_of (design_of p) h r) { first = first; weight_scale = weight })
design_bounded p h r first weight design form some weight_some weight_few room =
    let d = design_of p in
    let floor = floor_range p design in
    let small = few p design in
    let spread = few_spread d h form in
    let row : 1 ≤ d.row_denominator = positive p.row_den design.row_den.low in
    record {
      some = floor.0;
      weight = floor.1;
      entries = some_entry p design;
      scale = weight_some;
      weights = through (mul-le-mul small.entries weight_few) (omega arith);
      rows = one-le-mul (doubled r some) (some_row p design);
      top = doubled r some;
      cost_scale = one-le-mul (positive p.cost_den design.cost_den.low) (pow_positive d.row_denominator 2 row);
      row_scale = positive p.limit_den design.limit_den.low;
      spread_some = spread.0;
      spread_few = spread.1;
      room = room;
    }

pub bounded : (e : ErrorSums) → AreSums e → IsBounded (sums_of e)
bounded e a = subst IsBounded (sym a.sums) (design_bounded a.parts a.held a.r a.first a.weight a.design a.form a.bound a.weight_some a.weight_few
    (subst (λ (s : errors.ErrorSums). cost_size s ≤ 2 ^ 126) a.sums a.room))

-- the sums of a step
pub step_sums : (e : ErrorSums) (p : DesignParts) (h : Form) (r : ℕ) → IsDesign p → IsFormFor (design_of p) h → 1 ≤ r → sums_of e ≡ error_sums_of (design_of p) h r →
    error_size (design_of p) h r ≤ 2 ^ 126 → AreSums e
step_sums e p h r design form some is room = record {
  parts = p;
  held = h;
  r = r;
  first = (error_sums_of (design_of p) h r).first;
  weight = (design_of p).cost_denominator;
  design = design;
  form = form;
  bound = some;
  weight_some = positive p.cost_den design.cost_den.low;
  weight_few = through (few p design).weight (omega arith);
  sums = is;
  room = subst (λ (s : errors.ErrorSums). cost_size s ≤ 2 ^ 126) (sym is) (step_room (design_of p) h r form room);
}

-- ---- the part by radii
pub record AreRadiusParts (s : errors.ErrorSums) (plan : ℕ) : Type 0 where
  pub by_plan : plan * s.hessian_radius ≤ 2 ^ 126
  pub by_state : s.state * s.linear_radius ≤ 2 ^ 126
  pub moved : plan * s.hessian_radius + s.state * s.linear_radius + s.constant_radius ≤ 2 ^ 126
  pub columns : s.top * s.column_radius ≤ 2 ^ 126
  pub squared : radius_error s plan ^ 2 ≤ 2 ^ 126
  pub squares : s.weight_scale * s.plan_entries * radius_error s plan ^ 2 ≤ 2 ^ 126
  pub rows_plan : plan * s.plan_radius ≤ 2 ^ 126
  pub rows_state : s.state * s.state_radius ≤ 2 ^ 126
  pub rows_moved : row_radii s plan ≤ 2 ^ 126
  pub rows : s.top * row_radii s plan ≤ 2 ^ 126

-- the six terms
record SixParts (w a b c e f : ℕ) : Type 0 where
  pub squares : w ≤ 2 ^ 126
  pub plan : a ≤ 2 ^ 126
  pub state : b ≤ 2 ^ 126
  pub moved : a + b + c ≤ 2 ^ 126
  pub columns : e ≤ 2 ^ 126
  pub rows : f ≤ 2 ^ 126

pub radius_parts : (s : errors.ErrorSums) (plan : ℕ) → 1 ≤ s.weight_scale → 1 ≤ s.plan_entries → 1 ≤ s.top → radius_size s plan ≤ 2 ^ 126 → AreRadiusParts s plan
radius_parts s plan weight entries top h =
    let parts = apart (s.weight_scale * s.plan_entries * radius_error s plan ^ 2) (plan * s.hessian_radius) (s.state * s.linear_radius) s.constant_radius
    (s.top * s.column_radius) (s.top * row_radii s plan) h in
    let rows = factor top parts.rows in
    let moved = both (plan * s.plan_radius) (s.state * s.state_radius) rows in
    record {
      by_plan = parts.plan;
      by_state = parts.state;
      moved = parts.moved;
      columns = parts.columns;
      squared = factor (one-le-mul weight entries) parts.squares;
      squares = parts.squares;
      rows_plan = moved.0;
      rows_state = moved.1;
      rows_moved = rows;
      rows = parts.rows;
    }
  where
    apart : (w a b c e f : ℕ) → w + a + b + c + e + f ≤ 2 ^ 126 → SixParts w a b c e f
    apart w a b c e f h = record {
      squares = omega (arith, h);
      plan = omega (arith, h);
      state = omega (arith, h);
      moved = omega (arith, h);
      columns = omega (arith, h);
      rows = omega (arith, h);
    }

    factor : {a b : ℕ} → 1 ≤ a → a * b ≤ 2 ^ 126 → b ≤ 2 ^ 126
    factor {a} {b} h k = omega (arith, k, mul-le-mul_right b h)

    both : (a b : ℕ) → a + b ≤ 2 ^ 126 → (a ≤ 2 ^ 126) × (b ≤ 2 ^ 126)
    both a b h = (omega (arith, h), omega (arith, h))

radius_size_rises : (s : errors.ErrorSums) (a b : ℕ) → a ≤ b → radius_size s a ≤ radius_size s b
radius_size_rises s a b h =
    close _ _ _ _ _ (mul-le-mul_left (s.weight_scale * s.plan_entries) (squares_rise (radius_error_rises s a b h))) (moved_rises s a b h)
    (mul-le-mul_left s.top (row_radii_rises s a b h))
  where
    close : {w v r t : ℕ} (a b c x e : ℕ) → w ≤ v → a + b + c ≤ x + b + c → r ≤ t → w + a + b + c + e + r ≤ v + x + b + c + e + t
    close {w} {v} {r} {t} a b c x e h k l = omega (arith, h, k, l)

-- ---- at a bound on the plan's entries
pub record HasRoomAt (s : errors.ErrorSums) (first plan : ℕ) : Type 0 where
  pub gradient : s.spread * 2 ^ 40 * first ≤ 2 ^ 126
  pub rows : 2 ^ 40 * s.top_rows * residual_error s plan ≤ 2 ^ 126
  pub residual : residual_error s plan ≤ 2 ^ 86
  pub radii : AreRadiusParts s plan
  pub cost : (f : ℕ) → errors_cost s first plan f ≤ 2 ^ 126

pub room_at : (s : errors.ErrorSums) (first plan : ℕ) → IsBounded s → first ≤ s.first → plan ≤ plan_bound s 0 → HasRoomAt s first plan
room_at s first plan b h k =
    let gradient = mul-le-mul_left (s.spread * 2 ^ 40) h in
    let rows = mul-le-mul_left (2 ^ 40 * s.top_rows) (residual_error_rises s plan (plan_bound s 0) k) in
    let all = together gradient rows (radius_size_rises s plan (plan_bound s 0) k) b.room in
    let radius = last _ _ _ all in
    record {
      gradient = first_of _ _ _ all;
      rows = second_of _ _ _ all;
      residual = factor s.top_rows (residual_error s plan) b.rows (second_of _ _ _ all);
      radii = radius_parts s plan b.scale b.entries b.top radius;
      cost = λ f. rw (halves s first plan f) (costs s first plan f b all);
    }
  where
    together : {a b c x y z : ℕ} → a ≤ x → b ≤ y → c ≤ z → x + y + z ≤ 2 ^ 126 → a + b + c ≤ 2 ^ 126
    together {a} {b} {c} {x} {y} {z} h k l o = omega (arith, h, k, l, o)

    first_of : (a b c : ℕ) → a + b + c ≤ 2 ^ 126 → a ≤ 2 ^ 126
    first_of a b c h = omega (arith, h)

    second_of : (a b c : ℕ) → a + b + c ≤ 2 ^ 126 → b ≤ 2 ^ 126
    second_of a b c h = omega (arith, h)

    last : (a b c : ℕ) → a + b + c ≤ 2 ^ 126 → c ≤ 2 ^ 126
    last a b c h = omega (arith, h)

    factor : (m x : ℕ) → 1 ≤ m → 2 ^ 40 * m * x ≤ 2 ^ 126 → x ≤ 2 ^ 86
    factor m x h k = omega (arith, k, mul-le-mul_right x h)

    -- each quotient is at most what it divides
    costs : (s : errors.ErrorSums) (first plan f : ℕ) → IsBounded s → s.spread * 2 ^ 40 * first + 2 ^ 40 * s.top_rows * residual_error s plan + radius_size s plan ≤ 2 ^ 126 →
        rounding_cost s first plan f + radius_cost s plan ≤ 2 ^ 126
    costs s first plan f b all = close _ _ _ _ _ _ s.weight_scale s.plan_entries (radius_error s plan ^ 2) (plan * s.hessian_radius) (s.state * s.linear_radius) s.constant_radius (s.top * s.column_radius) _
        (ceil_small (s.spread * 2 ^ 40 * first) (4 ^ f) (pow_positive 4 f (omega arith)))
        (ceil_small (2 ^ 40 * s.top_rows * residual_error s plan) (2 ^ (f + 1)) (pow_positive 2 (f + 1) (omega arith)))
        (ceil_small (s.plan_entries * s.weight_scale * radius_error s plan ^ 2) (2 ^ 40 * s.rho) (one-le-mul (pow_positive 2 40 (omega arith)) b.some))
        (ceil_small (s.top * row_radii s plan) s.row_scale b.row_scale) all
      where
        close : (a b c d x y w n q i j k l t : ℕ) → a ≤ x → b ≤ y → c ≤ n * w * q → d ≤ t → x + y + (w * n * q + i + j + k + l + t) ≤ 2 ^ 126 → a + b + (c + d) ≤ 2 ^ 126
        close a b c d x y w n q i j k l t h o p g z = omega (arith, h, o, p, g, z)

pub first_room : (s : errors.ErrorSums) → IsBounded s → s.first ≤ 2 ^ 126
first_room s b = factor s.spread s.first b.spread_some (room_at s s.first 0 b (omega arith) (omega arith)).gradient
  where
    factor : (k f : ℕ) → 1 ≤ k → k * 2 ^ 40 * f ≤ 2 ^ 126 → f ≤ 2 ^ 126
    factor k f h l = omega (arith, l, mul-le-mul_right f h)

pub plan_small : (s : errors.ErrorSums) (f : ℕ) → IsBounded s → (plan_bound s f ≤ plan_bound s 0) × (plan_bound s f ≤ 2 ^ 86)
plan_small s f b =
    let falls = plan_bound_falls s 0 f b.some (omega arith) in
    let residual = (room_at s 0 (plan_bound s f) b (omega arith) falls).residual in
    (falls, factor s.plan_entries (plan_bound s f) s.box_states b.entries residual)
  where
    factor : (m x b : ℕ) → 1 ≤ m → m * x + b + 3 ≤ 2 ^ 86 → x ≤ 2 ^ 86
    factor m x b h k = omega (arith, k, mul-le-mul_right x h)

pub radii_at : (e : ErrorSums) (plan : ℕ) → AreSums e → plan ≤ plan_bound (sums_of e) 0 → AreRadiusParts (sums_of e) plan
radii_at e plan a h = (room_at (sums_of e) 0 plan (bounded e a) (omega arith) h).radii

pub within_of : {a b t : ℕ} → a ≡ b → b ≤ t → a ≤ t
within_of {a} {b} {t} e h = omega (arith, e, h)

-- ---- shifts of the code
pub shifted : (k n : ℕ) → k ≤ n → n ≤ 127 → 1 * 2 ^ k % 2 ^ 128 ≡ 2 ^ k
shifted k n h l = let p = power_rises 2 k 127 (omega arith) (omega (arith, h, l)) in omega (arith, p)

pub power_small : (k n : ℕ) → k ≤ n → 2 ^ k ≤ 2 ^ n
power_small k n h = power_rises 2 k n (omega arith) h

-- ---- absolute values that the code reads
pub read_size : (z : ℤ) (n : ℕ) → SFits w128 z → n ≡ unsigned_abs (to_z w128 (of_z w128 z)) → n ≡ unsigned_abs z
read_size z n f e = e ∙ ap unsigned_abs (to_z-of_z w128 z f)

pub four_is : (f : ℕ) → 2 ^ (2 * f) ≡ 4 ^ f
four_is f = let e : 2 * f ≡ f + f = omega arith in rw e (pow-add 2 f f ∙ sym (four-pow f))

-- ---- the quantity `error`, by what the code computes
-- at a number that is equal
pub kept : (o : Option ℕ) {a b : ℕ} → a ≡ b → SomeIff o (a ≤ 2 ^ 126) a → SomeIff o (b ≤ 2 ^ 126) b
kept o e h = subst (λ n. SomeIff o (n ≤ 2 ^ 126) n) e h

-- what the part by rounding holds
pub record AreRoundingParts (parts first top plan box : ℕ) : Type 0 where
  pub plans : plan ≤ 2 ^ 126
  pub residuals : top * (plan + box + 3) ≤ 2 ^ 126
  pub errors : 2 ^ 40 * (first + top * (plan + box + 3)) ≤ 2 ^ 126
  pub sum : parts + 2 ^ 40 * (first + top * (plan + box + 3)) ≤ 2 ^ 126

pub rounding_parts : (k parts first top plan box : ℕ) → 1 ≤ k → 1 ≤ top → k ^ 2 * (parts + 2 ^ 40 * (first + top * (plan + box + 3))) ≤ 2 ^ 126 →
    AreRoundingParts parts first top plan box
rounding_parts k parts first top plan box some rows h =
    let sum = factor (pow_positive k 2 some) h in
    let errors = second_of parts _ sum in
    let residuals = inner first _ errors in
    record {
      plans = innermost plan box (factor rows residuals);
      residuals = residuals;
      errors = errors;
      sum = sum;
    }
  where
    factor : {a b : ℕ} → 1 ≤ a → a * b ≤ 2 ^ 126 → b ≤ 2 ^ 126
    factor {a} {b} h k = omega (arith, k, mul-le-mul_right b h)

    second_of : (a b : ℕ) → a + b ≤ 2 ^ 126 → b ≤ 2 ^ 126
    second_of a b h = omega (arith, h)

    inner : (a b : ℕ) → 2 ^ 40 * (a + b) ≤ 2 ^ 126 → b ≤ 2 ^ 126
    inner a b h = omega (arith, h)

    innermost : (a b : ℕ) → a + b + 3 ≤ 2 ^ 126 → a ≤ 2 ^ 126
    innermost a b h = omega (arith, h)

pub spread_range : (fine : Bool) → (1 ≤ spread_of fine) × (spread_of fine ≤ 2)
spread_range true = (omega arith, omega arith)
spread_range false = (omega arith, omega arith)
