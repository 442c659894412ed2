-- What the residuals of the first rows say of the first state and the first inputs.
use Rattle.std.proofs.Common.{◌≡◌, inl, inr, ℕ, ◌+◌, ◌-◌, ◌*◌, ◌^◌, ◌<◌, ◌≤◌, [], ◌∷◌, length, get_or, ℤ, pos, ◌+ℤ◌, ◌-ℤ◌, ◌*ℤ◌, ◌≤ℤ◌, ◌<ℤ◌, true, unsigned_abs, arith, ap, sym, ◌∙◌, refl}
use Rattle.std.specs.Prelude.{All}
use Rattle.std.specs.List.{range_with_len}
use Rattle.std.proofs.lemmas.Int.{ints}
use Rattle.std.proofs.lemmas.Bool.{cases_lt, lt-ltb, le-ltb, eqb-true}
use Rattle.std.proofs.lemmas.List.Elements.{All-filter, filter_passes}
use Rattle.std.proofs.lemmas.List.FromFn.{length-range_with_len, get_or-range_with_len}
use Rattle.std.proofs.lemmas.Bool.Decides.{eqb_tells}
use Rattle.std.proofs.lemmas.Nat.{mul-add-lt, div-mul-add, mod-mul-add}
use Rattle.std.proofs.Math.Nat.{pow-zero, pow-suc}
use Rattle.std.proofs.Math.IntN.{*ℤ-zero}
use Rattle.integer_algebra.specs.Sums.{dot, image, coimage}
use Rattle.integer_algebra.specs.Sizes.{size}
use Rattle.integer_algebra.proofs.OrderLaws.{le_by, mul-le-mul_left_z, cancel-le_z}
use Rattle.integer_algebra.proofs.PowerLaws.{pow_positive}
use Rattle.integer_algebra.proofs.Quoting.{by_ring, quotes}
use Rattle.integer_algebra.proofs.SizeLaws.{at_size}
use Rattle.integer_algebra.proofs.SumLaws.{total_same, total_zero}
use Rattle.integer_algebra.proofs.VectorLaws.{dot_same, dot_add_right, dot_scale, dot_scale_right, dot_image, image_same, image_scale}
use Rattle.qp_model.specs.problem.Design.{Design, LimitRow}
use Rattle.qp_model.specs.problem.Trajectory.{trajectory, lift}
use Rattle.qp_model.specs.problem.Residual.{residual, residual_scale, stage_residual, final_residual}
use Rattle.qp_model.specs.bounds.Certified.{ExceedsAtMost}
use Rattle.qp_model.proofs.RowLaws.{lift_power}
use Rattle.stay_check.specs.FirstRows.{FirstRow, row_at_start, row_at_next, next_limit, next_limits, is_on_state, limits_on_state, first_row_count, first_row}

-- what a first row has of the state xi and of the plan u over q
abbrev pub form : Design → ℤ → (xi u : ℕ → ℤ) → FirstRow → ℤ
form d q xi u r = q *ℤ dot d.states r.of_state xi +ℤ pos (2 ^ d.grid) *ℤ dot d.inputs r.of_input u

-- it is at most the row's bound and v / 2^40
abbrev pub IsBounded : Design → ℤ → (xi u : ℕ → ℤ) → ℤ → FirstRow → Type 0
IsBounded d q xi u v r =
    (pos (2 ^ 40) *ℤ form d q xi u r) ≤ℤ (q *ℤ (pos (2 ^ d.grid * d.plant_denominator) *ℤ (pos (2 ^ 40) *ℤ r.bound +ℤ pos d.limit_denominator *ℤ v)))

-- ---- the residuals of the first rows
at_stage : (d : Design) (q : ℤ) (xi u : ℕ → ℤ) (k i : ℕ) → i < d.stage_limits → k < d.stages →
    residual d q xi u (k * d.stage_limits + i) ≡ stage_residual d q xi u k (d.stage_limit i)
at_stage d q xi u k i l m =
    let n : k * d.stage_limits + i < d.stages * d.stage_limits = omega (arith, mul-add-lt k d.stage_limits i d.stages m l) in
    rw (lt-ltb (k * d.stage_limits + i) (d.stages * d.stage_limits) n, div-mul-add k d.stage_limits i l, mod-mul-add k d.stage_limits i l) refl

at_end : (d : Design) (q : ℤ) (xi u : ℕ → ℤ) (i : ℕ) → residual d q xi u (d.stages * d.stage_limits + i) ≡ final_residual d q xi u (d.final_limit i)
at_end d q xi u i =
    let e : d.stages * d.stage_limits + i - d.stages * d.stage_limits ≡ i = omega arith in
    rw (le-ltb (d.stages * d.stage_limits + i) (d.stages * d.stage_limits) (omega arith), e) refl

-- ---- the state of stage 1
one_power : (a : ℕ) → a ^ 1 ≡ a
one_power a = pow-suc a 0 ∙ rw (pow-zero a) (omega arith)

pub next_state : (d : Design) (q : ℤ) (xi u : ℕ → ℤ) (i : ℕ) →
    trajectory d q xi u 1 i ≡ q *ℤ image d.states d.plant_a xi i +ℤ pos (2 ^ d.grid) *ℤ image d.inputs d.plant_b u i
next_state d q xi u i = joined _ _ _ _ (2 ^ d.grid) (d.plant_denominator ^ 0) (image_scale d.states d.plant_a q xi i)
    (image_same d.inputs d.plant_b _ u i (λ l o. ap u (omega arith))) (pow-zero d.plant_denominator)
  where
    joined : (s t v w : ℤ) (g a : ℕ) → s ≡ t → v ≡ w → a ≡ 1 → s +ℤ pos (g * a) *ℤ v ≡ t +ℤ pos g *ℤ w
    joined s t v w g a e f h = let k : g * 1 ≡ g = omega arith in rw (e, f, h, k) refl

-- a row of it
pub on_next_state : (d : Design) (q : ℤ) (xi u y : ℕ → ℤ) →
    dot d.states y (trajectory d q xi u 1) ≡
    q *ℤ dot d.states (coimage d.states d.plant_a y) xi +ℤ pos (2 ^ d.grid) *ℤ dot d.inputs (coimage d.states d.plant_b y) u
on_next_state d q xi u y =
    dot_same d.states y _ _ (λ i l. next_state d q xi u i) ∙
    dot_add_right d.states y (λ i. q *ℤ image d.states d.plant_a xi i) (λ i. pos (2 ^ d.grid) *ℤ image d.inputs d.plant_b u i) ∙
    both _ _ _ _
    (dot_scale_right d.states q y (image d.states d.plant_a xi) ∙ ap (λ (z : ℤ). q *ℤ z) (dot_image d.states d.states d.plant_a y xi))
    (dot_scale_right d.states (pos (2 ^ d.grid)) y (image d.inputs d.plant_b u) ∙ ap (λ (z : ℤ). pos (2 ^ d.grid) *ℤ z) (dot_image d.states d.inputs d.plant_b y u))
  where
    both : (s t v w : ℤ) → s ≡ v → t ≡ w → s +ℤ t ≡ v +ℤ w
    both s t v w e f = rw (e, f) refl

-- ---- a power of the plant's denominator is left out
-- of a residual m (z - g q a b) over D g m a, where m is positive
without_power : (F m n a z g q b v D : ℤ) → pos 0 <ℤ m → n ≡ m *ℤ a → (F *ℤ (m *ℤ (z -ℤ g *ℤ q *ℤ a *ℤ b))) ≤ℤ (v *ℤ (D *ℤ g *ℤ n) *ℤ q) →
    (F *ℤ z) ≤ℤ (q *ℤ (g *ℤ a *ℤ (F *ℤ b +ℤ D *ℤ v)))
without_power F m n a z g q b v D p e h =
    cancel-le_z m _ _ p (le_by (rw e at h) (by_ring (F ∷ m ∷ a ∷ z ∷ g ∷ q ∷ b ∷ v ∷ D ∷ []) (search quotes depth 60 fits 20000) refl))

-- what a stage limit has of the state and the inputs of stage k
abbrev pub stage_form : Design → ℤ → (xi u : ℕ → ℤ) → ℕ → LimitRow → ℤ
stage_form d q xi u k r =
    dot d.states r.of_state (trajectory d q xi u k) +ℤ pos (2 ^ d.grid * d.plant_denominator ^ k) *ℤ dot d.inputs r.of_input (λ l. u (k * d.inputs + l))

-- the most that a limit leaves at stage k
abbrev pub stage_room : Design → ℤ → ℤ → ℕ → LimitRow → ℤ
stage_room d q v k r = q *ℤ (pos (2 ^ d.grid) *ℤ pos (d.plant_denominator ^ k) *ℤ (pos (2 ^ 40) *ℤ r.bound +ℤ pos d.limit_denominator *ℤ v))

stage_bound : (d : Design) (q : ℤ) (xi u : ℕ → ℤ) (v : ℤ) (k i : ℕ) → 1 ≤ d.plant_denominator → i < d.stage_limits → k < d.stages →
    ExceedsAtMost d xi q u (k * d.stage_limits + i) v → (pos (2 ^ 40) *ℤ stage_form d q xi u k (d.stage_limit i)) ≤ℤ stage_room d q v k (d.stage_limit i)
stage_bound d q xi u v k i a l m h =
    without_power (pos (2 ^ 40)) (lift d k) (pos (d.plant_denominator ^ d.stages)) (pos (d.plant_denominator ^ k)) (stage_form d q xi u k (d.stage_limit i))
    (pos (2 ^ d.grid)) q (d.stage_limit i).bound v (pos d.limit_denominator)
    (let p = pow_positive d.plant_denominator (d.stages - k) a in omega (arith, ints, p))
    (ap pos (sym (lift_power d.plant_denominator d.stages k (omega arith))))
    (rw (at_stage d q xi u k i l m) at h)

final_bound : (d : Design) (q : ℤ) (xi u : ℕ → ℤ) (v : ℤ) (i : ℕ) → ExceedsAtMost d xi q u (d.stages * d.stage_limits + i) v →
    (pos (2 ^ 40) *ℤ dot d.states (d.final_limit i).of_state (trajectory d q xi u d.stages)) ≤ℤ stage_room d q v d.stages (d.final_limit i)
final_bound d q xi u v i h =
    without_power (pos (2 ^ 40)) (pos 1) (pos (d.plant_denominator ^ d.stages)) (pos (d.plant_denominator ^ d.stages))
    (dot d.states (d.final_limit i).of_state (trajectory d q xi u d.stages))
    (pos (2 ^ d.grid)) q (d.final_limit i).bound v (pos d.limit_denominator) (omega (arith, ints)) (one _)
    (alone (pos (2 ^ 40)) (residual d q xi u (d.stages * d.stage_limits + i)) (final_residual d q xi u (d.final_limit i)) (v *ℤ pos (residual_scale d) *ℤ q) (at_end d q xi u i) h)
  where
    one : (n : ℕ) → pos n ≡ pos 1 *ℤ pos n
    one n = omega (arith, ints)

    alone : (F r z w : ℤ) → r ≡ z → (F *ℤ r) ≤ℤ w → (F *ℤ (pos 1 *ℤ z)) ≤ℤ w
    alone F r z w e h = le_by (rw e at h) (by_ring (F ∷ z ∷ w ∷ []) (search quotes depth 60 fits 20000) refl)

-- ---- the first rows
start_row : (d : Design) (q : ℤ) (xi u : ℕ → ℤ) (v : ℤ) (i : ℕ) → 1 ≤ d.plant_denominator → 1 ≤ d.stages → i < d.stage_limits →
    ExceedsAtMost d xi q u i v → IsBounded d q xi u v (row_at_start d i)
start_row d q xi u v i a n l h =
    let first : 0 * d.stage_limits + i ≡ i = omega arith in
    let own : (j : ℕ) → 0 * d.inputs + j ≡ j = λ j. omega arith in
    times_a (pos (2 ^ 40)) (2 ^ d.grid) d.plant_denominator q (d.stage_limit i).bound v (pos d.limit_denominator) _ _ _ _ _ _ _
    (dot_scale_right d.states q (d.stage_limit i).of_state xi)
    (dot_same d.inputs (d.stage_limit i).of_input _ u (λ j o. ap u (own j)))
    (dot_scale d.states (pos d.plant_denominator) (d.stage_limit i).of_state xi)
    (dot_scale d.inputs (pos d.plant_denominator) (d.stage_limit i).of_input u)
    (pow-zero d.plant_denominator)
    (stage_bound d q xi u v 0 i a l (omega arith) (rw first h))
  where
    plain : (F g a q b v D s t : ℤ) → pos 0 ≤ℤ a → (F *ℤ (q *ℤ s +ℤ g *ℤ t)) ≤ℤ (q *ℤ (g *ℤ (F *ℤ b +ℤ D *ℤ v))) →
        (F *ℤ (q *ℤ (a *ℤ s) +ℤ g *ℤ (a *ℤ t))) ≤ℤ (q *ℤ (g *ℤ a *ℤ (F *ℤ b +ℤ D *ℤ v)))
    plain F g a q b v D s t p h =
        le_by (mul-le-mul_left_z a p h) (by_ring (F ∷ g ∷ a ∷ q ∷ b ∷ v ∷ D ∷ s ∷ t ∷ []) (search quotes depth 60 fits 20000) refl)

    times_a : (F : ℤ) (g a : ℕ) (q b v D s s0 sa t t0 ta : ℤ) (a0 : ℕ) → s0 ≡ q *ℤ s → t0 ≡ t → sa ≡ pos a *ℤ s → ta ≡ pos a *ℤ t → a0 ≡ 1 →
        (F *ℤ (s0 +ℤ pos (g * a0) *ℤ t0)) ≤ℤ (q *ℤ (pos g *ℤ pos a0 *ℤ (F *ℤ b +ℤ D *ℤ v))) →
        (F *ℤ (q *ℤ sa +ℤ pos g *ℤ ta)) ≤ℤ (q *ℤ (pos (g * a) *ℤ (F *ℤ b +ℤ D *ℤ v)))
    times_a F g a q b v D s s0 sa t t0 ta a0 e f k m o h =
        let w : g * 1 ≡ g = omega arith in
        rw (k, m) (plain F (pos g) (pos a) q b v D s t (omega (arith, ints)) (rw (e, f, o, w) at h))

-- a limit on the state of stage 1
abbrev pub IsNextBounded : Design → ℤ → (xi u : ℕ → ℤ) → ℤ → LimitRow → Type 0
IsNextBounded d q xi u v r =
    (pos (2 ^ 40) *ℤ dot d.states r.of_state (trajectory d q xi u 1)) ≤ℤ
    (q *ℤ (pos (2 ^ d.grid * d.plant_denominator) *ℤ (pos (2 ^ 40) *ℤ r.bound +ℤ pos d.limit_denominator *ℤ v)))

next_stage_row : (d : Design) (q : ℤ) (xi u : ℕ → ℤ) (v : ℤ) (i : ℕ) → 1 ≤ d.plant_denominator → 1 < d.stages → i < d.stage_limits →
    size d.inputs (d.stage_limit i).of_input ≡ 0 → ExceedsAtMost d xi q u (d.stage_limits + i) v → IsNextBounded d q xi u v (d.stage_limit i)
next_stage_row d q xi u v i a n l z h =
    let row : 1 * d.stage_limits + i ≡ d.stage_limits + i = omega arith in
    alone (pos (2 ^ 40)) (2 ^ d.grid) d.plant_denominator _ q (d.stage_limit i).bound v (pos d.limit_denominator) _ _
    (total_same d.inputs _ _ (λ j o. none ((d.stage_limit i).of_input j) (u (1 * d.inputs + j)) (omega (arith, at_size j d.inputs (d.stage_limit i).of_input o, z))) ∙ total_zero d.inputs)
    (one_power d.plant_denominator)
    (stage_bound d q xi u v 1 i a l n (rw row h))
  where
    none : (x y : ℤ) → unsigned_abs x ≤ 0 → x *ℤ y ≡ pos 0
    none x y h = let e : x ≡ pos 0 = omega (arith, ints) in rw e (omega (arith, ints))

    alone : (F : ℤ) (g a a1 : ℕ) (q b v D s t : ℤ) → t ≡ pos 0 → a1 ≡ a → (F *ℤ (s +ℤ pos (g * a1) *ℤ t)) ≤ℤ (q *ℤ (pos g *ℤ pos a1 *ℤ (F *ℤ b +ℤ D *ℤ v))) →
        (F *ℤ s) ≤ℤ (q *ℤ (pos (g * a) *ℤ (F *ℤ b +ℤ D *ℤ v)))
    alone F g a a1 q b v D s t e f h =
        let w : s +ℤ pos (g * a) *ℤ pos 0 ≡ s = rw (*ℤ-zero (pos (g * a))) (omega (arith, ints)) in
        rw (f, e, w) at h

next_final_row : (d : Design) (q : ℤ) (xi u : ℕ → ℤ) (v : ℤ) (i : ℕ) → d.stages ≡ 1 → ExceedsAtMost d xi q u (d.stage_limits + i) v →
    IsNextBounded d q xi u v (d.final_limit i)
next_final_row d q xi u v i n h =
    let row : d.stages * d.stage_limits + i ≡ d.stage_limits + i = rw n (omega arith) in
    alone (pos (2 ^ 40)) (2 ^ d.grid) d.plant_denominator _ q (d.final_limit i).bound v (pos d.limit_denominator) _ _
    (ap (λ k. dot d.states (d.final_limit i).of_state (trajectory d q xi u k)) n)
    (ap (λ k. d.plant_denominator ^ k) n ∙ one_power d.plant_denominator)
    (final_bound d q xi u v i (rw row h))
  where
    alone : (F : ℤ) (g a a1 : ℕ) (q b v D s t : ℤ) → s ≡ t → a1 ≡ a → (F *ℤ s) ≤ℤ (q *ℤ (pos g *ℤ pos a1 *ℤ (F *ℤ b +ℤ D *ℤ v))) →
        (F *ℤ t) ≤ℤ (q *ℤ (pos (g * a) *ℤ (F *ℤ b +ℤ D *ℤ v)))
    alone F g a a1 q b v D s t e f h = rw (e, f) at h

-- through the plant
next_row : (d : Design) (q : ℤ) (xi u : ℕ → ℤ) (v : ℤ) (i : ℕ) → IsNextBounded d q xi u v (next_limit d i) → IsBounded d q xi u v (row_at_next d i)
next_row d q xi u v i h = rw (← on_next_state d q xi u (next_limit d i).of_state) h

-- ---- which limits these are
pub record IsOnState (d : Design) (i : ℕ) : Type 0 where
  pub inside : i < next_limits d
  pub alone : is_on_state d i ≡ true

on_next : (d : Design) (q : ℤ) (xi u : ℕ → ℤ) (v : ℤ) (i : ℕ) → 1 ≤ d.plant_denominator → 1 ≤ d.stages → IsOnState d i →
    ExceedsAtMost d xi q u (d.stage_limits + i) v → IsNextBounded d q xi u v (next_limit d i)
on_next d q xi u v i a n s h = elim (eqb_tells d.stages 1) [
  | inl e ↦ (let one = e.0 in rw one (next_final_row d q xi u v i e.1 h))
  | inr e ↦ (let more = e.0 in rw more (next_stage_row d q xi u v i a (omega (arith, e.1, n)) (rw more at s.inside) (eqb-true _ 0 (rw more at s.alone)) h))
]

range_below : (n : ℕ) → All (λ x. x < n) (range_with_len 0 n)
range_below n i x l = let m : i < n = omega (arith, length-range_with_len 0 n) in rw (get_or-range_with_len 0 n i x m) (omega arith)

pub on_state_at : (d : Design) (k : ℕ) → k < length (limits_on_state d) → IsOnState d (get_or (limits_on_state d) k 0)
on_state_at d k l = record {
  inside = All-filter (is_on_state d) (λ x. x < next_limits d) (range_with_len 0 (next_limits d)) (range_below (next_limits d)) k 0 l;
  alone = filter_passes (is_on_state d) (range_with_len 0 (next_limits d)) k 0 l;
}

-- each first row bounds what it has of the first state and inputs
pub first_bound : (d : Design) (q : ℤ) (xi u : ℕ → ℤ) (excess : ℕ → ℤ) (r : ℕ) → 1 ≤ d.plant_denominator → 1 ≤ d.stages → r < first_row_count d →
    ExceedsAtMost d xi q u (first_row d r).row (excess (first_row d r).row) → IsBounded d q xi u (excess (first_row d r).row) (first_row d r)
first_bound d q xi u excess r a n l h = elim (cases_lt r d.stage_limits) [
  | inl o ↦ (let b = lt-ltb r d.stage_limits o in rw b (start_row d q xi u (excess r) r a n o (rw b at h)))
  | inr o ↦ (let b = le-ltb r d.stage_limits o in let i = get_or (limits_on_state d) (r - d.stage_limits) 0 in
      rw b (next_row d q xi u (excess (d.stage_limits + i)) i
      (on_next d q xi u (excess (d.stage_limits + i)) i a n (on_state_at d (r - d.stage_limits) (omega (arith, o, l))) (rw b at h))))
]
