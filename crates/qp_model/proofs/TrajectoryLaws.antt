-- A trajectory is the free one plus the responses times the plan.
use Rattle.std.proofs.Common.{◌≡◌, ℕ, zero, suc, ◌+◌, ◌*◌, ◌/◌, ◌%◌, ◌^◌, ◌<◌, ◌≤◌, [], ◌∷◌, ℤ, pos, ◌+ℤ◌, ◌*ℤ◌, nat_eq, if◌then◌else◌, arith, ap, sym, ◌∙◌, refl}
use Rattle.std.proofs.lemmas.Int.{ints}
use Rattle.std.proofs.lemmas.Nat.{div-mul-add, mod-mul-add}
use Rattle.integer_algebra.specs.Sums.{total, image}
use Rattle.qp_model.specs.problem.Design.{Design}
use Rattle.qp_model.specs.problem.Trajectory.{trajectory}
use Rattle.qp_model.specs.form.Condensing.{power, response}
use Rattle.integer_algebra.proofs.RingLaws.{add_equations, mul_assoc_z, add-mul_z}
use Rattle.integer_algebra.proofs.SumLaws.{total_same, total_zero, total_add, total_scale, total_scale_right, total_swap}
use Rattle.integer_algebra.proofs.VectorLaws.{image_mix}
use Rattle.integer_algebra.proofs.BlockLaws.{choose_times, choose_total, total_blocks, total_single}
use Rattle.integer_algebra.proofs.Quoting.{by_ring, quotes}

-- what a row has of the stage's own inputs
pub own_row : (d : Design) (u : ℕ → ℤ) (k : ℕ) (b : ℕ → ℤ) → k < d.stages →
    total (d.stages * d.inputs) (λ j. (if nat_eq (j / d.inputs) k then pos (d.plant_denominator ^ k) *ℤ b (j % d.inputs) else pos 0) *ℤ u j) ≡
    pos (d.plant_denominator ^ k) *ℤ total d.inputs (λ l. b l *ℤ u (k * d.inputs + l))
own_row d u k b h =
    total_blocks d.stages d.inputs (λ j. (if nat_eq (j / d.inputs) k then pos (d.plant_denominator ^ k) *ℤ b (j % d.inputs) else pos 0) *ℤ u j) ∙
    total_same d.stages _ _ (λ m l. total_same d.inputs _ _ (λ n o. place m n o) ∙
    choose_total (nat_eq m k) d.inputs (λ n. pos (d.plant_denominator ^ k) *ℤ (b n *ℤ u (m * d.inputs + n)))) ∙
    total_single d.stages k (λ m. total d.inputs (λ n. pos (d.plant_denominator ^ k) *ℤ (b n *ℤ u (m * d.inputs + n)))) h ∙
    total_scale d.inputs (pos (d.plant_denominator ^ k)) (λ n. b n *ℤ u (k * d.inputs + n))
  where
    place : (m n : ℕ) → n < d.inputs →
        (if nat_eq ((m * d.inputs + n) / d.inputs) k then pos (d.plant_denominator ^ k) *ℤ b ((m * d.inputs + n) % d.inputs) else pos 0) *ℤ u (m * d.inputs + n) ≡
        (if nat_eq m k then pos (d.plant_denominator ^ k) *ℤ (b n *ℤ u (m * d.inputs + n)) else pos 0)
    place m n o = rw (div-mul-add m d.inputs n o, mod-mul-add m d.inputs n o)
        (choose_times (nat_eq m k) (pos (d.plant_denominator ^ k) *ℤ b n) (u (m * d.inputs + n)) ∙
        ap (λ (z : ℤ). if nat_eq m k then z else pos 0) (mul_assoc_z (pos (d.plant_denominator ^ k)) (b n) (u (m * d.inputs + n))))

own_inputs : (d : Design) (u : ℕ → ℤ) (k i : ℕ) → k < d.stages →
    total (d.stages * d.inputs) (λ j. (if nat_eq (j / d.inputs) k then pos (d.plant_denominator ^ k) *ℤ d.plant_b i (j % d.inputs) else pos 0) *ℤ u j) ≡
    pos (d.plant_denominator ^ k) *ℤ image d.inputs d.plant_b (λ l. u (k * d.inputs + l)) i
own_inputs d u k i h = own_row d u k (d.plant_b i) h

-- the responses of the next stage
next_response : (d : Design) (u : ℕ → ℤ) (k i : ℕ) → k < d.stages →
    image (d.stages * d.inputs) (response d (suc k)) u i ≡
    image d.states d.plant_a (image (d.stages * d.inputs) (response d k) u) i +ℤ
    pos (d.plant_denominator ^ k) *ℤ image d.inputs d.plant_b (λ l. u (k * d.inputs + l)) i
next_response d u k i h =
    total_same (d.stages * d.inputs) _ _ (λ j l. add-mul_z (total d.states (λ n. d.plant_a i n *ℤ response d k n j))
    (if nat_eq (j / d.inputs) k then pos (d.plant_denominator ^ k) *ℤ d.plant_b i (j % d.inputs) else pos 0) (u j)) ∙
    total_add (d.stages * d.inputs) (λ j. total d.states (λ n. d.plant_a i n *ℤ response d k n j) *ℤ u j)
    (λ j. (if nat_eq (j / d.inputs) k then pos (d.plant_denominator ^ k) *ℤ d.plant_b i (j % d.inputs) else pos 0) *ℤ u j) ∙
    add_equations earlier (own_inputs d u k i h)
  where
    earlier : total (d.stages * d.inputs) (λ j. total d.states (λ n. d.plant_a i n *ℤ response d k n j) *ℤ u j) ≡
        image d.states d.plant_a (image (d.stages * d.inputs) (response d k) u) i
    earlier =
        total_same (d.stages * d.inputs) _ _ (λ j l. sym (total_scale_right d.states (u j) (λ n. d.plant_a i n *ℤ response d k n j))) ∙
        total_swap (d.stages * d.inputs) d.states (λ j n. d.plant_a i n *ℤ response d k n j *ℤ u j) ∙
        total_same d.states _ _ (λ n l. total_same (d.stages * d.inputs) _ _ (λ j m. mul_assoc_z (d.plant_a i n) (response d k n j) (u j)) ∙
        total_scale (d.stages * d.inputs) (d.plant_a i n) (λ j. response d k n j *ℤ u j))

free_more : (d : Design) (xi : ℕ → ℤ) (k i : ℕ) → total d.states (λ j. power d (suc k) i j *ℤ xi j) ≡ image d.states d.plant_a (λ h. total d.states (λ j. power d k h j *ℤ xi j)) i
free_more d xi k i =
    total_same d.states _ _ (λ j l. sym (total_scale_right d.states (xi j) (λ h. d.plant_a i h *ℤ power d k h j))) ∙
    total_swap d.states d.states (λ j h. d.plant_a i h *ℤ power d k h j *ℤ xi j) ∙
    total_same d.states _ _ (λ h l. total_same d.states _ _ (λ j m. mul_assoc_z (d.plant_a i h) (power d k h j) (xi j)) ∙
    total_scale d.states (d.plant_a i h) (λ j. power d k h j *ℤ xi j))

free_start : (d : Design) (xi : ℕ → ℤ) (i : ℕ) → i < d.states → total d.states (λ j. power d 0 i j *ℤ xi j) ≡ xi i
free_start d xi i l = total_same d.states _ _ (λ j m. choose_times (nat_eq j i) (pos 1) (xi j) ∙ ap (λ (z : ℤ). if nat_eq j i then z else pos 0) (one (xi j))) ∙
    total_single d.states i xi l
  where
    one : (x : ℤ) → pos 1 *ℤ x ≡ x
    one x = omega (arith, ints)

-- a trajectory is the free one plus the responses times the plan
pub trajectory_is : (d : Design) (q : ℤ) (xi u : ℕ → ℤ) (k i : ℕ) → k ≤ d.stages → i < d.states →
    trajectory d q xi u k i ≡ q *ℤ total d.states (λ j. power d k i j *ℤ xi j) +ℤ pos (2 ^ d.grid) *ℤ image (d.stages * d.inputs) (response d k) u i
trajectory_is d q xi u zero i l o = start q (xi i) _ (pos (2 ^ d.grid)) (total (d.stages * d.inputs) (λ j. pos 0 *ℤ u j))
    (free_start d xi i o) (total_same (d.stages * d.inputs) _ _ (λ j m. nought (u j)) ∙ total_zero (d.stages * d.inputs))
  where
    nought : (x : ℤ) → pos 0 *ℤ x ≡ pos 0
    nought x = omega (arith, ints)

    start : (q x y g z : ℤ) → y ≡ x → z ≡ pos 0 → q *ℤ x ≡ q *ℤ y +ℤ g *ℤ z
    start q x y g z f e = rw (f, e) (omega (arith, ints))
trajectory_is d q xi u (suc k) i l o =
    next (pos (2 ^ d.grid)) (pos (d.plant_denominator ^ k)) _ _ _ _ _ _
    (total_same d.states _ _ (λ n m. ap (λ (z : ℤ). d.plant_a i n *ℤ z) (trajectory_is d q xi u k n (omega arith) m)) ∙
    image_mix d.states d.plant_a q (pos (2 ^ d.grid)) (λ h. total d.states (λ j. power d k h j *ℤ xi j)) (image (d.stages * d.inputs) (response d k) u) i)
    (free_more d xi k i)
    (next_response d u k i (omega arith))
  where
    next : (g a s f f' r w t : ℤ) → s ≡ q *ℤ f +ℤ g *ℤ r → f' ≡ f → t ≡ r +ℤ a *ℤ w → s +ℤ g *ℤ a *ℤ w ≡ q *ℤ f' +ℤ g *ℤ t
    next g a s f f' r w t e h k = numbers g a q s f f' r w t e h k
      where
        numbers : (g a q s f f' r w t : ℤ) → s ≡ q *ℤ f +ℤ g *ℤ r → f' ≡ f → t ≡ r +ℤ a *ℤ w → s +ℤ g *ℤ a *ℤ w ≡ q *ℤ f' +ℤ g *ℤ t
        numbers g a q s f f' r w t e h k = rw (e, h, k) (by_ring (g ∷ a ∷ q ∷ f ∷ r ∷ w ∷ []) (search quotes depth 60 fits 20000) refl)
