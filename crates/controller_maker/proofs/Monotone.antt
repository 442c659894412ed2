-- Numbers whose gains are not larger have no larger absolute sums, for either machine.
use Rattle.std.proofs.Common.{◌≡◌, ℕ, zero, suc, ◌+◌, ◌*◌, ◌^◌, ◌<◌, ◌≤◌, max, ℤ, List, [], ◌∷◌, length, get_or, map, unsigned_abs, arith, refl, sym, ◌∙◌, le_refl}
use Rattle.std.specs.List.{range_with_len}
use Rattle.std.proofs.lemmas.List.FromFn.{get_or-map-range_with_len, length-map-range_with_len}
use Rattle.std.proofs.lemmas.Nat.{mul-le, pow_pos}
use Rattle.integer_algebra.specs.Division.{ceil_div}
use Rattle.integer_algebra.specs.Sums.{at}
use Rattle.mat_int.specs.Matrix.{row_of}
use Rattle.qp_model.specs.machine.Controller.{Numbers}
use Rattle.qp_model.specs.machine.AbsoluteSums.{weighted_abs_sum, state_magnitudes, clamp_magnitudes, entry_absolute_sum, plan_magnitudes, row_absolute_sum, greatest_of}
use Rattle.qp_model.proofs.AbsoluteLaws.{ceil_div_mono}
use Rattle.overflow_check.specs.Machines.{greatest_for, weights_for, weighed}
use Rattle.overflow_check.specs.declared.machine.Machine.{Machine}
use Rattle.overflow_check.specs.declared.machine.Machine.TheVariants.{Plain, Accelerated}
use Rattle.overflow_check.proofs.Greatest.{greatest_mono}
use Rattle.overflow_check.proofs.Machines.{by_weights}

-- ---- lists
-- a list of n numbers, each at most that of another list in absolute value
pub record IsUnder (n : ℕ) (xs zs : List ℤ) : Type 0 where
  pub long : length xs ≡ n
  pub wide : length zs ≡ n
  pub each : (k : ℕ) → k < n → unsigned_abs (at xs k) ≤ unsigned_abs (at zs k)

-- a list of reaches, each at most that of another list
pub record IsLess (ys ws : List ℕ) : Type 0 where
  pub long : length ys ≡ length ws
  pub each : (k : ℕ) → k < length ys → get_or ys k 0 ≤ get_or ws k 0

less_refl : (ys : List ℕ) → IsLess ys ys
less_refl ys = record { long = refl; each = λ k l. le_refl (get_or ys k 0) }

under_tail : (n : ℕ) (x z : ℤ) (xs zs : List ℤ) → IsUnder (suc n) (x ∷ xs) (z ∷ zs) → IsUnder n xs zs
under_tail n x z xs zs u = record { long = omega (arith, u.long); wide = omega (arith, u.wide); each = λ k l. u.each (suc k) (omega arith) }

less_tail : (y w : ℕ) (ys ws : List ℕ) → IsLess (y ∷ ys) (w ∷ ws) → IsLess ys ws
less_tail y w ys ws h = record { long = omega (arith, h.long); each = λ k l. h.each (suc k) (omega arith) }

pub reach_sum_mono : (n : ℕ) (xs zs : List ℤ) (ys ws : List ℕ) → IsUnder n xs zs → IsLess ys ws → weighted_abs_sum xs ys ≤ weighted_abs_sum zs ws
reach_sum_mono n [] zs ys ws u h = omega arith
reach_sum_mono zero (x ∷ xs) zs ys ws u h = absurd (omega (arith, u.long))
reach_sum_mono (suc n) (x ∷ xs) [] ys ws u h = absurd (omega (arith, u.wide))
reach_sum_mono (suc n) (x ∷ xs) (z ∷ zs) [] ws u h = omega arith
reach_sum_mono (suc n) (x ∷ xs) (z ∷ zs) (y ∷ ys) [] u h = absurd (omega (arith, h.long))
reach_sum_mono (suc n) (x ∷ xs) (z ∷ zs) (y ∷ ys) (w ∷ ws) u h =
    omega (
      arith,
      mul-le (unsigned_abs x) y (unsigned_abs z) w (u.each 0 (omega arith)) (h.each 0 (omega arith)),
      reach_sum_mono n xs zs ys ws (under_tail n x z xs zs u) (less_tail y w ys ws h),
    )

pub less_greatest : (ys ws : List ℕ) → IsLess ys ws → greatest_of ys ≤ greatest_of ws
less_greatest [] ws h = omega arith
less_greatest (y ∷ ys) [] h = absurd (omega (arith, h.long))
less_greatest (y ∷ ys) (w ∷ ws) h = omega (arith, h.each 0 (omega arith), less_greatest ys ws (less_tail y w ys ws h))

-- ---- the sums
-- the same numbers of n states, nu plan entries and m rows, but for gains and rows that are not larger
pub record IsSmaller (c e : Numbers) (n nu m : ℕ) : Type 0 where
  pub fraction_bits : c.fraction_bits ≡ e.fraction_bits
  pub grid_bits : c.grid_bits ≡ e.grid_bits
  pub step_exponent : c.step_exponent ≡ e.step_exponent
  pub steps : c.steps ≡ e.steps
  pub clamp : c.clamp ≡ e.clamp
  pub low : c.low ≡ e.low
  pub high : c.high ≡ e.high
  pub offsets : IsUnder nu c.offsets e.offsets
  pub bounds : IsUnder m c.bounds e.bounds
  pub state_gains : (j : ℕ) → j < nu → IsUnder n (row_of c.state_gains j) (row_of e.state_gains j)
  pub dual_gains : (j : ℕ) → j < nu → IsUnder m (row_of c.dual_gains j) (row_of e.dual_gains j)
  pub plan_rows : (i : ℕ) → i < m → IsUnder nu (row_of c.plan_rows i) (row_of e.plan_rows i)
  pub state_rows : (i : ℕ) → i < m → IsUnder n (row_of c.state_rows i) (row_of e.state_rows i)

state_same : (c e : Numbers) (n nu m : ℕ) → IsSmaller c e n nu m → state_magnitudes c ≡ state_magnitudes e
state_same c e n nu m s = rw (s.fraction_bits, s.grid_bits, s.low, s.high) refl

clamp_same : (c e : Numbers) (n nu m : ℕ) → IsSmaller c e n nu m → clamp_magnitudes c ≡ clamp_magnitudes e
clamp_same c e n nu m s = rw (s.clamp, s.bounds.long, s.bounds.wide) refl

equal_less : (ys ws : List ℕ) → ys ≡ ws → IsLess ys ws
equal_less ys ws e = rw e (less_refl ws)

-- (own + offset * 2^f) * 2^s + dual, part by part
entry_mono : (own own' offset offset' dual dual' f f' s s' : ℕ) → own ≤ own' → offset ≤ offset' → dual ≤ dual' → f ≡ f' → s ≡ s' →
    (own + offset * 2 ^ f) * 2 ^ s + dual ≤ (own' + offset' * 2 ^ f') * 2 ^ s' + dual'
entry_mono own own' offset offset' dual dual' f f' s s' h k l e g =
    let sum : own + offset * 2 ^ f' ≤ own' + offset' * 2 ^ f' = omega (arith, h, mul-le offset (2 ^ f') offset' (2 ^ f') k (le_refl (2 ^ f'))) in
    rw (e, g) (omega (arith, l, mul-le (own + offset * 2 ^ f') (2 ^ s') (own' + offset' * 2 ^ f') (2 ^ s') sum (le_refl (2 ^ s'))))

pub entry_reach_mono : (c e : Numbers) (n nu m j : ℕ) → IsSmaller c e n nu m → j < nu → entry_absolute_sum c j ≤ entry_absolute_sum e j
entry_reach_mono c e n nu m j s l = entry_mono _ _ _ _ _ _ _ _ _ _
    (reach_sum_mono n (row_of c.state_gains j) (row_of e.state_gains j) (state_magnitudes c) (state_magnitudes e) (s.state_gains j l) (equal_less _ _ (state_same c e n nu m s)))
    (s.offsets.each j l)
    (reach_sum_mono m (row_of c.dual_gains j) (row_of e.dual_gains j) (clamp_magnitudes c) (clamp_magnitudes e) (s.dual_gains j l) (equal_less _ _ (clamp_same c e n nu m s)))
    s.fraction_bits s.step_exponent

quotient_mono : (a b f f' s s' : ℕ) → a ≤ b → f ≡ f' → s ≡ s' → ceil_div a (2 ^ (f + s)) ≤ ceil_div b (2 ^ (f' + s'))
quotient_mono a b f f' s s' h e g = rw (e, g) (ceil_div_mono a b (2 ^ (f' + s')) (pow_pos (f' + s')) h)

plan_at : (c : Numbers) (nu j : ℕ) → length c.offsets ≡ nu → j < nu → get_or (plan_magnitudes c) j 0 ≡ ceil_div (entry_absolute_sum c j) (2 ^ (c.fraction_bits + c.step_exponent))
plan_at c nu j e l = get_or-map-range_with_len (λ j. ceil_div (entry_absolute_sum c j) (2 ^ (c.fraction_bits + c.step_exponent))) 0 (length c.offsets) j j 0 (omega arith) (omega arith)

plan_long : (c : Numbers) (nu : ℕ) → length c.offsets ≡ nu → length (plan_magnitudes c) ≡ nu
plan_long c nu e = length-map-range_with_len (λ j. ceil_div (entry_absolute_sum c j) (2 ^ (c.fraction_bits + c.step_exponent))) 0 (length c.offsets) ∙ e

pub plan_reach_mono : (c e : Numbers) (n nu m : ℕ) → IsSmaller c e n nu m → IsLess (plan_magnitudes c) (plan_magnitudes e)
plan_reach_mono c e n nu m s = record {
  long = plan_long c nu s.offsets.long ∙ sym (plan_long e nu s.offsets.wide);
  each = λ j l. (let i : j < nu = omega (arith, plan_long c nu s.offsets.long) in
      rw (plan_at c nu j s.offsets.long i, plan_at e nu j s.offsets.wide i)
      (quotient_mono (entry_absolute_sum c j) (entry_absolute_sum e j) _ _ _ _ (entry_reach_mono c e n nu m j s i) s.fraction_bits s.step_exponent));
}

-- planned + own + bound * 2^f, part by part
row_mono : (planned planned' own own' bound bound' f f' : ℕ) → planned ≤ planned' → own ≤ own' → bound ≤ bound' → f ≡ f' →
    planned + own + bound * 2 ^ f ≤ planned' + own' + bound' * 2 ^ f'
row_mono planned planned' own own' bound bound' f f' h k l e = rw e (omega (arith, h, k, mul-le bound (2 ^ f') bound' (2 ^ f') l (le_refl (2 ^ f'))))

pub row_reach_mono : (c e : Numbers) (n nu m i : ℕ) → IsSmaller c e n nu m → i < m → row_absolute_sum c i ≤ row_absolute_sum e i
row_reach_mono c e n nu m i s l = row_mono _ _ _ _ _ _ _ _
    (reach_sum_mono nu (row_of c.plan_rows i) (row_of e.plan_rows i) (plan_magnitudes c) (plan_magnitudes e) (s.plan_rows i l) (plan_reach_mono c e n nu m s))
    (reach_sum_mono n (row_of c.state_rows i) (row_of e.state_rows i) (state_magnitudes c) (state_magnitudes e) (s.state_rows i l) (equal_less _ _ (state_same c e n nu m s)))
    (s.bounds.each i l) s.fraction_bits

-- the greatest of as many
counted_mono : (f g : ℕ → ℕ) (a b n : ℕ) → a ≡ n → b ≡ n → ((i : ℕ) → i < n → f i ≤ g i) → greatest_of (map f (range_with_len 0 a)) ≤ greatest_of (map g (range_with_len 0 b))
counted_mono f g a b n e h below = rw (e, h) (greatest_mono f g n below)

-- what a run adds up by weights
weighed_mono : (machine : Machine) (e : Numbers) (row row' plan plan' f f' : ℕ) → row ≤ row' → plan ≤ plan' → f ≡ f' → weighed (weights_for machine e) row plan f ≤ weighed (weights_for machine e) row' plan' f'
weighed_mono machine e row row' plan plan' f f' h k same =
    let step = (weights_for machine e).step in
    let all = (weights_for machine e).all in
    let ceiling = ceil_div_mono row row' (2 ^ f') (pow_pos f') h in
    rw same (omega (arith, mul-le step (ceil_div row (2 ^ f')) step (ceil_div row' (2 ^ f')) (le_refl step) ceiling, mul-le all plan all plan' (le_refl all) k))

weights_same : (machine : Machine) (c e : Numbers) (n nu m : ℕ) → IsSmaller c e n nu m → weights_for machine c ≡ weights_for machine e
weights_same Plain c e n nu m s = rw (s.clamp, s.steps) refl
weights_same Accelerated c e n nu m s = rw (s.clamp, s.steps) refl

equal_le : (f : List ℕ → ℕ) (xs ys : List ℕ) → xs ≡ ys → f xs ≤ f ys
equal_le f xs ys e = rw e (le_refl (f ys))

pub greatest_sum_mono : (machine : Machine) (c e : Numbers) (n nu m : ℕ) → 1 ≤ m → IsSmaller c e n nu m → greatest_for machine c ≤ greatest_for machine e
greatest_sum_mono machine c e n nu m some s =
    let row = counted_mono (row_absolute_sum c) (row_absolute_sum e) _ _ m s.bounds.long s.bounds.wide (λ i l. row_reach_mono c e n nu m i s l) in
    rw (by_weights machine c (omega (arith, s.bounds.long, some)), by_weights machine e (omega (arith, s.bounds.wide, some)), weights_same machine c e n nu m s) (close _ _ _ _ _ _ _ _
    (equal_le greatest_of _ _ (state_same c e n nu m s))
    (counted_mono (entry_absolute_sum c) (entry_absolute_sum e) _ _ nu s.offsets.long s.offsets.wide (λ j l. entry_reach_mono c e n nu m j s l))
    row
    (weighed_mono machine e _ _ _ _ _ _ row (less_greatest _ _ (plan_reach_mono c e n nu m s)) s.fraction_bits))
  where
    close : (a a' b b' c c' d d' : ℕ) → a ≤ a' → b ≤ b' → c ≤ c' → d ≤ d' → max (max (max a b) c) d ≤ max (max (max a' b') c') d'
    close a a' b b' c c' d d' h k l m = omega arith
