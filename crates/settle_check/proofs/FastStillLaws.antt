-- Where no multiplier moves, the accelerated machine repeats the same plan.
use Rattle.std.proofs.Common.{◌≡◌, inl, inr, ℕ, zero, suc, ◌+◌, ◌-◌, ◌*◌, ◌^◌, ◌<◌, ◌≤◌, [], ◌∷◌, ℤ, pos, ◌+ℤ◌, ◌*ℤ◌, ◌≤ℤ◌, ◌<ℤ◌, List, length, map, arith, refl, sym, ◌∙◌}
use Rattle.std.specs.List.{range_with_len}
use Rattle.std.specs.Int.{int_max, int_min}
use Rattle.std.proofs.lemmas.Int.{ints, clamps}
use Rattle.std.proofs.lemmas.Bool.{cases_lt}
use Rattle.std.proofs.lemmas.Nat.{mul-le, pow_pos}
use Rattle.std.proofs.Math.Nat.{one-le-mul}
use Rattle.std.proofs.Math.IntN.{*ℤ-zero, zero-*ℤ}
use Rattle.std.proofs.lemmas.List.{get_or_past}
use Rattle.std.proofs.lemmas.List.FromFn.{length-map-range_with_len, get_or-map-range_with_len}
use Rattle.integer_algebra.specs.Division.{floor_of, round_of}
use Rattle.integer_algebra.specs.Sums.{image, at}
use Rattle.integer_algebra.proofs.DivisionLaws.{floor_unique}
use Rattle.integer_algebra.proofs.OrderLaws.{mul-le-mul_left_z}
use Rattle.integer_algebra.proofs.VectorLaws.{dot_same, dot_scale_right}
use Rattle.integer_algebra.proofs.Quoting.{by_ring, quotes}
use Rattle.qp_model.specs.problem.Design.{Design}
use Rattle.qp_model.specs.machine.Controller.{Numbers, plan_length, IsSized}
use Rattle.qp_model.specs.machine.Machine.{loaded, raised, plan_of}
use Rattle.qp_model.specs.machine.Successor.{next_sum, next_over}
use Rattle.qp_model.proofs.MagnitudeLaws.{zeros_at}
use Rattle.overflow_check.specs.FastMachine.{step_weight, all_weights, mean_divisor, fast_top, mean_at, moved_multiplier, moved_multipliers, fast_after, fast_plan}
use Rattle.overflow_check.specs.FastController.{with_last_version}
use Rattle.fast_machine.proofs.FastRuns.{top_low}
use Rattle.fast_machine.proofs.WeightSums.{twice_weights, more_weights}
use Rattle.stay_check.proofs.RoundLaws.{round_mono}
use Rattle.settle_check.specs.Still.{Box, LiesInBox, IsStill, still_entry, FastStillLaw}
use Rattle.settle_check.specs.ClosedRows.{IsLoopFor}
use Rattle.settle_check.proofs.StillLaws.{plan_at, plan_long, residual_low, first_inputs, still_law}

-- ---- numbers that are 0
floor_zero : (z : ℤ) (d : ℕ) → 0 < d → z ≡ pos 0 → floor_of z d ≡ pos 0
floor_zero z d p e = sym (floor_unique z d (pos 0) p (record { least = low z (pos d) e; greatest = high z (pos d) (omega (arith, ints)) e }))
  where
    low : (z d : ℤ) → z ≡ pos 0 → (pos 0 *ℤ d) ≤ℤ z
    low z d e = omega (arith, ints, e, zero-*ℤ d)

    high : (z d : ℤ) → pos 0 <ℤ d → z ≡ pos 0 → z <ℤ ((pos 0 +ℤ pos 1) *ℤ d)
    high z d p e = rw (e, one d) p
      where
        one : (d : ℤ) → (pos 0 +ℤ pos 1) *ℤ d ≡ d
        one d = by_ring (d ∷ []) (search quotes depth 60 fits 20000) refl

-- so many times one added to another
times_zero : (x y w : ℤ) → x ≡ pos 0 → y ≡ pos 0 → x +ℤ w *ℤ y ≡ pos 0
times_zero x y w e f = rw (e, f) (omega (arith, ints, *ℤ-zero w))

-- a mean
mean_zero : (k : ℕ) (multipliers reached : List ℤ) (i : ℕ) → at reached i ≡ pos 0 → at multipliers i ≡ pos 0 → mean_at k multipliers reached i ≡ pos 0
mean_zero k multipliers reached i e f =
    floor_zero _ (mean_divisor k) (one-le-mul (let a : 1 ≤ k + 1 = omega arith in a) (let b : 1 ≤ k + 4 = omega arith in b)) (times_zero (at reached i) (at multipliers i) (pos (step_weight k)) e f)

-- a list of n numbers, where each is
zeros_of : (f : ℕ → ℤ) (n : ℕ) → ((i : ℕ) → i < n → f i ≡ pos 0) → (i : ℕ) → at (map f (range_with_len 0 n)) i ≡ pos 0
zeros_of f n each i = elim (cases_lt i n) [
  | inl lt ↦ get_or-map-range_with_len f 0 n i i (pos 0) lt (omega arith) ∙ each i lt
  | inr le ↦ get_or_past (map f (range_with_len 0 n)) i (pos 0) (omega (arith, length-map-range_with_len f 0 n, le))
]

-- a multiplier that is moved
stays : (top old q : ℤ) (w : ℕ) → pos 0 ≤ℤ top → old ≡ pos 0 → q ≤ℤ pos 0 → int_min top (int_max (old +ℤ pos w *ℤ q) (pos 0)) ≡ pos 0
stays top old q w h e l = clamp top old (pos w *ℤ q) h e (times_low q (pos w) (omega (arith, ints)) l)
  where
    times_low : (q w : ℤ) → pos 0 ≤ℤ w → q ≤ℤ pos 0 → (w *ℤ q) ≤ℤ pos 0
    times_low q w p l = rw (*ℤ-zero w) at (mul-le-mul_left_z w p l)

    clamp : (top old r : ℤ) → pos 0 ≤ℤ top → old ≡ pos 0 → r ≤ℤ pos 0 → int_min top (int_max (old +ℤ r) (pos 0)) ≡ pos 0
    clamp top old r h e l = omega (arith, ints, clamps, e)

-- ---- weights
no_weights : all_weights 0 ≡ 0
no_weights = omega (arith, twice_weights 0)

none : (w : ℕ) (u : ℤ) → w ≡ 0 → pos 0 ≡ pos w *ℤ u
none w u e = rw e (sym (zero-*ℤ u))

-- the plan added by its weight
more : (a w b : ℕ) (s p u : ℤ) → b ≡ a + w → s ≡ pos a *ℤ u → p ≡ u → s +ℤ pos w *ℤ p ≡ pos b *ℤ u
more a w b s p u e f g = rw (e, f, g) (joined (pos a) (pos w) u)
  where
    joined : (a w u : ℤ) → a *ℤ u +ℤ w *ℤ u ≡ (a +ℤ w) *ℤ u
    joined a w u = by_ring (a ∷ w ∷ u ∷ []) (search quotes depth 60 fits 20000) refl

-- ---- all steps
module _ (c : Numbers) (z : Box) (sized : IsSized (with_last_version c)) (still : IsStill c z) (xi : List ℤ) (long : length xi ≡ c.states) (inside : LiesInBox c.states z (at xi)) where
  -- the means of one, before they are raised, and its plan
  abbrev means : ℕ → List ℤ
  means k = map (mean_at k (fast_after c (loaded c xi) k).multipliers (fast_after c (loaded c xi) k).reached) (range_with_len 0 (length c.bounds))

  abbrev plan : ℕ → List ℤ
  plan k = plan_of c (loaded c xi) (raised c (means k))

  abbrev AllZero : List ℤ → Type 0
  AllZero l = (i : ℕ) → at l i ≡ pos 0

  means_zero : (k : ℕ) → AllZero (fast_after c (loaded c xi) k).multipliers → AllZero (fast_after c (loaded c xi) k).reached → AllZero (means k)
  means_zero k none kept = zeros_of (mean_at k (fast_after c (loaded c xi) k).multipliers (fast_after c (loaded c xi) k).reached) (length c.bounds) (λ i l. mean_zero k _ _ i (kept i) (none i))

  moved_zero : (k : ℕ) → AllZero (fast_after c (loaded c xi) k).multipliers → AllZero (fast_after c (loaded c xi) k).reached →
      AllZero (moved_multipliers c (loaded c xi) (plan k) (step_weight k) (fast_after c (loaded c xi) k).multipliers)
  moved_zero k none kept =
      zeros_of (λ i. moved_multiplier c (loaded c xi) (plan k) (step_weight k) (at (fast_after c (loaded c xi) k).multipliers i) i) (length c.bounds)
      (λ i l. stays (fast_top c i) (at (fast_after c (loaded c xi) k).multipliers i) _ (step_weight k) (top_low c i sized.clamp_low) (none i)
      (residual_low c z sized still xi long inside (means k) (means_zero k none kept) i (omega (arith, l, sized.shaped.bounds))))

  both_zero : (k : ℕ) → AllZero (fast_after c (loaded c xi) k).multipliers × AllZero (fast_after c (loaded c xi) k).reached
  unfolding fast_after
  both_zero zero = (λ i. zeros_at (length c.bounds) i, λ i. zeros_at (length c.bounds) i)
  both_zero (suc k) =
      let before = both_zero k in
      let moved = moved_multipliers c (loaded c xi) (plan k) (step_weight k) (fast_after c (loaded c xi) k).multipliers in
      let none = moved_zero k before.0 before.1 in (
        none,
        zeros_of (λ j. at (fast_after c (loaded c xi) k).reached j +ℤ pos (step_weight k) *ℤ at moved j) (length moved) (λ i l. times_zero _ (at moved i) (pos (step_weight k)) (before.1 i) (none i)),
      )

  plan_still : (k j : ℕ) → j < plan_length c → at (plan k) j ≡ still_entry c xi j
  plan_still k j o = plan_at c z sized still xi long inside (means k) (means_zero k (both_zero k).0 (both_zero k).1) j o

  plan_after : (k j : ℕ) → j < plan_length c → at (fast_after c (loaded c xi) (suc k)).plan j ≡ still_entry c xi j
  unfolding fast_after
  plan_after k j o = plan_still k j o

  sum_after : (k j : ℕ) → j < plan_length c → at (fast_after c (loaded c xi) k).sums j ≡ pos (all_weights k) *ℤ still_entry c xi j
  unfolding fast_after
  sum_after zero j o = zeros_at (length c.offsets) j ∙ none _ (still_entry c xi j) no_weights
  sum_after (suc k) j o =
      get_or-map-range_with_len (λ j. at (fast_after c (loaded c xi) k).sums j +ℤ pos (step_weight k) *ℤ at (plan k) j) 0 (length (plan k)) j j (pos 0)
      (omega (arith, o, plan_long c z sized still xi long inside (means k))) (omega arith)
      ∙ more (all_weights k) (step_weight k) (all_weights (suc k)) _ _ _ (more_weights k) (sum_after k j o) (plan_still k j o)

pub fast_still_law : FastStillLaw
fast_still_law c z sized still xi long inside = record {
  multipliers = λ k. (both_zero c z sized still xi long inside k).0;
  reached = λ k. (both_zero c z sized still xi long inside k).1;
  plans = plan_after c z sized still xi long inside;
  average = sum_after c z sized still xi long inside c.steps;
}

-- ---- the plant's next state
-- the quotient of equal fractions
same_round : (x y : ℤ) (m n : ℕ) → 0 < m → 0 < n → x *ℤ pos n ≡ y *ℤ pos m → round_of x m ≡ round_of y n
same_round x y m n h k e = both _ _ (round_mono x y m n h k (at_most _ _ e)) (round_mono y x n m k h (at_most _ _ (sym e)))
  where
    at_most : (a b : ℤ) → a ≡ b → a ≤ℤ b
    at_most a b e = omega (arith, ints, e)

    both : (a b : ℤ) → a ≤ℤ b → b ≤ℤ a → a ≡ b
    both a b h k = omega (arith, ints, h, k)

some_weight : (n : ℕ) → 1 ≤ n → 1 ≤ all_weights n
some_weight n h = omega (arith, twice_weights n, mul-le 1 4 n (n + 3) h (omega (arith, h)))

-- over what the steps of either machine weigh together, it is the same
pub fast_next : (d : Design) (c : Numbers) (z : Box) → IsLoopFor d c → IsStill c z → (xi : List ℤ) → length xi ≡ d.states → LiesInBox d.states z (at xi) → (i : ℕ) →
    (let scale = all_weights c.steps * 2 ^ (c.fraction_bits - c.grid_bits) in
    round_of (image d.states d.plant_a (at xi) i *ℤ pos scale +ℤ image d.inputs d.plant_b (at (fast_plan c xi)) i) (d.plant_denominator * scale)) ≡
    round_of (next_sum d c xi i) (next_over d c)
fast_next d c z loop still xi long inside i =
    let s = 2 ^ (c.fraction_bits - c.grid_bits) in
    let some : 1 ≤ s = omega (arith, pow_pos (c.fraction_bits - c.grid_bits)) in
    let in_c : LiesInBox c.states z (at xi) = λ j l. inside j (omega (arith, l, loop.sizes.states)) in
    let long_c : length xi ≡ c.states = long ∙ loop.sizes.states in
    let plain = still_law c z loop.sized still xi long_c in_c in
    let fast = fast_still_law c z loop.sized still xi long_c in_c in
    let small = first_inputs c d.inputs loop.sized loop.sizes.inputs in
    let u = still_entry c xi in
    let inputs = image d.inputs d.plant_b u i in
    same_round _ _ (d.plant_denominator * (all_weights c.steps * s)) (d.plant_denominator * (c.steps * s))
    (one-le-mul loop.plant (one-le-mul (some_weight c.steps loop.sized.steps.0) some)) (one-le-mul loop.plant (one-le-mul loop.sized.steps.0 some))
    (fractions (all_weights c.steps) c.steps s d.plant_denominator (image d.states d.plant_a (at xi) i) inputs _ _
    (dot_same d.inputs (d.plant_b i) _ _ (λ l o. fast.average l (omega (arith, o, small))) ∙ dot_scale_right d.inputs (pos (all_weights c.steps)) (d.plant_b i) u)
    (dot_same d.inputs (d.plant_b i) _ _ (λ l o. plain.average l (omega (arith, o, small))) ∙ dot_scale_right d.inputs (pos c.steps) (d.plant_b i) u))
  where
    fractions : (v k s a : ℕ) (x b f p : ℤ) → f ≡ pos v *ℤ b → p ≡ pos k *ℤ b → (x *ℤ pos (v * s) +ℤ f) *ℤ pos (a * (k * s)) ≡ (x *ℤ pos (k * s) +ℤ p) *ℤ pos (a * (v * s))
    fractions v k s a x b f p g h = rw (g, h) (whole (pos v) (pos k) (pos s) (pos a) x b)
      where
        whole : (v k s a x b : ℤ) → (x *ℤ (v *ℤ s) +ℤ v *ℤ b) *ℤ (a *ℤ (k *ℤ s)) ≡ (x *ℤ (k *ℤ s) +ℤ k *ℤ b) *ℤ (a *ℤ (v *ℤ s))
        whole v k s a x b = by_ring (v ∷ k ∷ s ∷ a ∷ x ∷ b ∷ []) (search quotes depth 60 fits 20000) refl
