-- Sums over the entries of a corner, as naturals.
use Rattle.std.proofs.Common.{◌≡◌, ℕ, ◌+◌, ◌*◌, ◌^◌, ◌<◌, ◌≤◌, max, ℤ, pos, negsuc, ◌≤ℤ◌, unsigned_abs, ◌+ℤ◌, arith, refl, ap, ap₂, subst, sym, ◌∙◌}
use Rattle.integer_algebra.specs.Sums.{total, square}
use Rattle.integer_algebra.specs.Sizes.{amount}
use Rattle.std.proofs.lemmas.Int.{ints}
use Rattle.integer_algebra.proofs.SumLaws.{total_same, total_more}
use Rattle.integer_algebra.proofs.SizeLaws.{total_amount, amount_next, amount_more}
use Rattle.frac_scaled.specs.Enclosures.{Enclosure, magnitude}
use Rattle.enclosure.proofs.RoomLaws.{reach_is}
use Rattle.qp_model.specs.form.Quantities.{greatest}
use Rattle.qp_model.specs.bounds.Excess.{reach}
use Rattle.qp_model.proofs.SizeFacts.{greatest_term}
use Rattle.enclosure.specs.Values.{pair}
use Rattle.plan_excess.specs.declared.slope.Slope.{Slope}
use Rattle.plan_excess.specs.declared.sums.Sums.{Sums}
use Rattle.plan_excess.specs.Slopes.{AreSlopeSums, sums_size, far_by, squares_by}

-- a magnitude as a natural
pub reach_by : (e : Enclosure) → pos 0 ≤ℤ e.rad → magnitude e ≡ pos (reach e)
reach_by e h = reach_is e.mid e.rad h ∙ ap (λ (z : ℤ). pos (unsigned_abs z)) (sym (reach_is e.mid e.rad h))

-- what an enclosure reaches, by its numbers
pub reach_of : (e : Enclosure) → pos 0 ≤ℤ e.rad → reach e ≡ unsigned_abs e.mid + unsigned_abs e.rad
reach_of e h = ap unsigned_abs (reach_is e.mid e.rad h)

-- what an entry's slope reaches
slope_reach : (n : ℕ) (slope : ℕ → Enclosure) (x : Slope) → pair x.value ≡ slope n → unsigned_abs x.value.mid + unsigned_abs x.value.rad ≡ far_by slope n
slope_reach n slope x value = sym (reach_of (pair x.value) x.value.nonnegative) ∙ ap reach value

-- a square as a natural
square_by : (z : ℤ) → square z ≡ pos (unsigned_abs z * unsigned_abs z)
square_by (pos n) = refl
square_by (negsuc n) = refl

-- ---- totals
module _ (n : ℕ) (slope : ℕ → Enclosure) (h : (j : ℕ) → j < n → pos 0 ≤ℤ (slope j).rad) where
  pub reaches : total n (λ j. magnitude (slope j)) ≡ pos (amount n (far_by slope))
  reaches = total_same n _ _ (λ j l. reach_by (slope j) (h j l)) ∙ total_amount n (far_by slope)

pub squares : (n : ℕ) (steep : ℕ → ℤ) → total n (λ j. square (steep j)) ≡ pos (amount n (squares_by steep))
squares n steep = total_same n _ _ (λ j l. square_by (steep j)) ∙ total_amount n (squares_by steep)

-- the size of sums by naturals
pub size_by : (n : ℕ) (size : ℕ → ℕ) (slope : ℕ → Enclosure) (steep : ℕ → ℤ) → ((j : ℕ) → j < n → pos 0 ≤ℤ (slope j).rad) →
    sums_size n size slope steep ≡ max (greatest n size) (max (amount n (far_by slope)) (amount n (squares_by steep)))
size_by n size slope steep h t = max (greatest n size) (max (unsigned_abs (reaches n slope h t)) (unsigned_abs (squares n steep t)))

-- ---- a sum's step
module _ (n : ℕ) (size : ℕ → ℕ) (slope : ℕ → Enclosure) (steep : ℕ → ℤ) (h : (j : ℕ) → j < n → pos 0 ≤ℤ (slope j).rad) (within : sums_size n size slope steep ≤ 2 ^ 126)
    (j : ℕ) (l : j < n) where
  known : max (greatest n size) (max (amount n (far_by slope)) (amount n (squares_by steep))) ≤ 2 ^ 126
  known = subst (λ (m : ℕ). m ≤ 2 ^ 126) (size_by n size slope steep h) within

  -- each entry is within the limit
  pub term_within : size j ≤ 2 ^ 126
  term_within = omega (arith, known, greatest_term j n size l)

  -- and so are the sums up to it
  pub step_within : (far squared : ℕ) → far ≡ amount j (far_by slope) + far_by slope j → squared ≡ amount j (squares_by steep) + squares_by steep j → max far squared ≤ 2 ^ 126
  step_within far squared e f = omega (arith, e, f, known, amount_next j n (far_by slope) l, amount_next j n (squares_by steep) l)

-- ---- the sums of a corner, entry by entry
-- with one more
pub one_added : (n : ℕ) (slope : ℕ → Enclosure) (steep : ℕ → ℤ) (s t : Sums) (x : Slope) → AreSlopeSums n slope steep s → pair x.value ≡ slope n → pos x.steepness ≡ steep n →
    t.rise ≡ s.rise +ℤ x.value.mid +ℤ x.value.rad → t.reach ≡ s.reach + (unsigned_abs x.value.mid + unsigned_abs x.value.rad) → t.squares ≡ s.squares + x.steepness * x.steepness →
    AreSlopeSums (n + 1) slope steep t
one_added n slope steep s t x are value steepness rise far squared = record {
  rise = rw (total_more n (λ j. (slope j).mid +ℤ (slope j).rad), ← value, ← are.rise, rise) (omega (arith, ints));
  reach = rw (amount_more n (far_by slope), ← are.reach, far) (ap (λ (m : ℕ). s.reach + m) (slope_reach n slope x value));
  squares = rw (amount_more n (squares_by steep), ← are.squares, squared, ← steepness) refl;
}

-- what an entry's calls test
module _ (n : ℕ) (slope : ℕ → Enclosure) (steep : ℕ → ℤ) (s : Sums) (x : Slope) (are : AreSlopeSums n slope steep s) (value : pair x.value ≡ slope n) (steepness : pos x.steepness ≡ steep n) where
  pub far_is : s.reach + (unsigned_abs x.value.mid + unsigned_abs x.value.rad) ≡ amount n (far_by slope) + far_by slope n
  far_is = ap₂ (λ (a b : ℕ). a + b) are.reach (slope_reach n slope x value)

  pub squared_is : s.squares + x.steepness * x.steepness ≡ amount n (squares_by steep) + squares_by steep n
  squared_is = ap₂ (λ (a b : ℕ). a + b) are.squares (ap (λ (z : ℤ). unsigned_abs z * unsigned_abs z) steepness)

-- and all of them
pub sums_fit : (n : ℕ) (size : ℕ → ℕ) (slope : ℕ → Enclosure) (steep : ℕ → ℤ) (s : Sums) → ((j : ℕ) → j < n → pos 0 ≤ℤ (slope j).rad) → AreSlopeSums n slope steep s →
    greatest n size ≤ 2 ^ 126 → sums_size n size slope steep ≤ 2 ^ 126
sums_fit n size slope steep s h are near = subst (λ (m : ℕ). m ≤ 2 ^ 126) (sym (size_by n size slope steep h)) (omega (arith, near, are.reach, are.squares, s.limited, s.few))

pub all_sums : (i n : ℕ) (slope : ℕ → Enclosure) (steep : ℕ → ℤ) (s : Sums) → i ≤ n → n ≤ i → AreSlopeSums i slope steep s → AreSlopeSums n slope steep s
all_sums i n slope steep s h l are = subst (λ (m : ℕ). AreSlopeSums m slope steep s) (same i n h l) are
  where
    same : (i n : ℕ) → i ≤ n → n ≤ i → i ≡ n
    same i n h l = omega (arith, h, l)
