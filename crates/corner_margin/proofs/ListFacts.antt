-- Lists of enclosures, and of numbers, as code reads them.
use Rattle.std.proofs.Common.{◌≡◌, ℕ, ◌*◌, ◌^◌, ◌<◌, ◌≤◌, List, ℤ, pos, negsuc, ◌+ℤ◌, ◌*ℤ◌, ◌≤ℤ◌, length, get_or, unsigned_abs, arith, ap, sym, subst, ◌∙◌, refl}
use Rattle.std.proofs.lemmas.Int.{ints}
use Rattle.std.proofs.Math.Nat.{mul-le-mul_left}
use Rattle.integer_algebra.specs.Bounds.{absolute}
use Rattle.integer_algebra.specs.Sums.{at, total, square}
use Rattle.integer_algebra.specs.Sizes.{size}
use Rattle.integer_algebra.proofs.SumLaws.{total_same}
use Rattle.integer_algebra.proofs.SizeLaws.{size_same}
use Rattle.frac_scaled.specs.Enclosures.{Enclosure, magnitude}
use Rattle.enclosure.specs.declared.types.Enc.{Enc}
use Rattle.enclosure.specs.Values.{pair, pair_at}
use Rattle.enclosure.proofs.SumLaws.{pair_at_is}
use Rattle.qp_model.specs.problem.Runs.{Holds}
use Rattle.corner_margin.specs.Simulation.{SquaresFit}

-- an element that was read
pub element_is : (xs : List Enc) (i : ℕ) (x : Enc) → x ≡ get_or xs i x → i < length xs → pair x ≡ pair_at xs i
element_is xs i x e l = ap pair e ∙ sym (pair_at_is xs i x l)

-- what is below a bound fits
pub slack_room : (b z : ℤ) (e g : Enclosure) → z ≡ b → e ≡ g → (absolute b +ℤ magnitude g) ≤ℤ pos (2 ^ 126) → (absolute z +ℤ magnitude e) ≤ℤ pos (2 ^ 126)
slack_room b z e g h k l =
    subst (λ (x : ℤ). (absolute x +ℤ magnitude e) ≤ℤ pos (2 ^ 126)) (sym h) (subst (λ (x : Enclosure). (absolute b +ℤ magnitude x) ≤ℤ pos (2 ^ 126)) (sym k) l)

-- the factors of a product within the limit
pub factors_room : (s z : ℤ) → pos 1 ≤ℤ s → pos 0 ≤ℤ z → (s *ℤ z) ≤ℤ pos (2 ^ 126) → (unsigned_abs s * unsigned_abs z ≤ 2 ^ 126) × (z ≤ℤ pos (2 ^ 126))
factors_room (pos s) (pos m) h k l = (within l, more (within l))
  where
    within : pos (s * m) ≤ℤ pos (2 ^ 126) → s * m ≤ 2 ^ 126
    within l = omega (arith, ints, l)

    more : s * m ≤ 2 ^ 126 → pos m ≤ℤ pos (2 ^ 126)
    more l = omega (arith, ints, l, mul-le-mul_left m (some s h))
      where
        some : (s : ℕ) → pos 1 ≤ℤ pos s → 1 ≤ s
        some s h = omega (arith, ints)
factors_room (negsuc s) z h k l = absurd h.le
factors_room (pos s) (negsuc m) h k l = absurd k.le

-- and what misses a target
pub gap_room : (t z : ℤ) (e g : Enclosure) → z ≡ t → e ≡ g → (magnitude g +ℤ absolute t) ≤ℤ pos (2 ^ 126) → (magnitude e +ℤ absolute z) ≤ℤ pos (2 ^ 126)
gap_room t z e g h k l =
    subst (λ (x : ℤ). (magnitude e +ℤ absolute x) ≤ℤ pos (2 ^ 126)) (sym h) (subst (λ (x : Enclosure). (magnitude x +ℤ absolute t) ≤ℤ pos (2 ^ 126)) (sym k) l)

-- ---- lists of weights and of numbers
pub squares_held : (n side : ℕ) (ws xs : List ℤ) (w x : ℕ → ℤ) → Holds ws n w → Holds xs n x → ((i : ℕ) → i < n → unsigned_abs (x i) ≤ side) →
    side ^ 2 ≤ 2 ^ 126 → size n w * side ^ 2 ≤ 2 ^ 126 → SquaresFit (length xs) (at ws) (at xs)
squares_held n side ws xs w x hw hx small square sum = record {
  side = side;
  small = λ i l. (let o : i < n = rw (← hx.long) l in rw (hx.is i o) (small i o));
  square = square;
  sum = rw (hx.long, size_same n (at ws) w hw.is) sum;
}

pub total_held : (n : ℕ) (ws xs : List ℤ) (w x : ℕ → ℤ) → Holds ws n w → Holds xs n x →
    total (length xs) (λ i. at ws i *ℤ square (at xs i)) ≡ total n (λ i. w i *ℤ square (x i))
total_held n ws xs w x hw hx = rw hx.long (total_same n _ _ (λ i l. term _ _ _ _ (hw.is i l) (hx.is i l)))
  where
    term : (a b x y : ℤ) → a ≡ b → x ≡ y → a *ℤ square x ≡ b *ℤ square y
    term a b x y e f = rw (e, f) refl

-- at the end of a loop over a list
pub all_pushed : (xs : List ℤ) (k n : ℕ) (f : ℕ → ℤ) → k ≤ n → n ≤ k → Holds xs k f → Holds xs n f
all_pushed xs k n f l m h = subst (λ (i : ℕ). Holds xs i f) (same k n l m) h
  where
    same : (k n : ℕ) → k ≤ n → n ≤ k → k ≡ n
    same k n l m = omega arith
