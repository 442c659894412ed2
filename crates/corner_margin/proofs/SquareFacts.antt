-- Sums of weighted squares fit.
use Rattle.std.proofs.Common.{◌≡◌, ℕ, ◌+◌, ◌*◌, ◌^◌, ◌<◌, ◌≤◌, ℤ, ◌+ℤ◌, ◌*ℤ◌, unsigned_abs, FitsSigned, arith, ap, sym, ◌∙◌}
use Rattle.std.specs.Int.{w128}
use Rattle.std.proofs.lemmas.Int.{to_z-of_z, unsigned_abs-mul}
use Rattle.integer_algebra.specs.Sums.{total, square}
use Rattle.integer_algebra.specs.Sizes.{size}
use Rattle.integer_algebra.proofs.PowerLaws.{pow-two}
use Rattle.integer_algebra.proofs.SumLaws.{total_more}
use Rattle.integer_algebra.proofs.SizeLaws.{at_size, part_size}
use Rattle.qp_model.proofs.RunLaws.{product_within}
use Rattle.qp_model.proofs.CornerFacts.{product_small}
use Rattle.condensed_form.proofs.Rooms.{read, narrow}
use Rattle.corner_margin.specs.Simulation.{SquaresFit}

pub square_size : (x : ℤ) (s : ℕ) → unsigned_abs x ≤ s → unsigned_abs (square x) ≤ s ^ 2
square_size x s h = rw (unsigned_abs-mul x x, pow-two s) (product_small _ _ s s h h)

-- weighted squares of numbers of at most s
pub squares_size : (n : ℕ) (w x : ℕ → ℤ) (s : ℕ) → ((i : ℕ) → i < n → unsigned_abs (x i) ≤ s) → size n (λ i. w i *ℤ square (x i)) ≤ size n w * s ^ 2
squares_size n w x s h = product_within n w (λ i. square (x i)) (s ^ 2) (λ i l. square_size (x i) s (h i l))

under : (a b t : ℕ) → a ≤ b → b ≤ t → a ≤ t
under a b t h k = omega arith

module _ (n : ℕ) (w x : ℕ → ℤ) (f : SquaresFit n w x) where
  all_size : size n (λ i. w i *ℤ square (x i)) ≤ 2 ^ 126
  all_size = under _ _ _ (squares_size n w x f.side f.small) f.sum

  module _ (i : ℕ) (l : i < n) where
    square_fits : FitsSigned w128 (x i *ℤ x i)
    square_fits = narrow (x i *ℤ x i) (under _ _ _ (square_size (x i) f.side (f.small i l)) f.square)

    term_fits : FitsSigned w128 (w i *ℤ (x i *ℤ x i))
    term_fits = narrow (w i *ℤ (x i *ℤ x i)) (under _ _ _ (at_size i n (λ j. w j *ℤ square (x j)) l) all_size)

    next : (s : ℤ) → s ≡ total i (λ j. w j *ℤ square (x j)) → s +ℤ w i *ℤ (x i *ℤ x i) ≡ total (i + 1) (λ j. w j *ℤ square (x j))
    next s e = ap (λ (z : ℤ). z +ℤ w i *ℤ (x i *ℤ x i)) e ∙ sym (total_more i (λ j. w j *ℤ square (x j)))

    next_fits : (s : ℤ) → s ≡ total i (λ j. w j *ℤ square (x j)) → FitsSigned w128 (s +ℤ w i *ℤ (x i *ℤ x i))
    next_fits s e = narrow _ (rw (next s e) (under _ _ _ (part_size (i + 1) n (λ j. w j *ℤ square (x j)) (omega arith)) all_size))

    -- as code reads them
    module _ (fw : FitsSigned w128 (w i)) (fx : FitsSigned w128 (x i)) where
      pub read_square : FitsSigned w128 (read (x i) *ℤ read (x i))
      read_square = rw (to_z-of_z w128 (x i) fx) square_fits

      pub read_term : FitsSigned w128 (read (w i) *ℤ read (read (x i) *ℤ read (x i)))
      read_term = rw (to_z-of_z w128 (x i) fx, to_z-of_z w128 (w i) fw, to_z-of_z w128 (x i *ℤ x i) square_fits) term_fits

      pub read_next_fits : (s : ℤ) → s ≡ total i (λ j. w j *ℤ square (x j)) → FitsSigned w128 (s +ℤ read (read (w i) *ℤ read (read (x i) *ℤ read (x i))))
      read_next_fits s e =
          rw (to_z-of_z w128 (x i) fx, to_z-of_z w128 (w i) fw, to_z-of_z w128 (x i *ℤ x i) square_fits, to_z-of_z w128 (w i *ℤ (x i *ℤ x i)) term_fits) (next_fits s e)

      pub read_next : (s : ℤ) → s ≡ total i (λ j. w j *ℤ square (x j)) →
          read (s +ℤ read (read (w i) *ℤ read (read (x i) *ℤ read (x i)))) ≡ total (i + 1) (λ j. w j *ℤ square (x j))
      read_next s e =
          rw (to_z-of_z w128 (x i) fx, to_z-of_z w128 (w i) fw, to_z-of_z w128 (x i *ℤ x i) square_fits, to_z-of_z w128 (w i *ℤ (x i *ℤ x i)) term_fits)
          (to_z-of_z w128 _ (next_fits s e) ∙ next s e)
