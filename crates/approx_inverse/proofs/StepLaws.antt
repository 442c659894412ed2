-- A move of one entry, on the words of a region.
use Rattle.std.proofs.Common.{◌≡◌, ℕ, ◌+◌, ◌<◌, ℤ, pos, ◌-ℤ◌, ◌*ℤ◌, ◌<ℤ◌, List, length, set, FitsSigned, arith, ◌∙◌}
use Rattle.std.specs.Int.{w128}
use Rattle.integer_algebra.specs.Sums.{at}
use Rattle.integer_algebra.specs.Bounds.{absolute}
use Rattle.mat_int.specs.Matrix.{Matrix, row_of, entry_of}
use Rattle.word_region.specs.Words.{RegionWords}
use Rattle.word_region.specs.declared.Span.{Span}
use Rattle.approx_inverse.specs.Descent.{IsDescent, IsNearestQuotient, IsTask, aim, value}
use Rattle.approx_inverse.specs.Spans.{ArePlaced, AreKept, IsSpanWritten, cells}
use Rattle.approx_inverse.proofs.MoveLaws.{entry_fits, product_fits, rest_fits, arrives}
use Rattle.approx_inverse.proofs.WordLaws.{moved, rest_stays}

-- what a move leaves
pub record IsStepped (h : Matrix) (c : List ℤ) (f : ℕ) (w w2 : RegionWords) (x r : Span) : Type 0 where
  pub descent : IsDescent (length c) (entry_of h) (aim f c) (cells w2.words x.start) (cells w2.words r.start)
  pub lower : value (length c) (entry_of h) (aim f c) (cells w2.words x.start) <ℤ value (length c) (entry_of h) (aim f c) (cells w.words x.start)
  pub kept : AreKept w w2 x r

module _ (h : Matrix) (c : List ℤ) (floor : ℤ) (f : ℕ) (w : RegionWords) (x r : Span) (j : ℕ) (t : ℤ)
    (task : IsTask h c floor f) (placed : ArePlaced w x r (length c))
    (at_x : IsDescent (length c) (entry_of h) (aim f c) (cells w.words x.start) (cells w.words r.start)) (l : j < length c)
    (near : IsNearestQuotient (cells w.words r.start j) (entry_of h j j) t) (wide : entry_of h j j <ℤ (pos 2 *ℤ absolute (cells w.words r.start j))) where
  abbrev n : ℕ
  n = length c

  abbrev at_r : ℕ → ℤ
  at_r = cells w.words r.start

  pub entry_room : FitsSigned w128 (cells w.words x.start j -ℤ t)
  entry_room = entry_fits n (entry_of h) (aim f c) (cells w.words x.start) at_r j t floor l task.convex at_x near wide task.roomy

  pub product_room : (k : ℕ) → k < r.len → FitsSigned w128 (t *ℤ at (row_of h j) k)
  product_room k m = product_fits n (entry_of h) (aim f c) (cells w.words x.start) at_r j t floor l task.convex at_x near wide task.roomy k (omega (arith, placed.r_len))

  module _ (w1 : RegionWords) (z : ℤ) (e : w1 ≡ record w { words = set w.words (x.start + j) z }) where
    pub rest_room : (k : ℕ) → k < r.len → FitsSigned w128 (cells w1.words r.start k -ℤ t *ℤ at (row_of h j) k)
    rest_room k m = rw (rest_stays w w1 x r n j k z placed l e)
        (rest_fits n (entry_of h) (aim f c) (cells w.words x.start) at_r j t floor l task.convex at_x near wide task.roomy k (omega (arith, placed.r_len)))

    pub stepped : (w2 : RegionWords) → z ≡ cells w.words x.start j -ℤ t → IsSpanWritten w1 w2 r (λ k. cells w1.words r.start k -ℤ t *ℤ at (row_of h j) k) → IsStepped h c f w w2 x r
    stepped w2 is taken =
        let m = moved w w1 w2 x r n j t z (row_of h j) placed l e taken in
        let there = arrives n (entry_of h) (aim f c) (cells w.words x.start) at_r j t floor l task.convex at_x near wide
        (cells w2.words x.start) (cells w2.words r.start) (m.at_j ∙ is) m.others m.rest in
        record { descent = there.0; lower = there.1; kept = m.kept }
