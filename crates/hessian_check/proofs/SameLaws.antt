-- The tests read the entries below the size alone.
use Rattle.std.proofs.Common.{◌≡◌, inl, inr, ℕ, zero, suc, ◌+◌, ◌*◌, ◌<◌, ◌≤◌, ◌^◌, [], ◌∷◌, ℤ, pos, ◌*ℤ◌, ◌-ℤ◌, unsigned_abs, nat_eq, length, Bool, IsTrue, ◌↔◌, if◌then◌else◌, arith, ap, ap₂, sym, ◌∙◌, refl}
use Rattle.std.specs.Int.{int_max, int_min}
use Rattle.std.proofs.lemmas.Int.{unsigned_abs-mul}
use Rattle.integer_algebra.proofs.Quoting.{by_ring, quotes}
use Rattle.integer_algebra.specs.Bounds.{absolute}
use Rattle.integer_algebra.specs.Sums.{dot}
use Rattle.integer_algebra.proofs.SumLaws.{total_same}
use Rattle.integer_algebra.specs.Division.{floor_of}
use Rattle.mat_int.specs.Matrix.{Matrix, entry_of}
use Rattle.mat_int.specs.Matrix.{HasEntries}
use Rattle.hessian_check.specs.StepMatrices.{mixed}
use Rattle.hessian_check.specs.Dominance.{AreSame, IsSymmetric}
use Rattle.integer_algebra.specs.Matrices.{off_diagonal_sum, IsDominant}
use Rattle.hessian_check.specs.Recipe.{top, low, IsStart, IsPart, IsRow, IsRecipeRoot, diagonal_reserve, scaled_up}
use Rattle.qp_model.specs.bounds.Least.{IsLeast}
use Rattle.hessian_check.specs.Curvature.{HasPassingRoot, HasPassingRootBelow, IsAccepted, IsChosen, IsDominantAt, IsFirst}
use Rattle.hessian_check.proofs.PassLaws.{passes_same, same_back}

-- a factor
pub same_scaled : (n : ℕ) (p : ℤ) (m w : ℕ → ℕ → ℤ) → AreSame n m w → AreSame n (scaled_up p m) (scaled_up p w)
same_scaled n p m w h = record { is = λ i j k l. ap (λ (z : ℤ). p *ℤ z) (h.is i j k l) }

pub dominant_moved : (n : ℕ) (m w : ℕ → ℕ → ℤ) → AreSame n m w → IsDominant n m → IsDominant n w
dominant_moved n m w h p i k = rw (← (h.is i i k k), ← others_same) (p i k)
  where
    others_same : off_diagonal_sum n m i ≡ off_diagonal_sum n w i
    others_same = total_same n _ _ (λ j l. ap (λ (x : ℤ). if nat_eq j i then pos 0 else absolute x) (h.is i j k l))

top_same : (n k : ℕ) (m w : ℕ → ℕ → ℤ) → k ≤ n → AreSame n m w → top k m ≡ top k w
top_same n zero m w l h = refl
top_same n (suc k) m w l h = ap₂ int_max (top_same n k m w (omega arith) h) (h.is k k (omega arith) (omega arith))

low_same : (t u : ℤ) (n k : ℕ) (m w : ℕ → ℕ → ℤ) → t ≡ u → k ≤ n → AreSame n m w → low t k m ≡ low u k w
low_same t u n zero m w e l h = e
low_same t u n (suc k) m w e l h = ap₂ int_min (low_same t u n k m w e (omega arith) h) (h.is k k (omega arith) (omega arith))

start_moved : (n : ℕ) (m w : ℕ → ℕ → ℤ) → AreSame n m w → IsStart n m → IsStart n w
start_moved n m w h s =
    let e = top_same n n m w (omega arith) h in
    record {
      filled = s.filled;
      positive = λ i l. rw (← (h.is i i l l)) (s.positive i l);
      small = rw (← e) s.small;
      inside = λ i k j l. rw (← (h.is i j k l), ← e) (s.inside i k j l);
    }

part_moved : (n : ℕ) (b c : ℕ → ℕ → ℤ) (mu : ℤ) (r : ℕ → ℕ → ℤ) (i j : ℕ) → i < n → j ≤ i → AreSame n b c → IsPart b mu r i j → IsPart c mu r i j
part_moved n b c mu r i j l o h p = record {
  made = λ k t. p.made k t ∙ ap (λ (z : ℤ). floor_of (z -ℤ dot k (r i) (r k)) (unsigned_abs (r k k))) (h.is i k l (omega arith));
  small = p.small;
  stays = λ k t. rw (← (h.is i i l l)) (p.stays k t);
}

row_moved : (n : ℕ) (b c : ℕ → ℕ → ℤ) (mu : ℤ) (r : ℕ → ℕ → ℤ) (i : ℕ) → i < n → AreSame n b c → IsRow n b mu r i → IsRow n c mu r i
row_moved n b c mu r i l h p = record {
  part = part_moved n b c mu r i i l (omega arith) h p.part;
  positive = rw (← (h.is i i l l)) p.positive;
  own = rw (← (h.is i i l l)) p.own;
  nonzero = p.nonzero;
  above = p.above;
}

pub root_moved : (n : ℕ) (m w : ℕ → ℕ → ℤ) (s : ℕ) (r : ℕ → ℕ → ℤ) → AreSame n m w → IsRecipeRoot n m s r → IsRecipeRoot n w s r
root_moved n m w s r h p =
    let e = top_same n n m w (omega arith) h in
    let mu : diagonal_reserve (pos (4 ^ s)) n m ≡ diagonal_reserve (pos (4 ^ s)) n w =
    ap (λ (z : ℤ). floor_of (pos (4 ^ s) *ℤ z) 4096) (low_same (top n m) (top n w) n n m w e (omega arith) h) in
    record {
      start = start_moved n m w h p.start;
      shift = rw (← e) p.shift;
      rows = λ i l. rw (← mu) (row_moved n (scaled_up (pos (4 ^ s)) m) (scaled_up (pos (4 ^ s)) w) (diagonal_reserve (pos (4 ^ s)) n m) r i l (same_scaled n (pos (4 ^ s)) m w h) (p.rows i l));
    }

pub certified_moved : (n : ℕ) (m w : ℕ → ℕ → ℤ) → AreSame n m w → HasPassingRoot n m → HasPassingRoot n w
certified_moved n m w h c = record {
  shift = c.shift;
  root = c.root;
  is_root = root_moved n m w c.shift c.root h c.is_root;
  passes = passes_same n (scaled_up (pos (4 ^ c.shift)) m) (scaled_up (pos (4 ^ c.shift)) w) c.root c.root (same_scaled n (pos (4 ^ c.shift)) m w h) (record { is = λ i j k l. refl }) c.passes;
}

pub accepted_moved : (n : ℕ) (m w : ℕ → ℕ → ℤ) → AreSame n m w → IsAccepted n m → IsAccepted n w
accepted_moved n m w h (inl t) = inl (dominant_moved n m w h t)
accepted_moved n m w h (inr t) = inr (certified_moved n m w h t)

-- a matrix with the entries of an index function
pub has_same : (n : ℕ) (f : ℕ → ℕ → ℤ) (m : Matrix) → HasEntries n n f m → AreSame n (entry_of m) f
has_same n f m h = record { is = h.entries }

-- what a test tells of it, it tells of the function
pub dominant_told : (n : ℕ) (f : ℕ → ℕ → ℤ) (m : Matrix) (b : Bool) → HasEntries n n f m →
    (IsTrue b ↔ IsDominant (length m.rows) (entry_of m)) → IsTrue b ↔ IsDominant n f
dominant_told n f m b h t =
    let s = has_same n f m h in
    (λ y. dominant_moved n (entry_of m) f s (rw h.rows at (t.0 y)), λ d. t.1 (rw h.rows (dominant_moved n f (entry_of m) (same_back n (entry_of m) f s) d)))

pub certified_told : (n : ℕ) (f : ℕ → ℕ → ℤ) (m : Matrix) (b : Bool) → HasEntries n n f m →
    (IsTrue b ↔ HasPassingRoot (length m.rows) (entry_of m)) → IsTrue b ↔ HasPassingRoot n f
certified_told n f m b h t =
    let s = has_same n f m h in
    (λ y. certified_moved n (entry_of m) f s (rw h.rows at (t.0 y)), λ d. t.1 (rw h.rows (certified_moved n f (entry_of m) (same_back n (entry_of m) f s) d)))

-- the least number that a loop finds
pub found : (p : ℕ → Type 0) (s end : ℕ) → s < end → ((k : ℕ) → k < s → ¬ p k) → p s → (s < end) × IsLeast p s
found p s end l none y = (l, record { holds = y; least = none })

-- a matrix with a factor, as a difference
pub raised_same : (n : ℕ) (m w : Matrix) (p : ℤ) → HasEntries n n (mixed p (entry_of m) (pos 0) (entry_of m)) w → AreSame n (entry_of w) (scaled_up p (entry_of m))
raised_same n m w p h = record { is = λ i j k l. h.entries i j k l ∙ less (p *ℤ entry_of m i j) (entry_of m i j) }
  where
    less : (x y : ℤ) → x -ℤ pos 0 *ℤ y ≡ x
    less x y = by_ring (x ∷ y ∷ []) (search quotes depth 60 fits 20000) refl

pub raised_turned : (n : ℕ) (m w : Matrix) (p : ℤ) → AreSame n (entry_of w) (scaled_up p (entry_of m)) → IsSymmetric n (entry_of m) → IsSymmetric n (entry_of w)
raised_turned n m w p h s i j k l = h.is i j k l ∙ ap (λ (z : ℤ). p *ℤ z) (s i j k l) ∙ sym (h.is j i l k)

pub raised_room : (x y : ℤ) → unsigned_abs (x *ℤ y) < 2 ^ 117 → unsigned_abs x * unsigned_abs y + 0 * unsigned_abs y < 2 ^ 127
raised_room x y h = let e = unsigned_abs-mul x y in omega (arith, e, h)

-- ---- families of matrices
least_moved : (p q : ℕ → Type 0) (s : ℕ) → ((k : ℕ) → p k → q k) → ((k : ℕ) → q k → p k) → IsLeast p s → IsLeast q s
least_moved p q s f g h = record { holds = f s h.holds; least = λ k l t. h.least k l (g k t) }

pub first_moved : (n : ℕ) (m w : ℕ → ℕ → ℕ → ℤ) (covers : ℕ → Type 0) (s1 : ℕ) → ((s : ℕ) → AreSame n (m s) (w s)) → IsFirst n m covers s1 → IsFirst n w covers s1
first_moved n m w covers s1 h f = record {
  squares = f.squares;
  by_squares = f.by_squares;
  lesser = elim f.lesser [
    | inl d ↦ inl (d.0, least_moved (IsDominantAt n m) (IsDominantAt n w) d.0 there back d.1, d.2)
    | inr d ↦ inr ((λ k t. d.0 k (back k t)), d.1)
  ];
}
  where
    there : (k : ℕ) → IsDominantAt n m k → IsDominantAt n w k
    there k t = (t.0, dominant_moved n (m k) (w k) (h k) t.1)

    back : (k : ℕ) → IsDominantAt n w k → IsDominantAt n m k
    back k t = (t.0, dominant_moved n (w k) (m k) (same_back n (m k) (w k) (h k)) t.1)

pub chosen_moved : (n : ℕ) (m w : ℕ → ℕ → ℕ → ℤ) (s1 s : ℕ) → ((s : ℕ) → AreSame n (m s) (w s)) → IsChosen n m s1 s → IsChosen n w s1 s
chosen_moved n m w s1 s h c = elim c [
  | inl k ↦ inl (least_moved (HasPassingRootBelow n m s1) (HasPassingRootBelow n w s1) s
      (λ k t. (t.0, certified_moved n (m k) (w k) (h k) t.1)) (λ k t. (t.0, certified_moved n (w k) (m k) (same_back n (m k) (w k) (h k)) t.1)) k)
  | inr k ↦ inr ((λ j t. k.0 j (t.0, certified_moved n (w j) (m j) (same_back n (m j) (w j) (h j)) t.1)), k.1)
]
