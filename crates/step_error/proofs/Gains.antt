-- The sum that a plan entry is the floor of, as the gains of all columns against what they are times.
use Rattle.std.proofs.Common.{◌≡◌, ℕ, ◌+◌, ◌-◌, ◌^◌, ◌<◌, ◌≤◌, [], ◌∷◌, ℤ, pos, ◌+ℤ◌, ◌*ℤ◌, ◌≤ℤ◌, neg_ℤ, List, length, nat_lt, arith, ap, sym, ◌∙◌, refl}
use Rattle.std.specs.Prelude.{◌==◌, if◌then◌else◌}
use Rattle.std.proofs.lemmas.Bool.{lt-ltb, le-ltb, eq-eqb, ne_eqb}
use Rattle.integer_algebra.specs.Sums.{total, dot, image, at}
use Rattle.integer_algebra.specs.Division.{floor_of}
use Rattle.integer_algebra.proofs.SumLaws.{total_same, total_more, total_scale}
use Rattle.integer_algebra.proofs.BlockLaws.{total_append}
use Rattle.integer_algebra.proofs.DivisionLaws.{floor_of_is}
use Rattle.std.proofs.lemmas.Nat.{pow-add}
use Rattle.std.proofs.lemmas.List.Elements.{All-get_or}
use Rattle.integer_algebra.proofs.OrderLaws.{le_by, le_of_lt_z}
use Rattle.integer_algebra.proofs.PowerLaws.{pow_positive}
use Rattle.integer_algebra.proofs.Quoting.{by_ring, quotes}
use Rattle.mat_int.specs.Matrix.{Matrix, row_of, entry_of}
use Rattle.mat_int.proofs.Indices.{dot_is}
use Rattle.qp_model.specs.machine.Controller.{Numbers, HasShape, IsShaped, plan_length}
use Rattle.qp_model.specs.machine.Machine.{entry_sum, plan_entry}
use Rattle.qp_model.specs.bounds.Built.{gain_column}
use Rattle.step_error.specs.Machine.{pulls}

-- ---- a branch that is taken, and one that isn't
pub below : (i n : ℕ) (x y : ℤ) → i < n → (if nat_lt i n then x else y) ≡ x
below i n x y h = rw (lt-ltb i n h) refl

pub beyond : (i n : ℕ) (x y : ℤ) → n ≤ i → (if nat_lt i n then x else y) ≡ y
beyond i n x y h = rw (le-ltb i n h) refl

pub same : (i n : ℕ) (x y : ℤ) → i ≡ n → (if i == n then x else y) ≡ x
same i n x y h = rw (eq-eqb i n h) refl

pub other : (i n : ℕ) (x y : ℤ) → n < i → (if i == n then x else y) ≡ y
other i n x y h = rw (let ne : (i ≡ n → ⊥) = λ e. omega arith in ne_eqb i n ne) refl

-- ---- each column
pub state_gain : (c : Numbers) (i j : ℕ) → i < c.states → gain_column c i j ≡ entry_of c.state_gains j i
state_gain c i j h = below i c.states _ _ h

pub own_gain : (c : Numbers) (j : ℕ) → gain_column c c.states j ≡ at c.offsets j
own_gain c j = beyond c.states c.states _ _ (omega arith) ∙ same c.states c.states _ _ refl

pub row_gain : (c : Numbers) (i j : ℕ) → gain_column c (c.states + 1 + i) j ≡ entry_of c.dual_gains j i
row_gain c i j = beyond (c.states + 1 + i) c.states _ _ (omega arith) ∙ other (c.states + 1 + i) c.states _ _ (omega arith)
    ∙ ap (λ (k : ℕ). entry_of c.dual_gains j k) (let e : c.states + 1 + i - (c.states + 1) ≡ i = omega arith in e)

pub state_pull : (c : Numbers) (x l : List ℤ) (i : ℕ) → i < c.states → pulls c x l i ≡ pos (2 ^ c.step_exponent) *ℤ at x i
state_pull c x l i h = below i c.states _ _ h

pub own_pull : (c : Numbers) (x l : List ℤ) → pulls c x l c.states ≡ pos (2 ^ (c.fraction_bits + c.step_exponent))
own_pull c x l = beyond c.states c.states _ _ (omega arith) ∙ same c.states c.states _ _ refl

pub row_pull : (c : Numbers) (x l : List ℤ) (i : ℕ) → pulls c x l (c.states + 1 + i) ≡ at l i
row_pull c x l i = beyond (c.states + 1 + i) c.states _ _ (omega arith) ∙ other (c.states + 1 + i) c.states _ _ (omega arith)
    ∙ ap (λ (k : ℕ). at l k) (let e : c.states + 1 + i - (c.states + 1) ≡ i = omega arith in e)

-- a sum over all columns, in its three parts
pub over_columns : (n m : ℕ) (f : ℕ → ℤ) → total (n + 1 + m) f ≡ total n f +ℤ f n +ℤ total m (λ i. f (n + 1 + i))
over_columns n m f = total_append (n + 1) m f ∙ ap (λ (z : ℤ). z +ℤ total m (λ i. f (n + 1 + i))) (total_more n f)

-- ---- the sum of a plan entry
closed : (a s o k b : ℤ) {w : ℤ} → w ≡ k *ℤ s → (a +ℤ o *ℤ k) *ℤ s +ℤ b ≡ s *ℤ a +ℤ o *ℤ w +ℤ b
closed a s o k b e = rw e (by_ring (a ∷ s ∷ o ∷ k ∷ b ∷ []) (search quotes depth 60 fits 20000) refl)

pub row_length : (a : Matrix) (n w i : ℕ) → HasShape a n w → i < n → length (row_of a i) ≡ w
row_length a n w i shape h = All-get_or (λ row. length row ≡ w) a.rows i [] (omega (arith, shape.rows)) shape.each

-- the three parts, column by column
parts : (c : Numbers) (x l : List ℤ) (j : ℕ) →
    total c.states (λ i. gain_column c i j *ℤ pulls c x l i) +ℤ gain_column c c.states j *ℤ pulls c x l c.states +ℤ
    total c.rows (λ i. gain_column c (c.states + 1 + i) j *ℤ pulls c x l (c.states + 1 + i)) ≡
    pos (2 ^ c.step_exponent) *ℤ dot c.states (entry_of c.state_gains j) (at x) +ℤ
    at c.offsets j *ℤ pos (2 ^ (c.fraction_bits + c.step_exponent)) +ℤ dot c.rows (entry_of c.dual_gains j) (at l)
parts c x l j = joined _ _ _ _ _ _ states own rows
  where
    turn : (g s x : ℤ) → g *ℤ (s *ℤ x) ≡ s *ℤ (g *ℤ x)
    turn g s x = by_ring (g ∷ s ∷ x ∷ []) (search quotes depth 60 fits 20000) refl

    joined : (a b e a' b' e' : ℤ) → a ≡ a' → b ≡ b' → e ≡ e' → a +ℤ b +ℤ e ≡ a' +ℤ b' +ℤ e'
    joined a b e a' b' e' h k m = rw (h, k, m) refl

    states : total c.states (λ i. gain_column c i j *ℤ pulls c x l i) ≡ pos (2 ^ c.step_exponent) *ℤ dot c.states (entry_of c.state_gains j) (at x)
    states = total_same c.states _ _ (λ i h. rw (state_gain c i j h, state_pull c x l i h) (turn (entry_of c.state_gains j i) (pos (2 ^ c.step_exponent)) (at x i)))
        ∙ total_scale c.states (pos (2 ^ c.step_exponent)) (λ i. entry_of c.state_gains j i *ℤ at x i)

    own : gain_column c c.states j *ℤ pulls c x l c.states ≡ at c.offsets j *ℤ pos (2 ^ (c.fraction_bits + c.step_exponent))
    own = rw (own_gain c j, own_pull c x l) refl

    rows : total c.rows (λ i. gain_column c (c.states + 1 + i) j *ℤ pulls c x l (c.states + 1 + i)) ≡ dot c.rows (entry_of c.dual_gains j) (at l)
    rows = total_same c.rows _ _ (λ i h. rw (row_gain c i j, row_pull c x l i) refl)

pub entry_sum_is : (c : Numbers) (x l : List ℤ) (j : ℕ) → IsShaped c → length x ≡ c.states → length l ≡ c.rows → j < plan_length c →
    entry_sum c x l j ≡ image (c.states + 1 + c.rows) (λ j i. gain_column c i j) (pulls c x l) j
entry_sum_is c x l j shaped hx hl inside =
    let hs = row_length c.state_gains (plan_length c) c.states j shaped.state_gains inside in
    let hd = row_length c.dual_gains (plan_length c) c.rows j shaped.dual_gains inside in
    rw (dot_is c.states (row_of c.state_gains j) x hs hx, dot_is c.rows (row_of c.dual_gains j) l hd hl)
    (closed (dot c.states (entry_of c.state_gains j) (at x)) (pos (2 ^ c.step_exponent)) (at c.offsets j) (pos (2 ^ c.fraction_bits)) (dot c.rows (entry_of c.dual_gains j) (at l))
    (ap pos (pow-add 2 c.fraction_bits c.step_exponent))
    ∙ sym (over_columns c.states c.rows (λ i. gain_column c i j *ℤ pulls c x l i) ∙ parts c x l j))

-- ---- the plan entry
-- the rounding of an entry, over the scale
rounding : (z : ℤ) (d : ℕ) → 0 < d → (pos 0 ≤ℤ (pos d *ℤ neg_ℤ (floor_of z d) +ℤ z)) × ((pos d *ℤ neg_ℤ (floor_of z d) +ℤ z) ≤ℤ pos d)
rounding z d h = let k = floor_of_is z d h in
    (le_by k.least (low z (floor_of z d) (pos d)), le_by (le_of_lt_z k.greatest) (high z (floor_of z d) (pos d)))
  where
    low : (z q e : ℤ) → (e *ℤ neg_ℤ q +ℤ z) +ℤ (q *ℤ e) ≡ pos 0 +ℤ z
    low z q e = by_ring (z ∷ q ∷ e ∷ []) (search quotes depth 60 fits 20000) refl

    high : (z q e : ℤ) → e +ℤ z ≡ (e *ℤ neg_ℤ q +ℤ z) +ℤ ((q +ℤ pos 1) *ℤ e)
    high z q e = by_ring (z ∷ q ∷ e ∷ []) (search quotes depth 60 fits 20000) refl

pub plan_entry_is : (c : Numbers) (x l : List ℤ) (j : ℕ) → IsShaped c → length x ≡ c.states → length l ≡ c.rows → j < plan_length c →
    let scale = pos (2 ^ (c.fraction_bits + c.step_exponent)) in
    let image_is = image (c.states + 1 + c.rows) (λ j i. gain_column c i j) (pulls c x l) j in
    (pos 0 ≤ℤ (scale *ℤ plan_entry c x l j +ℤ image_is)) × ((scale *ℤ plan_entry c x l j +ℤ image_is) ≤ℤ scale)
plan_entry_is c x l j shaped hx hl inside =
    rw (← (entry_sum_is c x l j shaped hx hl inside)) (rounding (entry_sum c x l j) (2 ^ (c.fraction_bits + c.step_exponent)) (pow_positive 2 (c.fraction_bits + c.step_exponent) (omega arith)))
