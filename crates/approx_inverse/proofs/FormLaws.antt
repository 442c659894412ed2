-- What holds of the matrix and the columns as code has them, holds of the condensed form's.
use Rattle.std.specs.Prelude.{Result, Ok, Err, OnOk, IfOk, IfErr, is_ok, Bool, true, false}
use Rattle.std.proofs.lemmas.Bool.{cases_lt}
use Rattle.std.proofs.Common.{inl, inr, ◌≡◌, ◌⊎◌, ℕ, ◌<◌, ◌≤◌, ◌^◌, ℤ, pos, ◌*ℤ◌, ◌≤ℤ◌, List, arith, ap, sym, ◌∙◌, refl}
use Rattle.integer_algebra.specs.Sums.{image, at}
use Rattle.integer_algebra.proofs.SumLaws.{total_same}
use Rattle.integer_algebra.proofs.SizeLaws.{size_same}
use Rattle.std.proofs.lemmas.Grind.{common_steps}
use Rattle.mat_int.specs.Matrix.{Matrix, entry_of, zero_matrix}
use Rattle.qp_model.specs.form.Convex.{IsConvex}
use Rattle.qp_model.specs.declared.quantity.Quantity.{Quantity}
use Rattle.qp_model.specs.declared.quantity.Quantity.TheVariants.{Descent}
use Rattle.qp_model.specs.machine.Controller.{HasShape}
use Rattle.qp_model.specs.form.GoodSolution.{IsGood}
use Rattle.qp_model.specs.form.Form.{Form}
use Rattle.qp_model.specs.form.Columns.{columns, descent_size, solve_matrix, solve_column}
use Rattle.approx_inverse.specs.System.{IsSystem}
use Rattle.approx_inverse.specs.Condensed.{IsMatrixOf}
use Rattle.approx_inverse.specs.DescentSize.{EachWithin, entry_bound, descent_of_column}
use Rattle.approx_inverse.specs.Inverse.{HasGainSizes, IsSolution, SolvesForm}
use Rattle.approx_inverse.specs.Fault.{IsFault}
use Rattle.qp_model.specs.declared.size_fault.SizeFault.{SizeFault}
use Rattle.qp_model.specs.declared.size_fault.SizeFault.TheVariants.{Memory, TooWide}
use Rattle.approx_inverse.specs.declared.inverse.Inverse.{Inverse}
use Rattle.approx_inverse.proofs.SizeLaws.{all_fit, column_among, column_same}

-- ---- equal numbers
pub image_equal : (n : ℕ) (h k : ℕ → ℕ → ℤ) (x y : ℕ → ℤ) (i : ℕ) → i < n → ((i j : ℕ) → i < n → j < n → h i j ≡ k i j) → ((j : ℕ) → j < n → x j ≡ y j) →
    image n h x i ≡ image n k y i
image_equal n h k x y i l e g = total_same n _ _ (λ j m. ap (λ (z : ℤ). z *ℤ x j) (e i j l m) ∙ ap (λ (z : ℤ). k i j *ℤ z) (g j m))

pub convex_same : (n : ℕ) (h k : ℕ → ℕ → ℤ) (floor : ℤ) → ((i j : ℕ) → i < n → j < n → h i j ≡ k i j) → IsConvex n h floor → IsConvex n k floor
convex_same n h k floor e convex = record {
  positive = convex.positive;
  symmetric = λ i j l m. sym (e i j l m) ∙ convex.symmetric i j l m ∙ e j i m l;
  curved = λ d. rw (← (total_same n (λ i. d i *ℤ image n h d i) (λ i. d i *ℤ image n k d i)
      (λ i l. ap (λ (z : ℤ). d i *ℤ z) (image_equal n h k d d i l e (λ j m. refl))))) (convex.curved d);
}

pub good_same : (n : ℕ) (h k : ℕ → ℕ → ℤ) (f : ℕ) (c d x y : ℕ → ℤ) → ((i j : ℕ) → i < n → j < n → h i j ≡ k i j) → ((j : ℕ) → j < n → c j ≡ d j) →
    ((j : ℕ) → j < n → x j ≡ y j) → IsGood n h f c x → IsGood n k f d y
good_same n h k f c d x y e g s good = λ j l. rw (← (image_equal n h k x y j l e s), ← (g j l), ← (e j j l l)) (good j l)

pub within_same : (n a b : ℕ) (x y : ℕ → ℤ) → a ≡ b → ((j : ℕ) → j < n → x j ≡ y j) → EachWithin n a x → EachWithin n b y
within_same n a b x y e s within = λ j l. rw (← e, ← (s j l)) (within j l)

pub bound_same : (n : ℕ) (c d : ℕ → ℤ) (floor : ℤ) (f : ℕ) → ((j : ℕ) → j < n → c j ≡ d j) → entry_bound n c floor f ≡ entry_bound n d floor f
bound_same n c d floor f e = rw (size_same n c d e) refl

-- ---- one column
pub system_from : (h : Form) (m : Matrix) → IsConvex h.entries (solve_matrix h) h.floor → IsMatrixOf h m → IsSystem m h.entries h.floor
system_from h m convex matrix = record {
  rows = matrix.rows;
  cols = matrix.cols;
  convex = convex_same h.entries (solve_matrix h) (entry_of m) h.floor (λ i j l o. sym (matrix.entry i j l o)) convex;
}

pub solution_from : (h : Form) (f i : ℕ) (m : Matrix) (column : List ℤ) (x : ℕ → ℤ) → IsMatrixOf h m → ((j : ℕ) → j < h.entries → at column j ≡ solve_column h i j) →
    IsGood h.entries (entry_of m) f (at column) x → EachWithin h.entries (entry_bound h.entries (at column) h.floor f) x →
    descent_of_column h.entries (entry_of m) (at column) h.floor f ≤ 2 ^ 126 → IsSolution h f i x
solution_from h f i m column x matrix e good within room =
    let n = h.entries in
    record {
      good = good_same n (entry_of m) (solve_matrix h) f (at column) (solve_column h i) x x matrix.entry e (λ j l. refl) good;
      within = rw (← (bound_same n (at column) (solve_column h i) h.floor f e)) within;
      room = rw (← (column_same n (entry_of m) (solve_matrix h) (at column) (solve_column h i) h.floor f matrix.entry e)) room;
    }

-- a column without room
pub wide_from : (h : Form) (f i : ℕ) (m : Matrix) (column : List ℤ) → IsMatrixOf h m → i < columns h → ((j : ℕ) → j < h.entries → at column j ≡ solve_column h i j) →
    2 ^ 126 < descent_of_column h.entries (entry_of m) (at column) h.floor f → 2 ^ 126 < descent_size h f
wide_from h f i m column matrix l e wide =
    let w = rw (column_same h.entries (entry_of m) (solve_matrix h) (at column) (solve_column h i) h.floor f matrix.entry e) at wide in
    omega (arith, w, column_among h f i l)

-- ---- answers
pub on_ok : {T E : Type 0} (r : Result T E) {P : Type 0} → is_ok r ≡ true → OnOk r P → P
on_ok (Ok x) e p = p
on_ok (Err x) e p = absurd (cc)

-- what fits exactly where a call succeeds doesn't fit where it fails
pub not_fit : (n : ℕ) (b : Bool) → b ≡ false → (n ≤ 2 ^ 126 → b ≡ true) → 2 ^ 126 < n
not_fit n b e h = elim (cases_lt (2 ^ 126) n) [
  | inl l ↦ l
  | inr l ↦ absurd (let k = h l in let g = sym e ∙ k in cc)
]

-- a solution's numbers, under another name
pub solution_kept : (h : Form) (f i : ℕ) (x y : ℕ → ℤ) → ((j : ℕ) → j < h.entries → x j ≡ y j) → IsSolution h f i x → IsSolution h f i y
solution_kept h f i x y e is = record {
  good = good_same h.entries (solve_matrix h) (solve_matrix h) f (solve_column h i) (solve_column h i) x y (λ i j l m. refl) (λ j l. refl) e is.good;
  within = within_same h.entries _ _ x y refl e is.within;
  room = is.room;
}

pub if_ok : {T E : Type 0} (r : Result T E) {P Q : T → Type 0} → ((v : T) → P v → Q v) → IfOk r P → IfOk r Q
if_ok (Ok v) h p = h v p
if_ok (Err e) h p = tt

pub if_err : {T E : Type 0} (r : Result T E) {P Q : E → Type 0} → ((e : E) → P e → Q e) → IfErr r P → IfErr r Q
if_err (Ok v) h p = tt
if_err (Err e) h p = h e p

pub ok_gives : {T E : Type 0} (r : Result T E) {P : T → Type 0} {Q : Type 0} → ((v : T) → P v → Q) → IfOk r P → OnOk r Q
ok_gives (Ok v) h p = h v p
ok_gives (Err e) h p = tt

-- a fault tells more
pub fault_gives : (e : SizeFault) {P Q : Type 0} → (P → Q) → IsFault e P → IsFault e Q
fault_gives Memory h p = tt
fault_gives (TooWide q) h p = (p.0, h p.1)

-- what is too wide is refused, unless memory runs out before
pub refusal_of : {T : Type 0} (r : Result T SizeFault) (n : ℕ) → OnOk r (n ≤ 2 ^ 126) → IfErr r (λ e. IsFault e (2 ^ 126 < n)) → 2 ^ 126 < n →
    (r ≡ Err (TooWide Descent)) ⊎ (r ≡ Err Memory)
refusal_of (Ok v) n fits wide h = absurd (omega (arith, fits, h))
refusal_of (Err Memory) n fits wide h = inr refl
refusal_of (Err (TooWide q)) n fits wide h = inl (ap (λ (q : Quantity). Err (TooWide q)) wide.0)

-- where each column has a solution, all have room
pub room_from : (h : Form) (f : ℕ) (v : Inverse) → pos 1 ≤ℤ h.floor → SolvesForm h f v → descent_size h f ≤ 2 ^ 126
room_from h f v positive solves = all_fit h f positive (λ i l. (solves.solved i l).room)

-- the sizes, told by the gains' own
pub sizes_own : (v : Inverse) {k : ℕ} (nu n m : ℕ) → k ≡ nu → HasGainSizes v nu n m → HasGainSizes v k v.p_mat.cols v.w_mat.cols
sizes_own v {k} nu n m e h = rw e (record {
  p_mat = record { rows = h.p_mat.rows; cols = refl; each = rw h.p_mat.cols h.p_mat.each };
  t = h.t;
  w_mat = record { rows = h.w_mat.rows; cols = refl; each = rw h.w_mat.cols h.w_mat.each };
})

-- the shape of zeros
pub zero_shape : (a : Matrix) (height breadth : ℕ) → a ≡ zero_matrix height breadth → HasShape a height breadth
zero_shape a height breadth e = grind (arith, common_steps)
