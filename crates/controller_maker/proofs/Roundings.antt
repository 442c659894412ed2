-- Rows that are rounded: room, one more row, and the numbers of a condensed form as a design's.
use Rattle.std.proofs.Common.{◌≡◌, inl, inr, ℕ, ◌+◌, ◌^◌, ◌<◌, ◌≤◌, ℤ, pos, ◌*ℤ◌, ◌≤ℤ◌, [], ◌∷◌, ◌++◌, List, length, get_or, unsigned_abs, FitsSigned, arith, refl, ap, sym, subst, ◌∙◌}
use Rattle.std.specs.Prelude.{All}
use Rattle.std.specs.Int.{w128}
use Rattle.std.proofs.lemmas.Int.{fits_signed_mul}
use Rattle.std.proofs.lemmas.Bool.{cases_lt}
use Rattle.std.proofs.lemmas.List.{get_or_append_left, get_or_push, length_push}
use Rattle.std.proofs.lemmas.List.Elements.{All-nil, All-cons, All-append}
use Rattle.std.proofs.Math.Nat.{pow-le-pow_right}
use Rattle.integer_algebra.specs.Sums.{at}
use Rattle.integer_algebra.specs.Division.{round_of}
use Rattle.mat_int.specs.Matrix.{Matrix, entry_of, HasEntries}
use Rattle.qp_model.specs.problem.Design.{entries, rows}
use Rattle.qp_model.specs.problem.Parts.{design_of}
use Rattle.qp_model.specs.problem.Runs.{Holds}
use Rattle.qp_model.specs.declared.design_parts.DesignParts.{DesignParts}
use Rattle.condensed_form.specs.Form.{IsFormOf}
use Rattle.condensed_form.proofs.FormSums.{plan_entry, state_entry, bound_entry}
use Rattle.condensed_form.specs.declared.condensed.Condensed.{Condensed}
use Rattle.controller_maker.specs.Assembled.{AreRowsOf}
use Rattle.controller_maker.specs.declared.rounding.Rows.{Rows}

-- a small number times 2^f fits
pub scaled_fits : (x : ℤ) (f : ℕ) → unsigned_abs x ≤ 2 ^ 63 → f ≤ 48 → FitsSigned w128 (x *ℤ pos (2 ^ f))
scaled_fits x f h k = fits_signed_mul w128 x (pos (2 ^ f)) (2 ^ 63) (2 ^ 48) h (pow-le-pow_right {n = 2} (omega arith) k) (omega arith)

-- one more row
pub entries_more : (old new : Matrix) (line : List ℤ) (i w : ℕ) (g : ℕ → ℕ → ℤ) → new ≡ record old { rows = old.rows ++ line ∷ [] } → length line ≡ w →
    ((j : ℕ) → j < w → at line j ≡ g i j) → HasEntries i w g old → HasEntries (i + 1) w g new
entries_more old new line i w g e long here held = record {
  rows = ap (λ (x : Matrix). length x.rows) e ∙ length_push old.rows line ∙ ap (λ n. n + 1) held.rows;
  cols = ap (λ (x : Matrix). x.cols) e ∙ held.cols;
  even = subst (λ (x : Matrix). All (λ row. length row ≡ w) x.rows) (sym e)
      (All-append (λ row. length row ≡ w) old.rows (line ∷ []) held.even (All-cons (λ row. length row ≡ w) line [] long (All-nil (λ row. length row ≡ w))));
  entries = λ a b l m. elim (cases_lt a i) [
    | inl o ↦ ap (λ (rows : List (List ℤ)). get_or (get_or rows a []) b (pos 0)) (ap (λ (x : Matrix). x.rows) e) ∙
        ap (λ (row : List ℤ). at row b) (get_or_append_left old.rows (line ∷ []) [] a (omega (arith, held.rows))) ∙ held.entries a b o m
    | inr o ↦ (let is : a ≡ i = omega arith in
        ap (λ (rows : List (List ℤ)). get_or (get_or rows a []) b (pos 0)) (ap (λ (x : Matrix). x.rows) e) ∙
        ap (λ (row : List ℤ). at row b) (get_or_push old.rows line [] a (omega (arith, held.rows))) ∙ here b m ∙ ap (λ (n : ℕ). g n b) (sym is))
  ];
}

-- ---- the numbers of a condensed form
-- rounded, they are a design's
rounded_same : (den : ℤ) (scale f : ℕ) (x y : ℤ) → unsigned_abs den ≡ scale → x ≡ y → round_of (pos (2 ^ f) *ℤ x) (unsigned_abs den) ≡ round_of (pos (2 ^ f) *ℤ y) scale
rounded_same den scale f x y e g = rw (e, g) refl

entries_same : (h w a b : ℕ) (f g : ℕ → ℕ → ℤ) (m : Matrix) → h ≡ a → w ≡ b → ((i j : ℕ) → i < a → j < b → f i j ≡ g i j) → HasEntries h w f m → HasEntries a b g m
entries_same h w a b f g m e k same held = record {
  rows = held.rows ∙ e;
  cols = held.cols ∙ k;
  even = rw k at held.even;
  entries = λ i j l o. held.entries i j (omega (arith, e)) (omega (arith, k)) ∙ same i j l o;
}

holds_same : (n m : ℕ) (xs : List ℤ) (f g : ℕ → ℤ) → n ≡ m → ((i : ℕ) → i < m → f i ≡ g i) → Holds xs n f → Holds xs m g
holds_same n m xs f g e same held = record { long = held.long ∙ e; is = λ i l. held.is i (omega (arith, e)) ∙ same i l }

-- what rounding each number of a form makes
pub record AreRounded (c : Condensed) (f : ℕ) (r : Rows) : Type 0 where
  pub plan : HasEntries (length c.g.rows) c.g.cols (λ i j. round_of (pos (2 ^ f) *ℤ entry_of c.g i j) (unsigned_abs c.row_den)) r.g_mat
  pub state : HasEntries (length c.e.rows) c.e.cols (λ i j. round_of (pos (2 ^ f) *ℤ entry_of c.e i j) (unsigned_abs c.row_den)) r.e_mat
  pub bound : Holds r.bound.items (length c.bound.items) (λ i. round_of (pos (2 ^ f) *ℤ at c.bound.items i) (unsigned_abs c.row_den))

pub rows_from : (p : DesignParts) (c : Condensed) (f : ℕ) (r : Rows) → IsFormOf p c → AreRounded c f r → AreRowsOf (design_of p) f r
rows_from p c f r is made =
    let d = design_of p in
    let same = is.same in
    let ranges = is.encloses.encloses in
    let den = same.rows_scale in
    record {
      plan = entries_same _ _ (rows d) (entries d) _ _ r.g_mat is.shapes.g.rows is.shapes.g.cols
          (λ i j l o. rounded_same c.row_den _ f _ _ den (same.by_plan i j (rw ranges.row_count l) (rw ranges.entry_count o))) made.plan;
      state = entries_same _ _ (rows d) d.states _ _ r.e_mat is.shapes.e.rows is.shapes.e.cols
          (λ i j l o. rounded_same c.row_den _ f _ _ den (same.by_state i j (rw ranges.row_count l) (rw ranges.state_count o))) made.state;
      bound = holds_same _ (rows d) r.bound.items _ _ is.shapes.bound
          (λ i l. rounded_same c.row_den _ f _ _ den (same.bound i (rw ranges.row_count l))) made.bound;
    }

-- ---- what rounding asks
pub den_positive : (p : DesignParts) (c : Condensed) → IsFormOf p c → pos 1 ≤ℤ c.row_den
den_positive p c is = is.denominators.row_den

pub plan_small : (p : DesignParts) (c : Condensed) → IsFormOf p c → (i j : ℕ) → i < length c.g.rows → j < c.g.cols → unsigned_abs (entry_of c.g i j) ≤ 2 ^ 63
plan_small p c is i j l m = plan_entry _ p c is i j (omega (arith, is.shapes.g.rows)) (omega (arith, is.shapes.g.cols))

pub state_small : (p : DesignParts) (c : Condensed) → IsFormOf p c → (i j : ℕ) → i < length c.e.rows → j < c.e.cols → unsigned_abs (entry_of c.e i j) ≤ 2 ^ 63
state_small p c is i j l m = state_entry _ p c is i j (omega (arith, is.shapes.e.rows)) (omega (arith, is.shapes.e.cols))

pub bound_small : (p : DesignParts) (c : Condensed) → IsFormOf p c → (i : ℕ) → i < length c.bound.items → unsigned_abs (at c.bound.items i) ≤ 2 ^ 63
bound_small p c is i l = bound_entry _ p c is i (omega (arith, is.shapes.bound))
