-- The violations of the rows, as the code has them.
use Rattle.std.proofs.Common.{◌≡◌, ℕ, zero, suc, ◌+◌, ◌<◌, ◌==◌, ℤ, pos, List, [], ◌∷◌, ◌++◌, length, get_or, take, codes, if◌then◌else◌, refl, ap, ◌∙◌, arith, ◌≢◌}
use Rattle.std.proofs.lemmas.Bool.{ne_eqb}
use Rattle.number_text.specs.Lines.{line_of}
use Rattle.qp_model.specs.bounds.Printed.{printed}
use Rattle.qp_model.specs.declared.bounds.Bounds.{Bounds}
use Rattle.bound_report.specs.Report.{numbered_violations, violation_lines, Each, row_members}

-- the line of row k, where the first row's number is i
abbrev pub line_at : ℕ → List ℤ → ℕ → List ℕ
line_at i vs k = line_of (codes "violation") (pos (k + i) ∷ get_or vs k (pos 0) ∷ pos 1099511627776 ∷ [])

-- one more line
pub line_more : (i : ℕ) (vs : List ℤ) (k : ℕ) → k < length vs → numbered_violations i (take (k + 1) vs) ≡ numbered_violations i (take k vs) ++ line_at i vs k ∷ []
line_more i [] k l = absurd (omega arith)
line_more i (v ∷ vs) zero l =
    let e : i ≡ 0 + i = omega arith in
    ap (λ (n : ℕ). line_of (codes "violation") (pos n ∷ v ∷ pos 1099511627776 ∷ []) ∷ []) e
line_more i (v ∷ vs) (suc k) l =
    let e : k + suc i ≡ suc k + i = omega arith in
    let more : suc k + 1 ≡ suc (k + 1) = omega arith in
    let first : List ℕ = line_of (codes "violation") (pos i ∷ v ∷ pos 1099511627776 ∷ []) in
    ap (λ (n : ℕ). numbered_violations i (take n (v ∷ vs))) more
    ∙ ap (λ (ls : List (List ℕ)). first ∷ ls) (line_more (suc i) vs k (omega arith))
    ∙ ap (λ (n : ℕ). first ∷ numbered_violations (suc i) (take k vs) ++ line_of (codes "violation") (pos n ∷ get_or vs k (pos 0) ∷ pos 1099511627776 ∷ []) ∷ []) e

-- what a version that isn't the first one gives
by_other : {X : Type 0} (version : ℕ) (first other : X) → version ≢ 1 → (if version == 1 then first else other) ≡ other
by_other version first other h = rw (ne_eqb version 1 h) refl

-- the lines of the rows, and their member
pub rows_told : (b : Bounds) → b.version ≢ 1 → violation_lines (printed b) ≡ numbered_violations 1 b.rows.items
rows_told b h = by_other b.version _ _ h

pub rows_member : (b : Bounds) → b.version ≢ 1 → row_members (printed b) ≡ (codes "violations", Each b.rows.items) ∷ []
rows_member b h = by_other b.version _ _ h
