-- Matrices of enclosures, filled by columns.
use Rattle.std.proofs.Common.{◌≡◌, ℕ, ◌+◌, ◌-◌, ◌*◌, ◌^◌, ◌<◌, ◌≤◌, List, ℤ, pos, length, get_or, Fits, w64, add-one, arith, ap, ap₂, sym, subst, ◌∙◌, refl}
use mathlib.Core.Path.{fun_ext}
use Rattle.std.proofs.Math.Nat.{mul-le-mul}
use Rattle.std.proofs.lemmas.Bool.{lt-ltb, le-ltb}
use Rattle.std.proofs.lemmas.List.{get_or-map, length-map}
use Rattle.std.specs.Prelude.{Result, IfOk}
use Rattle.std.proofs.lemmas.Result.{IfOk-weaker}
use Rattle.integer_algebra.specs.Sums.{none}
use Rattle.frac_scaled.specs.Enclosures.{Enclosure}
use Rattle.mat_int.specs.Matrix.{Matrix, with_entry, zero_matrix}
use Rattle.enclosure.specs.declared.types.Enc.{Enc}
use Rattle.enclosure.specs.Values.{pair_at}
use Rattle.enclosure.proofs.SumLaws.{pair_at_is}
use Rattle.qp_model.specs.declared.design_parts.DesignParts.{DesignParts}
use Rattle.qp_model.specs.problem.Design.{entries, rows}
use Rattle.qp_model.specs.problem.Parts.{design_of, IsDesign}
use Rattle.qp_model.proofs.VersionLaws.{design_states_le, design_stages_le, design_rows_le}
use Rattle.qp_model.specs.form.Quantities.{cost_width, limit_width}
use Rattle.qp_model.specs.problem.Runs.{unit, counts, Holds}
use Rattle.qp_model.specs.form.FineForm.{counted_row, fine_cost, fine_limit}
use Rattle.scaled_run.specs.ScaledForm.{whole, wholes_over, scaled_costs}
use Rattle.condensed_form.specs.Lists.{with_column}
use Rattle.scaled_run.specs.Lists.{HoldsEnclosures}
use Rattle.scaled_condense.specs.Lists.{IsRunOver, HoldsEncMatrix, mids, rads}
use Rattle.condensed_form.proofs.ColumnFacts.{column_written, zero_holds}

zero : Enc
zero = record { mid = pos 0; rad = pos 0; nonnegative = omega arith }

-- ---- one entry of a column
pub mid_set : (m old new : Matrix) (i j : ℕ) (xs : List Enc) (v : Enc) → v ≡ get_or xs i v → i < length xs → old ≡ with_column i m j (mids xs) → new ≡ with_entry old i j v.mid →
    new ≡ with_column (i + 1) m j (mids xs)
mid_set m old new i j xs v is l h e = rw add-one (e ∙ ap₂ (λ (o : Matrix) (z : ℤ). with_entry o i j z) h (ap (λ (x : Enc). x.mid) is ∙ sym (get_or-map (λ (x : Enc). x.mid) xs i v (pos 0) l)))

pub rad_set : (m old new : Matrix) (i j : ℕ) (xs : List Enc) (v : Enc) → v ≡ get_or xs i v → i < length xs → old ≡ with_column i m j (rads xs) → new ≡ with_entry old i j v.rad →
    new ≡ with_column (i + 1) m j (rads xs)
rad_set m old new i j xs v is l h e = rw add-one (e ∙ ap₂ (λ (o : Matrix) (z : ℤ). with_entry o i j z) h (ap (λ (x : Enc). x.rad) is ∙ sym (get_or-map (λ (x : Enc). x.rad) xs i v (pos 0) l)))

-- ---- a column
pub mids_hold : (xs : List Enc) (n : ℕ) (f : ℕ → Enclosure) → HoldsEnclosures xs n f → Holds (mids xs) n (λ i. (f i).mid)
mids_hold xs n f h = record {
  long = length-map xs (λ (x : Enc). x.mid) ∙ h.long;
  is = λ i l. get_or-map (λ (x : Enc). x.mid) xs i zero (pos 0) (omega (arith, h.long)) ∙ ap (λ (e : Enclosure). e.mid) (sym (pair_at_is xs i zero (omega (arith, h.long))) ∙ h.is i l);
}

pub rads_hold : (xs : List Enc) (n : ℕ) (f : ℕ → Enclosure) → HoldsEnclosures xs n f → Holds (rads xs) n (λ i. (f i).rad)
rads_hold xs n f h = record {
  long = length-map xs (λ (x : Enc). x.rad) ∙ h.long;
  is = λ i l. get_or-map (λ (x : Enc). x.rad) xs i zero (pos 0) (omega (arith, h.long)) ∙ ap (λ (e : Enclosure). e.rad) (sym (pair_at_is xs i zero (omega (arith, h.long))) ∙ h.is i l);
}

pub enclosures_written : (mid rad new_mid new_rad : Matrix) (height width j : ℕ) (f : ℕ → ℕ → Enclosure) (xs : List Enc) →
    new_mid ≡ with_column (length xs) mid j (mids xs) → new_rad ≡ with_column (length xs) rad j (rads xs) → j < width →
    HoldsEnclosures xs height (λ i. f i j) → HoldsEncMatrix mid rad height width j f → HoldsEncMatrix new_mid new_rad height width (j + 1) f
enclosures_written mid rad new_mid new_rad height width j f xs e g l h p = record {
  mids = column_written mid new_mid height width j (length xs) (λ i k. (f i k).mid) (mids xs) e h.long l (mids_hold xs height (λ i. f i j) h) p.mids;
  rads = column_written rad new_rad height width j (length xs) (λ i k. (f i k).rad) (rads xs) g h.long l (rads_hold xs height (λ i. f i j) h) p.rads;
}

-- before the first
pub enclosures_zero : (mid rad : Matrix) (count height width : ℕ) (f : ℕ → ℕ → Enclosure) → count ≡ height → mid ≡ zero_matrix count width → rad ≡ zero_matrix count width →
    HoldsEncMatrix mid rad height width 0 f
enclosures_zero mid rad count height width f n e g = record {
  mids = rw (e, n) (zero_holds height width (λ i j. (f i j).mid));
  rads = rw (g, n) (zero_holds height width (λ i j. (f i j).rad));
}

-- a column has a number for each row
pub column_long : (mid rad : Matrix) (height width known : ℕ) (f : ℕ → ℕ → Enclosure) (xs : List Enc) (g : ℕ → Enclosure) → HoldsEnclosures xs height g →
    HoldsEncMatrix mid rad height width known f → length xs ≡ length mid.rows
column_long mid rad height width known f xs g h p = h.long ∙ sym p.mids.long

-- also where it was perhaps not made
pub column_rows : {V E : Type 0} (r : Result V E) (items : V → List Enc) (mid rad : Matrix) (height width known : ℕ) (f : ℕ → ℕ → Enclosure) (g : ℕ → Enclosure) →
    IfOk r (λ v. HoldsEnclosures (items v) height g) → HoldsEncMatrix mid rad height width known f → IfOk r (λ v. length (items v) ≡ length mid.rows)
column_rows r items mid rad height width known f g h p =
    IfOk-weaker r _ (λ v. length (items v) ≡ length mid.rows) (λ v held. column_long mid rad height width known f (items v) g held p) h

-- and its place is in the matrix
pub column_inside : (mid rad : Matrix) (height width known j : ℕ) (f : ℕ → ℕ → Enclosure) → HoldsEncMatrix mid rad height width known f → j < width → j < mid.cols
column_inside mid rad height width known j f p l = rw p.mids.wide l

-- at the end of a loop
pub all_columns : (mid rad : Matrix) (height width k n : ℕ) (f : ℕ → ℕ → Enclosure) → k ≤ n → n ≤ k → HoldsEncMatrix mid rad height width k f → HoldsEncMatrix mid rad height width n f
all_columns mid rad height width k n f l m p = subst (λ (i : ℕ). HoldsEncMatrix mid rad height width i f) (same k n l m) p
  where
    same : (k n : ℕ) → k ≤ n → n ≤ k → k ≡ n
    same k n l m = omega arith

-- ---- counts of columns fit a word
module _ (p : DesignParts) (h : IsDesign p) where
  few_entries : p.stages * p.inputs ≤ 90
  few_entries = few (mul-le-mul (design_stages_le p h) h.inputs.1)
    where
      few : {n : ℕ} → n ≤ 30 * 3 → n ≤ 90
      few l = omega (arith, l)

  under : (a b : ℕ) → a ≤ 90 → b ≤ 6 → a + b + 1 < 2 ^ 64
  under a b l m = omega arith

  both_under : p.stages * p.inputs + p.states + 1 < 2 ^ 64
  both_under = under (p.stages * p.inputs) p.states few_entries (design_states_le p h)

  pub entries_fit : Fits w64 (p.stages * p.inputs)
  entries_fit = record { fits = part (p.stages * p.inputs) p.states both_under }
    where
      part : (a b : ℕ) → a + b + 1 < 2 ^ 64 → a < 2 ^ 64
      part a b l = omega arith

  pub states_fit : Fits w64 (p.stages * p.inputs + p.states)
  states_fit = record { fits = part (p.stages * p.inputs + p.states) both_under }
    where
      part : (a : ℕ) → a + 1 < 2 ^ 64 → a < 2 ^ 64
      part a l = omega arith

  pub width_fits : Fits w64 (p.stages * p.inputs + p.states + 1)
  width_fits = record { fits = both_under }

  -- and so do counts of numbers
  pub area_fits : Fits w64 (p.stages * p.inputs * (p.stages * p.inputs + p.states + 1))
  area_fits = record { fits = area (p.stages * p.inputs) p.states few_entries (design_states_le p h) }
    where
      area : (a b : ℕ) → a ≤ 90 → b ≤ 6 → a * (a + b + 1) < 2 ^ 64
      area a b l m = last (mul-le-mul l (wide l m))
        where
          wide : a ≤ 90 → b ≤ 6 → a + b + 1 ≤ 97
          wide l m = omega (arith, l, m)

          last : {n : ℕ} → n ≤ 90 * 97 → n < 2 ^ 64
          last l = omega (arith, l)

  pub rows_area_fits : (n : ℕ) → n ≡ rows (design_of p) → Fits w64 ((p.stages * p.inputs + p.states + 1) * n)
  rows_area_fits n e = record { fits = rw e (area (p.stages * p.inputs) p.states (rows (design_of p)) few_entries (design_states_le p h) (design_rows_le p h)) }
    where
      area : (a b m : ℕ) → a ≤ 90 → b ≤ 6 → m ≤ 372 → (a + b + 1) * m < 2 ^ 64
      area a b m l k o = last (mul-le-mul (wide l k) o)
        where
          wide : a ≤ 90 → b ≤ 6 → a + b + 1 ≤ 97
          wide l k = omega (arith, l, k)

          last : {n : ℕ} → n ≤ 97 * 372 → n < 2 ^ 64
          last l = omega (arith, l)

-- ---- which column a run gives
module _ (m reach : ℕ) (p q : DesignParts) (x v : ℕ → ℤ) (first : ℕ) (start plan : List Enc) (made : IsRunOver m reach p x v q first start plan) where
  -- what holds of the run holds of one that is written from the design
  written : (Q : DesignParts → ℕ → (x v : ℕ → Enclosure) → Type 0) → Q q first (pair_at start) (pair_at plan) → Q p reach (wholes_over m x) (wholes_over m v)
  written Q h = subst (λ (z : ℕ → Enclosure). Q p reach (wholes_over m x) z) made.plan (subst (λ (z : ℕ → Enclosure). Q p reach z (pair_at plan)) made.start
      (subst (λ (n : ℕ). Q p n (pair_at start) (pair_at plan)) made.first (subst (λ (r : DesignParts). Q r first (pair_at start) (pair_at plan)) made.parts h)))

  -- and the other way round
  made_of : (Q : DesignParts → ℕ → Type 0) → Q p reach → Q q first
  made_of Q h = subst (λ (r : DesignParts). Q r first) (sym made.parts) (subst (λ (n : ℕ). Q p n) (sym made.first) h)

  pub cost_fits : cost_width (design_of p) * reach ≤ 2 ^ 126 → cost_width (design_of q) * first ≤ 2 ^ 126
  cost_fits = made_of (λ (r : DesignParts) (n : ℕ). cost_width (design_of r) * n ≤ 2 ^ 126)

  pub limit_fits : limit_width (design_of p) * reach ≤ 2 ^ 126 → limit_width (design_of q) * first ≤ 2 ^ 126
  limit_fits = made_of (λ (r : DesignParts) (n : ℕ). limit_width (design_of r) * n ≤ 2 ^ 126)

  module _ (P : ℕ → (ℕ → Enclosure) → Type 0) where
    pub cost_to : P (counts (design_of q)) (fine_cost (design_of q) (pair_at start) (pair_at plan)) → P (counts (design_of p)) (fine_cost (design_of p) (wholes_over m x) (wholes_over m v))
    cost_to = written (λ (r : DesignParts) (n : ℕ) (x v : ℕ → Enclosure). P (counts (design_of r)) (fine_cost (design_of r) x v))

    pub limit_to : P (rows (design_of q)) (fine_limit (design_of q) (pair_at start) (pair_at plan)) → P (rows (design_of p)) (fine_limit (design_of p) (wholes_over m x) (wholes_over m v))
    limit_to = written (λ (r : DesignParts) (n : ℕ) (x v : ℕ → Enclosure). P (rows (design_of r)) (fine_limit (design_of r) x v))

-- that a run's rows fit, where it was perhaps not made
module _ (m reach : ℕ) {R E : Type 0} (run : Result R E) (parts : R → DesignParts) (first : R → ℕ) (start plan : R → List Enc) (p : DesignParts) (x v : ℕ → ℤ) where
  pub costs_fit : cost_width (design_of p) * reach ≤ 2 ^ 126 → IfOk run (λ r. IsRunOver m reach p x v (parts r) (first r) (start r) (plan r)) →
      IfOk run (λ r. cost_width (design_of (parts r)) * first r ≤ 2 ^ 126)
  costs_fit l h = IfOk-weaker run _ (λ r. cost_width (design_of (parts r)) * first r ≤ 2 ^ 126)
      (λ r made. cost_fits m reach p (parts r) x v (first r) (start r) (plan r) made l) h

  pub limits_fit : limit_width (design_of p) * reach ≤ 2 ^ 126 → IfOk run (λ r. IsRunOver m reach p x v (parts r) (first r) (start r) (plan r)) →
      IfOk run (λ r. limit_width (design_of (parts r)) * first r ≤ 2 ^ 126)
  limits_fit l h = IfOk-weaker run _ (λ r. limit_width (design_of (parts r)) * first r ≤ 2 ^ 126)
      (λ r made. limit_fits m reach p (parts r) x v (first r) (start r) (plan r) made l) h

-- a cost column by its place
module _ (m : ℕ) (P : (ℕ → Enclosure) → Type 0) (p : DesignParts) (j : ℕ) where
  pub plan_cost_to : j < entries (design_of p) → P (fine_cost (design_of p) (wholes_over m none) (wholes_over m (unit j))) → P (λ c. scaled_costs m (design_of p) c j)
  plan_cost_to l h = subst P (sym (fun_ext (λ c. column c))) h
    where
      column : (c : ℕ) → scaled_costs m (design_of p) c j ≡ fine_cost (design_of p) (wholes_over m none) (wholes_over m (unit j)) c
      column c = rw (lt-ltb j (entries (design_of p)) l) refl

  pub state_cost_to : entries (design_of p) ≤ j → j < entries (design_of p) + p.states →
      P (fine_cost (design_of p) (wholes_over m (unit (j - entries (design_of p)))) (wholes_over m none)) → P (λ c. scaled_costs m (design_of p) c j)
  state_cost_to l o h = subst P (sym (fun_ext (λ c. column c))) h
    where
      column : (c : ℕ) → scaled_costs m (design_of p) c j ≡ fine_cost (design_of p) (wholes_over m (unit (j - entries (design_of p)))) (wholes_over m none) c
      column c = rw (le-ltb j (entries (design_of p)) l, lt-ltb j (entries (design_of p) + p.states) o) refl

  pub target_to : entries (design_of p) ≤ j → entries (design_of p) + p.states ≤ j →
      P (λ c. whole m (counted_row (design_of p) c).target) → P (λ c. scaled_costs m (design_of p) c j)
  target_to l o h = subst P (sym (fun_ext (λ c. column c))) h
    where
      column : (c : ℕ) → scaled_costs m (design_of p) c j ≡ whole m (counted_row (design_of p) c).target
      column c = rw (le-ltb j (entries (design_of p)) l, le-ltb j (entries (design_of p) + p.states) o) refl
