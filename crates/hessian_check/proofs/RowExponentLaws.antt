-- The exponents of the rows, which are lowered in their order.
use Rattle.std.proofs.Common.{◌≡◌, ◌≢◌, inl, inr, ℕ, zero, suc, ◌+◌, ◌-◌, ◌*◌, ◌<◌, ◌≤◌, ◌^◌, Bool, true, false, ℤ, pos, ◌*ℤ◌, ◌-ℤ◌, unsigned_abs, List, replicate, arith, ap, ap₂, sym, subst, ◌∙◌, refl}
use Rattle.std.proofs.lemmas.Bool.{cases_eq, cases_lt, eq-eqb, le-ltb, lt-ltb, ne_eqb}
use Rattle.std.proofs.lemmas.List.{ext_get_or, get_or-replicate}
use Rattle.integer_algebra.specs.Sizes.{amount}
use Rattle.integer_algebra.specs.Sums.{square}
use Rattle.integer_algebra.proofs.SizeLaws.{amount_same}
use Rattle.integer_algebra.proofs.SumLaws.{total_same}
use Rattle.frac_scaled.specs.Enclosures.{Enclosure}
use Rattle.qp_model.specs.declared.design_parts.DesignParts.{DesignParts}
use Rattle.qp_model.specs.form.Class.{form_in, form_of}
use Rattle.qp_model.specs.form.Condensing.{condensed_of}
use Rattle.qp_model.specs.form.Curvature.{AreExponents, IsExponent, row_change}
use Rattle.qp_model.specs.problem.Design.{Design, entries, rows}
use Rattle.qp_model.specs.form.FineForm.{fine_form}
use Rattle.qp_model.specs.form.FineSizes.{is_fine}
use Rattle.qp_model.specs.form.Form.{IsFormFor}
use Rattle.qp_model.specs.problem.Limits.{text_version}
use Rattle.qp_model.specs.problem.Parts.{IsDesign, design_of}
use Rattle.hessian_check.specs.Curvature.{Curved, HeldMatrices, difference, exponent_matrix, radius_of}
use Rattle.hessian_check.specs.Dominance.{AreSame}
use Rattle.hessian_check.specs.RowExponents.{AreLowered, AreRowExponents, exponent_in, IsAcceptedAt, IsLowered, OneListLaw, RowExponentLaw, tested}
use Rattle.hessian_check.specs.Steps.{held_by, IsExponentOf, row_enclosure, row_products, rows_matrix, rows_matrix_in, weighted_of}
use Rattle.hessian_check.proofs.ExponentLaws.{rows_law, step_law}
use Rattle.hessian_check.proofs.HeldMatrices.{gram_same, lowered_same}
use Rattle.hessian_check.proofs.SameLaws.{accepted_moved}

-- ---- lists that agree at each row
pub exponents_same : (d : Design) (s t : ℕ → ℕ) (most : ℕ) → ((i : ℕ) → i < rows d → s i ≡ t i) → AreExponents d s most → AreExponents d t most
exponents_same d s t most e h = record {
  bounded = λ i l. rw (← (e i l)) (h.bounded i l);
  descent = λ v. rw (← (total_same (rows d) (λ i. pos (2 ^ (most - s i)) *ℤ square (row_change d v i)) (λ i. pos (2 ^ (most - t i)) *ℤ square (row_change d v i))
      (λ i l. ap (λ (n : ℕ). pos (2 ^ (most - n)) *ℤ square (row_change d v i)) (e i l)))) (h.descent v);
}

-- what is held of rows that count as often
module _ (d : Design) (w v : ℕ → ℕ) (e : (l : ℕ) → l < rows d → w l ≡ v l) where
  products_same : (i j : ℕ) → row_products (fine_form d) w i j ≡ row_products (fine_form d) v i j
  products_same i j = gram_same (rows d) (λ l. pos (w l)) (λ l. pos (v l)) (row_enclosure (fine_form d)) (row_enclosure (fine_form d)) i j (λ l o. ap pos (e l o)) (λ l o. (refl, refl))

  held_same : (fine : Bool) (i j : ℕ) → ((held_by fine d w).products i j ≡ (held_by fine d v).products i j) × ((held_by fine d w).products_radius i j ≡ (held_by fine d v).products_radius i j)
  held_same true i j = (ap (λ (x : Enclosure). x.mid) (products_same i j), ap (λ (x : Enclosure). unsigned_abs x.rad) (products_same i j))
  held_same false i j = (total_same (rows d) _ _ (λ l o. ap (λ (n : ℕ). pos n *ℤ ((condensed_of d).by_plan l i *ℤ (condensed_of d).by_plan l j)) (e l o)), refl)

-- a matrix of it, by what it is made of
matrix_same : (c : Curved) (h k : HeldMatrices) (s i j : ℕ) → h.half i j ≡ k.half i j → h.products i j ≡ k.products i j →
    ((l : ℕ) → h.half_radius i l ≡ k.half_radius i l) → ((l : ℕ) → h.products_radius i l ≡ k.products_radius i l) → exponent_matrix c h s i j ≡ exponent_matrix c k s i j
matrix_same c h k s i j half products half_radius products_radius =
    lowered_same (difference (square c.limit_den) (c.weight_den *ℤ square c.cost_row_den) h.half h.products s)
    (difference (square c.limit_den) (c.weight_den *ℤ square c.cost_row_den) k.half k.products s)
    (λ i. amount c.entries (radius_of c h s i)) (λ i. amount c.entries (radius_of c k s i)) i j
    (ap₂ (λ (x : ℤ) (y : ℤ). pos (2 ^ s) *ℤ square c.limit_den *ℤ x -ℤ c.weight_den *ℤ square c.cost_row_den *ℤ y) half products)
    (amount_same c.entries _ _ (λ l o. ap₂ (λ (x : ℕ) (y : ℕ). 2 ^ s * unsigned_abs c.limit_den ^ 2 * x + unsigned_abs c.weight_den * unsigned_abs c.cost_row_den ^ 2 * y)
    (half_radius l) (products_radius l)))

pub rows_matrix_same : (fine : Bool) (d : Design) (s t : ℕ → ℕ) (most : ℕ) → ((l : ℕ) → l < rows d → s l ≡ t l) →
    AreSame (entries d) (rows_matrix_in fine d s most) (rows_matrix_in fine d t most)
rows_matrix_same fine d s t most e = record { is = λ i j k l. one fine i j }
  where
    weight : (ℕ → ℕ) → ℕ → ℕ
    weight r l = 2 ^ (most - r l)

    equal : (l : ℕ) → l < rows d → weight s l ≡ weight t l
    equal l o = ap (λ (n : ℕ). 2 ^ (most - n)) (e l o)

    one : (fine : Bool) (i j : ℕ) → rows_matrix_in fine d s most i j ≡ rows_matrix_in fine d t most i j
    one true i j = matrix_same (weighted_of d (weight s)) (held_by true d (weight s)) (held_by true d (weight t)) most i j refl (held_same d (weight s) (weight t) equal true i j).0
        (λ l. refl) (λ l. (held_same d (weight s) (weight t) equal true i l).1)
    one false i j = matrix_same (weighted_of d (weight s)) (held_by false d (weight s)) (held_by false d (weight t)) most i j refl (held_same d (weight s) (weight t) equal false i j).0
        (λ l. refl) (λ l. (held_same d (weight s) (weight t) equal false i l).1)

-- ---- the list that is tested for a row
pub tested_before : (es : List ℕ) (i e s l : ℕ) → l < i → tested es i e s l ≡ exponent_in es l
tested_before es i e s l h = rw (lt-ltb l i h) refl

pub tested_own : (es : List ℕ) (i e s l : ℕ) → l ≡ i → tested es i e s l ≡ e
tested_own es i e s l h = rw (le-ltb l i (omega (arith, h)), eq-eqb l i h) refl

pub tested_after : (es : List ℕ) (i e s l : ℕ) → i < l → tested es i e s l ≡ s
tested_after es i e s l h = rw (le-ltb l i (omega (arith, h)), ne_eqb l i (λ g. clash g h)) refl
  where
    clash : l ≡ i → i < l → ⊥
    clash g h = omega (arith, g, h)

-- it depends on the rows before alone
pub tested_same : (es other : List ℕ) (i e s l : ℕ) → ((l : ℕ) → l < i → exponent_in es l ≡ exponent_in other l) → tested es i e s l ≡ tested other i e s l
tested_same es other i e s l h = elim (cases_lt l i) [
  | inl o ↦ tested_before es i e s l o ∙ h l o ∙ sym (tested_before other i e s l o)
  | inr o ↦ rw (le-ltb l i o) refl
]

-- where the rows after were not lowered, it is the whole list
tested_whole : (es : List ℕ) (i s n l : ℕ) → ((l : ℕ) → i < l → l < n → exponent_in es l ≡ s) → l < n → tested es i (exponent_in es i) s l ≡ exponent_in es l
tested_whole es i s n l h o = elim (cases_lt l i) [
  | inl b ↦ tested_before es i (exponent_in es i) s l b
  | inr b ↦ elim (cases_eq l i) [
    | inl q ↦ tested_own es i (exponent_in es i) s l q ∙ ap (exponent_in es) (sym q)
    | inr q ↦ let a : i < l = omega (arith, b, q) in tested_after es i (exponent_in es i) s l a ∙ sym (h l a o)
  ]
]

-- ---- the exponents of a list are curvature exponents
module _ (p : DesignParts) (h : IsDesign p) (g : IsFormFor (design_of p) (form_of (design_of p))) (s : ℕ) (own : IsExponent (design_of p) s) (es : List ℕ) where
  -- no row was lowered
  same_exponents : ((l : ℕ) → l < rows (design_of p) → exponent_in es l ≡ s) → AreExponents (design_of p) (exponent_in es) s
  same_exponents e = exponents_same (design_of p) (λ l. s) (exponent_in es) s (λ l o. sym (e l o)) own

  module _ (low : AreLowered (design_of p) s es) where
    -- row i was, and none after it
    last_lowered : (i : ℕ) → i < rows (design_of p) → exponent_in es i ≢ s → ((l : ℕ) → i < l → l < rows (design_of p) → exponent_in es l ≡ s) →
        AreExponents (design_of p) (exponent_in es) s
    last_lowered i o n after =
        let row = low.each i o in
        let whole = λ (l : ℕ) (t : l < rows (design_of p)). tested_whole es i s (rows (design_of p)) l after t in
        let fine_form_for : is_fine (design_of p) ≡ true → IsFormFor (design_of p) (fine_form (design_of p)) =
        λ e. subst (λ (fine : Bool). IsFormFor (design_of p) (form_in fine (design_of p))) e g in
        exponents_same (design_of p) (tested es i (exponent_in es i) s) (exponent_in es) s whole
        (rows_law (is_fine (design_of p)) p h fine_form_for (tested es i (exponent_in es i) s) s (λ l t. rw (whole l t) (low.each l t).high)
        (row.accepted (exponent_in es i) (omega arith) (omega (arith, row.high, n))))

    -- the rows from n on were not lowered
    lowered_below : (n : ℕ) → n ≤ rows (design_of p) → ((l : ℕ) → n ≤ l → l < rows (design_of p) → exponent_in es l ≡ s) → AreExponents (design_of p) (exponent_in es) s
    lowered_below zero o after = same_exponents (λ l t. after l (omega arith) t)
    lowered_below (suc n) o after = elim (cases_eq (exponent_in es n) s) [
      | inl e ↦ lowered_below n (omega (arith, o)) (λ l t b. elim (cases_eq l n) [ inl q ↦ ap (exponent_in es) q ∙ e | inr q ↦ after l (omega (arith, t, q)) b ])
      | inr e ↦ last_lowered n (omega (arith, o)) e (λ l t b. after l (omega (arith, t)) b)
    ]

    lowered_exponents : AreExponents (design_of p) (exponent_in es) s
    lowered_exponents = lowered_below (rows (design_of p)) (omega arith) (λ l t b. absurd (omega (arith, t, b)))

  replicated : es ≡ replicate (rows (design_of p)) s → AreExponents (design_of p) (exponent_in es) s
  replicated e = same_exponents (λ l o. rw e (get_or-replicate (rows (design_of p)) l s 0 o))

  by_room : AreRowExponents (design_of p) s es → AreExponents (design_of p) (exponent_in es) s
  by_room (inl r) = lowered_exponents r.1
  by_room (inr r) = replicated r.1

-- of the design's step exponent, whatever the version
pub row_list_law : (p : DesignParts) → IsDesign p → IsFormFor (design_of p) (form_of (design_of p)) → (s : ℕ) → IsExponentOf (design_of p) s →
    (es : List ℕ) → AreRowExponents (design_of p) s es → AreExponents (design_of p) (exponent_in es) s
row_list_law p h g s x es k = by_room p h g s (step_law p h g x.plain s x.is_plain x.is_step).1 es k

pub row_exponent_law : RowExponentLaw
row_exponent_law p h g s1 s plain step es k = elim (cases_eq (design_of p).version text_version) [
  | inl e ↦ replicated p h g s own es (k.first e)
  | inr e ↦ by_room p h g s own es (k.second e)
]
  where
    own : IsExponent (design_of p) s
    own = (step_law p h g s1 s plain step).1

-- ---- there is one list
pub accepted_same : (d : Design) (s : ℕ) (es other : List ℕ) (i e : ℕ) → ((l : ℕ) → l < i → exponent_in es l ≡ exponent_in other l) → IsAcceptedAt d es i e s → IsAcceptedAt d other i e s
accepted_same d s es other i e h k = accepted_moved (entries d) (rows_matrix d (tested es i e s) s) (rows_matrix d (tested other i e s) s)
    (rows_matrix_same (is_fine d) d (tested es i e s) (tested other i e s) s (λ l o. tested_same es other i e s l h)) k

-- neither of two lowerings of a row ends above the other
lowered-le : (d : Design) (s : ℕ) (es other : List ℕ) (i e f : ℕ) → ((l : ℕ) → l < i → exponent_in es l ≡ exponent_in other l) →
    IsLowered d s es i e → IsLowered d s other i f → f ≤ e
lowered-le d s es other i e f h a b = elim (cases_lt e f) [
  | inr o ↦ o
  | inl o ↦ elim b.last [
    | inl q ↦ absurd (omega (arith, a.low, q, o))
    | inr n ↦ absurd (n (accepted_same d s es other i (f - 1) h (a.accepted (f - 1) (omega (arith, o)) (omega (arith, o, b.high)))))
  ]
]

module _ (d : Design) (s : ℕ) (es other : List ℕ) (a : AreLowered d s es) (b : AreLowered d s other) where
  -- where the rows before row n agree, it does
  agree_here : (n : ℕ) → n < rows d → ((l : ℕ) → l < n → exponent_in es l ≡ exponent_in other l) → exponent_in es n ≡ exponent_in other n
  agree_here n o before =
      let x = lowered-le d s es other n _ _ before (a.each n o) (b.each n o) in
      let y = lowered-le d s other es n _ _ (λ l q. sym (before l q)) (b.each n o) (a.each n o) in
      omega (arith, x, y)

  agree : (n : ℕ) → n ≤ rows d → (l : ℕ) → l < n → exponent_in es l ≡ exponent_in other l
  agree zero o l t = absurd (omega (arith, t))
  agree (suc n) o l t = elim (cases_lt l n) [
    | inl q ↦ agree n (omega (arith, o)) l q
    | inr q ↦ let e : l ≡ n = omega (arith, q, t) in ap (exponent_in es) e ∙ agree_here n (omega (arith, o)) (agree n (omega (arith, o))) ∙ ap (exponent_in other) (sym e)
  ]

  one_lowered : es ≡ other
  one_lowered = ext_get_or 0 es other (a.long ∙ sym b.long) (λ l t. agree (rows d) (omega arith) l (omega (arith, t, a.long)))

one_by_room : (d : Design) (s : ℕ) (es other : List ℕ) → AreRowExponents d s es → AreRowExponents d s other → es ≡ other
one_by_room d s es other (inl a) (inl b) = one_lowered d s es other a.1 b.1
one_by_room d s es other (inl a) (inr b) = absurd (b.0 a.0)
one_by_room d s es other (inr a) (inl b) = absurd (a.0 b.0)
one_by_room d s es other (inr a) (inr b) = a.1 ∙ sym b.1

pub one_list_law : OneListLaw
one_list_law d s es other a b = elim (cases_eq d.version text_version) [
  | inl e ↦ a.first e ∙ sym (b.first e)
  | inr e ↦ one_by_room d s es other (a.second e) (b.second e)
]
