-- The rows of a design's form while their exponents are lowered one after the other.
use Rattle.std.proofs.Common.{◌≡◌, ◌≢◌, ◌↔◌, inl, inr, ℕ, ◌+◌, ◌-◌, ◌*◌, ◌<◌, ◌≤◌, ◌^◌, ◌%◌, min, ℤ, Bool, List, [], ◌∷◌, ◌++◌, length, replicate, Vec, Some, None, IsTrue, arith, add-one, ap, subst, sym, ◌∙◌, refl}
use Rattle.std.specs.Prelude.{Result, Ok, Err, IfOk}
use Rattle.std.specs.declared.alloc.AllocError.{AllocError}
use Rattle.std.specs.declared.alloc.Global.{Global}
use Rattle.std.proofs.Math.Nat.{pow-le-pow_right, pow-suc}
use Rattle.std.proofs.lemmas.Bool.{cases_eq, cases_lt}
use Rattle.std.proofs.lemmas.List.{get_or_append_left, get_or_push, length_push}
use Rattle.integer_algebra.specs.Matrices.{IsDominant}
use Rattle.mat_int.specs.Matrix.{Matrix, entry_of, HasEntries}
use Rattle.mat_int.specs.Enclosures.{AreEnclosures, enclosure_at, HasEnclosures}
use Rattle.qp_model.specs.declared.design_parts.DesignParts.{DesignParts}
use Rattle.qp_model.specs.form.Class.{CoversSquares, form_of, HasLoweringRoom, row_quantity, rows_in}
use Rattle.qp_model.specs.form.Curvature.{AreExponents}
use Rattle.qp_model.specs.form.CurvatureSize.{covering_exponent}
use Rattle.qp_model.specs.problem.Design.{Design, entries, rows}
use Rattle.qp_model.specs.form.FineSizes.{is_fine}
use Rattle.qp_model.specs.problem.Parts.{design_of}
use Rattle.enclosure.specs.declared.types.EncMat.{EncMat}
use Rattle.condensed_form.specs.declared.condensed.Condensed.{Condensed}
use Rattle.condensed_form.specs.Form.{IsFormOf}
use Rattle.condensed_form.proofs.LeastLaws.{exponent_is}
use Rattle.hessian_check.specs.declared.matrices.StepMatrices.{StepMatrices}
use Rattle.hessian_check.specs.Curvature.{HasPassingRoot, IsAccepted, IsChosen, IsFirst}
use Rattle.hessian_check.specs.DesignMatrices.{AreMatricesOf, IsRowMatrix}
use Rattle.hessian_check.specs.Lowering.{AreFirstLowered, AreSumsToTest, AreTestedSums, HasCostMatrix, IsReadyToLower, tested_weight}
use Rattle.hessian_check.specs.MatrixRoom.{HasMatrixRoom, matrix_at}
use Rattle.hessian_check.specs.RowExponents.{AreLowered, AreRowExponents, exponent_in, IsAcceptedAt, IsLowered, tested}
use Rattle.hessian_check.specs.RowSums.{AreRowSums, HasRoomFor, HaveSumRoom, more_sum, sums_matrix}
use Rattle.hessian_check.specs.StepMatrices.{AreMatrices}
use Rattle.hessian_check.specs.Steps.{IsExponentOf, rows_matrix, step_matrix}
use Rattle.hessian_check.proofs.FormMatrices.{matrices_are, matrices_held}
use Rattle.hessian_check.proofs.PassLaws.{same_back}
use Rattle.hessian_check.proofs.RowExponentLaws.{accepted_same, row_list_law, tested_after, tested_before, tested_own}
use Rattle.hessian_check.proofs.RowMatrices.{have_room, room_for, row_matrix_is}
use Rattle.hessian_check.proofs.RowSumLaws.{sums_more, sums_same}
use Rattle.hessian_check.proofs.SameLaws.{accepted_moved, certified_told}
use Rattle.hessian_check.proofs.StepAnswers.{at-le}

-- ---- the test of a matrix that is not dominant
pub accepted_told : (n : ℕ) (f : ℕ → ℕ → ℤ) (m : Matrix) → HasEntries n n f m → ¬ IsDominant n f → (r : Result Bool AllocError) →
    IfOk r (λ b. IsTrue b ↔ HasPassingRoot (length m.rows) (entry_of m)) → IfOk r (λ b. IsTrue b ↔ IsAccepted n f)
accepted_told n f m h k (Ok b) t =
    let told = certified_told n f m b h t in
    (λ y. inr (told.0 y), λ a. elim a [ inl d ↦ absurd (k d) | inr p ↦ told.1 p ])
accepted_told n f m h k (Err e) t = t

-- ---- the step exponent is at most what the squares ask, and at most 40
chosen_below : (n : ℕ) (m : ℕ → ℕ → ℕ → ℤ) (s1 s : ℕ) → IsChosen n m s1 s → s ≤ s1
chosen_below n m s1 s c = elim c [ inl k ↦ omega (arith, k.holds.0) | inr k ↦ omega (arith, k.1) ]

first_below : (n : ℕ) (m : ℕ → ℕ → ℕ → ℤ) (covers : ℕ → Type 0) (s1 : ℕ) (f : IsFirst n m covers s1) → s1 ≤ f.squares
first_below n m covers s1 f = elim f.lesser [ inl k ↦ omega (arith, k.2) | inr k ↦ omega (arith, k.1) ]

pub exponent_small : (d : Design) (s : ℕ) → IsExponentOf d s → s ≤ 40
exponent_small d s x = let c = chosen_below (entries d) (step_matrix d) x.plain s x.is_step in omega (arith, c, x.limit)

exponent_covers : (d : Design) (s : ℕ) → IsExponentOf d s → s ≤ covering_exponent d (form_of d)
exponent_covers d s x =
    let f = x.is_plain in
    let a = chosen_below (entries d) (step_matrix d) x.plain s x.is_step in
    let b = first_below (entries d) (step_matrix d) (CoversSquares d) x.plain f in
    elim (cases_lt f.squares 41) [
      | inl l ↦ (let e = exponent_is d (form_of d) (Some f.squares) (l, f.by_squares) in omega (arith, a, b, e))
      | inr l ↦ (let e = exponent_is d (form_of d) None (λ k o h. f.by_squares.least k (omega (arith, l, o)) h) in omega (arith, a, x.limit, e))
    ]

-- ---- how often the rows count
module _ (es : List ℕ) (i s : ℕ) where
  -- the rows beside row i
  beside : (e f l : ℕ) → l ≢ i → tested_weight es i e s l ≡ tested_weight es i f s l
  beside e f l h = elim (cases_lt l i) [
    | inl o ↦ ap (λ (k : ℕ). 2 ^ (s - k)) (tested_before es i e s l o ∙ sym (tested_before es i f s l o))
    | inr o ↦ (let t : i < l = omega (arith, o, h) in ap (λ (k : ℕ). 2 ^ (s - k)) (tested_after es i e s l t ∙ sym (tested_after es i f s l t)))
  ]

  -- row i, lowered once more
  twice : (k : ℕ) → k < s → tested_weight es i (s - (k + 1)) s i ≡ tested_weight es i (s - k) s i + 2 ^ k
  twice k h = ap (λ (e : ℕ). 2 ^ (s - e)) (tested_own es i (s - (k + 1)) s i refl) ∙ power k (s - (s - (k + 1))) (s - (s - k)) (omega arith) (omega arith) ∙
      sym (ap (λ (e : ℕ). 2 ^ (s - e) + 2 ^ k) (tested_own es i (s - k) s i refl))
    where
      power : (k a b : ℕ) → a ≡ k + 1 → b ≡ k → 2 ^ a ≡ 2 ^ b + 2 ^ k
      power k a b e f = rw (e, f, add-one, pow-suc) (omega arith)

  -- none counts more than 2^4 times
  most : (e : ℕ) → s - 4 ≤ e → ((l : ℕ) → l < i → s - 4 ≤ exponent_in es l) → (l : ℕ) → tested_weight es i e s l ≤ 16
  most e h before l = under (s - tested es i e s l) (elim (cases_lt l i) [
    | inl o ↦ rw (tested_before es i e s l o) (let b = before l o in omega (arith, b))
    | inr o ↦ elim (cases_eq l i) [
      | inl q ↦ rw (tested_own es i e s l q) (omega (arith, h))
      | inr q ↦ (let t : i < l = omega (arith, o, q) in rw (tested_after es i e s l t) (omega arith))
    ]
  ])
    where
      under : (k : ℕ) → k ≤ 4 → 2 ^ k ≤ 16
      under k h = pow-le-pow_right {n = 2} (omega arith) {i = k} {j = 4} h

-- ---- a row that is lowered once more
module _ (p : DesignParts) (c : Condensed) (f : IsFormOf p c) (s : ℕ) (es : List ℕ) (r : IsReadyToLower c s es) where
  -- what a row of the products comes to at most
  abbrev row_most : ℕ
  row_most = row_quantity (is_fine (design_of p)) (16 * rows_in (is_fine (design_of p)) (design_of p)) (entries (design_of p))

  few : (e : ℕ) → s - 4 ≤ e → (l : ℕ) → tested_weight es (length es) e s l ≤ 16
  few e h = most es (length es) s e h (λ l o. (r.before p f l o).low)

  module _ (k : ℕ) (small : k < 4) (below : k < s) (mid rad : Matrix) (sums : AreRowSums c (tested_weight es (length es) (s - k) s) mid rad) where
    pub lowered_room : (count : ℕ) → count ≡ 2 ^ k → HasRoomFor mid rad c.g c.g_rad (length es) count
    lowered_room count e = room_for (is_fine (design_of p)) p c f (tested_weight es (length es) (s - k) s) mid rad sums (tested_weight es (length es) (s - (k + 1)) s) (length es) count 16 r.left
        (let q = pow-le-pow_right {n = 2} (omega arith) {i = k} {j = 4} (omega (arith, small)) in omega (arith, e, q)) (twice es (length es) s k below ∙ ap (λ (n : ℕ). tested_weight es (length es) (s - k) s (length es) + n) (sym e))
        (λ l t h. beside es (length es) s (s - (k + 1)) (s - k) l h) (λ l t. few (s - (k + 1)) (omega (arith, small)) l) (r.room p f).rows

    pub lowered_sums : (count : ℕ) → count ≡ 2 ^ k → (a b : Matrix) → HasEnclosures c.g.cols c.g.cols (more_sum mid rad (enclosure_at c.g c.g_rad (length es)) count) a b →
        AreRowSums c (tested_weight es (length es) (s - (k + 1)) s) a b
    lowered_sums count e a b h = sums_more c.g.cols (length c.g.rows) (enclosure_at c.g c.g_rad) (tested_weight es (length es) (s - k) s) (tested_weight es (length es) (s - (k + 1)) s) (length es) count r.left
        (twice es (length es) s k below ∙ ap (λ (n : ℕ). tested_weight es (length es) (s - k) s (length es) + n) (sym e)) (λ l t h. beside es (length es) s (s - (k + 1)) (s - k) l h) mid rad a b sums h

  -- the list that is tested then
  abbrev pub sums_to_test : (k : ℕ) → k < 4 → k < s → (sums : EncMat) → AreTestedSums c es (length es) (s - k) s sums → (count : ℕ) → count ≡ 2 ^ k → (more : EncMat) →
      HasEnclosures c.g.cols c.g.cols (more_sum sums.mid sums.rad (enclosure_at c.g c.g_rad (length es)) count) more.mid more.rad → AreSumsToTest c s more
  sums_to_test k small below sums h count e more is = record {
    before = es;
    exponent = s - (k + 1);
    ready = r;
    low = omega (arith, small);
    sums = lowered_sums k small below sums.mid sums.rad h count e more.mid more.rad is;
  }

  module _ (e : ℕ) (low : s - 4 ≤ e) (mid rad : Matrix) (sums : AreRowSums c (tested_weight es (length es) e s) mid rad) where
    pub tested_room : HaveSumRoom mid rad
    tested_room = have_room (is_fine (design_of p)) p c f (tested_weight es (length es) e s) mid rad sums 16 (λ l t. few e low l) (r.room p f).rows

    module _ (n : AreEnclosures mid rad) (m : Matrix) (h : HasEntries (length mid.rows) (length mid.rows) (sums_matrix c.fine mid rad) m) where
      tested_matrix : IsRowMatrix (is_fine (design_of p)) (design_of p) (tested_weight es (length es) e s) row_most m
      tested_matrix = row_matrix_is (is_fine (design_of p)) p c f (tested_weight es (length es) e s) mid rad sums n 16 (λ l t. few e low l) (r.room p f).rows m (rw f.class at h)

      module _ (g : StepMatrices) (is : HasCostMatrix (is_fine (design_of p)) (design_of p) g) where
        pub tested_sound : AreMatrices g.cost m g.cost_factor g.row_factor
        tested_sound = matrices_held (is_fine (design_of p)) p c f (tested_weight es (length es) e s) row_most g.cost m is.cost tested_matrix g.cost_factor g.row_factor is.cost_factor is.row_factor

        -- the same cost with these rows
        abbrev with_rows : StepMatrices
        with_rows = record { cost = g.cost; rows = m; cost_factor = g.cost_factor; row_factor = g.row_factor; sound = tested_sound }

        tested_matrices : AreMatricesOf (is_fine (design_of p)) (design_of p) (tested_weight es (length es) e s) row_most with_rows
        tested_matrices = matrices_are (is_fine (design_of p)) (design_of p) (tested_weight es (length es) e s) row_most g.cost m is.cost tested_matrix with_rows refl refl is.cost_factor is.row_factor

        pub tested_fits : HasMatrixRoom with_rows s
        tested_fits = tested_matrices.room s (under (at-le (is_fine (design_of p)) (design_of p) row_most s (covering_exponent (design_of p) (form_of (design_of p))) (exponent_covers (design_of p) s (r.chosen p f)))
            (r.room p f).curvature)
          where
            under : {a b : ℕ} → a ≤ b → b ≤ 2 ^ 126 → a ≤ 2 ^ 126
            under {a} {b} h k = omega (arith, h, k)

        -- what a test of them tells
        pub tested_told : (b : Bool) → (IsTrue b ↔ IsAccepted (length with_rows.cost.rows) (matrix_at with_rows s)) → IsTrue b ↔ IsAcceptedAt (design_of p) es (length es) e s
        tested_told b t =
            let n = entries (design_of p) in
            let a = matrix_at with_rows s in
            let z = rows_matrix (design_of p) (tested es (length es) e s) s in
            let q : IsTrue b ↔ IsAccepted n a = rw tested_matrices.size at t in
            (λ y. accepted_moved n a z (tested_matrices.same s) (q.0 y), λ k. q.1 (accepted_moved n z a (same_back n a z (tested_matrices.same s)) k))

-- by an equal exponent
pub sums_along : (c : Condensed) (es : List ℕ) (i s : ℕ) (mid rad : Matrix) (e t : ℕ) → e ≡ t → AreRowSums c (tested_weight es i e s) mid rad → AreRowSums c (tested_weight es i t s) mid rad
sums_along c es i s mid rad e t q h = subst (λ (z : ℕ). AreRowSums c (tested_weight es i z s) mid rad) q h

-- ---- the exponent of the row
-- what code counts by
pub shift_is : (k : ℕ) → k < 4 → 1 * 2 ^ k % 4294967296 ≡ 2 ^ k
shift_is k h = let q = pow-le-pow_right {n = 2} (omega arith) {i = k} {j = 4} (omega (arith, h)) in omega (arith, q)

module _ (d : Design) (s : ℕ) (es : List ℕ) (i k : ℕ) (taken : (e : ℕ) → s - k ≤ e → e < s → IsAcceptedAt d es i e s) where
  -- it was taken once more
  pub taken_more : IsAcceptedAt d es i (s - (k + 1)) s → (e : ℕ) → s - (k + 1) ≤ e → e < s → IsAcceptedAt d es i e s
  taken_more h e low high = elim (cases_lt e (s - k)) [
    | inl o ↦ (let q : e ≡ s - (k + 1) = omega arith in rw q h)
    | inr o ↦ taken e o high
  ]

  -- it wasn't
  pub refused_next : k < 4 → ¬ IsAcceptedAt d es i (s - (k + 1)) s → IsLowered d s es i (s - k)
  refused_next small h = record {
    low = omega (arith, small);
    high = omega arith;
    accepted = taken;
    last = inr (λ a. h (let q : s - k - 1 ≡ s - (k + 1) = omega arith in rw q at a));
  }

  -- it was taken to the last
  pub taken_all : (t : ℕ) → k ≡ t → t ≡ min s 4 → IsLowered d s es i (s - t)
  taken_all t q e = rw (← q) (record {
    low = omega (arith, q, e);
    high = omega arith;
    accepted = taken;
    last = inl (omega (arith, q, e));
  })

-- ---- the list, row by row
-- at first each row counts once
pub none_lowered : (c : Condensed) (s : ℕ) (mid rad : Matrix) → AreRowSums c (λ l. 1) mid rad → AreRowSums c (tested_weight [] 0 s s) mid rad
none_lowered c s mid rad = sums_same c.g.cols (length c.g.rows) (enclosure_at c.g c.g_rad) (λ l. 1) (tested_weight [] 0 s s) mid rad (λ l t. once l)
  where
    own : (l : ℕ) → tested [] 0 s s l ≡ s
    own l = elim (cases_eq l 0) [ inl e ↦ tested_own [] 0 s s l e | inr e ↦ tested_after [] 0 s s l (omega (arith, e)) ]

    once : (l : ℕ) → 1 ≡ tested_weight [] 0 s s l
    once l = rw (own l) (none (s - s) (omega arith))
      where
        none : (k : ℕ) → k ≡ 0 → 1 ≡ 2 ^ k
        none k e = rw e refl

module _ (es : List ℕ) (e s : ℕ) where
  abbrev more : List ℕ
  more = es ++ e ∷ []

  -- the rows before have what they had
  agree : (l : ℕ) → l < length es → exponent_in es l ≡ exponent_in more l
  agree l h = sym (get_or_append_left es (e ∷ []) 0 l h)

  last : exponent_in more (length es) ≡ e
  last = get_or_push es e 0 (length es) refl

  -- the row that was tested is one of those before
  tested_next : (l : ℕ) → tested es (length es) e s l ≡ tested more (length more) s s l
  tested_next l =
      let n = length_push es e in
      elim (cases_lt l (length es)) [
        | inl o ↦ tested_before es (length es) e s l o ∙ agree l o ∙ sym (tested_before more (length more) s s l (omega (arith, o, n)))
        | inr o ↦ elim (cases_eq l (length es)) [
          | inl q ↦ tested_own es (length es) e s l q ∙ sym last ∙ ap (exponent_in more) (sym q) ∙ sym (tested_before more (length more) s s l (omega (arith, q, n)))
          | inr q ↦ tested_after es (length es) e s l (omega (arith, o, q)) ∙ elim (cases_eq l (length more)) [
            | inl y ↦ sym (tested_own more (length more) s s l y)
            | inr y ↦ sym (tested_after more (length more) s s l (omega (arith, o, q, y, n)))
          ]
        ]
      ]

  pub next_sums : (c : Condensed) (mid rad : Matrix) → AreRowSums c (tested_weight es (length es) e s) mid rad → AreRowSums c (tested_weight more (length more) s s) mid rad
  next_sums c mid rad = sums_same c.g.cols (length c.g.rows) (enclosure_at c.g c.g_rad) (tested_weight es (length es) e s) (tested_weight more (length more) s s) mid rad
      (λ l t. ap (λ (k : ℕ). 2 ^ (s - k)) (tested_next l))

  module _ (d : Design) where
    moved : (i f : ℕ) → i ≤ length es → IsLowered d s es i f → IsLowered d s more i f
    moved i f h k =
        let same = λ (l : ℕ) (o : l < i). agree l (omega (arith, o, h)) in
        record {
          low = k.low;
          high = k.high;
          accepted = λ e low high. accepted_same d s es more i e same (k.accepted e low high);
          last = elim k.last [ inl q ↦ inl q | inr n ↦ inr (λ a. n (accepted_same d s more es i (f - 1) (λ l o. sym (same l o)) a)) ];
        }

    pub next_lowered : AreFirstLowered d s es → IsLowered d s es (length es) e → AreFirstLowered d s more
    next_lowered before own i h =
        let n = length_push es e in
        elim (cases_lt i (length es)) [
          | inl o ↦ rw (← (agree i o)) (moved i (exponent_in es i) (omega (arith, o)) (before i o))
          | inr o ↦ (let q : i ≡ length es = omega (arith, o, h, n) in rw (q, last) (moved (length es) e (omega arith) own))
        ]

-- ---- what the whole answer says
pub listed_of : (d : Design) (s : ℕ) (r : Result (Vec ℕ Global) AllocError) → HasLoweringRoom (is_fine d) d → IfOk r (λ es. AreLowered d s es.items) → IfOk r (λ es. AreRowExponents d s es.items)
listed_of d s (Ok es) h k = inl (h, k)
listed_of d s (Err e) h k = k

pub replicated_of : (d : Design) (s n : ℕ) (r : Result (Vec ℕ Global) AllocError) → ¬ HasLoweringRoom (is_fine d) d → n ≡ rows d →
    IfOk r (λ es. ((y : ℕ) → y ≡ s → y ≡ s) → es.items ≡ replicate n s) → IfOk r (λ es. AreRowExponents d s es.items)
replicated_of d s n (Ok es) h e k = inr (h, k (λ y q. q) ∙ ap (λ (m : ℕ). replicate m s) e)
replicated_of d s n (Err e) h q k = k

pub exponents_of : (p : DesignParts) (c : Condensed) → IsFormOf p c → (s : ℕ) → IsExponentOf (design_of p) s → (r : Result (Vec ℕ Global) AllocError) →
    IfOk r (λ es. AreRowExponents (design_of p) s es.items) → IfOk r (λ es. AreExponents (design_of p) (exponent_in es.items) s)
exponents_of p c f s x (Ok es) k = row_list_law p f.design f.encloses s x es.items k
exponents_of p c f s x (Err e) k = k
