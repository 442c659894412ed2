-- The numbers of a design in enclosures as its condensed form.
use Rattle.std.proofs.Common.{◌≡◌, ℕ, ◌+◌, ◌*◌, ◌^◌, ◌<◌, ◌≤◌, max, [], ◌∷◌, true, List, length, ℤ, pos, ◌+ℤ◌, ◌-ℤ◌, ◌*ℤ◌, ◌≤ℤ◌, unsigned_abs, lit≤, arith, ap, ap₂, sym, ◌∙◌, refl}
use Rattle.std.specs.Int.{int_min}
use Rattle.std.proofs.lemmas.Int.{ints, clamps}
use Rattle.std.proofs.lemmas.List.Elements.{All-from_get_or}
use Rattle.std.proofs.Math.Nat.{mul-le-mul, mul-le-mul_left, pow-le-pow_left, one-le-mul}
use Rattle.integer_algebra.specs.Sums.{total, dot, image, square}
use Rattle.integer_algebra.proofs.OrderLaws.{le_by, add-le-add_z, mul-le-mul_left_z, mul-le-mul_right_z, square_nonneg_z}
use Rattle.integer_algebra.proofs.SumLaws.{total_same, total_nonneg}
use Rattle.integer_algebra.proofs.SizeLaws.{amount_same}
use Rattle.integer_algebra.proofs.AmountLaws.{amount_most}
use Rattle.integer_algebra.proofs.VectorLaws.{dot_same, quadratic_scale}
use Rattle.integer_algebra.proofs.PowerLaws.{pow-two, pow_positive}
use Rattle.integer_algebra.proofs.Quoting.{by_ring, quotes}
use Rattle.mat_int.specs.Matrix.{Matrix, entry_of}
use Rattle.enclosure.specs.declared.types.Enc.{Enc}
use Rattle.qp_model.specs.declared.design_parts.DesignParts.{DesignParts}
use Rattle.qp_model.specs.problem.Design.{Design, entries, rows}
use Rattle.qp_model.specs.problem.Parts.{design_of, IsDesign}
use Rattle.qp_model.specs.machine.Controller.{HasShape}
use Rattle.qp_model.specs.form.Convex.{IsConvex}
use Rattle.qp_model.specs.form.Columns.{solve_matrix}
use Rattle.qp_model.specs.form.Form.{farthest, HaveSameNumbers}
use Rattle.qp_model.specs.form.FineForm.{fine_hessian, fine_linear, fine_constant, fine_by_plan, fine_by_state, fine_form, hessian_radius}
use Rattle.qp_model.specs.form.FineSizes.{fine_reach, fine_cost_entry_size, fine_limit_entry_size, fine_hessian_size, fine_rows_size, fine_cost_row_size}
use Rattle.qp_model.specs.form.Quantities.{input_floor}
use Rattle.qp_model.specs.problem.Runs.{Holds}
use Rattle.qp_model.proofs.SoundLaws.{sound}
use Rattle.condensed_form.specs.declared.condensed.Condensed.{Condensed}
use Rattle.condensed_form.specs.Form.{held, hessian_row_sum, cost_sum, limit_sum, column_products, HasShapes, HasRadii, HasDenominators, IsLeastInput, HasSums, IsFormIn}
use Rattle.condensed_form.specs.Lists.{HoldsMatrix}
use Rattle.scaled_condense.specs.Lists.{IsScale, mids, rads}
use Rattle.scaled_condense.specs.Numbers.{AreFineCosts, AreFineLimits}
use Rattle.scaled_condense.proofs.Laws.{fine_law, fine_form_law}
use Rattle.scaled_condense.proofs.BendLaws.{fine_bent}
use Rattle.scaled_condense.proofs.ColumnFacts.{mids_hold, rads_hold}
use Rattle.scaled_condense.proofs.CostFacts.{products_reach}
use Rattle.scaled_condense.proofs.FloorFacts.{radius_room}
use Rattle.scaled_condense.proofs.FormSizes.{hessian_small, linear_small, constant_small, hessian_row_small, plan_small, state_small, bound_small}
use Rattle.scaled_condense.proofs.RowRooms.{plan_reaches, state_reaches}

-- ---- what a form is made of
-- its denominators, its floor and its sizes
pub record HasScales (p : DesignParts) (c : Condensed) : Type 0 where
  pub weight_den : c.weight_den ≡ pos (unsigned_abs p.cost_den)
  pub cost_row_den : c.cost_row_den ≡ pos (unsigned_abs p.row_den)
  pub limit_den : c.limit_den ≡ pos (unsigned_abs p.limit_den)
  pub power : c.power ≡ pos 1
  pub hess_den : c.hess_den ≡ pos (unsigned_abs p.cost_den * unsigned_abs p.row_den ^ 2 * 2 ^ 40)
  pub row_den : c.row_den ≡ pos (unsigned_abs p.limit_den * 2 ^ 40)
  pub input_floor : IsLeastInput (design_of p) c.input_floor
  pub floor : c.floor ≡ (fine_form (design_of p)).floor
  pub hess_size : c.hess_size ≡ pos (fine_hessian_size (design_of p))
  pub rows_size : c.rows_size ≡ pos (fine_rows_size (design_of p))
  pub fine : c.fine ≡ true

-- its numbers
pub record HasNumbers (p : DesignParts) (c : Condensed) : Type 0 where
  pub hess : HoldsMatrix c.hess (entries (design_of p)) (entries (design_of p)) (entries (design_of p)) (λ i j. (fine_hessian (design_of p) i j).mid)
  pub hess_rad : HoldsMatrix c.hess_rad (entries (design_of p)) (entries (design_of p)) (entries (design_of p)) (λ i j. (fine_hessian (design_of p) i j).rad)
  pub lin : HoldsMatrix c.lin (entries (design_of p)) p.states p.states (λ j i. (fine_linear (design_of p) j i).mid)
  pub lin_rad : HoldsMatrix c.lin_rad (entries (design_of p)) p.states p.states (λ j i. (fine_linear (design_of p) j i).rad)
  pub off : Holds c.off.items (entries (design_of p)) (λ j. (fine_constant (design_of p) j).mid)
  pub off_rad : Holds c.off_rad.items (entries (design_of p)) (λ j. (fine_constant (design_of p) j).rad)
  pub g : HoldsMatrix c.g (rows (design_of p)) (entries (design_of p)) (entries (design_of p)) (λ i j. (fine_by_plan (design_of p) i j).mid)
  pub g_rad : HoldsMatrix c.g_rad (rows (design_of p)) (entries (design_of p)) (entries (design_of p)) (λ i j. (fine_by_plan (design_of p) i j).rad)
  pub e : HoldsMatrix c.e (rows (design_of p)) p.states p.states (λ i j. (fine_by_state (design_of p) i j).mid)
  pub e_rad : HoldsMatrix c.e_rad (rows (design_of p)) p.states p.states (λ i j. (fine_by_state (design_of p) i j).rad)
  pub bound : Holds c.bound.items (rows (design_of p)) ((fine_form (design_of p)).numbers.bound)

pub numbers_of : (p : DesignParts) (c : Condensed) (off : List Enc) (radius cost limit : ℕ) → AreFineCosts p c.hess c.hess_rad c.lin c.lin_rad off radius cost →
    AreFineLimits p c.g c.g_rad c.e c.e_rad c.bound.items limit → c.off.items ≡ mids off → c.off_rad.items ≡ rads off → HasNumbers p c
numbers_of p c off radius cost limit k l m r = record {
  hess = k.numbers.hess.mids;
  hess_rad = k.numbers.hess.rads;
  lin = k.numbers.lin.mids;
  lin_rad = k.numbers.lin.rads;
  off = rw m (mids_hold off (entries (design_of p)) (fine_constant (design_of p)) k.numbers.constant);
  off_rad = rw r (rads_hold off (entries (design_of p)) (fine_constant (design_of p)) k.numbers.constant);
  g = l.numbers.plan.mids;
  g_rad = l.numbers.plan.rads;
  e = l.numbers.state.mids;
  e_rad = l.numbers.state.rads;
  bound = l.numbers.bound;
}

-- ---- shapes
shape_of : (m : Matrix) (height width known : ℕ) (f : ℕ → ℕ → ℤ) → HoldsMatrix m height width known f → HasShape m height width
shape_of m height width known f h = record {
  rows = h.long;
  cols = h.wide;
  each = All-from_get_or (λ (row : List ℤ). length row ≡ width) m.rows [] (λ i l. h.regular i (rw (← h.long) l));
}

module _ (p : DesignParts) (c : Condensed) (h : IsDesign p) (k : HasNumbers p c) (reached : IsScale p (2 ^ 40) (fine_reach (design_of p) p.stages)) where
  abbrev d : Design
  d = design_of p

  shapes : HasShapes c (entries d) d.states (rows d)
  shapes = record {
    hess = shape_of _ _ _ _ _ k.hess;
    hess_rad = shape_of _ _ _ _ _ k.hess_rad;
    lin = shape_of _ _ _ _ _ k.lin;
    lin_rad = shape_of _ _ _ _ _ k.lin_rad;
    off = k.off.long;
    off_rad = k.off_rad.long;
    g = shape_of _ _ _ _ _ k.g;
    g_rad = shape_of _ _ _ _ _ k.g_rad;
    e = shape_of _ _ _ _ _ k.e;
    e_rad = shape_of _ _ _ _ _ k.e_rad;
    bound = k.bound.long;
  }

  -- ---- by their formulas
  same : HasScales p c → HaveSameNumbers (held c) (fine_form d)
  same s = record {
    entries = k.hess.long;
    states = k.lin.wide;
    rows = k.g.long;
    hessian = k.hess.is;
    linear = k.lin.is;
    constant = k.off.is;
    by_plan = k.g.is;
    by_state = k.e.is;
    bound = k.bound.is;
    hessian_radius = λ i j l m. ap unsigned_abs (k.hess_rad.is i j l m);
    linear_radius = λ j i l m. ap unsigned_abs (k.lin_rad.is j i l m);
    constant_radius = λ j l. ap unsigned_abs (k.off_rad.is j l);
    plan_radius = λ i j l m. ap unsigned_abs (k.g_rad.is i j l m);
    state_radius = λ i j l m. ap unsigned_abs (k.e_rad.is i j l m);
    hessian_scale = ap unsigned_abs s.hess_den;
    rows_scale = ap unsigned_abs s.row_den;
    matrix_factor = s.limit_den;
    row_factor = rw (s.power, s.cost_row_den, s.weight_den) (ap pos (turn (unsigned_abs p.cost_den) (unsigned_abs p.row_den)));
    floor = s.floor;
    spread = rw s.fine refl;
  }
    where
      turn : (w r : ℕ) → 1 * (r * (r * w)) ≡ w * r ^ 2
      turn w r = rw (pow-two r) (omega arith)

  -- ---- no radius is negative
  radii : HasRadii c (entries d) d.states (rows d)
  radii = record {
    hess = λ i j l m. along (k.hess_rad.is i j l m) (twice (products_reach p (2 ^ 40) (2 ^ 40) (fine_reach d p.stages) reached (lit≤ tt) i j).radius);
    lin = λ j i l m. along (k.lin_rad.is j i l m) (doubled (products_reach p (2 ^ 40) (2 ^ 40) (fine_reach d p.stages) reached (lit≤ tt) j (entries d + i)).radius);
    off = λ j l. along (k.off_rad.is j l) (doubled (products_reach p (2 ^ 40) (2 ^ 40) (fine_reach d p.stages) reached (lit≤ tt) j (entries d + d.states)).radius);
    g = λ i j l m. along (k.g_rad.is i j l m) (plan_reaches p (2 ^ 40) (fine_reach d p.stages) reached i j l).radius;
    e = λ i j l m. along (k.e_rad.is i j l m) (state_reaches p (2 ^ 40) (fine_reach d p.stages) reached i j l).radius;
  }
    where
      along : {x y : ℤ} → x ≡ y → pos 0 ≤ℤ y → pos 0 ≤ℤ x
      along e g = rw e g

      twice : {r : ℤ} → pos 0 ≤ℤ r → pos 0 ≤ℤ (pos 2 *ℤ (r +ℤ pos 0))
      twice {r} g = omega (arith, ints, g)

      doubled : {r : ℤ} → pos 0 ≤ℤ r → pos 0 ≤ℤ (pos 2 *ℤ r)
      doubled {r} g = omega (arith, ints, g)

  -- ---- the floor
  convex : fine_hessian_size d ≤ 2 ^ 126 → HasScales p c → IsConvex (entries d) (solve_matrix (held c)) c.floor
  convex room s = record {
    positive = rw s.floor (some (unsigned_abs p.limit_den) (unsigned_abs p.row_den ^ 2) (input_floor d) (hessian_radius d) (sound p h).limit_denominator
        (pow_positive (unsigned_abs p.row_den) 2 (sound p h).row_denominator) (sound p h).rho_positive (radius_room p room));
    symmetric = λ i j l m. ap (λ (z : ℤ). c.limit_den *ℤ z) (k.hess.is i j l m ∙ (fine_law d (input_floor d) (sound p h)).symmetric i j l m ∙ sym (k.hess.is j i m l));
    curved = λ v. bounded c.floor (pos (2 * unsigned_abs p.row_den ^ 2 * 2 ^ 40 * input_floor d) -ℤ pos (hessian_radius d)) (total (entries d) (λ j. square (v j)))
        (dot (entries d) v (image (entries d) (λ i j. (fine_hessian d i j).mid) v)) (pos (unsigned_abs p.limit_den)) _
        (total_nonneg (entries d) _ (λ j l. square_nonneg_z (v j))) (natural_nonneg (unsigned_abs p.limit_den))
        (rw s.floor (floor_le (unsigned_abs p.limit_den) (unsigned_abs p.row_den ^ 2) (input_floor d) (hessian_radius d)))
        (fine_bent d (sound p h) v) (quadratic_scale (entries d) c.limit_den (entry_of c.hess) v ∙ ap₂ (λ (x y : ℤ). x *ℤ y) s.limit_den
        (dot_same (entries d) v _ _ (λ i l. total_same (entries d) _ _ (λ j m. ap (λ (z : ℤ). z *ℤ v j) (k.hess.is i j l m)))));
  }
    where
      natural_nonneg : (n : ℕ) → pos 0 ≤ℤ pos n
      natural_nonneg n = omega (arith, ints)

      some : (l r m t : ℕ) → 1 ≤ l → 1 ≤ r → 1 ≤ m → t ≤ 2 ^ 40 → pos 1 ≤ℤ int_min (pos (2 * l * r * 2 ^ 40 * m) -ℤ pos (l * t)) (pos (2 ^ 126))
      some l r m t hl hr hm ht = least _ _ (grown (one-le-mul hr hm) (mul-le-mul_left l ht) (mul-le-mul_left l (one-le-mul hr hm)))
        where
          grown : 1 ≤ r * m → l * t ≤ l * 2 ^ 40 → l * 1 ≤ l * (r * m) → 1 + l * t ≤ 2 * l * r * 2 ^ 40 * m
          grown a b e = omega (arith, a, b, e, hl)

          least : (x y : ℕ) → 1 + y ≤ x → pos 1 ≤ℤ int_min (pos x -ℤ pos y) (pos (2 ^ 126))
          least x y g = omega (arith, ints, clamps, g)

      floor_le : (l r m t : ℕ) → int_min (pos (2 * l * r * 2 ^ 40 * m) -ℤ pos (l * t)) (pos (2 ^ 126)) ≤ℤ (pos l *ℤ (pos (2 * r * 2 ^ 40 * m) -ℤ pos t))
      floor_le l r m t = under (turn (pos l) (pos r) (pos (2 ^ 40)) (pos m) (pos t))
        where
          turn : (l r k m t : ℤ) → pos 2 *ℤ l *ℤ r *ℤ k *ℤ m -ℤ l *ℤ t ≡ l *ℤ (pos 2 *ℤ r *ℤ k *ℤ m -ℤ t)
          turn l r k m t = by_ring (l ∷ r ∷ k ∷ m ∷ t ∷ []) (search quotes depth 60 fits 20000) refl

          under : {x y : ℤ} → x ≡ y → int_min x (pos (2 ^ 126)) ≤ℤ y
          under {x} {y} e = omega (arith, ints, clamps, e)

      -- a smaller number times the squares, and a greater times the form
      bounded : (f m x : ℤ) (q l b : ℤ) → pos 0 ≤ℤ x → pos 0 ≤ℤ l → f ≤ℤ (l *ℤ m) → (m *ℤ x) ≤ℤ q → b ≡ l *ℤ q → (f *ℤ x) ≤ℤ b
      bounded f m x q l b px pl h k e = rw e (le_by (add-le-add_z (mul-le-mul_right_z x px h) (mul-le-mul_left_z l pl k))
          (by_ring (f ∷ m ∷ x ∷ q ∷ l ∷ []) (search quotes depth 60 fits 20000) refl))

  -- ---- sizes
  far_at : (z r x s : ℤ) (t : ℕ) → z ≡ x → r ≡ s → farthest x (unsigned_abs s) ≤ t → farthest z (unsigned_abs r) ≤ t
  far_at z r x s t e g l = rw (e, g) l

  far_plan : ℕ → ℕ → ℕ
  far_plan i j = farthest (entry_of c.g i j) (unsigned_abs (entry_of c.g_rad i j))

  plan_far : (i j : ℕ) → i < rows d → j < entries d → far_plan i j ≤ fine_limit_entry_size d
  unfolding far_plan
  plan_far i j l m = far_at _ _ _ _ _ (k.g.is i j l m) (k.g_rad.is i j l m) (plan_small p h reached i j l)

  cost_sums : cost_sum (held c) ≤ entries d * (entries d + d.states + 1) * fine_cost_entry_size d
  cost_sums = rw (k.hess.long, k.lin.wide) (summed (entries d) d.states (fine_cost_entry_size d) _ _ _
      (amount_most (entries d) _ _ (λ i l. amount_most (entries d) _ _ (λ j m. far_at _ _ _ _ _ (k.hess.is i j l m) (k.hess_rad.is i j l m) (hessian_small p h reached i j))))
      (amount_most (entries d) _ _ (λ j l. amount_most d.states _ _ (λ i m. far_at _ _ _ _ _ (k.lin.is j i l m) (k.lin_rad.is j i l m) (linear_small p h reached j i))))
      (amount_most (entries d) _ _ (λ j l. far_at _ _ _ _ _ (k.off.is j l) (k.off_rad.is j l) (constant_small p h reached j))))
    where
      summed : (e n w x y z : ℕ) → x ≤ e * (e * w) → y ≤ e * (n * w) → z ≤ e * w → x + y + z ≤ e * (e + n + 1) * w
      summed e n w x y z h k l = omega (arith, h, k, l)

  cost_rows : (i : ℕ) → i < entries d → hessian_row_sum (held c) i ≤ 2 * fine_cost_row_size d
  cost_rows i l = rw k.hess.long (chained (amount_same (entries d) _ _ (λ j m. ap₂ (λ (x y : ℤ). farthest x (unsigned_abs y)) (k.hess.is i j l m) (k.hess_rad.is i j l m))) (hessian_row_small p h reached i))
    where
      chained : {a b t : ℕ} → a ≡ b → b ≤ t → a ≤ t
      chained e g = rw e g

  square_most : {x t : ℕ} → x ≤ t → x ^ 2 ≤ t ^ 2
  square_most {x} {t} g = pow-le-pow_left {n = x} {m = t} g 2

  limit_sums : limit_sum (held c) ≤ fine_rows_size d
  unfolding far_plan
  limit_sums = rw (k.hess.long, k.lin.wide, k.g.long) (squared (entries d) d.states (rows d) (fine_limit_entry_size d ^ 2) _ _ _
      (amount_most (rows d) _ _ (λ i l. amount_most (entries d) _ _ (λ j m. square_most (plan_far i j l m))))
      (amount_most (rows d) _ _ (λ i l. amount_most d.states _ _ (λ j m. square_most (far_at _ _ _ _ _ (k.e.is i j l m) (k.e_rad.is i j l m) (state_small p h reached i j l)))))
      (amount_most (rows d) _ _ (λ i l. square_most (rw (k.bound.is i l) (bound_small p h reached i l)))))
    where
      squared : (e n m w x y z : ℕ) → x ≤ m * (e * w) → y ≤ m * (n * w) → z ≤ m * w → x + y + z ≤ (e + n + 1) * m * w
      squared e n m w x y z h k l = omega (arith, h, k, l)

  products_sum : (j : ℕ) → j < entries d → column_products (held c) j ≤ fine_rows_size d
  unfolding far_plan
  products_sum j l = rw (k.hess.long, k.g.long) (crossed (entries d) d.states (rows d) (fine_limit_entry_size d ^ 2) _
      (amount_most (entries d) _ _ (λ n m. amount_most (rows d) _ _ (λ i o. product_most _ _ _ (plan_far i j o l) (plan_far i n o m)))))
    where
      crossed : (e n m w x : ℕ) → x ≤ e * (m * w) → x ≤ (e + n + 1) * m * w
      crossed e n m w x h = omega (arith, h)

      product_most : (x y t : ℕ) → x ≤ t → y ≤ t → x * y ≤ t ^ 2
      product_most x y t h k = rw (pow-two t) (mul-le-mul {n₁ = x} {m₁ = y} {n₂ = t} {m₂ = t} h k)

  sizes : fine_hessian_size d ≤ 2 ^ 126 → fine_rows_size d ≤ 2 ^ 126 → HasScales p c → HasSums true d c
  sizes cost limit s = record {
    cost_size = s.hess_size;
    cost_room = cost;
    limit_size = s.rows_size;
    limit_room = limit;
    cost = more _ cost_sums;
    cost_row = cost_rows;
    limits = limit_sums;
    products = products_sum;
  }
    where
      more : {x a : ℕ} (b : ℕ) → x ≤ a → x ≤ max a b
      more b g = omega (arith, g)

  -- ---- the denominators
  denominators : HasScales p c → HasDenominators d c
  denominators s = record {
    weight_den = s.weight_den;
    cost_row_den = s.cost_row_den;
    limit_den = s.limit_den;
    power = rw s.power (natural 1 (omega arith));
    hess_den = rw s.hess_den (natural _ (scaled _ (one-le-mul (sound p h).cost_denominator (pow_positive (unsigned_abs p.row_den) 2 (sound p h).row_denominator))));
    row_den = rw s.row_den (natural _ (scaled _ (sound p h).limit_denominator));
    input_floor = s.input_floor;
  }
    where
      natural : (n : ℕ) → 1 ≤ n → pos 1 ≤ℤ pos n
      natural n g = omega (arith, ints)

      scaled : (n : ℕ) → 1 ≤ n → 1 ≤ n * 2 ^ 40
      scaled n g = omega (arith, g)

  -- ---- all
  pub form_of : fine_hessian_size d ≤ 2 ^ 126 → fine_rows_size d ≤ 2 ^ 126 → HasScales p c → IsFormIn true p c
  form_of cost limit s = record {
    design = h;
    class = s.fine;
    shapes = shapes;
    radii = radii;
    same = same s;
    encloses = fine_form_law d (sound p h) cost;
    denominators = denominators s;
    convex = convex cost s;
    sizes = sizes cost limit s;
  }
