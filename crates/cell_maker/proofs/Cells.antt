-- Controllers are made cell by cell, and the first refusal is the only one.
use Rattle.std.proofs.Common.{◌≡◌, ◌⊎◌, inl, inr, ℕ, ◌+◌, ◌-◌, ◌<◌, ◌≤◌, ℤ, List, [], ◌∷◌, ◌++◌, length, get_or, map, true, false, Result, Ok, Err, Bool, refl, sym, ap, subst, ◌∙◌, arith, below_more}
use Rattle.std.specs.Prelude.{Option, Some, None, IsOk, OnOk, IfSome, IsSomeAnd}
use Rattle.std.specs.Option.{option_len, option_map}
use Rattle.std.specs.Result.{is_ok}
use Rattle.std.proofs.lemmas.Bool.{cases_order}
use Rattle.std.proofs.lemmas.List.{get_or_append_left, get_or_push, length_push, map-append}
use Rattle.qp_model.specs.problem.Design.{Design}
use Rattle.qp_model.specs.problem.Parts.{design_of}
use Rattle.qp_model.specs.problem.Policy.{Plans, plans_of}
use Rattle.qp_model.specs.bounds.Printed.{Printed, printed}
use Rattle.controller_file.specs.declared.any_controller.AnyController.{AnyController}
use Rattle.qp_model.specs.declared.bounds.Bounds.{Bounds}
use Rattle.qp_model.specs.declared.design_parts.DesignParts.{DesignParts}
use Rattle.qp_model.specs.declared.policy.Policy.{Policy}
use Rattle.qp_model.specs.declared.refusal.Refusal.{Refusal}
use Rattle.qp_model.specs.declared.refusal.Refusal.TheVariants.{Memory}
use Rattle.design_engine.specs.Targets.{Targets, targets_of}
use Rattle.design_engine.proofs.CauseLaws.{memory_apart}
use Rattle.fast_bounds.specs.ByMachine.{CauseBy}
use Rattle.fast_bounds.proofs.FastMargin.{margin_memory_apart}
use Rattle.cell_split.specs.Cells.{IsCell}
use Rattle.cell_split.specs.PoliciesText.{covered}
use Rattle.cell_split.proofs.PolicyFacts.{next, none_covered, covered_next, covered_below, own_policy}
use Rattle.cell_maker.specs.declared.make.CellRefusal.{CellRefusal}
use Rattle.cell_maker.proofs.CellDesigns.{Tells}
use Rattle.cell_maker.specs.Made.{cell_plans, IsCellMade, IsCellRefused, IsCellAccepted, PassesCell, AreMadeTo, IsFirstRefused, IsOnlyRefused}

-- ---- the plans of a cell
back : (k : ℕ) → k ≡ k + 1 - 1
back k = omega arith

pub own_plans : (policies : List (Option Policy)) (policy : Option Policy) (k : ℕ) → k < length policies → policy ≡ get_or policies k policy →
    option_map plans_of policy ≡ cell_plans (map (option_map plans_of) policies) (k + 1)
own_plans policies policy k lt own = sym (own_policy policies policy k lt own) ∙ ap (λ (j : ℕ). get_or (map (option_map plans_of) policies) j None) (back k)

-- ---- controllers, one after the other
module _ (p : DesignParts) (fast : Bool) (cuts : List (List ℤ)) (policies : List (Option Plans)) (k : ℕ) where
  covers : (o : Option Plans) → o ≡ cell_plans policies (k + 1) → covered policies (k + 1) ≡ covered policies k + option_len o
  covers o own = ap (covered policies) (next k) ∙ covered_next policies k o (sym own)

  -- those of the cells before stay where they are
  more_made : (controllers : List AnyController) (bounds : List Printed) (c : AnyController) (b : Printed) (plans : Plans) → Some plans ≡ cell_plans policies (k + 1) → IsCellMade p fast cuts (k + 1) plans c b →
      AreMadeTo p fast cuts policies k controllers bounds → AreMadeTo p fast cuts policies (k + 1) (controllers ++ c ∷ []) (bounds ++ b ∷ [])
  more_made controllers bounds c b plans own here so_far = record {
    count = length_push controllers c ∙ ap (λ (n : ℕ). n + 1) so_far.count ∙ sym (covers (Some plans) own);
    bound_count = length_push bounds b ∙ ap (λ (n : ℕ). n + 1) so_far.bound_count ∙ sym (covers (Some plans) own);
    each = λ j x y l.
        below_more (λ i. IfSome (cell_plans policies (i + 1)) (λ q. IsCellMade p fast cuts (i + 1) q (get_or (controllers ++ c ∷ []) (covered policies i) x) (get_or (bounds ++ b ∷ []) (covered policies i) y))) k
        (λ i o. before i x y o (cell_plans policies (i + 1)) refl (so_far.each i x y o))
        (rw (get_or_push controllers c x (covered policies k) so_far.count, get_or_push bounds b y (covered policies k) so_far.bound_count, ← own) here) j l;
  }
    where
      before : (i : ℕ) (x : AnyController) (y : Printed) → i < k → (o : Option Plans) → cell_plans policies (i + 1) ≡ o →
          IfSome o (λ q. IsCellMade p fast cuts (i + 1) q (get_or controllers (covered policies i) x) (get_or bounds (covered policies i) y)) →
          IfSome o (λ q. IsCellMade p fast cuts (i + 1) q (get_or (controllers ++ c ∷ []) (covered policies i) x) (get_or (bounds ++ b ∷ []) (covered policies i) y))
      before i x y lt None is made = tt
      before i x y lt (Some q) is made =
          let below : covered policies i < covered policies k = covered_below policies i k q lt is in
          rw (get_or_append_left controllers (c ∷ []) x (covered policies i) (omega (arith, below, so_far.count)), get_or_append_left bounds (b ∷ []) y (covered policies i) (omega (arith, below, so_far.bound_count))) made

  -- and a cell without plans adds none
  none_made : (controllers : List AnyController) (bounds : List Printed) → None ≡ cell_plans policies (k + 1) → AreMadeTo p fast cuts policies k controllers bounds → AreMadeTo p fast cuts policies (k + 1) controllers bounds
  none_made controllers bounds own so_far = record {
    count = so_far.count ∙ sym (covers None own ∙ zero_more (covered policies k));
    bound_count = so_far.bound_count ∙ sym (covers None own ∙ zero_more (covered policies k));
    each = λ j x y l. below_more (λ i. IfSome (cell_plans policies (i + 1)) (λ q. IsCellMade p fast cuts (i + 1) q (get_or controllers (covered policies i) x) (get_or bounds (covered policies i) y))) k
        (λ i o. so_far.each i x y o) (rw (← own) tt) j l;
  }
    where
      zero_more : (n : ℕ) → n + 0 ≡ n
      zero_more n = omega arith

pub no_cell_made : (p : DesignParts) (fast : Bool) (cuts : List (List ℤ)) (policies : List (Option Plans)) (controllers : List AnyController) (bounds : List Printed) → length controllers ≡ 0 → length bounds ≡ 0 →
    AreMadeTo p fast cuts policies 0 controllers bounds
no_cell_made p fast cuts policies controllers bounds h k =
    record { count = h ∙ sym (none_covered policies); bound_count = k ∙ sym (none_covered policies); each = λ i x y l. absurd (omega (arith, l)) }

module _ (p : DesignParts) (fast : Bool) (cuts : List (List ℤ)) (policies : List (Option Policy)) (k : ℕ) (controllers : List AnyController) (bounds : List Bounds) (policy : Option Policy) (lt : k < length policies)
    (own : policy ≡ get_or policies k policy) (so_far : AreMadeTo p fast cuts (map (option_map plans_of) policies) k controllers (map printed bounds)) where
  pub one_made : (more : List AnyController) (more_bounds : List Bounds) (c : AnyController) (b : Bounds) (q : Policy) → policy ≡ Some q → more ≡ controllers ++ c ∷ [] → more_bounds ≡ bounds ++ b ∷ [] →
      IsCellMade p fast cuts (k + 1) (plans_of q) c (printed b) → AreMadeTo p fast cuts (map (option_map plans_of) policies) (k + 1) more (map printed more_bounds)
  one_made more more_bounds c b q some is are here =
      rw (is, are, map-append printed bounds (b ∷ []))
      (more_made p fast cuts (map (option_map plans_of) policies) k controllers (map printed bounds) c (printed b) (plans_of q) (ap (option_map plans_of) (sym some) ∙ own_plans policies policy k lt own) here so_far)

  pub passed_over : policy ≡ None → AreMadeTo p fast cuts (map (option_map plans_of) policies) (k + 1) controllers (map printed bounds)
  passed_over none = none_made p fast cuts (map (option_map plans_of) policies) k controllers (map printed bounds) (ap (option_map plans_of) (sym none) ∙ own_plans policies policy k lt own) so_far

-- what holds of an answer that is good
pub of_good : {Y E : Type 0} (r : Result Y E) (P : Type 0) → is_ok r ≡ true → OnOk r P → P
of_good (Ok y) P good h = h
of_good (Err e) P good h = absurd (let never : ⊥ = cc in never)

-- ---- one cell of them
some_of : {X : Type 0} (xs : List X) → 0 < length xs → X
some_of [] some = absurd (omega (arith, some))
some_of (x ∷ xs) some = x

-- what was made of cell k, from 1, with its plans
pub record IsMadeAt (p : DesignParts) (fast : Bool) (cuts : List (List ℤ)) (k : ℕ) (plans : Plans) : Type 0 where
  pub controller : AnyController
  pub bounds : Printed
  pub made : IsCellMade p fast cuts k plans controller bounds

module _ (p : DesignParts) (fast : Bool) (cuts : List (List ℤ)) (policies : List (Option Plans)) (n : ℕ) (controllers : List AnyController) (bounds : List Printed) (so_far : AreMadeTo p fast cuts policies n controllers bounds) where
  made_here : (i : ℕ) → i < n → (o : Option Plans) → o ≡ cell_plans policies (i + 1) → IfSome o (IsMadeAt p fast cuts (i + 1))
  made_here i lt None own = tt
  made_here i lt (Some plans) own =
      let below : covered policies i < covered policies n = covered_below policies i n plans lt (sym own) in
      let c = some_of controllers (omega (arith, below, so_far.count)) in
      let b = some_of bounds (omega (arith, below, so_far.bound_count)) in
      record { controller = get_or controllers (covered policies i) c; bounds = get_or bounds (covered policies i) b; made = subst (λ (x : Option Plans). IfSome x (λ q. IsCellMade p fast cuts (i + 1) q (get_or controllers (covered policies i) c) (get_or bounds (covered policies i) b))) (sym own) (so_far.each i c b lt) }

  pub made_at : (k : ℕ) → 1 ≤ k → k ≤ n → IfSome (cell_plans policies k) (IsMadeAt p fast cuts k)
  made_at k some lt = subst (λ (i : ℕ). IfSome (cell_plans policies i) (IsMadeAt p fast cuts i)) (forth k some) (made_here (k - 1) (omega (arith, some, lt)) (cell_plans policies (k - 1 + 1)) refl)
    where
      forth : (j : ℕ) → 1 ≤ j → j - 1 + 1 ≡ j
      forth j some = omega (arith, some)

-- ---- the first refusal
err_not_ok : {M : Type 0} (a : Result M Refusal) (r : Refusal) → a ≡ Err r → IsOk a → ⊥
err_not_ok (Ok x) r is ok = cc
err_not_ok (Err e) r is ok = cc

-- which is never out of memory
memory_never : (fast : Bool) (d : Design) (t : Targets) (plans : Plans) → CauseBy fast d t plans Memory → ⊥
memory_never false = memory_apart
memory_never true = margin_memory_apart

module _ {M : Type 0} (p : DesignParts) (fast : Bool) (cuts : List (List ℤ)) (policies : List (Option Plans)) (k : ℕ) (controllers : List AnyController) (bounds : List Printed) (a : Result M Refusal) (refusal : Refusal)
    (answer : a ≡ Err refusal) (so_far : AreMadeTo p fast cuts policies k controllers bounds) (cell : IsCell cuts (k + 1)) (plans : Plans) (own : Some plans ≡ cell_plans policies (k + 1))
    (why : IsCellRefused p fast cuts (k + 1) plans refusal) (tells : (e : Refusal) → IsCellRefused p fast cuts (k + 1) plans e → Tells a e)
    (accepts : PassesCell p fast cuts (k + 1) plans → IsOk a ⊎ (a ≡ Err Memory)) where
  abbrev pub here : CellRefusal
  here = record { cell = k + 1; refusal = refusal }

  no_memory : refusal ≡ Memory → ⊥
  no_memory memory = let none = subst (λ (e : Refusal). IsCellRefused p fast cuts (k + 1) plans e) memory why in memory_never fast (design_of none.design) (targets_of none.design) plans none.cause

  err_same : (e : Refusal) → Tells a e → e ≡ refusal
  err_same e (inl is) = cc
  err_same e (inr is) = absurd (no_memory cc)

  passes_not : IsOk a ⊎ (a ≡ Err Memory) → ⊥
  passes_not (inl ok) = err_not_ok a refusal answer ok
  passes_not (inr is) = no_memory cc

  -- those before it are accepted
  accepted : (j : ℕ) → 1 ≤ j → j < k + 1 → (o : Option Plans) → cell_plans policies j ≡ o → IfSome o (IsCellAccepted p fast cuts j)
  accepted j some lt None is = tt
  accepted j some lt (Some q) is = (rw is at (made_at p fast cuts policies k controllers bounds so_far j some (omega (arith, lt)))).made.accepted

  refused_here : (j : ℕ) (e : Refusal) → j ≡ k + 1 → IsSomeAnd (cell_plans policies j) (λ q. IsCellRefused p fast cuts j q e) → IsCellRefused p fast cuts (k + 1) plans e
  refused_here j e same h = rw (same, ← own) at h

  not_before : (j : ℕ) (e : Refusal) (o : Option Plans) → IfSome o (IsCellAccepted p fast cuts j) → IsSomeAnd o (λ q. IsCellRefused p fast cuts j q e) → ⊥
  not_before j e None fine bad = bad
  not_before j e (Some q) fine bad = fine e bad

  first : IsFirstRefused p fast cuts policies here
  first = record { cell = cell; before = λ j some lt. accepted j some lt (cell_plans policies j) refl; here = rw (← own) why }

  only : (other : CellRefusal) → IsFirstRefused p fast cuts policies other → other ≡ here
  only other refused = elim (cases_order other.cell (k + 1)) [
    | inl same ↦ whole other same (err_same other.refusal (tells other.refusal (refused_here other.cell other.refusal same refused.here)))
    | inr (inl lower) ↦ absurd (not_before other.cell other.refusal _ (accepted other.cell refused.cell.low lower (cell_plans policies other.cell) refl) refused.here)
    | inr (inr higher) ↦ absurd ((rw (← own) at (refused.before (k + 1) cell.low higher)) refusal why)
  ]
    where
      whole : (other : CellRefusal) → other.cell ≡ k + 1 → other.refusal ≡ refusal → other ≡ here
      whole other same refused = (λ i. record { cell = same i; refusal = refused i })

  pub only_refused : IsOnlyRefused p fast cuts policies here
  only_refused = record { first = first; only = only; fails = rw (← own) (λ passes. passes_not (accepts passes)) }

pub refused_so : {M : Type 0} (p : DesignParts) (fast : Bool) (cuts : List (List ℤ)) (policies : List (Option Policy)) (k : ℕ) (controllers : List AnyController) (bounds : List Printed) (a : Result M Refusal) (refusal : Refusal)
    (policy : Option Policy) (q : Policy) (e : CellRefusal) → a ≡ Err refusal → e ≡ record { cell = k + 1; refusal = refusal } → k < length policies → policy ≡ get_or policies k policy → policy ≡ Some q →
    AreMadeTo p fast cuts (map (option_map plans_of) policies) k controllers bounds → IsCell cuts (k + 1) → (refusal ≡ Memory) ⊎ IsCellRefused p fast cuts (k + 1) (plans_of q) refusal →
    ((o : Refusal) → IsCellRefused p fast cuts (k + 1) (plans_of q) o → Tells a o) → (PassesCell p fast cuts (k + 1) (plans_of q) → IsOk a ⊎ (a ≡ Err Memory)) →
    (e.refusal ≡ Memory) ⊎ IsOnlyRefused p fast cuts (map (option_map plans_of) policies) e
refused_so p fast cuts policies k controllers bounds a refusal policy q e answer is lt own some so_far cell (inl memory) tells accepts = inl (ap (λ (f : CellRefusal). f.refusal) is ∙ memory)
refused_so p fast cuts policies k controllers bounds a refusal policy q e answer is lt own some so_far cell (inr why) tells accepts =
    inr (rw is (only_refused p fast cuts (map (option_map plans_of) policies) k controllers bounds a refusal answer so_far cell (plans_of q)
    (ap (option_map plans_of) (sym some) ∙ own_plans policies policy k lt own) why tells accepts))
