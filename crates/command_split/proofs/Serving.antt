-- The controllers of cells are alike, and each state of the design's box lies in the box of one of them.
use Rattle.std.proofs.Common.{◌≡◌, inl, inr, ℕ, zero, suc, ◌+◌, ◌-◌, ◌<◌, ◌≤◌, ℤ, ◌≤ℤ◌, Bool, true, false, List, [], ◌∷◌, length, get_or, Option, Some, None, refl, sym, ap, subst, ◌∙◌, arith}
use Rattle.std.specs.Prelude.{IfSome, MatchOption}
use Rattle.std.proofs.lemmas.Bool.{cases_lt}
use Rattle.integer_algebra.specs.Sums.{at}
use Rattle.qp_model.specs.problem.Box.{IsGridState}
use Rattle.qp_model.specs.problem.Parts.{IsDesign, DesignNumbers, design_of}
use Rattle.qp_model.specs.problem.Policy.{Plans}
use Rattle.qp_model.specs.problem.Runs.{Holds}
use Rattle.qp_model.specs.machine.Controller.{Numbers}
use Rattle.qp_model.specs.machine.Machine.{IsAdmissible}
use Rattle.qp_model.specs.bounds.Built.{HasSizesOf}
use Rattle.qp_model.specs.bounds.Printed.{Printed}
use Rattle.qp_model.specs.declared.design_parts.DesignParts.{DesignParts}
use Rattle.cell_split.specs.Cells.{cell_low, cell_high, cell_count, cell_of, AreCutsFor, Splits, IsServed}
use Rattle.cell_split.specs.PoliciesText.{covered}
use Rattle.cell_split.proofs.CellLaws.{split_law}
use Rattle.cell_split.proofs.PolicyFacts.{none_covered, covered_next, covered_below}
use Rattle.cell_split.proofs.Designs.{from_numbers}
use Rattle.cell_file.specs.Cells.{AreAlike}
use Rattle.cell_file.specs.Finding.{NoneHolds}
use Rattle.cell_maker.specs.Made.{cell_plans, is_fast, IsCertifiedBy, IsCellMade, AreCellsMade}
use Rattle.cell_maker.specs.Controllers.AnyText.{any_numbers}
use Rattle.cell_maker.specs.Controllers.declared.any_controller.AnyController.{AnyController}
use Rattle.cell_maker.specs.ByMachine.{IsBuiltBy}
use Rattle.command_split.specs.Cells.{HaveCellBoxes, IsServedBy, EachIsServed}
use Rattle.command_split.proofs.BoxFree.{certified_same}

-- ---- one controller
-- its sizes and its grid are the whole design's
record HasSizesOfAll (p : DesignParts) (c : Numbers) : Type 0 where
  pub states : c.states ≡ p.states
  pub inputs : c.inputs ≡ p.inputs
  pub stages : c.stages ≡ p.stages
  pub grid : c.grid_bits ≡ p.grid

-- those of the design that it is built of
record IsOfDesign (q : DesignParts) (c : Numbers) : Type 0 where
  pub sizes : HasSizesOf (design_of q) c
  pub low : length c.low ≡ c.states
  pub high : length c.high ≡ c.states

of_design : (fast : Bool) (q : DesignParts) (plans : Plans) (c : Numbers) (b : Printed) → IsBuiltBy fast q plans c b → IsOfDesign q c
of_design false q plans c b built = record { sizes = built.made.made.sizes; low = built.made.controller.form.sized.shaped.low; high = built.made.controller.form.sized.shaped.high }
of_design true q plans c b built =
    record { sizes = built.made.made.sizes; low = built.made.controller.form.sized.rest.shaped.low; high = built.made.controller.form.sized.rest.shaped.high }

module _ (p : DesignParts) (fast : Bool) (cuts : List (List ℤ)) (k : ℕ) (plans : Plans) (c : AnyController) (b : Printed) (is : IsCellMade p fast cuts k plans c b) where
  sized : IsOfDesign is.design (any_numbers c)
  sized = of_design fast is.design plans (any_numbers c) b is.made.built

  own_sizes : HasSizesOfAll p (any_numbers c)
  own_sizes =
      let same = is.cell.numbers in
      record {
        states = sized.sizes.states ∙ ap (λ (n : DesignNumbers). n.states) same;
        inputs = sized.sizes.inputs ∙ ap (λ (n : DesignNumbers). n.inputs) same;
        stages = sized.sizes.stages ∙ ap (λ (n : DesignNumbers). n.stages) same;
        grid = sized.sizes.grid ∙ ap (λ (n : DesignNumbers). n.grid) same;
      }

  states_same : is.design.states ≡ p.states
  states_same = ap (λ (n : DesignNumbers). n.states) is.cell.numbers

  own_low : Holds (any_numbers c).low p.states (cell_low (at p.lo.items) cuts k)
  own_low = record {
    long = sized.low ∙ own_sizes.states;
    is = λ i l. sized.sizes.low i (omega (arith, l, states_same)) ∙ is.cell.low.is i l;
  }

  own_high : Holds (any_numbers c).high p.states (cell_high (at p.hi.items) cuts k)
  own_high = record {
    long = sized.high ∙ own_sizes.states;
    is = λ i l. sized.sizes.high i (omega (arith, l, states_same)) ∙ is.cell.high.is i l;
  }

  -- a state of its cell is one of its box, and the other way round
  admissible : (xi : List ℤ) → length xi ≡ p.states → IsGridState (cell_of (design_of p) cuts k) (at xi) → IsAdmissible (any_numbers c) xi
  admissible xi long inside = record {
    long = long ∙ sym own_sizes.states;
    each = λ i l. let m : i < p.states = omega (arith, l, own_sizes.states) in record { low = rw (own_low.is i m) (inside i m).0; high = rw (own_high.is i m) (inside i m).1 };
  }

  of_cell : (xi : List ℤ) → IsAdmissible (any_numbers c) xi → IsGridState (cell_of (design_of p) cuts k) (at xi)
  of_cell xi h = λ i l. let inside = h.each i (omega (arith, l, own_sizes.states)) in (rw (own_low.is i l) at inside.low, rw (own_high.is i l) at inside.high)

  -- it is certified there for the whole design, since what is certified of a run speaks of no box
  certified_at : (xi : List ℤ) → length xi ≡ p.states → IsGridState (cell_of (design_of p) cuts k) (at xi) → IsCertifiedBy (design_of p) c b xi
  certified_at xi long inside =
      certified_same (design_of p) (at is.design.lo.items) (at is.design.hi.items) c b xi
      (subst (λ (n : DesignNumbers). IsCertifiedBy (from_numbers n) c b xi) is.cell.numbers (is.made.certified xi (long ∙ sym states_same) (λ i l. here i l)))
    where
      here : (i : ℕ) → i < is.design.states → (at is.design.lo.items i ≤ℤ at xi i) × (at xi i ≤ℤ at is.design.hi.items i)
      here i l = let m : i < p.states = omega (arith, l, states_same) in (rw (is.cell.low.is i m) (inside i m).0, rw (is.cell.high.is i m) (inside i m).1)

alike_of : (p : DesignParts) (c d : Numbers) → HasSizesOfAll p c → HasSizesOfAll p d → AreAlike c d
alike_of p c d h k = record { states = h.states ∙ sym k.states; inputs = h.inputs ∙ sym k.inputs; stages = h.stages ∙ sym k.stages; grid = h.grid ∙ sym k.grid }

-- ---- all of them
some_bound : (bounds : List Printed) → 0 < length bounds → Printed
some_bound [] some = absurd (omega (arith, some))
some_bound (b ∷ bounds) some = b

-- the cell of a controller, from 0, and its plans
pub record IsOfCell (policies : List (Option Plans)) (n i : ℕ) : Type 0 where
  pub cell : ℕ
  pub inside : cell < n
  pub plans : Plans
  pub own : cell_plans policies (cell + 1) ≡ Some plans
  pub place : i ≡ covered policies cell

-- each controller is that of a cell
pub cell_of_controller : (policies : List (Option Plans)) (n i : ℕ) → i < covered policies n → IsOfCell policies n i
cell_of_controller policies zero i lt = absurd (omega (arith, lt, none_covered policies))
cell_of_controller policies (suc n) i lt = elim (cases_lt i (covered policies n)) [
  | inl l ↦ (let c = cell_of_controller policies n i l in record { cell = c.cell; inside = omega (arith, c.inside); plans = c.plans; own = c.own; place = c.place })
  | inr l ↦ last (cell_plans policies (n + 1)) refl l
]
  where
    last : (o : Option Plans) → cell_plans policies (n + 1) ≡ o → covered policies n ≤ i → IsOfCell policies (suc n) i
    last None is l = absurd (omega (arith, lt, l, covered_next policies n None is))
    last (Some plans) is l = record { cell = n; inside = omega arith; plans = plans; own = is; place = omega (arith, lt, l, covered_next policies n (Some plans) is) }

module _ (p : DesignParts) (fast : Bool) (cuts : List (List ℤ)) (policies : List (Option Plans)) (cells : List AnyController) (bounds : List Printed) (made : AreCellsMade p fast cuts policies cells bounds) where
  -- what was made of one, whatever stands for those that aren't there
  own_made : (k : ℕ) (c : AnyController) (plans : Plans) → k < cell_count cuts → cell_plans policies (k + 1) ≡ Some plans → (b : Printed) × IsCellMade p fast cuts (k + 1) plans (get_or cells (covered policies k) c) b
  own_made k c plans lt own =
      let below = covered_below policies k (cell_count cuts) plans lt own in
      let b = some_bound bounds (omega (arith, below, made.bound_count)) in
      (get_or bounds (covered policies k) b, rw own at (made.each k c b lt))

  -- of that number
  made_of : (i : ℕ) (c : AnyController) (own : IsOfCell policies (cell_count cuts) i) → (b : Printed) × IsCellMade p fast cuts (own.cell + 1) own.plans (get_or cells i c) b
  made_of i c own = let m = own_made own.cell c own.plans own.inside own.own in (m.0, rw own.place m.1)

  its_cell : (i : ℕ) → i < length cells → IsOfCell policies (cell_count cuts) i
  its_cell i lt = cell_of_controller policies (cell_count cuts) i (omega (arith, lt, made.count))

  pub are_alike : (i : ℕ) (c : AnyController) → i < length cells → AreAlike (any_numbers (get_or cells 0 c)) (any_numbers (get_or cells i c))
  are_alike i c lt =
      let first = made_of 0 c (its_cell 0 (omega (arith, lt))) in
      let other = made_of i c (its_cell i lt) in
      alike_of p _ _ (own_sizes p fast cuts _ _ _ _ first.1) (own_sizes p fast cuts _ _ _ _ other.1)

  -- all are of the machine
  pub machines : (i : ℕ) (c : AnyController) → i < length cells → is_fast (get_or cells i c) ≡ fast
  machines i c lt = (made_of i c (its_cell i lt)).1.made.machine

  boxed : (Box : ℕ → AnyController → Type 0) → ((k : ℕ) (c : AnyController) (plans : Plans) (b : Printed) → IsCellMade p fast cuts k plans c b → Box k c) →
      (k : ℕ) (c : AnyController) → k < cell_count cuts → (o : Option Plans) → cell_plans policies (k + 1) ≡ o → IfSome o (λ _. Box (k + 1) (get_or cells (covered policies k) c))
  boxed Box box k c lt None own = tt
  boxed Box box k c lt (Some plans) own = let m = own_made k c plans lt own in box (k + 1) (get_or cells (covered policies k) c) plans m.0 m.1

  pub boxes : HaveCellBoxes p cuts policies cells
  boxes = record {
    low = λ k c lt. boxed (λ j x. Holds (any_numbers x).low p.states (cell_low (at p.lo.items) cuts j)) (λ j x plans b m. own_low p fast cuts j plans x b m) k c lt (cell_plans policies (k + 1)) refl;
    high = λ k c lt. boxed (λ j x. Holds (any_numbers x).high p.states (cell_high (at p.hi.items) cuts j)) (λ j x plans b m. own_high p fast cuts j plans x b m) k c lt (cell_plans policies (k + 1)) refl;
  }

  module _ (design : IsDesign p) (cut : AreCutsFor (design_of p) cuts) where
    pub splits : Splits (design_of p) cuts
    splits = split_law (design_of p) cuts design.box cut

    module _ (xi : List ℤ) (long : length xi ≡ p.states) (own : IsServed (design_of p) cuts (at xi)) where
      -- a controller whose box has the state is that of the state's cell
      same_cell : (k : ℕ) (c : AnyController) → k < length cells → IsAdmissible (any_numbers (get_or cells k c)) xi → (it : IsOfCell policies (cell_count cuts) k) → it.cell + 1 ≡ own.cell
      same_cell k c lt has it =
          own.alone (it.cell + 1) (record { low = omega arith; high = omega (arith, it.inside) }) (of_cell p fast cuts (it.cell + 1) _ _ _ (made_of k c it).1 xi has)

      -- the cell has no plans
      unserved : cell_plans policies own.cell ≡ None → NoneHolds cells xi (length cells)
      unserved none k c lt has =
          let it = its_cell k lt in
          let is = ap (cell_plans policies) (same_cell k c lt has it) in
          let never : Some it.plans ≡ None = sym it.own ∙ is ∙ none in
          cc

      -- it has plans
      served_by : (i : ℕ) (plans : Plans) → i + 1 ≡ own.cell → cell_plans policies (i + 1) ≡ Some plans → IsServedBy (design_of p) cells bounds xi
      served_by i plans same is =
          let there : i < cell_count cuts = omega (arith, same, own.is_cell.high) in
          let below = covered_below policies i (cell_count cuts) plans there is in
          let state : IsGridState (cell_of (design_of p) cuts (i + 1)) (at xi) = subst (λ (k : ℕ). IsGridState (cell_of (design_of p) cuts k) (at xi)) (sym same) own.here in
          record {
            index = covered policies i;
            first = record {
              there = omega (arith, below, made.count);
              here = λ c. admissible p fast cuts (i + 1) _ _ _ (own_made i c plans there is).1 xi long state;
              before = λ k c lt has. let it = alone k c (omega (arith, lt, below, made.count)) has in omega (arith, it, lt);
            };
            alone = alone;
            certified = λ c b. certified_at p fast cuts (i + 1) plans _ _ (rw is at (made.each i c b there)) xi long state;
          }
        where
          alone : (k : ℕ) (c : AnyController) → k < length cells → IsAdmissible (any_numbers (get_or cells k c)) xi → k ≡ covered policies i
          alone k c lt has =
              let it = its_cell k lt in
              let at_cell = same_cell k c lt has it in
              let one : it.cell ≡ i = omega (arith, at_cell, same) in
              it.place ∙ ap (covered policies) one

      by_plans : (i : ℕ) → i + 1 ≡ own.cell → (o : Option Plans) → cell_plans policies own.cell ≡ o → MatchOption o (NoneHolds cells xi (length cells)) (λ _. IsServedBy (design_of p) cells bounds xi)
      by_plans i same None is = unserved is
      by_plans i same (Some plans) is = served_by i plans same (ap (cell_plans policies) same ∙ is)

    pub each_served : EachIsServed (design_of p) cuts policies cells bounds
    each_served xi long inside = record { own = own; by = by_plans xi long own (own.cell - 1) (forth own.cell own.is_cell.low) (cell_plans policies own.cell) refl }
      where
        own : IsServed (design_of p) cuts (at xi)
        own = splits.served (at xi) inside

        forth : (k : ℕ) → 1 ≤ k → k - 1 + 1 ≡ k
        forth k some = omega (arith, some)
