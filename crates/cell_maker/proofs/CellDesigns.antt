-- The numbers of a cell's design are known, and with them its refusals.
use Rattle.std.proofs.Common.{◌≡◌, ◌⊎◌, inl, inr, ℕ, ◌*◌, ◌^◌, ℤ, pos, Bool, List, length, Result, Ok, Err, refl, sym, ap, subst, ◌∙◌, arith, unsigned_abs}
use Rattle.std.specs.Prelude.{All, IsOk, IfOk, IfErr}
use Rattle.std.proofs.lemmas.List.{ext_get_or}
use Rattle.integer_algebra.specs.Sums.{at}
use Rattle.qp_model.specs.problem.Design.{Design}
use Rattle.qp_model.specs.problem.Parts.{design_of, design_numbers, DesignNumbers}
use Rattle.qp_model.specs.problem.Policy.{Plans, IsPolicyFor}
use Rattle.qp_model.specs.problem.Runs.{Holds}
use Rattle.qp_model.specs.bounds.Printed.{printed}
use Rattle.qp_model.specs.declared.design_parts.DesignParts.{DesignParts}
use Rattle.design_engine.specs.Targets.{Targets, targets_of}
use Rattle.fast_bounds.specs.ByMachine.{CauseBy}
use Rattle.qp_model.specs.declared.refusal.Refusal.{Refusal}
use Rattle.qp_model.specs.declared.refusal.Refusal.TheVariants.{Memory}
use Rattle.cell_split.specs.Cells.{cell_low, cell_high}
use Rattle.cell_split.proofs.Designs.{from_numbers}
use Rattle.cell_maker.specs.declared.cell.MadeCell.{MadeCell}
use Rattle.cell_maker.specs.Made.{IsCellDesign, PassesSomeBy, IsMadeOnMachine, IsCellMade, IsCellRefused, Generates, GeneratesBy, GeneratesCell}

-- ---- sizes
fits_by : (p q : DesignParts) (plans : Plans) → q.states ≡ p.states → q.stages ≡ p.stages → q.inputs ≡ p.inputs → IsPolicyFor (design_of p) plans → IsPolicyFor (design_of q) plans
fits_by p q plans states stages inputs h = record {
  count = h.count ∙ sym (ap (λ (n : ℕ). 2 ^ n) states);
  denominators = h.denominators;
  rows = h.rows ∙ sym (ap (λ (n : ℕ). 2 ^ n) states);
  cols = h.cols ∙ sym (λ i. stages i * inputs i);
  regular = subst (λ (n : ℕ). All (λ row. length row ≡ n) plans.numerators.rows) (sym (λ i. stages i * inputs i)) h.regular;
  numerators = h.numerators;
}

pub policy_fits : (p q : DesignParts) (plans : Plans) → design_numbers q ≡ record (design_numbers p) { lo = q.lo.items; hi = q.hi.items } → IsPolicyFor (design_of p) plans → IsPolicyFor (design_of q) plans
policy_fits p q plans same h =
    fits_by p q plans (ap (λ (n : DesignNumbers). n.states) same) (ap (λ (n : DesignNumbers). n.stages) same) (ap (λ (n : DesignNumbers). n.inputs) same) h

-- ---- one design
same_list : (xs ys : List ℤ) (n : ℕ) (f : ℕ → ℤ) → Holds xs n f → Holds ys n f → xs ≡ ys
same_list xs ys n f h k = ext_get_or (pos 0) xs ys (h.long ∙ sym k.long) (λ i l. h.is i (omega (arith, l, h.long)) ∙ sym (k.is i (omega (arith, l, h.long))))

-- two designs of one cell have the same numbers
cell_numbers : (p : DesignParts) (cuts : List (List ℤ)) (k : ℕ) (q r : DesignParts) → IsCellDesign p cuts k q → IsCellDesign p cuts k r → design_numbers q ≡ design_numbers r
cell_numbers p cuts k q r h g =
    let lo = same_list q.lo.items r.lo.items p.states _ h.low g.low in
    let hi = same_list q.hi.items r.hi.items p.states _ h.high g.high in
    h.numbers ∙ ap (λ (xs : List ℤ). record (design_numbers p) { lo = xs; hi = q.hi.items }) lo ∙ ap (λ (xs : List ℤ). record (design_numbers p) { lo = r.lo.items; hi = xs }) hi ∙ sym g.numbers

-- what holds of a design with its targets holds of any with its numbers
of_numbers : (F : Design → Targets → Type 0) (p q : DesignParts) → design_numbers p ≡ design_numbers q → F (design_of p) (targets_of p) → F (design_of q) (targets_of q)
of_numbers F p q e h =
    subst (λ (n : DesignNumbers). F (from_numbers n) (record { denominator = unsigned_abs n.target_den; violation = unsigned_abs n.violation; gap = unsigned_abs n.gap })) e h

-- a design with the numbers of another has its cells
pub cell_same : (p other : DesignParts) (cuts : List (List ℤ)) (k : ℕ) (q : DesignParts) → design_numbers p ≡ design_numbers other → IsCellDesign p cuts k q → IsCellDesign other cuts k q
cell_same p other cuts k q e h = record {
  numbers = h.numbers ∙ ap (λ (n : DesignNumbers). record n { lo = q.lo.items; hi = q.hi.items }) e;
  low = subst (λ (n : DesignNumbers). Holds q.lo.items n.states (cell_low (at n.lo) cuts k)) e h.low;
  high = subst (λ (n : DesignNumbers). Holds q.hi.items n.states (cell_high (at n.hi) cuts k)) e h.high;
}

-- ---- what the generator of a machine says
not_told : {M : Type 0} (m : M) (e : Refusal) → (Ok m ≡ Err e) ⊎ (Ok m ≡ Err Memory) → ⊥
not_told m e (inl is) = cc
not_told m e (inr is) = cc

-- an answer tells a refusal, or out of memory
abbrev pub Tells : {M : Type 0} → Result M Refusal → Refusal → Type 0
Tells a e = (a ≡ Err e) ⊎ (a ≡ Err Memory)

abbrev refusal : Refusal → Result MadeCell Refusal
refusal e = Err e

-- its answer, with what it made put into another form
module _ {M : Type 0} (Made : MadeCell → Type 0) (Cause : Refusal → Type 0) (Passes : Type 0) (r : Result M Refusal) (tells : (e : Refusal) → Cause e → Tells r e) where
  pub generates_ok : (x : M) (y : MadeCell) → r ≡ Ok x → Made y → Generates Made Cause Passes (Ok y)
  generates_ok x y is made = record {
    made = made;
    refused = tt;
    every_refusal = λ e h. absurd (not_told x e (subst (λ (a : Result M Refusal). Tells a e) is (tells e h)));
    accepted = λ h. inl refl;
  }

  pub generates_err : (e : Refusal) → r ≡ Err e → (e ≡ Memory) ⊎ Cause e → (Passes → IsOk r ⊎ (r ≡ Err Memory)) → Generates Made Cause Passes (Err e)
  generates_err e is why accepts = record { made = tt; refused = why; every_refusal = λ o h. moved o (tells o h); accepted = λ h. passed r is (accepts h) }
    where
      same : (o : Refusal) → r ≡ Err o → e ≡ o
      same o told = cc

      moved : (o : Refusal) → Tells r o → Tells (refusal e) o
      moved o (inl told) = inl (ap refusal (same o told))
      moved o (inr told) = inr (ap refusal (same Memory told))

      passed : (a : Result M Refusal) → a ≡ Err e → IsOk a ⊎ (a ≡ Err Memory) → IsOk (refusal e) ⊎ (refusal e ≡ Err Memory)
      passed (Ok x) never h = absurd (let no : ⊥ = cc in no)
      passed (Err o) is (inl ok) = absurd (let no : ⊥ = cc in no)
      passed (Err o) is (inr memory) = inr (let one : e ≡ Memory = cc in ap refusal one)

-- of a design and plans, by a machine
module _ {M : Type 0} (fast : Bool) (p : DesignParts) (plans : Plans) (r : Result M Refusal) (tells : (e : Refusal) → CauseBy fast (design_of p) (targets_of p) plans e → Tells r e) where
  pub by_ok : (x : M) (y : MadeCell) → r ≡ Ok x → IsMadeOnMachine fast p plans y.controller (printed y.bounds) → GeneratesBy fast p plans (Ok y)
  by_ok x y is made = generates_ok (λ m. IsMadeOnMachine fast p plans m.controller (printed m.bounds)) _ _ r tells x y is made

  pub by_err : (e : Refusal) → r ≡ Err e → (e ≡ Memory) ⊎ CauseBy fast (design_of p) (targets_of p) plans e →
      (PassesSomeBy fast (design_of p) (targets_of p) plans → IsOk r ⊎ (r ≡ Err Memory)) → GeneratesBy fast p plans (Err e)
  by_err e is why accepts = generates_err (λ m. IsMadeOnMachine fast p plans m.controller (printed m.bounds)) _ _ r tells e is why accepts

-- of the design of a cell it is said of the cell
module _ (p : DesignParts) (fast : Bool) (cuts : List (List ℤ)) (k : ℕ) (plans : Plans) (q : DesignParts) (cell : IsCellDesign p cuts k q) where
  tells_cell : (r : Result MadeCell Refusal) → ((e : Refusal) → CauseBy fast (design_of q) (targets_of q) plans e → Tells r e) →
      (e : Refusal) → IsCellRefused p fast cuts k plans e → Tells r e
  tells_cell r tells e h = tells e (of_numbers (λ d t. CauseBy fast d t plans e) h.design q (cell_numbers p cuts k h.design q h.cell cell) h.cause)

  made_of : (r : Result MadeCell Refusal) → IfOk r (λ m. IsMadeOnMachine fast q plans m.controller (printed m.bounds)) → ((e : Refusal) → IsCellRefused p fast cuts k plans e → Tells r e) →
      IfOk r (λ m. IsCellMade p fast cuts k plans m.controller (printed m.bounds))
  made_of (Ok m) made tells = record { design = q; cell = cell; made = made; accepted = λ e h. not_told m e (tells e h) }
  made_of (Err e) made tells = tt

  refused_of : (r : Result MadeCell Refusal) → IfErr r (λ e. (e ≡ Memory) ⊎ CauseBy fast (design_of q) (targets_of q) plans e) → IfErr r (λ e. (e ≡ Memory) ⊎ IsCellRefused p fast cuts k plans e)
  refused_of (Ok m) why = tt
  refused_of (Err e) (inl memory) = inl memory
  refused_of (Err e) (inr cause) = inr (record { design = q; cell = cell; cause = cause })

  pub generates_cell : (r : Result MadeCell Refusal) → GeneratesBy fast q plans r → GeneratesCell p fast cuts k plans r
  generates_cell r is =
      let tells = tells_cell r is.every_refusal in
      record {
        made = made_of r is.made tells;
        refused = refused_of r is.refused;
        every_refusal = tells;
        accepted = λ h. is.accepted (of_numbers (λ d t. PassesSomeBy fast d t plans) h.design q (cell_numbers p cuts k h.design q h.cell cell) h.all);
      }
