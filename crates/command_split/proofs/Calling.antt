-- What the cells of a design with their policies call for.
use Rattle.std.proofs.Common.{◌≡◌, ◌≢◌, ◌⊎◌, inl, inr, ℕ, ℤ, Bool, true, false, List, Option, Some, None, refl, sym, ap, ◌∙◌}
use Rattle.std.specs.Prelude.{IfSome, IsSomeAnd}
use Rattle.std.proofs.lemmas.Option.{IfSome_then}
use Rattle.qp_model.specs.problem.Policy.{Plans}
use Rattle.qp_model.specs.problem.Parts.{design_numbers, design_of}
use Rattle.qp_model.specs.machine.Controller.{Numbers}
use Rattle.qp_model.specs.bounds.Printed.{Printed}
use Rattle.qp_model.specs.declared.design_parts.DesignParts.{DesignParts}
use Rattle.command_generate.specs.Engine.Targets.{targets_of}
use Rattle.command_generate.specs.Engine.Bounds.{margin_of}
use Rattle.cell_maker.specs.ByMachine.{CauseBy, IsBuiltBy}
use Rattle.cell_maker.proofs.FastMargin.{margin_passes}
use Rattle.cell_maker.specs.Controllers.AnyText.{any_numbers}
use Rattle.cell_maker.specs.Controllers.declared.any_controller.AnyController.{AnyController}
use Rattle.qp_model.specs.declared.refusal.Refusal.{Refusal}
use Rattle.qp_model.specs.declared.refusal.Refusal.TheVariants as refusals
use Rattle.cell_split.specs.Cells.{IsCell}
use Rattle.cell_maker.specs.declared.make.CellRefusal.{CellRefusal}
use Rattle.cell_maker.specs.Made.{cell_plans, PassesSomeBy, IsCellRefused, IsCellMade, PassesCell, AreCellsMade, IsFirstRefused, IsOnlyRefused}
use Rattle.cell_maker.proofs.CellDesigns.{cell_same}
use Rattle.cell_maker.proofs.Cells.{IsMadeAt, made_at}
use Rattle.command_generate.proofs.Passing.{own_passes}
use Rattle.command_line.specs.Answers.{IsAnswer}
use Rattle.command_line.specs.TwoTexts.{IsUnmade}
use Rattle.command_line.proofs.Doing.{IsRefusal, sort_of, plain_refusal}
use Rattle.command_line.proofs.TwoTexts.{unmade_memory, unmade, some_weaker}
use Rattle.command_line.specs.declared.status.Status.{Status}
use Rattle.command_line.specs.declared.status.Status.TheVariants.{Done, Memory, Cell}
use Rattle.command_split.specs.Cells.{CellsCall}

-- a cell that was made passes every test, with the numbers of its controller
passes_by : (fast : Bool) (p : DesignParts) (plans : Plans) (c : Numbers) (b : Printed) → ((r : Refusal) → CauseBy fast (design_of p) (targets_of p) plans r → ⊥) → IsBuiltBy fast p plans c b →
    PassesSomeBy fast (design_of p) (targets_of p) plans
passes_by false p plans c b none built = (margin_of b, c.step_exponent, c.fraction_bits, own_passes p plans c b none built)
passes_by true p plans c b none built = (margin_of b, c.step_exponent, c.fraction_bits, (c.steps, c.exponents, margin_passes p plans c b none built))

passes_made : (p : DesignParts) (fast : Bool) (cuts : List (List ℤ)) (k : ℕ) (plans : Plans) (c : AnyController) (b : Printed) → IsCellMade p fast cuts k plans c b → PassesCell p fast cuts k plans
passes_made p fast cuts k plans c b is = record { design = is.design; cell = is.cell; all = passes_by fast is.design plans (any_numbers c) b never is.made.built }
  where
    never : (r : Refusal) → CauseBy fast (design_of is.design) (targets_of is.design) plans r → ⊥
    never r cause = is.accepted r (record { design = is.design; cell = is.cell; cause = cause })

-- the status that tells of a refusal
abbrev pub TellsCell : CellRefusal → Status → Type 0
TellsCell e s = ((s ≡ Memory) × (e.refusal ≡ refusals.Memory)) ⊎ ((s ≡ Cell e.cell e.refusal) × (e.refusal ≢ refusals.Memory))

pub cell_refusal : (cell : ℕ) (refusal : Refusal) (s : Status) → s ≡ Cell cell refusal → IsRefusal s
cell_refusal cell refusal s is = plain_refusal s (ap sort_of is)

-- ---- of a cell that has plans
never_both : {A : Type 0} (o : Option A) (P Q : A → Type 0) → ((a : A) → P a → Q a → ⊥) → IfSome o P → IsSomeAnd o Q → ⊥
never_both (Some a) P Q h p q = h a p q
never_both None P Q h p q = q

module _ (p : DesignParts) (fast : Bool) (cuts : List (List ℤ)) (policies : List (Option Plans)) where
  pub done_called : (cells : List AnyController) (bounds : List Printed) → AreCellsMade p fast cuts policies cells bounds → IsAnswer (CellsCall p fast cuts policies) Done
  done_called cells bounds made = record { called = inr (refl, λ k cell. passes k cell); only = only }
    where
      passes : (k : ℕ) → IsCell cuts k → IfSome (cell_plans policies k) (PassesCell p fast cuts k)
      passes k cell =
          IfSome_then (cell_plans policies k) (made_at p fast cuts policies _ cells bounds made k cell.low cell.high) (λ plans at. passes_made p fast cuts k plans at.controller at.bounds at.made)

      none : (e : CellRefusal) → IsFirstRefused p fast cuts policies e → ⊥
      none e first =
          never_both (cell_plans policies e.cell) (IsMadeAt p fast cuts e.cell) (λ plans. IsCellRefused p fast cuts e.cell plans e.refusal) (λ plans at refused. at.made.accepted e.refusal refused)
          (made_at p fast cuts policies _ cells bounds made e.cell first.cell.low first.cell.high) first.here

      only : (t : Status) → CellsCall p fast cuts policies t → t ≡ Done
      only t (inl refused) = absurd (none refused.refusal refused.first)
      only t (inr done) = done.0

  pub refused_called : (e : CellRefusal) (s : Status) → TellsCell e s → (e.refusal ≡ refusals.Memory) ⊎ IsOnlyRefused p fast cuts policies e → IsUnmade (CellsCall p fast cuts policies) s
  refused_called e s (inl memory) why = unmade_memory (CellsCall p fast cuts policies) s memory.0
  refused_called e s (inr told) (inl memory) = absurd (told.1 memory)
  refused_called e s (inr told) (inr why) =
      unmade (CellsCall p fast cuts policies) s (record { called = inl (record { refusal = e; first = why.first; is = told.0 }); only = only }) (cell_refusal e.cell e.refusal s told.0)
    where
      only : (t : Status) → CellsCall p fast cuts policies t → t ≡ s
      only t (inl other) = other.is ∙ ap (λ (f : CellRefusal). Cell f.cell f.refusal) (why.only other.refusal other.first) ∙ sym told.0
      only t (inr done) =
          let o = cell_plans policies e.cell in
          absurd (never_both o (λ plans. PassesCell p fast cuts e.cell plans × (PassesCell p fast cuts e.cell plans → ⊥)) (λ plans. IsCellRefused p fast cuts e.cell plans e.refusal) (λ plans both refused. both.1 both.0)
          (both o (done.1 e.cell why.first.cell) why.fails) why.first.here)
        where
          both : (o : Option Plans) → IfSome o (PassesCell p fast cuts e.cell) → IfSome o (λ plans. PassesCell p fast cuts e.cell plans → ⊥) → IfSome o (λ plans. PassesCell p fast cuts e.cell plans × (PassesCell p fast cuts e.cell plans → ⊥))
          both (Some plans) passes fails = (passes, fails)
          both None passes fails = tt

-- of a design its numbers are seen
module _ (p q : DesignParts) (fast : Bool) (e : design_numbers p ≡ design_numbers q) (cuts : List (List ℤ)) where
  refused_same : (k : ℕ) (plans : Plans) (r : Refusal) → IsCellRefused p fast cuts k plans r → IsCellRefused q fast cuts k plans r
  refused_same k plans r h = record { design = h.design; cell = cell_same p q cuts k h.design e h.cell; cause = h.cause }

  refused_back : (k : ℕ) (plans : Plans) (r : Refusal) → IsCellRefused q fast cuts k plans r → IsCellRefused p fast cuts k plans r
  refused_back k plans r h = record { design = h.design; cell = cell_same q p cuts k h.design (sym e) h.cell; cause = h.cause }

  pub calls_same : (policies : List (Option Plans)) (s : Status) → CellsCall p fast cuts policies s → CellsCall q fast cuts policies s
  calls_same policies s (inl refused) = inl (record { refusal = refused.refusal; first = first; is = refused.is })
    where
      first : IsFirstRefused q fast cuts policies refused.refusal
      first = record {
        cell = refused.first.cell;
        before = λ k some lt. IfSome_then (cell_plans policies k) (refused.first.before k some lt) (λ plans accepted r h. accepted r (refused_back k plans r h));
        here = some_weaker (cell_plans policies refused.refusal.cell) _ _ (λ plans h. refused_same refused.refusal.cell plans refused.refusal.refusal h) refused.first.here;
      }
  calls_same policies s (inr done) = inr (done.0, λ k cell. IfSome_then (cell_plans policies k) (done.1 k cell) (same k))
    where
      same : (k : ℕ) (plans : Plans) → PassesCell p fast cuts k plans → PassesCell q fast cuts k plans
      same k plans h = record { design = h.design; cell = cell_same p q cuts k h.design e h.cell; all = h.all }
