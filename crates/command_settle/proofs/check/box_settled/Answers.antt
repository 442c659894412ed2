use Rattle.std.proofs.Common.{◌≡◌, ℕ, ℤ, List, ap, sym, subst, ◌∙◌}
use Rattle.qp_model.specs.problem.Parts.{design_of}
use Rattle.qp_model.specs.machine.Controller.{Numbers, numbers}
use Rattle.qp_model.specs.declared.design_parts.DesignParts.{DesignParts}
use Rattle.settle_check.specs.Still.{Box, box_of, IsPartOf}
use Rattle.settle_check.specs.ClosedRows.{IsLoopFor}
use Rattle.settle_check.specs.Certificates.{state_box, IsCertificateFor, IsBoxOf}
use Rattle.settle_check.specs.Settling.{told_rows, cost_box}
use Rattle.settle_check.specs.declared.certificate.StateBox.{StateBox}
use Rattle.settle_check.specs.CertificateText.{certificate_numbers, certificate_in}
use Rattle.settle_check.proofs.CountedFacts.{positive}
use Rattle.command_loop.specs.ControllerFile.AnyText.{any_numbers}
use Rattle.command_settle.specs.Settle.{range_box}
use Rattle.command_settle.proofs.Loops.{any_settle}
use Rattle.command_settle.proofs.Calling.{passing, failing}
use Rattle.command_settle.proofs.check.box_settled.Goals as goal

pub check_settling-requires : goal.check_settling-requires
check_settling-requires c =
    let states = ap (λ (p : DesignParts). p.states) c.parts-d.ensures.value ∙ c.requires.matched.states in
    let low = ap (λ (n : Numbers). n.low) c.parts-c.ensures.value in
    let high = ap (λ (n : Numbers). n.high) c.parts-c.ensures.value in
    record {
      design = c.parts-d.ensures.sound;
      sized = c.parts-c.ensures.sized;
      matched = rw (c.parts-d.ensures.value, c.parts-c.ensures.value) c.requires.matched;
      certificate = subst (λ (k : ℕ). IsCertificateFor k c.args.certificate.now) (sym states) c.requires.certificate;
      inside = subst (λ (k : ℕ). IsPartOf k (box_of c.parts-c.result.now.lo.items c.parts-c.result.now.hi.items) (state_box c.args.certificate.now.still)) (sym states) (rw (low, high) c.requires.inside);
      shift_low = rw c.row.ensures.value (c.requires.range.low.long ∙ sym states);
      shift_high = rw c.row-2.ensures.value (c.requires.range.high.long ∙ sym states);
    }

-- where rows of the cost lie, by equal files
abbrev AreCosts : DesignParts → Numbers → (low high : List ℤ) → Box → ℕ → StateBox → Type 0
AreCosts p n low high z turns b = IsBoxOf (told_rows (design_of p) turns) (cost_box (design_of p) n z (box_of low high) turns) b

costs_same : (p q : DesignParts) (n m : Numbers) (l h low high : List ℤ) (z : Box) (turns : ℕ) (b : StateBox) → p ≡ q → n ≡ m → l ≡ low → h ≡ high →
    AreCosts p n l h z turns b → AreCosts q m low high z turns b
costs_same p q n m l h low high z turns b e f g k are =
    subst (λ (x : List ℤ). AreCosts q m low x z turns b) k
    (subst (λ (x : List ℤ). AreCosts q m x h z turns b) g
    (subst (λ (x : Numbers). AreCosts q x l h z turns b) f
    (subst (λ (x : DesignParts). AreCosts x n l h z turns b) e are)))

pub returns-in-Ok : goal.returns-in-Ok
returns-in-Ok c =
    let d = design_of c.args.design.now in
    let n = any_numbers c.args.controller.now in
    let f = certificate_numbers c.args.certificate.now in
    let told = rw (c.parts-d.ensures.value, c.parts-c.ensures.value, c.row.ensures.value, c.row-2.ensures.value) at c.in-Ok.ensures in
    let own : IsLoopFor (design_of c.parts-d.result.now) (numbers c.parts-c.result.now) = record {
      plant = positive c.parts-d.result.now.plant_den c.parts-d.ensures.sound.plant_den;
      sized = c.parts-c.ensures.sized;
      sizes = rw (c.parts-d.ensures.value, c.parts-c.ensures.value) c.requires.matched;
    } in
    let loop : IsLoopFor d n = rw (c.parts-d.ensures.value, c.parts-c.ensures.value) at own in
    record {
      rest = told.rest;
      costs = costs_same _ _ _ _ _ _ _ _ (state_box c.args.certificate.now.still) c.args.certificate.now.after c.in-Ok.settled.costs c.parts-d.ensures.value c.parts-c.ensures.value
          c.row.ensures.value c.row-2.ensures.value c.in-Ok.ensures.costs;
      settles = any_settle d c.args.controller.now (range_box c.args.range.now) (certificate_in f) loop told.found.still told.settled;
      passes = told.found;
      answer = passing d n f c.args.range.now told.found told.first;
      ends = tt;
    }

pub returns-in-Err : goal.returns-in-Err
returns-in-Err c =
    let d = design_of c.args.design.now in
    let n = any_numbers c.args.controller.now in
    let f = certificate_numbers c.args.certificate.now in
    let told = rw (c.parts-d.ensures.value, c.parts-c.ensures.value, c.row.ensures.value, c.row-2.ensures.value) at c.in-Err.ensures in
    record {
      rest = tt;
      costs = tt;
      settles = tt;
      passes = tt;
      answer = tt;
      ends = failing d n f c.args.range.now c.in-Err.fault c.settle_status.result c.settle_status.ensures told.fault told.right told.first;
    }
