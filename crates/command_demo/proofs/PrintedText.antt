-- The report and the lines, printed one after the other.
use Rattle.std.proofs.Common.{◌≡◌, ◌⊎◌, inl, inr, ℕ, ◌<◌, ℤ, List, [], ◌∷◌, ◌++◌, length, Option, Some, None, option_map, refl, sym, subst, ◌∙◌, arith, append_assoc, length-append}
use Rattle.std.specs.Prelude.{IfSome, IsSomeAnd}
use Rattle.std.specs.List.{flat_map}
use Rattle.std.proofs.Math.Seq.{take-length}
use Rattle.io_edge.specs.Faults.{Rose, GrowsByPart}
use Rattle.io_edge.specs.declared.sink.Sink.{Ghosts as Screen}
use Rattle.mat_int.specs.Matrix.{Matrix}
use Rattle.qp_model.specs.machine.Controller.{Numbers}
use Rattle.qp_model.specs.text.ControllerText.{plan_line}
use Rattle.qp_model.specs.bounds.Printed.{Printed}
use Rattle.bound_report.specs.Report.{report_text}
use Rattle.plan_lines.specs.Lines.{plan_lines}
use Rattle.plan_lines.specs.Inside.{AreInside}
use Rattle.plan_lines.specs.ControllerFile.declared.any_controller.AnyController.TheVariants.{Plain}
use Rattle.plan_lines.specs.Making.{Ending, all, short, cut, stopped, PrintsLines, making_of_any}
use Rattle.plan_lines.specs.Printing.{ArePrinted, AreFirstLines, LinesShow, lines_of_plans}
use Rattle.plan_lines.proofs.LineByLine.{longer, after}
use Rattle.plan_lines.proofs.Acting.{lines_told, lines_ended, lines_shown}
use Rattle.plan_lines.proofs.PlanLines.{line_some, lines_as, no_plan_yet}
use Rattle.command_line.proofs.Results.{both_some}
use Rattle.command_demo.specs.Demo.{IsShown, IsPrefixShown, IsTextPrinted, PrintsOf, DemoPrints, demo_deeds}
use Rattle.command_line.specs.declared.status.Status.{Status}
use Rattle.command_line.specs.declared.status.Status.TheVariants.{Done, Memory, WriteFault}

-- ---- lines of some states are some bytes
some_of : {X : Type 0} (f : X → List ℕ) (each : (x : X) → 0 < length (f x)) (xs : List X) → 0 < length xs → 0 < length (flat_map f xs)
some_of f each [] l = absurd (omega (arith, l))
some_of f each (x ∷ xs) l = omega (arith, each x, length-append (f x) (flat_map f xs))

lines_some : (c : Numbers) (states : Matrix) → 0 < length states.rows → 0 < length (plan_lines c states (length states.rows))
lines_some c states l =
    subst (λ (xs : List (List ℤ)). 0 < length (flat_map (plan_line c) xs)) (sym (take-length states.rows))
    (some_of (plan_line c) (line_some (Plain c)) states.rows l)

-- ---- what the lines show
plans_only : {O : Type 0} {screen : Screen O} {c : Numbers} {m : Matrix} {out now : O} {k : ℕ} {text : List ℕ} {s : Status} → Ending screen (making_of_any (Plain c)) m out now k text s →
    (s ≡ Memory) ⊎ ((s ≡ Done) ⊎ (s ≡ WriteFault 0))
plans_only (all whole got) = inr (inl refl)
plans_only (short got) = inl refl
plans_only (cut some got rose) = inr (inr refl)
plans_only (stopped lt never got first) = absurd never

pub record PlansEnd {O : Type 0} (screen : Screen O) (c : Numbers) (m : Matrix) (out now : O) (s : Status) : Type 0 where
  pub only : (s ≡ Memory) ⊎ ((s ≡ Done) ⊎ (s ≡ WriteFault 0))
  pub printed : IfSome (screen.got out) (λ old. IsSomeAnd (screen.got now) (ArePrinted c m s old))
  pub failed : s ≡ WriteFault 0 → Rose (screen.faults out) (screen.faults now)

pub plans_end : {O : Type 0} (screen : Screen O) (c : Numbers) (m : Matrix) (out now : O) (s : Status) → AreInside c m (length m.rows) → PrintsLines screen (making_of_any (Plain c)) m out now s → PlansEnd screen c m out now s
plans_end screen c m out now s inside l =
    let lines = lines_of_plans c m in
    let p = lines_ended (demo_deeds 0) (lines_told (making_of_any (Plain c)) m lines (lines_as c (plan_line c) m) (λ s. ⊥)) screen out now s inside l in
    record {
      only = plans_only l.ending;
      printed =
          both_some (LinesShow (AreInside c m (length m.rows)) lines s) (ArePrinted c m s)
          (λ old new. lines_shown lines s old new (no_plan_yet c m old new) (AreInside c m (length m.rows))) (screen.got out) (screen.got now) p.shows;
      failed = λ is. (p.write_fault 0 is).2;
    }

module _ (c : Numbers) (b : Printed) (states : Matrix) where
  -- ---- the report, and then the lines
  pub report_cut : (old new : List ℕ) → GrowsByPart old new (report_text b) → IsTextPrinted c b states (WriteFault 0) old new
  report_cut old new p = record {
    done = λ is. absurd (let never : ⊥ = cc in never);
    fault = λ is. longer (report_text b) (plan_lines c states (length states.rows)) old new p;
    memory = λ is. absurd (let never : ⊥ = cc in never);
  }

  first : (old new : List ℕ) → AreFirstLines c states (old ++ report_text b) new → IsPrefixShown c b states old new
  first old new lines = record { count = lines.count; some = lines.some; printed = lines.printed ∙ append_assoc old (report_text b) (plan_lines c states lines.count) }

  pub lines_after : (s : Status) (old new : List ℕ) → 0 < length states.rows → ArePrinted c states s (old ++ report_text b) new → IsTextPrinted c b states s old new
  lines_after s old new some p = record {
    done = λ is. p.done is ∙ append_assoc old (report_text b) (plan_lines c states (length states.rows));
    fault = λ is. after (report_text b) (plan_lines c states (length states.rows)) old new (lines_some c states some) (p.fault is);
    memory = λ is. inr (first old new (p.memory is));
  }

  -- what the output tells
  pub report_put : (s : Status) (first mid last : Option (List ℕ)) → 0 < length states.rows → mid ≡ option_map (λ old. old ++ report_text b) first →
      IfSome mid (λ old. IsSomeAnd last (ArePrinted c states s old)) → IfSome first (λ old. IsSomeAnd last (IsTextPrinted c b states s old))
  report_put s first mid last some is p = go first last (subst (λ (o : Option (List ℕ)). IfSome o (λ old. IsSomeAnd last (ArePrinted c states s old))) is p)
    where
      go : (first last : Option (List ℕ)) → IfSome (option_map (λ old. old ++ report_text b) first) (λ old. IsSomeAnd last (ArePrinted c states s old)) →
          IfSome first (λ old. IsSomeAnd last (IsTextPrinted c b states s old))
      go (Some old) (Some new) p = lines_after s old new some p
      go (Some old) None p = p
      go None last p = tt

  pub report_fault : (first last : Option (List ℕ)) → IfSome first (λ old. IsSomeAnd last (λ new. GrowsByPart old new (report_text b))) →
      IfSome first (λ old. IsSomeAnd last (IsTextPrinted c b states (WriteFault 0) old))
  report_fault = both_some (λ old new. GrowsByPart old new (report_text b)) (IsTextPrinted c b states (WriteFault 0)) report_cut

  -- ---- the answers of the whole
  prints_of : (number : ℕ) (s : Status) (old new : List ℕ) → IsShown number c b states → (s ≡ Memory) ⊎ ((s ≡ Done) ⊎ (s ≡ WriteFault 0)) → IsTextPrinted c b states s old new → DemoPrints number s old new
  prints_of number s old new is ends p = record {
    done = λ done. whole;
    fault = λ fault. whole;
    memory = λ memory. inr whole;
    other = λ done fault memory. absurd (elim ends [ inl e ↦ memory e | inr (inl e) ↦ done e | inr (inr e) ↦ fault e ]);
  }
    where
      whole : PrintsOf number s old new
      whole = record { c = c; b = b; states = states; is_shown = is; printed = p }

  pub prints_told : (number : ℕ) (s : Status) (first last : Option (List ℕ)) → IsShown number c b states → (s ≡ Memory) ⊎ ((s ≡ Done) ⊎ (s ≡ WriteFault 0)) →
      IfSome first (λ old. IsSomeAnd last (IsTextPrinted c b states s old)) → IfSome first (λ old. IsSomeAnd last (DemoPrints number s old))
  prints_told number s (Some old) (Some new) is ends p = prints_of number s old new is ends p
  prints_told number s (Some old) None is ends p = p
  prints_told number s None last is ends p = tt

-- nothing is printed
pub quiet : (number : ℕ) (s : Status) (old : List ℕ) → (s ≡ Done → ⊥) → (s ≡ WriteFault 0 → ⊥) → DemoPrints number s old old
quiet number s old done fault = record { done = λ is. absurd (done is); fault = λ is. absurd (fault is); memory = λ is. inl refl; other = λ d f m. refl }
