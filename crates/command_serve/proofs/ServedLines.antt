-- The lines of states, and what is printed of them.
use Rattle.std.proofs.Common.{◌≡◌, inl, inr, ℕ, zero, suc, ◌<◌, ◌≤◌, ℤ, List, [], ◌++◌, length, get_or, refl, sym, ap, subst, ◌∙◌, arith, append_assoc}
use Rattle.std.proofs.lemmas.Bool.{cases_lt}
use Rattle.std.proofs.lemmas.List.{append-nil}
use Rattle.mat_int.specs.Matrix.{Matrix, row_of}
use Rattle.plan_lines.specs.ControllerFile.declared.any_controller.AnyController.{AnyController}
use Rattle.plan_lines.specs.Lines.{any_plan_line}
use Rattle.plan_lines.proofs.LineByLine.{longer}
use Rattle.plan_lines.proofs.Acting.{AreToldAs}
use Rattle.plan_lines.proofs.PlanLines.{line_some}
use Rattle.command_serve.specs.Served.{IsHeldBySome, AreServed}
use Rattle.command_serve.specs.Lines.{IsServedLine, AreServedLines}
use Rattle.command_serve.specs.Making.{making_of_cells}
use Rattle.command_serve.specs.Printing.{served_lines}
use Rattle.command_serve.specs.Laws.{OneTextLaw}
use Rattle.command_serve.proofs.Serving.{some_cell, any_default, one_first}
use Rattle.command_serve.proofs.Unserving.{served_judged}

-- a state that some cell's box holds has a line
line_of : (cells : List AnyController) (xi : List ℤ) → IsHeldBySome cells xi → (line : List ℕ) × IsServedLine cells xi line
line_of cells xi held =
    let c = some_cell cells held.0 held.1.there in
    (any_plan_line (get_or cells held.0 c) xi, record { cell = held.0; first = held.1; is = λ d. ap (λ (k : AnyController). any_plan_line k xi) (any_default cells held.0 c d held.1.there) })

-- a line has its line feed at least
pub served_some : (cells : List AnyController) (xi : List ℤ) (line : List ℕ) → IsServedLine cells xi line → 0 < length line
served_some cells xi line served =
    let c = some_cell cells served.cell served.first.there in
    omega (arith, ap length (served.is c), line_some (get_or cells served.cell c) xi)

-- a state has one line, and states one text
one_line : (cells : List AnyController) (xi : List ℤ) (line other : List ℕ) → IsServedLine cells xi line → IsServedLine cells xi other → line ≡ other
one_line cells xi line other served same =
    let c = some_cell cells served.cell served.first.there in
    served.is c ∙ ap (λ (i : ℕ). any_plan_line (get_or cells i c) xi) (one_first cells xi served.cell same.cell served.first same.first) ∙ sym (same.is c)

pub one_text_law : OneTextLaw
one_text_law cells states zero text other lines same = lines ∙ sym same
one_text_law cells states (suc n) text other lines same =
    lines.is ∙ ap (λ (xs : List ℕ). xs ++ lines.line) (one_text_law cells states n lines.before same.before lines.those same.those)
    ∙ ap (λ (xs : List ℕ). same.before ++ xs) (one_line cells (row_of states n) lines.line same.line lines.last same.last) ∙ sym same.is

-- the lines of first states are the beginning of those of more
pub record MoreLines (cells : List AnyController) (states : Matrix) (n : ℕ) (text : List ℕ) : Type 0 where
  pub rest : List ℕ
  pub lines : AreServedLines cells states n (text ++ rest)

module _ (cells : List AnyController) (states : Matrix) where
  no_more : (m n : ℕ) (text : List ℕ) → n ≡ m → AreServedLines cells states n text → MoreLines cells states m text
  no_more m n text is lines = record { rest = []; lines = subst (λ (k : ℕ). AreServedLines cells states k (text ++ [])) is (subst (AreServedLines cells states n) (sym (append-nil text)) lines) }

  last_more : (m : ℕ) (text : List ℕ) → MoreLines cells states m text → IsHeldBySome cells (row_of states m) → MoreLines cells states (suc m) text
  last_more m text those held =
      let last = line_of cells (row_of states m) held in
      record {
        rest = those.rest ++ last.0;
        lines = record { before = text ++ those.rest; line = last.0; those = those.lines; last = last.1; is = sym (append_assoc text those.rest last.0) };
      }

  more_lines : (m n : ℕ) (text : List ℕ) → AreServed cells states m → n ≤ m → AreServedLines cells states n text → MoreLines cells states m text
  more_lines zero n text served le lines = no_more zero n text (omega (arith, le)) lines
  more_lines (suc m) n text served le lines = elim (cases_lt m n) [
    | inl lt ↦ no_more (suc m) n text (omega (arith, le, lt)) lines
    | inr ge ↦ last_more m text (more_lines m n text (λ e lt. served e (omega (arith, lt))) ge lines) (served m (omega arith))
  ]

-- ---- what is printed of the lines of cells of which there is one
pub served_as : (c : AnyController) (cells : List AnyController) (m : Matrix) → AreToldAs (making_of_cells cells) m (served_lines cells m)
served_as c cells m = record {
  judged = served_judged c cells m;
  never = λ entry xi s never. never;
  whole = λ text are old. record { text = text; lines = are; printed = refl };
  part = λ run k text le are old new part.
      let more = more_lines cells m (length m.rows) k text run le are in
      record { text = text ++ more.rest; lines = more.lines; printed = longer text more.rest old new part };
  some = λ k text le are old. record { count = k; some = le; text = text; lines = are; printed = refl };
}
