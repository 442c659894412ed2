-- Which states no cell's box holds.
use Rattle.std.proofs.Common.{◌≡◌, ℕ, ◌<◌, ℤ, List, length, get_or, Option, Some, None, sym, subst}
use Rattle.std.specs.Prelude.{MatchOption}
use Rattle.mat_int.specs.Matrix.{Matrix, row_of}
use Rattle.plan_lines.specs.ControllerFile.AnyText.{any_numbers}
use Rattle.plan_lines.specs.ControllerFile.declared.any_controller.AnyController.{AnyController}
use Rattle.qp_model.specs.machine.Machine.{IsAdmissible}
use Rattle.fixed_kernel.specs.Outside.{IsFirstOutside}
use Rattle.fixed_kernel.proofs.OneOutside.{one_outside_law}
use Rattle.cell_file.specs.Finding.{NoneHolds}
use Rattle.plan_lines.proofs.Acting.{IsJudged}
use Rattle.command_serve.specs.Served.{IsHeldBySome}
use Rattle.command_serve.specs.Unserved.{IsHeldByNone}
use Rattle.command_serve.proofs.Serving.{none_never}

-- what is found in the first cell's box of a state that no cell's box holds
pub judged : (cells : List AnyController) (first : AnyController) (xi : List ℤ) (o : Option ℕ) → 0 < length cells → ((c : AnyController) → get_or cells 0 c ≡ first) → NoneHolds cells xi (length cells) →
    MatchOption o (IsAdmissible (any_numbers first) xi) (λ k. IsFirstOutside (any_numbers first) xi k) → MatchOption o (IsHeldBySome cells xi) (λ k. IsHeldByNone cells xi k)
judged cells first xi None some same none holds = absurd (none 0 first some (subst (λ (c : AnyController). IsAdmissible (any_numbers c) xi) (sym (same first)) holds))
judged cells first xi (Some k) some same none outside = record { none = none; first = λ c. subst (λ (d : AnyController). IsFirstOutside (any_numbers d) xi k) (sym (same c)) outside }

-- of cells of which there is one
pub served_judged : (c : AnyController) (cells : List AnyController) (states : Matrix) → IsJudged (λ e. IsHeldBySome cells (row_of states e)) (λ e. IsHeldByNone cells (row_of states e))
served_judged c cells states = record {
  none = λ e k out held. none_never cells (row_of states e) out.none held;
  one = λ e j k a b. (one_outside_law (any_numbers (get_or cells 0 c)) (row_of states e)).alone j k (a.first c) (b.first c);
}
