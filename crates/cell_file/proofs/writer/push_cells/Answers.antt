use Rattle.std.proofs.Common.{◌≡◌, ◌∙◌, ◌++◌, ◌<◌, List, ℕ, get_or, take, ap, sym, append_assoc, length, rules, arith}
use Rattle.std.specs.List.{flat_map}
use Rattle.qp_model.specs.machine.Controller.{FitsWord}
use Rattle.qp_model.specs.text.ControllerText.{controller_text}
use Rattle.controller_file.specs.AnyText.{any_numbers, IsSafe, IsAnyControllerText}
use Rattle.controller_file.specs.declared.any_controller.AnyController.{AnyController}
use Rattle.controller_file.proofs.AnyText.{in_safe, text_safe}
use Rattle.cell_file.proofs.Reading.{texts_more, each_more}
use Rattle.cell_file.proofs.writer.push_cells.Goals as goal

pub loop-cell-preserved : goal.loop-cell-preserved
loop-cell-preserved c =
    let cells = c.args.cells.now in
    let i = c.loop-cell.cell-index in
    let cell = c.cell-item.result in
    let lt : i < length cells = search rules in
    let read : IsAnyControllerText c.in_ok-text.text.items cell = c.in_ok-text.ensures in
    let text = in_safe c.in_ok-text.text.items cell read in
    let f : AnyController → List ℕ = λ k. controller_text (any_numbers k) in
    let items : c.extend_from_slice.new.self.items ≡ c.loop-cell.bytes.items ++ c.deref.result.now = search rules in
    let here : cell ≡ get_or cells i cell = c.cell-item.is in
    record {
      text = items ∙ (λ k. c.loop-cell.invariant.text k ++ (c.deref.ensures.value ∙ text.text ∙ ap f here) k)
          ∙ append_assoc c.args.bytes.now.items (flat_map f (take i cells)) (f (get_or cells i cell))
          ∙ ap (λ (t : List ℕ). c.args.bytes.now.items ++ t) (sym (texts_more f cells i cell lt));
      safe = each_more IsSafe cells i cell lt here c.loop-cell.invariant.safe (text_safe c.in_ok-text.text.items cell read);
      word = each_more (λ k. FitsWord (any_numbers k)) cells i cell lt here c.loop-cell.invariant.word text.word;
    }

pub returns-clause-word : goal.returns-clause-word
returns-clause-word c = λ k d lt. c.loop-cell.invariant.word k d (omega (arith, lt, c.loop-cell-test.false))
