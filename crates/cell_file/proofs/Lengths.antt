-- How long a text of cells is at most.
use Rattle.std.proofs.Common.{ℕ, suc, ◌*◌, ◌≤◌, pos, List, [], ◌∷◌, ◌++◌, length, map, ap, arith}
use Rattle.std.specs.Prelude.{All, codes}
use Rattle.std.specs.List.{flat_map}
use Rattle.std.proofs.lemmas.List.{length-append}
use Rattle.number_text.specs.Lines.{line_of, text_of}
use Rattle.qp_model.specs.machine.Controller.{Numbers, FitsWord}
use Rattle.controller_text.specs.TextForm.{IsTextForm}
use Rattle.qp_model.specs.text.ControllerText.{controller_text}
use Rattle.text_lines.proofs.Good.{natural_fits}
use Rattle.text_lines.proofs.Lengths.{line_length, text_length, number_short}
use Rattle.controller_text.specs.Laws.{text_limit}
use Rattle.controller_text.proofs.Lengths.{short_text}
use Rattle.controller_file.specs.AnyText.{any_numbers}
use Rattle.cell_file.specs.Laws.{CellsLengthLaw}

texts_short : (cells : List Numbers) → All IsTextForm cells → All FitsWord cells → length (flat_map controller_text cells) ≤ length cells * text_limit
texts_short [] form word = omega arith
texts_short (c ∷ cells) form word =
    omega (
      arith,
      length-append (controller_text c) (flat_map controller_text cells),
      short_text c (form 0 c (omega arith)) (word 0 c (omega arith)),
      texts_short cells (λ k d lt. form (suc k) d (omega (arith, lt))) (λ k d lt. word (suc k) d (omega (arith, lt))),
    )

head_short : (n : ℕ) → n ≤ 64 → length (text_of (line_of (codes "mpc-cells") (pos n ∷ []) ∷ [])) ≤ 51
head_short n few =
    omega (arith, text_length (line_of (codes "mpc-cells") (pos n ∷ [])) [], line_length (codes "mpc-cells") (pos n ∷ []), number_short (pos n) (natural_fits n (omega (arith, few))))

pub cells_length_law : CellsLengthLaw
cells_length_law bytes controllers text =
    let cells = map any_numbers controllers in
    let are = text.form.are in
    let head = text_of (line_of (codes "mpc-cells") (pos (length cells) ∷ []) ∷ []) in
    let texts = flat_map controller_text cells in
    let end = text_of (codes "end" ∷ []) in
    omega (
      arith,
      ap length text.form.text,
      length-append head (texts ++ end),
      length-append texts end,
      head_short (length cells) are.few,
      are.few,
      texts_short cells are.form are.word,
    )
