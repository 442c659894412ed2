use Rattle.std.proofs.Common.{◌≡◌, ◌++◌, ◌∷◌, [], pos, length, rules}
use Rattle.std.specs.Prelude.{codes}
use Rattle.std.specs.List.{flat_map}
use Rattle.number_text.specs.Lines.{text_of, line_of}
use Rattle.qp_model.specs.text.ControllerText.{controller_text}
use Rattle.controller_file.specs.AnyText.{any_numbers}
use Rattle.cell_file.proofs.Reading.{written}
use Rattle.cell_file.proofs.writer.write_cells.Goals as goal

pub returns : goal.returns
returns c =
    let cells = c.args.cells.now in
    let items : c.extend_from_slice.new.self.items ≡ c.push_cells.new.bytes.items ++ text_of (codes "end" ∷ []) = search rules in
    let texts : c.push_cells.new.bytes.items ≡ c.into_bytes-bytes.result.items ++ flat_map (λ k. controller_text (any_numbers k)) cells = search rules in
    let head : c.into_bytes-bytes.result.items ≡ text_of (line_of (codes "mpc-cells") (pos (length cells) ∷ []) ∷ []) = search rules in
    written cells c.extend_from_slice.new.self.items _ _ c.requires.some c.requires.few c.requires.alike items texts head c.in_ok-push_cells.ensures.safe c.in_ok-push_cells.ensures.word
