-- How long a controller's text is at most.
use Rattle.std.proofs.Common.{inl, inr, ℕ, ◌+◌, ◌*◌, ◌≤◌, List, length, map, ap, arith}
use Rattle.std.specs.Prelude.{All, codes, ◌==◌}
use Rattle.std.proofs.Math.Nat.{mul-le-mul}
use Rattle.qp_model.specs.machine.Controller.{Numbers, FitsWord}
use Rattle.qp_model.specs.text.ControllerText.{controller_text, IsControllerText}
use Rattle.text_lines.specs.Lines.{Fits, place_of}
use Rattle.text_lines.proofs.Lengths.{most_of, most_in, text_short, most_spread}
use Rattle.controller_text.specs.TextForm.{exponent_rows, IsTextForm}
use Rattle.controller_text.specs.Lines.{keyed_lines}
use Rattle.controller_text.specs.Laws.{text_limit, TextLengthLaw}
use Rattle.controller_text.specs.Table.{text_table, sizes_of, AreSizesSmall}
use Rattle.controller_text.specs.declared.layout.Sizes.{Sizes}
use Rattle.controller_text.proofs.Forms.{either_le, plain_form, fast_form}
use Rattle.controller_text.proofs.Blocks.{lines_placed, sizes_small}
use Rattle.controller_text.proofs.Texts.{keyed_text, good_lines}

-- a block of no more rows and numbers
block_short : (key : List ℕ) (rows count most most_count : ℕ) → rows ≤ most → count ≤ most_count → rows * (length key + 41 * count + 1) ≤ most * (length key + 41 * most_count + 1)
block_short key rows count most most_count h k = mul-le-mul h (omega (arith, k))

-- by the sizes, the longest of either version
table_short : (z : Sizes) → AreSizesSmall z → most_in (text_table z) ≤ text_limit
table_short z small =
    let plan = mul-le-mul small.p small.stages in
    omega (
      arith,
      small.n,
      small.m,
      plan,
      block_short (codes "exps") (exponent_rows z.version) z.m 1 372 (either_le (z.version == 1) 0 1 1 (omega arith) (omega arith)) small.m,
      block_short (codes "P") (z.p * z.stages) z.n 90 6 plan small.n,
      block_short (codes "W") (z.p * z.stages) z.m 90 372 plan small.m,
      block_short (codes "G") z.m (z.p * z.stages) 372 90 small.m plan,
      block_short (codes "E") z.m z.n 372 6 small.m small.n,
    )

pub short_text : (c : Numbers) → IsTextForm c → FitsWord c → length (controller_text c) ≤ text_limit
short_text c form word =
    let fits : All Fits (keyed_lines c) = λ k d lt. (good_lines c form word k d lt).fits in
    let lines : length (controller_text c) ≤ most_of (map place_of (keyed_lines c)) =
    omega (arith, ap length (keyed_text c), text_short (keyed_lines c) fits) in
    omega (arith, lines, ap most_of (lines_placed c form), most_spread (text_table (sizes_of c)), table_short (sizes_of c) (sizes_small c form))

pub text_length_law : (bytes : List ℕ) (c : Numbers) → IsControllerText bytes c → length bytes ≤ text_limit
text_length_law bytes c text = omega (arith, ap length text.text, short_text c (plain_form c text.controller.form) text.word)

pub any_length_law : TextLengthLaw
any_length_law bytes c (inl text) = text_length_law bytes c text
any_length_law bytes c (inr text) = omega (arith, ap length text.text, short_text c (fast_form c text.controller.form) text.word)
