use Rattle.std.proofs.Common.{◌≡◌, ◌∙◌, ◌<◌, ◌^◌, List, take, ap, arith}
use Rattle.text_lines.specs.Blocks.{Block, Row, blocks_of, total_rows}
use Rattle.controller_text.specs.Table.{text_table, AreSizesSmall}
use Rattle.controller_text.specs.declared.layout.Sizes.{Sizes}
use Rattle.controller_text.proofs.Blocks.{few_rows}
use Rattle.controller_text.proofs.layout.line_count.Goals as goal

few : (rs : List Row) (z : Sizes) → blocks_of rs ≡ text_table z → AreSizesSmall z → total_rows (blocks_of rs) < 2 ^ 64
few rs z same small = omega (arith, few_rows z small, ap total_rows same)

pub rows_before-requires-clause-few : goal.rows_before-requires-clause-few
rows_before-requires-clause-few c = few c.table-blocks.result c.args.sizes c.table-blocks.ensures c.requires

pub returns : goal.returns
returns c = c.rows_before.ensures ∙ ap (λ (ts : List Block). total_rows (take 16 ts)) c.table-blocks.ensures
