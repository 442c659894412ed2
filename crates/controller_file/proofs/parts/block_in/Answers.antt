use Rattle.std.proofs.Common.{◌≡◌, ◌∙◌, ◌+◌, ◌<◌, ◌≤◌, ◌^◌, ℕ, List, [], length, get_or, take, refl, ap, arith}
use Rattle.controller_text.specs.declared.layout.Sizes.{Sizes}
use Rattle.text_lines.specs.declared.line.Line.{Line}
use Rattle.text_lines.specs.Lines.{views}
use Rattle.text_lines.specs.Blocks.{Block, Row, blocks_of, total_rows}
use Rattle.text_lines.proofs.Blocks.{no_row}
use Rattle.controller_text.specs.Lines.{line_blocks}
use Rattle.controller_text.specs.Table.{text_table, AreSizesSmall, Says}
use Rattle.controller_file.specs.Following.{IsAnyWhole}
use Rattle.controller_text.proofs.Blocks.{said_sizes, row_at, part_is, part_within, few_rows}
use Rattle.text_lines.proofs.Beginnings.{begun}
use Rattle.controller_file.proofs.parts.block_in.Goals as goal

-- the lines before a block, by the table as the code has it
before : (rs : List Row) (z : Sizes) (k start : ℕ) → blocks_of rs ≡ text_table z → start ≡ total_rows (take k (blocks_of rs)) → start ≡ total_rows (take k (text_table z))
before rs z k start same e = e ∙ ap (λ (ts : List Block). total_rows (take k ts)) same

-- the lines of a block are there
room : (lines : List Line) (rs : List Row) (z : Sizes) (k start : ℕ) → IsAnyWhole (views lines) → Says (views lines) z → blocks_of rs ≡ text_table z → k < 16 → start ≡ total_rows (take k (blocks_of rs))
    → start + (get_or rs k no_row).1 ≤ length lines
room lines rs z k start w says same lt e =
    omega (arith, (row_at rs z k same lt).1, part_within lines w.numbers z k w.form w.lines (said_sizes (views lines) z w.numbers w.lines says) lt, before rs z k start same e)

few : (rs : List Row) (z : Sizes) → blocks_of rs ≡ text_table z → AreSizesSmall z → total_rows (blocks_of rs) < 2 ^ 64
few rs z same small = omega (arith, few_rows z small, ap total_rows same)

pub rows_before-start-requires-clause-few : goal.rows_before-start-requires-clause-few
rows_before-start-requires-clause-few c = few c.table-blocks.result c.sizes_in.result c.table-blocks.ensures c.sizes_in.ensures.small

pub overflow_add-result : goal.overflow_add-result
overflow_add-result c = record { fits = omega (arith, room c.args.lines.now _ _ _ _ c.requires c.sizes_in.ensures c.table-blocks.ensures c.place_of-place.ensures.inside c.rows_before-start.ensures) }

pub offset_bounds-lines-start : goal.offset_bounds-lines-start
offset_bounds-lines-start c = record { fits = omega (arith, room c.args.lines.now _ _ _ _ c.requires c.sizes_in.ensures c.table-blocks.ensures c.place_of-place.ensures.inside c.rows_before-start.ensures) }

pub slice_bounds-result-end : goal.slice_bounds-result-end
slice_bounds-result-end c = omega (arith, room c.args.lines.now _ _ _ _ c.requires c.sizes_in.ensures c.table-blocks.ensures c.place_of-place.ensures.inside c.rows_before-start.ensures)

pub returns : goal.returns
returns c = λ d form e.
    let z = c.sizes_in.result in
    let k = c.place_of-place.result in
    let inside = c.place_of-place.ensures.inside in
    let same = said_sizes (views c.args.lines.now) z d e c.sizes_in.ensures in
    let row = (row_at c.table-blocks.result z k c.table-blocks.ensures inside).1 in
    let start = before c.table-blocks.result z k c.rows_before-start.result c.table-blocks.ensures c.rows_before-start.ensures in
    part_is c.args.lines.now d z k c.rows_before-start.result _ (c.rows_before-start.result + _) form e same inside start row refl
    ∙ ap (λ (j : ℕ). get_or (line_blocks d) j []) c.place_of-place.ensures.value

pub sizes_in-requires : goal.sizes_in-requires
sizes_in-requires c = begun IsAnyWhole (views c.args.lines.now) c.requires
