use Rattle.std.proofs.Common.{◌≡◌, ◌∙◌, ℕ, [], List, length, get_or, map, ap, sym, subst}
use Rattle.std.specs.Prelude.{All}
use Rattle.controller_text.specs.declared.layout.Sizes.{Sizes}
use Rattle.text_lines.specs.Lines.{Keyed, views}
use Rattle.controller_text.specs.Table.{block_at, sizes_of}
use Rattle.controller_text.specs.Lines.{line_blocks}
use Rattle.controller_text.proofs.Blocks.{said_sizes, row_at, block_breadth, if_ok}
use Rattle.controller_file.specs.Following.{IsAnyWhole}
use Rattle.text_lines.proofs.Beginnings.{begun}
use Rattle.controller_file.proofs.parts.matrix_of.Goals as goal

pub rows_of-requires : goal.rows_of-requires
rows_of-requires c =
    let z = c.sizes_in.result in
    let k = c.place_of.result in
    let w = c.requires in
    let same = said_sizes (views c.args.lines.now) z w.numbers w.lines c.sizes_in.ensures in
    let cols = (row_at c.table.result z k c.table.ensures c.place_of.ensures.inside).2 in
    let here = c.block_in.ensures w.numbers w.form w.lines ∙ ap (λ (j : ℕ). get_or (line_blocks w.numbers) j []) (sym c.place_of.ensures.value) in
    let all = subst (λ (ls : List Keyed). All (λ l. length l.numbers ≡ (block_at z k).2) ls) (sym here) (block_breadth w.numbers z k ([], 0, 0) w.form same c.place_of.ensures.inside) in
    (λ i d lt. all i d lt ∙ sym cols)

pub returns : goal.returns
returns c =
    let k = c.place_of.result in
    let place = c.place_of.ensures.value in
    let cols = (row_at c.table.result c.sizes_in.result k c.table.ensures c.place_of.ensures.inside).2 in
    if_ok c.rows_of.result c.rows_of.ensures (λ m made d form e.
    let lines = c.block_in.ensures d form e in
    let same = said_sizes (views c.args.lines.now) c.sizes_in.result d e c.sizes_in.ensures in
    let wide = cols ∙ ap (λ (z : Sizes). (block_at z k).2) (sym same) ∙ ap (λ (j : ℕ). (block_at (sizes_of d) j).2) place in
    made ∙ (λ i. record { cols = wide i; rows = map (λ l. l.numbers) (lines i) }))

pub sizes_in-requires : goal.sizes_in-requires
sizes_in-requires c = begun IsAnyWhole (views c.args.lines.now) c.requires
