use Rattle.std.proofs.Common.{◌≡◌, ◌<◌, ◌∙◌, ◌+◌, ℕ, suc, [], length, take, ap, sym, arith, add-one}
use Rattle.std.proofs.lemmas.List.{length-map}
use Rattle.text_lines.specs.Blocks.{Row, blocks_of, total_rows}
use Rattle.text_lines.proofs.Blocks.{row_seen, rows_more, rows_up_to}
use Rattle.text_lines.proofs.table.rows_before.Goals as goal

pub overflow_add-rows : goal.overflow_add-rows
overflow_add-rows c =
    let ts = blocks_of c.args.blocks.now in
    let i = c.loop-i.i in
    let lt : i < length c.args.blocks.now = omega (arith, c.loop-i-test.true, c.requires.inside) in
    let long : length ts ≡ length c.args.blocks.now = length-map c.args.blocks.now (λ (b : Row). (b.0.now, b.1, b.2)) in
    record { fits = omega (arith, row_seen c.args.blocks.now i lt, c.loop-i.invariant, rows_more ts i ([], 0, 0) (omega (arith, lt, long)), rows_up_to ts (suc i), c.requires.few) }

pub loop-i-preserved : goal.loop-i-preserved
loop-i-preserved c =
    let ts = blocks_of c.args.blocks.now in
    let i = c.loop-i.i in
    let lt : i < length c.args.blocks.now = omega (arith, c.loop-i-test.true, c.requires.inside) in
    let long : length ts ≡ length c.args.blocks.now = length-map c.args.blocks.now (λ (b : Row). (b.0.now, b.1, b.2)) in
    let row = row_seen c.args.blocks.now i lt in
    let before = c.loop-i.invariant in
    (λ j. before j + row j) ∙ sym (rows_more ts i ([], 0, 0) (omega (arith, lt, long))) ∙ ap (λ (n : ℕ). total_rows (take n ts)) (sym (add-one i))
