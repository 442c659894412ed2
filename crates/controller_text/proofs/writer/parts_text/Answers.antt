use Rattle.std.proofs.Common.{◌≡◌, ◌<◌, ◌≤◌, ◌∙◌, ◌++◌, ℕ, zero, suc, List, [], take, map, length, get_or, string_bytes, refl, ap, sym, subst, arith}
use Rattle.std.specs.Prelude.{All}
use Rattle.std.proofs.lemmas.List.{take_all}
use Rattle.std.proofs.lemmas.List.Elements.{All-append}
use Rattle.number_text.specs.Lines.{text_of}
use Rattle.qp_model.specs.machine.Controller.{numbers}
use Rattle.text_lines.specs.Lines.{Keyed, spelled, Fits}
use Rattle.text_lines.specs.Blocks.{chained}
use Rattle.controller_text.specs.Lines.{line_blocks}
use Rattle.controller_text.specs.Table.{text_table, block_at, sizes_of}
use Rattle.text_lines.proofs.Chained.{chain_more}
use Rattle.controller_text.proofs.Blocks.{row_at}
use Rattle.text_lines.proofs.Pushed.{block_pushed}
use Rattle.controller_text.proofs.Texts.{keyed_text, fits_word}
use Rattle.controller_text.specs.declared.block.Block.{Block}
use Rattle.controller_text.specs.BlockPlace.{all_blocks, place_in_table}
use Rattle.controller_text.proofs.writer.parts_text.Goals as goal

-- the blocks are in the order of the table
in_order : (i : ℕ) (d : Block) → i < 16 → place_in_table (get_or all_blocks i d) ≡ i
in_order zero d lt = refl
in_order (suc zero) d lt = refl
in_order (suc (suc zero)) d lt = refl
in_order (suc (suc (suc zero))) d lt = refl
in_order (suc (suc (suc (suc zero)))) d lt = refl
in_order (suc (suc (suc (suc (suc zero))))) d lt = refl
in_order (suc (suc (suc (suc (suc (suc zero)))))) d lt = refl
in_order (suc (suc (suc (suc (suc (suc (suc zero))))))) d lt = refl
in_order (suc (suc (suc (suc (suc (suc (suc (suc zero)))))))) d lt = refl
in_order (suc (suc (suc (suc (suc (suc (suc (suc (suc zero))))))))) d lt = refl
in_order (suc (suc (suc (suc (suc (suc (suc (suc (suc (suc zero)))))))))) d lt = refl
in_order (suc (suc (suc (suc (suc (suc (suc (suc (suc (suc (suc zero))))))))))) d lt = refl
in_order (suc (suc (suc (suc (suc (suc (suc (suc (suc (suc (suc (suc zero)))))))))))) d lt = refl
in_order (suc (suc (suc (suc (suc (suc (suc (suc (suc (suc (suc (suc (suc zero))))))))))))) d lt = refl
in_order (suc (suc (suc (suc (suc (suc (suc (suc (suc (suc (suc (suc (suc (suc zero)))))))))))))) d lt = refl
in_order (suc (suc (suc (suc (suc (suc (suc (suc (suc (suc (suc (suc (suc (suc (suc zero))))))))))))))) d lt = refl
in_order (suc (suc (suc (suc (suc (suc (suc (suc (suc (suc (suc (suc (suc (suc (suc (suc n)))))))))))))))) d lt = absurd (omega (arith, lt))

pub push_block-requires : goal.push_block-requires
push_block-requires c =
    let z = sizes_of (numbers c.args.parts.now) in
    let k = c.place_of.result in
    (row_at c.table-blocks.result z k (c.table-blocks.ensures ∙ ap text_table c.sizes_of.ensures) c.place_of.ensures.inside).0 ∙ ap (λ (j : ℕ). (block_at z j).0) c.place_of.ensures.value

pub loop-block-preserved : goal.loop-block-preserved
loop-block-preserved c =
    let bs = line_blocks (numbers c.args.parts.now) in
    let i = c.loop-block.block-index in
    let lt : i < length bs = c.loop-block-test.true in
    let same = in_order i _ lt in
    let before = string_bytes c.loop-block.text in
    record {
      text = block_pushed bs i before (string_bytes c.push_block.new.text) lt c.loop-block.invariant.text (c.in_ok-push_block.ensures.text ∙ ap (λ (j : ℕ). before ++ text_of (map spelled (get_or bs j []))) same);
      word = subst (λ (ls : List Keyed). All Fits ls) (sym (chain_more bs i lt))
          (All-append Fits (chained (take i bs)) (get_or bs i []) c.loop-block.invariant.word (subst (λ (j : ℕ). All Fits (get_or bs j [])) same c.in_ok-push_block.ensures.word));
    }

pub returns-clause-text : goal.returns-clause-text
returns-clause-text c =
    let n = numbers c.args.parts.now in
    let bs = line_blocks n in
    let past : length bs ≤ c.loop-block.block-index = omega (arith, c.loop-block-test.false) in
    c.loop-block.invariant.text ∙ ap (λ (xss : List (List Keyed)). text_of (map spelled (chained xss))) (take_all c.loop-block.block-index bs past) ∙ keyed_text n

pub returns-clause-word : goal.returns-clause-word
returns-clause-word c =
    let n = numbers c.args.parts.now in
    let bs = line_blocks n in
    let past : length bs ≤ c.loop-block.block-index = omega (arith, c.loop-block-test.false) in
    fits_word n (subst (λ (ls : List Keyed). All Fits ls) (ap chained (take_all c.loop-block.block-index bs past)) c.loop-block.invariant.word)
