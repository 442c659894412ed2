use Rattle.std.proofs.Common.{◌<◌, ◌≤◌, ◌++◌, ◌∙◌, List, ℕ, length, string_bytes, ap, arith}
use Rattle.std.proofs.lemmas.List.{take_all}
use Rattle.number_text.specs.Lines.{text_of}
use Rattle.mac_listing.specs.Listing.{instructions}
use Rattle.mac_listing.specs.Text.{head_lines}
use Rattle.mac_listing.proofs.Lines.{line_more, lines_none}
use Rattle.mac_listing.proofs.writer.push_head.Goals as goal

pub loop-i-init : goal.loop-i-init
loop-i-init c = lines_none (string_bytes c.args.text.now)

pub loop-i-preserved : goal.loop-i-preserved
loop-i-preserved c =
    let lines = head_lines (instructions c.args.l.now) in
    let lt : c.loop-i.i < length lines = c.loop-i-test.true in
    line_more lines c.loop-i.i (string_bytes c.args.text.now) (string_bytes c.loop-i.text) (string_bytes c.push_head_line.new.text) lt c.loop-i.invariant c.in_ok-push_head_line.ensures

pub returns : goal.returns
returns c =
    let lines = head_lines (instructions c.args.l.now) in
    let past : length lines ≤ c.loop-i.i = omega (arith, c.loop-i-test.false) in
    c.loop-i.invariant ∙ ap (λ (ls : List (List ℕ)). string_bytes c.args.text.now ++ text_of ls) (take_all c.loop-i.i lines past)
