use Rattle.std.proofs.Common.{◌≡◌, ◌++◌, ◌∙◌, List, ℕ, length, string_bytes, ap, rules}
use Rattle.settle_check.specs.Certificates.{state_box}
use Rattle.command_settle.specs.SettledText.{turn_line, coordinate_line, lines_to}
use Rattle.command_settle.proofs.lines.settled_text.Goals as goal

pub returns : goal.returns
returns c =
    let rest = c.args.settled.now.rest in
    let front : List ℕ = turn_line c.args.turn ++ lines_to (coordinate_line (state_box rest)) (length rest.low.items) in
    let bytes : c.into_bytes.result.items ≡ string_bytes c.push_str.new.self = search rules in
    bytes ∙ c.in_ok-push_str.ensures.bytes ∙ ap (λ (t : List ℕ). t ++ c.as_str.result.now) c.in_ok-text.ensures ∙ ap (λ (t : List ℕ). front ++ t) (c.as_str.ensures.value ∙ c.in_ok-costs.ensures)
