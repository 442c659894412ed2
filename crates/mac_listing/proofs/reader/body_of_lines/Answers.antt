use Rattle.std.proofs.Common.{◌≡◌, ◌∙◌, ◌-◌, ℕ, take, drop, length, map, ap, arith}
use Rattle.std.proofs.lemmas.Result.{IfOk-weaker}
use Rattle.text_lines.specs.declared.line.Line.{Line}
use Rattle.text_lines.specs.Lines.{view}
use Rattle.mac_listing.specs.Reading.{op_in}
use Rattle.mac_listing.proofs.Read.{body_seen}
use Rattle.mac_listing.proofs.reader.body_of_lines.Goals as goal

pub returns : goal.returns
returns c =
    let lines = c.args.lines.now in
    let few : length lines - 1 - 9 ≡ length lines - 10 = omega arith in
    IfOk-weaker c.ops_of.result _ _
    (λ v e. (let made : v.items ≡ map (λ (l : Line). op_in (view l)) (take (length lines - 1 - 9) (drop 9 lines)) = e in
    made ∙ ap (λ (n : ℕ). map (λ (l : Line). op_in (view l)) (take n (drop 9 lines))) few ∙ body_seen lines)) c.ops_of.ensures
