use Rattle.std.proofs.Common.{◌≡◌, ◌++◌, ◌∙◌, ℕ, List, ap, string_bytes, decimal, rules}
use Rattle.c_writer.specs.Measured.{kinds_in}
use Rattle.c_writer.proofs.Texts.{reached_text}
use Rattle.c_writer.proofs.rows.push_reached.Goals as goal

pub returns : goal.returns
returns c =
    let i = c.args.i in
    let a : c.as_str.result.now ≡ decimal i = search rules in
    let b : c.as_str-2.result.now ≡ decimal i = search rules in
    let d : c.as_str-3.result.now ≡ decimal i = search rules in
    c.in_ok-push_pieces.ensures ∙ ap (λ (t : List ℕ). string_bytes c.args.text.now ++ t) (rw (a, b, d, c.held_kind-kind.ensures) (reached_text (kinds_in c.args.from.now) i))
