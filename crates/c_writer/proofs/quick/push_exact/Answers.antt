use Rattle.std.proofs.Common.{◌≡◌, ◌++◌, ◌∙◌, ℕ, List, ap, string_bytes, decimal, rules}
use Rattle.c_writer.specs.Measured.{held_family}
use Rattle.c_writer.proofs.QuickTexts.{exact_text}
use Rattle.c_writer.proofs.quick.push_exact.Goals as goal

pub returns : goal.returns
returns c =
    let m = c.args.from.now in
    let i = c.args.i in
    let a : c.as_str-number.result.now ≡ decimal i = search rules in
    c.in_ok-push_pieces.ensures ∙
    ap (λ (t : List ℕ). string_bytes c.args.text.now ++ t)
    (rw (a, c.held_kind-kind.ensures) (exact_text m (held_family c.args.held) i c.held_letter-letter.result.now (c.held_letter-letter.ensures i)))
