use Rattle.std.proofs.Common.{◌++◌, ◌∙◌, ◌∷◌, [], ℕ, List, ap, codes, string_bytes}
use Rattle.c_writer.proofs.Texts.{shift_pieces}
use Rattle.c_writer.proofs.writer.push_shifts.Goals as goal

pub returns : goal.returns
returns c =
    c.in_ok-push_pieces.ensures ∙ ap (λ (t : List ℕ). string_bytes c.args.text.now ++ t)
    (shift_pieces (codes "#include \"") c.args.name.now (codes ".h\"") (10 ∷ []) (codes "typedef char ") (codes "_shifts_round_down[((-INT64_C(3)) >> 1) == (-INT64_C(2)) ? 1 : -1];"))
