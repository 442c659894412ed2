use Rattle.std.proofs.Common.{◌++◌, ◌∙◌, ◌∷◌, [], ℕ, List, ap, codes, string_bytes}
use Rattle.c_writer.proofs.Texts.{guard_pieces}
use Rattle.c_writer.proofs.header.push_guard.Goals as goal

pub returns : goal.returns
returns c =
    c.in_ok-push_pieces.ensures ∙ ap (λ (t : List ℕ). string_bytes c.args.text.now ++ t)
    (guard_pieces (codes "#ifndef ") c.args.name.now (codes "_H") (10 ∷ []) (codes "#define ") (codes "\n#include <stdint.h>\n\n"))
