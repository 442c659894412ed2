use Rattle.std.proofs.Common.{◌∙◌, ap, arith, ℕ, Vec, Global, refl}
use Rattle.command_play.proofs.lines.output_line.Goals as goal

pub returns : goal.returns
returns c =
    ap (λ (v : Vec ℕ Global). v.items) c.into_bytes.ensures.value ∙ c.in_ok-push.ensures.bytes ∙ rw (c.in_ok-push.ensures.ascii (omega arith), c.in_ok-line.ensures, c.deref.ensures.value, c.in_ok-numbers.ensures) refl
