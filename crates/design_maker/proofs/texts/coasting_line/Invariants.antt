use Rattle.std.proofs.Common.{◌≡◌, ◌*◌, ◌∷◌, string_bytes}
use Rattle.design_maker.proofs.PolicyLines.{zeros}
use Rattle.design_maker.proofs.texts.coasting_line.Given as goal

abbrev pub invariant-loop : goal.invariant-loop
invariant-loop l = string_bytes l.line ≡ 49 ∷ zeros (2 * l.counter)
