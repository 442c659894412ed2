use Rattle.std.proofs.Common.{◌≡◌, ◌++◌, string_bytes}
use Rattle.qp_model.specs.machine.Controller.{numbers}
use Rattle.c_program.specs.Of.{multiplier_top, gain_of}
use Rattle.c_language.specs.Text.{variable_text}
use Rattle.c_writer.specs.Terms.{gain_factor, products_text}
use Rattle.c_writer.proofs.plan.push_gains.Given as goal

abbrev pub invariant-loop-i : goal.invariant-loop-i
invariant-loop-i l =
    string_bytes l.text ≡ string_bytes l.fn.text ++
    products_text (gain_of (numbers l.from.c.now) l.j) (multiplier_top (numbers l.from.c.now)) (λ i. variable_text (gain_factor (numbers l.from.c.now) l.part i)) l.i
