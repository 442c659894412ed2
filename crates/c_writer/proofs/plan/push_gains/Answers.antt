use Rattle.std.proofs.Common.{string_bytes}
use Rattle.qp_model.specs.machine.Controller.{numbers}
use Rattle.c_program.specs.Of.{multiplier_top, gain_of}
use Rattle.c_language.specs.Text.{variable_text}
use Rattle.c_writer.specs.Terms.{gain_factor}
use Rattle.c_writer.proofs.Texts.{products_none, products_more}
use Rattle.c_writer.proofs.plan.push_gains.Goals as goal

pub loop-i-init : goal.loop-i-init
loop-i-init c =
    let n = numbers c.args.from.now.c.now in
    products_none (gain_of n c.args.j) (multiplier_top n) (λ i. variable_text (gain_factor n c.args.part i)) (string_bytes c.args.text.now)

pub loop-i-preserved : goal.loop-i-preserved
loop-i-preserved c =
    let n = numbers c.args.from.now.c.now in
    products_more (gain_of n c.args.j) (multiplier_top n) (λ i. variable_text (gain_factor n c.args.part i)) c.loop-i.i (string_bytes c.args.text.now) (string_bytes c.loop-i.text) (string_bytes c.push_gain.new.text)
    c.loop-i.invariant c.in_ok-push_gain.ensures
