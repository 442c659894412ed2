use Rattle.std.proofs.Common.{◌∙◌, arith, sym, subst}
use Rattle.qp_model.specs.problem.Parts.{design_of}
use Rattle.qp_model.specs.problem.Policy.{plans_of}
use Rattle.qp_model.specs.bounds.Printed.{printed}
use Rattle.command_line.specs.Answers.{IsAnswer}
use Rattle.command_line.proofs.Following.{nothing_printed}
use Rattle.command_line.specs.declared.status.Status.{Status}
use Rattle.command_line.specs.declared.status.Status.TheVariants.{Done}
use Rattle.command_demo.specs.Demo.{DemoCalls}
use Rattle.design_maker.specs.Texts.{states_text}
use Rattle.command_demo.proofs.Inside.{inside, shown}
use Rattle.command_demo.proofs.Answering.{answer_is, refused_is, printed_done, printed_one, printed_no_read, printed_fault}
use Rattle.command_demo.proofs.PrintedText.{prints_told, quiet}
use Rattle.command_demo.proofs.command.demo_of.Goals as goal

pub print_text-requires-clause-inside : goal.print_text-requires-clause-inside
print_text-requires-clause-inside g c =
    let inputs = c.args.inputs.now in
    inside (design_of inputs.design) c.in-Ok.made.controller states_text inputs.states c.in-Ok.ensures.made.made.built.made.made.sizes c.requires.states c.requires.inside

pub print_text-requires-clause-width : goal.print_text-requires-clause-width
print_text-requires-clause-width g c = c.requires.states.cols ∙ sym c.in-Ok.ensures.made.made.built.made.made.sizes.states

pub print_text-requires-clause-count : goal.print_text-requires-clause-count
print_text-requires-clause-count g c = omega (arith, c.requires.four)

pub print_text-requires-clause-some : goal.print_text-requires-clause-some
print_text-requires-clause-some g c = omega (arith, c.requires.four)

pub returns-in-Ok : goal.returns-in-Ok
returns-in-Ok g c = λ number made.
    let inputs = c.args.inputs.now in
    let plans = plans_of inputs.policy in
    let controller = c.in-Ok.made.controller in
    let bounds = printed c.in-Ok.made.bounds in
    let s = c.print_text.result in
    let did = c.print_text.ensures in
    let answer = answer_is number inputs.design plans Done made.made made.one c.in-Ok.ensures.made.called in
    record {
      called = λ caused. subst (λ (t : Status). IsAnswer (DemoCalls number) t) (sym (printed_done s did.only caused)) answer;
      read_fault = λ file is. printed_no_read s did.only file is;
      write_fault = λ file is. let rose = printed_fault _ s did.only did.failed file is in (rose.0, answer.called, rose.1);
      shows =
          prints_told controller bounds inputs.states number s (g.O.Sink.got c.args.out.now) (g.O.Sink.got c.print_text.new.out)
          (shown number inputs.design plans controller bounds inputs.states made.made c.in-Ok.ensures.made.made c.requires.states c.requires.inside) did.only did.printed;
      quiet = λ earlier. printed_one _ s did.only earlier.done earlier.memory earlier.fault;
      no_fewer = did.no_fewer;
    }

pub returns-in-Err : goal.returns-in-Err
returns-in-Err g c = λ number made.
    let inputs = c.args.inputs.now in
    let s = c.in-Err.status in
    let none = c.in-Err.ensures.made.unmade in
    nothing_printed (λ caused. refused_is number inputs.design (plans_of inputs.policy) s made.made made.one none caused) none.read none.write (λ old. quiet number s old none.done (none.write 0))
