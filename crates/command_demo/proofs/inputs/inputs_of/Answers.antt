use Rattle.std.proofs.Common.{◌≡◌, sym, subst}
use Rattle.qp_model.specs.problem.Parts.{design_numbers}
use Rattle.qp_model.specs.problem.Policy.{plans_of}
use Rattle.qp_model.specs.declared.design_parts.DesignParts.{DesignParts}
use Rattle.design_files.specs.DesignText.{IsDesignText}
use Rattle.design_maker.specs.Texts.{design_text}
use Rattle.command_line.proofs.TwoTexts.{both_ok}
use Rattle.command_demo.specs.Demo.{demo_stages}
use Rattle.command_demo.proofs.Reading.{memory_alone, only_design, texts_of, one_of}
use Rattle.command_demo.proofs.inputs.inputs_of.Goals as goal

pub right-requires : goal.right-requires
right-requires c = let made = c.in_ok-texts.ensures.made in memory_alone _ c.read_design.result (rw c.deref.ensures.value at c.read_design.ensures.every_text made.0 made.2.design)

pub inputs_with-requires-clause-right : goal.inputs_with-requires-clause-right
inputs_with-requires-clause-right c =
    let one = only_design _ c.in_ok-design.design (rw (c.deref.ensures.value, c.in_ok-design.ensures) at c.read_design.ensures.every_text) in
    rw (c.in_ok-texts.ensures.design, c.in_ok-texts.ensures.policy, c.in_ok-texts.ensures.states)
    (texts_of c.args.number _ _ _ c.in_ok-texts.ensures.made c.made_law.ensures c.in_ok-design.design one)

pub returns : goal.returns
returns c =
    let told = rw (c.deref.ensures.value, c.in_ok-texts.ensures.design, c.in_ok-design.ensures) at c.read_design.ensures in
    let one = only_design _ c.in_ok-design.design told.every_text in
    let read = rw (c.in_ok-texts.ensures.policy, c.in_ok-texts.ensures.states) at c.inputs_with.ensures.read in
    record {
      made = both_ok c.inputs_with.result c.inputs_with.ensures.design read
          (λ i same are. record {
            made = record { design = subst (λ (p : DesignParts). IsDesignText (design_text c.args.number demo_stages) p) (sym same) told.text; policy = are.policy };
            one = one_of c.args.number i.design (plans_of i.policy)
                (subst (λ (q : DesignParts). (p : DesignParts) → IsDesignText (design_text c.args.number demo_stages) p → design_numbers p ≡ design_numbers q) (sym same) one) are.one;
          });
      read = read;
    }
