use Rattle.std.proofs.Common.{◌≡◌, Result, Ok, Err, sym}
use Rattle.std.specs.Prelude.{IfOk}
use Rattle.qp_model.specs.problem.Parts.{design_of}
use Rattle.design_maker.specs.MadeParts.{coasting_plans, corner_matrix}
use Rattle.command_demo.proofs.Reading.{memory_only, four_corners, corners_inside}
use Rattle.command_demo.proofs.inputs.inputs_with.Goals as goal

-- what three facts of the value give
parts : {T E : Type 0} (r : Result T E) {A B C D : T → Type 0} → IfOk r A → IfOk r B → IfOk r C → ((x : T) → A x → B x → C x → D x) → IfOk r D
parts (Ok x) a b c f = f x a b c
parts (Err e) a b c f = tt

pub right-requires : goal.right-requires
right-requires c = memory_only _ c.read_policy.result (rw c.deref.ensures.value at c.read_policy.ensures.right (coasting_plans c.args.design.stages) c.requires.right.policy)

pub right-states-requires : goal.right-states-requires
right-states-requires c = memory_only _ c.read_states.result (rw (c.deref-2.ensures.value, c.parts.ensures.value) at c.read_states.ensures.right corner_matrix c.requires.right.states)

pub returns : goal.returns
returns c =
    let policy = rw (c.deref.ensures.value, c.in_ok-policy.ensures) at c.read_policy.ensures in
    let from = c.inputs_from.ensures in
    record {
      design = from.design;
      read = parts c.inputs_from.result from.design from.policy from.states (λ i same_design same_policy read.
          let states = rw (c.deref-2.ensures.value, c.parts.ensures.value, rw read at c.right-states.ensures) at c.read_states.ensures in
          let corners : corner_matrix ≡ i.states = sym (states.right corner_matrix c.requires.right.states) in
          record {
            policy = rw (same_design, same_policy) policy.found;
            one = rw (same_design, same_policy) (λ plans right. sym (policy.right plans right));
            sized = rw (same_design, same_policy) policy.sized;
            states = rw same_design states.found;
            four = four_corners i.states corners;
            inside = rw same_design (corners_inside (design_of c.args.design) i.states corners c.requires.right.box);
          });
    }
