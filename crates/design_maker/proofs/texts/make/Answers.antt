use Rattle.std.proofs.Common.{◌≡◌, refl, lit<}
use Rattle.std.specs.Fmt.{digits}
use Rattle.design_maker.specs.Texts.{design_text, policy_text, states_text}
use Rattle.design_maker.proofs.MadePolicy.{policy_short}
use Rattle.design_maker.proofs.MadeValue.{are_made}
use Rattle.design_maker.proofs.texts.make.Goals as goal

pub design_is : (c : goal.After-into_bytes-3) → c.into_bytes.result.items ≡ design_text c.args.number c.args.stages
unfolding design_text
design_is c = rw (c.into_bytes.ensures.value, c.in_ok-design.ensures, c.draw_numbers-drawn.ensures) refl

pub policy_is : (c : goal.After-into_bytes-3) → c.into_bytes-2.result.items ≡ policy_text c.args.stages
policy_is c = rw (c.into_bytes-2.ensures.value, c.in_ok-policy.ensures) refl

pub states_is : (c : goal.After-into_bytes-3) → c.into_bytes-3.result.items ≡ states_text
unfolding states_text digits
states_is c = rw (c.into_bytes-3.ensures.value, c.in_ok-states.ensures.ok) refl

pub returns-clause-design : goal.returns-clause-design
returns-clause-design c = design_is c

pub returns-clause-states : goal.returns-clause-states
returns-clause-states c = states_is c

pub returns-clause-made : goal.returns-clause-made
returns-clause-made c = rw (design_is c, policy_is c, states_is c) (are_made c.args.alloc c.args.number c.args.stages (c.requires.low, c.requires.high))

pub returns-clause-policy_short : goal.returns-clause-policy_short
returns-clause-policy_short c = rw (policy_is c) (policy_short c.args.stages c.requires.high)

pub returns-clause-states_short : goal.returns-clause-states_short
unfolding states_text digits
returns-clause-states_short c = rw (states_is c) (lit< tt)
