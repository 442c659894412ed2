use Rattle.std.proofs.Common.{◌≡◌, ℤ, List, length, rules, FitsSigned, arith, ap, ◌∙◌}
use Rattle.std.specs.Int.{w128}
use Rattle.std.proofs.lemmas.Int.{to_z-of_z}
use Rattle.condensed_form.proofs.DenominatorFacts.{least_weight}
use Rattle.condensed_form.proofs.denominators.least_input.Goals as goal

pub least_of-requires : goal.least_of-requires
least_of-requires c =
    let count : length c.deref.result.now ≡ c.args.parts.now.inputs = ap (λ (xs : List ℤ). length xs) c.deref.ensures.value ∙ c.requires.input_count in
    omega (arith, count, c.requires.inputs)

pub returns : goal.returns
returns c =
    let f : FitsSigned w128 c.least_of.result = search rules in
    rw (to_z-of_z w128 _ f) (least_weight c.args.parts.now c.requires c.deref.result.now c.least_of.result c.deref.ensures.value c.least_of.ensures.below c.least_of.ensures.met)
