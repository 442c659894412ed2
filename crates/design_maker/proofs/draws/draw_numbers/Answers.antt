use Rattle.std.proofs.Common.{rules, refl, FitsSigned}
use Rattle.std.specs.Int.{w128}
use Rattle.std.proofs.lemmas.Int.{to_z-of_z}
use Rattle.design_maker.proofs.draws.draw_numbers.Goals as goal

pub returns : goal.returns
returns c =
    let a11 : FitsSigned w128 c.draw.result = search rules in
    let a12 : FitsSigned w128 c.draw-2.result = search rules in
    let a21 : FitsSigned w128 c.draw-3.result = search rules in
    let a22 : FitsSigned w128 c.draw-4.result = search rules in
    let first_input : FitsSigned w128 c.draw-5.result = search rules in
    let second_input : FitsSigned w128 c.draw-6.result = search rules in
    let first_target : FitsSigned w128 c.draw-7.result = search rules in
    let first_weight : FitsSigned w128 c.draw-8.result = search rules in
    let second_target : FitsSigned w128 c.draw-9.result = search rules in
    let second_weight : FitsSigned w128 c.draw-10.result = search rules in
    rw (
      to_z-of_z w128 _ a11,
      to_z-of_z w128 _ a12,
      to_z-of_z w128 _ a21,
      to_z-of_z w128 _ a22,
      to_z-of_z w128 _ first_input,
      to_z-of_z w128 _ second_input,
      to_z-of_z w128 _ first_target,
      to_z-of_z w128 _ first_weight,
      to_z-of_z w128 _ second_target,
      to_z-of_z w128 _ second_weight,
      c.draw.ensures.value,
      c.draw-2.ensures.value,
      c.draw-3.ensures.value,
      c.draw-4.ensures.value,
      c.draw-5.ensures.value,
      c.draw-6.ensures.value,
      c.draw-7.ensures.value,
      c.draw-8.ensures.value,
      c.draw-9.ensures.value,
      c.draw-10.ensures.value,
      c.draw-10.ensures.number,
      c.draw-9.ensures.number,
      c.draw-8.ensures.number,
      c.draw-7.ensures.number,
      c.draw-6.ensures.number,
      c.draw-5.ensures.number,
      c.draw-4.ensures.number,
      c.draw-3.ensures.number,
      c.draw-2.ensures.number,
      c.draw.ensures.number,
      c.from.ensures,
    ) refl
