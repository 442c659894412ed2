use Rattle.std.proofs.Common.{arith, FitsSigned, ◌∙◌}
use Rattle.std.specs.Int.{w64, w128}
use Rattle.std.proofs.lemmas.Int.{to_z-of_z, fits_signed_from_abs}
use Rattle.fixed_kernel.proofs.word_machine.WordForm.of.Goals as goal

pub returns : goal.returns
returns c =
    let word : FitsSigned w64 c.narrowed.result = record { sfits = c.narrowed.type_inv } in
    let clamp : FitsSigned w128 c.args.c.now.clamp = fits_signed_from_abs w128 _ (omega (arith, c.requires.narrow.clamp)) in
    record {
      gains = c.in_ok-gains.ensures;
      rows = c.in_ok-rows.ensures;
      top = to_z-of_z w64 _ word ∙ c.narrowed.ensures ∙ to_z-of_z w128 _ clamp;
      half = c.has_half_factors.ensures.0;
    }
