use Rattle.std.proofs.Common.{◌≡◌, ◌<◌, ◌*◌, ◌^◌, ◌-◌, ℕ, length, pos, max, unsigned_abs, get_or, arith, take, rules, FitsSigned, sym, ◌∙◌, length-set}
use Rattle.std.specs.Int.{w128}
use Rattle.std.proofs.lemmas.Int.{to_z-of_z}
use Rattle.std.proofs.lemmas.List.{ext_get_or, get_or-take, length-take-le, get_or_read}
use Rattle.std.proofs.lemmas.List.Edits.{fill_by_more}
use Rattle.qp_model.specs.machine.Controller.{numbers}
use Rattle.qp_model.specs.machine.AbsoluteSums.{state_magnitudes}
use Rattle.qp_model.proofs.VersionLaws.{states_le}
use Rattle.std.proofs.lemmas.Grind.{common_steps}
use Rattle.overflow_check.specs.FastController.{with_last_version}
use Rattle.overflow_check.proofs.Sizes.{numerator_read, reach_below, length-state_reach, get_or-reach_of}
use Rattle.overflow_check.proofs.absolute_sums.state_magnitudes.Goals as goal

pub overflow_mul-magnitudes : goal.overflow_mul-magnitudes
overflow_mul-magnitudes c =
    let low_fits : FitsSigned w128 c.index.result.now = search rules in
    let high_fits : FitsSigned w128 c.index-in-loop-i.result.now = search rules in
    let low = numerator_read c.args.c.now.lo.items c.loop-i.i c.index.result.now c.requires.low (omega (arith, c.requires.shaped.low)) c.index.ensures in
    let high = numerator_read c.args.c.now.hi.items c.loop-i.i c.index-in-loop-i.result.now c.requires.high (omega (arith, c.requires.shaped.high)) c.index-in-loop-i.ensures in
    rw (c.max.ensures, c.unsigned_abs.ensures.value, c.unsigned_abs-in-loop-i.ensures.value, c.two_to.ensures, to_z-of_z w128 _ low_fits, to_z-of_z w128 _ high_fits)
    (record { fits = omega (arith, reach_below _ _ (c.args.c.now.f - c.args.c.now.g) low high (omega (arith, c.requires.fraction_bits))) })

pub loop-i-preserved : goal.loop-i-preserved
loop-i-preserved c =
    let i = c.loop-i.i in
    let low_fits : FitsSigned w128 c.index.result.now = search rules in
    let high_fits : FitsSigned w128 c.index-in-loop-i.result.now = search rules in
    let low : c.index.result.now ≡ get_or c.args.c.now.lo.items i (pos 0) = get_or_read c.args.c.now.lo.items i c.index.result.now (omega (arith, c.requires.shaped.low)) c.index.ensures (pos 0) in
    let high : c.index-in-loop-i.result.now ≡ get_or c.args.c.now.hi.items i (pos 0) = get_or_read c.args.c.now.hi.items i c.index-in-loop-i.result.now (omega (arith, c.requires.shaped.high)) c.index-in-loop-i.ensures (pos 0) in
    let lt : i < length c.loop-i.magnitudes = omega (arith, states_le (with_last_version (numbers c.args.c.now)) c.requires) in
    record {
      room = length-set c.loop-i.magnitudes i (c.max.result * c.two_to.result) ∙ c.loop-i.invariant.room;
      magnitudes = rw (c.max.ensures, c.unsigned_abs.ensures.value, c.unsigned_abs-in-loop-i.ensures.value, c.two_to.ensures, to_z-of_z w128 _ low_fits, to_z-of_z w128 _ high_fits, low, high)
          (fill_by_more (λ k. max (unsigned_abs (get_or c.args.c.now.lo.items k (pos 0))) (unsigned_abs (get_or c.args.c.now.hi.items k (pos 0))) * 2 ^ (c.args.c.now.f - c.args.c.now.g)) c.loop-i.magnitudes i 0 lt c.loop-i.invariant.magnitudes);
    }

pub returns : goal.returns
returns c =
    let n = numbers c.args.c.now in
    let long : length (take c.args.c.now.n c.loop-i.magnitudes) ≡ c.args.c.now.n = length-take-le c.args.c.now.n c.loop-i.magnitudes (omega (arith, states_le (with_last_version n) c.requires)) in
    let same : (i : ℕ) → i < c.args.c.now.n → get_or (take c.args.c.now.n c.loop-i.magnitudes) i 0 ≡ get_or (state_magnitudes n) i 0 = λ i h.
    rw (get_or-take c.args.c.now.n c.loop-i.magnitudes i 0 h, get_or-reach_of (n.fraction_bits - n.grid_bits) n.low n.high i (omega (arith, h, c.requires.shaped.low)) (omega (arith, c.requires.shaped.low, c.requires.shaped.high)))
    (c.loop-i.invariant.magnitudes i (omega (arith, h))) in
    ext_get_or 0 (take c.args.c.now.n c.loop-i.magnitudes) (state_magnitudes n) (long ∙ sym (length-state_reach (with_last_version n) c.requires)) (λ i h. same i (rw long at h))

pub overflow_sub-c : goal.overflow_sub-c
overflow_sub-c c = grind (arith, common_steps)
