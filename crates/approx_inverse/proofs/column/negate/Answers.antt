use Rattle.std.proofs.Common.{◌≡◌, ◌+◌, ◌-ℤ◌, pos, neg_ℤ, length, arith, ap, ◌∙◌, refl, rules, FitsSigned}
use Rattle.std.specs.Int.{w128}
use Rattle.std.proofs.Math.ListN.{length-set}
use Rattle.std.proofs.lemmas.Int.{ints, to_z-of_z}
use Rattle.integer_algebra.specs.Sums.{at}
use Rattle.word_region.specs.Words.{RegionWords}
use Rattle.approx_inverse.proofs.WordLaws.{step_above, step_below, write_step}
use Rattle.approx_inverse.proofs.column.negate.Goals as goal

pub loop-i-preserved : goal.loop-i-preserved
loop-i-preserved c =
    let ws = c.loop-i.region.words in
    let old = c.args.region.now.words in
    let start = c.args.s.now.start in
    let i = c.loop-i.i in
    let v = c.loop-i.invariant in
    let e = ap (λ (w : RegionWords). w.words) c.set_word.ensures.put in
    let value : FitsSigned w128 (at c.args.c.now i) = search rules in
    let fits = c.requires.fits i (omega arith) in
    let zero : pos 0 -ℤ at c.args.c.now i ≡ neg_ℤ (at c.args.c.now i) = omega (arith, ints) in
    record {
      used = ap (λ (w : RegionWords). w.used) c.set_word.ensures.put ∙ v.used;
      size = ap length e ∙ length-set ws (start + i) _ ∙ v.size;
      done = write_step ws _ start i _ (λ k. neg_ℤ (at c.args.c.now k)) e c.set_word.ensures.within (rw (to_z-of_z w128 _ value, zero, to_z-of_z w128 _ fits) refl) v.done;
      below = step_below old ws _ (start + i) start _ e (omega arith) v.below;
      rest = step_above old ws _ (start + i) (start + i) (start + (i + 1)) _ e (omega arith) (omega arith) v.rest;
    }

pub returns : goal.returns
returns c = let v = c.loop-i.invariant in
    record { used = v.used; size = v.size; done = λ k l. v.done k (omega arith); below = v.below; above = λ k l. v.rest k (omega arith) }
