use Rattle.std.proofs.Common.{rules, ℤ, ◌≡◌, ◌<◌, ◌+◌, ◌*ℤ◌, ◌-ℤ◌, FitsSigned, length, arith, ap, ◌∙◌, refl}
use Rattle.std.specs.Int.{w128}
use Rattle.std.proofs.Math.ListN.{length-set}
use Rattle.std.proofs.lemmas.Int.{to_z-of_z}
use Rattle.integer_algebra.specs.Sums.{at}
use Rattle.word_region.specs.Words.{RegionWords}
use Rattle.approx_inverse.proofs.WordLaws.{row_step, step_below, step_above}
use Rattle.approx_inverse.proofs.descent.take_row.Goals as goal

pub loop-i-preserved : goal.loop-i-preserved
loop-i-preserved c =
    let ws = c.loop-i.region.words in
    let old = c.args.region.now.words in
    let start = c.args.r.now.start in
    let i = c.loop-i.i in
    let inv = c.loop-i.invariant in
    let v : FitsSigned w128 (at c.args.row.now i) = search rules in
    let u : FitsSigned w128 c.word-old.result = search rules in
    let n : FitsSigned w128 c.less-new.result = search rules in
    let e = ap (λ (w : RegionWords). w.words) c.set_word.ensures.put in
    let f = ap (λ (w : RegionWords). w.used) c.set_word.ensures.put in
    let t = to_z-of_z w128 _ c.ranges.t in
    let z : c.less-new.result ≡ c.word-old.result -ℤ c.args.t *ℤ at c.args.row.now i = rw (to_z-of_z w128 _ u, t, to_z-of_z w128 _ v) at c.less-new.ensures in
    let is = to_z-of_z w128 _ n ∙ z ∙ ap (λ (y : ℤ). y -ℤ c.args.t *ℤ at c.args.row.now i) c.word-old.ensures in
    record {
      used = f ∙ inv.used;
      size = ap length e ∙ length-set ws (start + i) _ ∙ inv.size;
      done = rw t (row_step old ws _ c.args.row.now start i c.args.t _ e (omega arith) is inv.rest (rw t at inv.done));
      below = step_below old ws _ (start + i) start _ e (omega arith) inv.below;
      rest = step_above old ws _ (start + i) (start + i) (start + (i + 1)) _ e (omega arith) (omega arith) inv.rest;
    }

pub loop-i-init : goal.loop-i-init
loop-i-init c = record { used = refl; size = refl; done = λ k l. absurd (omega arith); below = λ k l. refl; rest = λ k l. refl }

pub word-old-requires-clause-live : goal.word-old-requires-clause-live
word-old-requires-clause-live c = record { end = rw c.loop-i.invariant.used c.requires.live.end }

pub less-new-requires-clause-product : goal.less-new-requires-clause-product
less-new-requires-clause-product c =
    let v : FitsSigned w128 (at c.args.row.now c.loop-i.i) = search rules in
    let l : c.loop-i.i < c.args.r.now.len = omega arith in
    rw (to_z-of_z w128 _ c.ranges.t, to_z-of_z w128 _ v) (c.requires.products c.loop-i.i l)

pub less-new-requires-clause-difference : goal.less-new-requires-clause-difference
less-new-requires-clause-difference c =
    let v : FitsSigned w128 (at c.args.row.now c.loop-i.i) = search rules in
    let l : c.loop-i.i < c.args.r.now.len = omega arith in
    let u : FitsSigned w128 c.word-old.result = search rules in
    let same = c.loop-i.invariant.rest (c.args.r.now.start + c.loop-i.i) (omega arith) in
    rw (to_z-of_z w128 _ u, to_z-of_z w128 _ c.ranges.t, to_z-of_z w128 _ v, c.word-old.ensures, same) (c.requires.results c.loop-i.i l)

pub set_word-requires-clause-live : goal.set_word-requires-clause-live
set_word-requires-clause-live c = record { end = rw c.loop-i.invariant.used c.requires.live.end }

pub returns : goal.returns
returns c =
    let inv = c.loop-i.invariant in
    let t = to_z-of_z w128 _ c.ranges.t in
    record {
      used = inv.used;
      size = inv.size;
      done = λ k l. (rw t at inv.done) k (omega arith);
      below = inv.below;
      above = λ k l. inv.rest k (omega arith);
    }
