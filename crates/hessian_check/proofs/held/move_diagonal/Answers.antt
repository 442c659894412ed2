use Rattle.std.proofs.Common.{◌≡◌, ◌∙◌, FitsSigned, length, arith, refl, rules, sym}
use Rattle.std.specs.Int.{w128}
use Rattle.std.proofs.lemmas.Int.{to_z-of_z}
use Rattle.integer_algebra.specs.Sizes.{size}
use Rattle.mat_int.specs.Matrix.{entry_of}
use Rattle.hessian_check.specs.Held.{moved, moved_diagonal}
use Rattle.hessian_check.proofs.FillLaws.{moved_more, moved_all, moved_start}
use Rattle.hessian_check.proofs.HeldMatrices.{moved_beside, moved_own}
use Rattle.hessian_check.proofs.held.move_diagonal.Goals as goal

pub moved-own-requires : goal.moved-own-requires
moved-own-requires c =
    let n = length c.args.mat.now.rows in
    let i = c.loop-i.i in
    let f : FitsSigned w128 c.at.result = search rules in
    let own : c.at.result ≡ entry_of c.args.mat.now i i = c.at.ensures ∙ c.loop-i.invariant.rest i i (omega arith) (omega arith) (omega arith) in
    let sum : c.absolute_sum.result ≡ size n (entry_of c.args.radii.now i) = c.absolute_sum.ensures ∙ rw (c.row.ensures.len, c.row.ensures.value, c.requires.cols) refl in
    rw (to_z-of_z w128 _ f, own, sum) (c.requires.room i (omega arith))

pub loop-i-preserved : goal.loop-i-preserved
loop-i-preserved c =
    let n = length c.args.mat.now.rows in
    let old = entry_of c.args.mat.now in
    let up = c.args.up in
    let i = c.loop-i.i in
    let f : FitsSigned w128 c.at.result = search rules in
    let g : FitsSigned w128 c.moved-own.result = search rules in
    let own : c.at.result ≡ old i i = c.at.ensures ∙ c.loop-i.invariant.rest i i (omega arith) (omega arith) (omega arith) in
    let sum : c.absolute_sum.result ≡ size n (entry_of c.args.radii.now i) = c.absolute_sum.ensures ∙ rw (c.row.ensures.len, c.row.ensures.value, c.requires.cols) refl in
    let value : c.moved-own.result ≡ moved up (old i i) (size n (entry_of c.args.radii.now i)) = rw (to_z-of_z w128 _ f, own, sum) at c.moved-own.ensures in
    moved_more n (moved_diagonal up old (λ i. size n (entry_of c.args.radii.now i))) old c.loop-i.mat c.set.new.self i _ (omega arith) c.set.ensures
    (to_z-of_z w128 _ g ∙ value ∙ sym (moved_own up old (λ i. size n (entry_of c.args.radii.now i)) i))
    (λ j h. moved_beside up old (λ i. size n (entry_of c.args.radii.now i)) i j h) c.loop-i.invariant

pub loop-i-init : goal.loop-i-init
loop-i-init c =
    let n = length c.args.mat.now.rows in
    moved_start n (moved_diagonal c.args.up (entry_of c.args.mat.now) (λ i. size n (entry_of c.args.radii.now i))) c.args.mat.now refl c.requires.square (search rules)

pub returns : goal.returns
returns c =
    let n = length c.args.mat.now.rows in
    let old = entry_of c.args.mat.now in
    moved_all n (moved_diagonal c.args.up old (λ i. size n (entry_of c.args.radii.now i))) old c.loop-i.mat c.loop-i.i (omega arith) c.loop-i.invariant
