use Rattle.std.proofs.Common.{rules, ◌≡◌, FitsSigned, length, pos, arith, get_or-set_same, get_or-set_other, below_more, ◌∙◌, IsTrue, false}
use Rattle.std.specs.Int.{w128}
use Rattle.std.proofs.lemmas.Int.{to_z-of_z}
use Rattle.integer_algebra.specs.Sums.{at}
use Rattle.mat_int.specs.Matrix.{entry_of}
use Rattle.approx_inverse.specs.Descent.{aim, system_residual}
use Rattle.approx_inverse.proofs.start.make_rest.Goals as goal

not_true : ¬ IsTrue false
not_true t = search rules

pub loop-i-preserved : goal.loop-i-preserved
loop-i-preserved c =
    let i = c.loop-i.i in
    let old = c.loop-i.rest in
    let e : FitsSigned w128 c.in-Some.entry = search rules in
    let v : FitsSigned w128 (at c.args.c.now i) = search rules in
    let is : c.in-Some.entry ≡ system_residual (length c.args.c.now) (entry_of c.args.h.now) (aim c.args.f c.args.c.now) (at c.args.x.now) i =
    rw (to_z-of_z w128 _ v, c.row.ensures.value, c.requires.len) at c.in-Some.ensures in
    below_more _ _
    (λ k l. get_or-set_other old i k _ (pos 0) (omega arith) ∙ c.loop-i.invariant k l)
    (get_or-set_same old i _ (pos 0) (omega (arith, c.loop-i.auto.rest)) ∙ to_z-of_z w128 _ e ∙ is)

pub returns : goal.returns
returns c = λ yes i l. c.loop-i.invariant i (omega arith)

pub returns-in_default : goal.returns-in_default
returns-in_default c = λ yes. absurd (not_true yes)
