use Rattle.std.proofs.Common.{◌+◌, ◌++◌, ◌∙◌, ℕ, ℤ, List, FitsSigned, ap, rules}
use Rattle.std.specs.Int.{w128}
use Rattle.std.proofs.lemmas.Int.{to_z-of_z}
use Rattle.integer_algebra.specs.Sums.{at}
use Rattle.mat_int.specs.Matrix.{row_of}
use Rattle.qp_model.specs.machine.Controller.{Numbers, numbers}
use Rattle.qp_model.specs.machine.Machine.{lowering_of}
use Rattle.mac_listing.specs.declared.instruction.Op.{Op}
use Rattle.mac_listing.specs.Body.{product_op}
use Rattle.mac_listing.proofs.Groups.{grown_none, grown_more}
use Rattle.mac_listing.proofs.body.push_raised_row.Goals as goal

abbrev product : Numbers → ℕ → ℕ → List Op
product c j k = product_op (c.states + k) (at (row_of c.dual_gains j) k) (lowering_of c k)

pub loop-i-init : goal.loop-i-init
loop-i-init c = grown_none (product (numbers c.args.c.now) c.args.j) c.args.body.now.items

pub loop-i-preserved : goal.loop-i-preserved
loop-i-preserved c =
    let n = numbers c.args.c.now in
    let i = c.loop-i.i in
    let was = c.loop-i.body.items in
    let x : FitsSigned w128 (at c.row-row.result.now i) = search rules in
    grown_more (product n c.args.j) i c.args.body.now.items was c.push_product.new.body.items c.loop-i.invariant
    (c.in_ok-push_product.ensures ∙ ap (λ (z : ℤ). was ++ product_op (n.states + i) z c.lowering_at.result) (to_z-of_z w128 _ x)
    ∙ ap (λ (k : ℕ). was ++ product_op (n.states + i) (at c.row-row.result.now i) k) c.lowering_at.ensures.value
    ∙ ap (λ (row : List ℤ). was ++ product_op (n.states + i) (at row i) (lowering_of n i)) c.row-row.ensures.value)
