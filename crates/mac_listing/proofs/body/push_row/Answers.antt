use Rattle.std.proofs.Common.{◌+◌, ◌++◌, ◌∙◌, ℕ, ℤ, List, FitsSigned, ap, rules}
use Rattle.std.specs.Int.{w128}
use Rattle.std.proofs.lemmas.Int.{to_z-of_z}
use Rattle.integer_algebra.specs.Sums.{at}
use Rattle.mac_listing.specs.declared.instruction.Op.{Op}
use Rattle.mac_listing.specs.Body.{product_op}
use Rattle.mac_listing.proofs.Groups.{grown_none, grown_more}
use Rattle.mac_listing.proofs.body.push_row.Goals as goal

abbrev product : (first : ℕ) → List ℤ → ℕ → List Op
product first row k = product_op (first + k) (at row k) 0

pub loop-i-init : goal.loop-i-init
loop-i-init c = grown_none (product c.args.first c.args.row.now) c.args.body.now.items

pub loop-i-preserved : goal.loop-i-preserved
loop-i-preserved c =
    let i = c.loop-i.i in
    let was = c.loop-i.body.items in
    let x : FitsSigned w128 (at c.args.row.now i) = search rules in
    grown_more (product c.args.first c.args.row.now) i c.args.body.now.items was c.push_product.new.body.items c.loop-i.invariant
    (c.in_ok-push_product.ensures ∙ ap (λ (z : ℤ). was ++ product_op (c.args.first + i) z 0) (to_z-of_z w128 _ x))
