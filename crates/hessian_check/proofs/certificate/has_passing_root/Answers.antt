use Rattle.std.proofs.Common.{◌^◌, ◌↔◌, pos, length, rules, FitsSigned, IsTrue}
use Rattle.std.specs.Int.{w128}
use Rattle.std.proofs.lemmas.Int.{to_z-of_z}
use Rattle.mat_int.specs.Matrix.{entry_of}
use Rattle.mat_int.specs.Matrix.{HasEntries}
use Rattle.hessian_check.specs.StepMatrices.{mixed}
use Rattle.hessian_check.specs.Passing.{RootPasses}
use Rattle.hessian_check.specs.Recipe.{IsRecipeRoot, top}
use Rattle.hessian_check.proofs.RowLaws.{refused}
use Rattle.hessian_check.proofs.StartLaws.{ready, shift_bound, top_positive}
use Rattle.hessian_check.proofs.PassLaws.{certified_by, uncertified}
use Rattle.hessian_check.proofs.SameLaws.{raised_room, raised_same, raised_turned}
use Rattle.hessian_check.proofs.certificate.has_passing_root.Goals as goal

pub returns-in_default : goal.returns-in_default
returns-in_default c = refused (uncertified (length c.args.mat.now.rows) (entry_of c.args.mat.now) (c.in_ok-scaled.ensures.none c.in_default.is))

pub four_to-requires : goal.four_to-requires
four_to-requires c =
    let n = length c.args.mat.now.rows in
    let m = entry_of c.args.mat.now in
    let p : IsRecipeRoot n m c.in-Some.scaled.shift (entry_of c.in-Some.scaled.root) = rw c.in-Some.is at c.in_ok-scaled.ensures.root in
    shift_bound (top n m) c.in-Some.scaled.shift (top_positive n m p.start) p.shift

pub mix-requires-clause-room : goal.mix-requires-clause-room
mix-requires-clause-room c =
    let n = length c.args.mat.now.rows in
    let m = entry_of c.args.mat.now in
    let h = c.in-Some.scaled.shift in
    let p : IsRecipeRoot n m h (entry_of c.in-Some.scaled.root) = rw c.in-Some.is at c.in_ok-scaled.ensures.root in
    let u : FitsSigned w128 c.four_to.result = search rules in
    rw (to_z-of_z w128 _ u, c.four_to.ensures) (λ i j k l. raised_room (pos (4 ^ h)) (m i j) ((ready n m h p.start p.shift).small.entries i j k l))

pub check-requires-clause-symmetric : goal.check-requires-clause-symmetric
check-requires-clause-symmetric c =
    let n = length c.args.mat.now.rows in
    let m = c.args.mat.now in
    let w = c.in_ok-raised.raised in
    let h = c.in-Some.scaled.shift in
    let u : FitsSigned w128 c.four_to.result = search rules in
    let e : HasEntries n n (mixed (pos (4 ^ h)) (entry_of m) (pos 0) (entry_of m)) w = rw (to_z-of_z w128 _ u, c.four_to.ensures) at c.in_ok-raised.ensures in
    let q = e.rows in
    rw q (raised_turned n m w (pos (4 ^ h)) (raised_same n m w (pos (4 ^ h)) e) c.requires.symmetric)

pub returns : goal.returns
returns c =
    let n = length c.args.mat.now.rows in
    let m = c.args.mat.now in
    let w = c.in_ok-raised.raised in
    let h = c.in-Some.scaled.shift in
    let r = entry_of c.in-Some.scaled.root in
    let p : IsRecipeRoot n (entry_of m) h r = rw c.in-Some.is at c.in_ok-scaled.ensures.root in
    let u : FitsSigned w128 c.four_to.result = search rules in
    let e : HasEntries n n (mixed (pos (4 ^ h)) (entry_of m) (pos 0) (entry_of m)) w = rw (to_z-of_z w128 _ u, c.four_to.ensures) at c.in_ok-raised.ensures in
    let q = e.rows in
    let k = certified_by n (entry_of m) (entry_of w) h r p (raised_same n m w (pos (4 ^ h)) e) in
    let x : IsTrue c.check.result ↔ RootPasses n (entry_of w) r = rw q at c.check.ensures.exact in
    (λ t. k.0 (x.0 t), λ y. x.1 (k.1 y))
