use Rattle.std.proofs.Common.{◌≡◌}
use Rattle.integer_algebra.specs.Sums.{at, none}
use Rattle.qp_model.specs.problem.Parts.{design_of}
use Rattle.stay_check.proofs.CheckFacts.{zeros_are, unshifted}
use Rattle.stay_check.proofs.check.check_unshifted.Goals as goal

pub returns-clause-stays : goal.returns-clause-stays
returns-clause-stays c =
    let e : at c.args.zeros.now ≡ none = rw c.requires.zeros (zeros_are c.args.design.now.states) in
    unshifted (design_of c.args.design.now) (at c.args.excess.now) c.args.zeros.now c.check_faces_under.result e c.check_faces_under.ensures.stays

pub returns-clause-found : goal.returns-clause-found
returns-clause-found c =
    let e : at c.args.zeros.now ≡ none = rw c.requires.zeros (zeros_are c.args.design.now.states) in
    rw e at c.check_faces_under.ensures.found

pub returns-clause-fault : goal.returns-clause-fault
returns-clause-fault c =
    let e : at c.args.zeros.now ≡ none = rw c.requires.zeros (zeros_are c.args.design.now.states) in
    rw e at c.check_faces_under.ensures.fault

pub returns-clause-right : goal.returns-clause-right
returns-clause-right c =
    let e : at c.args.zeros.now ≡ none = rw c.requires.zeros (zeros_are c.args.design.now.states) in
    rw e at c.check_faces_under.ensures.right

pub returns-clause-first : goal.returns-clause-first
returns-clause-first c =
    let e : at c.args.zeros.now ≡ none = rw c.requires.zeros (zeros_are c.args.design.now.states) in
    rw e at c.check_faces_under.ensures.first
