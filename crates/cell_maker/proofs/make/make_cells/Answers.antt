use Rattle.std.proofs.Common.{◌≡◌, ◌+◌, ◌<◌, List, length, map, true, Some, None, ap, refl, rules, arith}
use Rattle.std.specs.Option.{option_map}
use Rattle.std.specs.Result.{is_ok}
use Rattle.qp_model.specs.bounds.Printed.{printed}
use Rattle.qp_model.specs.declared.bounds.Bounds.{Bounds}
use Rattle.controller_file.specs.declared.any_controller.AnyController.{AnyController}
use Rattle.qp_model.specs.problem.Policy.{plans_of}
use Rattle.cell_split.specs.Cells.{IsCell}
use Rattle.cell_maker.proofs.Cells.{no_cell_made, refused_so, one_made, passed_over, of_good}
use Rattle.cell_maker.proofs.make.make_cells.Goals as goal

pub loop-k-init : goal.loop-k-init
loop-k-init c =
    no_cell_made c.args.design.now c.args.fast c.args.cuts.now (map (option_map plans_of) c.args.policies.now) c.new.result.items (map printed c.new-2.result.items) (ap (λ (xs : List AnyController). length xs) c.new.ensures.items)
    (ap (λ (xs : List Bounds). length (map printed xs)) c.new-2.ensures.items)

pub loop-k-preserved-in_default : goal.loop-k-preserved-in_default
loop-k-preserved-in_default c =
    let lt : c.loop-k.k < length c.args.policies.now = omega (arith, c.loop-k-test.true, c.cells-k-end.ensures.value, c.requires.count) in
    let none : c.index-policies-k.result ≡ None = search rules in
    passed_over c.args.design.now c.args.fast c.args.cuts.now c.args.policies.now c.loop-k.k c.loop-k.all.controllers.items c.loop-k.all.bounds.items c.index-policies-k.result lt c.index-policies-k.is
    c.loop-k.invariant none

pub returns-in-Err-clause-refused : goal.returns-in-Err-clause-refused
returns-in-Err-clause-refused c =
    let lt : c.loop-k.k < length c.args.policies.now = omega (arith, c.loop-k-test.true, c.cells-k-end.ensures.value, c.requires.count) in
    let cell : IsCell c.args.cuts.now (c.loop-k.k + 1) = record { low = omega arith; high = omega (arith, c.loop-k-test.true, c.cells-k-end.ensures.value) } in
    let some : c.index-policies-k.result ≡ Some c.in-Some.policy = search rules in
    refused_so c.args.design.now c.args.fast c.args.cuts.now c.args.policies.now c.loop-k.k c.loop-k.all.controllers.items (map printed c.loop-k.all.bounds.items) _ c.in-Err.refusal c.index-policies-k.result
    c.in-Some.policy c.refused-in-Err.result refl c.refused-in-Err.ensures lt c.index-policies-k.is some c.loop-k.invariant cell c.in-Err.ensures.refused c.in-Err.ensures.every_refusal
    c.in-Err.ensures.accepted

pub loop-k-preserved : goal.loop-k-preserved
loop-k-preserved c =
    let lt : c.loop-k.k < length c.args.policies.now = omega (arith, c.loop-k-test.true, c.cells-k-end.ensures.value, c.requires.count) in
    let good : is_ok c.put.result ≡ true = search rules in
    let some : c.index-policies-k.result ≡ Some c.in-Some.policy = search rules in
    one_made c.args.design.now c.args.fast c.args.cuts.now c.args.policies.now c.loop-k.k c.loop-k.all.controllers.items c.loop-k.all.bounds.items c.index-policies-k.result lt c.index-policies-k.is c.loop-k.invariant
    c.put.new.all.controllers.items c.put.new.all.bounds.items c.in-Ok.made.controller c.in-Ok.made.bounds c.in-Some.policy some
    (of_good c.put.result _ good c.put.ensures.controllers) (of_good c.put.result _ good c.put.ensures.bounds) c.in-Ok.ensures.made
