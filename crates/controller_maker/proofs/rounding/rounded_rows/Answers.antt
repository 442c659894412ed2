use Rattle.std.proofs.Common.{rules, FitsSigned}
use Rattle.std.specs.Int.{w128}
use Rattle.std.proofs.lemmas.Int.{to_z-of_z}
use Rattle.controller_maker.proofs.Roundings.{den_positive, plan_small, state_small, bound_small, rows_from}
use Rattle.controller_maker.proofs.rounding.rounded_rows.Goals as goal

pub rounded_matrix-requires-clause-den : goal.rounded_matrix-requires-clause-den
rounded_matrix-requires-clause-den c =
    let f : FitsSigned w128 c.args.condensed.now.row_den = search rules in
    rw (to_z-of_z w128 _ f) (den_positive c.requires.form.parts c.args.condensed.now c.requires.form.form)

pub rounded_matrix-requires-clause-small : goal.rounded_matrix-requires-clause-small
rounded_matrix-requires-clause-small c = plan_small c.requires.form.parts c.args.condensed.now c.requires.form.form

pub rounded_matrix-requires-2-clause-den : goal.rounded_matrix-requires-2-clause-den
rounded_matrix-requires-2-clause-den c =
    let f : FitsSigned w128 c.args.condensed.now.row_den = search rules in
    rw (to_z-of_z w128 _ f) (den_positive c.requires.form.parts c.args.condensed.now c.requires.form.form)

pub rounded_matrix-requires-2-clause-small : goal.rounded_matrix-requires-2-clause-small
rounded_matrix-requires-2-clause-small c = state_small c.requires.form.parts c.args.condensed.now c.requires.form.form

pub rounded_list-requires-clause-den : goal.rounded_list-requires-clause-den
rounded_list-requires-clause-den c =
    let f : FitsSigned w128 c.args.condensed.now.row_den = search rules in
    rw (to_z-of_z w128 _ f) (den_positive c.requires.form.parts c.args.condensed.now c.requires.form.form)

pub rounded_list-requires-clause-small : goal.rounded_list-requires-clause-small
rounded_list-requires-clause-small c = rw c.deref.ensures.value (bound_small c.requires.form.parts c.args.condensed.now c.requires.form.form)

pub returns : goal.returns
returns c = λ p is.
    let f : FitsSigned w128 c.args.condensed.now.row_den = search rules in
    let den = to_z-of_z w128 _ f in
    rows_from p c.args.condensed.now c.args.f _ is (record {
      plan = rw den at c.in_ok-rounded_matrix.ensures;
      state = rw den at c.in_ok-rounded_matrix-2.ensures;
      bound = rw (den, c.deref.ensures.value) at c.in_ok-rounded_list.ensures;
    })
