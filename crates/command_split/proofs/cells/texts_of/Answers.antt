use Rattle.std.proofs.Common.{◌≤◌, map, sym, ◌∙◌, rules, arith}
use Rattle.std.proofs.lemmas.List.Folds.{flat_map-map}
use Rattle.qp_model.specs.problem.Parts.{IsDesign}
use Rattle.std.specs.Option.{option_map}
use Rattle.qp_model.specs.problem.Policy.{plans_of}
use Rattle.qp_model.specs.bounds.Printed.{printed}
use Rattle.bound_report.specs.Report.{report_text}
use Rattle.cell_split.specs.Cells.{cell_count}
use Rattle.cell_split.proofs.PolicyFacts.{covered_most}
use Rattle.command_line.proofs.Results.{err_same}
use Rattle.command_generate.proofs.Making.{none_made, makes_of}
use Rattle.command_split.proofs.Serving.{are_alike}
use Rattle.command_split.proofs.cells.texts_of.Goals as goal

pub texts_made-requires-clause-alike : goal.texts_made-requires-clause-alike
texts_made-requires-clause-alike c =
    are_alike c.args.wanted.now.design c.args.wanted.now.fast c.args.cuts.now (map (option_map plans_of) c.args.policies.now) c.in_ok-made.made.controllers.items (map printed c.in_ok-made.made.bounds.items) c.in_ok-made.ensures.made

pub texts_made-requires-clause-some : goal.texts_made-requires-clause-some
texts_made-requires-clause-some c = omega (arith, c.in_ok-made.ensures.made.count, c.requires.some)

pub texts_made-requires-clause-few : goal.texts_made-requires-clause-few
texts_made-requires-clause-few c =
    let few : cell_count c.args.cuts.now ≤ 64 = search rules in
    omega (arith, c.in_ok-made.ensures.made.count, covered_most (map (option_map plans_of) c.args.policies.now) (cell_count c.args.cuts.now), few)

pub returns : goal.returns
returns c =
    let design : IsDesign c.args.wanted.now.design = search rules in
    let made = c.in_ok-made.made in
    let is = c.in_ok-made.ensures in
    makes_of c.texts_made.result is.called
    (λ t are. record {
      design = design;
      cut = c.requires.cuts;
      cells = made.controllers.items;
      bounds = map printed made.bounds.items;
      made = is.made;
      is_text = are.0;
      is_report = are.1 ∙ sym (flat_map-map report_text printed made.bounds.items);
    })
    c.texts_made.ensures.texts c.texts_made.ensures.memory

pub returns-in_err-made : goal.returns-in_err-made
returns-in_err-made c = rw (err_same _ _ c.from_residual.ensures.1) (none_made c.in_err-made.ensures.unmade)
