use Rattle.std.proofs.Common.{◌≡◌, ◌++◌, ◌∷◌, [], List, Option, length, map, refl, ap, ◌∙◌, rules}
use Rattle.std.specs.Option.{option_map}
use Rattle.std.proofs.lemmas.List.{map-append}
use Rattle.csv.specs.Records.{fields_of}
use Rattle.qp_model.specs.declared.policy.Policy.{Policy}
use Rattle.qp_model.specs.problem.Parts.{design_of}
use Rattle.qp_model.specs.problem.Policy.{plans_of}
use Rattle.policy_file.proofs.TextFacts.{passed_on}
use Rattle.cell_split.proofs.PolicyFacts.{no_cell, told_cell, one_cell}
use Rattle.cell_split.proofs.read_cells.cells_in.Goals as goal

pub loop-init : goal.loop-init
loop-init c =
    no_cell (map fields_of c.args.records.now) (design_of c.args.parts.now) c.args.cells (map (option_map plans_of) c.new-policies.result.items) 0
    (ap (λ (xs : List (Option Policy)). length (map (option_map plans_of) xs)) c.new-policies.ensures.items) refl

pub returns-in_err-cell-clause-fault : goal.returns-in_err-cell-clause-fault
returns-in_err-cell-clause-fault c =
    passed_on _ _ _ c.from_residual.ensures.1
    (told_cell (map fields_of c.args.records.now) (design_of c.args.parts.now) c.args.cells (map (option_map plans_of) c.loop.policies.items) c.loop.counter c.loop.end _
    c.loop-test.true c.loop.invariant c.in_err-cell.ensures.fault)

pub loop-preserved : goal.loop-preserved
loop-preserved c =
    let items : c.push.new.self.items ≡ c.loop.policies.items ++ c.in_ok-cell.cell.policy ∷ [] = search rules in
    one_cell (map fields_of c.args.records.now) (design_of c.args.parts.now) c.args.cells (map (option_map plans_of) c.loop.policies.items) c.loop.counter c.loop.end c.in_ok-cell.cell.end
    (option_map plans_of c.in_ok-cell.cell.policy) _ (ap (map (option_map plans_of)) items ∙ map-append (option_map plans_of) c.loop.policies.items (c.in_ok-cell.cell.policy ∷ []))
    c.in_ok-cell.ensures.found c.loop.invariant
