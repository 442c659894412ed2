use Rattle.std.proofs.Common.{◌≡◌, ◌++◌, ◌∷◌, [], pos, to_z, of_z, ◌∙◌, arith, rules}
use mir.Val.{SFits}
use Rattle.std.specs.Int.{w128}
use Rattle.std.proofs.lemmas.Int.{to_z-of_z}
use Rattle.std.proofs.lemmas.List.{get_or_read, length-map}
use Rattle.csv.specs.Records.{fields_of}
use Rattle.mat_int.specs.Lines.{lists}
use Rattle.integer_algebra.specs.Sums.{at}
use Rattle.qp_model.specs.problem.Parts.{design_of}
use Rattle.qp_model.proofs.VersionLaws.{design_states_le}
use Rattle.policy_file.proofs.TextFacts.{passed_on}
use Rattle.cell_split.proofs.TextFacts.{one_more, ended, all_asked, first_fault}
use Rattle.cell_split.proofs.read.lists_in.Goals as goal

pub returns-then-i-records-clause-found : goal.returns-then-i-records-clause-found
returns-then-i-records-clause-found c = ended (design_of c.args.parts.now) c.args.records.now (lists c.loop-i.read.items) c.loop-i.i (omega arith) (omega arith) c.loop-i.invariant

pub returns-in_err-cuts-clause-fault : goal.returns-in_err-cuts-clause-fault
returns-in_err-cuts-clause-fault c =
    let i = c.loop-i.i in
    let low_fits : SFits w128 c.index.result.now = search rules in
    let low : to_z w128 (of_z w128 c.index.result.now) ≡ at c.args.parts.now.lo.items i =
    to_z-of_z w128 c.index.result.now low_fits ∙ get_or_read c.args.parts.now.lo.items i c.index.result.now (omega (arith, c.requires.lo.long)) c.index.ensures (pos 0) in
    let high_fits : SFits w128 c.index-in-loop-i.result.now = search rules in
    let high : to_z w128 (of_z w128 c.index-in-loop-i.result.now) ≡ at c.args.parts.now.hi.items i =
    to_z-of_z w128 c.index-in-loop-i.result.now high_fits ∙ get_or_read c.args.parts.now.hi.items i c.index-in-loop-i.result.now (omega (arith, c.requires.hi.long)) c.index-in-loop-i.ensures (pos 0) in
    passed_on _ _ _ c.from_residual.ensures.1
    (first_fault (design_of c.args.parts.now) c.args.records.now (lists c.loop-i.read.items) c.index-records-i.result _ _ i _ (omega arith)
    (omega (arith, c.loop-i.invariant.inside, length-map c.args.records.now fields_of)) c.index-records-i.is low high c.in_err-cuts.ensures.fault c.loop-i.invariant)

pub loop-i-preserved : goal.loop-i-preserved
loop-i-preserved c =
    let i = c.loop-i.i in
    let low_fits : SFits w128 c.index.result.now = search rules in
    let low : to_z w128 (of_z w128 c.index.result.now) ≡ at c.args.parts.now.lo.items i =
    to_z-of_z w128 c.index.result.now low_fits ∙ get_or_read c.args.parts.now.lo.items i c.index.result.now (omega (arith, c.requires.lo.long)) c.index.ensures (pos 0) in
    let high_fits : SFits w128 c.index-in-loop-i.result.now = search rules in
    let high : to_z w128 (of_z w128 c.index-in-loop-i.result.now) ≡ at c.args.parts.now.hi.items i =
    to_z-of_z w128 c.index-in-loop-i.result.now high_fits ∙ get_or_read c.args.parts.now.hi.items i c.index-in-loop-i.result.now (omega (arith, c.requires.hi.long)) c.index-in-loop-i.ensures (pos 0) in
    let items : c.push.new.self.items ≡ c.loop-i.read.items ++ c.in_ok-cuts.cuts ∷ [] = search rules in
    one_more (design_of c.args.parts.now) c.args.records.now c.loop-i.read.items _ c.in_ok-cuts.cuts c.index-records-i.result _ _ i items
    (omega (arith, c.loop-i.invariant.inside, length-map c.args.records.now fields_of)) c.index-records-i.is low high c.in_ok-cuts.ensures.found c.loop-i.invariant

pub returns-clause-found : goal.returns-clause-found
returns-clause-found c = all_asked (design_of c.args.parts.now) c.args.records.now (lists c.loop-i.read.items) c.loop-i.i (omega arith) (omega arith) c.loop-i.invariant

-- ---- the record of a coordinate
pub bounds-records-i : goal.bounds-records-i
bounds-records-i c = omega (arith, c.loop-i.invariant.inside, length-map c.args.records.now fields_of)

pub overflow_cast-i : goal.overflow_cast-i
overflow_cast-i c = omega (arith, design_states_le c.args.parts.now c.requires)

pub overflow_add-i : goal.overflow_add-i
overflow_add-i c = omega (arith, design_states_le c.args.parts.now c.requires)
