use Rattle.std.proofs.Common.{◌≡◌, ◌∙◌, ◌+◌, ◌<◌, ◌∷◌, ◌++◌, [], pos, length, map, true, ap, arith, rules}
use Rattle.std.specs.Int.{w128}
use Rattle.std.specs.Result.{is_ok}
use mir.Val.{SFits}
use Rattle.std.proofs.lemmas.Int.{to_z-of_z}
use Rattle.std.proofs.lemmas.List.{take_rest, get_or_read, length_push, length-map}
use Rattle.integer_algebra.specs.Sums.{at}
use Rattle.csv.specs.Records.{fields_of}
use Rattle.qp_model.specs.problem.Parts.{design_of}
use Rattle.policy_file.proofs.TextFacts.{passed_on}
use Rattle.cell_split.proofs.TextFacts.{record_is}
use Rattle.cell_split.proofs.PlanFacts.{plan_more, between_fault}
use Rattle.cell_split.proofs.read_cells.plans_from.Goals as goal

pub returns-in_err-numbers-clause-fault : goal.returns-in_err-numbers-clause-fault
returns-in_err-numbers-clause-fault c =
    let records = c.args.records.now in
    let e = c.loop-e.e in
    let lt : c.args.start + c.loop-e.e < length records = omega (arith, c.requires.inside, c.loop-e-test.true) in
    passed_on _ _ _ c.from_residual-in_err-numbers.ensures.1
    (between_fault (map fields_of records) (design_of c.args.parts.now) c.args.start c.args.number e c.loop-e.dens.items c.loop-e.plans _ c.loop-e-test.true
    (omega (arith, lt, length-map records fields_of)) c.loop-e.invariant.rows.each
    (rw (record_is records c.index-records-i.result (c.args.start + e) lt c.index-records-i.is) at c.in_err-numbers.ensures.fault))

pub loop-e-preserved : goal.loop-e-preserved
loop-e-preserved c =
    let records = c.args.records.now in
    let e = c.loop-e.e in
    let zs = c.in_ok-numbers.numbers.items in
    let lt : c.args.start + c.loop-e.e < length records = omega (arith, c.requires.inside, c.loop-e-test.true) in
    let found = rw (record_is records c.index-records-i.result (c.args.start + e) lt c.index-records-i.is) at c.in_ok-numbers.ensures.found in
    let some : 0 < length zs = omega (arith, found.numbers) in
    let first : c.index.result.now ≡ at zs 0 = get_or_read zs 0 _ some c.index.ensures (pos 0) in
    let f : SFits w128 c.index.result.now = search rules in
    let good : is_ok c.push.result ≡ true = search rules in
    let items : c.push.new.self.items ≡ c.loop-e.dens.items ++ c.index.result.now ∷ [] =
    (rw good at c.push.ensures.items) ∙ ap (λ z. c.loop-e.dens.items ++ z ∷ []) (to_z-of_z w128 c.index.result.now f) in
    record {
      heads = ap length items ∙ length_push c.loop-e.dens.items c.index.result.now ∙ ap (λ n. n + 1) c.loop-e.invariant.heads;
      rows = plan_more (map fields_of records) (design_of c.args.parts.now) c.args.start e c.loop-e.dens.items c.push.new.self.items c.index.result.now c.loop-e.plans _ zs items first
          c.loop-e.invariant.heads found (rw (← take_rest zs 1, ← c.deref.ensures.value) c.in_ok-push_row.ensures.ok) c.loop-e.invariant.rows;
    }
