use Rattle.std.proofs.lemmas.Result.{err_from_is_err_and}
use Rattle.qp_model.proofs.RuleLaws.{all_hold}
use Rattle.design_files.specs.Keys.{seen}
use Rattle.design_files.specs.Numbers.{count_of}
use Rattle.design_files.proofs.ReadLaws.{fails_before, fails_after}
use Rattle.design_files.proofs.PlaceLaws.{halves, states_are, inputs_are, first_places, after_cost}
use Rattle.design_files.proofs.places.read_parts.Goals as goal

pub returns-in_err-first : goal.returns-in_err-first
returns-in_err-first c =
    let v = seen c.args.keys.now in
    let n = count_of v.states in
    let p = count_of v.inputs in
    let e = err_from_is_err_and c.from_residual.result c.from_residual.ensures.1 in
    rw (e.1, e.2, halves v) (fails_before (first_places n p v) (after_cost n p v) _ c.in_err-first.ensures)

pub returns-in_err-last : goal.returns-in_err-last
returns-in_err-last c =
    let v = seen c.args.keys.now in
    let s = c.in_ok-first.first.sizes in
    let n = s.states in
    let p = s.inputs in
    let found = c.in_ok-first.ensures in
    let states = states_are v s found.1.sizes in
    let inputs = inputs_are v s found.1.sizes in
    let e = err_from_is_err_and c.from_residual-in_err-last.result c.from_residual-in_err-last.ensures.1 in
    rw (e.1, e.2, halves v, states, inputs) (fails_after (first_places n p v) (after_cost n p v) _ (rw (states, inputs) at found.0) c.in_err-last.ensures)

pub returns : goal.returns
returns c =
    let v = seen c.args.keys.now in
    let s = c.in_ok-first.first.sizes in
    let n = s.states in
    let p = s.inputs in
    let found = c.in_ok-first.ensures in
    let more = c.in_ok-last.ensures in
    let states = states_are v s found.1.sizes in
    let inputs = inputs_are v s found.1.sizes in
    (rw (halves v, states, inputs) (all_hold (first_places n p v) (after_cost n p v) (rw (states, inputs) at found.0) more.0), c.joined.ensures v found.1 more.1)
