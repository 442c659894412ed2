use Rattle.std.proofs.Common.{◌≡◌, ◌++◌, ◌∷◌, [], true, rules, arith}
use Rattle.std.specs.Result.{is_ok}
use Rattle.controller_file.specs.AnyText.{IsSafe}
use Rattle.text_lines.specs.Lines.{views}
use Rattle.cell_file.specs.Reading.{AreNoneOf}
use Rattle.cell_file.proofs.Reading.{there, cell_begins, never_none, order, slice_whole, one_more, none_of_each, all_pushed, handed_on}
use Rattle.cell_file.proofs.reader.controllers_of.Goals as goal

pub end_from-requires-clause-beginning : goal.end_from-requires-clause-beginning
end_from-requires-clause-beginning c =
    let w = c.requires in
    let lines = c.args.lines.now in
    let lt = there w.cells lines w.are w.lines c.loop.counter _ c.loop.invariant.end c.loop-test.true in
    cell_begins w.cells lines w.are w.lines c.loop.cells.items c.loop.counter c.loop.start (c.loop.invariant.read w.cells w.are w.lines) lt

pub unreachable-requires : goal.unreachable-requires
unreachable-requires c =
    let w = c.requires in
    let lines = c.args.lines.now in
    let lt = there w.cells lines w.are w.lines c.loop.counter _ c.loop.invariant.end c.loop-test.true in
    never_none w.cells lines w.are w.lines c.loop.cells.items c.loop.counter c.loop.start (c.loop.invariant.read w.cells w.are w.lines) lt c.end_from.result c.end_from.ensures c.in_default.is

pub slice_bounds-controller_of-count : goal.slice_bounds-controller_of-count
slice_bounds-controller_of-count c =
    let w = c.requires in
    let lines = c.args.lines.now in
    let lt = there w.cells lines w.are w.lines c.loop.counter _ c.loop.invariant.end c.loop-test.true in
    (order w.cells lines w.are w.lines c.loop.cells.items c.loop.counter c.loop.start (c.loop.invariant.read w.cells w.are w.lines) lt c.end_from.result c.end_from.ensures c.in-Some.end c.in-Some.is).0

pub slice_bounds-controller_of-start : goal.slice_bounds-controller_of-start
slice_bounds-controller_of-start c =
    let w = c.requires in
    let lines = c.args.lines.now in
    let lt = there w.cells lines w.are w.lines c.loop.counter _ c.loop.invariant.end c.loop-test.true in
    let both = order w.cells lines w.are w.lines c.loop.cells.items c.loop.counter c.loop.start (c.loop.invariant.read w.cells w.are w.lines) lt c.end_from.result c.end_from.ensures c.in-Some.end c.in-Some.is in
    omega (arith, both.0, both.1)

pub slice_bounds-controller_of-end : goal.slice_bounds-controller_of-end
slice_bounds-controller_of-end c =
    let w = c.requires in
    let lines = c.args.lines.now in
    let lt = there w.cells lines w.are w.lines c.loop.counter _ c.loop.invariant.end c.loop-test.true in
    let both = order w.cells lines w.are w.lines c.loop.cells.items c.loop.counter c.loop.start (c.loop.invariant.read w.cells w.are w.lines) lt c.end_from.result c.end_from.ensures c.in-Some.end c.in-Some.is in
    omega (arith, both.0, both.1)

pub controller_of-requires : goal.controller_of-requires
controller_of-requires c =
    let w = c.requires in
    let lines = c.args.lines.now in
    let lt = there w.cells lines w.are w.lines c.loop.counter _ c.loop.invariant.end c.loop-test.true in
    slice_whole w.cells lines w.are w.lines c.loop.cells.items c.loop.counter c.loop.start (c.loop.invariant.read w.cells w.are w.lines) lt c.end_from.result c.end_from.ensures c.in-Some.end c.in-Some.is

pub returns-in_err-controller-clause-fault : goal.returns-in_err-controller-clause-fault
returns-in_err-controller-clause-fault c =
    handed_on c.from_residual.result (AreNoneOf (views c.args.lines.now)) _ c.from_residual.ensures.1
    (none_of_each c.args.lines.now c.loop.cells.items c.loop.counter c.loop.start _ c.end_from.result c.in-Some.end _ c.loop.invariant.read c.loop.invariant.end c.loop-test.true c.end_from.ensures c.in-Some.is c.in_err-controller.ensures.fault)

pub loop-preserved : goal.loop-preserved
loop-preserved c =
    let lines = c.args.lines.now in
    let good : is_ok c.push.result ≡ true = search rules in
    let items : c.push.new.self.items ≡ c.loop.cells.items ++ c.in_ok-controller.controller ∷ [] = rw good at c.push.ensures.items in
    record {
      end = c.loop.invariant.end;
      safe = all_pushed IsSafe c.loop.cells.items c.push.new.self.items c.in_ok-controller.controller items c.loop.invariant.safe c.in_ok-controller.ensures.found.safe;
      read = λ cells are e.
          let lt = there cells lines are e c.loop.counter _ c.loop.invariant.end c.loop-test.true in
          one_more cells lines are e c.loop.cells.items c.loop.counter c.loop.start (c.loop.invariant.read cells are e) lt c.end_from.result c.end_from.ensures c.in-Some.end c.in_ok-controller.controller c.push.new.self.items
          c.in-Some.is c.in_ok-controller.ensures.found items;
    }
