use Rattle.std.proofs.Common.{◌≡◌, ◌+◌, ◌++◌, ◌∙◌, ap, sym, subst, refl, le_refl, le_trans, ℕ, ℤ, List, Vec, Global, Err, length, option_map, arith}
use Rattle.std.specs.Vec.{with_items}
use Rattle.std.proofs.lemmas.List.{with_items_is}
use Rattle.std.proofs.lemmas.List.FromFn.{length-map-range_with_len}
use Rattle.qp_model.specs.machine.Machine.{IsAdmissible}
use Rattle.qp_model.specs.problem.Parts.{design_of}
use Rattle.mat_int.specs.Matrix.{Matrix, entry_of}
use Rattle.closed_loop.specs.Looping.{Looping, successor_by, line_by, lines_of}
use Rattle.closed_loop.specs.Answers.{LieInside}
use Rattle.closed_loop.specs.Under.{states_by}
use Rattle.closed_loop.specs.Shows.{TurnShows, LoopShows}
use Rattle.closed_loop.specs.declared.fault.LoopFault.TheVariants.{Memory, OutsideBox}
use Rattle.closed_loop.proofs.Showing.{state_zero, shifted_more, shifted_long, inside_none, inside_more, put_none, put_more, out_before, given, unmet, other, known, turn_shows}
use Rattle.closed_loop.proofs.turns.run_turns.Goals as goal

pub returns-in_err-state : goal.returns-in_err-state
returns-in_err-state g c =
    let states = states_by (design_of c.args.design.now) (g.M.ControlMachine.looping c.args.machine.now) c.args.start.now c.args.shifts.now.rows in
    let r = c.from_residual.result in
    let is = c.from_residual.ensures.1 in
    record {
      inside = unmet r _ _ is;
      put = unmet r _ _ is;
      refused = out_before (g.M.ControlMachine.looping c.args.machine.now) c.args.entry states c.args.turns (g.O.Sink.got c.args.out.now) (g.O.Sink.faults c.args.out.now) r is;
      quiet = λ coordinate e. absurd (other r Memory 1 coordinate is (λ same. cc) e);
      no_fewer = le_refl (g.O.Sink.faults c.args.out.now);
      same = refl;
      rows = refl;
    }

pub returns-in_err-next : goal.returns-in_err-next
returns-in_err-next g c =
    let states = states_by (design_of c.args.design.now) (g.M.ControlMachine.looping c.args.machine.now) c.args.start.now c.args.shifts.now.rows in
    let r = c.from_residual-in_err-next.result in
    let is = c.from_residual-in_err-next.ensures.1 in
    record {
      inside = unmet r _ _ is;
      put = unmet r _ _ is;
      refused = out_before (g.M.ControlMachine.looping c.args.machine.now) c.args.entry states c.args.turns (g.O.Sink.got c.args.out.now) (g.O.Sink.faults c.args.out.now) r is;
      quiet = λ coordinate e. absurd (other r Memory 1 coordinate is (λ same. cc) e);
      no_fewer = le_refl (g.O.Sink.faults c.args.out.now);
      same = refl;
      rows = refl;
    }

pub loop-gone-init : goal.loop-gone-init
loop-gone-init g c =
    let d = design_of c.args.design.now in
    let n = g.M.ControlMachine.looping c.args.machine.now in
    let start = c.args.start.now in
    let states = states_by d n start c.args.shifts.now.rows in
    record {
      state = c.in_ok-state.ensures.items ∙ sym (state_zero d n start (entry_of c.args.shifts.now.rows));
      next = ap (λ (xs : List ℤ). length xs) c.in_ok-next.ensures.items ∙ c.requires.start;
      long = ap (λ (xs : List ℤ). length xs) c.in_ok-state.ensures.items ∙ c.requires.start;
      inside = inside_none n.controller states;
      put = put_none n c.args.entry states (g.O.Sink.got c.args.out.now);
      first = λ e. refl;
      no_fewer = le_refl (g.O.Sink.faults c.args.out.now);
      shifts = refl;
      place = λ l. c.requires.next;
      same = refl;
    }

pub returns-in_err-make_turn : goal.returns-in_err-make_turn
returns-in_err-make_turn g c =
    let d = design_of c.args.design.now in
    let n = g.M.ControlMachine.looping c.args.machine.now in
    let start = c.args.start.now in
    let states = states_by d n start c.args.shifts.now.rows in
    let gone = c.loop-gone.gone in
    let got = g.O.Sink.got in
    let faults = g.O.Sink.faults in
    let fault = c.in_err-make_turn.field-0.0 in
    let same : c.deref.result.now ≡ states gone = c.deref.ensures.value ∙ c.loop-gone.invariant.state in
    let shows : TurnShows n c.args.entry (gone + 1) (states gone) (got c.loop-gone.out) (got c.make_turn.new.out) (faults c.loop-gone.out) (faults c.make_turn.new.out) fault =
    subst (λ (m : Looping). TurnShows m c.args.entry (gone + 1) (states gone) (got c.loop-gone.out) (got c.make_turn.new.out) (faults c.loop-gone.out) (faults c.make_turn.new.out) fault) c.loop-gone.invariant.same
    (subst (λ (s : List ℤ). TurnShows (g.M.ControlMachine.looping c.loop-gone.machine) c.args.entry (gone + 1) s (got c.loop-gone.out) (got c.make_turn.new.out) (faults c.loop-gone.out) (faults c.make_turn.new.out) fault) same c.in_err-make_turn.ensures.refused) in
    let r = c.from_residual-in_err-make_turn.result in
    let is = c.from_residual-in_err-make_turn.ensures.1 in
    record {
      inside = unmet r _ _ is;
      put = unmet r _ _ is;
      refused = given r (LoopShows n.controller states (lines_of n c.args.entry states) c.args.turns (got c.args.out.now) (got c.make_turn.new.out) (faults c.args.out.now) (faults c.make_turn.new.out)) fault is
          (turn_shows n c.args.entry states c.args.turns gone (got c.args.out.now) (got c.loop-gone.out) (got c.make_turn.new.out) (faults c.args.out.now) (faults c.loop-gone.out) (faults c.make_turn.new.out) fault
          (omega arith) c.loop-gone.invariant.inside c.loop-gone.invariant.put c.loop-gone.invariant.no_fewer c.make_turn.ensures.no_fewer shows);
      quiet = λ coordinate e. (
          let put = c.in_err-make_turn.ensures.quiet 1 coordinate (ap Err (known r fault (OutsideBox 1 coordinate) is e)) in
          put.1 ∙ c.loop-gone.invariant.first (omega (arith, put.0))
          );
      no_fewer = le_trans c.loop-gone.invariant.no_fewer c.make_turn.ensures.no_fewer;
      same = c.make_turn.ensures.same ∙ c.loop-gone.invariant.same;
      rows = c.loop-gone.invariant.shifts;
    }

pub loop-gone-preserved : goal.loop-gone-preserved
loop-gone-preserved g c =
    let d = design_of c.args.design.now in
    let n = g.M.ControlMachine.looping c.args.machine.now in
    let start = c.args.start.now in
    let states = states_by d n start c.args.shifts.now.rows in
    let gone = c.loop-gone.gone in
    let same : c.deref.result.now ≡ states gone = c.deref.ensures.value ∙ c.loop-gone.invariant.state in
    let kept : (g.M.ControlMachine.looping c.make_turn.new.machine) ≡ n = c.make_turn.ensures.same ∙ c.loop-gone.invariant.same in
    let inside : IsAdmissible n.controller (states gone) = subst (IsAdmissible n.controller) same (subst (λ (m : Looping). IsAdmissible m.controller c.deref.result.now) c.loop-gone.invariant.same c.in_ok-make_turn.ensures.inside) in
    let put = subst (λ (m : Looping). g.O.Sink.got c.make_turn.new.out ≡ option_map (λ o. o ++ line_by m c.args.entry (gone + 1) (states gone)) (g.O.Sink.got c.loop-gone.out)) c.loop-gone.invariant.same
    (subst (λ (s : List ℤ). g.O.Sink.got c.make_turn.new.out ≡ option_map (λ o. o ++ line_by (g.M.ControlMachine.looping c.loop-gone.machine) c.args.entry (gone + 1) s) (g.O.Sink.got c.loop-gone.out)) same c.in_ok-make_turn.ensures.put) in
    let again : c.deref-in-loop-gone.result.now ≡ states gone = c.deref-in-loop-gone.ensures.value ∙ c.loop-gone.invariant.state in
    let came : c.next_state.new.next ≡ successor_by d n (states gone) =
    c.next_state.ensures.value ∙ ap (λ (m : Looping). successor_by d m c.deref-in-loop-gone.result.now) kept ∙ ap (successor_by d n) again in
    let count : length c.next_state.new.next ≡ d.states = ap (λ (xs : List ℤ). length xs) came ∙ length-map-range_with_len _ 0 d.states in
    let room = c.requires.matched.states ∙ sym c.loop-gone.invariant.next ∙ sym c.loop-gone.next.ok.0 in
    let mid : c.deref_mut-in-loop-gone.result.now ≡ c.next_state.new.next = c.deref_mut-in-loop-gone.ensures.value ∙ with_items_is c.loop-gone.next c.next_state.new.next (count ∙ room) in
    let next : c.shift_state.new.state ≡ states (gone + 1) =
    shifted_more d n start c.args.shifts.now.rows gone c.deref_mut-in-loop-gone.result.now c.shift_state.new.state (mid ∙ came) (rw c.loop-gone.invariant.shifts at c.shift_state.ensures.shifted) in
    let long : length c.shift_state.new.state ≡ d.states = ap (λ (xs : List ℤ). length xs) next ∙ shifted_long d n start c.args.shifts.now.rows gone in
    let items : c.swap.new.x.items ≡ c.shift_state.new.state = ap (λ (v : Vec ℤ Global). v.items) c.swap.ensures.x_after ∙ with_items_is (with_items c.loop-gone.next c.next_state.new.next) c.shift_state.new.state (long ∙ room) in
    record {
      state = items ∙ next;
      next = ap (λ (v : Vec ℤ Global). length v.items) c.swap.ensures.y_after ∙ c.loop-gone.invariant.long;
      long = ap (λ (xs : List ℤ). length xs) items ∙ long ∙ c.requires.matched.states;
      inside = inside_more n.controller states gone c.loop-gone.invariant.inside inside;
      put = put_more n c.args.entry states gone (g.O.Sink.got c.args.out.now) (g.O.Sink.got c.loop-gone.out) (g.O.Sink.got c.make_turn.new.out) c.loop-gone.invariant.put put;
      first = λ e. absurd (omega (arith, e));
      no_fewer = omega (arith, c.loop-gone.invariant.no_fewer, c.make_turn.ensures.no_fewer);
      shifts = c.shift_state.ensures.rows ∙ c.loop-gone.invariant.shifts;
      place = λ l. c.shift_state.ensures.next (omega (arith, l, ap (λ (m : Matrix). length m.rows) c.loop-gone.invariant.shifts));
      same = kept;
    }

pub returns : goal.returns
returns g c =
    let d = design_of c.args.design.now in
    let n = g.M.ControlMachine.looping c.args.machine.now in
    let start = c.args.start.now in
    let states = states_by d n start c.args.shifts.now.rows in
    let all : c.loop-gone.gone ≡ c.args.turns = omega arith in
    record {
      inside = subst (λ (k : ℕ). LieInside n.controller states k) all c.loop-gone.invariant.inside;
      put = subst (λ (k : ℕ). g.O.Sink.got c.loop-gone.out ≡ option_map (λ old. old ++ lines_of n c.args.entry states k) (g.O.Sink.got c.args.out.now)) all c.loop-gone.invariant.put;
      refused = tt;
      quiet = λ coordinate e. absurd (let never : ⊥ = cc in never);
      no_fewer = c.loop-gone.invariant.no_fewer;
      same = c.loop-gone.invariant.same;
      rows = c.loop-gone.invariant.shifts;
    }
