use Rattle.std.proofs.Common.{◌≡◌, ◌++◌, ◌∙◌, ap, refl, le_refl, subst, List, ℕ, option_map, IfSome, IsSomeAnd}
use Rattle.io_edge.specs.Faults.{GrowsByPart}
use Rattle.closed_loop.specs.Looping.{Looping, line_by}
use Rattle.closed_loop.specs.Shows.{TurnShows}
use Rattle.closed_loop.specs.declared.fault.LoopFault.TheVariants.{Memory}
use Rattle.closed_loop.proofs.Showing.{given, unmet, other}
use Rattle.closed_loop.proofs.turns.make_turn.Goals as goal

pub returns-in-Some : goal.returns-in-Some
returns-in-Some g c = record {
  inside = tt;
  done = tt;
  made = tt;
  put = tt;
  refused = (refl, c.in-Some.ensures.inside, refl);
  quiet = λ number coordinate e. (let same : number ≡ c.args.turn = cc in same, refl);
  no_fewer = le_refl (g.O.Sink.faults c.args.out.now);
  same = c.run.ensures.same;
}

pub returns-in_err-line : goal.returns-in_err-line
returns-in_err-line g c =
    let r = c.from_residual.result in
    let is = c.from_residual.ensures.1 in
    let got = g.O.Sink.got c.args.out.now in
    let faults = g.O.Sink.faults c.args.out.now in
    record {
      inside = unmet r _ _ is;
      done = unmet r _ _ is;
      made = unmet r _ _ is;
      put = unmet r _ _ is;
      refused = given r (TurnShows (g.M.ControlMachine.looping c.args.machine.now) c.args.entry c.args.turn c.args.state.now got got faults faults) Memory is (c.in_default.ensures.inside.0, refl);
      quiet = λ number coordinate e. absurd (other r Memory number coordinate is (λ same. cc) e);
      no_fewer = le_refl faults;
      same = c.run.ensures.same;
    }

pub returns-in-Ok : goal.returns-in-Ok
returns-in-Ok g c =
    let state = c.args.state.now in
    let line : c.deref.result.now ≡ line_by (g.M.ControlMachine.looping c.args.machine.now) c.args.entry c.args.turn state =
    c.deref.ensures.value ∙ c.in_ok-line.ensures ∙ ap (λ (m : Looping). line_by m c.args.entry c.args.turn state) c.run.ensures.same in
    record {
      inside = c.in_default.ensures.inside.0;
      done = c.in_default.ensures.inside.1;
      made = c.in_default.ensures.inside.2;
      put = c.in-Ok.ensures.ok ∙ ap (λ (t : List ℕ). option_map (λ old. old ++ t) (g.O.Sink.got c.args.out.now)) line;
      refused = tt;
      quiet = λ number coordinate e. absurd (let never : ⊥ = cc in never);
      no_fewer = c.put.ensures.no_fewer;
      same = c.run.ensures.same;
    }

pub returns : goal.returns
returns g c =
    let state = c.args.state.now in
    let line : c.deref.result.now ≡ line_by (g.M.ControlMachine.looping c.args.machine.now) c.args.entry c.args.turn state =
    c.deref.ensures.value ∙ c.in_ok-line.ensures ∙ ap (λ (m : Looping). line_by m c.args.entry c.args.turn state) c.run.ensures.same in
    let cut = subst (λ (t : List ℕ). IfSome (g.O.Sink.got c.args.out.now) (λ old. IsSomeAnd (g.O.Sink.got c.put.new.self) (λ new. GrowsByPart old new t))) line c.in-Err.ensures.err in
    record {
      inside = tt;
      done = tt;
      made = tt;
      put = tt;
      refused = (c.in_default.ensures.inside.0, cut, c.in-Err.ensures.failed);
      quiet = λ number coordinate e. absurd (let never : ⊥ = cc in never);
      no_fewer = c.put.ensures.no_fewer;
      same = c.run.ensures.same;
    }
