use Rattle.std.proofs.Common.{◌≡◌, ◌<◌, ◌≤◌, ◌^◌, ◌∙◌, ap, subst, ℕ, pos, length, inl, inr, arith, rules, unsigned_abs, FitsSigned}
use Rattle.std.specs.Int.{w128}
use Rattle.std.proofs.lemmas.Bool.{cases_lt}
use Rattle.std.proofs.lemmas.Int.{to_z-of_z}
use Rattle.std.proofs.lemmas.List.Edits.{fill_by_more}
use Rattle.std.proofs.lemmas.List.FromFn.{fill_by_all}
use Rattle.integer_algebra.specs.Division.{round_of, IsNearest}
use Rattle.integer_algebra.specs.Sums.{at}
use Rattle.qp_model.specs.problem.Parts.{design_of}
use Rattle.qp_model.specs.declared.design_parts.DesignParts.{DesignParts}
use Rattle.closed_loop.specs.Looping.{next_sum_by, next_over_by, successor_by}
use Rattle.closed_loop.proofs.successor.next_state.Goals as goal

pub loop-i-preserved : goal.loop-i-preserved
loop-i-preserved g c =
    let d = design_of c.parts-parts.result.now in
    let n = g.M.ControlMachine.looping c.args.machine.now in
    let xi = c.args.state.now in
    let fits : FitsSigned w128 c.next_coordinate.result = search rules in
    let lt : c.loop-i.i < length c.loop-i.next = omega arith in
    record {
      value = rw (to_z-of_z w128 _ fits, c.next_coordinate.ensures.value) (fill_by_more (λ j. round_of (next_sum_by d n xi j) (next_over_by d n)) c.loop-i.next c.loop-i.i (pos 0) lt c.loop-i.invariant.value);
      nearest = λ j h. elim (cases_lt j c.loop-i.i) [
        | inl lt ↦ c.loop-i.invariant.nearest j lt
        | inr le ↦ (let e : c.loop-i.i ≡ j = omega arith in
            subst (λ (k : ℕ). IsNearest (next_sum_by d n xi k) (next_over_by d n) (round_of (next_sum_by d n xi k) (next_over_by d n))) e (rw c.next_coordinate.ensures.value at c.next_coordinate.ensures.nearest))
      ];
      small = λ j h. elim (cases_lt j c.loop-i.i) [
        | inl lt ↦ c.loop-i.invariant.small j lt
        | inr le ↦ (let e : c.loop-i.i ≡ j = omega arith in
            subst (λ (k : ℕ). unsigned_abs (round_of (next_sum_by d n xi k) (next_over_by d n)) ≤ 2 ^ 126) e (rw c.next_coordinate.ensures.value at c.next_coordinate.ensures.small))
      ];
    }

pub returns-clause-value : goal.returns-clause-value
returns-clause-value g c =
    let n = g.M.ControlMachine.looping c.args.machine.now in
    let xi = c.args.state.now in
    let d = design_of c.parts-parts.result.now in
    let all : c.loop-i.next ≡ successor_by d n xi =
    fill_by_all (λ j. round_of (next_sum_by d n xi j) (next_over_by d n)) c.loop-i.next d.states (pos 0)
    (omega (arith, c.requires.matched.states, ap (λ (p : DesignParts). p.states) c.parts-parts.ensures.value))
    (λ k h. c.loop-i.invariant.value k (omega (arith, c.requires.matched.states, ap (λ (p : DesignParts). p.states) c.parts-parts.ensures.value, h))) in
    all ∙ ap (λ (p : DesignParts). successor_by (design_of p) n xi) c.parts-parts.ensures.value

pub returns-clause-nearest : goal.returns-clause-nearest
returns-clause-nearest g c = λ i h.
    let n = g.M.ControlMachine.looping c.args.machine.now in
    let xi = c.args.state.now in
    let met : i < c.loop-i.i = omega arith in
    subst (λ (p : DesignParts). IsNearest (next_sum_by (design_of p) n xi i) (next_over_by (design_of p) n) (at c.loop-i.next i)) c.parts-parts.ensures.value
    (rw (c.loop-i.invariant.value i met) (c.loop-i.invariant.nearest i met))

pub returns-clause-small : goal.returns-clause-small
returns-clause-small g c = λ i h.
    let met : i < c.loop-i.i = omega arith in
    rw (c.loop-i.invariant.value i met) (c.loop-i.invariant.small i met)
