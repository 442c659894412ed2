use Rattle.std.proofs.Common.{◌≡◌, ◌^◌, ◌<◌, ◌≤◌, Err, subst, sym, rules}
use Rattle.std.specs.Int.{w128}
use mir.Val.{SFits}
use Rattle.std.proofs.lemmas.Int.{to_z-of_z}
use Rattle.std.proofs.lemmas.Nat.{pow_pos}
use Rattle.std.proofs.lemmas.Result.{err_from_is_err_and}
use Rattle.qp_model.specs.declared.design_parts.DesignParts.{DesignParts}
use Rattle.qp_model.specs.bounds.CornerClass.{IsMarginIn}
use Rattle.qp_model.specs.problem.Parts.{design_of}
use Rattle.qp_model.specs.problem.Policy.{plans_of, IsPolicyFor}
use Rattle.corner_margin.specs.Corners.{IsFirstWideCornerIn, IsFirstShortIn}
use Rattle.corner_margin.specs.declared.fault.MarginFault.TheVariants.{TooWide, NoMargin}
use Rattle.corner_margin.proofs.FaultFacts.{same_error}
use Rattle.corner_margin.proofs.MarginFacts.{IsMarginUpTo, first_margin, next_margin, short_first, short_next, whole_margin, none_short}
use Rattle.corner_margin.proofs.ReachFacts.{below_both, at_end, some_rows}
use Rattle.corner_margin.proofs.FaultFacts.{made_apart, none_made, none_on}
use Rattle.corner_margin.proofs.margin.margins_in.Goals as goal

pub returns-in_err-margin-clause-short : goal.returns-in_err-margin-clause-short
returns-in_err-margin-clause-short c = λ corner row slack e.
    let p = c.parts-parts.result.now in
    let s = plans_of c.args.policy.now in
    let y = err_from_is_err_and c.from_residual-in_err-margin.result c.from_residual-in_err-margin.ensures.1 in
    let back : c.corner_margin.result ≡ Err (NoMargin corner row slack) = same_error y.1 e c.in_err-margin.was y.2 in
    let short = c.corner_margin.ensures.short corner row slack back in
    rw (← c.parts-parts.ensures.value) (c.in_ok-reach.ensures.room, short_first c.args.fine p s corner row slack short.0 short.1)

pub loop-c-init : goal.loop-c-init
loop-c-init c = rw (← c.parts-parts.ensures.value) (first_margin c.args.fine c.parts-parts.result.now (plans_of c.args.policy.now) c.in_ok-margin.margin c.in_ok-margin.ensures.margin)

pub corner_margin-requires-in-loop-c-clause-setting : goal.corner_margin-requires-in-loop-c-clause-setting
corner_margin-requires-in-loop-c-clause-setting c = record {
  design = c.parts-parts.ensures.sound;
  policy = rw c.parts-parts.ensures.value c.requires;
  room = c.in_ok-reach.ensures.room;
  reach_is = c.in_ok-reach.ensures.reach;
}

pub returns-in_err-next-clause-wide : goal.returns-in_err-next-clause-wide
returns-in_err-next-clause-wide c = λ q.
    let y = err_from_is_err_and c.from_residual-in_err-next.result c.from_residual-in_err-next.ensures.1 in (
      (λ e. (let back : c.corner_margin-in-loop-c.result ≡ Err (TooWide q) = same_error y.1 e c.in_err-next.was y.2 in absurd (c.corner_margin-in-loop-c.ensures.room q back))),
      (λ w. (let first : IsFirstWideCornerIn c.args.fine (design_of c.parts-parts.result.now) (plans_of c.args.policy.now) q = rw c.parts-parts.ensures.value w in
          let no = (c.in_ok-reach.ensures.wide q).1 first in absurd (made_apart no))),
    )

pub returns-in_err-next-clause-short : goal.returns-in_err-next-clause-short
returns-in_err-next-clause-short c = λ corner row slack e.
    let p = c.parts-parts.result.now in
    let s = plans_of c.args.policy.now in
    let f : IsPolicyFor (design_of p) s = rw c.parts-parts.ensures.value c.requires in
    let y = err_from_is_err_and c.from_residual-in_err-next.result c.from_residual-in_err-next.ensures.1 in
    let back : c.corner_margin-in-loop-c.result ≡ Err (NoMargin corner row slack) = same_error y.1 e c.in_err-next.was y.2 in
    let short = c.corner_margin-in-loop-c.ensures.short corner row slack back in
    let below : c.loop-c.c < 2 ^ c.parts-parts.result.now.states = below_both c.loop-c.c _ _ _ c.loop-c-test.true c.rows-c-end.ensures.count f.rows in
    let known : IsMarginUpTo c.args.fine p s c.loop-c.c c.loop-c.margin = rw c.parts-parts.ensures.value c.loop-c.invariant in
    rw (← c.parts-parts.ensures.value) (
      c.in_ok-reach.ensures.room,
      short_next c.args.fine p s c.parts-parts.ensures.sound f c.loop-c.c c.loop-c.margin known corner row slack below short.0 short.1,
    )

pub loop-c-preserved : goal.loop-c-preserved
loop-c-preserved c =
    let p = c.parts-parts.result.now in
    let s = plans_of c.args.policy.now in
    let f : IsPolicyFor (design_of p) s = rw c.parts-parts.ensures.value c.requires in
    let below : c.loop-c.c < 2 ^ c.parts-parts.result.now.states = below_both c.loop-c.c _ _ _ c.loop-c-test.true c.rows-c-end.ensures.count f.rows in
    let known : IsMarginUpTo c.args.fine p s c.loop-c.c c.loop-c.margin = rw c.parts-parts.ensures.value c.loop-c.invariant in
    let fm : SFits w128 c.min.result = search rules in
    let fx : SFits w128 c.max.result = search rules in
    let fmu : SFits w128 c.loop-c.margin.units = search rules in
    let fmc : SFits w128 c.loop-c.margin.cost = search rules in
    let fnu : SFits w128 c.in_ok-next.next.units = search rules in
    let fnc : SFits w128 c.in_ok-next.next.cost = search rules in
    rw (← c.parts-parts.ensures.value, to_z-of_z w128 _ fm, to_z-of_z w128 _ fx, c.min.ensures.value, c.max.ensures.value, to_z-of_z w128 _ fmu, to_z-of_z w128 _ fmc, to_z-of_z w128 _ fnu, to_z-of_z w128 _ fnc)
    (next_margin c.args.fine p s c.parts-parts.ensures.sound f c.loop-c.c c.loop-c.margin known c.in_ok-next.next below c.in_ok-next.ensures.margin)

pub returns-clause-margin : goal.returns-clause-margin
returns-clause-margin c =
    let p = c.parts-parts.result.now in
    let s = plans_of c.args.policy.now in
    let f : IsPolicyFor (design_of p) s = rw c.parts-parts.ensures.value c.requires in
    let some : 1 ≤ 2 ^ c.parts-parts.result.now.states = pow_pos c.parts-parts.result.now.states in
    let all : c.loop-c.c ≡ 2 ^ c.parts-parts.result.now.states = at_end c.loop-c.c _ _ _ (c.loop-c.auto.c-end (some_rows c.rows-c-end.ensures.count f.rows some)) c.loop-c-test.false c.rows-c-end.ensures.count f.rows in
    let known : IsMarginUpTo c.args.fine p s c.loop-c.c c.loop-c.margin = rw c.parts-parts.ensures.value c.loop-c.invariant in
    subst (λ (q : DesignParts). IsMarginIn c.args.fine (design_of q) s c.loop-c.margin) c.parts-parts.ensures.value
    (whole_margin c.args.fine p s c.parts-parts.ensures.sound f c.loop-c.c c.loop-c.margin known all)

pub returns-clause-wide : goal.returns-clause-wide
returns-clause-wide c = λ q. (
  (λ e. absurd (made_apart e)),
  (λ w. (let first : IsFirstWideCornerIn c.args.fine (design_of c.parts-parts.result.now) (plans_of c.args.policy.now) q = rw c.parts-parts.ensures.value w in
      let no = (c.in_ok-reach.ensures.wide q).1 first in absurd (made_apart no))),
)

pub returns-clause-no_give_up : goal.returns-clause-no_give_up
returns-clause-no_give_up c = λ corner row slack w.
    let p = c.parts-parts.result.now in
    let s = plans_of c.args.policy.now in
    let f : IsPolicyFor (design_of p) s = rw c.parts-parts.ensures.value c.requires in
    let some : 1 ≤ 2 ^ c.parts-parts.result.now.states = pow_pos c.parts-parts.result.now.states in
    let all : c.loop-c.c ≡ 2 ^ c.parts-parts.result.now.states = at_end c.loop-c.c _ _ _ (c.loop-c.auto.c-end (some_rows c.rows-c-end.ensures.count f.rows some)) c.loop-c-test.false c.rows-c-end.ensures.count f.rows in
    let known : IsMarginUpTo c.args.fine p s c.loop-c.c c.loop-c.margin = rw c.parts-parts.ensures.value c.loop-c.invariant in
    let short : IsFirstShortIn c.args.fine (design_of p) s corner row slack = rw c.parts-parts.ensures.value w in
    absurd (none_short c.args.fine p s c.parts-parts.ensures.sound f c.loop-c.c c.loop-c.margin known all corner row slack short)

pub limited_reach-requires-clause-design : goal.limited_reach-requires-clause-design
limited_reach-requires-clause-design c = c.parts-parts.ensures.sound

pub limited_reach-requires-clause-plans : goal.limited_reach-requires-clause-plans
limited_reach-requires-clause-plans c = rw c.parts-parts.ensures.value c.requires

pub corner_margin-requires-clause-setting : goal.corner_margin-requires-clause-setting
corner_margin-requires-clause-setting c = record {
  design = c.parts-parts.ensures.sound;
  policy = rw c.parts-parts.ensures.value c.requires;
  room = c.in_ok-reach.ensures.room;
  reach_is = c.in_ok-reach.ensures.reach;
}

pub corner_margin-requires-clause-corner : goal.corner_margin-requires-clause-corner
corner_margin-requires-clause-corner c = pow_pos c.parts-parts.result.now.states

pub corner_margin-requires-in-loop-c-clause-corner : goal.corner_margin-requires-in-loop-c-clause-corner
corner_margin-requires-in-loop-c-clause-corner c =
    let f : IsPolicyFor (design_of c.parts-parts.result.now) (plans_of c.args.policy.now) = rw c.parts-parts.ensures.value c.requires in
    below_both c.loop-c.c _ _ _ c.loop-c-test.true c.rows-c-end.ensures.count f.rows

pub returns-in_err-reach-clause-wide : goal.returns-in_err-reach-clause-wide
returns-in_err-reach-clause-wide c = λ q.
    let y = err_from_is_err_and c.from_residual.result c.from_residual.ensures.1 in (
      (λ e. (let back : c.limited_reach.result ≡ Err (TooWide q) = same_error y.1 e c.in_err-reach.was y.2 in rw (← c.parts-parts.ensures.value) ((c.limited_reach.ensures.wide q).0 back))),
      (λ w. (let first : IsFirstWideCornerIn c.args.fine (design_of c.parts-parts.result.now) (plans_of c.args.policy.now) q = rw c.parts-parts.ensures.value w in
          same_error c.in_err-reach.was ((c.limited_reach.ensures.wide q).1 first) y.1 (sym y.2))),
    )

pub returns-in_err-reach-clause-short : goal.returns-in_err-reach-clause-short
returns-in_err-reach-clause-short c = λ corner row slack e.
    let y = err_from_is_err_and c.from_residual.result c.from_residual.ensures.1 in
    let back : c.limited_reach.result ≡ Err (NoMargin corner row slack) = same_error y.1 e c.in_err-reach.was y.2 in
    absurd (c.limited_reach.ensures.margin corner row slack back)

pub returns-in_err-reach-clause-no_give_up : goal.returns-in_err-reach-clause-no_give_up
returns-in_err-reach-clause-no_give_up c = λ corner row slack w. c.from_residual.ensures.0

pub returns-in_err-margin-clause-no_give_up : goal.returns-in_err-margin-clause-no_give_up
returns-in_err-margin-clause-no_give_up c = λ corner row slack w. c.from_residual-in_err-margin.ensures.0

pub returns-in_err-next-clause-no_give_up : goal.returns-in_err-next-clause-no_give_up
returns-in_err-next-clause-no_give_up c = λ corner row slack w. c.from_residual-in_err-next.ensures.0

pub returns-in_err-margin-clause-wide : goal.returns-in_err-margin-clause-wide
returns-in_err-margin-clause-wide c = λ q.
    let y = err_from_is_err_and c.from_residual-in_err-margin.result c.from_residual-in_err-margin.ensures.1 in (
      (λ e. (let back : c.corner_margin.result ≡ Err (TooWide q) = same_error y.1 e c.in_err-margin.was y.2 in absurd (c.corner_margin.ensures.room q back))),
      (λ w. (let first : IsFirstWideCornerIn c.args.fine (design_of c.parts-parts.result.now) (plans_of c.args.policy.now) q = rw c.parts-parts.ensures.value w in
          let no = (c.in_ok-reach.ensures.wide q).1 first in absurd (made_apart no))),
    )

pub returns-clause-room : goal.returns-clause-room
returns-clause-room c = rw (← c.parts-parts.ensures.value) c.in_ok-reach.ensures.room

pub returns-clause-slack : goal.returns-clause-slack
returns-clause-slack c = c.loop-c.invariant.units

pub returns-clause-cost : goal.returns-clause-cost
returns-clause-cost c = c.loop-c.invariant.cost

pub returns-clause-short : goal.returns-clause-short
returns-clause-short c = λ corner row slack e. absurd (made_apart e)

pub returns-in_err-reach-clause-room : goal.returns-in_err-reach-clause-room
returns-in_err-reach-clause-room c = none_on _ (err_from_is_err_and c.from_residual.result c.from_residual.ensures.1).1

pub returns-in_err-reach-clause-margin : goal.returns-in_err-reach-clause-margin
returns-in_err-reach-clause-margin c = none_made _ (err_from_is_err_and c.from_residual.result c.from_residual.ensures.1).1

pub returns-in_err-reach-clause-slack : goal.returns-in_err-reach-clause-slack
returns-in_err-reach-clause-slack c = none_made _ (err_from_is_err_and c.from_residual.result c.from_residual.ensures.1).1

pub returns-in_err-reach-clause-cost : goal.returns-in_err-reach-clause-cost
returns-in_err-reach-clause-cost c = none_made _ (err_from_is_err_and c.from_residual.result c.from_residual.ensures.1).1

pub returns-in_err-margin-clause-room : goal.returns-in_err-margin-clause-room
returns-in_err-margin-clause-room c = none_on _ (err_from_is_err_and c.from_residual-in_err-margin.result c.from_residual-in_err-margin.ensures.1).1

pub returns-in_err-margin-clause-margin : goal.returns-in_err-margin-clause-margin
returns-in_err-margin-clause-margin c = none_made _ (err_from_is_err_and c.from_residual-in_err-margin.result c.from_residual-in_err-margin.ensures.1).1

pub returns-in_err-margin-clause-slack : goal.returns-in_err-margin-clause-slack
returns-in_err-margin-clause-slack c = none_made _ (err_from_is_err_and c.from_residual-in_err-margin.result c.from_residual-in_err-margin.ensures.1).1

pub returns-in_err-margin-clause-cost : goal.returns-in_err-margin-clause-cost
returns-in_err-margin-clause-cost c = none_made _ (err_from_is_err_and c.from_residual-in_err-margin.result c.from_residual-in_err-margin.ensures.1).1

pub returns-in_err-next-clause-room : goal.returns-in_err-next-clause-room
returns-in_err-next-clause-room c = none_on _ (err_from_is_err_and c.from_residual-in_err-next.result c.from_residual-in_err-next.ensures.1).1

pub returns-in_err-next-clause-margin : goal.returns-in_err-next-clause-margin
returns-in_err-next-clause-margin c = none_made _ (err_from_is_err_and c.from_residual-in_err-next.result c.from_residual-in_err-next.ensures.1).1

pub returns-in_err-next-clause-slack : goal.returns-in_err-next-clause-slack
returns-in_err-next-clause-slack c = none_made _ (err_from_is_err_and c.from_residual-in_err-next.result c.from_residual-in_err-next.ensures.1).1

pub returns-in_err-next-clause-cost : goal.returns-in_err-next-clause-cost
returns-in_err-next-clause-cost c = none_made _ (err_from_is_err_and c.from_residual-in_err-next.result c.from_residual-in_err-next.ensures.1).1
