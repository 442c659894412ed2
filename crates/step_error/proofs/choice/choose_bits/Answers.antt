use Rattle.std.proofs.Common.{rules, ◌≡◌, ◌≤◌, true, false, unsigned_abs, arith, refl, ◌∙◌}
use Rattle.std.specs.Int.{w128}
use Rattle.std.proofs.lemmas.Int.{to_z-of_z}
use Rattle.step_error.specs.ErrorSums.{sums_of}
use Rattle.step_error.proofs.SumFacts.{bounded}
use Rattle.step_error.proofs.ChoiceLaws.{within, above, enough, one_more, read_again}
use mir.Val.{SFits}
use Rattle.step_error.proofs.choice.choose_bits.Goals as goal

pub returns-then-eps-limit-clause-choice : goal.returns-then-eps-limit-clause-choice
returns-then-eps-limit-clause-choice c = record {
  from = c.loop-f.auto.f;
  to = omega (arith, c.loop-f-test.true);
  within = within c.epsilon-eps.result c.args.limit _ (search rules) c.ranges.limit c.epsilon-eps.ensures c.requires.some c.if-eps-limit.true;
  least = read_again c.args.limit (sums_of c.args.e.now) c.args.g c.loop-f.f c.ranges.limit c.loop-f.invariant;
}

no : false ≡ true → ⊥
no e = search rules

pub returns-then-eps-limit-clause-fine : goal.returns-then-eps-limit-clause-fine
returns-then-eps-limit-clause-fine c =
    let some = (bounded c.args.e.now c.requires.sums).some in
    let cheap = within c.epsilon-eps.result c.args.limit _ (search rules) c.ranges.limit c.epsilon-eps.ensures c.requires.some c.if-eps-limit.true in
    let top : c.loop-f.f ≤ 48 = omega (arith, c.loop-f-test.true) in
    (λ e. absurd (no e), λ h. absurd (enough (sums_of c.args.e.now) c.loop-f.f (unsigned_abs c.args.limit) some top cheap h))

pub loop-f-preserved : goal.loop-f-preserved
loop-f-preserved c =
    let dear = above c.epsilon-eps.result c.args.limit _ (search rules) c.ranges.limit c.epsilon-eps.ensures c.requires.some c.if-eps-limit.false in
    one_more (sums_of c.args.e.now) c.args.g c.loop-f.f _ c.loop-f.invariant (rw (to_z-of_z w128 c.args.limit c.ranges.limit) dear)

pub returns-then-eps-limit-2-clause-choice : goal.returns-then-eps-limit-2-clause-choice
returns-then-eps-limit-2-clause-choice c =
    let top : c.loop-f.f ≡ 48 = omega (arith, c.loop-f-test.false, c.loop-f.auto.f-end (omega (arith, c.requires.grid))) in
    record {
      from = omega (arith, c.requires.grid);
      to = omega arith;
      within = within c.epsilon-eps-2.result c.args.limit _ (search rules) c.ranges.limit c.epsilon-eps-2.ensures c.requires.some c.if-eps-limit-2.true;
      least = rw top at (read_again c.args.limit (sums_of c.args.e.now) c.args.g c.loop-f.f c.ranges.limit c.loop-f.invariant);
    }

pub returns-else-eps-limit-2-clause-fine : goal.returns-else-eps-limit-2-clause-fine
returns-else-eps-limit-2-clause-fine c =
    let dear = above c.epsilon-eps-2.result c.args.limit _ (search rules) c.ranges.limit c.epsilon-eps-2.ensures c.requires.some c.if-eps-limit-2.false in
    (λ e. dear, λ h. refl)

pub loop-f-init : goal.loop-f-init
loop-f-init c = λ k from to. absurd (omega (arith, from, to))

pub epsilon-eps-requires-clause-sums : goal.epsilon-eps-requires-clause-sums
epsilon-eps-requires-clause-sums c = c.requires.sums

pub epsilon-eps-requires-clause-bits : goal.epsilon-eps-requires-clause-bits
epsilon-eps-requires-clause-bits c = omega (arith, c.loop-f-test.true)

pub returns-then-eps-limit-clause-cost : goal.returns-then-eps-limit-clause-cost
returns-then-eps-limit-clause-cost c =
    let r : SFits w128 c.epsilon-eps.result = search rules in
    to_z-of_z w128 _ r ∙ c.epsilon-eps.ensures

pub returns-then-eps-limit-clause-told : goal.returns-then-eps-limit-clause-told
returns-then-eps-limit-clause-told c = tt

pub epsilon-eps-requires-2-clause-sums : goal.epsilon-eps-requires-2-clause-sums
epsilon-eps-requires-2-clause-sums c = c.requires.sums

pub epsilon-eps-requires-2-clause-bits : goal.epsilon-eps-requires-2-clause-bits
epsilon-eps-requires-2-clause-bits c = omega arith

pub returns-then-eps-limit-2-clause-cost : goal.returns-then-eps-limit-2-clause-cost
returns-then-eps-limit-2-clause-cost c =
    let r : SFits w128 c.epsilon-eps-2.result = search rules in
    to_z-of_z w128 _ r ∙ c.epsilon-eps-2.ensures

pub returns-then-eps-limit-2-clause-fine : goal.returns-then-eps-limit-2-clause-fine
returns-then-eps-limit-2-clause-fine c =
    let some = (bounded c.args.e.now c.requires.sums).some in
    let cheap = within c.epsilon-eps-2.result c.args.limit _ (search rules) c.ranges.limit c.epsilon-eps-2.ensures c.requires.some c.if-eps-limit-2.true in
    (λ e. absurd (no e), λ h. absurd (enough (sums_of c.args.e.now) 48 (unsigned_abs c.args.limit) some (omega arith) cheap h))

pub returns-then-eps-limit-2-clause-told : goal.returns-then-eps-limit-2-clause-told
returns-then-eps-limit-2-clause-told c = tt

pub returns-else-eps-limit-2-clause-choice : goal.returns-else-eps-limit-2-clause-choice
returns-else-eps-limit-2-clause-choice c = tt

pub returns-else-eps-limit-2-clause-cost : goal.returns-else-eps-limit-2-clause-cost
returns-else-eps-limit-2-clause-cost c = tt

pub returns-else-eps-limit-2-clause-told : goal.returns-else-eps-limit-2-clause-told
returns-else-eps-limit-2-clause-told c =
    let r : SFits w128 c.epsilon-eps-2.result = search rules in
    to_z-of_z w128 _ r ∙ c.epsilon-eps-2.ensures
