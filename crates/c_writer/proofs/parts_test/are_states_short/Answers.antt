use Rattle.std.proofs.Common.{◌≡◌, ◌<◌, ◌^◌, ◌∙◌, ℕ, List, length, ap, subst, sym, get_or, arith}
use Rattle.qp_model.specs.machine.Controller.{numbers}
use Rattle.overflow_check.specs.FastController.{with_last_version}
use Rattle.overflow_check.proofs.Sizes.{length-state_reach}
use Rattle.c_writer.proofs.Each.{each_all}
use Rattle.c_writer.proofs.parts_test.are_states_short.Goals as goal

pub returns : goal.returns
returns c =
    let m = c.args.from.now in
    let n = numbers m.c.now in
    let long : length m.states.now ≡ n.states = ap (λ (xs : List ℕ). length xs) m.state_tops ∙ length-state_reach (with_last_version n) m.sound.form.sized in (
      (λ t k l. subst (λ (xs : List ℕ). get_or xs k 0 < 2 ^ 37) m.state_tops (c.are_sizes_short.ensures.0 t k 0 (omega (arith, l, long)))),
      (λ all. c.are_sizes_short.ensures.1 (each_all (λ (x : ℕ). x < 2 ^ 37) m.states.now 0 (λ k l. subst (λ (xs : List ℕ). get_or xs k 0 < 2 ^ 37) (sym m.state_tops) (all k (omega (arith, l, long)))))),
    )
