use Rattle.std.proofs.Common.{◌≡◌, ◌≤◌, ◌∷◌, ◌++◌, [], ◌∙◌, ap, sym, arith, length, map, take, pos, ℕ, ℤ, List, Vec, Global, rules, refl, FitsSigned, zero-add, append_assoc}
use Rattle.std.specs.List.{range_with_len}
use Rattle.std.specs.Int.{w128}
use Rattle.std.proofs.lemmas.Int.{to_z-of_z}
use Rattle.std.proofs.lemmas.List.{get_or-take, length-take-le}
use Rattle.std.proofs.lemmas.List.FromFn.{map-range_with_len_more, fill_by_all}
use Rattle.integer_algebra.specs.Sums.{at}
use Rattle.closed_loop.specs.Looping.{denominator_by}
use Rattle.closed_loop.proofs.line.loop_line.Goals as goal

pub loop-l-preserved : goal.loop-l-preserved
loop-l-preserved g c =
    let a = g.M.ControlMachine.looping c.args.machine.now in
    let plan = a.plan c.args.state.now in
    let fits : FitsSigned w128 c.first_input.result = search rules in
    record {
      end = c.loop-l.invariant.end;
      numbers = rw (c.in_ok-push-4.ensures.items, to_z-of_z w128 _ fits, c.first_input.ensures c.args.state.now c.requires.state, c.loop-l.invariant.numbers, map-range_with_len_more (at plan) 0 c.loop-l.l c.loop-l.l (zero-add c.loop-l.l))
          (ap (λ (zs : List ℤ). pos c.args.entry ∷ pos c.args.turn ∷ zs) (append_assoc c.args.state.now (pos (denominator_by a) ∷ map (at plan) (range_with_len 0 c.loop-l.l)) (at plan c.loop-l.l ∷ [])));
    }

pub returns : goal.returns
returns g c =
    let a = g.M.ControlMachine.looping c.args.machine.now in
    let xi = c.args.state.now in
    let n = a.controller.inputs in
    let plan = a.plan xi in
    let room : n ≤ length plan = c.parts.ensures.sound.long xi (c.parts.ensures.inside xi c.requires.state) in
    let all : take n plan ≡ map (at plan) (range_with_len 0 n) =
    fill_by_all (at plan) (take n plan) n (pos 0) (length-take-le n plan room) (λ k h. get_or-take n plan k (pos 0) h) in
    let end : c.loop-l.l ≡ n = omega (arith, c.loop-l.invariant.end) in
    let head : List ℤ → List ℤ = λ zs. pos c.args.entry ∷ pos c.args.turn ∷ xi ++ pos (denominator_by a) ∷ zs in
    let numbers : c.deref.result.now ≡ head (take n plan) =
    c.deref.ensures.value ∙ c.loop-l.invariant.numbers ∙ ap (λ (m : ℕ). head (map (at plan) (range_with_len 0 m))) end ∙ ap head (sym all) in
    ap (λ (v : Vec ℕ Global). v.items) c.into_bytes.ensures.value ∙ c.in_ok-push-5.ensures.bytes ∙ rw (c.in_ok-push-5.ensures.ascii (omega arith), c.in_ok-line.ensures, numbers) refl
