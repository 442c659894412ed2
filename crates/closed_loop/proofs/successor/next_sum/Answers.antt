use Rattle.std.proofs.Common.{◌≡◌, ◌<◌, ◌*◌, ◌^◌, ◌∙◌, ap, sym, subst, ℕ, ℤ, pos, ◌*ℤ◌, List, length, unsigned_abs, arith, rules, refl, FitsSigned}
use Rattle.std.specs.Int.{w128}
use Rattle.std.proofs.lemmas.Int.{to_z-of_z, fits_signed_from_abs}
use Rattle.integer_algebra.specs.Sums.{at, dot, image}
use Rattle.integer_algebra.specs.Sizes.{amount}
use Rattle.mat_int.proofs.Indices.{dot_is, abs_dot_is}
use Rattle.qp_model.specs.problem.Parts.{design_of}
use Rattle.closed_loop.specs.Looping.{grid_scale_by, next_sum_by}
use Rattle.closed_loop.proofs.Reaches.{dot_room, own_le, next_fits}
use Rattle.closed_loop.proofs.successor.next_sum.Goals as goal

pub dot-requires-clause-room : goal.dot-requires-clause-room
dot-requires-clause-room g c =
    let d = design_of c.args.design.now in
    let a = g.M.ControlMachine.looping c.args.machine.now in
    let xi = c.args.state.now in
    let len : length c.row.result.now ≡ d.states = c.row.ensures.len ∙ c.requires.design.a.cols in
    let long : length xi ≡ d.states = (c.grid_scale-scale.ensures.inside xi c.requires.state).long ∙ sym c.requires.matched.states in
    subst (λ (m : ℕ). m < 2 ^ 127) (sym (abs_dot_is d.states c.row.result.now xi len long))
    (subst (λ (row : List ℤ). amount d.states (λ k. unsigned_abs (at row k) * unsigned_abs (at xi k)) < 2 ^ 127) (sym c.row.ensures.value)
    (dot_room d a xi c.args.i c.requires.matched c.grid_scale-scale.ensures.sound (c.grid_scale-scale.ensures.inside xi c.requires.state) c.requires.narrow c.requires.in_range))

pub overflow_mul-own : goal.overflow_mul-own
overflow_mul-own g c =
    let d = design_of c.args.design.now in
    let a = g.M.ControlMachine.looping c.args.machine.now in
    let xi = c.args.state.now in
    let dotted : FitsSigned w128 c.dot.result = search rules in
    let scale : FitsSigned w128 c.grid_scale-scale.result = search rules in
    let len : length c.row.result.now ≡ d.states = c.row.ensures.len ∙ c.requires.design.a.cols in
    let long : length xi ≡ d.states = (c.grid_scale-scale.ensures.inside xi c.requires.state).long ∙ sym c.requires.matched.states in
    let own : c.dot.result ≡ image d.states d.plant_a (at xi) c.args.i =
    c.dot.ensures ∙ dot_is d.states c.row.result.now xi len long ∙ ap (λ (row : List ℤ). dot d.states (at row) (at xi)) c.row.ensures.value in
    rw (to_z-of_z w128 _ dotted, to_z-of_z w128 _ scale, own, c.grid_scale-scale.ensures.value)
    (fits_signed_from_abs w128 _ (omega (arith, own_le d a xi c.args.i c.requires.matched c.grid_scale-scale.ensures.sound (c.grid_scale-scale.ensures.inside xi c.requires.state) c.requires.narrow c.requires.in_range)))

pub overflow_add-result : goal.overflow_add-result
overflow_add-result g c =
    let d = design_of c.args.design.now in
    let a = g.M.ControlMachine.looping c.args.machine.now in
    let xi = c.args.state.now in
    let dotted : FitsSigned w128 c.dot.result = search rules in
    let scale : FitsSigned w128 c.grid_scale-scale.result = search rules in
    let added : FitsSigned w128 c.input_sum.result = search rules in
    let len : length c.row.result.now ≡ d.states = c.row.ensures.len ∙ c.requires.design.a.cols in
    let long : length xi ≡ d.states = (c.grid_scale-scale.ensures.inside xi c.requires.state).long ∙ sym c.requires.matched.states in
    let own : c.dot.result ≡ image d.states d.plant_a (at xi) c.args.i =
    c.dot.ensures ∙ dot_is d.states c.row.result.now xi len long ∙ ap (λ (row : List ℤ). dot d.states (at row) (at xi)) c.row.ensures.value in
    let scaled : FitsSigned w128 (image d.states d.plant_a (at xi) c.args.i *ℤ pos (grid_scale_by a)) =
    fits_signed_from_abs w128 _ (omega (arith, own_le d a xi c.args.i c.requires.matched c.grid_scale-scale.ensures.sound (c.grid_scale-scale.ensures.inside xi c.requires.state) c.requires.narrow c.requires.in_range)) in
    rw (to_z-of_z w128 _ dotted, to_z-of_z w128 _ scale, to_z-of_z w128 _ added, own, c.grid_scale-scale.ensures.value, c.input_sum.ensures, to_z-of_z w128 _ scaled)
    (next_fits d a xi c.args.i c.requires.matched c.grid_scale-scale.ensures.sound (c.grid_scale-scale.ensures.inside xi c.requires.state) c.requires.narrow c.requires.in_range)

pub returns : goal.returns
returns g c =
    let d = design_of c.args.design.now in
    let a = g.M.ControlMachine.looping c.args.machine.now in
    let xi = c.args.state.now in
    let dotted : FitsSigned w128 c.dot.result = search rules in
    let scale : FitsSigned w128 c.grid_scale-scale.result = search rules in
    let added : FitsSigned w128 c.input_sum.result = search rules in
    let len : length c.row.result.now ≡ d.states = c.row.ensures.len ∙ c.requires.design.a.cols in
    let long : length xi ≡ d.states = (c.grid_scale-scale.ensures.inside xi c.requires.state).long ∙ sym c.requires.matched.states in
    let own : c.dot.result ≡ image d.states d.plant_a (at xi) c.args.i =
    c.dot.ensures ∙ dot_is d.states c.row.result.now xi len long ∙ ap (λ (row : List ℤ). dot d.states (at row) (at xi)) c.row.ensures.value in
    let scaled : FitsSigned w128 (image d.states d.plant_a (at xi) c.args.i *ℤ pos (grid_scale_by a)) =
    fits_signed_from_abs w128 _ (omega (arith, own_le d a xi c.args.i c.requires.matched c.grid_scale-scale.ensures.sound (c.grid_scale-scale.ensures.inside xi c.requires.state) c.requires.narrow c.requires.in_range)) in
    let whole : FitsSigned w128 (next_sum_by d a xi c.args.i) = next_fits d a xi c.args.i c.requires.matched c.grid_scale-scale.ensures.sound (c.grid_scale-scale.ensures.inside xi c.requires.state) c.requires.narrow c.requires.in_range in
    rw (to_z-of_z w128 _ dotted, to_z-of_z w128 _ scale, to_z-of_z w128 _ added, own, c.grid_scale-scale.ensures.value, c.input_sum.ensures, to_z-of_z w128 _ scaled, to_z-of_z w128 _ whole) refl
