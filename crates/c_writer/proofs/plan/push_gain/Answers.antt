use Rattle.std.proofs.Common.{◌≡◌, ◌++◌, ◌∙◌, ◌^◌, ◌*ℤ◌, pos, to_z, of_z, ℤ, ℕ, List, FitsSigned, ap, rules, decimal, string_bytes}
use Rattle.std.specs.Int.{w128}
use Rattle.std.proofs.lemmas.Int.{to_z-of_z}
use Rattle.qp_model.specs.machine.Controller.{numbers}
use Rattle.c_program.specs.Of.{multiplier_top, gain_of}
use Rattle.c_writer.specs.Terms.{product_text}
use Rattle.c_writer.proofs.Rooms.{gain_room}
use Rattle.c_writer.proofs.plan.push_gain.Goals as goal

pub push_scaled-requires-clause-room : goal.push_scaled-requires-clause-room
push_scaled-requires-clause-room c =
    let n = numbers c.args.from.now.c.now in
    let f : FitsSigned w128 c.gain_base-gain.result = search rules in
    rw (to_z-of_z w128 _ f, c.lowering_at.ensures.value, c.gain_base-gain.ensures, c.multiplier_top-top.ensures) (gain_room n c.args.j c.args.i c.args.from.now.sound c.requires.entry c.requires.row)

pub returns : goal.returns
returns c =
    let n = numbers c.args.from.now.c.now in
    let f : FitsSigned w128 c.gain_base-gain.result = search rules in
    let e : to_z w128 (of_z w128 c.gain_base-gain.result) *ℤ pos (2 ^ c.lowering_at.result) ≡ gain_of n c.args.j c.args.i =
    rw (to_z-of_z w128 _ f, c.lowering_at.ensures.value) c.gain_base-gain.ensures in
    c.in_ok-push_scaled.ensures ∙ ap (λ (t : List ℕ). string_bytes c.args.text.now ++ t)
    (ap (λ (z : ℤ). product_text z c.multiplier_top-top.result (c.gain_family-family.result.now ++ decimal c.args.i)) e ∙
    ap (λ (top : ℕ). product_text (gain_of n c.args.j c.args.i) top (c.gain_family-family.result.now ++ decimal c.args.i)) c.multiplier_top-top.ensures ∙
    ap (λ (name : List ℕ). product_text (gain_of n c.args.j c.args.i) (multiplier_top n c.args.i) name) c.gain_family-family.ensures)
