use Rattle.std.proofs.Common.{◌≡◌, ◌++◌, ◌∙◌, ◌-◌, ◌^◌, ℤ, pos, to_z, FitsSigned, ap, rules, arith, decimal, string_bytes}
use Rattle.std.specs.Int.{w128}
use Rattle.std.specs.Fmt.{signed_decimal}
use Rattle.std.proofs.lemmas.Int.{ints, to_z-of_z}
use Rattle.c_language.specs.Text.{constant_text}
use Rattle.c_writer.proofs.Texts.{load_text}
use Rattle.c_writer.proofs.start.push_load.Goals as goal

pub returns : goal.returns
returns c =
    let step = pos (2 ^ (c.args.from.now.c.now.f - c.args.from.now.c.now.g)) in
    let f : FitsSigned w128 c.grid_step.result = search rules in
    let k : to_z w128 c.args.k ≡ pos c.args.k = omega (arith, ints) in
    load_text (constant_text step) (decimal c.args.k) (string_bytes c.args.text.now) (string_bytes c.push_str.new.self) (string_bytes c.push_constant.new.text) (string_bytes c.push_str-2.new.self)
    (string_bytes c.push_number.new.text) (string_bytes c.push_str-3.new.self) c.in_ok-push_str.ensures.bytes
    (c.in_ok-push_constant.ensures ∙ ap (λ (z : ℤ). string_bytes c.push_str.new.self ++ constant_text z) (to_z-of_z w128 _ f ∙ c.grid_step.ensures.value))
    c.in_ok-push_str-2.ensures.bytes
    (c.in_ok-push_number.ensures ∙ ap (λ (z : ℤ). string_bytes c.push_str-2.new.self ++ signed_decimal z) k)
    c.in_ok-push_str-3.ensures.bytes
