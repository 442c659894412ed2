use Rattle.std.proofs.Common.{◌≡◌, ◌++◌, ◌∙◌, ◌==◌, ℕ, ℤ, pos, to_z, List, ap, sym, arith, codes, decimal, string_bytes}
use Rattle.std.specs.Int.{w128}
use Rattle.std.specs.Fmt.{signed_decimal}
use Rattle.std.proofs.lemmas.Bool.{cond-false, ne_eqb}
use Rattle.std.proofs.lemmas.Int.{ints}
use Rattle.c_writer.proofs.Texts.{lowered_more}
use Rattle.c_writer.proofs.words.push_shifted_value.Goals as goal

pub returns : goal.returns
returns c =
    let shift : to_z w128 c.args.k ≡ pos c.args.k = omega (arith, ints) in
    lowered_more (codes "(int64_t)" ++ (c.args.family.now ++ decimal c.args.number)) (decimal c.args.k) (string_bytes c.args.text.now) (string_bytes c.push_str.new.self) (string_bytes c.push_value.new.text)
    (string_bytes c.push_str-2.new.self) (string_bytes c.push_number.new.text) (string_bytes c.push_str-3.new.self) c.in_ok-push_str.ensures.bytes c.in_ok-push_value.ensures c.in_ok-push_str-2.ensures.bytes
    (c.in_ok-push_number.ensures ∙ ap (λ (z : ℤ). string_bytes c.push_str-2.new.self ++ signed_decimal z) shift) c.in_ok-push_str-3.ensures.bytes ∙
    ap (λ (t : List ℕ). string_bytes c.args.text.now ++ t) (sym (cond-false (c.args.k == 0) _ _ (ne_eqb c.args.k 0 c.requires)))
