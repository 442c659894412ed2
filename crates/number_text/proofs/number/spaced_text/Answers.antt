use Rattle.std.proofs.Common.{◌≡◌, ℕ, ℤ, map, take, ◌<◌, ◌+◌, pos, List, [], ◌∷◌, ◌++◌, length, get_or, arith, rules, sym, ◌∙◌, ap, string_bytes, append_assoc}
use Rattle.std.specs.List.{join_with_byte}
use Rattle.std.specs.Fmt.{signed_decimal}
use Rattle.std.proofs.lemmas.List.{take_all}
use Rattle.number_text.proofs.Words.{line_more, line_first}
use Rattle.number_text.proofs.number.spaced_text.Goals as goal
use Rattle.number_text.proofs.number.spaced_text.Goals.{then-i-gt0+in_ok-push, else-i-gt0}

pub loop-i-preserved : goal.loop-i-preserved
loop-i-preserved c =
    let xs = c.args.numbers.now in
    let i = c.loop-i.i in
    let lt : i < length xs = omega arith in
    let pushed : string_bytes c.push_str.new.self ≡ string_bytes c.if-i-gt0.text ++ signed_decimal (get_or xs i (pos 0)) = search rules in
    elim c.if-i-gt0.branch [
      | then-i-gt0+in_ok-push w ↦
          let some : 0 < i = omega arith in
          let spaced : string_bytes c.if-i-gt0.text ≡ string_bytes c.loop-i.text ++ 32 ∷ [] = search rules in
          rw (line_more xs i some lt, pushed, spaced, c.loop-i.invariant) (append_assoc _ (32 ∷ []) _)
      | else-i-gt0 w ↦
          let none : i ≡ 0 = omega arith in
          let some : 0 < length xs = omega arith in
          let same : string_bytes c.if-i-gt0.text ≡ string_bytes c.loop-i.text = search rules in
          let empty : string_bytes c.loop-i.text ≡ [] = c.loop-i.invariant ∙ ap (λ (k : ℕ). join_with_byte 32 (map signed_decimal (take k xs))) none in
          pushed ∙ ap (λ (b : List ℕ). b ++ signed_decimal (get_or xs i (pos 0))) (same ∙ empty)
          ∙ ap (λ (k : ℕ). signed_decimal (get_or xs k (pos 0))) none ∙ sym (line_first xs some)
          ∙ ap (λ (k : ℕ). join_with_byte 32 (map signed_decimal (take (k + 1) xs))) (sym none)
    ]

pub loop-i-init : goal.loop-i-init
loop-i-init c = search rules

pub returns : goal.returns
returns c =
    let xs = c.args.numbers.now in
    c.loop-i.invariant ∙ ap (λ (zs : List ℤ). join_with_byte 32 (map signed_decimal zs)) (take_all c.loop-i.i xs (omega arith))
