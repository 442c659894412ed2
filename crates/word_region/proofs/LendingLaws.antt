-- Words that were lent, index by index.
use Rattle.std.proofs.Common.{◌≡◌, ℕ, ◌+◌, ◌-◌, ◌<◌, ◌≤◌, ℤ, pos, List, ◌++◌, length, take, drop, arith, ap, ◌∙◌, sym, inl, inr}
use Rattle.std.proofs.lemmas.Bool.{cases_lt}
use Rattle.std.proofs.lemmas.List.{get_or-take, get_or-drop, get_or_append_left, get_or-append_right, get_or_past, length-take, length-drop, length-append, length-take-le}
use Rattle.integer_algebra.specs.Sums.{at}
use Rattle.word_region.specs.Lending.{IsWrittenOver, LendingLaw, written_over}

-- words below `start`, ws, and the words behind them
at-front : (words ws tail : List ℤ) (start k : ℕ) → start ≤ length words → k < start → at (take start words ++ (ws ++ tail)) k ≡ at words k
at-front words ws tail start k h l =
    get_or_append_left (take start words) (ws ++ tail) (pos 0) k (omega (arith, length-take-le start words h)) ∙ get_or-take start words k (pos 0) l

at-back : (words ws tail : List ℤ) (start k : ℕ) → start ≤ length words → at (take start words ++ (ws ++ tail)) (start + k) ≡ at (ws ++ tail) k
at-back words ws tail start k h =
    get_or-append_right (take start words) (ws ++ tail) start (start + k) (pos 0) (length-take-le start words h) (omega arith) ∙
    ap (at (ws ++ tail)) (let e : start + k - start ≡ k = omega arith in e)

at-tail : (words ws : List ℤ) (start k : ℕ) → start ≤ length words → start + length ws ≤ k → at (take start words ++ (ws ++ drop (start + length ws) words)) k ≡ at words k
at-tail words ws start k h l =
    let whole = take start words ++ (ws ++ drop (start + length ws) words) in
    ap (at whole) (let e : k ≡ start + (length ws + (k - (start + length ws))) = omega arith in e) ∙
    at-back words ws (drop (start + length ws) words) start (length ws + (k - (start + length ws))) h ∙
    get_or-append_right ws (drop (start + length ws) words) (length ws) (length ws + (k - (start + length ws))) (pos 0) (let e : length ws ≡ length ws = omega arith in e) (omega arith) ∙
    get_or-drop (start + length ws) words (length ws + (k - (start + length ws)) - length ws) (pos 0) ∙
    ap (at words) (let e : start + length ws + (length ws + (k - (start + length ws)) - length ws) ≡ k = omega arith in e)

long : (words ws : List ℤ) (start : ℕ) → start + length ws ≤ length words → length (take start words ++ (ws ++ drop (start + length ws) words)) ≡ length words
long words ws start h = simp (length-append, length-drop, length-take) (omega arith)

pub written : LendingLaw
written words ws start h =
    let whole = take start words ++ (ws ++ drop (start + length ws) words) in
    let cut : (k : ℕ) → k < length words → at (written_over words start ws) k ≡ at whole k = λ k l. get_or-take (length words) whole k (pos 0) l in
    let size : length (written_over words start ws) ≡ length words = length-take-le (length words) whole (omega (arith, long words ws start h)) in
    record {
      size = size;
      inside = λ k l. cut (start + k) (omega arith) ∙ at-back words ws (drop (start + length ws) words) start k (omega arith) ∙
          get_or_append_left ws (drop (start + length ws) words) (pos 0) k l;
      below = λ k l. cut k (omega arith) ∙ at-front words ws (drop (start + length ws) words) start k (omega arith) l;
      above = λ k l. elim (cases_lt k (length words)) [
        | inl m ↦ cut k m ∙ at-tail words ws start k (omega arith) l
        | inr m ↦ get_or_past (written_over words start ws) k (pos 0) (omega (arith, size)) ∙ sym (get_or_past words k (pos 0) m)
      ];
    }
