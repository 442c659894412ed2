-- A region's words, put together and cut.
use Rattle.std.proofs.Common.{◌≡◌, ℕ, ◌+◌, ◌-◌, ◌*◌, ◌<◌, ℤ, pos, List, ◌++◌, length, take, drop, ap, sym, ◌∙◌, arith, refl}
use Rattle.std.specs.Prelude.{slice_range}
use Rattle.std.proofs.Math.Seq.{take-append_seam, drop-append_seam}
use Rattle.std.proofs.lemmas.List.{ext_get_or, get_or-append_right, get_or_append_left, length-append, take_all, drop-drop}
use Rattle.integer_algebra.specs.Sums.{at}
use Rattle.qp_model.specs.machine.Controller.{Numbers}
use Rattle.qp_model.specs.machine.Machine.{Iterate}
use Rattle.word_region.specs.Lending.{written_over}
use Rattle.word_region.proofs.LendingLaws.{written}
use Rattle.fixed_kernel.specs.Spans.{words_of, made_of, state_in, made_in}

-- ---- cut
state_seam : (n : ℕ) (xs rest : List ℤ) → length xs ≡ n → take n (xs ++ rest) ≡ xs
state_seam n xs rest h = rw (← h) (take-append_seam xs rest)

behind_seam : (n : ℕ) (xs rest : List ℤ) → length xs ≡ n → drop n (xs ++ rest) ≡ rest
behind_seam n xs rest h = rw (← h) (drop-append_seam xs rest)

pub state_back : (c : Numbers) (state : List ℤ) (made : Iterate) → length state ≡ c.states → state_in c (words_of state made) ≡ state
state_back c state made h = state_seam c.states state _ h

pub made_back : (c : Numbers) (state : List ℤ) (made : Iterate) → length state ≡ c.states → length made.multipliers ≡ c.rows → length made.plan ≡ length c.offsets → made_in c (words_of state made) ≡ made
made_back c state made h m p =
    rw (
      behind_seam c.states state (made.multipliers ++ (made.plan ++ made.sums)) h,
      behind_seam c.rows made.multipliers (made.plan ++ made.sums) m,
      state_seam c.rows made.multipliers (made.plan ++ made.sums) m,
      behind_seam (length c.offsets) made.plan made.sums p,
      state_seam (length c.offsets) made.plan made.sums p,
    ) refl

-- what the machine has made, of the parts in which the words are lent
pub made_lent_in : (c : Numbers) (words behind multipliers last plan sums : List ℤ) (entries : ℕ) → behind ≡ drop c.states words → multipliers ≡ take c.rows behind → last ≡ drop c.rows behind →
    entries ≡ length c.offsets → plan ≡ take entries last → sums ≡ drop entries last → made_of plan multipliers sums ≡ made_in c words
made_lent_in c words behind multipliers last plan sums entries b m l e p s = rw (p, s, e, l, m, b) refl

-- and of the same under other names
pub made_as : (p q l m s t : List ℤ) (made : Iterate) → p ≡ q → l ≡ m → s ≡ t → made_of q m t ≡ made → made_of p l s ≡ made
made_as p q l m s t made a b c h = rw (a, b, c) h

-- ---- read
pub at_multipliers : (n m i : ℕ) (state : List ℤ) (made : Iterate) → length state ≡ n → length made.multipliers ≡ m → i < m → at (words_of state made) (n + i) ≡ at made.multipliers i
at_multipliers n m i state made a b l =
    get_or-append_right state (made.multipliers ++ (made.plan ++ made.sums)) n (n + i) (pos 0) a (omega arith) ∙
    ap (at (made.multipliers ++ (made.plan ++ made.sums))) (let e : n + i - n ≡ i = omega arith in e) ∙
    get_or_append_left made.multipliers (made.plan ++ made.sums) (pos 0) i (omega (arith, b, l))

at_behind : (n m i : ℕ) (state : List ℤ) (made : Iterate) → length state ≡ n → length made.multipliers ≡ m → at (words_of state made) (n + m + i) ≡ at (made.plan ++ made.sums) i
at_behind n m i state made a b =
    get_or-append_right state (made.multipliers ++ (made.plan ++ made.sums)) n (n + m + i) (pos 0) a (omega arith) ∙
    get_or-append_right made.multipliers (made.plan ++ made.sums) m (n + m + i - n) (pos 0) b (omega arith) ∙
    ap (at (made.plan ++ made.sums)) (let e : n + m + i - n - m ≡ i = omega arith in e)

pub at_plan : (n m p j : ℕ) (state : List ℤ) (made : Iterate) → length state ≡ n → length made.multipliers ≡ m → length made.plan ≡ p → j < p → at (words_of state made) (n + m + j) ≡ at made.plan j
at_plan n m p j state made a b d l = at_behind n m j state made a b ∙ get_or_append_left made.plan made.sums (pos 0) j (omega (arith, d, l))

pub sums_cells : (n m p : ℕ) (state : List ℤ) (made : Iterate) → length state ≡ n → length made.multipliers ≡ m → length made.plan ≡ p → length made.sums ≡ p →
    slice_range (words_of state made) (n + m + p) (n + m + p + p) ≡ made.sums
sums_cells n m p state made a b d f =
    let words = words_of state made in
    let behind : drop (n + m + p) words ≡ made.sums =
    sym (drop-drop p (n + m) words) ∙ ap (drop p) (sym (drop-drop m n words) ∙ ap (drop m) (behind_seam n state _ a) ∙ behind_seam m made.multipliers _ b) ∙ behind_seam p made.plan made.sums d in
    ap (take (n + m + p + p - (n + m + p))) behind ∙ take_all (n + m + p + p - (n + m + p)) made.sums (omega (arith, f))

-- ---- all of them
pub words_long : (n m p w : ℕ) (state : List ℤ) (made : Iterate) → w ≡ n + m + 2 * p → length state ≡ n → length made.multipliers ≡ m → length made.plan ≡ p → length made.sums ≡ p → length (words_of state made) ≡ w
words_long n m p w state made e a b d f =
    omega (arith, e, a, b, d, f, length-append state (made.multipliers ++ (made.plan ++ made.sums)), length-append made.multipliers (made.plan ++ made.sums), length-append made.plan made.sums)

-- all words lent, and all written
pub lent_whole : (words : List ℤ) (n : ℕ) → length words ≡ n → slice_range words 0 (0 + n) ≡ words
lent_whole words n h = ap (λ (i : ℕ). take i words) (let e : 0 + n - 0 ≡ length words = omega (arith, h) in e) ∙ take_all (length words) words (omega arith)

pub written_whole : (words ws : List ℤ) → length ws ≡ length words → written_over words 0 ws ≡ ws
written_whole words ws h =
    let w = written words ws 0 (omega (arith, h)) in
    ext_get_or (pos 0) (written_over words 0 ws) ws (omega (arith, w.size, h)) (λ i l. ap (at (written_over words 0 ws)) (let e : i ≡ 0 + i = omega arith in e) ∙ w.inside i (omega (arith, l, w.size, h)))
