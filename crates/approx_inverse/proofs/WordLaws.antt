-- Words that change, and words that stay.
use Rattle.std.proofs.Common.{refl, take, drop, ◌++◌, ◌≡◌, ◌≢◌, ℕ, ◌+◌, ◌-◌, ◌<◌, ◌≤◌, ℤ, pos, ◌-ℤ◌, ◌*ℤ◌, List, length, set, get_or-set_same, get_or-set_other, below_more, replicate, ◌*◌, arith, ap, ◌∙◌}
use Rattle.std.proofs.Math.ListN.{length-set}
use Rattle.std.proofs.Math.Seq.{take-length}
use Rattle.std.proofs.lemmas.List.{get_or-take, get_or-drop, length-replicate, take-append-le}
use Rattle.integer_algebra.specs.Sums.{at}
use Rattle.word_region.specs.Words.{IsCleared, IsLive, RegionWords}
use Rattle.word_region.specs.declared.Span.{Span}
use Rattle.word_region.specs.Lending.{written_over}
use Rattle.word_region.proofs.LendingLaws.{written}
use Rattle.approx_inverse.specs.Spans.{cells, ArePlaced, AreKept, IsOnlyIn, IsSpanWritten, StaysOutside}

pub at_same : (ws ns : List ℤ) (p : ℕ) (z : ℤ) → ns ≡ set ws p z → p < length ws → at ns p ≡ z
at_same ws ns p z e l = rw e (get_or-set_same ws p z (pos 0) l)

pub at_other : (ws ns : List ℤ) (p k : ℕ) (z : ℤ) → ns ≡ set ws p z → k ≢ p → at ns k ≡ at ws k
at_other ws ns p k z e ne = rw e (get_or-set_other ws p k z (pos 0) ne)

-- one more word of a row
pub row_step : (ws0 ws ns row : List ℤ) (start i : ℕ) (t z : ℤ) → ns ≡ set ws (start + i) z → start + i < length ws → z ≡ at ws (start + i) -ℤ t *ℤ at row i →
    ((k : ℕ) → start + i ≤ k → at ws k ≡ at ws0 k) →
    ((k : ℕ) → k < i → at ws (start + k) ≡ at ws0 (start + k) -ℤ t *ℤ at row k) →
    (k : ℕ) → k < i + 1 → at ns (start + k) ≡ at ws0 (start + k) -ℤ t *ℤ at row k
row_step ws0 ws ns row start i t z e l is rest done =
    below_more _ _
    (λ k m. at_other ws ns (start + i) (start + k) z e (omega arith) ∙ done k m)
    (at_same ws ns (start + i) z e l ∙ is ∙ ap (λ (y : ℤ). y -ℤ t *ℤ at row i) (rest (start + i) (omega arith)))

-- words apart from the one that changed
pub step_below : (ws0 ws ns : List ℤ) (p low : ℕ) (z : ℤ) → ns ≡ set ws p z → low ≤ p → ((k : ℕ) → k < low → at ws k ≡ at ws0 k) →
    (k : ℕ) → k < low → at ns k ≡ at ws0 k
step_below ws0 ws ns p low z e l same k m = at_other ws ns p k z e (omega arith) ∙ same k m

pub step_above : (ws0 ws ns : List ℤ) (p low high : ℕ) (z : ℤ) → ns ≡ set ws p z → p < high → low ≤ high → ((k : ℕ) → low ≤ k → at ws k ≡ at ws0 k) →
    (k : ℕ) → high ≤ k → at ns k ≡ at ws0 k
step_above ws0 ws ns p low high z e l o same k m = at_other ws ns p k z e (omega arith) ∙ same k (omega arith)

-- a word of x changed, and then a row was taken from r
pub record IsMoved (w0 w1 w2 : RegionWords) (x r : Span) (n j : ℕ) (t z : ℤ) (row : List ℤ) : Type 0 where
  pub kept : AreKept w0 w2 x r
  pub at_j : cells w2.words x.start j ≡ z
  pub others : (k : ℕ) → k < n → k ≢ j → cells w2.words x.start k ≡ cells w0.words x.start k
  pub rest : (k : ℕ) → k < n → cells w2.words r.start k ≡ cells w0.words r.start k -ℤ t *ℤ at row k

pub moved : (w0 w1 w2 : RegionWords) (x r : Span) (n j : ℕ) (t z : ℤ) (row : List ℤ) → ArePlaced w0 x r n → j < n →
    w1 ≡ record w0 { words = set w0.words (x.start + j) z } → IsSpanWritten w1 w2 r (λ k. cells w1.words r.start k -ℤ t *ℤ at row k) → IsMoved w0 w1 w2 x r n j t z row
moved w0 w1 w2 x r n j t z row placed l e taken =
    let p = x.start + j in
    let ws : w1.words ≡ set w0.words p z = ap (λ (w : RegionWords). w.words) e in
    let used : w1.used ≡ w0.used = ap (λ (w : RegionWords). w.used) e in
    let size : length w1.words ≡ length w0.words = ap length ws ∙ length-set w0.words p z in
    record {
      kept = record {
        used = taken.used ∙ used;
        size = taken.size ∙ size;
        below = λ k m. taken.below k (omega arith) ∙ at_other w0.words w1.words p k z ws (omega arith);
        between = λ k m o. taken.below k o ∙ at_other w0.words w1.words p k z ws (omega arith);
        above = λ k m. taken.above k m ∙ at_other w0.words w1.words p k z ws (omega arith);
      };
      at_j = taken.below p (omega arith) ∙ at_same w0.words w1.words p z ws (omega arith);
      others = λ k m ne. taken.below (x.start + k) (omega arith) ∙ at_other w0.words w1.words p (x.start + k) z ws (omega arith);
      rest = λ k m. taken.done k (omega arith) ∙ ap (λ (y : ℤ). y -ℤ t *ℤ at row k) (at_other w0.words w1.words p (r.start + k) z ws (omega arith));
    }

-- the words of r while one of x changed
pub rest_stays : (w0 w1 : RegionWords) (x r : Span) (n j k : ℕ) (z : ℤ) → ArePlaced w0 x r n → j < n →
    w1 ≡ record w0 { words = set w0.words (x.start + j) z } → cells w1.words r.start k ≡ cells w0.words r.start k
rest_stays w0 w1 x r n j k z placed l e =
    at_other w0.words w1.words (x.start + j) (r.start + k) z (ap (λ (w : RegionWords). w.words) e) (omega arith)

-- one more word of a span
pub write_step : (ws ns : List ℤ) (start i : ℕ) (z : ℤ) (g : ℕ → ℤ) → ns ≡ set ws (start + i) z → start + i < length ws → z ≡ g i →
    ((k : ℕ) → k < i → at ws (start + k) ≡ g k) → (k : ℕ) → k < i + 1 → at ns (start + k) ≡ g k
write_step ws ns start i z g e l is done =
    below_more _ _ (λ k m. at_other ws ns (start + i) (start + k) z e (omega arith) ∙ done k m) (at_same ws ns (start + i) z e l ∙ is)

-- x was written, and then r
pub record AreWritten (w0 w2 : RegionWords) (x r : Span) (n : ℕ) (g q : ℕ → ℤ) : Type 0 where
  pub kept : AreKept w0 w2 x r
  pub first : (k : ℕ) → k < n → cells w2.words x.start k ≡ g k
  pub second : (k : ℕ) → k < n → cells w2.words r.start k ≡ q k

pub both_written : (w0 w1 w2 : RegionWords) (x r : Span) (n : ℕ) (g q : ℕ → ℤ) → ArePlaced w0 x r n → IsSpanWritten w0 w1 x g → IsSpanWritten w1 w2 r q → AreWritten w0 w2 x r n g q
both_written w0 w1 w2 x r n g q placed a b = record {
  kept = record {
    used = b.used ∙ a.used;
    size = b.size ∙ a.size;
    below = λ k m. b.below k (omega arith) ∙ a.below k m;
    between = λ k m o. b.below k o ∙ a.above k m;
    above = λ k m. b.above k m ∙ a.above k (omega arith);
  };
  first = λ k m. b.below (x.start + k) (omega arith) ∙ a.done k (omega arith);
  second = λ k m. b.done k (omega arith);
}

-- the words of r while x is written
pub second_stays : (w0 w1 : RegionWords) (x r : Span) (n : ℕ) (g : ℕ → ℤ) (k : ℕ) → ArePlaced w0 x r n → IsSpanWritten w0 w1 x g → cells w1.words r.start k ≡ cells w0.words r.start k
second_stays w0 w1 x r n g k placed a = a.above (r.start + k) (omega arith)

-- changes, one after the other
pub kept_on : (w0 w1 w2 : RegionWords) (x r : Span) → AreKept w0 w1 x r → AreKept w1 w2 x r → AreKept w0 w2 x r
kept_on w0 w1 w2 x r a b = record {
  used = b.used ∙ a.used;
  size = b.size ∙ a.size;
  below = λ k m. b.below k m ∙ a.below k m;
  between = λ k m o. b.between k m o ∙ a.between k m o;
  above = λ k m. b.above k m ∙ a.above k m;
}

-- they leave the spans where they are
pub still_placed : (w0 w1 : RegionWords) (x r : Span) (n : ℕ) → ArePlaced w0 x r n → AreKept w0 w1 x r → ArePlaced w1 x r n
still_placed w0 w1 x r n p k = record { x_len = p.x_len; r_len = p.r_len; order = p.order; end = rw k.used p.end; inside = rw k.size p.inside }

-- ---- a span that is taken behind x, and freed again
pub taken_placed : (w0 w1 : RegionWords) (x r : Span) (n : ℕ) → IsLive w0 x → x.len ≡ n → n ≤ length w0.words - w0.used → w0.used ≤ length w0.words →
    r ≡ record { start = w0.used; len = n } → w1.used ≡ w0.used + n → length w1.words ≡ length w0.words → ArePlaced w1 x r n
taken_placed w0 w1 x r n live long free inside is used size = rw is (record {
  x_len = long;
  r_len = refl;
  order = omega (arith, live.end, long);
  end = omega (arith, used);
  inside = omega (arith, free, inside, size);
})

pub freed_again : (w0 w1 w2 w3 : RegionWords) (x r : Span) (n used : ℕ) → IsLive w0 x → r ≡ record { start = w0.used; len = n } → IsCleared w0.words w1.words w0.used n →
    AreKept w1 w2 x r → used ≡ w0.used → w3 ≡ record w2 { used = used } → IsOnlyIn w0 w3 x
freed_again w0 w1 w2 w3 x r n used live is cleared kept same e = rw e (record {
  used = same;
  size = kept.size ∙ cleared.size;
  below = λ k l. kept.below k l ∙ cleared.below k (omega (arith, live.end, l));
  above = λ k l m. (let b : k < r.start = rw is m in kept.between k l b ∙ cleared.below k m);
})

-- two spans' words in a region of zeros, of which the first is taken
pub record HasFreshSpan (w : RegionWords) (s : Span) (n : ℕ) : Type 0 where
  pub live : IsLive w s
  pub len : s.len ≡ n
  pub free : n ≤ length w.words - w.used

pub fresh_span : (w0 w1 : RegionWords) (s : Span) (n : ℕ) → w0 ≡ record { words = replicate (2 * n) (pos 0); used = 0 } → s ≡ record { start = w0.used; len = n } →
    w1.used ≡ w0.used + n → length w1.words ≡ length w0.words → HasFreshSpan w1 s n
fresh_span w0 w1 s n e is used size =
    let long : length w0.words ≡ 2 * n = rw e (length-replicate (2 * n) (pos 0)) in
    let none : w0.used ≡ 0 = rw e refl in
    rw is (record { live = record { end = omega (arith, used) }; len = refl; free = omega (arith, long, none, used, size) })

pub fresh_room : (w : RegionWords) (n : ℕ) → w ≡ record { words = replicate (2 * n) (pos 0); used = 0 } → n ≤ length w.words - w.used
fresh_room w n e = rw (e, length-replicate (2 * n) (pos 0)) (omega arith)

-- what was lent and filled
pub lent : (old : RegionWords) (s : Span) (ws : List ℤ) → s.start + s.len ≤ length old.words → length ws ≡ s.len →
    IsSpanWritten old (record old { words = written_over old.words s.start ws }) s (at ws)
lent old s ws inside e =
    let there = written old.words ws s.start (omega arith) in
    record {
      used = refl;
      size = there.size;
      done = λ k l. there.inside k (omega arith);
      below = there.below;
      above = λ k l. there.above k (omega arith);
    }

pub lent_outside : (old : RegionWords) (s : Span) (ws : List ℤ) → s.start + s.len ≤ length old.words → length ws ≡ s.len →
    StaysOutside old (record old { words = written_over old.words s.start ws }) s
lent_outside old s ws inside e = let there = lent old s ws inside e in
    record { used = refl; size = there.size; below = there.below; above = there.above }

-- the slice of n words at a
pub at-slice : (ws : List ℤ) (a n j : ℕ) → j < n → at (take (a + n - a) (drop a ws)) j ≡ cells ws a j
at-slice ws a n j l = let e : a + n - a ≡ n = omega arith in rw e (get_or-take n (drop a ws) j (pos 0) l ∙ get_or-drop a ws j (pos 0))

-- a list that was filled
pub filled : (n : ℕ) (out items : List ℤ) → length out ≡ n → take n (out ++ drop (length out) items) ≡ out
filled n out items e = take-append-le n out (drop (length out) items) (omega arith) ∙ rw (← e) (take-length out)
