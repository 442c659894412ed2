-- Words of spans that change, and words that stay.
use Rattle.std.specs.Prelude.{◌≡◌, ℕ, ◌+◌, ◌<◌, ◌≤◌, ℤ, List, length}
use Rattle.integer_algebra.specs.Sums.{at}
use Rattle.word_region.specs.Words.{RegionWords}
use Rattle.word_region.specs.declared.Span.{Span}

-- words from start on, as a vector
abbrev pub cells : List ℤ → ℕ → ℕ → ℤ
cells ws start j = at ws (start + j)

-- x and, behind it, r are spans of n words in use
pub record ArePlaced (w : RegionWords) (x r : Span) (n : ℕ) : Type 0 where
  pub x_len : x.len ≡ n
  pub r_len : r.len ≡ n
  pub order : x.start + n ≤ r.start
  pub end : r.start + n ≤ w.used
  pub inside : r.start + n ≤ length w.words

-- the words of a span became g, and no other word changed
pub record IsSpanWritten (old new : RegionWords) (s : Span) (g : ℕ → ℤ) : Type 0 where
  pub used : new.used ≡ old.used
  pub size : length new.words ≡ length old.words
  pub done : (k : ℕ) → k < s.len → cells new.words s.start k ≡ g k
  pub below : (k : ℕ) → k < s.start → at new.words k ≡ at old.words k
  pub above : (k : ℕ) → s.start + s.len ≤ k → at new.words k ≡ at old.words k

-- no word outside a span changed
pub record StaysOutside (old new : RegionWords) (s : Span) : Type 0 where
  pub used : new.used ≡ old.used
  pub size : length new.words ≡ length old.words
  pub below : (k : ℕ) → k < s.start → at new.words k ≡ at old.words k
  pub above : (k : ℕ) → s.start + s.len ≤ k → at new.words k ≡ at old.words k

-- no word outside x and r changed
pub record AreKept (old new : RegionWords) (x r : Span) : Type 0 where
  pub used : new.used ≡ old.used
  pub size : length new.words ≡ length old.words
  pub below : (k : ℕ) → k < x.start → at new.words k ≡ at old.words k
  pub between : (k : ℕ) → x.start + x.len ≤ k → k < r.start → at new.words k ≡ at old.words k
  pub above : (k : ℕ) → r.start + r.len ≤ k → at new.words k ≡ at old.words k

-- of the words in use none outside x changed, and none came or went
pub record IsOnlyIn (old new : RegionWords) (x : Span) : Type 0 where
  pub used : new.used ≡ old.used
  pub size : length new.words ≡ length old.words
  pub below : (k : ℕ) → k < x.start → at new.words k ≡ at old.words k
  pub above : (k : ℕ) → x.start + x.len ≤ k → k < old.used → at new.words k ≡ at old.words k
