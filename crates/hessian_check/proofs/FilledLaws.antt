-- What is known of a row while it is filled, and of its next entry.
use Rattle.std.proofs.Common.{◌≡◌, ℕ, ◌<◌, ◌^◌, ℤ, pos, negsuc, ◌-ℤ◌, ◌*ℤ◌, ◌≤ℤ◌, unsigned_abs, FitsSigned}
use Rattle.std.specs.Int.{w128}
use Rattle.integer_algebra.specs.Sums.{square}
use Rattle.hessian_check.specs.Recipe.{scaled_up, left, AreRows, IsPart, IsShift, IsStart, low, top}
use Rattle.hessian_check.proofs.StartLaws.{Ready, ready, least_fits}
use Rattle.hessian_check.proofs.StepLaws.{square_fits, difference_fits}

-- the rows before row i are made, and its first j entries; l is left of its diagonal entry
pub record IsFilledTo (n : ℕ) (b : ℕ → ℕ → ℤ) (mu : ℤ) (r : ℕ → ℕ → ℤ) (i j : ℕ) (l : ℤ) : Type 0 where
  pub rows : AreRows n b mu r i
  pub part : IsPart b mu r i j
  pub left_is : l ≡ left b mu r i j

-- by other names of the factor and the reserve
pub filled_to : (n : ℕ) (m : ℕ → ℕ → ℤ) (up mu : ℤ) (r : ℕ → ℕ → ℤ) (i j : ℕ) (l u v : ℤ) → u ≡ up → v ≡ mu → AreRows n (scaled_up u m) v r i → IsPart (scaled_up u m) v r i j →
    l ≡ left (scaled_up u m) v r i j → IsFilledTo n (scaled_up up m) mu r i j l
filled_to n m up mu r i j l u v e f rows part is = record { rows = rw (e, f) at rows; part = rw (e, f) at part; left_is = rw (e, f) at is }

-- the entry q has room, and so has what it leaves of l
pub record HasRoom (q l : ℤ) : Type 0 where
  pub square_fits : FitsSigned w128 (q *ℤ q)
  pub high : (q *ℤ q) ≤ℤ pos (2 ^ 124)
  pub low : pos 0 ≤ℤ (q *ℤ q)
  pub left_fits : FitsSigned w128 (l -ℤ square q)

pub has_room : (q l : ℤ) → unsigned_abs q < 2 ^ 62 → negsuc (2 ^ 118) ≤ℤ l → l ≤ℤ pos (2 ^ 118) → HasRoom q l
has_room q l size low high =
    let f = square_fits q size in
    record { square_fits = f.0; low = f.1; high = f.2; left_fits = difference_fits l (square q) low high f.1 f.2 }

-- ---- what the root begins with: g the greatest diagonal entry, h the shift, u its power, e the least diagonal entry
pub record IsBegun (n : ℕ) (m : ℕ → ℕ → ℤ) (g : ℤ) (h : ℕ) (u e : ℤ) : Type 0 where
  pub start : IsStart n m
  pub shift : IsShift (top n m) h
  pub power : u ≡ pos (4 ^ h)
  pub least : e ≡ low (top n m) n m
  pub ready : Ready n m (pos (4 ^ h))
  pub fits : FitsSigned w128 (pos (4 ^ h) *ℤ low (top n m) n m)

pub begun : (n : ℕ) (m : ℕ → ℕ → ℤ) (g : ℤ) (h : ℕ) (u e : ℤ) → IsStart n m → g ≡ top n m → IsShift g h → u ≡ pos (4 ^ h) → e ≡ low g n m → IsBegun n m g h u e
begun n m g h u e start greatest shift power least =
    let s : IsShift (top n m) h = rw greatest at shift in
    let r = ready n m h start s in
    record { start = start; shift = s; power = power; least = rw greatest at least; ready = r; fits = least_fits n m (pos (4 ^ h)) r }
