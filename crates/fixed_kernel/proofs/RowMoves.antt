-- Rows of raised multipliers that are moved one after the other, at any width.
use Rattle.std.proofs.Common.{◌≡◌, ◌≢◌, ℕ, ◌+◌, ◌<◌, ◌≤◌, ◌^◌, ℤ, pos, ◌*ℤ◌, List, length, set, get_or, get_or-set_other, unsigned_abs, arith, ap, sym, ◌∙◌}
use Rattle.std.proofs.lemmas.List.Edits.{fill_by_more}
use Rattle.std.proofs.lemmas.List.FromFn.{fill_by_all}
use Rattle.integer_algebra.specs.Division.{floor_of}
use Rattle.integer_algebra.specs.Sums.{at}
use Rattle.qp_model.specs.machine.Controller.{Numbers}
use Rattle.qp_model.specs.machine.Machine.{lowering_of, raised, next_multiplier, next_multipliers}
use Rattle.qp_model.specs.machine.AbsoluteSums.{clamp_magnitudes}
use Rattle.qp_model.specs.machine.Within.{AreWithin}
use Rattle.overflow_check.proofs.Sizes.{length-clamp_reach}
use Rattle.fixed_kernel.specs.Raised.{unraised}
use Rattle.fixed_kernel.proofs.Raised.{next_unraised_at, within_clamp}

-- what a row is moved to
abbrev pub moved_to : Numbers → List ℤ → List ℤ → List ℤ → ℕ → ℤ
moved_to c state plan old k = next_multiplier c state plan (floor_of (at old k) (2 ^ lowering_of c k)) k *ℤ pos (2 ^ lowering_of c k)

-- the rows before `i` are moved, and no other
pub record AreMoved (c : Numbers) (state plan old new : List ℤ) (i : ℕ) : Type 0 where
  pub moved : (k : ℕ) → k < i → get_or new k (pos 0) ≡ moved_to c state plan old k
  pub others : (k : ℕ) → i ≤ k → get_or new k (pos 0) ≡ get_or old k (pos 0)

-- one more is, of the multiplier there as a word has it
pub row_moved : (c : Numbers) (state plan old new : List ℤ) (i : ℕ) (was z : ℤ) → i < length new → AreMoved c state plan old new i → was ≡ get_or new i (pos 0) →
    z ≡ next_multiplier c state plan (floor_of was (2 ^ lowering_of c i)) i *ℤ pos (2 ^ lowering_of c i) → AreMoved c state plan old (set new i z) (i + 1)
row_moved c state plan old new i was z lt h read is =
    let here : z ≡ moved_to c state plan old i = is ∙ ap (λ (y : ℤ). next_multiplier c state plan (floor_of y (2 ^ lowering_of c i)) i *ℤ pos (2 ^ lowering_of c i)) (read ∙ h.others i (omega arith)) in
    record {
      moved = rw here (fill_by_more (moved_to c state plan old) new i (pos 0) lt h.moved);
      others = λ k l. let ne : k ≢ i = omega (arith, l) in rw get_or-set_other (h.others k (omega (arith, l)));
    }

-- the multiplier there is at most the clamp
pub row_within : (c : Numbers) (state plan old new : List ℤ) (i : ℕ) (was : ℤ) → was ≡ get_or new i (pos 0) → AreMoved c state plan old new i → i < length c.bounds → AreWithin old (clamp_magnitudes c) →
    unsigned_abs was ≤ unsigned_abs c.clamp
row_within c state plan old new i was read h lt w = rw (read, h.others i (omega arith)) (within_clamp c old i lt w)

-- there is one for each bound
pub rows_long : (c : Numbers) (old : List ℤ) → AreWithin old (clamp_magnitudes c) → length old ≡ length c.bounds
rows_long c old w = w.long ∙ length-clamp_reach c

-- once all rows are moved, they are the machine's next multipliers, raised
pub all_moved : (c : Numbers) (state plan old new : List ℤ) (i : ℕ) → AreMoved c state plan old new i → AreWithin old (clamp_magnitudes c) → length new ≡ length old → length old ≤ i →
    new ≡ raised c (next_multipliers c state plan (unraised c old))
all_moved c state plan old new i h w kept all =
    let long : length new ≡ length c.bounds = kept ∙ rows_long c old w in
    let end : length c.bounds ≤ i = omega (arith, all, rows_long c old w) in
    fill_by_all (λ k. at (next_multipliers c state plan (unraised c old)) k *ℤ pos (2 ^ lowering_of c k)) new (length c.bounds) (pos 0) long
    (λ k l. h.moved k (omega (arith, l, end)) ∙ ap (λ (z : ℤ). z *ℤ pos (2 ^ lowering_of c k)) (sym (next_unraised_at c state plan old k l)))
