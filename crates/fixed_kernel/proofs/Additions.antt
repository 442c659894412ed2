-- Sums to which a plan is added, one after the other, at any width.
use Rattle.std.proofs.Common.{◌≡◌, ◌≢◌, ℕ, ◌+◌, ◌<◌, ◌≤◌, ◌^◌, ℤ, pos, ◌+ℤ◌, List, length, set, get_or, get_or-set_other, unsigned_abs, to_z, of_z, FitsSigned, arith, refl, ◌∙◌}
use mir.Syntax.{Width}
use mir.Val.{hbits}
use Rattle.std.proofs.lemmas.Int.{to_z-of_z, fits_signed_from_abs}
use Rattle.std.proofs.lemmas.List.FromFn.{fill_by_all}
use Rattle.integer_algebra.specs.Sums.{at}
use Rattle.mat_int.proofs.Dots.{abs-add_le}
use Rattle.qp_model.specs.machine.Machine.{added}
use Rattle.fixed_kernel.proofs.Copies.{filled_more}

-- the sums before `i` are added to, and no other
pub record AreAdded (plan old new : List ℤ) (i : ℕ) : Type 0 where
  pub moved : (k : ℕ) → k < i → get_or new k (pos 0) ≡ get_or old k (pos 0) +ℤ get_or plan k (pos 0)
  pub others : (k : ℕ) → i ≤ k → get_or new k (pos 0) ≡ get_or old k (pos 0)

-- the next sum fits its word, and with it one more is added to
pub record AddsNext (w : Width) (plan old new : List ℤ) (i : ℕ) (z : ℤ) : Type 0 where
  pub fits : FitsSigned w z
  pub more : AreAdded plan old (set new i (to_z w (of_z w z))) (i + 1)

pub adds_next : (w : Width) (plan old new : List ℤ) (i : ℕ) (sum entry : ℤ) → i < length new → AreAdded plan old new i → sum ≡ get_or new i (pos 0) → entry ≡ get_or plan i (pos 0) →
    unsigned_abs (at old i) + unsigned_abs (at plan i) < 2 ^ hbits w → AddsNext w plan old new i (sum +ℤ entry)
adds_next w plan old new i sum entry lt h s e room =
    let is : sum +ℤ entry ≡ get_or old i (pos 0) +ℤ get_or plan i (pos 0) = rw (s, e, h.others i (omega arith)) refl in
    let fits : FitsSigned w (sum +ℤ entry) = fits_signed_from_abs w _ (rw is (omega (arith, abs-add_le (get_or old i (pos 0)) (get_or plan i (pos 0)), room))) in
    record {
      fits = fits;
      more = record {
        moved = filled_more (λ k. get_or old k (pos 0) +ℤ get_or plan k (pos 0)) new i _ lt (to_z-of_z w _ fits ∙ is) h.moved;
        others = λ k l. let ne : k ≢ i = omega (arith, l) in rw get_or-set_other (h.others k (omega (arith, l)));
      };
    }

-- once all are added to, they are the sums with the plan
pub all_added : (plan old new : List ℤ) (i : ℕ) → AreAdded plan old new i → length new ≡ length plan → length plan ≤ i → new ≡ added old plan
all_added plan old new i h long end = fill_by_all (λ k. get_or old k (pos 0) +ℤ get_or plan k (pos 0)) new (length plan) (pos 0) long (λ k l. h.moved k (omega (arith, l, end)))
