-- A listing and states call for one answer.
use Rattle.std.proofs.Common.{◌≡◌, ◌⊎◌, ◌∙◌, inl, inr, ℕ, ◌+◌, length, sym, ap, subst}
use Rattle.mat_int.specs.Matrix.{Matrix, row_of}
use Rattle.mac_listing.specs.Listing.{Instructions}
use Rattle.mac_machine.specs.Machine.{NeverTraps}
use Rattle.mac_machine.specs.Box.{IsInBox, IsFirstOutsideBox}
use Rattle.mac_machine.specs.Traps.{Stops}
use Rattle.mac_machine.specs.declared.stop.Stop.{Stop}
use Rattle.mac_machine.specs.declared.stop.Stop.TheVariants as stops
use Rattle.mac_machine.proofs.Stopping.{first_one, no_trap, one_trap, not_in_box, one_coordinate}
use Rattle.plan_lines.proofs.Acting.{IsJudged, one_out, not_held}
use Rattle.command_play.specs.Plays.{HaveRunRoom, IsTrapped, PlaysCall}
use Rattle.command_line.specs.declared.status.Status.{Status}
use Rattle.command_line.specs.declared.status.Status.TheVariants.{Done, Trap}

-- ---- the first state outside the box
judged : (l : Instructions) (m : Matrix) → IsJudged (λ e. IsInBox l (row_of m e)) (λ e. IsFirstOutsideBox l (row_of m e))
judged l m = record { none = λ e k. not_in_box l (row_of m e) k; one = λ e j k. one_coordinate l (row_of m e) j k }

-- ---- the first run that traps
trap_status : ℕ → Stop → Status
trap_status entry (stops.Trap step place) = Trap entry step place
trap_status entry (stops.OutsideBox k) = Done

trapped_none : (l : Instructions) (m : Matrix) (s : Status) (a : IsTrapped l m s) → NeverTraps l (row_of m a.index) → ⊥
trapped_none l m s a room = no_trap l (row_of m a.index) a.step a.place room a.here.1

one_trapped : (l : Instructions) (m : Matrix) (s t : Status) → IsTrapped l m s → IsTrapped l m t → t ≡ s
unfolding trap_status
one_trapped l m s t a b =
    let same = first_one (λ e. NeverTraps l (row_of m e)) a.index b.index a.before (trapped_none l m s a) b.before (trapped_none l m t b) in
    let moved = subst (λ (e : ℕ). Stops l (row_of m e) (stops.Trap a.step a.place)) same a.here in
    let stop = one_trap l (row_of m b.index) a.step a.place b.step b.place moved b.here in
    b.is ∙ ap (λ (e : ℕ). Trap (e + 1) b.step b.place) (sym same) ∙ ap (trap_status (a.index + 1)) (sym stop) ∙ sym a.is

pub not_all_room : (l : Instructions) (m : Matrix) (s : Status) → IsTrapped l m s → HaveRunRoom l m (length m.rows) → ⊥
not_all_room l m s a room = trapped_none l m s a (room a.index a.there)

-- ---- both
pub one_call : (l : Instructions) (m : Matrix) (s t : Status) → PlaysCall l m s → PlaysCall l m t → t ≡ s
one_call l m s t (inl a) (inl b) = one_out (judged l m) (length m.rows) s t a b
one_call l m s t (inl a) (inr b) = absurd (not_held (judged l m) (length m.rows) s a b.0)
one_call l m s t (inr a) (inl b) = absurd (not_held (judged l m) (length m.rows) t b a.0)
one_call l m s t (inr a) (inr b) = ends a.1 b.1
  where
    ends : IsTrapped l m s ⊎ ((s ≡ Done) × HaveRunRoom l m (length m.rows)) → IsTrapped l m t ⊎ ((t ≡ Done) × HaveRunRoom l m (length m.rows)) → t ≡ s
    ends (inl x) (inl y) = one_trapped l m s t x y
    ends (inl x) (inr y) = absurd (not_all_room l m s x y.1)
    ends (inr x) (inl y) = absurd (not_all_room l m t y x.1)
    ends (inr x) (inr y) = y.0 ∙ sym x.0
