-- The course of a loop by the plain machine.
use Rattle.std.proofs.Common.{◌≡◌, ℕ, ℤ, List, Option, Some, None, Result, Ok, Err, ◌∙◌, ap, sym, subst}
use Rattle.std.specs.Prelude.{IfOk}
use Rattle.mat_int.specs.Matrix.{Matrix, entry_of}
use Rattle.qp_model.specs.problem.Design.{Design}
use Rattle.qp_model.specs.machine.Controller.{Numbers}
use Rattle.qp_model.specs.machine.Machine.{loaded}
use Rattle.qp_model.specs.machine.Successor.{state_after}
use Rattle.qp_model.specs.text.LoopLines.{loop_text}
use Rattle.closed_loop.specs.Looping.{looping_of_plain, lines_of}
use Rattle.closed_loop.specs.Under.{states_under, lines_under, states_by, lines_by, unshifted_by, unshifted_lines_by}
use Rattle.fast_machine.specs.FastProgress.{FastProgress}
use Rattle.fixed_kernel.specs.Progress.{Progress}
use Rattle.closed_loop.proofs.Plain.{plain_states, plain_after, plain_text}
use Rattle.command_loop.specs.Loop.{Course, course_of, course_by}

courses : (f g : List ℤ → ℕ → List ℤ) (u v : ℕ → List ℤ → ℕ → List ℕ) → f ≡ g → u ≡ v → (let a : Course = record { states = f; lines = u } in a) ≡ record { states = g; lines = v }
courses f g u v same text = ap (λ (x : List ℤ → ℕ → List ℤ). (let a : Course = record { states = x; lines = u } in a)) same ∙ ap (λ (x : ℕ → List ℤ → ℕ → List ℕ). (let a : Course = record { states = g; lines = x } in a)) text

pub plain_course : (d : Design) (c : Numbers) (v : Option Matrix) → course_by d (looping_of_plain c) v ≡ course_of d c v
plain_course d c None = courses (unshifted_by d (looping_of_plain c)) (state_after d c) (unshifted_lines_by d (looping_of_plain c)) (loop_text d c)
    (λ t start. plain_after d c start t) (λ t entry start. plain_text d c entry start t)
plain_course d c (Some m) = courses (λ start. states_by d (looping_of_plain c) start m) (λ start. states_under d c start m)
    (λ entry start. lines_by d (looping_of_plain c) entry start m) (λ entry start. lines_under d c entry start m)
    (λ t start. plain_states d c start (entry_of m) t)
    (λ t entry start. ap (lines_of (looping_of_plain c) entry) (plain_states d c start (entry_of m)) t)

-- ---- kernels that are prepared
abbrev pub prepared : Numbers → Progress
prepared c = record { controller = c; state = c.low; made = 0 }

abbrev pub fast_prepared : Numbers → FastProgress
fast_prepared c = record { controller = c; state = loaded c c.low; made = 0 }

-- what is said of a value that is this one, where there is one
pub ok_is : {T E : Type 0} (r : Result T E) (t : T) (P : T → Type 0) → P t → IfOk r (λ x. x ≡ t) → IfOk r P
ok_is (Ok x) t P h is = subst P (sym is) h
ok_is (Err e) t P h is = tt
