-- What is printed of the lines of runs.
use Rattle.std.proofs.Common.{◌≡◌, ◌≢◌, inl, inr, ℕ, ◌+◌, ◌<◌, ◌≤◌, ℤ, List, ◌++◌, length, refl, ap, subst, arith}
use Rattle.mat_int.specs.Matrix.{Matrix, row_of}
use Rattle.mac_listing.specs.Listing.{Instructions}
use Rattle.mac_machine.specs.Machine.{NeverTraps}
use Rattle.command_line.proofs.Doing.{IsRefusal}
use Rattle.command_line.specs.declared.status.Status.{Status}
use Rattle.command_line.specs.declared.status.Status.TheVariants.{Done, WriteFault}
use Rattle.io_edge.specs.Faults.{GrowsByPart}
use Rattle.plan_lines.specs.Lines.{AreLinesOf}
use Rattle.plan_lines.proofs.Acting.{IsToldBy}
use Rattle.plan_lines.proofs.PlanLines.{text_is, each_line}
use Rattle.command_play.specs.Plays.{HaveRunRoom, IsTrapped, run_line, run_lines}
use Rattle.command_play.specs.Play.{play_act}
use Rattle.command_play.specs.Making.{TrapsFrom, IsRunLine, making_of_runs}
use Rattle.command_play.specs.Printing.{TellsTrap, TellsTrapLater, PlaysPrint}
use Rattle.command_play.proofs.OneCall.{one_call}

-- a trap is a refusal
trap_refusal : (l : Instructions) (entry : ℕ) (xi : List ℤ) (s : Status) → TrapsFrom l entry xi s → IsRefusal s
trap_refusal l entry xi s traps =
    let is = traps.is in
    record { done = λ e. cc; memory = λ e. cc; read = λ f e. cc; write = λ f e. cc; telling = record { usage = λ e. cc; text = λ f e. cc; controller = λ f e. cc } }

module _ (l : Instructions) (m : Matrix) where
  lines_are : (k : ℕ) (text : List ℕ) → k ≤ length m.rows → AreLinesOf (IsRunLine l) m k text → text ≡ run_lines l m k
  lines_are = text_is (run_line l) m (IsRunLine l) (λ xi line this. this.is)

  room : (k : ℕ) (text : List ℕ) → AreLinesOf (IsRunLine l) m k text → HaveRunRoom l m k
  room = each_line (NeverTraps l) m (IsRunLine l) (λ xi line this. this.room)

  silent : (s : Status) (old : List ℕ) → s ≢ Done → s ≢ WriteFault 0 → (TellsTrap s → ⊥) → PlaysPrint l m s old old
  silent s old done fault trap = record { done = λ is. absurd (done is); trap = λ told. absurd (trap told); fault = λ is. absurd (fault is); memory = λ is. inl refl; other = λ a b d e. refl }

  pub plays_told : IsToldBy (making_of_runs l) m TellsTrapLater (play_act l m)
  plays_told = record {
    one = one_call l m;
    refused = λ s. inl;
    silent = λ s why old. elim why [
      | inl is ↦ silent s old (λ e. cc) (λ e. cc) (λ trap. let told = trap.3 in cc)
      | inr refused ↦ (let is = refused.is in silent s old (λ e. cc) (λ e. cc) (λ trap. let told = trap.3 in cc))
    ];
    all = λ text run are. (
      inr (run, inr (refl, room (length m.rows) text are)),
      λ old. record {
        done = λ is. (run, room (length m.rows) text are, ap (λ (x : List ℕ). old ++ x) (lines_are (length m.rows) text (omega arith) are));
        trap = λ told. absurd (let is = told.3 in let never : ⊥ = cc in never);
        fault = λ is. absurd (let never : ⊥ = cc in never);
        memory = λ is. absurd (let never : ⊥ = cc in never);
        other = λ done trap fault memory. absurd (done refl);
      },
    );
    short = λ k text le run are old. record {
      done = λ is. absurd (let never : ⊥ = cc in never);
      trap = λ told. absurd (let is = told.3 in let never : ⊥ = cc in never);
      fault = λ is. absurd (let never : ⊥ = cc in never);
      memory = λ is. inr (run, record { count = k; some = le; room = room k text are; printed = ap (λ (x : List ℕ). old ++ x) (lines_are k text le are) });
      other = λ done trap fault memory. absurd (memory refl);
    };
    cut = λ k text le some run are. (
      record { inside = run; some = omega (arith, le, some); room = room k text are 0 some },
      λ old new part. record {
        done = λ is. absurd (let never : ⊥ = cc in never);
        trap = λ told. absurd (let is = told.3 in let never : ⊥ = cc in never);
        fault = λ is. (run, record { count = k; some = le; room = room k text are; printed = subst (λ (x : List ℕ). GrowsByPart old new x) (lines_are k text le are) part });
        memory = λ is. absurd (let never : ⊥ = cc in never);
        other = λ done trap fault memory. absurd (fault refl);
      },
    );
    stopped = λ k text s lt run are traps. (
      trap_refusal l (k + 1) (row_of m k) s traps,
      inr (run, inl (trapped k text s lt are traps)),
      λ old. record {
        done = λ is. absurd (let told = traps.is in let never : ⊥ = cc in never);
        trap = λ told. (run, record { trapped = trapped k text s lt are traps; printed = ap (λ (x : List ℕ). old ++ x) (lines_are k text (omega (arith, lt)) are) });
        fault = λ is. absurd (let told = traps.is in let never : ⊥ = cc in never);
        memory = λ is. absurd (let told = traps.is in let never : ⊥ = cc in never);
        other = λ done trap fault memory. absurd (trap (k + 1, traps.step, traps.place, traps.is));
      },
      λ some. (k + 1, traps.step, traps.place, traps.is, omega (arith, some)),
    );
  }
    where
      trapped : (k : ℕ) (text : List ℕ) (s : Status) → k < length m.rows → AreLinesOf (IsRunLine l) m k text → TrapsFrom l (k + 1) (row_of m k) s → IsTrapped l m s
      trapped k text s lt are traps = record { index = k; step = traps.step; place = traps.place; there = lt; before = room k text are; here = traps.here; is = traps.is }
