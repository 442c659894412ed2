-- The script of `settle`, and what is answered and printed once its files are read.
use Rattle.std.proofs.Common.{◌≡◌, ◌≢◌, ◌⊎◌, inl, inr, ℕ, ◌≤◌, Bool, true, false, List, Option, Some, None, option_map, ◌++◌, refl, sym, ap, subst, ◌∙◌, arith}
use Rattle.std.specs.Prelude.{IfSome, IsSomeAnd}
use Rattle.io_edge.specs.Faults.{Rose, GrowsByPart}
use Rattle.io_edge.specs.declared.sink.Sink.{Ghosts as Screen}
use Rattle.mat_int.specs.Matrix.{Matrix}
use Rattle.qp_model.specs.problem.Design.{Design}
use Rattle.qp_model.specs.machine.Controller.{Numbers}
use Rattle.settle_check.specs.Settles.{PassesSettling}
use Rattle.settle_check.specs.CertificateText.{CertificateNumbers, certificate_in}
use Rattle.command_line.specs.Answers.{IsAnswer, IsCaused}
use Rattle.command_line.specs.Script.{ends}
use Rattle.command_line.specs.Does.{Prints}
use Rattle.command_line.proofs.Gathering.{IsSound, whole}
use Rattle.command_line.proofs.Following.{IsSoundWork}
use Rattle.command_line.specs.declared.status.Status.{Status}
use Rattle.command_line.specs.declared.status.Status.TheVariants.{Done, ReadFault, WriteFault}
use Rattle.command_loop.specs.ControllerFile.AnyText.{any_numbers}
use Rattle.command_loop.specs.ControllerFile.declared.any_controller.AnyController.{AnyController}
use Rattle.command_loop.proofs.TwoFiles.{plant_sound}
use Rattle.command_loop.proofs.DesignFiles.Stopping.{text_refused}
use Rattle.command_settle.specs.Disturbances.{no_disturbances}
use Rattle.command_settle.specs.Loops.{LoopsSettleOf}
use Rattle.command_settle.specs.Settle.{CertificateCalls, range_box, told_text, SettlingPrints, settle_act, settle_range, settle_certificate, settle_work, settle_deeds}
use Rattle.command_settle.specs.Files.{IsUntold, SettlingEnds}
use Rattle.command_settle.proofs.Calling.{calls_telling, fault_uncut}

-- nothing was printed by an answer that is neither `Done` nor a fault of the output
quietly : {O : Type 0} (s : Status) (old new : O) → s ≢ Done → s ≢ WriteFault 0 → (s ≡ Done) ⊎ ((s ≡ WriteFault 0) ⊎ (new ≡ old)) → new ≡ old
quietly s old new done fault (inl is) = absurd (done is)
quietly s old new done fault (inr (inl is)) = absurd (fault is)
quietly s old new done fault (inr (inr same)) = same

-- ---- the script
range_sound : (disturbed : Bool) (d : Design) (k : AnyController) (f : CertificateNumbers) → IsSound 4 (settle_range disturbed d k f)
range_sound true d k f = (omega arith, text_refused 4, whole (λ range. ends (settle_act d k f range)), calls_telling d (any_numbers k) f)
range_sound false d k f = calls_telling d (any_numbers k) f (no_disturbances (any_numbers k).states)

pub settle_sound : (disturbed : Bool) → IsSoundWork (settle_work disturbed)
settle_sound disturbed = record {
  sound = plant_sound (settle_certificate disturbed) (λ d k. (omega arith, text_refused 3, whole (settle_range disturbed d k), range_sound disturbed d k));
  first = inl refl;
}

-- ---- all files are right
module _ (d : Design) (k : AnyController) (f : CertificateNumbers) (range : Matrix) (s : Status) where
  abbrev c : Numbers
  c = any_numbers k

  called : SettlingEnds d c f range s → IsCaused s → IsAnswer (CertificateCalls d c f range) s
  called (inl memory) caused = absurd (caused.memory memory)
  called (inr (inl cut)) caused = absurd (caused.write 0 cut.0)
  called (inr (inr answer)) caused = answer

  no_fault : (file : ℕ) → CertificateCalls d c f range s → (s ≡ ReadFault file → ⊥) × (s ≡ WriteFault file → ⊥)
  no_fault file (inl done) = let e = done.0 in (λ is. cc, λ is. cc)
  no_fault file (inr fault) =
      let plain = fault_uncut d c f range fault.0 fault.1 in
      (λ is. plain.read file (subst (λ (t : Status). t ≡ ReadFault file) fault.2 is), λ is. plain.write file (subst (λ (t : Status). t ≡ WriteFault file) fault.2 is))

  no_read : SettlingEnds d c f range s → (file : ℕ) → s ≢ ReadFault file
  no_read (inl memory) file is = cc
  no_read (inr (inl cut)) file is = let e = cut.0 in cc
  no_read (inr (inr answer)) file is = (no_fault file answer.called).0 is

  started : SettlingEnds d c f range s → (file : ℕ) → s ≡ WriteFault file → (file ≡ 0) × PassesSettling d c (range_box range) (certificate_in f)
  started (inl memory) file is = absurd (let never : ⊥ = cc in never)
  started (inr (inl cut)) file is = let e = cut.0 in (let same : file ≡ 0 = cc in same, cut.1)
  started (inr (inr answer)) file is = absurd ((no_fault file answer.called).1 is)

  pub settled_printed : {O : Type 0} (screen : Screen O) (disturbed : Bool) (out now : O) → SettlingEnds d c f range s →
      IfSome (screen.got out) (λ old. IsSomeAnd (screen.got now) (SettlingPrints d k f range s old)) → (s ≡ Done) ⊎ ((s ≡ WriteFault 0) ⊎ (now ≡ out)) →
      (s ≡ WriteFault 0 → Rose (screen.faults out) (screen.faults now)) → screen.faults out ≤ screen.faults now → Prints screen (settle_deeds disturbed) out now s (settle_act d k f range)
  settled_printed screen disturbed out now end printed quiet failed no_fewer = record {
    called = called end;
    read_fault = no_read end;
    write_fault = λ file is. let found = started end file is in (found.0, found.1, failed (subst (λ (i : ℕ). s ≡ WriteFault i) found.0 is));
    shows = printed;
    quiet = λ earlier. quietly s out now earlier.done earlier.fault quiet;
    no_fewer = no_fewer;
  }

-- ---- the text is put
module _ (d : Design) (k : AnyController) (f : CertificateNumbers) (range : Matrix) (s : Status) where
  abbrev told : Numbers
  told = any_numbers k

  module _ (bytes : List ℕ) (text : bytes ≡ told_text d told f range) (settles : LoopsSettleOf d k (range_box range) (certificate_in f))
      (passes : PassesSettling d told (range_box range) (certificate_in f)) (answer : IsAnswer (CertificateCalls d told f range) Done) where
    pub put_ends : (s ≡ Done) ⊎ (s ≡ WriteFault 0) → SettlingEnds d told f range s
    put_ends (inl is) = inr (inr (subst (λ (t : Status). IsAnswer (CertificateCalls d told f range) t) (sym is) answer))
    put_ends (inr is) = inr (inl (is, passes))

    all_put : (old new : List ℕ) → s ≡ Done → new ≡ old ++ bytes → SettlingPrints d k f range s old new
    all_put old new is put = record {
      done = λ e. record { settles = settles; printed = put ∙ ap (λ (t : List ℕ). old ++ t) text };
      fault = λ e. absurd (let never : ⊥ = cc in never);
      other = λ a b. absurd (a is);
    }

    part_put : (old new : List ℕ) → s ≡ WriteFault 0 → GrowsByPart old new bytes → SettlingPrints d k f range s old new
    part_put old new is part = record {
      done = λ e. absurd (let never : ⊥ = cc in never);
      fault = λ e. subst (λ (t : List ℕ). GrowsByPart old new t) text part;
      other = λ a b. absurd (b is);
    }

    pub put_prints : (first last : Option (List ℕ)) → (s ≡ Done) ⊎ (s ≡ WriteFault 0) → (s ≡ Done → last ≡ option_map (λ old. old ++ bytes) first) →
        (s ≡ WriteFault 0 → IfSome first (λ old. IsSomeAnd last (λ new. GrowsByPart old new bytes))) → IfSome first (λ old. IsSomeAnd last (SettlingPrints d k f range s old))
    put_prints None last only done cut = tt
    put_prints (Some old) last (inl is) done cut = subst (λ (o : Option (List ℕ)). IsSomeAnd o (SettlingPrints d k f range s old)) (sym (done is)) (all_put old (old ++ bytes) is refl)
    put_prints (Some old) (Some new) (inr is) done cut = part_put old new is (cut is)
    put_prints (Some old) None (inr is) done cut = cut is

  -- or there is none
  pub untold_ends : IsUntold d told f range s → SettlingEnds d told f range s
  untold_ends (inl memory) = inl memory
  untold_ends (inr answer) = inr (inr answer.0)

  untold_done : IsUntold d told f range s → s ≢ Done
  untold_done (inl memory) is = cc
  untold_done (inr answer) is = answer.1.done is

  untold_cut : IsUntold d told f range s → s ≢ WriteFault 0
  untold_cut (inl memory) is = cc
  untold_cut (inr answer) is = answer.1.write 0 is

  pub untold_prints : (got : Option (List ℕ)) → IsUntold d told f range s → IfSome got (λ old. IsSomeAnd got (SettlingPrints d k f range s old))
  untold_prints None untold = tt
  untold_prints (Some old) untold = record {
    done = λ is. absurd (untold_done untold is);
    fault = λ is. absurd (untold_cut untold is);
    other = λ a b. refl;
  }

  pub untold_fault : {R : Type 0} → IsUntold d told f range s → s ≡ WriteFault 0 → R
  untold_fault untold is = absurd (untold_cut untold is)

-- what was put or not
pub put_or_not : {R : Type 0} (s : Status) → (s ≡ Done) ⊎ (s ≡ WriteFault 0) → (s ≡ Done) ⊎ ((s ≡ WriteFault 0) ⊎ R)
put_or_not s (inl is) = inl is
put_or_not s (inr is) = inr (inl is)
