-- Where `settle` ends with 0, all loops settle.
use Rattle.std.proofs.Common.{◌≡◌, inl, inr, ℕ, Bool, true, false, List, Option, Some, None, refl, sym, subst}
use Rattle.std.specs.Prelude.{IfSome, IsSomeAnd}
use Rattle.io_edge.specs.Faults.{Files}
use Rattle.mat_int.specs.Matrix.{Matrix}
use Rattle.qp_model.specs.problem.Design.{Design}
use Rattle.qp_model.specs.problem.Parts.{design_of, IsDesign}
use Rattle.qp_model.specs.machine.Controller.{IsSized}
use Rattle.qp_model.specs.machine.Successor.{IsFor}
use Rattle.design_files.specs.Document.{document_of}
use Rattle.overflow_check.specs.FastController.{with_last_version}
use Rattle.settle_check.specs.Still.{box_of, IsPartOf}
use Rattle.settle_check.specs.ClosedRows.{IsLoopFor}
use Rattle.settle_check.specs.Settles.{PassesSettling}
use Rattle.settle_check.specs.CertificateText.{CertificateNumbers, certificate_in, box_in}
use Rattle.settle_check.proofs.CountedFacts.{positive}
use Rattle.settle_check.proofs.StillLaws.{plain_sized}
use Rattle.settle_check.proofs.SettlingLaws.{settling_law}
use Rattle.settle_check.proofs.SettleFacts.{settles}
use Rattle.command_line.specs.Answers.{Contents, ForContents, IsAnswer, IsCaused}
use Rattle.command_line.specs.Script.{calls_of, shows_of}
use Rattle.command_line.proofs.Composing.{weaker}
use Rattle.command_line.specs.declared.status.Status.{Status}
use Rattle.command_line.specs.declared.status.Status.TheVariants.{Done}
use Rattle.design_files.specs.declared.places.Asked.{Asked}
use Rattle.command_loop.specs.ControllerFile.AnyText.{any_numbers}
use Rattle.command_loop.specs.ControllerFile.declared.any_controller.AnyController.{AnyController}
use Rattle.command_loop.specs.ControllerFile.declared.any_controller.AnyController.TheVariants.{Plain, Fast}
use Rattle.command_loop.proofs.CommandFiles.Stopping.{controllers_refused}
use Rattle.command_loop.proofs.TwoFiles.{mismatch_refusal}
use Rattle.command_loop.specs.DesignFiles.Texts.{AskedRight}
use Rattle.command_loop.specs.CommandFiles.Texts.{AnyControllerRight}
use Rattle.command_loop.proofs.DesignFiles.Stopping.{text_refused}
use Rattle.command_settle.specs.CertificateFile.{CertificateRight}
use Rattle.command_settle.specs.Disturbances.{no_disturbances, HoldsDisturbances}
use Rattle.command_settle.specs.Settle.{CertificateCalls, OfCertificate, SettlingPrints, range_box, settle_range, settle_script}
use Rattle.command_settle.specs.Settled.{SettlesTold, AreLoopsSettled}
use Rattle.command_settle.specs.Loops.{LoopsSettleOf}
use Rattle.command_settle.proofs.Calling.{done_passes}
use Rattle.command_settle.proofs.Loops.{any_settle}

-- ---- loops settle by what files hold
held_design : (a : Asked) (bytes : List ℕ) → AskedRight a bytes → IsDesign a.design
held_design a bytes right = go (document_of bytes) right (λ m h. h.design)
  where
    go : {M Q : Type 0} {P : M → Type 0} (o : Option M) → IsSomeAnd o P → ((m : M) → P m → Q) → Q
    go (Some m) h f = f m h
    go None h f = absurd h

held_sized : (k : AnyController) (bytes : List ℕ) → AnyControllerRight k bytes → IsSized (with_last_version (any_numbers k))
held_sized (Plain c) bytes right = plain_sized c right.controller.form.sized
held_sized (Fast c) bytes right = right.controller.form.sized.rest

held_settles : (a : Asked) (k : AnyController) (f : CertificateNumbers) (range : Matrix) (design controller certificate : List ℕ) → AskedRight a design → AnyControllerRight k controller →
    IsFor (any_numbers k) (design_of a.design) → CertificateRight (any_numbers k) f certificate → PassesSettling (design_of a.design) (any_numbers k) (range_box range) (certificate_in f) →
    LoopsSettleOf (design_of a.design) k (range_box range) (certificate_in f)
held_settles a k f range design controller certificate d r for z passes =
    let c = any_numbers k in
    let loop : IsLoopFor (design_of a.design) c = record { plant = positive a.design.plant_den (held_design a design d).plant_den; sized = held_sized k controller r; sizes = for } in
    let inside = subst (λ (n : ℕ). IsPartOf n (box_of c.low c.high) (box_in f.still)) (sym for.states) z.inside in
    any_settle (design_of a.design) k (range_box range) (certificate_in f) loop passes.still
    (settling_law (design_of a.design) c (range_box range) (certificate_in f) loop (settles (design_of a.design) c (range_box range) (certificate_in f) inside z.some passes))

-- ---- what is called for
of_range : (disturbed : Bool) (n : Contents) (d : Design) (k : AnyController) (f : CertificateNumbers) → calls_of (settle_range disturbed d k f) n Done →
    (range : Matrix) × HoldsDisturbances disturbed (any_numbers k).states (n 4) range × CertificateCalls d (any_numbers k) f range Done
of_range true n d k f (inl refused) = absurd ((text_refused 4 (n 4) Done refused).done refl)
of_range true n d k f (inr (range, right, call)) = (range, right, call)
of_range false n d k f call = (no_disturbances (any_numbers k).states, refl, call)

module _ (disturbed : Bool) (n : Contents) (got got_now : Option (List ℕ)) (none : got ≡ None) where
  abbrev Told : Design → AnyController → CertificateNumbers → Matrix → Type 0
  Told d k f range = SettlesTold d k f range got got_now

  untold : (d : Design) (k : AnyController) (f : CertificateNumbers) (range : Matrix) → LoopsSettleOf d k (range_box range) (certificate_in f) → Told d k f range
  untold d k f range settles = record { settles = settles; printed = rw none tt }

  of_call : calls_of (settle_script disturbed) n Done → OfCertificate disturbed n Told
  of_call (inl refused) = absurd ((text_refused 1 (n 1) Done refused).done refl)
  of_call (inr (a, design, inl refused)) = absurd ((controllers_refused 2 (n 2) Done refused).done refl)
  of_call (inr (a, design, inr (k, controller, inl other))) = absurd ((mismatch_refusal (design_of a.design) (any_numbers k) Done other).done refl)
  of_call (inr (a, design, inr (k, controller, inr (for, inl refused)))) = absurd ((text_refused 3 (n 3) Done refused).done refl)
  of_call (inr (a, design, inr (k, controller, inr (for, inr (f, certificate, rest))))) =
      let last = of_range disturbed n (design_of a.design) k f rest in
      record {
        a = a;
        k = k;
        f = f;
        range = last.0;
        holds = record { design_right = design; controller_right = controller; matched = for; certificate_right = certificate };
        shifts = last.1;
        so = untold (design_of a.design) k f last.0
            (held_settles a k f last.0 design.bytes controller.bytes certificate.bytes design.right controller.right for certificate.right (done_passes (design_of a.design) (any_numbers k) f last.0 last.2));
      }

-- ---- what was printed
of_range_print : (disturbed : Bool) (n : Contents) (old new : List ℕ) (d : Design) (k : AnyController) (f : CertificateNumbers) → shows_of (settle_range disturbed d k f) n Done old new →
    (range : Matrix) × HoldsDisturbances disturbed (any_numbers k).states (n 4) range × SettlingPrints d k f range Done old new
of_range_print true n old new d k f (inl nothing) = absurd (nothing.done refl)
of_range_print true n old new d k f (inr (range, right, print)) = (range, right, print)
of_range_print false n old new d k f print = (no_disturbances (any_numbers k).states, refl, print)

module _ (disturbed : Bool) (n : Contents) (old new : List ℕ) where
  of_print : shows_of (settle_script disturbed) n Done old new → OfCertificate disturbed n (λ d k f range. SettlesTold d k f range (Some old) (Some new))
  of_print (inl nothing) = absurd (nothing.done refl)
  of_print (inr (a, design, inl nothing)) = absurd (nothing.done refl)
  of_print (inr (a, design, inr (k, controller, inl nothing))) = absurd (nothing.done refl)
  of_print (inr (a, design, inr (k, controller, inr (for, inl nothing)))) = absurd (nothing.done refl)
  of_print (inr (a, design, inr (k, controller, inr (for, inr (f, certificate, rest))))) =
      let last = of_range_print disturbed n old new (design_of a.design) k f rest in
      let done = last.2.done refl in
      record {
        a = a;
        k = k;
        f = f;
        range = last.0;
        holds = record { design_right = design; controller_right = controller; matched = for; certificate_right = certificate };
        shifts = last.1;
        so = record { settles = done.settles; printed = done.printed };
      }

-- ---- the clause of the program
caused : IsCaused Done
caused = record { memory = λ e. cc; read = λ file e. cc; write = λ file e. cc }

loops_settled : (disturbed : Bool) (words : List (List ℕ)) (held : Option Files) (got got_now : Option (List ℕ)) →
    (IsCaused Done → ForContents words held (λ k. IsAnswer (calls_of (settle_script disturbed) k) Done)) →
    IfSome got (λ old. IsSomeAnd got_now (λ new. ForContents words held (λ k. shows_of (settle_script disturbed) k Done old new))) → AreLoopsSettled disturbed words held got got_now
loops_settled disturbed words held None got_now called shows =
    weaker words held (λ k. IsAnswer (calls_of (settle_script disturbed) k) Done) (λ k. OfCertificate disturbed k (λ d k f range. SettlesTold d k f range None got_now))
    (λ k answer. of_call disturbed k None got_now refl answer.called) (called caused)
loops_settled disturbed words held (Some old) (Some new) called shows =
    weaker words held (λ k. shows_of (settle_script disturbed) k Done old new) (λ k. OfCertificate disturbed k (λ d k f range. SettlesTold d k f range (Some old) (Some new)))
    (λ k print. of_print disturbed k old new print) shows
loops_settled disturbed words held (Some old) None called shows = absurd shows

pub settled : (disturbed : Bool) (words : List (List ℕ)) (held : Option Files) (s : Status) (got got_now : Option (List ℕ)) →
    (IsCaused s → ForContents words held (λ k. IsAnswer (calls_of (settle_script disturbed) k) s)) →
    IfSome got (λ old. IsSomeAnd got_now (λ new. ForContents words held (λ k. shows_of (settle_script disturbed) k s old new))) → s ≡ Done → AreLoopsSettled disturbed words held got got_now
settled disturbed words held s got got_now called shows is = loops_settled disturbed words held got got_now
    (subst (λ (t : Status). IsCaused t → ForContents words held (λ k. IsAnswer (calls_of (settle_script disturbed) k) t)) is called)
    (subst (λ (t : Status). IfSome got (λ old. IsSomeAnd got_now (λ new. ForContents words held (λ k. shows_of (settle_script disturbed) k t old new)))) is shows)
