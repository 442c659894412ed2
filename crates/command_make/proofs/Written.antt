-- What the commands do by their scripts, and what they leave.
use Rattle.std.proofs.Common.{◌≡◌, inl, inr, refl, ℕ, suc, ◌<◌, ◌≤◌, Bool, true, false, List, length, ℤ, pos, Option, Some, None, sym, subst, ◌∙◌, arith}
use Rattle.std.specs.Prelude.{IfSome, IsSomeAnd, ◌≤ℤ◌}
use Rattle.std.specs.Int.Signed.{≤ℤ_refl}
use Rattle.io_edge.specs.Faults.{Files}
use Rattle.integer_algebra.specs.Sums.{at, none}
use Rattle.mat_int.specs.Matrix.{Matrix, row_of}
use Rattle.qp_model.specs.problem.Design.{Design}
use Rattle.qp_model.specs.problem.Policy.{Plans}
use Rattle.qp_model.specs.problem.Parts.{design_numbers, design_of}
use Rattle.qp_model.specs.machine.Controller.{Numbers}
use Rattle.qp_model.specs.machine.Successor.{state_after}
use Rattle.qp_model.specs.bounds.Printed.{Printed}
use Rattle.qp_model.specs.declared.design_parts.DesignParts.{DesignParts}
use Rattle.closed_loop.specs.Looping.{looping_of_fast, state_by}
use Rattle.closed_loop.specs.Under.{unshifted_by}
use Rattle.stay_check.specs.FaceForms.{FaceNumbers}
use Rattle.stay_check.specs.LoopStay.{state_under, IsKeptAt}
use Rattle.stay_check.proofs.LoopLaws.{unshifted}
use Rattle.stay_check.proofs.CheckFacts.{zeros_are}
use Rattle.command_line.specs.Words.{word_of}
use Rattle.command_line.specs.Answers.{Contents, FileHolds}
use Rattle.command_line.specs.Limit.{file_limit}
use Rattle.command_line.specs.Script.{Script, ends, reads_where, calls_of, leaves_at, leaves_of}
use Rattle.command_line.specs.TwoTexts.{BothStand, Two, LeavesTwo}
use Rattle.command_line.proofs.Gathering.{IsSound, Sees, sees_next, sees_where, sound_where, whole}
use Rattle.command_line.proofs.Following.{IsSoundWork, left_told}
use Rattle.command_line.proofs.Beside.{IsSilent, silent_where}
use Rattle.command_line.proofs.TwoTexts.{some_weaker}
use Rattle.command_line.specs.declared.status.Status.{Status}
use Rattle.command_line.specs.declared.status.Status.TheVariants.{Done}
use Rattle.controller_text.specs.TextForm.{IsFastControllerText}
use Rattle.controller_text.proofs.Lengths.{any_length_law}
use Rattle.design_files.specs.Document.{document_of}
use Rattle.design_files.specs.Values.{values_of}
use Rattle.design_files.specs.DesignText.{IsDesignDocument, IsDesignText}
use Rattle.design_files.specs.AskedText.{asks_fast, IsAskedDocument, IsAskedText}
use Rattle.design_files.specs.declared.places.Asked.{Asked as Wanted}
use Rattle.command_design_files.specs.Texts.{DesignRight, AskedRight, PolicyRight}
use Rattle.command_design_files.specs.Reading.{policy_kind, asked_numbers}
use Rattle.command_files.specs.Reading.{faces_kind, range_kind}
use Rattle.command_design_files.proofs.Stopping.{text_refused}
use Rattle.command_generate.specs.Engine.Targets.{Targets, targets_of}
use Rattle.command_generate.specs.Made.{IsMadeOf, AreTextsBy}
use Rattle.command_generate.specs.Generate.{HoldsInputs, IsMadeFrom}
use Rattle.command_generate.proofs.SameDesign.{along}
use Rattle.command_generate.proofs.Written.{made_and_written, made_and_written_by}
use Rattle.command_make.specs.Stay.{no_shifts, IsRangeIn, KeepsLoopsBy, KeepsLoops, LoopsStayBy, LoopsStay, IsFastKeptAt, KeepsFastLoops, FastLoopsStay}
use Rattle.command_make.specs.Made.{IsLeanMadeOf, IsFastMadeOf, IsTextBy}
use Rattle.command_make.specs.Lean.{IsMadeOfFiles}
use Rattle.command_make.specs.Fast.{HoldsFastInputs, IsFastGeneratedFrom, IsAnyGenerated, IsAnyGeneratedStayed, IsFastMadeFrom, IsAnyWritten, IsAnyStayed}
use Rattle.command_make.specs.Make.{IsMadeUnder, Making, under_of, make_act, with_range, with_faces, with_reference, with_policy, after_policy, make_after, make_work, generate_asked, stay_asked, lean_asked}
use Rattle.command_make.specs.declared.command.Asked.{Asked}
use Rattle.command_make.proofs.Calling.{telling}

-- ---- a script that asks for its files in their order
module _ (asked : Asked) (faces_order : 3 < asked.faces) (range_order : asked.faces < asked.range) (fast : Bool) (d : Design) (t : Targets) (Made : Making) (plans : Plans) where
  range_sound : (least : ℕ) → least ≤ asked.range → (reference : Option Plans) (faces : Option FaceNumbers) → IsSound least (with_range asked fast d t Made plans reference faces)
  range_sound least low reference faces =
      sound_where least asked.disturbed _ _ _ low (text_refused asked.range) (whole (λ range. ends (make_act asked fast d t Made plans reference (under_of d.states faces (Some range)))))
      (λ range. telling d t plans reference fast (under_of d.states faces (Some range))) (telling d t plans reference fast (under_of d.states faces None))

  faces_sound : (least : ℕ) → least ≤ 4 → (reference : Option Plans) → IsSound least (with_faces asked fast d t Made plans reference)
  faces_sound least low reference =
      sound_where least asked.faced _ _ _ (omega (arith, low, faces_order)) (text_refused asked.faces) (whole (λ faces. with_range asked fast d t Made plans reference (Some faces)))
      (λ faces. range_sound (suc asked.faces) (omega (arith, range_order)) reference (Some faces)) (range_sound least (omega (arith, low, faces_order, range_order)) reference None)

  reference_sound : IsSound 3 (with_reference asked fast d t Made plans)
  reference_sound =
      sound_where 3 asked.lean _ _ _ (omega arith) (text_refused 3) (whole (λ references. with_faces asked fast d t Made plans (Some references))) (λ references. faces_sound 4 (omega arith) (Some references)) (faces_sound 3 (omega arith) None)

-- what is called for speaks of nothing that is made; of a design its numbers are seen
makes_any : (asked : Asked) (fast : Bool) (d : Design) (t : Targets) (Made Other : Making) → Sees (with_policy asked fast d t Made) (with_policy asked fast d t Other)
makes_any asked fast d t Made Other =
    sees_next 2 (policy_kind d) (with_reference asked fast d t Made) (with_reference asked fast d t Other)
    (λ plans. sees_where asked.lean 3 (policy_kind d) (with_faces asked fast d t Made plans) (with_faces asked fast d t Other plans)
    (λ reference. sees_where asked.faced asked.faces (faces_kind d) (with_range asked fast d t Made plans reference) (with_range asked fast d t Other plans reference)
    (λ faces. sees_where asked.disturbed asked.range (range_kind d.states) (λ range. ends (make_act asked fast d t Made plans reference (under_of d.states faces range)))
    (λ range. ends (make_act asked fast d t Other plans reference (under_of d.states faces range))) (λ range contents s h. h))))

abbrev Nothing : Making
Nothing plans reference under c b = ⊥

policy_sees : (asked : Asked) (fast : Bool) (y x : DesignParts) → design_numbers y ≡ design_numbers x → Sees (make_after asked fast y) (make_after asked fast x)
policy_sees asked fast y x same contents s h =
    makes_any asked fast (design_of x) (targets_of x) Nothing (IsMadeUnder x fast) contents s
    (along (λ d t. calls_of (with_policy asked fast d t Nothing) contents s) y x same (makes_any asked fast (design_of y) (targets_of y) (IsMadeUnder y fast) Nothing contents s h))

any_sees : (asked : Asked) (y x : Wanted) → asked_numbers y ≡ asked_numbers x → Sees (make_after asked y.fast y.design) (make_after asked x.fast x.design)
any_sees asked y x same =
    subst (λ (f : Bool). Sees (make_after asked y.fast y.design) (make_after asked f x.design)) (λ i. (same i).fast) (policy_sees asked y.fast y.design x.design (λ i. (same i).design))

module _ (asked : Asked) (faces_order : 3 < asked.faces) (range_order : asked.faces < asked.range) where
  after_sound : (fast : Bool) (p : DesignParts) → IsSound 2 (make_after asked fast p)
  after_sound fast p = (omega arith, text_refused 2, whole (after_policy asked fast p), reference_sound asked faces_order range_order fast (design_of p) (targets_of p) (IsMadeUnder p fast))

pub make_sound : (asked : Asked) → 3 < asked.faces → asked.faces < asked.range → IsSoundWork (make_work asked)
make_sound asked faces_order range_order = record {
  sound = (omega arith, text_refused 1, any_sees asked, λ wanted. after_sound asked faces_order range_order wanted.fast wanted.design);
  first = inl refl;
}

-- it prints nothing
pub make_silent : (asked : Asked) → IsSilent (make_work asked).script
make_silent asked wanted plans = silent_where asked.lean _ _ _ (λ reference. silent_where asked.faced _ _ _ (λ faces. silent_where asked.disturbed _ _ _ (λ range s old. refl)))

-- ---- loops
-- no shifts lie within the range of none
no_shift : (range : Matrix) (n : ℕ) → range ≡ no_shifts n → (i : ℕ) → (at (row_of range 0) i ≤ℤ pos 0) × (pos 0 ≤ℤ at (row_of range 1) i)
no_shift range n is i = (
  subst (λ (m : Matrix). at (row_of m 0) i ≤ℤ pos 0) (sym is) (subst (λ (f : ℕ → ℤ). f i ≤ℤ pos 0) (sym (zeros_are n)) (≤ℤ_refl (pos 0))),
  subst (λ (m : Matrix). pos 0 ≤ℤ at (row_of m 1) i) (sym is) (subst (λ (f : ℕ → ℤ). pos 0 ≤ℤ f i) (sym (zeros_are n)) (≤ℤ_refl (pos 0))),
)

no_range : (disturbed : Bool) (file : ℕ) (words : List (List ℕ)) (files : Files) (n : ℕ) (range : Matrix) → disturbed ≡ false → IsRangeIn disturbed file words files n range → range ≡ no_shifts n
no_range true file words files n range is taken = absurd (let never : ⊥ = cc in never)
no_range false file words files n range is taken = taken

-- what holds of the states under no shifts, which are those without, holds of these
loops_by : (disturbed : Bool) (file : ℕ) (words : List (List ℕ)) (files : Files) (p : DesignParts) (c : Numbers) (states : List ℤ → (ℕ → ℕ → ℤ) → ℕ → List ℤ) (alone : List ℤ → ℕ → List ℤ)
    (Kept : List ℤ → Type 0) (range : Matrix) → ((start : List ℤ) (turns : ℕ) → states start (λ k. none) turns ≡ alone start turns) →
    IsRangeIn disturbed file words files (design_of p).states range → KeepsLoopsBy p c states Kept range → LoopsStayBy disturbed file words files p c states alone Kept
loops_by disturbed file words files p c states alone Kept range unshifted here keeps = record {
  range = range;
  is_range = here;
  stays = keeps;
  undisturbed = λ is start inside turns.
      subst Kept (unshifted start turns)
      (keeps start inside (λ k. none) turns (λ k l i m. no_shift range (design_of p).states (no_range disturbed file words files (design_of p).states range is here) i));
}

loops_stay : (disturbed : Bool) (file : ℕ) (words : List (List ℕ)) (files : Files) (p : DesignParts) (c : Numbers) (b : Printed) (range : Matrix) →
    IsRangeIn disturbed file words files (design_of p).states range → KeepsLoops p c b range → LoopsStay disturbed file words files p c b
loops_stay disturbed file words files p c b range =
    loops_by disturbed file words files p c (state_under (design_of p) c) (state_after (design_of p) c) (IsKeptAt (design_of p) c b) range (unshifted (design_of p) c)

fast_loops_stay : (disturbed : Bool) (file : ℕ) (words : List (List ℕ)) (files : Files) (p : DesignParts) (c : Numbers) (b : Printed) (range : Matrix) →
    IsRangeIn disturbed file words files (design_of p).states range → KeepsFastLoops p c b range → FastLoopsStay disturbed file words files p c b
fast_loops_stay disturbed file words files p c b range =
    loops_by disturbed file words files p c (state_by (design_of p) (looping_of_fast c)) (unshifted_by (design_of p) (looping_of_fast c)) (IsFastKeptAt (design_of p) c b) range (λ start turns. refl)

-- ---- a design text of any version that asks for no other machine is one of version 1 or 2
plain_text : (wanted : Wanted) (bytes : List ℕ) → wanted.fast ≡ false → IsAskedText true bytes wanted → IsDesignText bytes wanted.design
plain_text wanted bytes slow = some_weaker (document_of bytes) (IsAskedDocument true wanted) (IsDesignDocument wanted.design) (λ document h.
    (let none : asks_fast true (values_of document) ≡ false = sym h.fast ∙ slow in
    record { numbers = rw none at h.numbers; keys = h.keys; design = h.design }))

plain_right : (wanted : Wanted) → wanted.fast ≡ false → (content : Option (List ℕ)) → FileHolds file_limit (AskedRight wanted) content → FileHolds file_limit (DesignRight wanted.design) content
plain_right wanted slow content h = record { bytes = h.bytes; held = h.held; short = h.short; right = plain_text wanted h.bytes slow h.right }

-- so it has the inputs of the one kind or the other
module _ (wanted : Wanted) (plans : Plans) (design policy : Option (List ℕ)) (design_right : FileHolds file_limit (AskedRight wanted) design)
    (policy_right : FileHolds file_limit (PolicyRight (design_of wanted.design) plans) policy) where
  plain_inputs : wanted.fast ≡ false → HoldsInputs design policy wanted.design plans
  plain_inputs slow = record { design_right = plain_right wanted slow design design_right; policy_right = policy_right }

  fast_inputs : wanted.fast ≡ true → HoldsFastInputs design policy wanted.design plans
  fast_inputs fast = record {
    design_right = subst (λ (f : Bool). FileHolds file_limit (AskedRight (record { design = wanted.design; fast = f })) design) fast design_right;
    policy_right = policy_right;
  }

fast_short : (text : List ℕ) (c : Numbers) → IsFastControllerText text c → length text ≤ file_limit
fast_short text c is = omega (arith, any_length_law text c (inr is))

-- ---- what they leave with `Done`
module _ (words : List (List ℕ)) (s : Status) (files : Files) (now : Option Files) (is : s ≡ Done) where
  abbrev contents : Contents
  contents i = files (word_of words i)

  abbrev Left : Script → Type 0
  Left script = leaves_at script contents words s (Some files) now

  -- both texts stand, of what was made so
  abbrev BothBy : (IsText : List ℕ → Numbers → Type 0) → (Made : Numbers → Printed → Type 0) → (first second : ℕ) → Files → Type 0
  BothBy IsText Made first second new = Two (AreTextsBy IsText Made (word_of words second)) (BothStand files new (word_of words first) (word_of words second))

  -- the range that holds, and what is left under it
  under : (asked : Asked) (fast : Bool) (d : Design) (t : Targets) (Made : Making) (plans : Plans) (reference : Option Plans) (faces : FaceNumbers) (disturbed : Bool) →
      Left (reads_where disturbed asked.range (range_kind d.states) (λ range. ends (make_act asked fast d t Made plans reference (under_of d.states (Some faces) range)))) →
      (range : Matrix) × IsRangeIn disturbed asked.range words files d.states range
      × LeavesTwo (AreTextsBy (IsTextBy fast) (Made plans reference (Some (record { faces = faces; range = range }))) (word_of words asked.report)) asked.controller asked.report words s (Some files) now
  under asked fast d t Made plans reference faces true (inl none) = absurd (none.done is)
  under asked fast d t Made plans reference faces true (inr left) = left
  under asked fast d t Made plans reference faces false left = (no_shifts d.states, refl, left)

  -- ---- of a design and a policy
  module _ (wanted : Wanted) (design : FileHolds file_limit (AskedRight wanted) (contents 1)) (plans : Plans) (policy : FileHolds file_limit (PolicyRight (design_of wanted.design) plans) (contents 2)) where
    abbrev p : DesignParts
    p = wanted.design

    -- ---- alone: what is made of the files
    abbrev of_two : wanted.fast ≡ false → (c : Numbers) (b : Printed) → IsMadeOf p plans c b → IsMadeFrom (contents 1) (contents 2) c b
    of_two slow c b made = record {
      p = p;
      plans = plans;
      inputs = plain_inputs wanted plans (contents 1) (contents 2) design policy slow;
      built = made.built;
      certified = made.certified;
      targets = made.targets;
    }

    abbrev fast_of_two : wanted.fast ≡ true → (c : Numbers) (b : Printed) → IsFastMadeOf p plans None c b → IsFastGeneratedFrom (contents 1) (contents 2) c b
    fast_of_two fast c b made = record { p = p; plans = plans; inputs = fast_inputs wanted plans (contents 1) (contents 2) design policy fast; made = made }

    -- without faces
    generated_by : (fast : Bool) → wanted.fast ≡ fast → (new : Files) → BothBy (IsTextBy fast) (IsMadeUnder p fast plans None None) 3 4 new → IsAnyGenerated words files new
    generated_by false slow new two = inl (made_and_written _ (IsMadeFrom (contents 1) (contents 2)) 3 4 words files new two (of_two slow two.are.controller two.are.bounds two.are.made))
    generated_by true fast new two =
        inr (made_and_written_by IsFastControllerText _ (IsFastGeneratedFrom (contents 1) (contents 2)) 3 4 words files new fast_short two
        (fast_of_two fast two.are.controller two.are.bounds two.are.made))

    -- with faces
    module _ (disturbed : Bool) (faces : FaceNumbers) (range : Matrix) (here : IsRangeIn disturbed 6 words files (design_of p).states range) where
      kept_by : (fast : Bool) → wanted.fast ≡ fast → (new : Files) → BothBy (IsTextBy fast) (IsMadeUnder p fast plans None (Some (record { faces = faces; range = range }))) 3 4 new →
          IsAnyGeneratedStayed disturbed words files new
      kept_by false slow new two =
          let made = two.are.made in
          inl (record {
            generated = made_and_written _ (IsMadeFrom (contents 1) (contents 2)) 3 4 words files new two (of_two slow two.are.controller two.are.bounds made.0);
            loops = loops_stay disturbed 6 words files p two.are.controller two.are.bounds range here made.1;
          })
      kept_by true fast new two =
          let made = two.are.made in
          inr (record {
            generated = made_and_written_by IsFastControllerText _ (IsFastGeneratedFrom (contents 1) (contents 2)) 3 4 words files new fast_short two
                (fast_of_two fast two.are.controller two.are.bounds made.0);
            loops = fast_loops_stay disturbed 6 words files p two.are.controller two.are.bounds range here made.1;
          })

    -- ---- with reference plans
    module _ (references : Plans) (reference : FileHolds file_limit (PolicyRight (design_of p) references) (contents 3)) where
      abbrev of_three : wanted.fast ≡ false → (c : Numbers) (b : Printed) → IsLeanMadeOf p plans references c b → IsMadeOfFiles words files c b
      of_three slow c b made = record {
        p = p;
        plans = plans;
        references = references;
        inputs = plain_inputs wanted plans (contents 1) (contents 2) design policy slow;
        reference_right = reference;
        made = made;
      }

      abbrev fast_of_three : wanted.fast ≡ true → (c : Numbers) (b : Printed) → IsFastMadeOf p plans (Some references) c b → IsFastMadeFrom (contents 1) (contents 2) (contents 3) c b
      fast_of_three fast c b made = record {
        p = p;
        plans = plans;
        references = references;
        inputs = fast_inputs wanted plans (contents 1) (contents 2) design policy fast;
        reference_right = reference;
        made = made;
      }

      -- without faces
      leaned_by : (fast : Bool) → wanted.fast ≡ fast → (new : Files) → BothBy (IsTextBy fast) (IsMadeUnder p fast plans (Some references) None) 4 5 new → IsAnyWritten words files new
      leaned_by false slow new two = inl (made_and_written _ (IsMadeOfFiles words files) 4 5 words files new two (of_three slow two.are.controller two.are.bounds two.are.made))
      leaned_by true fast new two =
          inr (made_and_written_by IsFastControllerText _ (IsFastMadeFrom (contents 1) (contents 2) (contents 3)) 4 5 words files new fast_short two
          (fast_of_three fast two.are.controller two.are.bounds two.are.made))

      -- with faces
      module _ (disturbed : Bool) (faces : FaceNumbers) (range : Matrix) (here : IsRangeIn disturbed 7 words files (design_of p).states range) where
        stayed_by : (fast : Bool) → wanted.fast ≡ fast → (new : Files) →
            BothBy (IsTextBy fast) (IsMadeUnder p fast plans (Some references) (Some (record { faces = faces; range = range }))) 4 5 new → IsAnyStayed disturbed words files new
        stayed_by false slow new two =
            let made = two.are.made in
            inl (record {
              written = made_and_written _ (IsMadeOfFiles words files) 4 5 words files new two (of_three slow two.are.controller two.are.bounds made.0);
              loops = loops_stay disturbed 7 words files p two.are.controller two.are.bounds range here made.1;
            })
        stayed_by true fast new two =
            let made = two.are.made in
            inr (record {
              written = made_and_written_by IsFastControllerText _ (IsFastMadeFrom (contents 1) (contents 2) (contents 3)) 4 5 words files new fast_short two
                  (fast_of_three fast two.are.controller two.are.bounds made.0);
              loops = fast_loops_stay disturbed 7 words files p two.are.controller two.are.bounds range here made.1;
            })

  -- ---- by the command
  pub generated : Left (make_work generate_asked).script → IsSomeAnd now (IsAnyGenerated words files)
  generated (inl none) = absurd (none.done is)
  generated (inr (wanted, design, inl none)) = absurd (none.done is)
  generated (inr (wanted, design, inr (plans, policy, left))) =
      some_weaker now (BothBy (IsTextBy wanted.fast) (IsMadeUnder wanted.design wanted.fast plans None None) 3 4) (IsAnyGenerated words files)
      (generated_by wanted design plans policy wanted.fast refl) (left.both is)

  pub stays : (disturbed : Bool) → Left (make_work (stay_asked disturbed)).script → IsSomeAnd now (IsAnyGeneratedStayed disturbed words files)
  stays disturbed (inl none) = absurd (none.done is)
  stays disturbed (inr (wanted, design, inl none)) = absurd (none.done is)
  stays disturbed (inr (wanted, design, inr (plans, policy, inl none))) = absurd (none.done is)
  stays disturbed (inr (wanted, design, inr (plans, policy, inr (faces, right, left)))) =
      let p = wanted.design in
      let found = under (stay_asked disturbed) wanted.fast (design_of p) (targets_of p) (IsMadeUnder p wanted.fast) plans None faces disturbed left in
      some_weaker now (BothBy (IsTextBy wanted.fast) (IsMadeUnder p wanted.fast plans None (Some (record { faces = faces; range = found.0 }))) 3 4)
      (IsAnyGeneratedStayed disturbed words files) (kept_by wanted design plans policy disturbed faces found.0 found.1 wanted.fast refl) (found.2.both is)

  pub leaned : Left (make_work (lean_asked false false)).script → IsSomeAnd now (IsAnyWritten words files)
  leaned (inl none) = absurd (none.done is)
  leaned (inr (wanted, design, inl none)) = absurd (none.done is)
  leaned (inr (wanted, design, inr (plans, policy, inl none))) = absurd (none.done is)
  leaned (inr (wanted, design, inr (plans, policy, inr (references, reference, left)))) =
      some_weaker now (BothBy (IsTextBy wanted.fast) (IsMadeUnder wanted.design wanted.fast plans (Some references) None) 4 5) (IsAnyWritten words files)
      (leaned_by wanted design plans policy references reference wanted.fast refl) (left.both is)

  pub lean_stays : (disturbed : Bool) → Left (make_work (lean_asked true disturbed)).script → IsSomeAnd now (IsAnyStayed disturbed words files)
  lean_stays disturbed (inl none) = absurd (none.done is)
  lean_stays disturbed (inr (wanted, design, inl none)) = absurd (none.done is)
  lean_stays disturbed (inr (wanted, design, inr (plans, policy, inl none))) = absurd (none.done is)
  lean_stays disturbed (inr (wanted, design, inr (plans, policy, inr (references, reference, inl none)))) = absurd (none.done is)
  lean_stays disturbed (inr (wanted, design, inr (plans, policy, inr (references, reference, inr (faces, right, left))))) =
      let p = wanted.design in
      let found = under (lean_asked true disturbed) wanted.fast (design_of p) (targets_of p) (IsMadeUnder p wanted.fast) plans (Some references) faces disturbed left in
      some_weaker now (BothBy (IsTextBy wanted.fast) (IsMadeUnder p wanted.fast plans (Some references) (Some (record { faces = faces; range = found.0 }))) 4 5)
      (IsAnyStayed disturbed words files)
      (stayed_by wanted design plans policy references reference disturbed faces found.0 found.1 wanted.fast refl) (found.2.both is)

-- by the row
by_row : (script : Script) (P : Files → Files → Type 0) (words : List (List ℕ)) (s : Status) (held now : Option Files) →
    ((files : Files) → leaves_at script (λ i. files (word_of words i)) words s (Some files) now → IsSomeAnd now (P files)) → leaves_of script words s held now → IfSome held (λ files. IsSomeAnd now (P files))
by_row script P words s (Some files) now h left = h files (left_told words s files now script left)
by_row script P words s None now h left = tt

pub generate_left : (words : List (List ℕ)) (s : Status) (held now : Option Files) → s ≡ Done → leaves_of (make_work generate_asked).script words s held now →
    IfSome held (λ files. IsSomeAnd now (IsAnyGenerated words files))
generate_left words s held now is = by_row (make_work generate_asked).script (IsAnyGenerated words) words s held now (λ files. generated words s files now is)

pub stay_left : (disturbed : Bool) (words : List (List ℕ)) (s : Status) (held now : Option Files) → s ≡ Done → leaves_of (make_work (stay_asked disturbed)).script words s held now →
    IfSome held (λ files. IsSomeAnd now (IsAnyGeneratedStayed disturbed words files))
stay_left disturbed words s held now is = by_row (make_work (stay_asked disturbed)).script (IsAnyGeneratedStayed disturbed words) words s held now (λ files. stays words s files now is disturbed)

pub lean_left : (words : List (List ℕ)) (s : Status) (held now : Option Files) → s ≡ Done → leaves_of (make_work (lean_asked false false)).script words s held now → IfSome held (λ files. IsSomeAnd now (IsAnyWritten words files))
lean_left words s held now is = by_row (make_work (lean_asked false false)).script (IsAnyWritten words) words s held now (λ files. leaned words s files now is)

pub lean_stay_left : (disturbed : Bool) (words : List (List ℕ)) (s : Status) (held now : Option Files) → s ≡ Done → leaves_of (make_work (lean_asked true disturbed)).script words s held now →
    IfSome held (λ files. IsSomeAnd now (IsAnyStayed disturbed words files))
lean_stay_left disturbed words s held now is = by_row (make_work (lean_asked true disturbed)).script (IsAnyStayed disturbed words) words s held now (λ files. lean_stays words s files now is disturbed)
