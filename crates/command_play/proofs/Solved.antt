-- The listing of a controller, played from states of its box, prints what the controller is solved to.
use Rattle.std.proofs.Common.{◌≡◌, ◌⊎◌, ◌∙◌, inl, inr, ℕ, zero, suc, ◌<◌, ◌≤◌, List, ◌++◌, length, Option, Some, None, refl, sym, ap, subst, arith}
use Rattle.std.specs.Prelude.{IfSome, IsSomeAnd}
use Rattle.io_edge.specs.Faults.{Files, GrowsByPart}
use Rattle.mat_int.specs.Matrix.{Matrix, row_of}
use Rattle.qp_model.specs.machine.Controller.{Numbers}
use Rattle.qp_model.specs.machine.AbsoluteSums.{IsController}
use Rattle.qp_model.specs.text.ControllerText.{plan_line}
use Rattle.mac_listing.specs.Listing.{Instructions, listing_of}
use Rattle.mac_listing.specs.Text.{IsListingText}
use Rattle.mac_listing.proofs.Read.{read_right}
use Rattle.mac_machine.specs.Laws.{PlaysController}
use Rattle.mac_machine.proofs.ListingLaw.{listing_law}
use Rattle.plan_lines.specs.Inside.{AreInside}
use Rattle.plan_lines.specs.Lines.{plan_lines}
use Rattle.plan_lines.specs.Printing.{ArePrinted, AreFirstLines, lines_of_plans}
use Rattle.plan_lines.proofs.PlanLines.{lines_more, part_of_all, no_plan_yet}
use Rattle.plan_lines.proofs.Holding.{all_shown}
use Rattle.command_line.specs.Words.{word_of}
use Rattle.command_line.specs.Limit.{file_limit}
use Rattle.command_line.specs.Answers.{ForContents, FileHolds, IsAnswer, IsCaused}
use Rattle.command_line.specs.Script.{calls_of, shows_of}
use Rattle.command_line.specs.declared.status.Status.{Status}
use Rattle.command_line.specs.declared.status.Status.TheVariants.{Done}
use Rattle.command_files.specs.Reading.{states_kind}
use Rattle.command_files.proofs.OneThing.{one_content, one_states}
use Rattle.command_play.specs.Texts.{ListingRight, listing_kind}
use Rattle.command_play.specs.Plays.{AreInBox, HaveRunRoom, run_line, run_lines}
use Rattle.command_play.specs.Printing.{AreSome, PlaysPrint}
use Rattle.command_play.specs.Play.{play_act, play_script}
use Rattle.command_play.specs.AsSolved.{PlaysAsSolved}

-- ---- lines
module _ (c : Numbers) (m : Matrix) (sound : IsController c) (inside : AreInside c m (length m.rows)) where
  plays : (e : ℕ) → e < length m.rows → PlaysController c (row_of m e)
  plays e lt = listing_law c (row_of m e) sound (inside e lt)

  in_box : AreInBox (listing_of c) m (length m.rows)
  in_box e lt = (plays e lt).box

  room : HaveRunRoom (listing_of c) m (length m.rows)
  room e lt = (plays e lt).room

  same_lines : (k : ℕ) → k ≤ length m.rows → run_lines (listing_of c) m k ≡ plan_lines c m k
  same_lines zero le = refl
  same_lines (suc k) le =
      let lt : k < length m.rows = omega (arith, le) in
      let before = same_lines k (omega (arith, le)) in
      let here : run_line (listing_of c) (row_of m k) ≡ plan_line c (row_of m k) = (plays k lt).line in
      lines_more (run_line (listing_of c)) m k lt ∙ ap (λ (x : List ℕ). x ++ run_line (listing_of c) (row_of m k)) before ∙ ap (λ (x : List ℕ). plan_lines c m k ++ x) here ∙ sym (lines_more (plan_line c) m k lt)

  part_printed : (old new : List ℕ) → AreSome (listing_of c) m (GrowsByPart old new) → GrowsByPart old new (plan_lines c m (length m.rows))
  part_printed old new p = part_of_all (plan_line c) m p.count old new (subst (λ (bytes : List ℕ). GrowsByPart old new bytes) (same_lines p.count p.some) p.printed)

  some_printed : (old new : List ℕ) → (new ≡ old) ⊎ (AreInBox (listing_of c) m (length m.rows) × AreSome (listing_of c) m (λ lines. new ≡ old ++ lines)) → AreFirstLines c m old new
  some_printed old new (inl same) = no_plan_yet c m old new same
  some_printed old new (inr lines) = let some = lines.1 in record { count = some.count; some = some.some; printed = some.printed ∙ ap (λ (x : List ℕ). old ++ x) (same_lines some.count some.some) }

  as_printed : (s : Status) (old new : List ℕ) → PlaysPrint (listing_of c) m s old new → ArePrinted c m s old new
  as_printed s old new p = record {
    done = λ is. (p.done is).2 ∙ ap (λ (x : List ℕ). old ++ x) (same_lines (length m.rows) (omega arith));
    fault = λ is. part_printed old new (p.fault is).1;
    memory = λ is. some_printed old new (p.memory is);
  }

-- ---- what two files hold
same_listing : (content : Option (List ℕ)) (a b : Instructions) → FileHolds file_limit (ListingRight a) content → FileHolds file_limit (ListingRight b) content → a ≡ b
same_listing content a b x y = read_right x.bytes a b x.right (subst (λ (bytes : List ℕ). IsListingText bytes b) (one_content file_limit file_limit content x y) y.right)

-- by what is called for, and what the output got
pub plays_as_solved : (words : List (List ℕ)) (held : Option Files) (s : Status) (before now : Option (List ℕ)) → (IsCaused s → ForContents words held (λ k. IsAnswer (calls_of play_script k) s)) →
    IfSome before (λ old. IsSomeAnd now (λ new. ForContents words held (λ k. shows_of play_script k s old new))) → PlaysAsSolved words held s before now
plays_as_solved words None s before now called prints = tt
plays_as_solved words (Some files) s before now called prints = λ c m holds.
    let done : calls_of play_script (λ at. files (word_of words at)) Done =
    inr (listing_of c, holds.listing_right, inr (m, holds.states_right, inr (in_box c m holds.sound holds.inside, inr (refl, room c m holds.sound holds.inside)))) in
    let did = all_shown listing_kind (λ l. states_kind l.states) play_act words files (listing_of c) m (λ l right. same_listing (files (word_of words 1)) l (listing_of c) right holds.listing_right)
    (λ n right. one_states c.states (files (word_of words 2)) n m right holds.states_right) (lines_of_plans c m) (no_plan_yet c m) s (as_printed c m holds.sound holds.inside s) before now done called prints in
    record { room = room c m holds.sound holds.inside; solved = record { done = did.0; printed = did.1 } }
