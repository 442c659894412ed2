-- What `split` does by its script, and what is written.
use Rattle.std.proofs.Common.{◌≡◌, inl, inr, refl, ℕ, ◌≤◌, ℤ, Bool, List, length, Option, Some, None, subst, arith}
use Rattle.std.specs.Prelude.{IfSome, IsSomeAnd}
use Rattle.io_edge.specs.Faults.{Files}
use Rattle.qp_model.specs.problem.Parts.{design_numbers}
use Rattle.qp_model.specs.problem.Design.{Design}
use Rattle.cell_maker.specs.Controllers.declared.any_controller.AnyController.{AnyController}
use Rattle.qp_model.specs.declared.design_parts.DesignParts.{DesignParts}
use Rattle.cell_split.specs.Cells.{cell_count}
use Rattle.cell_file.specs.Text.{IsCellsText}
use Rattle.cell_file.proofs.Lengths.{cells_length_law}
use Rattle.command_line.specs.Words.{word_of}
use Rattle.command_line.specs.Limit.{file_limit, cells_limit}
use Rattle.command_line.specs.Answers.{FileHolds, IsFileRefused}
use Rattle.command_line.specs.Does.{IsTelling}
use Rattle.command_line.specs.Script.{ends, calls_of, leaves_at, leaves_of}
use Rattle.command_line.specs.TwoTexts.{BothStand, Two}
use Rattle.command_line.proofs.Gathering.{Sees, whole}
use Rattle.command_line.proofs.Doing.{done_telling}
use Rattle.command_line.proofs.Following.{IsSoundWork, left_told}
use Rattle.command_line.specs.declared.status.Status.{Status}
use Rattle.command_line.specs.declared.status.Status.TheVariants.{Done}
use Rattle.command_design_files.proofs.Designs.{same_design}
use Rattle.command_design_files.proofs.Stopping.{text_refused}
use Rattle.command_files.specs.Texts.{CutsRight, CellPoliciesRight}
use Rattle.command_files.specs.Reading.{cuts_kind, cell_policies_kind}
use Rattle.command_line.proofs.TwoTexts.{some_weaker}
use Rattle.command_split.specs.Cells.{CellsCall}
use Rattle.command_split.specs.Split.{split_act, split_after, split_after_cuts, split_work, AreCellTexts, IsSplitWritten}
use Rattle.command_split.proofs.Calling.{calls_same, cell_refusal}
use Rattle.command_split.proofs.Serving.{machines, boxes, splits, each_served}
use Rattle.qp_model.specs.problem.Policy.{Plans}

-- ---- its script
telling : (p : DesignParts) (fast : Bool) (cuts : List (List ℤ)) (policies : List (Option Plans)) (s : Status) → CellsCall p fast cuts policies s → IsTelling s
telling p fast cuts policies s (inl why) = (cell_refusal why.refusal.cell why.refusal.refusal s why.is).telling
telling p fast cuts policies s (inr done) = done_telling s done.0

-- of a design its numbers are seen
sees : (fast : Bool) (y x : DesignParts) → design_numbers y ≡ design_numbers x → Sees (split_after y fast) (split_after x fast)
sees fast y x same contents s (inl refused) = inl (subst (λ (d : Design). IsFileRefused file_limit 2 ((cuts_kind d).wrong 2) (contents 2) s) (same_design y x same) refused)
sees fast y x same contents s (inr (cuts, right, rest)) = inr (cuts, subst (λ (d : Design). FileHolds file_limit (CutsRight d cuts) (contents 2)) (same_design y x same) right, after rest)
  where
    after : calls_of (split_after_cuts y fast cuts) contents s → calls_of (split_after_cuts x fast cuts) contents s
    after (inl refused) = inl (subst (λ (d : Design). IsFileRefused file_limit 3 ((cell_policies_kind d (cell_count cuts)).wrong 3) (contents 3) s) (same_design y x same) refused)
    after (inr (policies, here, calls)) =
        inr (policies, subst (λ (d : Design). FileHolds file_limit (CellPoliciesRight d (cell_count cuts) policies) (contents 3)) (same_design y x same) here, calls_same y x fast same cuts policies s calls)

pub split_sound : IsSoundWork split_work
split_sound = record {
  sound = (
    omega arith,
    text_refused 1,
    λ y x same. subst (λ (f : Bool). Sees (split_after y.design y.fast) (split_after x.design f)) (λ i. (same i).fast) (sees y.fast y.design x.design (λ i. (same i).design)),
    λ wanted. (
      omega arith,
      text_refused 2,
      whole (split_after_cuts wanted.design wanted.fast),
      λ cuts. (omega arith, text_refused 3, whole (λ policies. ends (split_act wanted.design wanted.fast cuts policies)), telling wanted.design wanted.fast cuts),
    ),
  );
  first = inl refl;
}

-- ---- what it left
-- a text of cells is no longer than a file of cells may be
cells_short : (text : List ℕ) (cells : List AnyController) → IsCellsText text cells → length text ≤ cells_limit
cells_short text cells is = omega (arith, cells_length_law text cells is)

pub split_left : (words : List (List ℕ)) (s : Status) (held now : Option Files) → s ≡ Done → leaves_of split_work.script words s held now → IfSome held (λ files. IsSomeAnd now (IsSplitWritten words files))
split_left words s None now is left = tt
split_left words s (Some files) now is left = go (left_told words s files now split_work.script left)
  where
    go : leaves_at split_work.script (λ i. files (word_of words i)) words s (Some files) now → IsSomeAnd now (IsSplitWritten words files)
    go (inl none) = absurd (none.done is)
    go (inr (wanted, design, inl none)) = absurd (none.done is)
    go (inr (wanted, design, inr (cuts, cut, inl none))) = absurd (none.done is)
    go (inr (wanted, design, inr (cuts, cut, inr (policies, right, left_two)))) =
        some_weaker now (λ new. Two (AreCellTexts wanted.design wanted.fast cuts policies) (BothStand files new (word_of words 4) (word_of words 5))) (IsSplitWritten words files)
        (λ new two.
        let are = two.are in
        record {
          cells = are.cells;
          bounds = are.bounds;
          made = record {
            p = wanted.design;
            fast = wanted.fast;
            lists = cuts;
            plans = policies;
            inputs = record { design_right = design; cuts_right = cut };
            policies_right = right;
            splits = splits wanted.design wanted.fast cuts policies are.cells are.bounds are.made are.design are.cut;
            made = are.made;
            machine = machines wanted.design wanted.fast cuts policies are.cells are.bounds are.made;
            boxes = boxes wanted.design wanted.fast cuts policies are.cells are.bounds are.made;
            served = each_served wanted.design wanted.fast cuts policies are.cells are.bounds are.made are.design are.cut;
          };
          text = two.text;
          is_text = are.is_text;
          short = cells_short two.text are.cells are.is_text;
          cells_file = two.true_of.first;
          report_file = subst (λ (bytes : List ℕ). new (word_of words 5) ≡ Some bytes) are.is_report two.true_of.second;
          others = two.true_of.others;
        })
        (left_two.both is)
