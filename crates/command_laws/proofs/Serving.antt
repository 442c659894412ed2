-- The controllers of cells that a file holds, served from grid states of the whole design's box.
use Rattle.std.proofs.Common.{◌≡◌, ◌∙◌, ℕ, ◌<◌, ℤ, List, [], ◌∷◌, length, Option, Some, None, sym, ap, subst, arith}
use Rattle.std.specs.Prelude.{MatchOption, IsSome, is_some}
use Rattle.mat_int.specs.Matrix.{row_of}
use Rattle.qp_model.specs.problem.Design.{Design}
use Rattle.qp_model.specs.problem.Parts.{design_of}
use Rattle.qp_model.specs.problem.Policy.{Plans}
use Rattle.controller_file.specs.AnyText.{any_numbers}
use Rattle.controller_file.specs.declared.any_controller.AnyController.{AnyController}
use Rattle.qp_model.specs.bounds.Printed.{Printed}
use Rattle.command_line.specs.Words.{word_of}
use Rattle.command_line.specs.Limit.{file_limit}
use Rattle.command_line.specs.Answers.{FileHolds}
use Rattle.command_line.specs.declared.status.Status.TheVariants.{Done}
use Rattle.command_line.proofs.Following.{called_told}
use Rattle.command_files.specs.Texts.{CellsRight, StatesRight}
use Rattle.command_split.specs.Splitting.Cells.{cell_count}
use Rattle.command_split.specs.Finding.{NoneHolds}
use Rattle.command_split.specs.Made.{cell_plans}
use Rattle.command_split.specs.Cells.{IsServedBy, IsServedByCell}
use Rattle.command_split.proofs.Serving.{cell_of_controller}
use Rattle.command_split.specs.Split.{AreSplitFrom}
use Rattle.command_serve.specs.Served.{cell_states}
use Rattle.command_serve.specs.Serve.{HoldsServed}
use Rattle.command_serve.specs.Deeds.{serve_work}
use Rattle.command_serve.proofs.Held.{called_done, serves_held}
use Rattle.command_serve.proofs.Serving.{one_cell_law}
use Rattle.command_laws.specs.Runs.{IsPlannedBy, IsCovered}
use Rattle.command_laws.specs.Laws.{CoveredServeLaw, WholeServeLaw, SplitServeLaw}
use Rattle.command_laws.proofs.States.{state_long}

-- the state that one controller alone has gets the line of its plan
planned : (d : Design) (cells : List AnyController) (bounds : List Printed) (xi : List ℤ) → IsServedBy d cells bounds xi → IsPlannedBy d cells bounds xi
planned d cells bounds xi by = record { by = by; line = one_cell_law cells xi by.index (record { there = by.first.there; here = by.first.here; alone = by.alone }) }

-- the states of cells are as long as those of the whole design
states_of_all : (one two three : Option (List ℕ)) (text : List ℕ) (cells : List AnyController) (bounds : List Printed) → CellsRight cells text → (made : AreSplitFrom one two three cells bounds) →
    cell_states cells ≡ made.p.states
states_of_all one two three text [] bounds is_text made = absurd (omega (arith, is_text.form.are.some))
states_of_all one two three text (c ∷ cells) bounds is_text made =
    let first = cell_of_controller made.plans (cell_count made.lists) 0 (omega (arith, made.made.count)) in
    let box = rw (first.own, ← first.place) at (made.boxes.low first.cell c first.inside) in
    sym (is_text.form.are.form 0 (any_numbers c) (omega arith)).sized.shaped.low ∙ box.long

-- a state of a cell that has plans is served
with_plans : (d : Design) (cells : List AnyController) (bounds : List Printed) (xi : List ℤ) (o : Option Plans) → IsSome o → MatchOption o (NoneHolds cells xi (length cells)) (λ _. IsServedBy d cells bounds xi) → IsServedBy d cells bounds xi
with_plans d cells bounds xi (Some plans) some by = by
with_plans d cells bounds xi None some by = absurd cc

served_by : (d : Design) (cuts : List (List ℤ)) (policies : List (Option Plans)) (cells : List AnyController) (bounds : List Printed) (xi : List ℤ) → IsServedByCell d cuts policies cells bounds xi →
    IsCovered d cuts policies xi → IsServedBy d cells bounds xi
served_by d cuts policies cells bounds xi by covered =
    let same : covered.cell ≡ by.own.cell = by.own.alone covered.cell covered.is_cell covered.here in
    with_plans d cells bounds xi (cell_plans policies by.own.cell) (ap (λ k. is_some (cell_plans policies k)) (sym same) ∙ covered.plans) by.by

covered_serve_law : CoveredServeLaw
covered_serve_law words asked files left made states s before now same grid covered run = record {
  called = called_told asked Done left serve_work (called_done (λ at. left (word_of asked at)) made.cells states holds);
  served = serves_held asked (Some left) s before now run.called run.prints made.cells states holds;
  planned = λ e lt. planned (design_of made.made.p) made.cells made.bounds (row_of states e) (by e lt);
}
  where
    by : (e : ℕ) → e < length states.rows → IsServedBy (design_of made.made.p) made.cells made.bounds (row_of states e)
    by e lt =
        served_by (design_of made.made.p) made.made.lists made.made.plans made.cells made.bounds (row_of states e)
        (made.made.served (row_of states e) (state_long (design_of made.made.p) (left (word_of asked 2)) states grid e lt) (grid.inside e lt)) (covered e lt)

    holds : HoldsServed (left (word_of asked 1)) (left (word_of asked 2)) made.cells states
    holds = record {
      cells_right = record { bytes = made.text; held = ap left same ∙ made.cells_file; short = made.short; right = made.is_text };
      states_right =
          subst (λ (n : ℕ). FileHolds file_limit (StatesRight n states) (left (word_of asked 2)))
          (sym (states_of_all (files (word_of words 1)) (files (word_of words 2)) (files (word_of words 3)) made.text made.cells made.bounds made.is_text made.made)) grid.states_right;
      served = λ e lt. let own = by e lt in (own.index, own.first);
    }

whole_serve_law : WholeServeLaw
whole_serve_law words asked files left made states s before now whole same grid run = covered_serve_law words asked files left made states s before now same grid covered run
  where
    covered : (e : ℕ) → e < length states.rows → IsCovered (design_of made.made.p) made.made.lists made.made.plans (row_of states e)
    covered e lt =
        let own = (made.made.served (row_of states e) (state_long (design_of made.made.p) (left (word_of asked 2)) states grid e lt) (grid.inside e lt)).own in
        record { cell = own.cell; is_cell = own.is_cell; here = own.here; plans = whole own.cell own.is_cell }

pub split_serve_law : SplitServeLaw
split_serve_law = (covered_serve_law, whole_serve_law)
