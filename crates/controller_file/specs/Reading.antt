-- A controller from its lines.
use Rattle.std.specs.Prelude.{◌≡◌, ℕ, ◌*◌, ℤ, List, [], map, replicate, ◌==◌, if◌then◌else◌, slice_index_or}
use Rattle.integer_algebra.specs.Sums.{at}
use Rattle.mat_int.specs.Matrix.{Matrix}
use Rattle.qp_model.specs.problem.Limits.{text_version}
use Rattle.qp_model.specs.machine.Controller.{Numbers}
use Rattle.text_lines.specs.FirstLine.{IsBadLineOf}
use Rattle.text_lines.specs.Grammar.{IsTextOf}
use Rattle.controller_text.specs.TextForm.{IsTextForm}
use Rattle.controller_text.specs.Lines.{keyed_lines}
use Rattle.controller_text.specs.declared.bad_controller.BadController.{BadController}
use Rattle.controller_text.specs.declared.bad_controller.BadController.TheVariants.{Memory, Line, Unsafe}
use Rattle.controller_file.specs.FirstLine.{IsTextIn}
use Rattle.controller_file.specs.declared.parts.Front.{Front}
use Rattle.controller_file.specs.declared.parts.Back.{Back}
use Rattle.text_lines.specs.Lines.{Keyed, line_in, small}

-- the bytes are the text of these numbers, whose lines are all lines of a text of a grammar
pub record IsPartsOf (Whole : List Keyed → Type 0) (bytes : List ℕ) (c : Numbers) : Type 0 where
  pub form : IsTextIn IsTextForm bytes c
  pub whole : Whole (keyed_lines c)

-- why bytes are no text of it; out of memory says nothing of them
abbrev pub IsFaultOf : (Whole : List Keyed → Type 0) → List ℕ → BadController → Type 0
IsFaultOf Whole bytes Memory = Unit {0}
IsFaultOf Whole bytes (Line l) = IsBadLineOf (IsTextOf Whole) bytes l
IsFaultOf Whole bytes Unsafe = ⊥

-- the numbers of the one line of a block
abbrev pub list_of_block : List (List Keyed) → ℕ → List ℤ
list_of_block bs k = line_in (slice_index_or bs k []) 0

abbrev pub small_of_block : List (List Keyed) → ℕ → ℕ → ℕ
small_of_block bs k j = small (at (list_of_block bs k) j)

-- the numbers of all its lines as rows
abbrev pub matrix_in : List (List Keyed) → ℕ → ℕ → Matrix
matrix_in bs k cols = record { cols = cols; rows = map (λ l. l.numbers) (slice_index_or bs k []) }

-- each row's exponent, which a text of the first version doesn't say
abbrev pub exponents_in : List (List Keyed) → List ℕ
exponents_in bs = if small_of_block bs 0 0 == text_version then replicate (small_of_block bs 1 3) (small_of_block bs 2 2) else map small (list_of_block bs 6)

-- the controller with these blocks of lines
abbrev pub numbers_in : List (List Keyed) → Numbers
numbers_in bs = record {
  version = small_of_block bs 0 0;
  states = small_of_block bs 1 0;
  inputs = small_of_block bs 1 1;
  stages = small_of_block bs 1 2;
  rows = small_of_block bs 1 3;
  fraction_bits = small_of_block bs 2 0;
  grid_bits = small_of_block bs 2 1;
  step_exponent = small_of_block bs 2 2;
  width = small_of_block bs 2 3;
  steps = small_of_block bs 3 0;
  clamp = at (list_of_block bs 4) 0;
  words = small_of_block bs 5 0;
  exponents = exponents_in bs;
  low = list_of_block bs 7;
  high = list_of_block bs 8;
  state_gains = matrix_in bs 9 (small_of_block bs 1 0);
  offsets = list_of_block bs 10;
  dual_gains = matrix_in bs 11 (small_of_block bs 1 3);
  plan_rows = matrix_in bs 12 (small_of_block bs 1 1 * small_of_block bs 1 2);
  state_rows = matrix_in bs 13 (small_of_block bs 1 0);
  bounds = list_of_block bs 14;
}

-- the lists of a controller before those of the constraints, and its exponents
pub record IsFront (c : Numbers) (front : Front) : Type 0 where
  pub exponents : front.exps.items ≡ c.exponents
  pub low : front.lo.items ≡ c.low
  pub high : front.hi.items ≡ c.high
  pub state_gains : front.p_mat ≡ c.state_gains
  pub offsets : front.t.items ≡ c.offsets

-- and the others
pub record IsBack (c : Numbers) (back : Back) : Type 0 where
  pub dual_gains : back.w_mat ≡ c.dual_gains
  pub plan_rows : back.g_mat ≡ c.plan_rows
  pub state_rows : back.e_mat ≡ c.state_rows
  pub bounds : back.bound.items ≡ c.bounds
