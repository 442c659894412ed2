-- What is said of all texts of cells.
use Rattle.std.specs.Prelude.{◌≡◌, ℕ, ◌≤◌, List, [], ◌++◌, length}
use Rattle.qp_model.specs.machine.Controller.{Numbers}
use Rattle.controller_file.specs.declared.any_controller.AnyController.{AnyController}
use Rattle.cell_file.specs.Text.{IsTextOfCells, IsCellsText}

-- a text is the text of the numbers of one list of controllers
abbrev pub HasOneList : Type 0
HasOneList = (bytes : List ℕ) (cells others : List Numbers) → IsTextOfCells bytes cells → IsTextOfCells bytes others → cells ≡ others

-- no text goes on where another ends
abbrev pub CellsHaveNoPrefix : Type 0
CellsHaveNoPrefix = (bytes more : List ℕ) (cells others : List Numbers) → IsTextOfCells bytes cells → IsTextOfCells (bytes ++ more) others → more ≡ []

-- the most bytes of a text of cells: 64 controllers' texts, the line of how many, and an end
abbrev pub cells_text_limit : ℕ
cells_text_limit = 186000000

abbrev pub CellsLengthLaw : Type 0
CellsLengthLaw = (bytes : List ℕ) (cells : List AnyController) → IsCellsText bytes cells → length bytes ≤ cells_text_limit
