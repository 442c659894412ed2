-- What is said of all controller texts.
use Rattle.std.specs.Prelude.{◌≡◌, ◌⊎◌, ℕ, List, [], ◌++◌}
use Rattle.qp_model.specs.machine.Controller.{Numbers}
use Rattle.qp_model.specs.text.ControllerText.{IsControllerText}
use Rattle.controller_text.specs.TextForm.{IsFastControllerText}

-- the bytes are the text of this controller, of either machine
abbrev pub IsSomeControllerText : List ℕ → Numbers → Type 0
IsSomeControllerText bytes c = IsControllerText bytes c ⊎ IsFastControllerText bytes c

-- a text is the text of one controller
abbrev pub HasOneController : Type 0
HasOneController = (bytes : List ℕ) (c d : Numbers) → IsSomeControllerText bytes c → IsSomeControllerText bytes d → c ≡ d

-- no text goes on where another ends
abbrev pub HasNoPrefix : Type 0
HasNoPrefix = (bytes more : List ℕ) (c d : Numbers) → IsSomeControllerText bytes c → IsSomeControllerText (bytes ++ more) d → more ≡ []
