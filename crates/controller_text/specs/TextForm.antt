-- The numbers that a controller's text of any version says: those of versions 1 and 2, and those of the accelerated machine.
use Rattle.std.specs.Prelude.{◌≡◌, ℕ, ◌+◌, ◌*◌, List, ◌==◌, if◌then◌else◌}
use Rattle.qp_model.specs.problem.Limits.{text_version, last_version}
use Rattle.qp_model.specs.problem.Range.{LiesIn}
use Rattle.qp_model.specs.machine.Controller.{Numbers, plan_length, IsSized, FitsWord}
use Rattle.qp_model.specs.text.ControllerText.{controller_text}
use Rattle.overflow_check.specs.FastController.{fast_version, most_fast_steps, as_version, IsFastController}

-- ---- what differs by the version
-- the most steps of a run
abbrev pub most_steps : (version : ℕ) → ℕ
most_steps version = if version == fast_version then most_fast_steps else 4194304

-- the words of its multipliers, which are three lists in the accelerated machine
abbrev pub multiplier_words : (version rows : ℕ) → ℕ
multiplier_words version rows = if version == fast_version then 3 * rows else rows

-- the lines of the exponents of the rows, which the first version doesn't say
abbrev pub exponent_rows : (version : ℕ) → ℕ
exponent_rows version = if version == text_version then 0 else 1

-- ---- shapes and ranges
-- the version whose sizes a version has
abbrev pub plain_version : (version : ℕ) → ℕ
plain_version version = if version == fast_version then last_version else version

-- the same numbers as those of that version
abbrev pub as_plain : Numbers → Numbers
as_plain c = as_version (plain_version c.version) c

-- the shapes and ranges of the numbers of a text
pub record IsTextForm (c : Numbers) : Type 0 where
  pub version : LiesIn text_version fast_version c.version
  pub steps : LiesIn 1 (most_steps c.version) c.steps
  pub words : c.words ≡ c.states + multiplier_words c.version c.rows + 2 * plan_length c
  pub sized : IsSized (as_plain c)
  pub width : LiesIn 2 128 c.width

-- ---- the accelerated machine
-- the bytes are the text of this controller of it
pub record IsFastControllerText (bytes : List ℕ) (c : Numbers) : Type 0 where
  pub controller : IsFastController c
  pub word : FitsWord c
  pub text : bytes ≡ controller_text c
