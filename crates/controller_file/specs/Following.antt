-- Lines with which a text in form begins, and what the numbers of each line must be.
use Rattle.std.specs.Prelude.{◌≡◌, ℕ, ◌+◌, ◌-◌, ◌*◌, ◌^◌, ℤ, pos, ◌≤ℤ◌, List, [], ◌∷◌, length, All, Option, Some, slice_get, ◌==◌, ◌&&◌, nat_lt, if◌then◌else◌}
use Rattle.integer_algebra.specs.Sums.{at}
use Rattle.qp_model.specs.problem.Limits.{text_version, last_version, most_states, most_inputs, most_stages, most_rows}
use Rattle.qp_model.specs.problem.Range.{IsNumerator}
use Rattle.qp_model.specs.problem.PartRules.{AreHighs}
use Rattle.qp_model.specs.machine.Controller.{Numbers, IsInForm, FitsWord}
use Rattle.controller_text.specs.declared.block.Block.{Block}
use Rattle.controller_text.specs.declared.block.Block.TheVariants.{Version, Size, Bits, Steps, Clamp, Words, Exponents, Low, High}
use Rattle.controller_text.specs.declared.layout.Sizes.{Sizes}
use Rattle.text_lines.specs.Lines.{Keyed, line_in}
use Rattle.overflow_check.specs.FastController.{fast_version}
use Rattle.controller_text.specs.TextForm.{most_steps, multiplier_words, IsTextForm}
use Rattle.controller_text.specs.Lines.{keyed_lines}

-- they are all lines of a text of numbers with such shapes and ranges
pub record IsWholeOf (Form : Numbers → Type 0) (ls : List Keyed) : Type 0 where
  pub numbers : Numbers
  pub form : Form numbers
  pub word : FitsWord numbers
  pub lines : keyed_lines numbers ≡ ls

-- of version 1 or 2, and of any
abbrev pub IsWhole : List Keyed → Type 0
IsWhole = IsWholeOf IsInForm

abbrev pub IsAnyWhole : List Keyed → Type 0
IsAnyWhole = IsWholeOf IsTextForm

-- the first of these lines, where there is one, says version 1 or 2
abbrev pub IsPlain : List Keyed → Type 0
IsPlain ls = at (line_in ls 0) 0 ≤ℤ pos last_version

-- ---- the numbers of a line

-- from low to high
pub record IsFrom (low high z : ℤ) : Type 0 where
  pub least : low ≤ℤ z
  pub greatest : z ≤ℤ high

abbrev pub AreSizes : (version : ℕ) (n p stages m : ℤ) → Type 0
AreSizes version n p stages m =
    IsFrom (pos 1) (pos (most_states version)) n × IsFrom (pos 1) (pos (most_inputs version)) p × IsFrom (pos 1) (pos (most_stages version)) stages × IsFrom (pos 1) (pos (most_rows version)) m

abbrev pub AreBits : (f g s w : ℤ) → Type 0
AreBits f g s w = IsFrom (pos 0) (pos 24) g × IsFrom g (pos 48) f × IsFrom (pos 0) (pos 40) s × IsFrom (pos 2) (pos 128) w

abbrev pub word_count : Sizes → ℕ
word_count z = z.n + multiplier_words z.version z.m + 2 * (z.p * z.stages)

-- as many, each at least its lower one
abbrev pub AreUpper : List ℤ → List ℤ → Type 0
AreUpper high low = (length high ≡ length low) × AreHighs high low (length low)

-- the blocks before the lists, each of one line
abbrev pub head_blocks : List Block
head_blocks = Version ∷ Size ∷ Bits ∷ Steps ∷ Clamp ∷ Words ∷ Exponents ∷ Low ∷ High ∷ []

-- the block of the line with an index, none where it is in the lists; the first version has no line of exponents
abbrev pub head_block : Sizes → ℕ → Option Block
head_block z i = slice_get head_blocks (if nat_lt 5 i && (z.version == text_version) then i + 1 else i)

-- the numbers of a line of a block, after these lines; those of the lists are any
abbrev pub InRange : Option Block → List Keyed → Sizes → List ℤ → Type 0
InRange (Some Version) ls z zs = IsFrom (pos text_version) (pos fast_version) (at zs 0)
InRange (Some Size) ls z zs = AreSizes z.version (at zs 0) (at zs 1) (at zs 2) (at zs 3)
InRange (Some Bits) ls z zs = AreBits (at zs 0) (at zs 1) (at zs 2) (at zs 3)
InRange (Some Steps) ls z zs = IsFrom (pos 1) (pos (most_steps z.version)) (at zs 0)
InRange (Some Clamp) ls z zs = IsFrom (pos 0) (pos (2 ^ 126)) (at zs 0)
InRange (Some Words) ls z zs = at zs 0 ≡ pos (word_count z)
InRange (Some Exponents) ls z zs = All (IsFrom (pos 0) (at (line_in ls 2) 2)) zs
InRange (Some Low) ls z zs = All IsNumerator zs
InRange (Some High) ls z zs = AreUpper zs (line_in ls (length ls - 1))
InRange b ls z zs = Unit {0}
