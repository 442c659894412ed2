-- Which lines a text has, by its version and its sizes.
use Rattle.std.specs.Prelude.{◌≡◌, ℕ, ◌*◌, ◌<◌, ◌≤◌, pos, List, [], ◌∷◌, length, codes, slice_index_or}
use Rattle.qp_model.specs.machine.Controller.{Numbers}
use Rattle.controller_text.specs.TextForm.{exponent_rows}
use Rattle.controller_text.specs.declared.layout.Sizes.{Sizes}
use Rattle.text_lines.specs.Lines.{Keyed, Place, line_in}
use Rattle.text_lines.specs.Blocks.{spread, Block}

abbrev pub text_table : Sizes → List Block
text_table z =
    (codes "mpc-controller", 1, 1)
    ∷ (codes "size", 1, 4)
    ∷ (codes "bits", 1, 4)
    ∷ (codes "steps", 1, 1)
    ∷ (codes "clamp", 1, 1)
    ∷ (codes "words", 1, 1)
    ∷ (codes "exps", exponent_rows z.version, z.m)
    ∷ (codes "lo", 1, z.n)
    ∷ (codes "hi", 1, z.n)
    ∷ (codes "P", z.p * z.stages, z.n)
    ∷ (codes "T", 1, z.p * z.stages)
    ∷ (codes "W", z.p * z.stages, z.m)
    ∷ (codes "G", z.m, z.p * z.stages)
    ∷ (codes "E", z.m, z.n)
    ∷ (codes "b", 1, z.m)
    ∷ (codes "end", 1, 0) ∷ []

abbrev pub block_at : Sizes → ℕ → Block
block_at z k = slice_index_or (text_table z) k ([], 0, 0)

abbrev pub places : Sizes → List Place
places z = spread (text_table z)

abbrev pub sizes_of : Numbers → Sizes
sizes_of c = record { version = c.version; n = c.states; p = c.inputs; stages = c.stages; m = c.rows }

-- none is above the greatest of any version
pub record AreSizesSmall (z : Sizes) : Type 0 where
  pub version : z.version ≤ 3
  pub n : z.n ≤ 6
  pub p : z.p ≤ 3
  pub stages : z.stages ≤ 30
  pub m : z.m ≤ 372

-- the first of these lines say these sizes, as far as they are there
pub record Says (ls : List Keyed) (z : Sizes) : Type 0 where
  pub small : AreSizesSmall z
  pub version : 0 < length ls → line_in ls 0 ≡ pos z.version ∷ []
  pub sizes : 1 < length ls → line_in ls 1 ≡ pos z.n ∷ pos z.p ∷ pos z.stages ∷ pos z.m ∷ []
