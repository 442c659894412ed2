-- The lines of a controller are its text, and each of them can be read.
use Rattle.std.proofs.Common.{◌≡◌, ℕ, ◌*◌, ◌^◌, ◌<◌, ◌≤◌, Bool, true, false, ltb, ℤ, pos, List, [], ◌∷◌, get_or, map, FitsSigned, refl, ap, ◌∙◌, append_assoc, arith}
use Rattle.std.specs.Prelude.{All, codes, ◌==◌, if◌then◌else◌}
use Rattle.std.specs.Int.{w128}
use Rattle.std.specs.List.{list_all, AllByRecursion}
use Rattle.std.proofs.Math.Nat.{mul-le-mul}
use Rattle.std.proofs.lemmas.List.Elements.{All-map, All-from_recursion, recursion_from_All}
use Rattle.mat_int.specs.Matrix.{Matrix}
use Rattle.number_text.specs.Lines.{line_of, text_of}
use Rattle.qp_model.specs.machine.Controller.{Numbers, FitsWord}
use Rattle.qp_model.specs.text.ControllerText.{controller_lines, controller_text}
use Rattle.text_lines.specs.Lines.{Keyed, keyed_line, spelled, Fits, IsKeyedLine}
use Rattle.text_lines.specs.Blocks.{row_lines}
use Rattle.controller_text.specs.TextForm.{IsTextForm}
use Rattle.controller_text.specs.Lines.{line_blocks, keyed_lines}
use Rattle.controller_text.specs.Table.{AreSizesSmall}
use Rattle.text_lines.proofs.Chained.{all_chained, all_blocks, map_chained}
use Rattle.text_lines.proofs.Good.{natural_fits, half_words_fit, quarter_fits, word, good}
use Rattle.controller_text.proofs.Forms.{either_le}
use Rattle.controller_text.proofs.Blocks.{sizes_small}

-- ---- the text

pub spelled_rows : (key : List ℕ) (rows : List (List ℤ)) → map spelled (row_lines key rows) ≡ map (line_of key) rows
spelled_rows key [] = refl
spelled_rows key (row ∷ rows) = ap (λ (ls : List (List ℕ)). line_of key row ∷ ls) (spelled_rows key rows)

spelled_if : (first : Bool) (l : Keyed) → map spelled (if first then [] else l ∷ []) ≡ (if first then [] else spelled l ∷ [])
spelled_if true l = refl
spelled_if false l = refl

pub lines_spelled : (c : Numbers) → map spelled (keyed_lines c) ≡ controller_lines c
lines_spelled c =
    let exps = spelled_if (c.version == 1) (keyed_line (codes "exps") (map pos c.exponents)) in
    let p = spelled_rows (codes "P") c.state_gains.rows in
    let w = spelled_rows (codes "W") c.dual_gains.rows in
    let g = spelled_rows (codes "G") c.plan_rows.rows in
    let e = spelled_rows (codes "E") c.state_rows.rows in
    map_chained spelled (line_blocks c) ∙ rw (exps, p, w, g, e) (simp append_assoc)

pub keyed_text : (c : Numbers) → text_of (map spelled (keyed_lines c)) ≡ controller_text c
keyed_text c = ap text_of (lines_spelled c)

-- ---- the natural numbers

-- each is one of 32 bits
pub record IsSmall (c : Numbers) : Type 0 where
  pub sizes : AreSizesSmall (record { version = c.version; n = c.states; p = c.inputs; stages = c.stages; m = c.rows })
  pub fraction_bits : c.fraction_bits ≤ 48
  pub grid_bits : c.grid_bits ≤ 24
  pub step_exponent : c.step_exponent ≤ 40
  pub width : c.width ≤ 128
  pub steps : c.steps ≤ 4194304
  pub words : c.words < 2 ^ 32

pub small_form : (c : Numbers) → IsTextForm c → IsSmall c
small_form c form =
    let sized = form.sized in
    let sizes = sizes_small c form in
    record {
      sizes = sizes;
      fraction_bits = sized.fraction_bits.1;
      grid_bits = sized.grid_bits;
      step_exponent = sized.step_exponent;
      width = form.width.1;
      steps = sized.steps.1;
      words = omega (arith, form.words, sizes.n, sizes.m, mul-le-mul sizes.p sizes.stages, either_le (c.version == 3) (3 * c.rows) c.rows (3 * c.rows) (omega arith) (omega arith));
    }

-- ---- the lines

rows_good : (key : List ℕ) (a : Matrix) → list_all (λ b. ltb 32 b) key ≡ true → All (All (FitsSigned w128)) a.rows → AllByRecursion IsKeyedLine (row_lines key a.rows)
rows_good key a h fits = recursion_from_All IsKeyedLine (row_lines key a.rows) (All-map IsKeyedLine (keyed_line key) a.rows (λ k d lt. record { key = word key h; fits = fits k d lt }))

rows_fit : (key : List ℕ) (rows : List (List ℤ)) → AllByRecursion Fits (row_lines key rows) → AllByRecursion (All (FitsSigned w128)) rows
rows_fit key [] h = tt
rows_fit key (row ∷ rows) h = (h.0, rows_fit key rows h.1)

abbrev FitAll : List ℤ → Type 0
FitAll zs = AllByRecursion (FitsSigned w128) zs

exponents_good : (first : Bool) (exps : List ℕ) → All (λ e. e < 2 ^ 32) exps → AllByRecursion IsKeyedLine (if first then [] else keyed_line (codes "exps") (map pos exps) ∷ [])
exponents_good true exps h = tt
exponents_good false exps h = (record { key = word (codes "exps") refl; fits = All-map (FitsSigned w128) pos exps (λ i d lt. natural_fits (get_or exps i d) (h i d lt)) }, tt)

-- each line of a controller can be read
pub blocks_good : (c : Numbers) → IsTextForm c → FitsWord c → AllByRecursion (AllByRecursion IsKeyedLine) (line_blocks c)
blocks_good c form fits =
    let small = small_form c form in
    let z = small.sizes in
    let small_exps : All (λ e. e < 2 ^ 32) c.exponents = λ k d lt. omega (arith, form.sized.exponents k d lt, small.step_exponent) in
    let one : (n : ℕ) → n < 2 ^ 32 → FitAll (pos n ∷ []) = λ n lt. (natural_fits n lt, tt) in
    let g0 = good (codes "mpc-controller") (pos c.version ∷ []) refl (one c.version (omega (arith, z.version))) in
    let g1 = good (codes "size") (pos c.states ∷ pos c.inputs ∷ pos c.stages ∷ pos c.rows ∷ []) refl
    (natural_fits c.states (omega (arith, z.n)), (natural_fits c.inputs (omega (arith, z.p)), (natural_fits c.stages (omega (arith, z.stages)), one c.rows (omega (arith, z.m))))) in
    let g2 = good (codes "bits") (pos c.fraction_bits ∷ pos c.grid_bits ∷ pos c.step_exponent ∷ pos c.width ∷ []) refl
    (natural_fits c.fraction_bits (omega (arith, small.fraction_bits)), (natural_fits c.grid_bits (omega (arith, small.grid_bits)), (natural_fits c.step_exponent (omega (arith, small.step_exponent)), one c.width (omega (arith, small.width))))) in
    let g3 = good (codes "steps") (pos c.steps ∷ []) refl (one c.steps (omega (arith, small.steps))) in
    let g4 = good (codes "clamp") (c.clamp ∷ []) refl (quarter_fits c.clamp form.sized.clamp_low form.sized.clamp_high, tt) in
    let g5 = good (codes "words") (pos c.words ∷ []) refl (one c.words small.words) in
    let g6 = exponents_good (c.version == 1) c.exponents small_exps in
    let g7 : IsKeyedLine (keyed_line (codes "lo") c.low) = record { key = word (codes "lo") refl; fits = half_words_fit c.low form.sized.low } in
    let g8 : IsKeyedLine (keyed_line (codes "hi") c.high) = record { key = word (codes "hi") refl; fits = half_words_fit c.high form.sized.high } in
    let g9 = rows_good (codes "P") c.state_gains refl fits.state_gains in
    let g10 : IsKeyedLine (keyed_line (codes "T") c.offsets) = record { key = word (codes "T") refl; fits = fits.offsets } in
    let g11 = rows_good (codes "W") c.dual_gains refl fits.dual_gains in
    let g12 = rows_good (codes "G") c.plan_rows refl fits.plan_rows in
    let g13 = rows_good (codes "E") c.state_rows refl fits.state_rows in
    let g14 : IsKeyedLine (keyed_line (codes "b") c.bounds) = record { key = word (codes "b") refl; fits = fits.bounds } in
    let g15 = good (codes "end") [] refl tt in
    ((g0, tt), ((g1, tt), ((g2, tt), ((g3, tt), ((g4, tt), ((g5, tt), (g6, ((g7, tt), ((g8, tt), (g9, ((g10, tt), (g11, (g12, (g13, ((g14, tt), ((g15, tt), tt))))))))))))))))

pub good_lines : (c : Numbers) → IsTextForm c → FitsWord c → All IsKeyedLine (keyed_lines c)
good_lines c form fits = All-from_recursion IsKeyedLine (keyed_lines c) (all_chained IsKeyedLine (line_blocks c) (blocks_good c form fits))

-- the numbers of lines that were read fit
pub fits_word : (c : Numbers) → All Fits (keyed_lines c) → FitsWord c
fits_word c all =
    let blocks = all_blocks Fits (line_blocks c) (recursion_from_All Fits (keyed_lines c) all) in
    let lists = blocks.1.1.1.1.1.1.1.1.1 in
    let rows : (key : List ℕ) (a : Matrix) → AllByRecursion Fits (row_lines key a.rows) → All (All (FitsSigned w128)) a.rows = λ key a h. All-from_recursion (All (FitsSigned w128)) a.rows (rows_fit key a.rows h) in
    record {
      state_gains = rows (codes "P") c.state_gains lists.0;
      offsets = lists.1.0.0;
      dual_gains = rows (codes "W") c.dual_gains lists.1.1.0;
      plan_rows = rows (codes "G") c.plan_rows lists.1.1.1.0;
      state_rows = rows (codes "E") c.state_rows lists.1.1.1.1.0;
      bounds = lists.1.1.1.1.1.0.0;
    }
