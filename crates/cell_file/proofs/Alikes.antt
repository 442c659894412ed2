-- A line can be one of a controller that is like the first.
use Rattle.std.proofs.Common.{◌≡◌, ℕ, ◌-◌, ◌≤◌, ℤ, pos, List, [], ◌∷◌, ◌++◌, length, get_or, take, drop, refl, sym, ap, subst, ◌∙◌, append_assoc, arith}
use Rattle.std.specs.Prelude.{codes, ◌↔◌}
use Rattle.std.proofs.lemmas.List.{length-map, drop-map, take_rest}
use Rattle.qp_model.specs.problem.Limits.{most_states, most_stages, most_rows}
use Rattle.qp_model.specs.machine.Controller.{Numbers, FitsWord}
use Rattle.controller_text.specs.TextForm.{IsTextForm}
use Rattle.text_lines.specs.Lines.{Keyed, keyed_line, no_line, small, view, views}
use Rattle.text_lines.specs.declared.line.Line.{Line}
use Rattle.text_lines.specs.Grammar.{IsBeginning}
use Rattle.controller_text.specs.Lines.{keyed_lines}
use Rattle.controller_file.specs.Following.{IsAnyWhole}
use Rattle.controller_file.proofs.Blank.{blank, blank_form, blank_fits, most_plain}
use Rattle.controller_file.proofs.Again.{small_is}
use Rattle.cell_file.specs.Cells.{AreAlike}
use Rattle.cell_file.specs.Alike.{IsAlikeLine}

-- ---- the first lines of a controller
abbrev pub version_line : Numbers → Keyed
version_line c = keyed_line (codes "mpc-controller") (pos c.version ∷ [])

abbrev pub size_line : Numbers → Keyed
size_line c = keyed_line (codes "size") (pos c.states ∷ pos c.inputs ∷ pos c.stages ∷ pos c.rows ∷ [])

abbrev bits_line : Numbers → Keyed
bits_line c = keyed_line (codes "bits") (pos c.fraction_bits ∷ pos c.grid_bits ∷ pos c.step_exponent ∷ pos c.width ∷ [])

-- line i of lines that are the same
same_line : (i : ℕ) (ls ms : List Keyed) → ls ≡ ms → get_or ls i no_line ≡ get_or ms i no_line
same_line i ls ms e = ap (λ (ks : List Keyed). get_or ks i no_line) e

same_numbers : (a b : Keyed) → a ≡ b → a.numbers ≡ b.numbers
same_numbers a b e = ap (λ (k : Keyed). k.numbers) e

version_small : (c : Numbers) → IsTextForm c → small (pos c.version) ≡ c.version
version_small c form = small_is c.version (omega (arith, form.version.1))

-- ---- each line of a controller that is alike is such a line
pub alike_line : (c d : Numbers) → AreAlike c d → IsTextForm d → (tail : List Keyed) (l : Keyed) (m : List Keyed) → keyed_lines d ≡ tail ++ l ∷ m → IsAlikeLine c (length tail) l.numbers
alike_line c d alike form [] l m e =
    subst (IsAlikeLine c 0) (same_numbers (version_line d) l (same_line 0 (keyed_lines d) (l ∷ m) e))
    (rw (version_small d form, alike.states, alike.stages) (omega (arith, form.sized.states.1, (most_plain d.version).0), omega (arith, form.sized.stages.1, (most_plain d.version).1)))
alike_line c d alike form (a ∷ []) l m e =
    subst (IsAlikeLine c 1) (same_numbers (size_line d) l (same_line 1 (keyed_lines d) (a ∷ l ∷ m) e)) (ap pos (sym alike.states), ap pos (sym alike.inputs), ap pos (sym alike.stages))
alike_line c d alike form (a ∷ b ∷ []) l m e =
    subst (IsAlikeLine c 2) (same_numbers (bits_line d) l (same_line 2 (keyed_lines d) (a ∷ b ∷ l ∷ m) e)) (ap pos (sym alike.grid))
alike_line c d alike form (a ∷ b ∷ x ∷ tail) l m e = tt

-- ---- and each such line is one of a controller that is alike
-- zeros, on this grid
abbrev on_grid : (grid version n p stages m : ℕ) → Numbers
on_grid grid version n p stages m = record (blank version n p stages m) { fraction_bits = grid; grid_bits = grid }

on_grid_form : (grid version n p stages m : ℕ) → grid ≤ 24 → IsTextForm (blank version n p stages m) → IsTextForm (on_grid grid version n p stages m)
on_grid_form grid version n p stages m few form = record {
  version = form.version;
  steps = form.steps;
  words = form.words;
  sized = record {
    version = form.sized.version;
    states = form.sized.states;
    inputs = form.sized.inputs;
    stages = form.sized.stages;
    rows = form.sized.rows;
    grid_bits = few;
    fraction_bits = (omega arith, omega (arith, few));
    step_exponent = form.sized.step_exponent;
    exponents = form.sized.exponents;
    same_exponents = form.sized.same_exponents;
    steps = form.sized.steps;
    clamp_low = form.sized.clamp_low;
    clamp_high = form.sized.clamp_high;
    words = form.sized.words;
    shaped = record {
      exponents = form.sized.shaped.exponents;
      low = form.sized.shaped.low;
      high = form.sized.shaped.high;
      state_gains = form.sized.shaped.state_gains;
      offsets = form.sized.shaped.offsets;
      dual_gains = form.sized.shaped.dual_gains;
      plan_rows = form.sized.shaped.plan_rows;
      state_rows = form.sized.shaped.state_rows;
      bounds = form.sized.shaped.bounds;
    };
    low = form.sized.low;
    high = form.sized.high;
    box = form.sized.box;
  };
  width = form.width;
}

on_grid_fits : (grid version n p stages m : ℕ) → FitsWord (on_grid grid version n p stages m)
on_grid_fits grid version n p stages m =
    let fits = blank_fits version n p stages m in
    record { state_gains = fits.state_gains; offsets = fits.offsets; dual_gains = fits.dual_gains; plan_rows = fits.plan_rows; state_rows = fits.state_rows; bounds = fits.bounds }

-- a row is allowed by any version
one_row : (version : ℕ) → 1 ≤ most_rows version
one_row version = omega arith

-- a controller like c, with these lines
pub record Goes (c : Numbers) (tail : List Keyed) (l : Keyed) : Type 0 where
  pub numbers : Numbers
  pub form : IsTextForm numbers
  pub word : FitsWord numbers
  pub alike : AreAlike c numbers
  pub more : List Keyed
  pub lines : keyed_lines numbers ≡ tail ++ l ∷ more

four_same : (a b c d e f g h : ℕ) → pos a ∷ pos b ∷ pos c ∷ pos d ∷ [] ≡ pos e ∷ pos f ∷ pos g ∷ pos h ∷ [] → (a ≡ e) × (b ≡ f) × (c ≡ g) × (d ≡ h)
four_same a b c d e f g h same = (cc same, cc same, cc same, cc same)

-- what the sizes and the grid of d are, by its lines
sizes_by : (c e d : Numbers) → AreAlike c e → size_line e ≡ size_line d → c.grid_bits ≡ d.grid_bits → AreAlike c d
sizes_by c e d alike same grid =
    let four = four_same e.states e.inputs e.stages e.rows d.states d.inputs d.stages d.rows (same_numbers (size_line e) (size_line d) same) in
    record { states = alike.states ∙ four.0; inputs = alike.inputs ∙ four.1; stages = alike.stages ∙ four.2; grid = grid }

-- the lines of a text that goes on
whole_lines : (tail : List Keyed) (l : Keyed) (b : IsBeginning IsAnyWhole (tail ++ l ∷ [])) → keyed_lines b.whole.numbers ≡ tail ++ l ∷ b.more
whole_lines tail l b = b.whole.lines ∙ append_assoc tail (l ∷ []) b.more

pub goes_alike : (c e : Numbers) → IsTextForm c → IsTextForm e → AreAlike c e → (tail : List Keyed) (l : Keyed) (rest : List Keyed) → keyed_lines e ≡ tail ++ rest →
    IsBeginning IsAnyWhole (tail ++ l ∷ []) → IsAlikeLine c (length tail) l.numbers → Goes c tail l
goes_alike c e own other alike [] l rest lines b h =
    let d = b.whole.numbers in
    let first : version_line d ≡ l = same_line 0 (keyed_lines d) (l ∷ b.more) (whole_lines [] l b) in
    let room : (c.states ≤ most_states d.version) × (c.stages ≤ most_stages d.version) = rw (version_small d b.whole.form) at (subst (IsAlikeLine c 0) (sym (same_numbers (version_line d) l first)) h) in
    let form = blank_form d.version c.states c.inputs c.stages 1 b.whole.form.version (own.sized.states.0, room.0) own.sized.inputs (own.sized.stages.0, room.1) (omega arith, one_row d.version) in
    record {
      numbers = on_grid c.grid_bits d.version c.states c.inputs c.stages 1;
      form = on_grid_form c.grid_bits d.version c.states c.inputs c.stages 1 own.sized.grid_bits form;
      word = on_grid_fits c.grid_bits d.version c.states c.inputs c.stages 1;
      alike = record { states = refl; inputs = refl; stages = refl; grid = refl };
      more = drop 1 (keyed_lines (on_grid c.grid_bits d.version c.states c.inputs c.stages 1));
      lines = ap (λ (k : Keyed). k ∷ drop 1 (keyed_lines (on_grid c.grid_bits d.version c.states c.inputs c.stages 1))) first;
    }
goes_alike c e own other alike (a ∷ []) l rest lines b h =
    let d = b.whole.numbers in
    let second : size_line d ≡ l = same_line 1 (keyed_lines d) (a ∷ l ∷ b.more) (whole_lines (a ∷ []) l b) in
    let first : version_line d ≡ a = same_line 0 (keyed_lines d) (a ∷ l ∷ b.more) (whole_lines (a ∷ []) l b) in
    let sizes : (pos d.states ≡ pos c.states) × (pos d.inputs ≡ pos c.inputs) × (pos d.stages ≡ pos c.stages) = subst (IsAlikeLine c 1) (sym (same_numbers (size_line d) l second)) h in
    let s = b.whole.form.sized in
    let most = most_plain d.version in
    let form =
    blank_form d.version d.states d.inputs d.stages d.rows b.whole.form.version (s.states.0, omega (arith, s.states.1, most.0)) s.inputs (s.stages.0, omega (arith, s.stages.1, most.1)) (s.rows.0, omega (arith, s.rows.1, most.1)) in
    record {
      numbers = on_grid c.grid_bits d.version d.states d.inputs d.stages d.rows;
      form = on_grid_form c.grid_bits d.version d.states d.inputs d.stages d.rows own.sized.grid_bits form;
      word = on_grid_fits c.grid_bits d.version d.states d.inputs d.stages d.rows;
      alike = record { states = cc (sym sizes.0); inputs = cc (sym sizes.1); stages = cc (sym sizes.2); grid = refl };
      more = drop 2 (keyed_lines (on_grid c.grid_bits d.version d.states d.inputs d.stages d.rows));
      lines = (λ i. first i ∷ second i ∷ drop 2 (keyed_lines (on_grid c.grid_bits d.version d.states d.inputs d.stages d.rows)));
    }
goes_alike c e own other alike (a ∷ z ∷ []) l rest lines b h =
    let d = b.whole.numbers in
    let sizes : size_line e ≡ size_line d = same_line 1 (keyed_lines e) (a ∷ z ∷ rest) lines ∙ sym (same_line 1 (keyed_lines d) (a ∷ z ∷ l ∷ b.more) (whole_lines (a ∷ z ∷ []) l b)) in
    let bits : bits_line d ≡ l = same_line 2 (keyed_lines d) (a ∷ z ∷ l ∷ b.more) (whole_lines (a ∷ z ∷ []) l b) in
    let grid : pos d.grid_bits ≡ pos c.grid_bits = subst (IsAlikeLine c 2) (sym (same_numbers (bits_line d) l bits)) h in
    record { numbers = d; form = b.whole.form; word = b.whole.word; alike = sizes_by c e d alike sizes (cc (sym grid)); more = b.more; lines = whole_lines (a ∷ z ∷ []) l b }
goes_alike c e own other alike (a ∷ z ∷ y ∷ tail) l rest lines b h =
    let d = b.whole.numbers in
    let mine = whole_lines (a ∷ z ∷ y ∷ tail) l b in
    let sizes : size_line e ≡ size_line d = same_line 1 (keyed_lines e) (a ∷ z ∷ y ∷ (tail ++ rest)) lines ∙ sym (same_line 1 (keyed_lines d) (a ∷ z ∷ y ∷ (tail ++ l ∷ b.more)) mine) in
    let bits : bits_line e ≡ bits_line d = same_line 2 (keyed_lines e) (a ∷ z ∷ y ∷ (tail ++ rest)) lines ∙ sym (same_line 2 (keyed_lines d) (a ∷ z ∷ y ∷ (tail ++ l ∷ b.more)) mine) in
    let four = four_same e.fraction_bits e.grid_bits e.step_exponent e.width d.fraction_bits d.grid_bits d.step_exponent d.width (same_numbers (bits_line e) (bits_line d) bits) in
    record { numbers = d; form = b.whole.form; word = b.whole.word; alike = sizes_by c e d alike sizes (alike.grid ∙ four.1); more = b.more; lines = mine }

-- ---- as the code has it
pub test_by : (lines : List Line) (s : ℕ) (T : Type 0) (ns zs : List ℤ) → ns ≡ zs →
    ((k : Numbers) (rest : List Keyed) → IsTextForm k → views (take (length lines - 1) (drop 1 lines)) ≡ keyed_lines k ++ rest → T ↔ IsAlikeLine k (length (take (length lines - s) (drop s lines))) ns) →
    (k : Numbers) (rest : List Keyed) → IsTextForm k → drop 1 (views lines) ≡ keyed_lines k ++ rest → T ↔ IsAlikeLine k (length (views (take (length lines - s) (drop s lines)))) zs
test_by lines s T ns zs same test k rest form e =
    subst (λ (n : ℕ). T ↔ IsAlikeLine k n zs) (sym (length-map (take (length lines - s) (drop s lines)) view))
    (subst (λ (ys : List ℤ). T ↔ IsAlikeLine k (length (take (length lines - s) (drop s lines))) ys) same (test k rest form (ap views (take_rest lines 1) ∙ sym (drop-map view 1 lines) ∙ e)))
