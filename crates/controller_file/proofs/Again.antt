-- What is read of the lines of a controller is the controller.
use Rattle.std.proofs.Common.{◌≡◌, ◌≢◌, ℕ, zero, suc, ◌*◌, ◌^◌, ◌<◌, ℤ, pos, List, [], ◌∷◌, map, replicate, Bool, refl, sym, ap, ◌∙◌, arith}
use Rattle.std.specs.Prelude.{All, codes, ◌==◌, if◌then◌else◌}
use Rattle.std.specs.List.{AllByRecursion}
use Rattle.std.proofs.lemmas.Bool.{ne_eqb}
use Rattle.std.proofs.lemmas.Bool.Decides.{nat_tests}
use Rattle.std.proofs.lemmas.List.Elements.{recursion_from_All}
use Rattle.mat_int.specs.Matrix.{Matrix}
use Rattle.qp_model.specs.problem.Range.{LiesIn}
use Rattle.qp_model.specs.machine.Controller.{Numbers, HasShape}
use Rattle.controller_text.specs.TextForm.{plain_version, IsTextForm}
use Rattle.text_lines.specs.Lines.{keyed_line, line_in, small}
use Rattle.text_lines.specs.Blocks.{row_lines}
use Rattle.controller_text.specs.Lines.{keyed_exponents, line_blocks}
use Rattle.controller_file.specs.Reading.{numbers_in}
use Rattle.controller_text.proofs.Texts.{small_form}

pub small_is : (n : ℕ) → n < 2 ^ 32 → small (pos n) ≡ n
small_is n lt = grind (arith, nat_tests)

smalls_are : (exps : List ℕ) → AllByRecursion (λ e. e < 2 ^ 32) exps → map small (map pos exps) ≡ exps
smalls_are [] h = refl
smalls_are (e ∷ exps) h =
    let first = small_is e h.0 in
    let others = smalls_are exps h.1 in
    (λ i. first i ∷ others i)

rows_are : (key : List ℕ) (rows : List (List ℤ)) → map (λ l. l.numbers) (row_lines key rows) ≡ rows
rows_are key [] = refl
rows_are key (row ∷ rows) = ap (λ (rs : List (List ℤ)). row ∷ rs) (rows_are key rows)

pub matrix_is : (key : List ℕ) (a : Matrix) (height breadth cols : ℕ) → HasShape a height breadth → cols ≡ breadth → record { cols = cols; rows = map (λ l. l.numbers) (row_lines key a.rows) } ≡ a
matrix_is key a height breadth cols h e =
    let width : cols ≡ a.cols = e ∙ sym h.cols in
    let rows = rows_are key a.rows in
    (λ i. record { cols = width i; rows = rows i })

exponents_are : (version m s : ℕ) (exps : List ℕ) → LiesIn 1 3 version → (version ≡ 1 → exps ≡ replicate m s) → All (λ e. e < 2 ^ 32) exps
    → (if version == 1 then replicate m s else map small (line_in (if version == 1 then [] else keyed_line (codes "exps") (map pos exps) ∷ []) 0)) ≡ exps
exponents_are zero m s exps h same all = absurd (omega (arith, h.0))
exponents_are (suc zero) m s exps h same all = sym (same refl)
exponents_are (suc (suc zero)) m s exps h same all = smalls_are exps (recursion_from_All (λ e. e < 2 ^ 32) exps all)
exponents_are (suc (suc (suc zero))) m s exps h same all = smalls_are exps (recursion_from_All (λ e. e < 2 ^ 32) exps all)
exponents_are (suc (suc (suc (suc n)))) m s exps h same all = absurd (omega (arith, h.1))

-- the exponents of the first version
pub same_first : (c : Numbers) → IsTextForm c → c.version ≡ 1 → c.exponents ≡ replicate c.rows c.step_exponent
same_first c form first = form.sized.same_exponents (ap plain_version first)

pub numbers_again : (c : Numbers) → IsTextForm c → numbers_in (line_blocks c) ≡ c
numbers_again c form =
    let h = form.sized.shaped in
    let k = small_form c form in
    let z = k.sizes in
    let version = small_is c.version (omega (arith, z.version)) in
    let states = small_is c.states (omega (arith, z.n)) in
    let inputs = small_is c.inputs (omega (arith, z.p)) in
    let stages = small_is c.stages (omega (arith, z.stages)) in
    let rows = small_is c.rows (omega (arith, z.m)) in
    let fraction_bits = small_is c.fraction_bits (omega (arith, k.fraction_bits)) in
    let grid_bits = small_is c.grid_bits (omega (arith, k.grid_bits)) in
    let step_exponent = small_is c.step_exponent (omega (arith, k.step_exponent)) in
    let width = small_is c.width (omega (arith, k.width)) in
    let steps = small_is c.steps (omega (arith, k.steps)) in
    let words = small_is c.words k.words in
    let below : All (λ e. e < 2 ^ 32) c.exponents = λ j d lt. omega (arith, form.sized.exponents j d lt, k.step_exponent) in
    let line = line_in (if c.version == 1 then [] else keyed_line (codes "exps") (map pos c.exponents) ∷ []) 0 in
    let exponents = (λ i. if version i == 1 then replicate (rows i) (step_exponent i) else map small line) ∙ exponents_are c.version c.rows c.step_exponent c.exponents form.version (same_first c form) below in
    let state_gains = matrix_is (codes "P") c.state_gains (c.inputs * c.stages) c.states (small (pos c.states)) h.state_gains states in
    let dual_gains = matrix_is (codes "W") c.dual_gains (c.inputs * c.stages) c.rows (small (pos c.rows)) h.dual_gains rows in
    let plan_rows = matrix_is (codes "G") c.plan_rows c.rows (c.inputs * c.stages) (small (pos c.inputs) * small (pos c.stages)) h.plan_rows (λ i. inputs i * stages i) in
    let state_rows = matrix_is (codes "E") c.state_rows c.rows c.states (small (pos c.states)) h.state_rows states in
    rw (exponents, state_gains, dual_gains, plan_rows, state_rows, version, states, inputs, stages, rows, fraction_bits, grid_bits, step_exponent, width, steps, words) refl

-- the exponents that stand there
pub exponents_second : (c : Numbers) → IsTextForm c → c.version ≢ 1 → map small (line_in (keyed_exponents c) 0) ≡ c.exponents
exponents_second c form second =
    let line = keyed_line (codes "exps") (map pos c.exponents) in
    let below : AllByRecursion (λ e. e < 2 ^ 32) c.exponents = recursion_from_All (λ e. e < 2 ^ 32) c.exponents (λ j d lt. omega (arith, form.sized.exponents j d lt, form.sized.step_exponent)) in
    ap (λ (b : Bool). map small (line_in (if b then [] else line ∷ []) 0)) (ne_eqb c.version 1 second) ∙ smalls_are c.exponents below
