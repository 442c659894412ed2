-- The first cell whose box holds a state.
use Rattle.std.proofs.Common.{◌≡◌, inl, inr, ℕ, zero, suc, ◌+◌, ◌<◌, ◌≤◌, ℤ, List, [], ◌∷◌, ◌++◌, length, get_or, set, take, map, refl, sym, ap, ◌∙◌, arith}
use Rattle.std.proofs.lemmas.Bool.{cases_order}
use Rattle.std.proofs.lemmas.List.{get_or-map, length-map, map-append, take_more}
use Rattle.qp_model.specs.machine.Controller.{Numbers}
use Rattle.plan_lines.specs.ControllerFile.AnyText.{any_numbers}
use Rattle.plan_lines.specs.ControllerFile.declared.any_controller.AnyController.{AnyController}
use Rattle.cell_file.specs.Cells.{AreCells}
use Rattle.cell_file.specs.Finding.{NoneHolds, IsFirstHolding}
use Rattle.plan_lines.specs.Lines.{any_plan_line}
use Rattle.plan_lines.specs.Making.{any_controller}
use Rattle.plan_lines.specs.declared.any_kernel.AnyKernel.{AnyKernel}
use Rattle.command_serve.specs.Served.{cell_states, HaveWidth, IsHeldBySome, controllers_of}
use Rattle.command_serve.specs.Laws.{OneCellLaw}

-- a list that has an element has one
pub some_cell : (cells : List AnyController) (k : ℕ) → k < length cells → AnyController
some_cell [] k lt = absurd (omega (arith, lt))
some_cell (c ∷ cells) k lt = c

-- two cells that are both the first are one
pub one_first : (cells : List AnyController) (xi : List ℤ) (j k : ℕ) → IsFirstHolding cells xi j → IsFirstHolding cells xi k → j ≡ k
one_first cells xi j k first other =
    let c = some_cell cells j first.there in
    elim (cases_order j k) [
      | inl e ↦ e
      | inr (inl lt) ↦ absurd (other.before j c lt (first.here c))
      | inr (inr gt) ↦ absurd (first.before k c gt (other.here c))
    ]

-- some cell's box holds a state, or none does
pub none_never : (cells : List AnyController) (xi : List ℤ) → NoneHolds cells xi (length cells) → IsHeldBySome cells xi → ⊥
none_never cells xi none held =
    let c = some_cell cells held.0 held.1.there in
    none held.0 c held.1.there (held.1.here c)

-- in a list, what stands at an index doesn't depend on what would stand behind
pub any_default : {X : Type 0} (xs : List X) (k : ℕ) (c d : X) → k < length xs → get_or xs k c ≡ get_or xs k d
any_default [] k c d lt = absurd (omega (arith, lt))
any_default (x ∷ xs) zero c d lt = refl
any_default (x ∷ xs) (suc k) c d lt = any_default xs k c d (omega (arith, lt))

-- ---- the line of a state
pub one_cell_law : OneCellLaw
one_cell_law cells xi k held = record {
  line = λ c. record {
    cell = k;
    first = first;
    is = λ d. ap (λ (c : AnyController). any_plan_line c xi) (any_default cells k c d held.there);
  };
  only = λ c line served. served.is c ∙ ap (λ (i : ℕ). any_plan_line (get_or cells i c) xi) (one_first cells xi served.cell k served.first first);
}
  where
    first : IsFirstHolding cells xi k
    first = record { there = held.there; here = held.here; before = λ i c lt holds. absurd (omega (arith, lt, held.alone i c (omega (arith, lt, held.there)) holds)) }

-- ---- kernels of cells
-- the controller of a kernel is that of its cell
pub kernel_of : (kernels : List AnyKernel) (cells : List AnyController) (k : ℕ) (p : AnyKernel) (c : AnyController) → controllers_of kernels ≡ cells → k < length cells → any_controller (get_or kernels k p) ≡ get_or cells k c
kernel_of kernels cells k p c same lt =
    sym (get_or-map any_controller kernels k p c (omega (arith, lt, ap length same, length-map kernels any_controller))) ∙ ap (λ (cs : List AnyController). get_or cs k c) same

pub kernels_long : (kernels : List AnyKernel) (cells : List AnyController) → controllers_of kernels ≡ cells → length kernels ≡ length cells
kernels_long kernels cells same = sym (length-map kernels any_controller) ∙ ap length same

-- kernels of the first cells, and one more
pub kernels_more : (kernels : List AnyKernel) (cells : List AnyController) (i : ℕ) (p : AnyKernel) (c : AnyController) → controllers_of kernels ≡ take i cells → i < length cells → any_controller p ≡ c → c ≡ get_or cells i c →
    controllers_of (kernels ++ p ∷ []) ≡ take (i + 1) cells
kernels_more kernels cells i p c first lt same here =
    map-append any_controller kernels (p ∷ []) ∙ ap (λ (cs : List AnyController). cs ++ any_controller p ∷ []) first ∙ ap (λ (d : AnyController). take i cells ++ d ∷ []) (same ∙ here) ∙ sym (take_more cells i c lt)

-- a kernel that stays one of its controller
pub kernels_kept : (kernels : List AnyKernel) (k : ℕ) (p : AnyKernel) → k < length kernels → any_controller p ≡ any_controller (get_or kernels k p) → controllers_of (set kernels k p) ≡ controllers_of kernels
kernels_kept [] k p lt same = refl
kernels_kept (q ∷ kernels) zero p lt same = ap (λ (c : AnyController). c ∷ controllers_of kernels) same
kernels_kept (q ∷ kernels) (suc k) p lt same = ap (λ (cs : List AnyController). any_controller q ∷ cs) (kernels_kept kernels k p (omega (arith, lt)) same)

-- ---- the width of states
pub first_states : (cells : List AnyController) (c : AnyController) → 1 ≤ length cells → cell_states cells ≡ (any_numbers (get_or cells 0 c)).states
first_states [] c some = absurd (omega (arith, some))
first_states (d ∷ cells) c some = refl

pub first_width : (cells : List AnyController) (d : AnyController) → 0 < length cells → d ≡ get_or cells 0 d → (any_numbers d).states ≡ cell_states cells
first_width cells d some is = ap (λ (c : AnyController). (any_numbers c).states) is ∙ sym (first_states cells d (omega (arith, some)))

pub some_cells : (cells : List AnyController) → AreCells (map any_numbers cells) → 0 < length cells
some_cells cells are = omega (arith, are.some, length-map cells any_numbers)

pub have_width : (cells : List AnyController) (n : ℕ) → AreCells (map any_numbers cells) → n ≡ cell_states cells → HaveWidth cells n
have_width cells n are is k c lt =
    let some = some_cells cells are in
    let states : ℕ → ℕ = λ i. (get_or (map any_numbers cells) i (any_numbers c)).states in
    let like : states 0 ≡ states k = (are.alike k (any_numbers c) (omega (arith, lt, length-map cells any_numbers))).states in
    is ∙ first_states cells c some ∙ ap (λ (d : Numbers). d.states) (sym (get_or-map any_numbers cells 0 c (any_numbers c) some)) ∙ like
    ∙ ap (λ (d : Numbers). d.states) (get_or-map any_numbers cells k c (any_numbers c) lt)
