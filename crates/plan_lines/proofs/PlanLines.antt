-- The lines of a machine that has one for each state, and those of a controller's averaged plans.
use Rattle.std.proofs.Common.{◌≡◌, inl, inr, ℕ, zero, suc, ◌+◌, ◌<◌, ◌≤◌, ℤ, List, [], ◌∷◌, ◌++◌, length, take, drop, get_or, sym, ap, subst, ◌∙◌, arith, append-nil, zero-le, length-append}
use Rattle.std.specs.List.{flat_map}
use Rattle.std.proofs.lemmas.Grind.{flat_map-append}
use Rattle.std.proofs.lemmas.Bool.{cases_lt}
use Rattle.std.proofs.lemmas.List.{take-append-drop, take_more}
use Rattle.std.proofs.Math.Seq.{take-length}
use Rattle.io_edge.specs.Faults.{GrowsByPart}
use Rattle.mat_int.specs.Matrix.{Matrix, row_of}
use Rattle.qp_model.specs.machine.Controller.{Numbers}
use Rattle.qp_model.specs.machine.Machine.{IsAdmissible}
use Rattle.controller_file.specs.declared.any_controller.AnyController.{AnyController}
use Rattle.controller_file.specs.declared.any_controller.AnyController.TheVariants.{Plain, Fast}
use Rattle.qp_model.specs.text.ControllerText.{plan_line}
use Rattle.fixed_kernel.specs.Outside.{IsFirstOutside}
use Rattle.fixed_kernel.proofs.OneOutside.{one_outside_law}
use Rattle.plan_lines.specs.Inside.{AreHeld}
use Rattle.plan_lines.specs.Lines.{any_plan_line, first_lines, AreLinesOf}
use Rattle.plan_lines.specs.Making.{making_by}
use Rattle.plan_lines.specs.Printing.{AreSomeLines, AreFirstLines, lines_by}
use Rattle.plan_lines.proofs.LineByLine.{longer}
use Rattle.plan_lines.proofs.Acting.{IsJudged, AreToldAs}

-- a line has its line feed at least
pub ended : (xs : List ℕ) → 0 < length (xs ++ 10 ∷ [])
ended xs = omega (arith, length-append xs (10 ∷ []))

pub line_some : (k : AnyController) (xi : List ℤ) → 0 < length (any_plan_line k xi)
line_some (Plain c) xi = ended _
line_some (Fast c) xi = ended _

-- ---- lines that are values of a function
pub lines_more : (f : List ℤ → List ℕ) (m : Matrix) (k : ℕ) → k < length m.rows → flat_map f (take (suc k) m.rows) ≡ flat_map f (take k m.rows) ++ f (row_of m k)
lines_more f m k lt =
    let next : suc k ≡ k + 1 = omega arith in
    ap (λ (n : ℕ). flat_map f (take n m.rows)) next ∙ ap (flat_map f) (take_more m.rows k [] lt) ∙ flat_map-append f (take k m.rows) (get_or m.rows k [] ∷ [])
    ∙ ap (λ (line : List ℕ). flat_map f (take k m.rows) ++ line) (append-nil (f (row_of m k)))

module _ (f : List ℤ → List ℕ) (m : Matrix) where
  -- the text is theirs
  pub text_is : (IsLine : List ℤ → List ℕ → Type 0) → ((xi : List ℤ) (line : List ℕ) → IsLine xi line → line ≡ f xi) → (k : ℕ) (text : List ℕ) → k ≤ length m.rows → AreLinesOf IsLine m k text →
      text ≡ flat_map f (take k m.rows)
  text_is IsLine by zero text le lines = lines
  text_is IsLine by (suc k) text le lines =
      lines.is ∙ ap (λ (x : List ℕ). x ++ lines.line) (text_is IsLine by k lines.before (omega (arith, le)) lines.those)
      ∙ ap (λ (x : List ℕ). flat_map f (take k m.rows) ++ x) (by (row_of m k) lines.line lines.last) ∙ sym (lines_more f m k (omega (arith, le)))

  -- a part of some first lines is a part of all
  pub part_of_all : (k : ℕ) (old new : List ℕ) → GrowsByPart old new (flat_map f (take k m.rows)) → GrowsByPart old new (flat_map f (take (length m.rows) m.rows))
  part_of_all k old new p =
      let all = ap (flat_map f) (take-length m.rows ∙ sym (take-append-drop k m.rows)) ∙ flat_map-append f (take k m.rows) (drop k m.rows) in
      subst (λ (bytes : List ℕ). GrowsByPart old new bytes) (sym all) (longer (flat_map f (take k m.rows)) (flat_map f (drop k m.rows)) old new p)

-- what is true of each state that has a line
pub each_line : (P : List ℤ → Type 0) (m : Matrix) (IsLine : List ℤ → List ℕ → Type 0) → ((xi : List ℤ) (line : List ℕ) → IsLine xi line → P xi) → (k : ℕ) (text : List ℕ) → AreLinesOf IsLine m k text →
    AreHeld (λ e. P (row_of m e)) k
each_line P m IsLine by zero text lines e lt = absurd (omega (arith, lt))
each_line P m IsLine by (suc k) text lines e lt = elim (cases_lt e k) [
  | inl before ↦ each_line P m IsLine by k lines.before lines.those e before
  | inr after ↦ subst (λ (i : ℕ). P (row_of m i)) (let is : k ≡ e = omega (arith, lt, after) in is) (by (row_of m k) lines.line lines.last)
]

-- ---- the lines of averaged plans
pub plans_judged : (c : Numbers) (m : Matrix) → IsJudged (λ e. IsAdmissible c (row_of m e)) (λ e. IsFirstOutside c (row_of m e))
plans_judged c m = record {
  none = λ e k out held. (one_outside_law c (row_of m e)).none held k out;
  one = λ e j k a b. (one_outside_law c (row_of m e)).alone j k a b;
}

pub lines_as : (c : Numbers) (line : List ℤ → List ℕ) (m : Matrix) → AreToldAs (making_by c line) m (lines_by line m)
lines_as c line m = record {
  judged = plans_judged c m;
  never = λ entry xi s never. never;
  whole = λ text are old. ap (λ (x : List ℕ). old ++ x) (is (length m.rows) text (omega arith) are);
  part = λ run k text le are old new part. part_of_all line m k old new (subst (λ (x : List ℕ). GrowsByPart old new x) (is k text le are) part);
  some = λ k text le are old. record { count = k; some = le; printed = ap (λ (x : List ℕ). old ++ x) (is k text le are) };
}
  where
    is : (k : ℕ) (text : List ℕ) → k ≤ length m.rows → AreLinesOf (making_by c line).line m k text → text ≡ first_lines line m k
    is = text_is line m (making_by c line).line (λ xi line same. same)

pub no_line_yet : (line : List ℤ → List ℕ) (m : Matrix) (old new : List ℕ) → new ≡ old → AreSomeLines line m old new
no_line_yet line m old new same = record { count = 0; some = zero-le; printed = same ∙ sym (append-nil old) }

pub no_plan_yet : (c : Numbers) (m : Matrix) (old new : List ℕ) → new ≡ old → AreFirstLines c m old new
no_plan_yet c = no_line_yet (plan_line c)
