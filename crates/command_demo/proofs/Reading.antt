-- The made texts are read as what they are made of.
use Rattle.std.proofs.Common.{◌≡◌, ◌⊎◌, inl, inr, ℕ, List, length, Result, Ok, Err, refl, sym, ◌∙◌, subst, arith}
use Rattle.std.specs.Prelude.{IfErr, IsOkAnd, MatchResult}
use Rattle.mat_int.specs.Matrix.{Matrix}
use Rattle.qp_model.specs.problem.Design.{Design}
use Rattle.qp_model.specs.problem.Policy.{Plans}
use Rattle.qp_model.specs.problem.Parts.{design_of, design_numbers}
use Rattle.qp_model.specs.declared.design_parts.DesignParts.{DesignParts}
use Rattle.design_files.specs.DesignText.{IsDesignText}
use Rattle.policy_file.specs.PolicyText.{IsPolicyText}
use Rattle.number_text.specs.declared.text_fault.TextFault.{TextFault}
use Rattle.number_text.specs.declared.text_fault.TextFault.TheVariants.{Memory}
use Rattle.design_maker.specs.Texts.{design_text, policy_text, states_text}
use Rattle.design_maker.specs.MadeParts.{corner_matrix}
use Rattle.design_maker.specs.MadeLaw.{AreMadeTexts, AreMade, MadeLaw}
use Rattle.command_generate.proofs.SameDesign.{along}
use Rattle.command_demo.specs.Demo.{demo_stages}
use Rattle.command_demo.proofs.Answering.{OneOf}
use Rattle.command_demo.specs.Making.{AreInBox}

-- ---- a reader of a text that is right
-- answers a value or out of memory
pub memory_alone : {D : Type 0} (P : D → Type 0) (r : Result D TextFault) → (r ≡ Err Memory) ⊎ IsOkAnd r P → IfErr r (λ e. e ≡ Memory)
memory_alone P (Ok d) is = tt
memory_alone P (Err e) (inl is) = cc
memory_alone P (Err e) (inr never) = absurd never

pub memory_only : {D : Type 0} (P : D → Type 0) (r : Result D TextFault) → MatchResult r P (λ e. e ≡ Memory) → IfErr r (λ e. e ≡ Memory)
memory_only P (Ok d) is = tt
memory_only P (Err e) is = is

pub only_design : (text : List ℕ) (d : DesignParts) → ((p : DesignParts) → IsDesignText text p → (◌≡◌ {A = Result DesignParts TextFault} (Ok d) (Err Memory)) ⊎ (design_numbers d ≡ design_numbers p)) →
    (p : DesignParts) → IsDesignText text p → design_numbers p ≡ design_numbers d
only_design text d every p right = elim (every p right) [ inl memory ↦ absurd (let never : ⊥ = cc in never) | inr is ↦ sym is ]

-- a design that was read of the first text
pub texts_of : (number : ℕ) (first second third : List ℕ) → AreMade number demo_stages first second third → MadeLaw → (q : DesignParts) →
    ((p : DesignParts) → IsDesignText first p → design_numbers p ≡ design_numbers q) → AreMadeTexts q (design_text number demo_stages) (policy_text demo_stages) states_text
texts_of number first second third made law q one = law number demo_stages (omega arith, omega arith) q (sym (one made.0 made.2.design) ∙ made.1)

-- it is the only one, and so is the policy that was read of the second
pub one_of : (number : ℕ) (q : DesignParts) (plans : Plans) → ((p : DesignParts) → IsDesignText (design_text number demo_stages) p → design_numbers p ≡ design_numbers q) →
    ((r : Plans) → IsPolicyText (policy_text demo_stages) (design_of q) r → r ≡ plans) → OneOf number q plans
one_of number q plans design policy p other made =
    let same = design p made.design in
    (same, policy other (along (λ d targets. IsPolicyText (policy_text demo_stages) d other) p q same made.policy))

-- the states that were read of the third
pub four_corners : (states : Matrix) → corner_matrix ≡ states → length states.rows ≡ 4
four_corners states same = subst (λ (m : Matrix). length m.rows ≡ 4) same refl

pub corners_inside : (d : Design) (states : Matrix) → corner_matrix ≡ states → AreInBox d corner_matrix → AreInBox d states
corners_inside d states same inside = subst (λ (m : Matrix). AreInBox d m) same inside
