-- The law of made designs.
use Rattle.std.proofs.Common.{◌≡◌, ℕ, zero, suc, ◌<◌, ℤ, pos, neg_ℤ, List, [], ◌∷◌, refl, sym, ap, subst, arith}
use Rattle.integer_algebra.specs.Sums.{at}
use Rattle.qp_model.specs.problem.Range.{LiesIn}
use Rattle.qp_model.specs.problem.Parts.{DesignNumbers, design_numbers, design_of}
use Rattle.qp_model.specs.declared.design_parts.DesignParts.{DesignParts}
use Rattle.design_files.specs.DesignText.{IsDesignText}
use Rattle.policy_file.specs.PolicyText.{IsPolicyText}
use Rattle.design_maker.specs.Draws.{drawn}
use Rattle.design_maker.specs.Texts.{design_text, policy_text}
use Rattle.design_maker.specs.MadeParts.{made_numbers, coasting_plans}
use Rattle.design_maker.specs.MadeLaw.{MadeLaw}
use Rattle.design_maker.proofs.AsciiText.{same_document}
use Rattle.design_maker.proofs.DrawnNumbers.{in_range, are_small}
use Rattle.design_maker.proofs.MadeNumbers.{is_design_document}
use Rattle.design_maker.proofs.MadeDocument.{is_document}
use Rattle.design_maker.proofs.MadePolicy.{is_policy_text}
use Rattle.design_maker.proofs.MadeStates.{is_states_text, in_box}

is_design_text : (seed stages : ℕ) (p : DesignParts) → LiesIn 1 20 stages → design_numbers p ≡ made_numbers (drawn seed) stages → IsDesignText (design_text seed stages) p
unfolding design_text
is_design_text seed stages p h e =
    let d = drawn seed in
    let r = in_range seed in
    let small = are_small d r in
    rw (same_document d stages small h.1, is_document d stages small h.1) (is_design_document d stages p r h e)

-- the bounds of the box at an index
bounds : (low high : List ℤ) (i : ℕ) → low ≡ neg_ℤ (pos 16) ∷ neg_ℤ (pos 16) ∷ [] → high ≡ pos 16 ∷ pos 16 ∷ [] → i < 2 → (at low i ≡ neg_ℤ (pos 16)) × (at high i ≡ pos 16)
bounds low high zero l h k = rw (l, h) (refl, refl)
bounds low high (suc zero) l h k = rw (l, h) (refl, refl)
bounds low high (suc (suc i)) l h k = absurd (omega arith)

pub made_law : MadeLaw
made_law seed stages h p e =
    let states : p.states ≡ 2 = ap (λ (n : DesignNumbers). n.states) e in
    let inputs : p.inputs ≡ 2 = ap (λ (n : DesignNumbers). n.inputs) e in
    let horizon : p.stages ≡ stages = ap (λ (n : DesignNumbers). n.stages) e in
    let low : p.lo.items ≡ neg_ℤ (pos 16) ∷ neg_ℤ (pos 16) ∷ [] = ap (λ (n : DesignNumbers). n.lo) e in
    let high : p.hi.items ≡ pos 16 ∷ pos 16 ∷ [] = ap (λ (n : DesignNumbers). n.hi) e in
    record {
      design = is_design_text seed stages p h e;
      policy = subst (λ n. IsPolicyText (policy_text stages) (design_of p) (coasting_plans n)) (sym horizon) (is_policy_text stages (design_of p) states inputs horizon);
      states = is_states_text p.states states;
      box = λ k l i m. let inside : i < 2 = omega (arith, m, states) in let b = bounds p.lo.items p.hi.items i low high inside in rw (b.0, b.1) (in_box k l i inside);
    }
