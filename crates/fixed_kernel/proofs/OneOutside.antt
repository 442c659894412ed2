-- A state has at most one first coordinate outside the box.
use Rattle.std.proofs.Common.{inl, inr, ℕ, ◌-◌, ◌<◌, ℤ, List, arith}
use Rattle.std.proofs.lemmas.Bool.{cases_order}
use Rattle.qp_model.specs.machine.Controller.{Numbers}
use Rattle.fixed_kernel.specs.Outside.{IsFirstOutside}
use Rattle.fixed_kernel.specs.OneOutside.{OneOutsideLaw}

-- no coordinate before the first lies outside
not_before : (c : Numbers) (xi : List ℤ) (k l : ℕ) → IsFirstOutside c xi k → IsFirstOutside c xi l → k < l → ⊥
not_before c xi k l first later lt = first.outside (k - 1) (omega (arith, first.low)) (later.before (k - 1) (omega (arith, first.low, lt)))

pub one_outside_law : OneOutsideLaw
one_outside_law c xi = record {
  alone = λ k l first other. elim (cases_order k l) [
    | inl e ↦ e
    | inr (inl lt) ↦ absurd (not_before c xi k l first other lt)
    | inr (inr gt) ↦ absurd (not_before c xi l k other first gt)
  ];
  none = λ inside k first. first.outside (k - 1) (omega (arith, first.low)) (inside.each (k - 1) (omega (arith, first.low, first.high)));
}
