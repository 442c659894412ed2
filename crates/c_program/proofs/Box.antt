-- The state is in the box exactly where no coordinate outside is found.
use Rattle.std.proofs.Common.{◌≡◌, ℕ, zero, suc, ◌+◌, ◌<◌, ◌≤◌, true, false, ◌⊎◌, ℤ, ◌≤ℤ◌, int_lt, List, length, ◌||◌, refl, sym, ap, subst, ◌∙◌, arith, inl, inr}
use Rattle.std.proofs.lemmas.Int.{ints}
use Rattle.std.proofs.lemmas.Bool.{cases_Bool, cases_lt, or_parts, or_cases, cond-true, cond-false}
use Rattle.integer_algebra.specs.Sums.{at}
use Rattle.qp_model.specs.machine.Controller.{Numbers}
use Rattle.qp_model.specs.machine.Machine.{IsInside, IsAdmissible}
use Rattle.c_language.specs.Syntax.{CProgram}
use Rattle.c_language.specs.Meaning.{is_outside, first_from, first_outside, outcome_at}
use Rattle.c_language.specs.Meaning.Outcome.{Refused}
use Rattle.c_program.specs.Laws.{IsCoordinateRefused, Refuses}

not_lt : (x y : ℤ) → int_lt x y ≡ false → y ≤ℤ x
not_lt x y h = grind (arith, ints)

is_lt : (x y : ℤ) → int_lt x y ≡ true → y ≤ℤ x → ⊥
is_lt x y h l = grind (arith, ints)

-- a program's box is that of the controller
pub record HasBox (c : Numbers) (p : CProgram) : Type 0 where
  pub low : p.low ≡ c.low
  pub high : p.high ≡ c.high

same_outside : (c : Numbers) (p : CProgram) (xi : List ℤ) (i : ℕ) → HasBox c p → is_outside p xi i ≡ (int_lt (at xi i) (at c.low i) || int_lt (at c.high i) (at xi i))
same_outside c p xi i b = (λ k. int_lt (at xi i) (at (b.low k) i) || int_lt (at (b.high k) i) (at xi i))

inside_there : (c : Numbers) (p : CProgram) (xi : List ℤ) (i : ℕ) → HasBox c p → is_outside p xi i ≡ false → IsInside c xi i
inside_there c p xi i b h =
    let parts = or_parts (int_lt (at xi i) (at c.low i)) (int_lt (at c.high i) (at xi i)) (sym (same_outside c p xi i b) ∙ h) in
    record { low = not_lt (at xi i) (at c.low i) parts.0; high = not_lt (at c.high i) (at xi i) parts.1 }

outside_there : (c : Numbers) (p : CProgram) (xi : List ℤ) (i : ℕ) → HasBox c p → is_outside p xi i ≡ true → IsInside c xi i → ⊥
outside_there c p xi i b h inside = elim (or_cases (int_lt (at xi i) (at c.low i)) (int_lt (at c.high i) (at xi i)) (sym (same_outside c p xi i b) ∙ h)) [
  | inl l ↦ is_lt (at xi i) (at c.low i) l inside.low
  | inr l ↦ is_lt (at c.high i) (at xi i) l inside.high
]

-- all of n coordinates lie inside, or number k is the first outside
record AllInside (c : Numbers) (xi : List ℤ) (n k : ℕ) : Type 0 where
  none : k ≡ 0
  inside : (i : ℕ) → i < n → IsInside c xi i

record OneOutside (c : Numbers) (xi : List ℤ) (n k : ℕ) : Type 0 where
  low : 1 ≤ k
  high : k ≤ n
  outside : (i : ℕ) → i + 1 ≡ k → ¬ IsInside c xi i
  before : (i : ℕ) → i + 1 < k → IsInside c xi i

one_more_inside : (c : Numbers) (xi : List ℤ) (n : ℕ) → ((k : ℕ) → k < n → IsInside c xi k) → IsInside c xi n → (k : ℕ) → k < suc n → IsInside c xi k
one_more_inside c xi n before here k l = elim (cases_lt k n) [
  | inl less ↦ before k less
  | inr more ↦ (let e : n ≡ k = omega (arith, l, more) in subst (IsInside c xi) e here)
]

found : (c : Numbers) (p : CProgram) (xi : List ℤ) (i many n : ℕ) → HasBox c p → i + many ≡ n → ((k : ℕ) → k < i → IsInside c xi k) →
    AllInside c xi n (first_from p xi i many) ⊎ OneOutside c xi n (first_from p xi i many)
found c p xi i zero n b e inside = inl (record { none = refl; inside = λ k l. inside k (omega (arith, l, e)) })
found c p xi i (suc many) n b e inside =
    let R = λ (k : ℕ). AllInside c xi n k ⊎ OneOutside c xi n k in
    elim (cases_Bool (is_outside p xi i)) [
      | inl t ↦ subst R (sym (cond-true (is_outside p xi i) (suc i) (first_from p xi (suc i) many) t)) (inr (record {
        low = omega arith;
        high = omega (arith, e);
        outside = λ k same there. outside_there c p xi i b t (subst (IsInside c xi) (let s : k ≡ i = omega (arith, same) in s) there);
        before = λ k l. inside k (omega (arith, l));
      }))
      | inr f ↦ subst R (sym (cond-false (is_outside p xi i) (suc i) (first_from p xi (suc i) many) f))
          (found c p xi (suc i) many n b (omega (arith, e)) (one_more_inside c xi i inside (inside_there c p xi i b f)))
    ]

searched : (c : Numbers) (p : CProgram) (xi : List ℤ) → HasBox c p → length c.low ≡ c.states →
    AllInside c xi c.states (first_outside p xi) ⊎ OneOutside c xi c.states (first_outside p xi)
searched c p xi b long = found c p xi 0 (length p.low) c.states b (omega (arith, ap (λ (l : List ℤ). length l) b.low, long)) (λ k l. absurd (omega (arith, l)))

-- ---- both ways
pub none_outside : (c : Numbers) (p : CProgram) (xi : List ℤ) → HasBox c p → length c.low ≡ c.states → IsAdmissible c xi → first_outside p xi ≡ 0
none_outside c p xi b long grid = elim (searched c p xi b long) [
  | inl all ↦ all.none
  | inr one ↦ absurd (last _ one)
]
  where
    last : (k : ℕ) → OneOutside c xi c.states k → ⊥
    last zero one = absurd (omega (arith, one.low))
    last (suc i) one = one.outside i (omega arith) (grid.each i (omega (arith, one.high)))

first_told : (c : Numbers) (p : CProgram) (xi : List ℤ) → HasBox c p → length c.low ≡ c.states → length xi ≡ c.states → ¬ IsAdmissible c xi → IsCoordinateRefused c xi (first_outside p xi)
first_told c p xi b long size outside = elim (searched c p xi b long) [
  | inl all ↦ absurd (outside (record { long = size; each = all.inside }))
  | inr one ↦ record { low = one.low; high = one.high; outside = one.outside; before = one.before }
]

refused_at : (p : CProgram) (xi : List ℤ) (k : ℕ) → 1 ≤ k → outcome_at p xi k ≡ Refused k
refused_at p xi zero l = absurd (omega (arith, l))
refused_at p xi (suc k) l = refl

-- any other state of the right length is refused
pub refuses : (c : Numbers) (p : CProgram) (xi : List ℤ) → HasBox c p → length c.low ≡ c.states → length xi ≡ c.states → ¬ IsAdmissible c xi → Refuses c p xi
refuses c p xi b long size outside = let first = first_told c p xi b long size outside in record { first = first; outcome = refused_at p xi (first_outside p xi) first.low }
