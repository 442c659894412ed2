-- What an answer tells of the tests and of what is made.
use Rattle.std.proofs.Common.{◌≡◌, inl, inr, ◌⊎◌, refl, ap, Result, Ok, Err}
use Rattle.std.specs.Prelude.{IsOk}
use Rattle.std.specs.Result.{IsErr, IsErrAnd}
use Rattle.qp_model.specs.declared.refusal.Refusal.{Refusal}
use Rattle.qp_model.specs.declared.refusal.Refusal.TheVariants.{Memory}
use Rattle.lean_engine.specs.Engine.Tests.{IsRefusedFor}
use Rattle.lean_engine.proofs.Engine.TestLaws.{IsOne, IsNone}
use Rattle.fast_bounds.specs.FastAnswers.{TellsOf}

-- a refusal that is handed on
pub handed : (A : Type 0) (is : A → Type 0) (passed : Type 0) (cause from : Refusal → Type 0) (r : Result A Refusal) → IsErr r → IsErrAnd r from →
    ((e : Refusal) → from e → IsRefusedFor cause e) → TellsOf A is passed cause r
handed A is passed cause from (Ok x) e h f = absurd h
handed A is passed cause from (Err x) e h f = record { made = tt; passes = tt; refused = f x h }

-- the same of an answer, in other words
pub told_as : (A : Type 0) (is other : A → Type 0) (passed more : Type 0) (cause why : Refusal → Type 0) (r : Result A Refusal) →
    ((x : A) → is x → other x) → (passed → more) → ((e : Refusal) → IsRefusedFor cause e → IsRefusedFor why e) → TellsOf A is passed cause r → TellsOf A other more why r
told_as A is other passed more cause why (Ok x) f g k h = record { made = f x h.made; passes = g h.passes; refused = tt }
told_as A is other passed more cause why (Err e) f g k h = record { made = tt; passes = tt; refused = k e h.refused }

-- each cause is answered, and so is what passes every test
module _ (A : Type 0) (is : A → Type 0) (passed : Type 0) (cause : Refusal → Type 0) (one : IsOne cause) (none : passed → IsNone cause) where
  pub every_from : (r : Result A Refusal) → TellsOf A is passed cause r → (e : Refusal) → cause e → (r ≡ Err e) ⊎ (r ≡ Err Memory)
  every_from (Ok x) h e k = absurd (none h.passes e k)
  every_from (Err o) h e k = elim h.refused [ inl memory ↦ inr (ap Err memory) | inr other ↦ inl (ap Err (one o e other k)) ]

  pub accepted_from : (r : Result A Refusal) → TellsOf A is passed cause r → passed → IsOk r ⊎ (r ≡ Err Memory)
  accepted_from (Ok x) h passes = inl refl
  accepted_from (Err o) h passes = elim h.refused [ inl memory ↦ inr (ap Err memory) | inr other ↦ absurd (none passes o other) ]
