-- What tests of keys one after another answer, where all are made and the fault is the same.
use Rattle.std.proofs.Common.{◌≡◌, ◌↔◌, IsTrue, Bool, true, false, List, [], ◌∷◌, ◌++◌, Result, Ok, Err, inl, refl}
use Rattle.std.specs.Prelude.{◌&&◌}
use Rattle.qp_model.specs.problem.Rules.{Rule, AllHold, IsFirstBroken, Tests, key}
use Rattle.number_text.specs.declared.text_fault.TextFault.{TextFault}
use Rattle.number_text.specs.declared.text_fault.TextFault.TheVariants.{Key}
use Rattle.qp_model.proofs.RuleLaws.{all_hold, broken_before, broken_after}

-- the answer of a test
abbrev pub told : Bool → Result (Unit {0}) TextFault
told true = Ok tt
told false = Err (Key 0)

one : (P : Type 0) (b : Bool) → IsTrue b ↔ P → Tests (told b) (key 0 P ∷ [])
one P true h = (h.0 refl, tt)
one P false h = inl ((λ p. (let e = h.1 p in cc)), refl)

-- one more
more : (rules : List Rule) (a b : Bool) (P : Type 0) → Tests (told a) rules → IsTrue b ↔ P → Tests (told (a && b)) (rules ++ key 0 P ∷ [])
more rules true true P held h = all_hold rules (key 0 P ∷ []) held (one P true h)
more rules true false P held h = broken_after rules (key 0 P ∷ []) (Key 0) held (one P false h)
more rules false b P broken h = broken_before rules (key 0 P ∷ []) (Key 0) broken

-- of six
module _ (P Q R S T U : Type 0) (a b c d e f : Bool) (p : IsTrue a ↔ P) (q : IsTrue b ↔ Q) (r : IsTrue c ↔ R) (s : IsTrue d ↔ S) (t : IsTrue e ↔ T) (u : IsTrue f ↔ U) where
  six : Tests (told (((((a && b) && c) && d) && e) && f)) (key 0 P ∷ key 0 Q ∷ key 0 R ∷ key 0 S ∷ key 0 T ∷ key 0 U ∷ [])
  six = more _ _ f U (more _ _ e T (more _ _ d S (more _ _ c R (more _ _ b Q (one P a p) q) r) s) t) u

  pub six_hold : (((((a && b) && c) && d) && e) && f) ≡ true → AllHold (key 0 P ∷ key 0 Q ∷ key 0 R ∷ key 0 S ∷ key 0 T ∷ key 0 U ∷ [])
  six_hold is = rw is at six

  pub one_fails : (((((a && b) && c) && d) && e) && f) ≡ false → IsFirstBroken (key 0 P ∷ key 0 Q ∷ key 0 R ∷ key 0 S ∷ key 0 T ∷ key 0 U ∷ []) (Key 0)
  one_fails is = rw is at six
