-- What follows from rules that hold, and from the first that is broken.
use Rattle.std.proofs.Common.{◌≡◌, ◌↔◌, List, [], ◌∷◌, ◌++◌, ◌∙◌, sym, inl, inr, Result, Ok, Err}
use Rattle.std.specs.Result.{OnOk, IfErr, IsErrAnd, result_and}
use Rattle.number_text.specs.declared.text_fault.TextFault.{TextFault}
use Rattle.qp_model.specs.problem.Rules.{Rule, AllHold, IsFirstBroken, Tests}

pub broken_before : (rules more : List Rule) (fault : TextFault) → IsFirstBroken rules fault → IsFirstBroken (rules ++ more) fault
broken_before [] more fault broken = absurd broken
broken_before (rule ∷ rules) more fault broken =
    elim broken [ inl here ↦ inl here | inr later ↦ inr (later.0, broken_before rules more fault later.1) ]

pub broken_after : (rules more : List Rule) (fault : TextFault) → AllHold rules → IsFirstBroken more fault → IsFirstBroken (rules ++ more) fault
broken_after [] more fault held broken = broken
broken_after (rule ∷ rules) more fault held broken = inr (held.0, broken_after rules more fault held.1 broken)

pub all_hold : (rules more : List Rule) → AllHold rules → AllHold more → AllHold (rules ++ more)
all_hold [] more held others = others
all_hold (rule ∷ rules) more held others = (held.0, all_hold rules more held.1 others)

-- where all hold none is broken
pub none_broken : (rules : List Rule) (fault : TextFault) → AllHold rules → IsFirstBroken rules fault → ⊥
none_broken [] fault held broken = broken
none_broken (rule ∷ rules) fault held broken =
    elim broken [ inl here ↦ here.0 held.0 | inr later ↦ none_broken rules fault held.1 later.1 ]

-- one is the first
pub one_fault : (rules : List Rule) (a b : TextFault) → IsFirstBroken rules a → IsFirstBroken rules b → a ≡ b
one_fault [] a b first second = absurd first
one_fault (rule ∷ rules) a b first second =
    elim first [
      | inl here ↦ elim second [ inl there ↦ here.1 ∙ sym there.1 | inr later ↦ absurd (here.0 later.0) ]
      | inr later ↦ elim second [ inl there ↦ absurd (there.0 later.0) | inr after ↦ one_fault rules a b later.1 after.1 ]
    ]

-- rules that hold, and then a test of more
pub test_after : (rules more : List Rule) (answer : Result (Unit {0}) TextFault) → AllHold rules → Tests answer more → Tests answer (rules ++ more)
test_after rules more (Ok done) held others = all_hold rules more held others
test_after rules more (Err fault) held broken = broken_after rules more fault held broken

-- of rules that all hold the last ones do
pub held_after : (rules more : List Rule) → AllHold (rules ++ more) → AllHold more
held_after [] more held = held
held_after (rule ∷ rules) more held = held_after rules more held.1

-- ---- rules tested one by one, each by what is true exactly where it holds
-- the first is broken
pub broken_first : (rule : Rule) (rules : List Rule) (answer : Result (Unit {0}) TextFault) (fault : TextFault) (test : Type 0) →
    IsErrAnd answer (λ e. e ≡ fault) → (test ↔ rule.holds) → (fault ≡ rule.fault) × ¬ test → Tests answer (rule ∷ rules)
broken_first rule rules (Ok done) fault test told exact broken = absurd told
broken_first rule rules (Err e) fault test told exact broken = inl (λ holds. broken.1 (exact.1 holds), told ∙ broken.0)

-- the first holds, and then a test of more
pub test_next : (rule : Rule) (rules : List Rule) (answer : Result (Unit {0}) TextFault) (test : Type 0) →
    (test ↔ rule.holds) → test → Tests answer rules → Tests answer (rule ∷ rules)
test_next rule rules (Ok done) test exact met others = (exact.0 met, others)
test_next rule rules (Err fault) test exact met broken = inr (exact.0 met, broken)

-- the last one's answer
pub test_last : (rule : Rule) (answer : Result (Unit {0}) TextFault) (test : Type 0) →
    OnOk answer test → IfErr answer (λ fault. (fault ≡ rule.fault) × ¬ test) → (test ↔ rule.holds) → Tests answer (rule ∷ [])
test_last rule (Ok done) test met broken exact = (exact.0 met, tt)
test_last rule (Err fault) test met broken exact = inl (λ holds. broken.1 (exact.1 holds), broken.0)

-- ---- tests that are all made, and joined in their order
pub tests_and : (rules more : List Rule) (first second both : Result (Unit {0}) TextFault) →
    both ≡ result_and first second → Tests first rules → Tests second more → Tests both (rules ++ more)
tests_and rules more first second both same held others = rw same (joined first held)
  where
    joined : (first : Result (Unit {0}) TextFault) → Tests first rules → Tests (result_and first second) (rules ++ more)
    joined (Ok done) held = test_after rules more second held others
    joined (Err fault) broken = broken_before rules more fault broken

-- one rule more, tested by what is true exactly where it holds
pub tests_rule : (rules : List Rule) (rule : Rule) (first second both : Result (Unit {0}) TextFault) (test : Type 0) →
    both ≡ result_and first second → Tests first rules →
    OnOk second test → IfErr second (λ fault. (fault ≡ rule.fault) × ¬ test) → (test ↔ rule.holds) → Tests both (rules ++ (rule ∷ []))
tests_rule rules rule first second both test same held met broken exact =
    tests_and rules (rule ∷ []) first second both same held (test_last rule second test met broken exact)

-- some rules that hold, where the one after them is broken
pub broken_next : (rules : List Rule) (rule : Rule) (more : List Rule) (answer : Result (Unit {0}) TextFault) (fault : TextFault) (test : Type 0) →
    AllHold rules → IsErrAnd answer (λ e. e ≡ fault) → (test ↔ rule.holds) → (fault ≡ rule.fault) × ¬ test → Tests answer (rules ++ (rule ∷ more))
broken_next rules rule more answer fault test held told exact broken =
    test_after rules (rule ∷ more) answer held (broken_first rule more answer fault test told exact broken)
