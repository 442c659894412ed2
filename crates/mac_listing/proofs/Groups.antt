-- Groups of instructions, one after the other.
use Rattle.std.proofs.Common.{◌≡◌, ℕ, zero, suc, ◌+◌, ◌*◌, ◌<◌, List, [], ◌++◌, length, refl, sym, ap, subst, ◌∙◌, arith, append_assoc, add-one}
use Rattle.std.specs.Prelude.{All}
use Rattle.std.proofs.lemmas.List.{append-nil, length-append}
use Rattle.std.proofs.lemmas.List.Elements.{All-nil, All-append}
use Rattle.integer_algebra.specs.Sizes.{amount}
use Rattle.mac_listing.specs.declared.instruction.Op.{Op}
use Rattle.mac_listing.specs.Body.{groups}

pub groups_none : (f : ℕ → List Op) → groups f 0 ≡ []
unfolding groups
groups_none f = refl

pub groups_more : (f : ℕ → List Op) (n : ℕ) → groups f (suc n) ≡ groups f n ++ f n
unfolding groups
groups_more f n = refl

pub groups_front : (f : ℕ → List Op) (n : ℕ) → groups f (suc n) ≡ f 0 ++ groups (λ i. f (suc i)) n
unfolding groups
groups_front f zero = sym (append-nil (f 0))
groups_front f (suc n) =
    ap (λ (xs : List Op). xs ++ f (suc n)) (groups_front f n) ∙ append_assoc (f 0) (groups (λ i. f (suc i)) n) (f (suc n))

-- ---- written one by one
pub grown_none : (f : ℕ → List Op) (old : List Op) → old ≡ old ++ groups f 0
grown_none f old = sym (append-nil old) ∙ ap (λ (ops : List Op). old ++ ops) (sym (groups_none f))

pub grown_more : (f : ℕ → List Op) (n : ℕ) (old now new : List Op) → now ≡ old ++ groups f n → new ≡ now ++ f n → new ≡ old ++ groups f (n + 1)
grown_more f n old now new h e =
    e ∙ ap (λ (ops : List Op). ops ++ f n) h ∙ append_assoc old (groups f n) (f n) ∙
    ap (λ (ops : List Op). old ++ ops) (sym (groups_more f n) ∙ ap (groups f) (sym (add-one n)))

-- ---- each and all
pub groups_all : (P : Op → Type 0) (f : ℕ → List Op) (n : ℕ) → ((j : ℕ) → j < n → All P (f j)) → All P (groups f n)
groups_all P f zero each = subst (λ (ops : List Op). All P ops) (sym (groups_none f)) (All-nil P)
groups_all P f (suc n) each =
    subst (λ (ops : List Op). All P ops) (sym (groups_more f n)) (All-append P (groups f n) (f n) (groups_all P f n (λ j l. each j (omega (arith, l)))) (each n (omega arith)))

-- where each group and what it leaves out make k
pub groups_length : (f : ℕ → List Op) (out : ℕ → ℕ) (k n : ℕ) → ((j : ℕ) → j < n → length (f j) + out j ≡ k) → length (groups f n) + amount n out ≡ n * k
groups_length f out k zero each = omega (arith, ap length (groups_none f))
groups_length f out k (suc n) each =
    omega (arith, ap length (groups_more f n), length-append (groups f n) (f n), groups_length f out k n (λ j l. each j (omega (arith, l))), each n (omega arith))
