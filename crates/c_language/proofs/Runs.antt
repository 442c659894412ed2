-- Statements that C defines and that lead to variables with a property.
use Rattle.std.proofs.Common.{◌≡◌, ℕ, zero, suc, ◌<◌, ◌==◌, ℤ, List, [], ◌∷◌, ◌++◌, refl, sym, subst, arith, true}
use Rattle.std.proofs.lemmas.Bool.{eq-eqb}
use Rattle.c_language.specs.Syntax.{Variable, Kind, letter_of, Statement, groups}
use Rattle.c_language.specs.Meaning.{Environment, held, with_value, done, IsDone, all_done, AreDone, repeated}

-- C defines them, and what the variables hold after them has the property
pub record Runs (kind : Variable → Kind) (e : Environment) (ss : List Statement) (P : Environment → Type 0) : Type 0 where
  pub defined : AreDone kind e ss
  pub ends : P (all_done e ss)

pub runs_none : (kind : Variable → Kind) (e : Environment) (P : Environment → Type 0) → P e → Runs kind e [] P
unfolding all_done AreDone
runs_none kind e P h = record { defined = tt; ends = h }

pub runs_first : (kind : Variable → Kind) (e : Environment) (s : Statement) (rest : List Statement) (P : Environment → Type 0) →
    IsDone kind e s → Runs kind (done e s) rest P → Runs kind e (s ∷ rest) P
unfolding all_done AreDone
runs_first kind e s rest P one more = record { defined = (one, more.defined); ends = more.ends }

-- ---- one list after the other
pub all_done-append : (e : Environment) (xs ys : List Statement) → all_done e (xs ++ ys) ≡ all_done (all_done e xs) ys
unfolding all_done
all_done-append e [] ys = refl
all_done-append e (x ∷ xs) ys = all_done-append (done e x) xs ys

are_done-append : (kind : Variable → Kind) (e : Environment) (xs ys : List Statement) → AreDone kind e xs → AreDone kind (all_done e xs) ys → AreDone kind e (xs ++ ys)
unfolding all_done AreDone
are_done-append kind e [] ys a b = b
are_done-append kind e (x ∷ xs) ys a b = (a.0, are_done-append kind (done e x) xs ys a.1 b)

pub runs_append : (kind : Variable → Kind) (e : Environment) (xs ys : List Statement) (P Q : Environment → Type 0) → Runs kind e xs P →
    ((t : Environment) → P t → Runs kind t ys Q) → Runs kind e (xs ++ ys) Q
runs_append kind e xs ys P Q first second =
    let rest = second (all_done e xs) first.ends in
    record { defined = are_done-append kind e xs ys first.defined rest.defined; ends = subst Q (sym (all_done-append e xs ys)) rest.ends }

-- ---- groups
pub groups_none : (f : ℕ → List Statement) → groups f 0 ≡ []
unfolding groups
groups_none f = refl

pub groups_more : (f : ℕ → List Statement) (n : ℕ) → groups f (suc n) ≡ groups f n ++ f n
unfolding groups
groups_more f n = refl

-- the property says how many groups have been run
pub runs_groups : (kind : Variable → Kind) (f : ℕ → List Statement) (P : ℕ → Environment → Type 0) (n : ℕ) (e : Environment) → P 0 e →
    ((i : ℕ) (t : Environment) → i < n → P i t → Runs kind t (f i) (P (suc i))) → Runs kind e (groups f n) (P n)
runs_groups kind f P zero e h each = subst (λ (ss : List Statement). Runs kind e ss (P 0)) (sym (groups_none f)) (runs_none kind e (P 0) h)
runs_groups kind f P (suc n) e h each =
    subst (λ (ss : List Statement). Runs kind e ss (P (suc n))) (sym (groups_more f n))
    (runs_append kind e (groups f n) (f n) (P n) (P (suc n)) (runs_groups kind f P n e h (λ i t l. each i t (omega (arith, l)))) (λ t p. each n t (omega arith) p))

-- ---- repetitions
pub repeats : (kind : Variable → Kind) (body : List Statement) (P : ℕ → Environment → Type 0) (n : ℕ) (e : Environment) → P 0 e →
    ((k : ℕ) (t : Environment) → k < n → P k t → Runs kind t body (P (suc k))) → (k : ℕ) → k < suc n → P k (repeated e body k)
unfolding repeated
repeats kind body P n e h each zero l = h
repeats kind body P n e h each (suc k) l = (each k (repeated e body k) (omega (arith, l)) (repeats kind body P n e h each k (omega (arith, l)))).ends

-- ---- variables
-- a variable holds what was put into it
pub held_new : (e : Environment) (v : Variable) (z : ℤ) → held (with_value e v z) v ≡ z
held_new e v z =
    let family : (letter_of v.family == letter_of v.family) ≡ true = eq-eqb (letter_of v.family) (letter_of v.family) refl in
    let number : (v.number == v.number) ≡ true = eq-eqb v.number v.number refl in
    rw (family, number) refl
