-- A list of tests, one after the other, each of which tells a refusal where it fails: it tells at most one, and none where all are passed.
use Rattle.std.proofs.Common.{◌≡◌, inl, inr, ℕ, ◌^◌, ◌<◌, ◌≤◌, arith, rules, refl, sym, ◌∙◌, subst}
use Rattle.std.proofs.lemmas.Bool.{cases_lt}
use Rattle.qp_model.specs.declared.quantity.Quantity.{Quantity}
use Rattle.qp_model.specs.declared.refusal.Refusal.{Refusal}
use Rattle.qp_model.specs.declared.refusal.Refusal.TheVariants.{Memory, TooWide}
use Rattle.design_engine.specs.Stages.{Nothing, Next, IsPast, Sized, Finds}

-- at most one refusal
abbrev pub IsOne : (Refusal → Type 0) → Type 0
IsOne told = (e other : Refusal) → told e → told other → e ≡ other

abbrev pub IsNone : (Refusal → Type 0) → Type 0
IsNone told = (e : Refusal) → told e → ⊥

-- ---- no test
pub nothing_one : IsOne Nothing
nothing_one e other a b = absurd a

pub nothing_none : IsNone Nothing
nothing_none e a = a

-- ---- a test, and more
pub next_one : (told : Refusal → Type 0) (test : Type 0) (more : Refusal → Type 0) → IsOne told → ((e : Refusal) → told e → test → ⊥) → IsOne more →
    IsOne (Next told test more)
next_one told test more one clash after e other (inl a) (inl b) = one e other a b
next_one told test more one clash after e other (inl a) (inr b) = absurd (clash e a b.0)
next_one told test more one clash after e other (inr a) (inl b) = absurd (clash other b a.0)
next_one told test more one clash after e other (inr a) (inr b) = after e other a.1 b.1

pub next_none : (told : Refusal → Type 0) (test : Type 0) (more : Refusal → Type 0) → ((e : Refusal) → told e → test → ⊥) → test → IsNone more →
    IsNone (Next told test more)
next_none told test more clash h after e (inl a) = clash e a h
next_none told test more clash h after e (inr a) = after e a.1

-- ---- a quantity that must not pass 2^126
not_both : (n m : ℕ) → m < n → n ≤ m → ⊥
not_both n m h k = omega (arith, h, k)

pub sized_one : (quantity : Quantity) (size : ℕ) (more : Refusal → Type 0) → IsOne more → IsOne (Sized quantity size more)
sized_one quantity size more after =
    next_one (IsPast quantity size) (size ≤ 2 ^ 126) more (λ e other a b. a.0 ∙ sym b.0) (λ e a h. not_both size (2 ^ 126) a.1 h) after

pub sized_none : (quantity : Quantity) (size : ℕ) (more : Refusal → Type 0) → size ≤ 2 ^ 126 → IsNone more → IsNone (Sized quantity size more)
sized_none quantity size more h after =
    next_none (IsPast quantity size) (size ≤ 2 ^ 126) more (λ e a k. not_both size (2 ^ 126) a.1 k) h after

-- a cause in it, or one after it by another
pub sized_map : (quantity : Quantity) (size : ℕ) (more other : Refusal → Type 0) → ((e : Refusal) → more e → other e) → (e : Refusal) →
    Sized quantity size more e → Sized quantity size other e
sized_map quantity size more other f e (inl h) = inl h
sized_map quantity size more other f e (inr h) = inr (h.0, f e h.1)

-- where it tells nothing, the quantity is within its limit, and what comes after it tells nothing
pub sized_clear : (quantity : Quantity) (size : ℕ) (more : Refusal → Type 0) → IsNone (Sized quantity size more) → (size ≤ 2 ^ 126) × IsNone more
sized_clear quantity size more none =
    elim (cases_lt (2 ^ 126) size) [ inl lt ↦ absurd (none (TooWide quantity) (inl (refl, lt))) | inr le ↦ (le, λ e h. none e (inr (le, h))) ]

-- ---- out of memory is told by no test
abbrev pub IsApart : (Refusal → Type 0) → Type 0
IsApart told = (e : Refusal) → e ≡ Memory → told e → ⊥

pub sized_apart : (quantity : Quantity) (size : ℕ) (more : Refusal → Type 0) → IsApart more → IsApart (Sized quantity size more)
sized_apart quantity size more after e memory (inl h) = wide (sym memory ∙ h.0)
  where
    wide : Memory ≡ TooWide quantity → ⊥
    wide g = search rules
sized_apart quantity size more after e memory (inr h) = after e memory h.1

-- ---- a number that is looked for, and more tests with it
pub finds_one : (A : Type 0) (told : Refusal → Type 0) (is : A → Type 0) (more : A → Refusal → Type 0) → IsOne told →
    ((e : Refusal) (a : A) → told e → is a → ⊥) → ((a b : A) → is a → is b → a ≡ b) → ((a : A) → is a → IsOne (more a)) → IsOne (Finds A told is more)
finds_one A told is more one clash same after e other (inl a) (inl b) = one e other a b
finds_one A told is more one clash same after e other (inl a) (inr b) = absurd (clash e b.0 a b.1)
finds_one A told is more one clash same after e other (inr a) (inl b) = absurd (clash other a.0 b a.1)
finds_one A told is more one clash same after e other (inr a) (inr b) =
    after a.0 a.1 e other a.2 (subst (λ (x : A). more x other) (same b.0 a.0 b.1 a.1) b.2)

pub finds_none : (A : Type 0) (told : Refusal → Type 0) (is : A → Type 0) (more : A → Refusal → Type 0) (a : A) →
    ((e : Refusal) (a : A) → told e → is a → ⊥) → ((a b : A) → is a → is b → a ≡ b) → is a → IsNone (more a) → IsNone (Finds A told is more)
finds_none A told is more a clash same h after e (inl b) = clash e a b h
finds_none A told is more a clash same h after e (inr b) = after e (subst (λ (x : A). more x e) (same b.0 a b.1 h) b.2)
