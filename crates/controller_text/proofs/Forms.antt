-- The numbers of a text by their version.
use Rattle.std.proofs.Common.{◌≡◌, ◌≢◌, inl, inr, ℕ, zero, suc, ◌+◌, ◌*◌, ◌≤◌, Bool, true, false, refl, sym, ap, subst, arith}
use Rattle.std.specs.Prelude.{◌⊎◌, if◌then◌else◌}
use Rattle.std.proofs.lemmas.Bool.{ne_eqb}
use Rattle.qp_model.specs.problem.Range.{LiesIn}
use Rattle.qp_model.specs.machine.Controller.{Numbers, plan_length, IsSized, IsInForm}
use Rattle.overflow_check.specs.FastController.{IsFastInForm}
use Rattle.controller_text.specs.TextForm.{most_steps, multiplier_words, plain_version, as_plain, IsTextForm}
use Rattle.controller_text.specs.Laws.{TextFormLaw}

pub either_le : (first : Bool) (one other most : ℕ) → one ≤ most → other ≤ most → (if first then one else other) ≤ most
either_le true one other most h k = h
either_le false one other most h k = k

-- ---- versions 1 and 2
-- they are what they are as plain ones
plain_same : (c : Numbers) → c.version ≢ 3 → c.words ≡ c.states + c.rows + 2 * plan_length c → as_plain c ≡ c
plain_same c slow words =
    let version : plain_version c.version ≡ c.version = ap (λ (fast : Bool). if fast then 2 else c.version) (ne_eqb c.version 3 slow) in
    let back = sym words in
    (λ i. record c { version = version i; words = back i })

slow_steps : (c : Numbers) → c.version ≢ 3 → most_steps c.version ≡ 4194304
slow_steps c slow = ap (λ (fast : Bool). if fast then 65534 else 4194304) (ne_eqb c.version 3 slow)

slow_words : (c : Numbers) → c.version ≢ 3 → multiplier_words c.version c.rows ≡ c.rows
slow_words c slow = ap (λ (fast : Bool). if fast then 3 * c.rows else c.rows) (ne_eqb c.version 3 slow)

pub plain_form : (c : Numbers) → IsInForm c → IsTextForm c
plain_form c form =
    let h = form.sized in
    let slow : c.version ≢ 3 = λ e. omega (arith, e, h.version.1) in
    record {
      version = (h.version.0, omega (arith, h.version.1));
      steps = subst (λ (most : ℕ). LiesIn 1 most c.steps) (sym (slow_steps c slow)) h.steps;
      words = omega (arith, h.words, slow_words c slow);
      sized = subst IsSized (sym (plain_same c slow h.words)) h;
      width = form.width;
    }

pub plain_back : (c : Numbers) → IsTextForm c → c.version ≤ 2 → IsInForm c
plain_back c form le =
    let slow : c.version ≢ 3 = λ e. omega (arith, e, le) in
    record { sized = subst IsSized (plain_same c slow (omega (arith, form.words, slow_words c slow))) form.sized; width = form.width }

-- ---- the accelerated machine
pub fast_form : (c : Numbers) → IsFastInForm c → IsTextForm c
fast_form c form =
    let h = form.sized in
    let e = h.version in
    record {
      version = (omega (arith, e), omega (arith, e));
      steps = subst (λ (v : ℕ). LiesIn 1 (most_steps v) c.steps) (sym e) h.steps;
      words = omega (arith, h.words, ap (λ (v : ℕ). multiplier_words v c.rows) e);
      sized = subst IsSized (λ i. record c { version = plain_version (sym e i); words = c.states + c.rows + 2 * plan_length c }) h.rest;
      width = form.width;
    }

pub fast_back : (c : Numbers) → IsTextForm c → c.version ≡ 3 → IsFastInForm c
fast_back c form e = record {
  sized = record {
    version = e;
    words = omega (arith, form.words, ap (λ (v : ℕ). multiplier_words v c.rows) e);
    steps = subst (λ (v : ℕ). LiesIn 1 (most_steps v) c.steps) e form.steps;
    rest = subst IsSized (λ i. record c { version = plain_version (e i); words = c.states + c.rows + 2 * plan_length c }) form.sized;
  };
  width = form.width;
}

pub text_form_law : TextFormLaw
text_form_law = record {
  plain = λ c. (λ form. (plain_form c form, form.sized.version.1), λ both. plain_back c both.0 both.1);
  fast = λ c. (λ form. (fast_form c form, form.sized.version), λ both. fast_back c both.0 both.1);
}

-- ---- each version
-- the first, or a later one
pub versions : (v : ℕ) → LiesIn 1 3 v → (v ≡ 1) ⊎ (v ≡ 2) ⊎ (v ≡ 3)
versions zero h = absurd (omega (arith, h.0))
versions (suc zero) h = inl refl
versions (suc (suc zero)) h = inr (inl refl)
versions (suc (suc (suc zero))) h = inr (inr refl)
versions (suc (suc (suc (suc v)))) h = absurd (omega (arith, h.1))
