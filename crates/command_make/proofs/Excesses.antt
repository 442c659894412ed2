-- By how much a controller's plans exceed each row at most: one list of numbers, which a controller that is made has; what it prints is not above them. With faces
-- they show that its loops stay. It is made by either machine, with reference plans or without; what all have is known of each first.
use Rattle.std.proofs.Common.{◌≡◌, ◌⊎◌, inl, inr, Option, Some, None, Bool, true, false, ℕ, zero, suc, ◌+◌, ◌*◌, ◌^◌, ◌<◌, ◌≤◌, min, max, List, ℤ, pos, ◌≤ℤ◌, unsigned_abs, arith, refl, sym, ap, subst, ◌∙◌}
use Rattle.std.proofs.lemmas.Int.{ints}
use Rattle.std.proofs.lemmas.List.{ext_get_or}
use Rattle.integer_algebra.specs.Sums.{at}
use Rattle.integer_algebra.specs.Division.{ceil_div}
use Rattle.integer_algebra.proofs.DivisionLaws.{le-mul-ceil_div, ceil_div-le}
use Rattle.mat_int.specs.Matrix.{Matrix, row_of}
use Rattle.qp_model.specs.problem.Design.{Design, rows}
use Rattle.qp_model.specs.problem.Parts.{IsDesign, design_of}
use Rattle.qp_model.specs.problem.Policy.{Plans, IsPolicyFor}
use Rattle.qp_model.specs.problem.Runs.{Holds}
use Rattle.qp_model.specs.form.Class.{form_of}
use Rattle.qp_model.specs.bounds.Built.{HasSizesOf}
use Rattle.qp_model.specs.bounds.Certified.{IsCertified}
use Rattle.qp_model.specs.bounds.Choices.{row_violation_bound, lean_row_violation}
use Rattle.qp_model.specs.bounds.CornerClass.{IsMargin}
use Rattle.qp_model.specs.bounds.Printed.{Printed}
use Rattle.qp_model.specs.bounds.RealErrors.{real_cost}
use Rattle.qp_model.specs.machine.Controller.{Numbers}
use Rattle.qp_model.specs.machine.Machine.{IsAdmissible, exponent_of}
use Rattle.qp_model.specs.declared.design_parts.DesignParts.{DesignParts}
use Rattle.qp_model.specs.declared.bounds.Margin.{Margin}
use Rattle.qp_model.specs.declared.refusal.Refusal.{Refusal}
use Rattle.overflow_check.specs.FastMachine.{all_weights, fast_plan}
use Rattle.stay_check.specs.FaceForms.{FaceNumbers}
use Rattle.stay_check.specs.LoopStay.{CoversPrinted, AreShiftsUpTo}
use Rattle.stay_check.specs.Staying.{KeepsInBox}
use Rattle.stay_check.proofs.LoopLaws.{grid_state, next_inside, loop_under_law}
use Rattle.closed_loop.specs.Looping.{IsLooping, looping_of_fast, state_by}
use Rattle.closed_loop.proofs.Sound.{fast_sound}
use Rattle.command_line.specs.Answers.{IsAnswer}
use Rattle.command_line.specs.declared.status.Status.TheVariants.{Done}
use Rattle.command_generate.specs.Engine.Aims.{steps_of, AreBitsOf, IsMadeWith, aim_of}
use Rattle.command_generate.specs.Engine.Bounds.{margin_of, printed_multiplier, stated_cost}
use Rattle.command_generate.specs.Engine.Built.{IsBuilt}
use Rattle.command_generate.specs.Engine.RowExponents.{AreExponentsOf}
use Rattle.command_generate.specs.Engine.Targets.{Targets, targets_of}
use Rattle.command_generate.specs.Engine.Terms.{row_bound, IsTarget}
use Rattle.command_generate.specs.Engine.declared.aimed.Aim.{Aim}
use Rattle.command_generate.specs.Made.{PassesWith, IsReport}
use Rattle.command_generate.proofs.Making.{refused_for}
use Rattle.command_generate.proofs.Engine.BuiltFacts.{made_within}
use Rattle.command_generate.proofs.Engine.OneOfEach.{one_margin, one_exponent, one_exponents, one_choice}
use Rattle.command_generate.proofs.Engine.GenerationFacts as plain
use Rattle.dual_bounds.specs.FastSteps.{quarter_steps}
use Rattle.lean_engine.specs.Lean.{lean_aim}
use Rattle.lean_engine.specs.Refusals.{policy_excess}
use Rattle.lean_engine.specs.Steps.{IsExponentOf}
use Rattle.lean_engine.proofs.LeanFacts as lean
use Rattle.fast_bounds.specs.FastCertified.{IsFastMadeWith, IsFastCertified, IsFastCertifiedAt}
use Rattle.fast_bounds.specs.FastAnswers.{real_cost_for}
use Rattle.fast_bounds.specs.FastRefusals.{AreStepsFor, AreFastBitsOf}
use Rattle.fast_bounds.proofs.FastCauses.{one_quarter}
use Rattle.fast_bounds.proofs.FastPromise as promise
use Rattle.command_make.specs.Made.{CauseOf, PassesPlainBy, PassesFastBy, PassesOf, MakingCallsWith, IsMadeByPlans, IsTextBy}
use Rattle.command_make.specs.Checking.{AreSmall, IsKeptWith, IsPricedOf}
use Rattle.command_make.specs.Excess.{aim_by, bound_by, target_by, row_bound_by, stated_cost_by, stated_excess, AreStatedExcesses, made_excess}
use Rattle.command_make.specs.Stay.{KeepsLoopsOf}
use Rattle.command_make.specs.declared.texts.Priced.{Priced}
use Rattle.command_make.proofs.Calling.{no_memory}

-- ---- by the machine
-- k steps are as many as the aim asks for
abbrev AreStepsBy : (fast : Bool) → Aim → (s k : ℕ) → Type 0
AreStepsBy false a s k = k ≡ steps_of a s
AreStepsBy true a s k = AreStepsFor a s k

-- so are f bits
abbrev AreBitsBy : (fast : Bool) → Design → Aim → (s k : ℕ) → List ℕ → ℕ → Type 0
AreBitsBy false d a s k es f = AreBitsOf d a f
AreBitsBy true d a s k es f = AreFastBitsOf d a s k es f

abbrev IsMadeWithBy : (fast : Bool) → DesignParts → Aim → Numbers → Type 0
IsMadeWithBy false p a c = IsMadeWith p a c
IsMadeWithBy true p a c = IsFastMadeWith p a c

abbrev IsCertifiedFor : (fast : Bool) → Design → Numbers → Printed → Type 0
IsCertifiedFor false d c b = IsCertified d c b
IsCertifiedFor true d c b = IsFastCertified d c b

-- what the errors cost by the residuals that the gains leave
abbrev real_cost_by : (fast : Bool) → DesignParts → ℕ → Numbers → ℕ
real_cost_by false p r c = real_cost (design_of p) (form_of (design_of p)) r c
real_cost_by true p r c = real_cost_for p r c

-- and as it is stated
abbrev stated_of : (fast : Bool) → DesignParts → ℕ → Numbers → ℕ
stated_of fast p r c = stated_cost_by fast (design_of p) r c.step_exponent c.steps c.exponents c.fraction_bits

-- the greatest R
abbrev most_bound : Bool → ℕ
most_bound false = 2 ^ 44
most_bound true = 2 ^ 42

-- ---- the numbers that pass every test are those of one controller
-- every test is passed with these
abbrev PassesAs : (fast : Bool) → Design → Targets → Plans → (reference : Option Plans) → Margin → (s k : ℕ) → List ℕ → ℕ → Type 0
PassesAs false d t plans reference m s k es f = PassesPlainBy d t plans reference m s f × AreStepsBy false (aim_by d t plans reference m) s k × AreExponentsOf d s es
PassesAs true d t plans reference m s k es f = PassesFastBy d t plans reference m s k es f

-- each is what the design and those before it ask for
record Asked (p : DesignParts) (plans : Plans) (reference : Option Plans) (fast : Bool) (m : Margin) (s k : ℕ) (es : List ℕ) (f : ℕ) : Type 0 where
  margin : IsMargin (design_of p) plans m
  exponent : IsExponentOf (design_of p) s
  steps : AreStepsBy fast (aim_by (design_of p) (targets_of p) plans reference m) s k
  exponents : AreExponentsOf (design_of p) s es
  bits : AreBitsBy fast (design_of p) (aim_by (design_of p) (targets_of p) plans reference m) s k es f

-- and R is low enough for the machine's steps
asked : (p : DesignParts) (plans : Plans) (reference : Option Plans) (fast : Bool) (m : Margin) (s k : ℕ) (es : List ℕ) (f : ℕ) →
    PassesAs fast (design_of p) (targets_of p) plans reference m s k es f → Asked p plans reference fast m s k es f × bound_by (design_of p) (targets_of p) plans reference m ≤ most_bound fast
asked p plans reference fast m s k es f = go reference fast
  where
    close : (x n : ℕ) → max x (2 ^ 84 * n) ≤ 2 ^ 126 → n ≤ 2 ^ 42
    close x n h = omega (arith, h)

    go : (o : Option Plans) (by : Bool) → PassesAs by (design_of p) (targets_of p) plans o m s k es f → Asked p plans o by m s k es f × bound_by (design_of p) (targets_of p) plans o m ≤ most_bound by
    go None false (h, steps, own) =
        (record { margin = h.before.before.before.margin; exponent = h.before.exponent; steps = steps; exponents = own; bits = h.aim.before.choice }, plain.bound_narrow m h.before.before.multiplier)
    go (Some references) false (h, steps, own) = (
      record { margin = h.before.before.margin.margin; exponent = h.before.before.exponent; steps = steps; exponents = own; bits = h.aim.before.choice },
      lean.bound_narrow (targets_of p) (unsigned_abs m.units) (policy_excess (design_of p) plans references) h.before.multiplier,
    )
    go None true h = (record { margin = h.margin.margin; exponent = h.exponent; steps = h.aim.steps; exponents = h.aim.exponents; bits = h.aim.choice }, close _ _ h.multiplier)
    go (Some references) true h = (record { margin = h.margin.margin; exponent = h.exponent; steps = h.aim.steps; exponents = h.aim.exponents; bits = h.aim.choice }, close _ _ h.multiplier)

plain_exponent : (p : DesignParts) (plans : Plans) (reference : Option Plans) (m : Margin) (s f : ℕ) → PassesPlainBy (design_of p) (targets_of p) plans reference m s f → IsExponentOf (design_of p) s
plain_exponent p plans None m s f h = h.before.exponent
plain_exponent p plans (Some references) m s f h = h.before.before.exponent

-- so there is one of each
record Same (m o : Margin) (s t k n : ℕ) (es xs : List ℕ) (f g : ℕ) : Type 0 where
  margin : m ≡ o
  exponent : s ≡ t
  steps : k ≡ n
  exponents : es ≡ xs
  bits : f ≡ g

one_count : (fast : Bool) (a : Aim) (s k n : ℕ) → AreStepsBy fast a s k → AreStepsBy fast a s n → k ≡ n
one_count false a s k n h j = h ∙ sym j
one_count true a s k n h j = one_quarter _ k n h j

one_bits : (fast : Bool) (d : Design) (a : Aim) (s k : ℕ) (es : List ℕ) (f g : ℕ) → AreBitsBy fast d a s k es f → AreBitsBy fast d a s k es g → f ≡ g
one_bits false d a s k es f g h j = one_choice _ _ _ f g h j
one_bits true d a s k es f g h j = one_choice _ _ _ f g h j

module _ (p : DesignParts) (plans : Plans) (reference : Option Plans) (design : IsDesign p) (policy : IsPolicyFor (design_of p) plans) where
  abbrev aim : Margin → Aim
  aim = aim_by (design_of p) (targets_of p) plans reference

  same : (fast : Bool) (m o : Margin) (s t k n : ℕ) (es xs : List ℕ) (f g : ℕ) → Asked p plans reference fast m s k es f → Asked p plans reference fast o t n xs g → Same m o s t k n es xs f g
  same fast m o s t k n es xs f g h j = record { margin = margin; exponent = exponent; steps = steps; exponents = exponents; bits = bits }
    where
      margin : m ≡ o
      margin = one_margin p plans design policy m o h.margin j.margin

      exponent : s ≡ t
      exponent = one_exponent (design_of p) s t h.exponent j.exponent

      moved : Asked p plans reference fast o t k es f
      moved = rw (← margin, ← exponent) h

      steps : k ≡ n
      steps = one_count fast (aim o) t k n moved.steps j.steps

      exponents : es ≡ xs
      exponents = one_exponents (design_of p) t es xs moved.exponents j.exponents

      bits : f ≡ g
      bits = one_bits fast (design_of p) (aim o) t n xs f g
          (subst (λ (ys : List ℕ). AreBitsBy fast (design_of p) (aim o) t n ys f) exponents (subst (λ (i : ℕ). AreBitsBy fast (design_of p) (aim o) t i es f) steps moved.bits)) j.bits

  -- where all tests are passed with some numbers, they are with those that are asked for
  own_passes : (fast : Bool) (o : Margin) (t n : ℕ) (xs : List ℕ) (g : ℕ) → Asked p plans reference fast o t n xs g → PassesWith (PassesOf (design_of p) (targets_of p) plans reference fast) →
      PassesAs fast (design_of p) (targets_of p) plans reference o t n xs g
  own_passes false o t n xs g j h =
      let s = h.exponent in
      let is : s ≡ t = one_exponent (design_of p) s t (plain_exponent p plans reference h.margin s h.bits h.all) j.exponent in
      let own : AreExponentsOf (design_of p) s xs = subst (λ (i : ℕ). AreExponentsOf (design_of p) i xs) (sym is) j.exponents in
      let k = steps_of (aim h.margin) s in
      let e = same false h.margin o s t k n xs xs h.bits g (asked p plans reference false h.margin s k xs h.bits (h.all, refl, own)).0 j in
      (subst (λ (T : Type 0). T) (λ i. PassesPlainBy (design_of p) (targets_of p) plans reference (e.margin i) (e.exponent i) (e.bits i)) h.all, j.steps, j.exponents)
  own_passes true o t n xs g j h = by_own h.margin h.exponent h.all.0 h.all.1 h.bits h.all.2
    where
      by_own : (m : Margin) (s k : ℕ) (es : List ℕ) (f : ℕ) → PassesFastBy (design_of p) (targets_of p) plans reference m s k es f → PassesFastBy (design_of p) (targets_of p) plans reference o t n xs g
      by_own m s k es f all =
          let e = same true m o s t k n es xs f g (asked p plans reference true m s k es f all).0 j in
          subst (λ (T : Type 0). T) (λ i. PassesFastBy (design_of p) (targets_of p) plans reference (e.margin i) (e.exponent i) (e.steps i) (e.exponents i) (e.bits i)) all

  -- ---- and one list of numbers
  record Listed (fast : Bool) (list : List ℤ) : Type 0 where
    margin : Margin
    exponent : ℕ
    steps : ℕ
    exponents : List ℕ
    bits : ℕ
    asks : Asked p plans reference fast margin exponent steps exponents bits
    holds : Holds list (rows (design_of p)) (stated_excess fast (design_of p) (targets_of p) plans reference margin exponent steps exponents bits)

  listed : (fast : Bool) (list : List ℤ) → AreStatedExcesses (design_of p) (targets_of p) plans reference fast list → Listed fast list
  listed false list h =
      let k = steps_of (aim h.margin) h.exponent in
      record {
        margin = h.margin;
        exponent = h.exponent;
        steps = k;
        exponents = h.exponents;
        bits = h.bits;
        asks = (asked p plans reference false h.margin h.exponent k h.exponents h.bits (h.passes, refl, h.own)).0;
        holds = h.holds;
      }
  listed true list h = record {
    margin = h.margin;
    exponent = h.exponent;
    steps = h.steps;
    exponents = h.exponents;
    bits = h.bits;
    asks = (asked p plans reference true h.margin h.exponent h.steps h.exponents h.bits h.passes).0;
    holds = h.holds;
  }

  one_list : (fast : Bool) (first second : List ℤ) → Listed fast first → Listed fast second → first ≡ second
  one_list fast first second h k =
      let e = same fast h.margin k.margin h.exponent k.exponent h.steps k.steps h.exponents k.exponents h.bits k.bits h.asks k.asks in
      ext_get_or (pos 0) first second (h.holds.long ∙ sym k.holds.long) (λ i l.
      (let n : i < rows (design_of p) = omega (arith, l, h.holds.long) in
      h.holds.is i n ∙ (λ j. stated_excess fast (design_of p) (targets_of p) plans reference (e.margin j) (e.exponent j) (e.steps j) (e.exponents j) (e.bits j) i) ∙ sym (k.holds.is i n)))

  stated : (fast : Bool) (m : Margin) (s k : ℕ) (es : List ℕ) (f : ℕ) (list : List ℤ) → PassesAs fast (design_of p) (targets_of p) plans reference m s k es f →
      Holds list (rows (design_of p)) (stated_excess fast (design_of p) (targets_of p) plans reference m s k es f) → AreStatedExcesses (design_of p) (targets_of p) plans reference fast list
  stated false m s k es f list (passes, steps, own) holds = record {
    margin = m;
    exponent = s;
    bits = f;
    exponents = es;
    passes = passes;
    own = own;
    holds = subst (λ (n : ℕ). Holds list (rows (design_of p)) (stated_excess false (design_of p) (targets_of p) plans reference m s n es f)) steps holds;
  }
  stated true m s k es f list passes holds = record { margin = m; exponent = s; steps = k; exponents = es; bits = f; passes = passes; holds = holds }

-- ---- numbers
pub is_target : (t : Targets) (reference : Option Plans) → IsTarget (target_by t reference)
is_target t None = tt
is_target t (Some references) = omega (arith, ints)

whole_le : (n m : ℕ) → n ≤ m → pos n ≤ℤ pos m
whole_le n m h = omega (arith, ints, h)

ceil_mono : (a b k : ℕ) → 1 ≤ k → a ≤ b → ceil_div a k ≤ ceil_div b k
ceil_mono a b k some h = let e = le-mul-ceil_div b k some in ceil_div-le a k (ceil_div b k) some (omega (arith, e, h))

-- what more errors leave of a row is no less
errors_mono : (target : Option ℤ) (e s r k a b : ℕ) → 1 ≤ r → a ≤ b → row_bound target e s r k a ≤ row_bound target e s r k b
errors_mono None e s r k a b some h = let m = ceil_mono a b r some h in omega (arith, m)
errors_mono (Some target) e s r k a b some h =
    least_mono (unsigned_abs target) (ceil_div (unsigned_abs target) 2 + ceil_div (2 ^ (e + 40) * r) k) (ceil_div a (2 * r)) (ceil_div b (2 * r)) (ceil_mono a b (2 * r) (twice r some) h)
  where
    least_mono : (t x a b : ℕ) → a ≤ b → min t (x + a) ≤ min t (x + b)
    least_mono t x a b h = omega (arith, h)

    twice : (n : ℕ) → 1 ≤ n → 1 ≤ 2 * n
    twice n l = omega (arith, l)

row_mono : (fast : Bool) (target : Option ℤ) (e s r k a b : ℕ) → 1 ≤ r → a ≤ b → row_bound_by fast target e s r k a ≤ row_bound_by fast target e s r k b
row_mono false target e s r k a b some h = errors_mono target e s r k a b some h
row_mono true target e s r k a b some h = errors_mono target (e + 2) (s + 2) r (quarter_steps k) a b some h

in_words : (fast : Bool) (n : ℕ) → n ≤ most_bound fast → n ≤ 2 ^ 44
in_words false n h = h
in_words true n h = omega (arith, h)

-- ---- a controller that is built
-- its numbers are those of an aim, and what its errors leave costs no more than is stated
record Parts (p : DesignParts) (a : Aim) (fast : Bool) (c : Numbers) : Type 0 where
  design : IsDesign p
  sizes : HasSizesOf (design_of p) c
  exponent : IsExponentOf (design_of p) c.step_exponent
  steps : AreStepsBy fast a c.step_exponent c.steps
  exponents : AreExponentsOf (design_of p) c.step_exponent c.exponents
  bits : AreBitsBy fast (design_of p) a c.step_exponent c.steps c.exponents c.fraction_bits
  real : real_cost_by fast p (unsigned_abs a.r) c ≤ stated_of fast p (unsigned_abs a.r) c
  within : stated_of fast p (unsigned_abs a.r) c ≤ unsigned_abs a.error_target

parts : (p : DesignParts) (a : Aim) (fast : Bool) (c : Numbers) → IsMadeWithBy fast p a c → Parts p a fast c
parts p a false c h = record {
  design = h.design;
  sizes = h.made.sizes;
  exponent = h.exponent;
  steps = h.steps;
  exponents = h.exponents;
  bits = h.bits;
  real = made_within p a c h;
  within = h.bits.within;
}
parts p a true c h = record {
  design = h.design;
  sizes = h.made.sizes;
  exponent = h.exponent;
  steps = h.steps;
  exponents = h.exponents;
  bits = h.bits;
  real = promise.real_within p a c h;
  within = h.bits.within;
}

-- it is made of the margin with the printed slack, by whose R its rows are printed
record Known (p : DesignParts) (plans : Plans) (reference : Option Plans) (fast : Bool) (c : Numbers) (b : Printed) : Type 0 where
  policy : IsPolicyFor (design_of p) plans
  shown : Margin
  margin : IsMargin (design_of p) plans shown
  aim : Aim
  aim_is : aim_by (design_of p) (targets_of p) plans reference shown ≡ aim
  made : IsMadeWithBy fast p aim c
  certified : IsCertifiedFor fast (design_of p) c b
  some : 1 ≤ unsigned_abs aim.r
  limited : unsigned_abs aim.error_target ≤ 2 ^ 71
  multiplier : b.multiplier ≡ pos (unsigned_abs aim.r)
  rows : (i : ℕ) → i < c.rows → at b.row_violations i ≡
      pos (row_bound_by fast (target_by (targets_of p) reference) (exponent_of c i) c.step_exponent (unsigned_abs aim.r) c.steps (real_cost_by fast p (unsigned_abs aim.r) c))

known : (p : DesignParts) (plans : Plans) (reference : Option Plans) (fast : Bool) (c : Numbers) (b : Printed) → IsMadeByPlans p plans reference fast c b → Known p plans reference fast c b
known p plans None false c b h = record {
  policy = h.built.policy;
  shown = margin_of b;
  margin = h.built.margin;
  aim = aim_of (targets_of p) (margin_of b);
  aim_is = refl;
  made = h.built.made;
  certified = h.certified;
  some = plain.bound_some (margin_of b);
  limited = plain.limit_small p (printed_multiplier b) h.built.made.design;
  multiplier = h.built.bounds.multiplier;
  rows = h.built.bounds.row_violations;
}
known p plans None true c b h = record {
  policy = h.built.policy;
  shown = margin_of b;
  margin = h.built.margin;
  aim = aim_of (targets_of p) (margin_of b);
  aim_is = refl;
  made = h.built.made;
  certified = h.certified;
  some = plain.bound_some (margin_of b);
  limited = plain.limit_small p (printed_multiplier b) h.built.made.design;
  multiplier = h.built.bounds.multiplier;
  rows = h.built.bounds.row_violations;
}
known p plans (Some references) false c b h = record {
  policy = h.built.policy;
  shown = record { units = b.margin; cost = h.built.greatest_cost };
  margin = h.built.margin;
  aim = lean_aim (targets_of p) (unsigned_abs b.margin) (unsigned_abs b.cost);
  aim_is = ap (λ (n : ℕ). lean_aim (targets_of p) (unsigned_abs b.margin) n) (sym (ap unsigned_abs h.built.excess));
  made = h.built.made;
  certified = h.certified;
  some = lean.bound_some (targets_of p) (unsigned_abs b.margin) (unsigned_abs b.cost);
  limited = lean.limit_small p (unsigned_abs b.margin) (unsigned_abs b.cost) h.built.made.design;
  multiplier = h.built.bounds.multiplier;
  rows = h.built.bounds.row_violations;
}
known p plans (Some references) true c b h = record {
  policy = h.built.policy;
  shown = record { units = b.margin; cost = h.built.greatest_cost };
  margin = h.built.margin;
  aim = lean_aim (targets_of p) (unsigned_abs b.margin) (unsigned_abs b.cost);
  aim_is = ap (λ (n : ℕ). lean_aim (targets_of p) (unsigned_abs b.margin) n) (sym (ap unsigned_abs h.built.excess));
  made = h.built.made;
  certified = h.certified;
  some = lean.bound_some (targets_of p) (unsigned_abs b.margin) (unsigned_abs b.cost);
  limited = lean.limit_small p (unsigned_abs b.margin) (unsigned_abs b.cost) h.built.made.design;
  multiplier = h.built.bounds.multiplier;
  rows = h.built.bounds.row_violations;
}

-- ---- loops
-- by the accelerated machine
module _ (p : DesignParts) (a : Aim) (c : Numbers) (b : Printed) (made : IsFastMadeWith p a c) (certified : IsFastCertified (design_of p) c b) (excess : ℕ → ℤ)
    (covers : CoversPrinted (design_of p) b excess) (range : Matrix) (keeps : KeepsInBox (design_of p) excess (at (row_of range 0)) (at (row_of range 1))) where
  certified_at : (xi : List ℤ) → IsAdmissible c xi → IsFastCertifiedAt (design_of p) c b xi
  certified_at xi g = certified xi (g.long ∙ made.made.sizes.states) (grid_state (design_of p) c made.made.sizes xi g)

  sound : IsLooping (looping_of_fast c)
  sound = fast_sound c made.controller

  fast_inside : (start : List ℤ) → IsAdmissible c start → (shifts : ℕ → ℕ → ℤ) → (turns : ℕ) → AreShiftsUpTo (design_of p) (at (row_of range 0)) (at (row_of range 1)) shifts turns →
      IsAdmissible c (state_by (design_of p) (looping_of_fast c) start shifts turns)
  unfolding state_by
  fast_inside start h shifts zero within = h
  fast_inside start h shifts (suc k) within =
      next_inside p c b excess (at (row_of range 0)) (at (row_of range 1)) made.design made.made.sizes covers keeps (all_weights c.steps) sound.weight.0 sound.sized.fraction_bits.0 (fast_plan c) (λ xi g. (certified_at xi g).plan)
      (state_by (design_of p) (looping_of_fast c) start shifts k) (shifts k) (fast_inside start h shifts k (λ j l. within j (omega (arith, l)))) (within k (omega arith))

stays : (fast : Bool) (p : DesignParts) (a : Aim) (c : Numbers) (b : Printed) → IsMadeWithBy fast p a c → IsCertifiedFor fast (design_of p) c b → (excess : ℕ → ℤ) → CoversPrinted (design_of p) b excess →
    (range : Matrix) → KeepsInBox (design_of p) excess (at (row_of range 0)) (at (row_of range 1)) → KeepsLoopsOf p fast c b range
stays false p a c b made certified excess covers range keeps = λ start inside shifts turns within.
    loop_under_law p c b excess (at (row_of range 0)) (at (row_of range 1)) made.design made.controller made.made.sizes certified covers keeps start inside shifts turns within
stays true p a c b made certified excess covers range keeps = λ start inside shifts turns within.
    (let here = fast_inside p a c b made certified excess covers range keeps start inside shifts turns within in
    record { inside = here; certified = certified_at p a c b made certified excess covers range keeps (state_by (design_of p) (looping_of_fast c) start shifts turns) here })

-- ---- of a controller that is made, where all tests are passed
module _ (p : DesignParts) (plans : Plans) (reference : Option Plans) (fast : Bool) (c : Numbers) (b : Printed) (made : IsMadeByPlans p plans reference fast c b) (errors : ℤ)
    (stated_as : errors ≡ pos (stated_cost_by fast (design_of p) (unsigned_abs b.multiplier) c.step_exponent c.steps c.exponents c.fraction_bits))
    (making : IsAnswer (MakingCallsWith (design_of p) (targets_of p) plans reference fast) Done) where
  abbrev it : Known p plans reference fast c b
  it = known p plans reference fast c b made

  its : Parts p it.aim fast c
  its = parts p it.aim fast c it.made

  -- R, by what is printed
  abbrev r : ℕ
  r = unsigned_abs it.aim.r

  abbrev target : Option ℤ
  target = target_by (targets_of p) reference

  bound : unsigned_abs b.multiplier ≡ r
  bound = ap unsigned_abs it.multiplier

  stated_is : errors ≡ pos (stated_of fast p r c)
  stated_is = stated_as ∙ ap (λ (n : ℕ). pos (stated_of fast p n c)) bound

  cost : unsigned_abs errors ≡ stated_of fast p r c
  cost = ap unsigned_abs stated_is

  row_is : (i : ℕ) → made_excess fast target c b.multiplier errors i ≡ pos (row_bound_by fast target (exponent_of c i) c.step_exponent r c.steps (stated_of fast p r c))
  row_is i = λ j. pos (row_bound_by fast target (exponent_of c i) c.step_exponent (bound j) c.steps (cost j))

  abbrev Cause : Refusal → Type 0
  Cause = CauseOf (design_of p) (targets_of p) plans reference fast

  abbrev Passes : Margin → (s f : ℕ) → Type 0
  Passes = PassesOf (design_of p) (targets_of p) plans reference fast

  passed : PassesWith Passes
  passed = elim making.called [
    | inl why ↦ absurd ((refused_for Cause Passes (no_memory (design_of p) (targets_of p) plans reference fast) Done why).done refl)
    | inr done ↦ done.1
  ]

  asks : Asked p plans reference fast it.shown c.step_exponent c.steps c.exponents c.fraction_bits
  asks = record {
    margin = it.margin;
    exponent = its.exponent;
    steps = subst (λ (a : Aim). AreStepsBy fast a c.step_exponent c.steps) (sym it.aim_is) its.steps;
    exponents = its.exponents;
    bits = subst (λ (a : Aim). AreBitsBy fast (design_of p) a c.step_exponent c.steps c.exponents c.fraction_bits) (sym it.aim_is) its.bits;
  }

  own : PassesAs fast (design_of p) (targets_of p) plans reference it.shown c.step_exponent c.steps c.exponents c.fraction_bits
  own = own_passes p plans reference its.design it.policy fast it.shown c.step_exponent c.steps c.exponents c.fraction_bits asks passed

  narrow_bound : r ≤ most_bound fast
  narrow_bound = subst (λ (a : Aim). unsigned_abs a.r ≤ most_bound fast) it.aim_is (asked p plans reference fast it.shown c.step_exponent c.steps c.exponents c.fraction_bits own).1

  pub narrow : b.multiplier ≤ℤ pos (most_bound fast)
  narrow = rw it.multiplier (whole_le r (most_bound fast) narrow_bound)

  pub small : AreSmall b.multiplier errors
  small = by r (stated_of fast p r c) it.multiplier it.some (in_words fast r narrow_bound) stated_is (plain.at_most errors _ stated_is its.within it.limited)
    where
      by : (r cost : ℕ) → b.multiplier ≡ pos r → 1 ≤ r → r ≤ 2 ^ 44 → errors ≡ pos cost → errors ≤ℤ pos (2 ^ 114) → AreSmall b.multiplier errors
      by r cost is some narrow stated high = record {
        some = rw is (omega (arith, ints, some));
        narrow = rw is (omega (arith, ints, narrow));
        errors_low = rw stated (omega (arith, ints));
        errors_high = high;
      }

  module _ (x : Priced) (holds : Holds x.excess.items c.rows (made_excess fast target c b.multiplier errors)) where
    in_rows : (i : ℕ) → i < rows (design_of p) → i < c.rows
    in_rows i l = omega (arith, l, its.sizes.rows)

    -- row i, by R as the tests have it
    told : (i : ℕ) → made_excess fast target c b.multiplier errors i ≡
        stated_excess fast (design_of p) (targets_of p) plans reference it.shown c.step_exponent c.steps c.exponents c.fraction_bits i
    told i = row_is i ∙ ap (λ (a : Aim). pos (row_bound_by fast target (exponent_of c i) c.step_exponent (unsigned_abs a.r) c.steps (stated_of fast p (unsigned_abs a.r) c))) (sym it.aim_is)

    list_stated : AreStatedExcesses (design_of p) (targets_of p) plans reference fast x.excess.items
    list_stated =
        stated p plans reference its.design it.policy fast it.shown c.step_exponent c.steps c.exponents c.fraction_bits x.excess.items own
        (record { long = holds.long ∙ its.sizes.rows; is = λ i l. holds.is i (in_rows i l) ∙ told i })

    covers : CoversPrinted (design_of p) b (at x.excess.items)
    covers i l =
        let n = in_rows i l in
        rw (it.rows i n, holds.is i n, row_is i) (whole_le _ _ (row_mono fast target (exponent_of c i) c.step_exponent r c.steps _ _ it.some its.real))

    -- so it is priced with its texts
    pub priced : (report_name : List ℕ) → IsTextBy fast x.texts.first.items c × IsReport report_name b x.texts.second.items → IsPricedOf p plans reference fast report_name x
    priced report_name are = record {
      texts = record {
        controller = c;
        bounds = b;
        made = (made, λ faces range kept. stays fast p it.aim c b it.made it.certified (at x.excess.items) covers range kept.keeps);
        is_text = are.0;
        is_report = are.1;
      };
      long = holds.long ∙ its.sizes.rows;
      stated = list_stated;
      one = λ other also.
          one_list p plans reference its.design it.policy fast other x.excess.items (listed p plans reference its.design it.policy fast other also) (listed p plans reference its.design it.policy fast x.excess.items list_stated);
    }
