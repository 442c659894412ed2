-- A step's plan and its rows' sums: they are made in one way of the multipliers of the plain machine and of the means of the accelerated one.
use Rattle.std.proofs.Common.{◌≡◌, ℕ, suc, ◌^◌, ◌<◌, ◌≤◌, true, ℤ, pos, ◌-ℤ◌, List, [], ◌∷◌, ◌++◌, length, map, unsigned_abs, refl, sym, ap, subst, ◌∙◌, arith}
use Rattle.std.specs.List.{range_with_len}
use Rattle.std.specs.Int.{int_max, int_min}
use Rattle.std.proofs.lemmas.Int.{ints, clamps}
use Rattle.std.proofs.lemmas.Bool.{cond_both}
use Rattle.std.proofs.lemmas.List.FromFn.{get_or-map-range_with_len}
use Rattle.integer_algebra.specs.Sums.{at}
use Rattle.qp_model.specs.machine.Controller.{Numbers}
use Rattle.qp_model.specs.machine.Machine.{raised, plan_entry, plan_of}
use Rattle.qp_model.specs.machine.AbsoluteSums.{row_absolute_sum}
use Rattle.qp_model.specs.machine.ValuesMet.{FitsWidth}
use Rattle.qp_model.proofs.MagnitudeLaws.{top_le_clamp, raised_within, plan_within}
use Rattle.c_language.specs.Syntax.{Variable, variable, Kind, bits_of, Expression, Statement, groups}
use Rattle.c_language.specs.Syntax.Family.{EntryBase, Multiplier, Difference, Entry, Gradient, RowSum, Moved, Sum, Own, Reached, MultiplierHigh, MultiplierLow, EntryHigh, EntryLow, GradientHigh}
use Rattle.c_language.specs.Syntax.Expression.{Constant, Value, Minus}
use Rattle.c_language.specs.Syntax.Statement.{Declare, Assign, AtLeastZero, AtMost}
use Rattle.c_language.specs.Meaning.{Environment, held, with_value, value, done}
use Rattle.c_program.specs.Of.{Sizes, entry_top, multiplier_top, partner, is_first, plus_plan, difference_statements, entry_statements, gradient_statements, row_top, row_expression, row_sum_statements}
use Rattle.c_language.proofs.Runs.{Runs, runs_none, runs_first, runs_append, runs_groups, held_new}
use Rattle.c_program.proofs.Terms.{Makes, fits64, kind_fits, kind_holds, makes_value, makes_minus}
use Rattle.c_program.proofs.Pairs.{AreMultipliers, pair_there, difference_le}
use Rattle.c_program.proofs.Parts.{Ready, entry_base, entry_made, entry_le, IsPlanned, AreShared, lowered_dot, gradient_made, lowered_sum, row_made, row_within}
use Rattle.c_program.proofs.Before.{held_bases, whole_bases, kinds, runs_one, put, put_where, skip_where}

-- numbers of the machine by index
pub made_at : (f : ℕ → ℤ) (n i : ℕ) → i < n → f i ≡ at (map f (range_with_len 0 n)) i
made_at f n i l = sym (get_or-map-range_with_len f 0 n i i (pos 0) l (omega arith))

-- ---- the differences
-- so many are new, and what is held beside them stays
pub record Differs (c : Numbers) (used : List ℤ) (F : Environment → Type 0) (q : ℕ) (e : Environment) : Type 0 where
  pub multipliers : (i : ℕ) → i < length c.bounds → e Multiplier i ≡ at used i
  pub differences : (i : ℕ) → i < q → is_first c i ≡ true → e Difference i ≡ at used i -ℤ at used (partner c i)
  pub beside : F e

-- no multiplier is too great for its type
abbrev pub HasShortClamp : Numbers → Type 0
HasShortClamp c = (i : ℕ) → i < length c.bounds → unsigned_abs c.clamp < 2 ^ 63

abbrev pub StaysByDifferences : (Environment → Type 0) → Type 0
StaysByDifferences F = (e : Environment) (i : ℕ) (z : ℤ) → F e → F (with_value e (variable Difference i) z)

difference_runs : (c : Numbers) (sizes : Sizes) (used : List ℤ) (F : Environment → Type 0) (i : ℕ) (e : Environment) → AreMultipliers c used → HasShortClamp c → StaysByDifferences F → i < length c.bounds →
    Differs c used F i e → Runs (kinds c sizes) e (difference_statements c i) (Differs c used F (suc i))
difference_runs c sizes used F i e ranges short stays l s =
    let P = Differs c used F (suc i) in
    let z = at used i -ℤ at used (partner c i) in
    let first = is_first c in
    let new = λ (k : ℕ). at used k -ℤ at used (partner c k) in
    let clamp = unsigned_abs c.clamp in
    let room : clamp < 2 ^ 63 = short i l in
    let top : multiplier_top c i < 2 ^ 63 = omega (arith, top_le_clamp c i, room) in
    cond_both (is_first c i) (Declare (variable Difference i) (Minus (Value (variable Multiplier i)) (Value (variable Multiplier (partner c i)))) ∷ []) [] (λ ss. Runs (kinds c sizes) e ss P)
    (λ t.
    let pair = pair_there c i t in
    let within = difference_le c used i (partner c i) ranges pair in
    let m = makes_minus e _ _ _ _ clamp clamp (multiplier_top c i)
    (makes_value e (variable Multiplier i) (at used i) clamp (s.multipliers i l) (omega (arith, ranges.tops.each i, top_le_clamp c i)) room)
    (makes_value e (variable Multiplier (partner c i)) (at used (partner c i)) clamp (s.multipliers (partner c i) pair.inside)
    (omega (arith, ranges.tops.each (partner c i), top_le_clamp c (partner c i))) room) within top in
    runs_one (kinds c sizes) e _ z P m.defined m.is (kind_fits (multiplier_top c i) z within top)
    (record { multipliers = s.multipliers; differences = put_where first (e Difference) new i z refl s.differences; beside = stays e i z s.beside }))
    (λ f. runs_none (kinds c sizes) e P (record { multipliers = s.multipliers; differences = skip_where first (e Difference) new i f s.differences; beside = s.beside }))

pub differences_run : (c : Numbers) (sizes : Sizes) (used : List ℤ) (F : Environment → Type 0) → AreMultipliers c used → HasShortClamp c → StaysByDifferences F → (e : Environment) →
    Differs c used F 0 e → Runs (kinds c sizes) e (groups (difference_statements c) (length c.bounds)) (Differs c used F (length c.bounds))
differences_run c sizes used F ranges short stays e s =
    runs_groups (kinds c sizes) (difference_statements c) (Differs c used F) (length c.bounds) e s (λ k t l h. difference_runs c sizes used F k t ranges short stays l h)

-- ---- the plan
-- what other variables hold, which stays as it is meanwhile, also where the plan and the rows' sums are made in two parts
pub record StaysBeside (F : Environment → Type 0) : Type 0 where
  pub difference : (e : Environment) (i : ℕ) (z : ℤ) → F e → F (with_value e (variable Difference i) z)
  pub entry : (e : Environment) (j : ℕ) (z : ℤ) → F e → F (with_value e (variable Entry j) z)
  pub gradient : (e : Environment) (i : ℕ) (z : ℤ) → F e → F (with_value e (variable Gradient i) z)
  pub row_sum : (e : Environment) (i : ℕ) (z : ℤ) → F e → F (with_value e (variable RowSum i) z)
  pub multiplier_high : (e : Environment) (i : ℕ) (z : ℤ) → F e → F (with_value e (variable MultiplierHigh i) z)
  pub multiplier_low : (e : Environment) (i : ℕ) (z : ℤ) → F e → F (with_value e (variable MultiplierLow i) z)
  pub entry_high : (e : Environment) (j : ℕ) (z : ℤ) → F e → F (with_value e (variable EntryHigh j) z)
  pub entry_low : (e : Environment) (j : ℕ) (z : ℤ) → F e → F (with_value e (variable EntryLow j) z)
  pub gradient_high : (e : Environment) (i : ℕ) (z : ℤ) → F e → F (with_value e (variable GradientHigh i) z)

-- the multipliers or the means that it is made at
pub record PlanReady (c : Numbers) (state used : List ℤ) : Type 0 where
  pub ready : Ready c state
  pub ranges : AreMultipliers c used
  pub room : (j : ℕ) → j < length c.offsets → entry_top c j < 2 ^ 63

-- so many plan entries are new
pub record Plans (c : Numbers) (state used : List ℤ) (F : Environment → Type 0) (a : ℕ) (e : Environment) : Type 0 where
  pub bases : held_bases (whole_bases c state) e
  pub multipliers : (i : ℕ) → i < length c.bounds → e Multiplier i ≡ at used i
  pub differences : (i : ℕ) → i < length c.bounds → is_first c i ≡ true → e Difference i ≡ at used i -ℤ at used (partner c i)
  pub entries : (j : ℕ) → j < a → e Entry j ≡ at (plan_of c state (raised c used)) j
  pub beside : F e

entry_runs : (c : Numbers) (sizes : Sizes) (state used : List ℤ) (F : Environment → Type 0) (j : ℕ) (e : Environment) → PlanReady c state used → StaysBeside F → j < length c.offsets →
    Plans c state used F j e → Runs (kinds c sizes) e (entry_statements c j) (Plans c state used F (suc j))
entry_runs c sizes state used F j e r stays l s =
    let z = plan_entry c state (raised c used) j in
    let m = entry_made c state used e j r.ready l r.ranges (s.bases.entries j l) (record { alone = s.multipliers; pairs = s.differences }) in
    let same : z ≡ at (plan_of c state (raised c used)) j = made_at (plan_entry c state (raised c used)) (length c.offsets) j l in
    runs_one (kinds c sizes) e _ z (Plans c state used F (suc j)) m.defined m.is
    (kind_fits (entry_top c j) z (entry_le c state used j r.ready.within r.ready.nonneg l r.ranges.tops) (r.room j l))
    (record {
      bases = s.bases;
      multipliers = s.multipliers;
      differences = s.differences;
      entries = put (e Entry) (at (plan_of c state (raised c used))) j z same s.entries;
      beside = stays.entry e j z s.beside;
    })

pub plan_begins : (c : Numbers) (sizes : Sizes) (state used : List ℤ) (F : Environment → Type 0) → PlanReady c state used → StaysBeside F → (e : Environment) → held_bases (whole_bases c state) e →
    ((i : ℕ) → i < length c.bounds → e Multiplier i ≡ at used i) → F e → Runs (kinds c sizes) e (groups (difference_statements c) (length c.bounds)) (Plans c state used F 0)
plan_begins c sizes state used F r stays e bases multipliers beside =
    let B = λ (t : Environment). held_bases (whole_bases c state) t × F t in
    let first : Differs c used B 0 e = record { multipliers = multipliers; differences = λ k l. absurd (omega (arith, l)); beside = (bases, beside) } in
    let one = differences_run c sizes used B r.ranges (λ i l. omega (arith, r.ready.fit.next i l)) (λ t i z h. (h.0, stays.difference t i z h.1)) e first in
    let s = one.ends in record {
      defined = one.defined;
      ends = record { bases = s.beside.0; multipliers = s.multipliers; differences = s.differences; entries = λ k l. absurd (omega (arith, l)); beside = s.beside.1 };
    }

pub entries_run : (c : Numbers) (sizes : Sizes) (state used : List ℤ) (F : Environment → Type 0) → PlanReady c state used → StaysBeside F → (e : Environment) → Plans c state used F 0 e →
    Runs (kinds c sizes) e (groups (entry_statements c) (length c.offsets)) (Plans c state used F (length c.offsets))
entries_run c sizes state used F r stays e s =
    runs_groups (kinds c sizes) (entry_statements c) (Plans c state used F) (length c.offsets) e s (λ k u l h. entry_runs c sizes state used F k u r stays l h)

-- what the rows' sums are made from
pub is_planned : (c : Numbers) (state used : List ℤ) (F : Environment → Type 0) (e : Environment) → PlanReady c state used → Plans c state used F (length c.offsets) e →
    IsPlanned c state (plan_of c state (raised c used)) e
is_planned c state used F e r s = record {
  bases = s.bases.rows;
  within = plan_within c state (raised c used) r.ready.within (raised_within c used r.ready.nonneg r.ranges.tops);
  entries = s.entries;
}

-- ---- a number that is moved
-- what other variables hold, which stays as it is where sums and multipliers change
pub record StaysByMoves (K : Environment → Type 0) : Type 0 where
  pub sum : (e : Environment) (j : ℕ) (z : ℤ) → K e → K (with_value e (variable Sum j) z)
  pub moved : (e : Environment) (i : ℕ) (z : ℤ) → K e → K (with_value e (variable Moved i) z)
  pub multiplier : (e : Environment) (i : ℕ) (z : ℤ) → K e → K (with_value e (variable Multiplier i) z)
  pub own : (e : Environment) (i : ℕ) (z : ℤ) → K e → K (with_value e (variable Own i) z)
  pub reached : (e : Environment) (i : ℕ) (z : ℤ) → K e → K (with_value e (variable Reached i) z)

pub abs_raised_le : (z : ℤ) (most : ℕ) → unsigned_abs z ≤ most → unsigned_abs (int_max z (pos 0)) ≤ most
abs_raised_le z most h = omega (arith, ints, clamps, h)

-- a variable is declared, clamped and put into another, and what is run after it is run whatever it held on the way
pub move_runs : (kind : Variable → Kind) (e : Environment) (a : Expression) (v w : Variable) (z top : ℤ) (most : ℕ) (rest : List Statement) (P : Environment → Type 0) → Makes e a z most →
    unsigned_abs top < 2 ^ 63 → FitsWidth (bits_of (kind v)) z → FitsWidth (bits_of (kind v)) (int_max z (pos 0)) → FitsWidth (bits_of (kind v)) (int_min top (int_max z (pos 0))) →
    FitsWidth (bits_of (kind w)) (int_min top (int_max z (pos 0))) → FitsWidth 64 (int_min top (int_max z (pos 0))) →
    ((x1 x2 x3 y : ℤ) → y ≡ int_min top (int_max z (pos 0)) → Runs kind (with_value (with_value (with_value (with_value e v x1) v x2) v x3) w y) rest P) →
    Runs kind e (Declare v a ∷ AtLeastZero v ∷ AtMost v top ∷ Assign w (Value v) ∷ rest) P
move_runs kind e a v w z top most rest P m literal f1 f2 f3 f4 f5 h =
    let e1 = done e (Declare v a) in
    let h1 : held e1 v ≡ z = held_new e v (value e a) ∙ m.is in
    let n2 : int_max (held e1 v) (pos 0) ≡ int_max z (pos 0) = ap (λ (y : ℤ). int_max y (pos 0)) h1 in
    let e2 = done e1 (AtLeastZero v) in
    let h2 : held e2 v ≡ int_max z (pos 0) = held_new e1 v (int_max (held e1 v) (pos 0)) ∙ n2 in
    let n3 : int_min top (held e2 v) ≡ int_min top (int_max z (pos 0)) = ap (int_min top) h2 in
    let e3 = done e2 (AtMost v top) in
    let h3 : held e3 v ≡ int_min top (int_max z (pos 0)) = held_new e2 v (int_min top (held e2 v)) ∙ n3 in
    let F = λ (y : ℤ). FitsWidth (bits_of (kind v)) y in
    runs_first kind e _ _ P (record { operands = m.defined; fits = subst F (sym m.is) f1 })
    (runs_first kind e1 _ _ P (record { operands = tt; fits = subst F (sym n2) f2 })
    (runs_first kind e2 _ _ P (record { operands = literal; fits = subst F (sym n3) f3 })
    (runs_first kind e3 _ rest P (record { operands = subst (FitsWidth 64) (sym h3) f5; fits = subst (FitsWidth (bits_of (kind w))) (sym h3) f4 })
    (h (value e a) (int_max (held e1 v) (pos 0)) (int_min top (held e2 v)) (held e3 v) h3))))

-- ---- the rows
-- so many gradients are new
pub record Rows (c : Numbers) (state plan : List ℤ) (g : ℕ) (e : Environment) : Type 0 where
  pub entry_bases : (j : ℕ) → j < length c.offsets → e EntryBase j ≡ entry_base c state j
  pub planned : IsPlanned c state plan e
  pub gradients : AreShared c plan e g

-- it stays as it is where only sums and multipliers change
pub rows_stay : (c : Numbers) (state plan : List ℤ) (g : ℕ) → StaysByMoves (Rows c state plan g)
rows_stay c state plan g = record {
  sum = λ e j z h. record { entry_bases = h.entry_bases; planned = record { bases = h.planned.bases; within = h.planned.within; entries = h.planned.entries }; gradients = h.gradients };
  moved = λ e i z h. record { entry_bases = h.entry_bases; planned = record { bases = h.planned.bases; within = h.planned.within; entries = h.planned.entries }; gradients = h.gradients };
  multiplier = λ e i z h. record { entry_bases = h.entry_bases; planned = record { bases = h.planned.bases; within = h.planned.within; entries = h.planned.entries }; gradients = h.gradients };
  own = λ e i z h. record { entry_bases = h.entry_bases; planned = record { bases = h.planned.bases; within = h.planned.within; entries = h.planned.entries }; gradients = h.gradients };
  reached = λ e i z h. record { entry_bases = h.entry_bases; planned = record { bases = h.planned.bases; within = h.planned.within; entries = h.planned.entries }; gradients = h.gradients };
}

gradient_runs : (c : Numbers) (sizes : Sizes) (state plan : List ℤ) (F : Environment → Type 0) (i : ℕ) (e : Environment) → Ready c state → StaysBeside F → i < length c.bounds →
    Rows c state plan i e × F e → Runs (kinds c sizes) e (gradient_statements c i) (λ t. Rows c state plan (suc i) t × F t)
gradient_runs c sizes state plan F i e r stays l both =
    let P = λ (t : Environment). Rows c state plan (suc i) t × F t in
    let s = both.0 in
    let z = lowered_dot c plan i in
    let first = is_first c in
    let new = lowered_dot c plan in
    let p = s.planned in
    let m = gradient_made c state plan e i r l p in
    cond_both (is_first c i) (Declare (variable Gradient i) (plus_plan c i (Constant (pos 0))) ∷ []) [] (λ ss. Runs (kinds c sizes) e ss P)
    (λ t. runs_one (kinds c sizes) e _ z P m.defined m.is (fits64 z (omega (arith, m.within, r.fit.rows i l))) (
      record {
        entry_bases = s.entry_bases;
        planned = record { bases = p.bases; within = p.within; entries = p.entries };
        gradients = put_where first (e Gradient) new i z refl s.gradients;
      },
      stays.gradient e i z both.1,
    ))
    (λ f. runs_none (kinds c sizes) e P (record { entry_bases = s.entry_bases; planned = p; gradients = skip_where first (e Gradient) new i f s.gradients }, both.1))

-- within a row: its sum is new, too
abbrev pub Summed : (c : Numbers) (state plan : List ℤ) (F : Environment → Type 0) (i : ℕ) → Environment → Type 0
Summed c state plan F i e = Rows c state plan (suc i) e × F e × (e RowSum i ≡ lowered_sum c state plan i)

row_sum_runs : (c : Numbers) (sizes : Sizes) (state plan : List ℤ) (F : Environment → Type 0) (i : ℕ) (e : Environment) → Ready c state → StaysBeside F → i < length c.bounds →
    Rows c state plan (suc i) e × F e → Runs (kinds c sizes) e (row_sum_statements c i) (Summed c state plan F i)
row_sum_runs c sizes state plan F i e r stays l both =
    let s = both.0 in
    let z = lowered_sum c state plan i in
    let p = s.planned in
    let m = row_made c state plan e i r l p s.gradients in
    runs_one (kinds c sizes) e _ z (Summed c state plan F i) m.defined m.is
    (kind_holds (row_top c i) z (row_within c state plan i r p.within) (omega (arith, m.within, r.fit.rows i l))) (
      record { entry_bases = s.entry_bases; planned = record { bases = p.bases; within = p.within; entries = p.entries }; gradients = s.gradients },
      stays.row_sum e i z both.1,
      held_new e (variable RowSum i) z,
    )

-- each row is summed, and then its multiplier moved
pub rows_run : (c : Numbers) (sizes : Sizes) (state plan : List ℤ) (F : ℕ → Environment → Type 0) (move : ℕ → List Statement) → Ready c state → ((i : ℕ) → StaysBeside (F i)) →
    ((i : ℕ) (t : Environment) → i < length c.bounds → Summed c state plan (F i) i t → Runs (kinds c sizes) t (move i) (λ u. Rows c state plan (suc i) u × F (suc i) u)) → (e : Environment) →
    Rows c state plan 0 e × F 0 e →
    Runs (kinds c sizes) e (groups (λ i. gradient_statements c i ++ row_sum_statements c i ++ move i) (length c.bounds)) (λ u. Rows c state plan (length c.bounds) u × F (length c.bounds) u)
rows_run c sizes state plan F move r stays moves e s =
    let R = λ (k : ℕ) (n : ℕ) (u : Environment). Rows c state plan n u × F k u in
    runs_groups (kinds c sizes) (λ i. gradient_statements c i ++ row_sum_statements c i ++ move i) (λ k. R k k) (length c.bounds) e s (λ k u l v.
    runs_append (kinds c sizes) u (gradient_statements c k ++ row_sum_statements c k) (move k) (Summed c state plan (F k) k) (R (suc k) (suc k))
    (runs_append (kinds c sizes) u (gradient_statements c k) (row_sum_statements c k) (R k (suc k)) (Summed c state plan (F k) k)
    (gradient_runs c sizes state plan (F k) k u r (stays k) l v) (λ w x. row_sum_runs c sizes state plan (F k) k w r (stays k) l x)) (λ w x. moves k w l x))

-- the row's sum lies within its absolute sum
pub row_sum_small : (c : Numbers) (state plan : List ℤ) (i : ℕ) (e : Environment) → Ready c state → i < length c.bounds → Rows c state plan (suc i) e →
    Makes e (row_expression c i) (lowered_sum c state plan i) (row_absolute_sum c i)
row_sum_small c state plan i e r l s = row_made c state plan e i r l s.planned s.gradients
