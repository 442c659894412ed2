-- The statements before the loop: the state is loaded, and what it adds to each plan entry and each row is made once.
use Rattle.std.proofs.Common.{◌≡◌, ℕ, suc, ◌-◌, ◌*◌, ◌^◌, ◌<◌, ◌≤◌, ◌==◌, if◌then◌else◌, ltb, Bool, true, false, ℤ, pos, ◌*ℤ◌, List, [], ◌∷◌, ◌++◌, length, map, unsigned_abs, refl, sym, ap, subst, ◌∙◌, arith, inl, inr}
use Rattle.std.proofs.lemmas.Bool.{cases_eq, eq-eqb, ne_eqb, cond_both, both_ways}
use Rattle.std.proofs.lemmas.Int.{unsigned_abs-mul}
use Rattle.std.proofs.lemmas.Nat.{pow_below}
use Rattle.std.proofs.lemmas.List.{get_or-map, length-map}
use Rattle.std.proofs.Math.IntN.{*ℤ_comm}
use Rattle.integer_algebra.specs.Sums.{at}
use Rattle.qp_model.specs.machine.Controller.{Numbers}
use Rattle.qp_model.specs.machine.Machine.{loaded}
use Rattle.qp_model.specs.machine.AbsoluteSums.{state_magnitudes}
use Rattle.qp_model.specs.machine.ValuesMet.{FitsWidth}
use Rattle.qp_model.specs.machine.Within.{AreWithin}
use Rattle.qp_model.proofs.AbsoluteLaws.{le_times_pow}
use Rattle.qp_model.proofs.MagnitudeLaws.{get_or-le-greatest}
use Rattle.overflow_check.proofs.ValuesMet.{fits_width}
use Rattle.c_language.specs.Syntax.{Variable, variable, Kind, bits_of, Statement, groups}
use Rattle.c_language.specs.Syntax.Kind.{Narrow, Wide}
use Rattle.c_language.specs.Syntax.Family.{State, Loaded, EntryBase, RowBase, Multiplier, Sum, Own, Reached, Weight, Shift, Power, EntryBaseHigh, RowBaseHigh}
use Rattle.c_language.specs.Meaning.{Environment, with_value, new_value, variable_of, HasOperands, begun}
use Rattle.c_program.specs.Of.{Sizes, state_top, multiplier_top, kind_for, kind_by, loaded_statements, entry_base_statements, row_base_statements, zero_statements, before_of, has_short_divisor}
use Rattle.c_program.specs.FastOf.{first_weight, first_scale_lines, first_scale, fast_before_of}
use Rattle.overflow_check.specs.declared.machine.Machine.TheVariants.{Accelerated}
use Rattle.c_program.specs.ByMachine.{start_for}
use Rattle.c_program.proofs.ProgramNeeds.{before_is}
use Rattle.c_language.proofs.Runs.{Runs, runs_none, runs_first, runs_append, runs_groups}
use Rattle.c_program.proofs.Terms.{fits64, kind_fits}
use Rattle.c_program.proofs.Parts.{Ready, entry_base, row_base, entry_base_made, row_base_made}

-- ---- one statement
abbrev pub kinds : Numbers → Sizes → Variable → Kind
kinds c sizes v = kind_by c sizes v.family v.number

-- with others behind it
pub runs_next : (kind : Variable → Kind) (e : Environment) (s : Statement) (rest : List Statement) (z : ℤ) (P : Environment → Type 0) → HasOperands e s → new_value e s ≡ z →
    FitsWidth (bits_of (kind (variable_of s))) z → Runs kind (with_value e (variable_of s) z) rest P → Runs kind e (s ∷ rest) P
runs_next kind e s rest z P operands is fits h =
    runs_first kind e s rest P (record { operands = operands; fits = subst (FitsWidth (bits_of (kind (variable_of s)))) (sym is) fits })
    (subst (λ (y : ℤ). Runs kind (with_value e (variable_of s) y) rest P) (sym is) h)

pub runs_one : (kind : Variable → Kind) (e : Environment) (s : Statement) (z : ℤ) (P : Environment → Type 0) → HasOperands e s → new_value e s ≡ z →
    FitsWidth (bits_of (kind (variable_of s))) z → P (with_value e (variable_of s) z) → Runs kind e (s ∷ []) P
runs_one kind e s z P operands is fits h = runs_next kind e s [] z P operands is fits (runs_none kind (with_value e (variable_of s) z) P h)

-- one more variable of a family is put in its place
pub put : (f g : ℕ → ℤ) (n : ℕ) (z : ℤ) → z ≡ g n → ((k : ℕ) → k < n → f k ≡ g k) → (k : ℕ) → k < suc n → (if n == k then z else f k) ≡ g k
put f g n z new old k l = elim (cases_eq n k) [
  | inl e ↦ rw (eq-eqb n k e) (new ∙ ap g e)
  | inr e ↦ rw (ne_eqb n k e) (old k (omega (arith, l, e)))
]

-- the others of its family stay
pub kept : (f g : ℕ → ℤ) (n m : ℕ) (z : ℤ) → ((k : ℕ) → n ≤ k → k < m → f k ≡ g k) → (k : ℕ) → suc n ≤ k → k < m → (if n == k then z else f k) ≡ g k
kept f g n m z old k l h =
    let e : (n ≡ k) → ⊥ = λ same. absurd (omega (arith, same, l)) in
    rw (ne_eqb n k e) (old k (omega (arith, l)) h)

pub before_kept : (f g : ℕ → ℤ) (n : ℕ) (z : ℤ) → ((k : ℕ) → k < n → f k ≡ g k) → (k : ℕ) → k < n → (if n == k then z else f k) ≡ g k
before_kept f g n z old k l =
    let e : (n ≡ k) → ⊥ = λ same. absurd (omega (arith, same, l)) in
    rw (ne_eqb n k e) (old k l)

-- the same of a family of which only some are declared
pub put_when : (Q : ℕ → Type 0) (f g : ℕ → ℤ) (n : ℕ) (z : ℤ) → z ≡ g n → ((k : ℕ) → k < n → Q k → f k ≡ g k) → (k : ℕ) → k < suc n → Q k → (if n == k then z else f k) ≡ g k
put_when Q f g n z new old k l h = elim (cases_eq n k) [
  | inl e ↦ rw (eq-eqb n k e) (new ∙ ap g e)
  | inr e ↦ rw (ne_eqb n k e) (old k (omega (arith, l, e)) h)
]

pub skip_when : (Q : ℕ → Type 0) (f g : ℕ → ℤ) (n : ℕ) → ¬ Q n → ((k : ℕ) → k < n → Q k → f k ≡ g k) → (k : ℕ) → k < suc n → Q k → f k ≡ g k
skip_when Q f g n none old k l h = elim (cases_eq n k) [
  | inl e ↦ absurd (none (subst Q (sym e) h))
  | inr e ↦ old k (omega (arith, l, e)) h
]

pub put_where : (b : ℕ → Bool) (f g : ℕ → ℤ) (n : ℕ) (z : ℤ) → z ≡ g n → ((k : ℕ) → k < n → b k ≡ true → f k ≡ g k) → (k : ℕ) → k < suc n → b k ≡ true → (if n == k then z else f k) ≡ g k
put_where b f g n z new old k l h = put_when (λ i. b i ≡ true) f g n z new old k l h

pub skip_where : (b : ℕ → Bool) (f g : ℕ → ℤ) (n : ℕ) → b n ≡ false → ((k : ℕ) → k < n → b k ≡ true → f k ≡ g k) → (k : ℕ) → k < suc n → b k ≡ true → f k ≡ g k
skip_where b f g n none old k l h = skip_when (λ i. b i ≡ true) f g n (λ t. both_ways (b n) none t) old k l h

-- ---- what the state adds
-- what is held of it, in one part or in two, which stays as it is through a run
abbrev pub OfBases : Type 1
OfBases = (entry row high_entry high_row : ℕ → ℤ) → Type 0

abbrev pub held_bases : OfBases → Environment → Type 0
held_bases B e = B (e EntryBase) (e RowBase) (e EntryBaseHigh) (e RowBaseHigh)

-- in one part
pub record AreBases (c : Numbers) (state : List ℤ) (entry row : ℕ → ℤ) : Type 0 where
  pub entries : (j : ℕ) → j < length c.offsets → entry j ≡ entry_base c state j
  pub rows : (i : ℕ) → i < length c.bounds → row i ≡ row_base c state i

abbrev pub whole_bases : Numbers → List ℤ → OfBases
whole_bases c state entry row high_entry high_row = AreBases c state entry row

-- ---- what the variables hold, so many of each family
pub record Begins (c : Numbers) (xi : List ℤ) (a b d f g : ℕ) (e : Environment) : Type 0 where
  pub state : (k : ℕ) → e State k ≡ at xi k
  pub inputs : (k : ℕ) → k < a → e Loaded k ≡ at (loaded c xi) k
  pub entries : (j : ℕ) → j < b → e EntryBase j ≡ entry_base c (loaded c xi) j
  pub rows : (i : ℕ) → i < d → e RowBase i ≡ row_base c (loaded c xi) i
  pub multipliers : (i : ℕ) → i < f → e Multiplier i ≡ pos 0
  pub sums : (j : ℕ) → j < g → e Sum j ≡ pos 0

pub zero_fits : (top : ℕ) → FitsWidth (bits_of (kind_for top)) (pos 0)
zero_fits top =
    cond_both (ltb top (2 ^ 31)) Narrow Wide (λ kind. FitsWidth (bits_of kind) (pos 0)) (λ e. fits_width 32 (pos 0) (omega arith)) (λ e. fits64 (pos 0) (omega arith))

-- ---- loading
loaded_at : (xs : List ℤ) (q : ℤ) (k : ℕ) → k < length (map (λ x. x *ℤ q) xs) → q *ℤ at xs k ≡ at (map (λ x. x *ℤ q) xs) k
loaded_at xs q k l = *ℤ_comm q (at xs k) ∙ sym (get_or-map (λ x. x *ℤ q) xs k (pos 0) (pos 0) (omega (arith, l, length-map xs (λ x. x *ℤ q))))

-- so many coordinates are
pub record Loads (c : Numbers) (xi : List ℤ) (a : ℕ) (e : Environment) : Type 0 where
  pub state : (k : ℕ) → e State k ≡ at xi k
  pub inputs : (k : ℕ) → k < a → e Loaded k ≡ at (loaded c xi) k

-- what this needs
pub record LoadReady (c : Numbers) (xi : List ℤ) : Type 0 where
  pub short : c.fraction_bits ≤ 48
  pub within : AreWithin (loaded c xi) (state_magnitudes c)
  pub long : length (loaded c xi) ≡ c.states
  pub room : (k : ℕ) → k < c.states → state_top c k < 2 ^ 63

load_runs : (c : Numbers) (sizes : Sizes) (xi : List ℤ) (k : ℕ) (e : Environment) → LoadReady c xi → k < c.states → Loads c xi k e → Runs (kinds c sizes) e (loaded_statements c k) (Loads c xi (suc k))
load_runs c sizes xi k e r l b =
    let h = c.fraction_bits - c.grid_bits in
    let q = pos (2 ^ h) in
    let x = e State k in
    let is : q *ℤ x ≡ at (loaded c xi) k = ap (λ (y : ℤ). q *ℤ y) (b.state k) ∙ loaded_at xi q k (omega (arith, l, r.long)) in
    let top : state_top c k < 2 ^ 63 = r.room k l in
    let small : unsigned_abs (q *ℤ x) ≤ state_top c k = rw is (r.within.each k) in
    let size : unsigned_abs (q *ℤ x) ≡ 2 ^ h * unsigned_abs x = unsigned_abs-mul q x in
    let factor : unsigned_abs x ≤ 2 ^ h * unsigned_abs x = omega (arith, le_times_pow (unsigned_abs x) h) in
    runs_one (kinds c sizes) e _ (at (loaded c xi) k) (Loads c xi (suc k))
    (pow_below h 63 (omega (arith, r.short)), fits64 x (omega (arith, small, size, factor, top)), fits64 (q *ℤ x) (omega (arith, small, top))) is
    (kind_fits (state_top c k) (at (loaded c xi) k) (r.within.each k) top)
    (record { state = b.state; inputs = put (e Loaded) (at (loaded c xi)) k _ refl b.inputs })

pub loads_run : (c : Numbers) (sizes : Sizes) (xi : List ℤ) → LoadReady c xi → Runs (kinds c sizes) (begun xi) (groups (loaded_statements c) c.states) (Loads c xi c.states)
loads_run c sizes xi r =
    runs_groups (kinds c sizes) (loaded_statements c) (Loads c xi) c.states (begun xi) (record { state = λ k. refl; inputs = λ k l. absurd (omega (arith, l)) })
    (λ k t l h. load_runs c sizes xi k t r l h)

loads_begin : (c : Numbers) (sizes : Sizes) (xi : List ℤ) → Ready c (loaded c xi) → Runs (kinds c sizes) (begun xi) (groups (loaded_statements c) c.states) (Begins c xi c.states 0 0 0 0)
loads_begin c sizes xi r =
    let one = loads_run c sizes xi (record { short = r.short; within = r.within; long = r.long; room = λ k l. omega (arith, get_or-le-greatest (state_magnitudes c) k, r.fit.states) }) in
    record {
      defined = one.defined;
      ends = record {
        state = one.ends.state;
        inputs = one.ends.inputs;
        entries = λ k l. absurd (omega (arith, l));
        rows = λ k l. absurd (omega (arith, l));
        multipliers = λ k l. absurd (omega (arith, l));
        sums = λ k l. absurd (omega (arith, l));
      };
    }

-- ---- what the state adds
entry_base_runs : (c : Numbers) (sizes : Sizes) (xi : List ℤ) (j : ℕ) (e : Environment) → Ready c (loaded c xi) → j < length c.offsets → Begins c xi c.states j 0 0 0 e →
    Runs (kinds c sizes) e (entry_base_statements c j) (Begins c xi c.states (suc j) 0 0 0)
entry_base_runs c sizes xi j e r l b =
    let m = entry_base_made c (loaded c xi) e j r l b.inputs in
    runs_one (kinds c sizes) e _ (entry_base c (loaded c xi) j) (Begins c xi c.states (suc j) 0 0 0) m.defined m.is
    (fits64 _ (omega (arith, m.within, r.fit.entries j l)))
    (record { state = b.state; inputs = b.inputs; entries = put (e EntryBase) (entry_base c (loaded c xi)) j _ refl b.entries; rows = b.rows; multipliers = b.multipliers; sums = b.sums })

row_base_runs : (c : Numbers) (sizes : Sizes) (xi : List ℤ) (i : ℕ) (e : Environment) → Ready c (loaded c xi) → i < length c.bounds → Begins c xi c.states (length c.offsets) i 0 0 e →
    Runs (kinds c sizes) e (row_base_statements c i) (Begins c xi c.states (length c.offsets) (suc i) 0 0)
row_base_runs c sizes xi i e r l b =
    let m = row_base_made c (loaded c xi) e i r l b.inputs in
    runs_one (kinds c sizes) e _ (row_base c (loaded c xi) i) (Begins c xi c.states (length c.offsets) (suc i) 0 0) m.defined m.is
    (fits64 _ (omega (arith, m.within, r.fit.rows i l)))
    (record { state = b.state; inputs = b.inputs; entries = b.entries; rows = put (e RowBase) (row_base c (loaded c xi)) i _ refl b.rows; multipliers = b.multipliers; sums = b.sums })

-- ---- zeros
multiplier_runs : (c : Numbers) (sizes : Sizes) (xi : List ℤ) (i : ℕ) (e : Environment) → Begins c xi c.states (length c.offsets) (length c.bounds) i 0 e →
    Runs (kinds c sizes) e (zero_statements Multiplier i) (Begins c xi c.states (length c.offsets) (length c.bounds) (suc i) 0)
multiplier_runs c sizes xi i e b =
    runs_one (kinds c sizes) e _ (pos 0) (Begins c xi c.states (length c.offsets) (length c.bounds) (suc i) 0) (omega arith) refl (zero_fits (multiplier_top c i))
    (record { state = b.state; inputs = b.inputs; entries = b.entries; rows = b.rows; multipliers = put (e Multiplier) (λ k. pos 0) i _ refl b.multipliers; sums = b.sums })

sum_runs : (c : Numbers) (sizes : Sizes) (xi : List ℤ) (j : ℕ) (e : Environment) → Begins c xi c.states (length c.offsets) (length c.bounds) (length c.bounds) j e →
    Runs (kinds c sizes) e (zero_statements Sum j) (Begins c xi c.states (length c.offsets) (length c.bounds) (length c.bounds) (suc j))
sum_runs c sizes xi j e b =
    runs_one (kinds c sizes) e _ (pos 0) (Begins c xi c.states (length c.offsets) (length c.bounds) (length c.bounds) (suc j)) (omega arith) refl (zero_fits (sizes.sum j))
    (record { state = b.state; inputs = b.inputs; entries = b.entries; rows = b.rows; multipliers = b.multipliers; sums = put (e Sum) (λ k. pos 0) j _ refl b.sums })

-- ---- all
pub before_runs : (c : Numbers) (sizes : Sizes) (xi : List ℤ) → Ready c (loaded c xi) →
    Runs (kinds c sizes) (begun xi) (before_of c) (Begins c xi c.states (length c.offsets) (length c.bounds) (length c.bounds) (length c.offsets))
before_runs c sizes xi r =
    let n = c.states in
    let p = length c.offsets in
    let m = length c.bounds in
    let one = loads_begin c sizes xi r in
    let two = runs_append (kinds c sizes) (begun xi) _ (groups (entry_base_statements c) p) (Begins c xi n 0 0 0 0) (Begins c xi n p 0 0 0) one
    (λ e b. runs_groups (kinds c sizes) (entry_base_statements c) (λ k. Begins c xi n k 0 0 0) p e b (λ k t l h. entry_base_runs c sizes xi k t r l h)) in
    let three = runs_append (kinds c sizes) (begun xi) _ (groups (row_base_statements c) m) (Begins c xi n p 0 0 0) (Begins c xi n p m 0 0) two
    (λ e b. runs_groups (kinds c sizes) (row_base_statements c) (λ k. Begins c xi n p k 0 0) m e b (λ k t l h. row_base_runs c sizes xi k t r l h)) in
    let four = runs_append (kinds c sizes) (begun xi) _ (groups (zero_statements Multiplier) m) (Begins c xi n p m 0 0) (Begins c xi n p m m 0) three
    (λ e b. runs_groups (kinds c sizes) (zero_statements Multiplier) (λ k. Begins c xi n p m k 0) m e b (λ k t l h. multiplier_runs c sizes xi k t h)) in
    runs_append (kinds c sizes) (begun xi) _ (groups (zero_statements Sum) p) (Begins c xi n p m m 0) (Begins c xi n p m m p) four
    (λ e b. runs_groups (kinds c sizes) (zero_statements Sum) (λ k. Begins c xi n p m m k) p e b (λ k t l h. sum_runs c sizes xi k t h))

-- ---- what the accelerated machine has behind them
-- what is held before stays as it is meanwhile
pub record StaysAtStart (F : Environment → Type 0) : Type 0 where
  pub own : (e : Environment) (i : ℕ) (z : ℤ) → F e → F (with_value e (variable Own i) z)
  pub reached : (e : Environment) (i : ℕ) (z : ℤ) → F e → F (with_value e (variable Reached i) z)
  pub weight : (e : Environment) (k : ℕ) (z : ℤ) → F e → F (with_value e (variable Weight k) z)
  pub shift : (e : Environment) (k : ℕ) (z : ℤ) → F e → F (with_value e (variable Shift k) z)
  pub power : (e : Environment) (k : ℕ) (z : ℤ) → F e → F (with_value e (variable Power k) z)

-- so many zeros of either family
pub record FastBegins (c : Numbers) (F : Environment → Type 0) (f g : ℕ) (e : Environment) : Type 0 where
  pub before : F e
  pub own : (i : ℕ) → i < f → e Own i ≡ pos 0
  pub reached : (i : ℕ) → i < g → e Reached i ≡ pos 0

own_runs : (c : Numbers) (sizes : Sizes) (F : Environment → Type 0) (i : ℕ) (e : Environment) → StaysAtStart F → FastBegins c F i 0 e →
    Runs (kinds c sizes) e (zero_statements Own i) (FastBegins c F (suc i) 0)
own_runs c sizes F i e stays b =
    runs_one (kinds c sizes) e _ (pos 0) (FastBegins c F (suc i) 0) (omega arith) refl (zero_fits (sizes.own i))
    (record { before = stays.own e i (pos 0) b.before; own = put (e Own) (λ k. pos 0) i _ refl b.own; reached = b.reached })

reached_runs : (c : Numbers) (sizes : Sizes) (F : Environment → Type 0) (i : ℕ) (e : Environment) → StaysAtStart F → FastBegins c F (length c.bounds) i e →
    Runs (kinds c sizes) e (zero_statements Reached i) (FastBegins c F (length c.bounds) (suc i))
reached_runs c sizes F i e stays b =
    runs_one (kinds c sizes) e _ (pos 0) (FastBegins c F (length c.bounds) (suc i)) (omega arith) refl (zero_fits sizes.reached)
    (record { before = stays.reached e i (pos 0) b.before; own = b.own; reached = put (e Reached) (λ k. pos 0) i _ refl b.reached })

-- the first step's weight, and the scale of its divisor
pub record FastBegun (c : Numbers) (F : Environment → Type 0) (e : Environment) : Type 0 where
  pub begun : FastBegins c F (length c.bounds) (length c.bounds) e
  pub weight : e Weight 0 ≡ pos 2
  pub scale : has_short_divisor c ≡ true → (e Shift 0 ≡ pos 1) × (e Power 0 ≡ pos (2 ^ 33))

first_scale_runs : (c : Numbers) (sizes : Sizes) (F : Environment → Type 0) (e : Environment) → StaysAtStart F → FastBegins c F (length c.bounds) (length c.bounds) e → e Weight 0 ≡ pos 2 →
    Runs (kinds c sizes) e (first_scale c) (FastBegun c F)
first_scale_runs c sizes F e stays b weight =
    let kind = kinds c sizes in
    let P = FastBegun c F in
    cond_both (has_short_divisor c) first_scale_lines [] (λ ss. Runs kind e ss P)
    (λ t.
    let e1 = with_value e (variable Shift 0) (pos 1) in
    runs_next kind e _ _ (pos 1) P (omega arith) refl (fits_width 32 (pos 1) (omega arith))
    (runs_one kind e1 _ (pos (2 ^ 33)) P (omega arith) refl (fits64 (pos (2 ^ 33)) (omega arith))
    (record {
      begun = record { before = stays.power e1 0 (pos (2 ^ 33)) (stays.shift e 0 (pos 1) b.before); own = b.own; reached = b.reached };
      weight = weight;
      scale = λ t. (refl, refl);
    })))
    (λ f. runs_none kind e P (record { begun = b; weight = weight; scale = λ t. absurd (both_ways (has_short_divisor c) f t) }))

pub start_runs : (c : Numbers) (sizes : Sizes) (F : Environment → Type 0) (e : Environment) → StaysAtStart F → F e → Runs (kinds c sizes) e (start_for Accelerated c) (FastBegun c F)
start_runs c sizes F e stays h =
    let m = length c.bounds in
    let kind = kinds c sizes in
    let own = groups (zero_statements Own) m in
    let reached = groups (zero_statements Reached) m in
    let none : FastBegins c F 0 0 e = record { before = h; own = λ k l. absurd (omega (arith, l)); reached = λ k l. absurd (omega (arith, l)) } in
    let one = runs_groups kind (zero_statements Own) (λ k. FastBegins c F k 0) m e none (λ k t l b. own_runs c sizes F k t stays b) in
    let two = runs_append kind e own reached (FastBegins c F m 0) (FastBegins c F m m) one
    (λ d b. runs_groups kind (zero_statements Reached) (λ k. FastBegins c F m k) m d b (λ k t l b. reached_runs c sizes F k t stays b)) in
    let W = λ (d : Environment). FastBegins c F m m d × (d Weight 0 ≡ pos 2) in
    let three = runs_append kind e (own ++ reached) (first_weight ∷ []) (FastBegins c F m m) W two (λ d b.
    runs_one kind d first_weight (pos 2) W (omega arith) refl (fits_width 32 (pos 2) (omega arith)) (record { before = stays.weight d 0 (pos 2) b.before; own = b.own; reached = b.reached }, refl)) in
    runs_append kind e (own ++ reached ++ (first_weight ∷ [])) (first_scale c) W (FastBegun c F) three (λ d b. first_scale_runs c sizes F d stays b.0 b.1)

-- of the program that is in one part
abbrev pub AllBegun : Numbers → List ℤ → Environment → Type 0
AllBegun c xi = Begins c xi c.states (length c.offsets) (length c.bounds) (length c.bounds) (length c.offsets)

all_begun_stays : (c : Numbers) (xi : List ℤ) → StaysAtStart (AllBegun c xi)
all_begun_stays c xi = record {
  own = λ e i z h. record { state = h.state; inputs = h.inputs; entries = h.entries; rows = h.rows; multipliers = h.multipliers; sums = h.sums };
  reached = λ e i z h. record { state = h.state; inputs = h.inputs; entries = h.entries; rows = h.rows; multipliers = h.multipliers; sums = h.sums };
  weight = λ e i z h. record { state = h.state; inputs = h.inputs; entries = h.entries; rows = h.rows; multipliers = h.multipliers; sums = h.sums };
  shift = λ e i z h. record { state = h.state; inputs = h.inputs; entries = h.entries; rows = h.rows; multipliers = h.multipliers; sums = h.sums };
  power = λ e i z h. record { state = h.state; inputs = h.inputs; entries = h.entries; rows = h.rows; multipliers = h.multipliers; sums = h.sums };
}

pub fast_before_runs : (c : Numbers) (sizes : Sizes) (xi : List ℤ) → Ready c (loaded c xi) → Runs (kinds c sizes) (begun xi) (fast_before_of c) (FastBegun c (AllBegun c xi))
fast_before_runs c sizes xi r =
    let P = FastBegun c (AllBegun c xi) in
    subst (λ (ss : List Statement). Runs (kinds c sizes) (begun xi) ss P) (sym (before_is Accelerated c))
    (runs_append (kinds c sizes) (begun xi) (before_of c) (start_for Accelerated c) (AllBegun c xi) P (before_runs c sizes xi r)
    (λ e b. start_runs c sizes (AllBegun c xi) e (all_begun_stays c xi) b))
