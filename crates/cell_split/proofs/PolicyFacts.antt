-- The policies of all cells, which one text holds one after the other.
use Rattle.std.proofs.Common.{◌≡◌, ◌≢◌, ◌⊎◌, inl, inr, ℕ, zero, suc, ◌+◌, ◌-◌, ◌^◌, ◌<◌, ◌≤◌, Bool, true, false, ◌&&◌, if◌then◌else◌, List, [], ◌∷◌, ◌++◌, length, get_or, map, Vec, Option, Some, None, Result, Ok, Err, refl, sym, ap, subst, ◌∙◌, arith, below_more}
use Rattle.std.specs.Prelude.{All, IfOk, IfErr, IfSome, MatchResult, is_some, codes}
use Rattle.std.specs.Option.{option_len, option_map}
use Rattle.std.specs.Str.{bytes_eq}
use Rattle.std.specs.Cmp.Lexicographic.{bytes_decides}
use Rattle.std.specs.declared.alloc.Global.{Global}
use Rattle.std.proofs.lemmas.Bool.{cases_lt, cases_order}
use Rattle.std.proofs.lemmas.List.{get_or_append_left, get_or_push, length_push, ext_get_or, length-map, get_or-map, get_or_past}
use Rattle.std.proofs.lemmas.Nat.{pow_pos}
use Rattle.integer_algebra.specs.Sums.{at}
use Rattle.mat_int.specs.Matrix.{row_of}
use Rattle.number_text.specs.declared.text_fault.TextFault.{TextFault}
use Rattle.number_text.specs.declared.text_fault.TextFault.TheVariants.{Memory}
use Rattle.qp_model.specs.declared.policy.Policy.{Policy}
use Rattle.qp_model.specs.problem.Design.{Design}
use Rattle.qp_model.specs.problem.Policy.{Plans, plans_of, IsPolicyFor}
use Rattle.policy_file.specs.NumberField.{IsSpace, IsNumberField}
use Rattle.policy_file.specs.Records.{records_of, record_at, field_of}
use Rattle.policy_file.specs.PolicyText.{policy_rule, record_length}
use Rattle.policy_file.proofs.FieldFacts.{first_digit, signed_text}
use Rattle.policy_file.proofs.UniqueFacts.{both_ways, wrong_or_right, same_record_fault, plans_by, sized_by}
use Rattle.cell_split.specs.PoliciesText.{none_record, says_none, cell_start, covered, HoldPlans, HoldCell, HoldPolicies, ArePolicies, IsNoneOf, IsRight, IsPlanFault, IsSpanFault, IsPoliciesFault}
use Rattle.cell_split.specs.ReadCells.{IsLeftFault, IsCellAt, IsCellFault, HoldCells}

-- ---- what only rises
pub next : (k : ℕ) → k + 1 ≡ suc k
next k = omega arith

up_to : (f : ℕ → ℕ) → ((k : ℕ) → f k ≤ f (k + 1)) → (k j : ℕ) → k ≤ j → f k ≤ f j
up_to f more k zero l = let e : k ≡ 0 = omega (arith, l) in omega (arith, ap f e)
up_to f more k (suc j) l = elim (cases_lt j k) [
  | inl o ↦ (let e : k ≡ suc j = omega (arith, l, o) in omega (arith, ap f e))
  | inr o ↦ omega (arith, up_to f more k j o, more j, ap f (next j))
]

-- ---- how many cells have plans
pub none_covered : (policies : List (Option Plans)) → covered policies 0 ≡ 0
unfolding covered
none_covered policies = refl

pub covered_more : (policies : List (Option Plans)) (k : ℕ) → covered policies (k + 1) ≡ covered policies k + option_len (get_or policies k None)
unfolding covered
covered_more policies k = ap (covered policies) (next k)

pub covered_le : (policies : List (Option Plans)) (k j : ℕ) → k ≤ j → covered policies k ≤ covered policies j
covered_le policies k j l = up_to (covered policies) (λ i. omega (arith, covered_more policies i)) k j l

-- they are no more than the cells
pub covered_most : (policies : List (Option Plans)) (k : ℕ) → covered policies k ≤ k
covered_most policies zero = omega (arith, none_covered policies)
covered_most policies (suc k) = omega (arith, covered_most policies k, covered_more policies k, ap (covered policies) (next k), most (get_or policies k None))
  where
    most : (o : Option Plans) → option_len o ≤ 1
    most None = omega arith
    most (Some plans) = omega arith

-- the cell behind the first k, of which number k + 1 is said, adds itself
pub covered_next : (policies : List (Option Plans)) (k : ℕ) (o : Option Plans) → get_or policies (k + 1 - 1) None ≡ o → covered policies (suc k) ≡ covered policies k + option_len o
covered_next policies k o is =
    let back : k ≡ k + 1 - 1 = omega arith in
    ap (covered policies) (sym (next k)) ∙ covered_more policies k ∙ ap (λ (x : Option Plans). covered policies k + option_len x) (ap (λ (i : ℕ). get_or policies i None) back ∙ is)

pub covered_below : (policies : List (Option Plans)) (k j : ℕ) (plans : Plans) → k < j → get_or policies (k + 1 - 1) None ≡ Some plans → covered policies k < covered policies j
covered_below policies k j plans l is = omega (arith, covered_next policies k (Some plans) is, covered_le policies (suc k) j l)

-- a policy, seen among those of all cells
pub own_policy : (policies : List (Option Policy)) (o : Option Policy) (k : ℕ) → k < length policies → o ≡ get_or policies k o → get_or (map (option_map plans_of) policies) k None ≡ option_map plans_of o
own_policy policies o k l is = get_or-map (option_map plans_of) policies k o None l ∙ ap (option_map plans_of) (sym is)

pub one_covered : (policies : List (Option Policy)) (o : Option Policy) (k : ℕ) → k < length policies → o ≡ get_or policies k o → is_some o ≡ true →
    1 ≤ covered (map (option_map plans_of) policies) (length policies)
one_covered policies o k l is some =
    let ps = map (option_map plans_of) policies in
    omega (arith, covered_more ps k, ap option_len (own_policy policies o k l is), one o some, covered_le ps (k + 1) (length policies) (omega (arith, l)))
  where
    one : (o : Option Policy) → is_some o ≡ true → option_len (option_map plans_of o) ≡ 1
    one (Some p) some = refl
    one None some = absurd cc

pub still_none : (policies : List (Option Policy)) (o : Option Policy) (k : ℕ) → k < length policies → o ≡ get_or policies k o → is_some o ≡ false →
    covered (map (option_map plans_of) policies) k ≡ 0 → covered (map (option_map plans_of) policies) (k + 1) ≡ 0
still_none policies o k l is none so_far =
    let ps = map (option_map plans_of) policies in
    omega (arith, covered_more ps k, ap option_len (own_policy policies o k l is), no o none, so_far)
  where
    no : (o : Option Policy) → is_some o ≡ false → option_len (option_map plans_of o) ≡ 0
    no (Some p) none = absurd cc
    no None none = refl

-- ---- the record that says `none`
pub says_it : (fields : List (List ℕ)) → fields ≡ none_record → says_none fields ≡ true
says_it fields e = rw e refl

is_said : (fields : List (List ℕ)) → says_none fields ≡ true → fields ≡ none_record
is_said [] e = absurd cc
is_said (f ∷ []) e = ap (λ (g : List ℕ). g ∷ []) ((bytes_decides f (codes "none")).0 (first (bytes_eq f (codes "none")) e))
  where
    first : (b : Bool) → (b && true) ≡ true → b ≡ true
    first true e = refl
    first false e = absurd cc
is_said (f ∷ g ∷ fs) e = absurd (never (bytes_eq f (codes "none")) e)
  where
    never : (b : Bool) → (b && false) ≡ true → ⊥
    never true e = cc
    never false e = cc

-- of one field
pub says_by : (fields : List (List ℕ)) (b : Bool) → length fields ≡ 1 → b ≡ bytes_eq (field_of fields 0) (codes "none") → b ≡ says_none fields
says_by [] b one e = absurd (omega (arith, one))
says_by (f ∷ []) b one e = e ∙ sym (same (bytes_eq f (codes "none")))
  where
    same : (b : Bool) → (b && true) ≡ b
    same true = refl
    same false = refl
says_by (f ∷ g ∷ fs) b one e = absurd (omega (arith, one))

pub says_other : (fields : List (List ℕ)) → length fields ≢ 1 → false ≡ says_none fields
says_other [] n = refl
says_other (f ∷ []) n = absurd (n refl)
says_other (f ∷ g ∷ fs) n = sym (never (bytes_eq f (codes "none")))
  where
    never : (b : Bool) → (b && false) ≡ false
    never true = refl
    never false = refl

-- it says no number
no_number : (z : _) → IsNumberField (codes "none") z → ⊥
no_number z r = by r.before r.split r.spaces
  where
    at_first : (minus : Bool) → 110 ≡ get_or (signed_text minus r.text) 0 0 → ⊥
    at_first true h = omega (arith, h)
    at_first false h = omega (arith, h, first_digit r.text r.size r.digits)

    by : (before : List ℕ) → codes "none" ≡ before ++ signed_text r.minus r.text → All IsSpace before → ⊥
    by [] e s = at_first r.minus (ap (λ (xs : List ℕ). get_or xs 0 0) e)
    by (c ∷ before) e s =
        let first : 110 ≡ c = ap (λ (xs : List ℕ). get_or xs 0 0) e in
        omega (arith, first, s 0 0 (omega arith))

-- ---- where cells begin
span_some : (b : Bool) (n : ℕ) → 1 ≤ n → 1 ≤ (if b then 1 else n)
span_some true n l = omega arith
span_some false n l = l

module _ (rows : List (List (List ℕ))) (d : Design) where
  corners_some : 1 ≤ 2 ^ d.states
  corners_some = pow_pos d.states

  pub first_start : cell_start rows d 0 ≡ 0
  unfolding cell_start
  first_start = refl

  pub start_more : (k : ℕ) → cell_start rows d (k + 1) ≡ cell_start rows d k + (if says_none (record_at rows (cell_start rows d k)) then 1 else 2 ^ d.states)
  unfolding cell_start
  start_more k = ap (cell_start rows d) (next k)

  start_up : (k : ℕ) → cell_start rows d k < cell_start rows d (k + 1)
  start_up k = omega (arith, start_more k, span_some (says_none (record_at rows (cell_start rows d k))) (2 ^ d.states) corners_some)

  start_le : (k j : ℕ) → k ≤ j → cell_start rows d k ≤ cell_start rows d j
  start_le k j l = up_to (cell_start rows d) (λ i. omega (arith, start_up i)) k j l

  -- ---- the cell that begins at a record
  pub none_at : (start : ℕ) → true ≡ says_none (record_at rows start) → IsCellAt rows d start None (start + 1)
  none_at start says = record {
    hold = is_said (record_at rows start) (sym says);
    next = ap (λ (b : Bool). start + (if b then 1 else 2 ^ d.states)) says;
    inside = elim (cases_lt start (length rows)) [
      | inl l ↦ omega (arith, l)
      | inr l ↦ (let past = says ∙ ap says_none (get_or_past rows start [] l) in cc)
    ];
  }

  -- a cell with plans takes a record for each corner
  plain_more : (k : ℕ) → says_none (record_at rows (cell_start rows d k)) ≡ false → cell_start rows d (k + 1) ≡ cell_start rows d k + 2 ^ d.states
  plain_more k plain = start_more k ∙ ap (λ (b : Bool). cell_start rows d k + (if b then 1 else 2 ^ d.states)) plain

  -- one without takes one
  none_more : (k : ℕ) → record_at rows (cell_start rows d k) ≡ none_record → cell_start rows d (k + 1) ≡ cell_start rows d k + 1
  none_more k is = start_more k ∙ ap (λ (b : Bool). cell_start rows d k + (if b then 1 else 2 ^ d.states)) (says_it (record_at rows (cell_start rows d k)) is)

  most_more : (k : ℕ) → cell_start rows d (k + 1) ≤ cell_start rows d k + 2 ^ d.states
  most_more k = omega (arith, start_more k, most (says_none (record_at rows (cell_start rows d k))))
    where
      most : (b : Bool) → (if b then 1 else 2 ^ d.states) ≤ 2 ^ d.states
      most true = corners_some
      most false = omega arith

  -- no cell without plans begins among the records of another
  inside_plain : (cells k i : ℕ) → says_none (record_at rows (cell_start rows d k)) ≡ false → cell_start rows d k ≤ i → i < cell_start rows d k + 2 ^ d.states → IsNoneOf rows d cells i → ⊥
  inside_plain cells k i plain low high n = elim (cases_order n.cell k) [
    | inl same ↦ (
        let here : i ≡ cell_start rows d k = n.here ∙ ap (cell_start rows d) same in
        let says = says_it (record_at rows (cell_start rows d k)) (ap (record_at rows) (sym here) ∙ n.says) in
        cc)
    | inr (inl lower) ↦ omega (arith, n.here, low, start_up n.cell, start_le (n.cell + 1) k (omega (arith, lower)))
    | inr (inr higher) ↦ omega (arith, n.here, high, plain_more k plain, start_le (k + 1) n.cell (omega (arith, higher)))
  ]

  behind_plain : (cells i : ℕ) → cell_start rows d cells ≤ i → IsNoneOf rows d cells i → ⊥
  behind_plain cells i low n = omega (arith, n.here, low, start_up n.cell, start_le (n.cell + 1) cells (omega (arith, n.inside)))

  -- ---- the records of cells are right
  module _ (cells : ℕ) (policies : List (Option Plans)) where
    HoldFirst : ℕ → Type 0
    HoldFirst k = (j : ℕ) (o : Option Plans) → j < k → HoldCell rows d (cell_start rows d j) (get_or policies j o)

    right_here : (k e : ℕ) (o : Option Plans) → k < cells → cell_start rows d k ≤ e → e < cell_start rows d (k + 1) → HoldCell rows d (cell_start rows d k) o → IsRight rows d cells e
    right_here k e None inside low high says =
        let here : e ≡ cell_start rows d k = omega (arith, low, high, none_more k says) in
        inl (record { cell = k; inside = inside; here = here; says = ap (record_at rows) here ∙ says })
    right_here k e (Some p) inside low high plans =
        let place : cell_start rows d k + (e - cell_start rows d k) ≡ e = omega (arith, low) in
        inr (_, subst (λ (i : ℕ). HoldsPlan i (e - cell_start rows d k) p) place (plans.each (e - cell_start rows d k) (omega (arith, low, high, most_more k))))
      where
        HoldsPlan : ℕ → ℕ → Plans → Type 0
        HoldsPlan i j p = Rattle.policy_file.specs.Records.HoldsNumbers policy_rule (record_length d) (record_at rows i) (at p.denominators j ∷ row_of p.numerators j)

    right_to : (k : ℕ) → k ≤ cells → HoldFirst k → (e : ℕ) → e < cell_start rows d k → IsRight rows d cells e
    unfolding HoldFirst
    right_to zero inside h e lt = absurd (omega (arith, lt, first_start))
    right_to (suc k) inside h e lt = elim (cases_lt e (cell_start rows d k)) [
      | inl l ↦ right_to k (omega (arith, inside)) (λ j o m. h j o (omega (arith, m))) e l
      | inr l ↦ right_here k e (get_or policies k None) inside l (omega (arith, lt, ap (cell_start rows d) (next k))) (h k None (omega arith))
    ]

    -- ---- faults
    -- those of the cell that begins behind the first k
    left_fault : (k start : ℕ) (fault : TextFault) → ((e : ℕ) → e < start → IsRight rows d cells e) → ((i : ℕ) → start ≤ i → i < length rows → IsNoneOf rows d cells i → ⊥) → length rows ≢ cell_start rows d cells →
        IsLeftFault rows d start fault → IsPlanFault rows d cells fault ⊎ IsSpanFault rows d cells fault
    left_fault k start fault before plain other (inl wrong) = inl (record {
      index = wrong.index;
      inside = wrong.inside;
      before = λ e lt. elim (cases_lt e start) [ inl l ↦ before e l | inr l ↦ inr (wrong.before e l lt) ];
      plan = plain wrong.index wrong.low wrong.inside;
      here = wrong.here;
    })
    left_fault k start fault before plain other (inr all) = inr (record {
      each = λ e lt. elim (cases_lt e start) [ inl l ↦ before e l | inr l ↦ inr (all.each e l lt) ];
      here = other;
      told = all.told;
    })

    cell_fault : (k end : ℕ) (fault : TextFault) → k < cells → HoldCells rows d k policies end → IsCellFault rows d end fault → IsPlanFault rows d cells fault ⊎ IsSpanFault rows d cells fault
    unfolding HoldFirst
    cell_fault k end fault inside h f = by (subst (λ (i : ℕ). IsCellFault rows d i fault) h.end_is f)
      where
        start : ℕ
        start = cell_start rows d k

        before : (e : ℕ) → e < start → IsRight rows d cells e
        before = right_to k (omega (arith, inside)) (λ j o m. h.each j o m)

        by : IsCellFault rows d (cell_start rows d k) fault → IsPlanFault rows d cells fault ⊎ IsSpanFault rows d cells fault
        by f = elim f.why [
          | inl wrong ↦ inl (record {
            index = wrong.index;
            inside = wrong.inside;
            before = λ e lt. elim (cases_lt e (cell_start rows d k)) [ inl l ↦ before e l | inr l ↦ inr (wrong.before e l lt) ];
            plan = inside_plain cells k wrong.index f.plain wrong.low wrong.high;
            here = wrong.here;
          })
          | inr short ↦
              left_fault k (cell_start rows d k) fault before (λ i low high. inside_plain cells k i f.plain low (omega (arith, high, short.1)))
              (λ q. omega (arith, q, short.1, plain_more k f.plain, start_le (k + 1) cells (omega (arith, inside)))) short.0
        ]

    -- those of records behind the last cell
    pub behind_fault : (end : ℕ) (fault : TextFault) → HoldCells rows d cells policies end → end < length rows → IsLeftFault rows d end fault → IsPlanFault rows d cells fault ⊎ IsSpanFault rows d cells fault
    unfolding HoldFirst
    behind_fault end fault h some f =
        left_fault cells end fault (λ e lt. right_to cells (omega arith) (λ j o m. h.each j o m) e (omega (arith, lt, h.end_is)))
        (λ i low high. behind_plain cells i (omega (arith, low, h.end_is))) (λ q. omega (arith, q, some, h.end_is)) f

    -- ---- one cell after the other
    pub no_cell : (end : ℕ) → length policies ≡ 0 → end ≡ 0 → HoldCells rows d 0 policies end
    no_cell end none is = record { count = none; end_is = is ∙ sym first_start; inside = omega (arith, is); each = λ k o l. absurd (omega (arith, l)) }

    pub told_cell : (k end : ℕ) (fault : TextFault) → k < cells → HoldCells rows d k policies end → (fault ≡ Memory) ⊎ IsCellFault rows d end fault →
        (fault ≡ Memory) ⊎ (IsPlanFault rows d cells fault ⊎ IsSpanFault rows d cells fault)
    told_cell k end fault inside h (inl memory) = inl memory
    told_cell k end fault inside h (inr f) = inr (cell_fault k end fault inside h f)

    pub one_cell : (k start end : ℕ) (o : Option Plans) (more : List (Option Plans)) → more ≡ policies ++ o ∷ [] → IsCellAt rows d start o end → HoldCells rows d k policies start → HoldCells rows d (k + 1) more end
    one_cell k start end o more is here h = rw is (record {
      count = length_push policies o ∙ ap (λ (n : ℕ). n + 1) h.count;
      end_is = here.next ∙ ap (λ (i : ℕ). i + (if says_none (record_at rows i) then 1 else 2 ^ d.states)) h.end_is ∙ sym (start_more k);
      inside = here.inside;
      each = λ j x l. below_more (λ i. HoldCell rows d (cell_start rows d i) (get_or (policies ++ o ∷ []) i x)) k
          (λ i m. rw (get_or_append_left policies (o ∷ []) x i (omega (arith, m, h.count))) (h.each i x m))
          (rw (get_or_push policies o x k h.count, ← h.end_is) here.hold) j l;
    })

  -- ---- the records hold the policies of one list
  not_both : (start : ℕ) (a : Plans) → HoldPlans rows d start (2 ^ d.states) a → record_at rows start ≡ none_record → ⊥
  not_both start a h says = let same : start + 0 ≡ start = omega arith in no_number _ (rw (same, says) at ((h.each 0 corners_some).each 0 (omega arith)).0)

  cell_same : (start : ℕ) (a b : Option Plans) → HoldCell rows d start a → HoldCell rows d start b → a ≡ b
  cell_same start None None h k = refl
  cell_same start (Some a) (Some b) h k =
      ap Some (plans_by d (2 ^ d.states) (λ e. record_at rows (start + e)) a b h.count k.count h.numerators k.numerators (h.cols ∙ sym k.cols) h.each k.each)
  cell_same start (Some a) None h k = absurd (not_both start a h k)
  cell_same start None (Some b) h k = absurd (not_both start b k h)

  policies_same : (cells : ℕ) (a b : List (Option Plans)) → HoldPolicies rows d cells a → HoldPolicies rows d cells b → a ≡ b
  policies_same cells a b h k = ext_get_or None a b (h.count ∙ sym k.count)
      (λ i lt. let inside : i < cells = omega (arith, lt, h.count) in cell_same (cell_start rows d i) (get_or a i None) (get_or b i None) (h.each i None inside) (k.each i None inside))

  -- ---- or have one first fault
  all_right : (cells : ℕ) (a : List (Option Plans)) → HoldPolicies rows d cells a → (e : ℕ) → e < length rows → IsRight rows d cells e
  unfolding HoldFirst
  all_right cells a h e lt = right_to cells a cells (omega arith) (λ j o m. h.each j o m) e (omega (arith, lt, h.records))

  right_not : (cells : ℕ) (fault : TextFault) (f : IsPlanFault rows d cells fault) → IsRight rows d cells f.index → ⊥
  right_not cells fault f (inl none) = f.plan none
  right_not cells fault f (inr plan) = wrong_or_right policy_rule (record_length d) (f.index + 1) (record_at rows f.index) plan.0 fault f.here plan.1

  plan_fault_same : (cells : ℕ) (a b : TextFault) → IsPlanFault rows d cells a → IsPlanFault rows d cells b → a ≡ b
  plan_fault_same cells a b f g = elim (cases_order f.index g.index) [
    | inl same ↦ same_record_fault policy_rule (record_length d) (g.index + 1) (record_at rows g.index) a b (rw same at f.here) g.here
    | inr (inl o) ↦ absurd (right_not cells a f (g.before f.index o))
    | inr (inr o) ↦ absurd (right_not cells b g (f.before g.index o))
  ]

-- ---- the text
-- what was read of the records is said of the bytes
module _ (bytes : List ℕ) (d : Design) (cells : ℕ) (rows : List (List (List ℕ))) (e : rows ≡ records_of bytes) where
  pub cells_told : (fault : TextFault) → (fault ≡ Memory) ⊎ (IsPlanFault rows d cells fault ⊎ IsSpanFault rows d cells fault) → (fault ≡ Memory) ⊎ IsPoliciesFault bytes d cells fault
  cells_told fault (inl memory) = inl memory
  cells_told fault (inr (inl f)) = inr (inl (rw e at f))
  cells_told fault (inr (inr f)) = inr (inr (inl (rw e at f)))

  module _ (policies : List (Option Policy)) (end : ℕ) (h : HoldCells rows d cells (map (option_map plans_of) policies) end) where
    pub left_told : (fault : TextFault) → end < length rows → (fault ≡ Memory) ⊎ IsLeftFault rows d end fault → (fault ≡ Memory) ⊎ IsPoliciesFault bytes d cells fault
    left_told fault some (inl memory) = inl memory
    left_told fault some (inr f) = cells_told fault (inr (behind_fault rows d cells (map (option_map plans_of) policies) end fault h some f))

policies_not : (bytes : List ℕ) (d : Design) (cells : ℕ) (a : List (Option Plans)) (e : TextFault) → ArePolicies bytes d cells a → IsPoliciesFault bytes d cells e → ⊥
policies_not bytes d cells a e h (inl f) = right_not (records_of bytes) d cells e f (all_right (records_of bytes) d cells a h.hold f.index f.inside)
policies_not bytes d cells a e h (inr (inl f)) = f.here h.hold.records
policies_not bytes d cells a e h (inr (inr f)) =
    let same = ap (λ (ps : List (Option Plans)). covered ps cells) (policies_same (records_of bytes) d cells a f.policies h.hold f.hold) in
    omega (arith, same, f.none, h.some)

policies_one : (bytes : List ℕ) (d : Design) (cells : ℕ) (a b : TextFault) → IsPoliciesFault bytes d cells a → IsPoliciesFault bytes d cells b → a ≡ b
policies_one bytes d cells a b (inl f) (inl g) = plan_fault_same (records_of bytes) d cells a b f g
policies_one bytes d cells a b (inl f) (inr (inl g)) = absurd (right_not (records_of bytes) d cells a f (g.each f.index f.inside))
policies_one bytes d cells a b (inl f) (inr (inr g)) = absurd (right_not (records_of bytes) d cells a f (all_right (records_of bytes) d cells g.policies g.hold f.index f.inside))
policies_one bytes d cells a b (inr (inl f)) (inl g) = absurd (right_not (records_of bytes) d cells b g (f.each g.index g.inside))
policies_one bytes d cells a b (inr (inl f)) (inr (inl g)) = f.told ∙ sym g.told
policies_one bytes d cells a b (inr (inl f)) (inr (inr g)) = absurd (f.here g.hold.records)
policies_one bytes d cells a b (inr (inr f)) (inl g) = absurd (right_not (records_of bytes) d cells b g (all_right (records_of bytes) d cells f.policies f.hold g.index g.inside))
policies_one bytes d cells a b (inr (inr f)) (inr (inl g)) = absurd (g.here f.hold.records)
policies_one bytes d cells a b (inr (inr f)) (inr (inr g)) = f.told ∙ sym g.told

pub policies_told : (bytes : List ℕ) (d : Design) (cells : ℕ) (r : Result (Vec (Option Policy) Global) TextFault) → IfOk r (λ v. ArePolicies bytes d cells (map (option_map plans_of) v.items)) →
    IfErr r (λ e. (e ≡ Memory) ⊎ IsPoliciesFault bytes d cells e) →
    ((a : List (Option Plans)) → ArePolicies bytes d cells a → MatchResult r (λ v. map (option_map plans_of) v.items ≡ a) (λ e. e ≡ Memory)) ×
    ((e : TextFault) → IsPoliciesFault bytes d cells e → MatchResult r (λ _. ⊥) (λ f. (f ≡ e) ⊎ (f ≡ Memory)))
policies_told bytes d cells r found fault =
    both_ways (λ (v : Vec (Option Policy) Global). map (option_map plans_of) v.items) r (ArePolicies bytes d cells) (IsPoliciesFault bytes d cells) found fault (policies_not bytes d cells)
    (λ a b h k. policies_same (records_of bytes) d cells a b h.hold k.hold) (policies_one bytes d cells)

-- each is one for the design
policy_fits : (rows : List (List (List ℕ))) (d : Design) (start : ℕ) (o : Option Policy) → HoldCell rows d start (option_map plans_of o) → IfSome o (λ p. IsPolicyFor d (plans_of p))
policy_fits rows d start None h = tt
policy_fits rows d start (Some p) h = sized_by d (plans_of p) (λ e. record_at rows (start + e)) h.count h.numerators h.cols h.each

pub policies_fit : (bytes : List ℕ) (d : Design) (cells : ℕ) (r : Result (Vec (Option Policy) Global) TextFault) → IfOk r (λ v. ArePolicies bytes d cells (map (option_map plans_of) v.items)) →
    IfOk r (λ v. All (λ o. IfSome o (λ p. IsPolicyFor d (plans_of p))) v.items)
policies_fit bytes d cells (Ok v) h = λ k q lt.
    policy_fits (records_of bytes) d (cell_start (records_of bytes) d k) (get_or v.items k q)
    (subst (HoldCell (records_of bytes) d (cell_start (records_of bytes) d k)) (get_or-map (option_map plans_of) v.items k q (option_map plans_of q) lt)
    (h.hold.each k (option_map plans_of q) (omega (arith, lt, h.hold.count, length-map v.items (option_map plans_of)))))
policies_fit bytes d cells (Err e) h = tt
