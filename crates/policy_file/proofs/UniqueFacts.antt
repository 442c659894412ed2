-- A text is right in one way, or has one first fault.
use Rattle.std.proofs.Common.{◌≡◌, ◌≢◌, ◌⊎◌, ℕ, suc, ◌+◌, ◌-◌, ◌<◌, ◌≤◌, ℤ, pos, List, [], ◌∷◌, ◌++◌, length, get_or, take, drop, Result, Ok, Err, refl, sym, ap, ◌∙◌, arith, inl, inr, false, true, Bool, neg_ℤ, ◌^◌, if◌then◌else◌}
use Rattle.std.specs.Prelude.{IfOk, IfErr, MatchResult}
use Rattle.std.specs.Str.Parse.{digits_value}
use Rattle.std.specs.Int.{IsInRange}
use Rattle.std.proofs.lemmas.Bool.{cases_lt}
use Rattle.std.proofs.lemmas.List.{ext_get_or, take_at, drop_at, get_or-append-add, get_or_append_left, get_or_default, length-append}
use Rattle.std.proofs.lemmas.Int.{ints}
use Rattle.integer_algebra.specs.Sums.{at}
use Rattle.mat_int.specs.Matrix.{Matrix, row_of}
use Rattle.number_text.specs.declared.text_fault.TextFault.{TextFault}
use Rattle.number_text.specs.declared.text_fault.TextFault.TheVariants.{NotToml, Key, Shape, Range, Fields, Number, Count, Memory}
use Rattle.qp_model.specs.problem.Design.{Design, entries}
use Rattle.qp_model.specs.problem.Policy.{Plans, plans_of, IsPlanNumerator, IsPolicyFor}
use Rattle.qp_model.specs.declared.policy.Policy.{Policy}
use Rattle.policy_file.specs.NumberField.{IsDigitsField, IsNumberField}
use Rattle.policy_file.specs.Records.{RecordRule, HoldsNumbers, IsFirstWrong, IsRecordFault, HoldUpTo, IsRecordsFault, records_of, record_at, field_of}
use Rattle.policy_file.specs.StatesText.{state_rule, IsStatesText, IsStatesFault}
use Rattle.policy_file.specs.PolicyText.{policy_rule, record_length, IsPolicyText, ArePlans, IsPlansFault}
use Rattle.policy_file.proofs.FieldFacts.{digits_end, each_digit, first_digit, no_space, number_part, signed_text}
use Rattle.policy_file.proofs.MatrixFacts.{same_matrix}

-- ---- a field
behind : (xs ys : List ℕ) → get_or (xs ++ ys) (length xs) 0 ≡ get_or ys 0 0
behind xs ys = ap (λ (k : ℕ). get_or (xs ++ ys) k 0) (omega arith) ∙ get_or-append-add xs ys 0 0

no_minus : (minus : Bool) (text : List ℕ) (n : ℕ) → IsDigitsField text n → minus ≡ false → get_or (signed_text minus text) 0 0 ≢ 45
no_minus true text n r e = absurd cc
no_minus false text n r e = λ h. omega (arith, first_digit text n r, h)

-- what ends digits is no digit
after_digits : (text : List ℕ) (n : ℕ) (r : IsDigitsField text n) → length r.digits < length text → IsInRange 48 57 (get_or text (length r.digits) 0) → ⊥
after_digits text n r l h = by l (rw r.split at h) r.split
  where
    by : length r.digits < length text → IsInRange 48 57 (get_or (r.digits ++ r.after) (length r.digits) 0) → text ≡ r.digits ++ r.after → ⊥
    by l h e =
        let some : 0 < length r.after = omega (arith, l, ap length e, length-append r.digits r.after) in
        let s = r.spaces 0 0 some in
        let first : get_or (r.digits ++ r.after) (length r.digits) 0 ≡ get_or r.after 0 0 = behind r.digits r.after in
        omega (arith, h, s, first)

same_digits : (text : List ℕ) (n m : ℕ) → IsDigitsField text n → IsDigitsField text m → n ≡ m
same_digits text n m r s = r.value ∙ ap (digits_value 10) same ∙ sym s.value
  where
    long : length s.digits ≡ length r.digits
    long = digits_end text n (length s.digits) r (omega (arith, ap length s.split, length-append s.digits s.after))
        (λ k l. rw (s.split, get_or_append_left s.digits s.after 0 k l) (each_digit s.digits s.each k 0 l))
        (after_digits text m s)

    same : r.digits ≡ s.digits
    same = sym (take_at r.digits r.after (length s.digits) (sym long)) ∙ ap (take (length s.digits)) (sym r.split ∙ s.split) ∙ take_at s.digits s.after (length s.digits) refl

pub same_number : (field : List ℕ) (z w : ℤ) → IsNumberField field z → IsNumberField field w → z ≡ w
same_number field z w r s = r.value ∙ rw (p.0, size) (sym s.value)
  where
    here : drop (length s.before) field ≡ signed_text s.minus s.text
    here = rw s.split (drop_at s.before (signed_text s.minus s.text) (length s.before) refl)

    p : (r.minus ≡ s.minus) × (r.text ≡ s.text)
    p = number_part field (signed_text s.minus s.text) s.text (length s.before) s.minus z r (sym here)
        (omega (arith, ap length s.split, length-append s.before (signed_text s.minus s.text)))
        (λ k l. rw (s.split, get_or_append_left s.before (signed_text s.minus s.text) 0 k l) (s.spaces k 0 l))
        (λ l h. no_space s.minus s.text s.size s.digits (sym (behind s.before (signed_text s.minus s.text)) ∙ ap (λ (x : List ℕ). get_or x (length s.before) 0) (sym s.split) ∙ h))
        refl (no_minus s.minus s.text s.size s.digits)

    size : r.size ≡ s.size
    size = same_digits s.text r.size s.size (rw (← p.1) r.digits) s.digits

-- ---- records
-- a rule that gives a field one number
unfoldable pub IsFunctional : RecordRule → Type 0
IsFunctional rule = (i : ℕ) (field : List ℕ) (z w : ℤ) → rule i field z → rule i field w → z ≡ w

pub same_numbers : (rule : RecordRule) (count : ℕ) (fields : List (List ℕ)) (zs ws : List ℤ) → IsFunctional rule → HoldsNumbers rule count fields zs → HoldsNumbers rule count fields ws → zs ≡ ws
unfolding IsFunctional
same_numbers rule count fields zs ws f h k = ext_get_or (pos 0) zs ws (h.numbers ∙ sym k.numbers)
    (λ i l. let m : i < count = omega (arith, h.numbers) in f i (field_of fields i) (at zs i) (at ws i) (h.each i m) (k.each i m))

pub wrong_or_right : (rule : RecordRule) (count e : ℕ) (fields : List (List ℕ)) (zs : List ℤ) (fault : TextFault) → IsRecordFault rule count e fields fault → HoldsNumbers rule count fields zs → ⊥
wrong_or_right rule count e fields zs (Fields entry) f h = f.1 h.width
wrong_or_right rule count e fields zs (Number entry field) f h = f.2.here (at zs (field - 1)) (h.each (field - 1) (omega (arith, f.2.low, f.2.high)))
wrong_or_right rule count e fields zs NotToml f h = f
wrong_or_right rule count e fields zs (Key place) f h = f
wrong_or_right rule count e fields zs (Shape place) f h = f
wrong_or_right rule count e fields zs (Range place) f h = f
wrong_or_right rule count e fields zs (Count entries) f h = f
wrong_or_right rule count e fields zs Memory f h = f

first_below : (rule : RecordRule) (count f g : ℕ) (fields : List (List ℕ)) → IsFirstWrong rule count fields f → IsFirstWrong rule count fields g → f ≤ g
first_below rule count f g fields h k = elim (cases_lt g f) [
  | inl l ↦ (let b = h.before (g - 1) (omega (arith, l, k.low)) in absurd (k.here b.0 b.1))
  | inr l ↦ l
]

pub same_record_fault : (rule : RecordRule) (count e : ℕ) (fields : List (List ℕ)) (f g : TextFault) → IsRecordFault rule count e fields f → IsRecordFault rule count e fields g → f ≡ g
same_record_fault rule count e fields (Fields a) (Fields b) h k = ap Fields (h.0 ∙ sym k.0)
same_record_fault rule count e fields (Fields a) (Number b j) h k = absurd (h.1 k.1)
same_record_fault rule count e fields (Fields a) _ h k = absurd k
same_record_fault rule count e fields (Number a i) (Fields b) h k = absurd (k.1 h.1)
same_record_fault rule count e fields (Number a i) (Number b j) h k =
    let low = first_below rule count i j fields h.2 k.2 in
    let high = first_below rule count j i fields k.2 h.2 in
    let place : i ≡ j = omega arith in
    let entry : a ≡ b = h.0 ∙ sym k.0 in
    rw (place, entry) refl
same_record_fault rule count e fields (Number a i) _ h k = absurd k
same_record_fault rule count e fields NotToml g h k = absurd h
same_record_fault rule count e fields (Key place) g h k = absurd h
same_record_fault rule count e fields (Shape place) g h k = absurd h
same_record_fault rule count e fields (Range place) g h k = absurd h
same_record_fault rule count e fields (Count entries) g h k = absurd h
same_record_fault rule count e fields Memory g h k = absurd h

pub held_or_wrong : (rule : RecordRule) (count known : ℕ) (rows : List (List (List ℕ))) (fault : TextFault) → length rows ≤ known → HoldUpTo rule count rows known → IsRecordsFault rule count rows fault → ⊥
held_or_wrong rule count known rows fault l h f =
    let z = h f.index (omega (arith, f.inside)) in
    wrong_or_right rule count (f.index + 1) (record_at rows f.index) z.0 fault f.here z.1

index_le : (rule : RecordRule) (count : ℕ) (rows : List (List (List ℕ))) (f g : TextFault) (h : IsRecordsFault rule count rows f) (k : IsRecordsFault rule count rows g) → h.index ≤ k.index
index_le rule count rows f g h k = elim (cases_lt k.index h.index) [
  | inl l ↦ (let z = h.before k.index l in absurd (wrong_or_right rule count (k.index + 1) (record_at rows k.index) z.0 g k.here z.1))
  | inr l ↦ l
]

pub same_first_fault : (rule : RecordRule) (count : ℕ) (rows : List (List (List ℕ))) (f g : TextFault) → IsRecordsFault rule count rows f → IsRecordsFault rule count rows g → f ≡ g
same_first_fault rule count rows f g h k =
    let low = index_le rule count rows f g h k in
    let high = index_le rule count rows g f k h in
    let e : k.index ≡ h.index = omega arith in
    same_record_fault rule count (h.index + 1) (record_at rows h.index) f g h.here (rw e at k.here)

-- ---- what was told
-- of two answers that exclude one another, each told right where it holds
pub both_ways : {A B : Type 0} (view : A → B) (r : Result A TextFault) (Right : B → Type 0) (Wrong : TextFault → Type 0) →
    IfOk r (λ a. Right (view a)) → IfErr r (λ e. (e ≡ Memory) ⊎ Wrong e) → ((b : B) (e : TextFault) → Right b → Wrong e → ⊥) → ((a b : B) → Right a → Right b → a ≡ b) →
    ((e f : TextFault) → Wrong e → Wrong f → e ≡ f) →
    ((b : B) → Right b → MatchResult r (λ m. view m ≡ b) (λ e. e ≡ Memory)) × ((e : TextFault) → Wrong e → MatchResult r (λ _. ⊥) (λ f. (f ≡ e) ⊎ (f ≡ Memory)))
both_ways view (Ok m) Right Wrong found fault not same one = ((λ a h. same (view m) a found h), (λ e w. not (view m) e found w))
both_ways view (Err f) Right Wrong found (inl memory) not same one = ((λ a h. memory), (λ e w. inr memory))
both_ways view (Err f) Right Wrong found (inr wrong) not same one = ((λ a h. absurd (not a f h wrong)), (λ e w. inl (one f e wrong w)))

-- ---- states
state_functional : IsFunctional state_rule
unfolding IsFunctional
state_functional i field z w h k = same_number field z w h k

states_not : (bytes : List ℕ) (n : ℕ) (m : Matrix) (e : TextFault) → IsStatesText bytes n m → IsStatesFault bytes n e → ⊥
states_not bytes n m e h k = held_or_wrong state_rule n (length (records_of bytes)) (records_of bytes) e (omega arith) (λ i l. (row_of m i, h.each i l)) k

states_same : (bytes : List ℕ) (n : ℕ) (a b : Matrix) → IsStatesText bytes n a → IsStatesText bytes n b → a ≡ b
states_same bytes n a b h k = same_matrix a b (h.cols ∙ sym k.cols) (h.rows ∙ sym k.rows)
    (λ e l. let m : e < length (records_of bytes) = omega (arith, h.rows) in
    same_numbers state_rule n (record_at (records_of bytes) e) (row_of a e) (row_of b e) state_functional (h.each e m) (k.each e m))

pub states_told : (bytes : List ℕ) (n : ℕ) (r : Result Matrix TextFault) → IfOk r (IsStatesText bytes n) → IfErr r (λ e. (e ≡ Memory) ⊎ IsStatesFault bytes n e) →
    ((a : Matrix) → IsStatesText bytes n a → MatchResult r (λ m. m ≡ a) (λ e. e ≡ Memory)) ×
    ((e : TextFault) → IsStatesFault bytes n e → MatchResult r (λ _. ⊥) (λ f. (f ≡ e) ⊎ (f ≡ Memory)))
states_told bytes n r found fault =
    both_ways (λ (m : Matrix). m) r (IsStatesText bytes n) (IsStatesFault bytes n) found fault (states_not bytes n) (states_same bytes n) (same_first_fault state_rule n (records_of bytes))

-- ---- policies
policy_functional : IsFunctional policy_rule
unfolding IsFunctional
policy_functional i field z w h k = same_number field z w h.0 k.0

plans_not : (bytes : List ℕ) (d : Design) (number : ℕ) (p : Plans) (e : TextFault) → ArePlans bytes d number p → IsPlansFault bytes d number e → ⊥
plans_not bytes d number p e h (inl f) = held_or_wrong policy_rule (record_length d) (number) (records_of bytes) e (omega (arith, h.records)) (λ i l. (at p.denominators i ∷ row_of p.numerators i, h.each i l)) f
plans_not bytes d number p e h (inr f) = f.here h.records

same_plans : (a b : Plans) → a.denominators ≡ b.denominators → a.numerators ≡ b.numerators → a ≡ b
same_plans a b d n = (λ i. record { denominators = d i; numerators = n i })

-- so many plans, each in the fields of a record
pub plans_by : (d : Design) (number : ℕ) (fields : ℕ → List (List ℕ)) (a b : Plans) → length a.denominators ≡ number → length b.denominators ≡ number →
    length a.numerators.rows ≡ number → length b.numerators.rows ≡ number → a.numerators.cols ≡ b.numerators.cols →
    ((e : ℕ) → e < number → HoldsNumbers policy_rule (record_length d) (fields e) (at a.denominators e ∷ row_of a.numerators e)) →
    ((e : ℕ) → e < number → HoldsNumbers policy_rule (record_length d) (fields e) (at b.denominators e ∷ row_of b.numerators e)) → a ≡ b
plans_by d number fields a b long other rows others cols h k = same_plans a b
    (ext_get_or (pos 0) a.denominators b.denominators (long ∙ sym other) (λ e l. ap (λ (zs : List ℤ). at zs 0) (both e (rw (← long) l))))
    (same_matrix a.numerators b.numerators cols (rows ∙ sym others) (λ e l. ap (drop 1) (both e (rw (← rows) l))))
  where
    both : (e : ℕ) → e < number → at a.denominators e ∷ row_of a.numerators e ≡ at b.denominators e ∷ row_of b.numerators e
    both e m = same_numbers policy_rule (record_length d) (fields e) _ _ policy_functional (h e m) (k e m)

plans_same : (bytes : List ℕ) (d : Design) (number : ℕ) (a b : Plans) → ArePlans bytes d number a → ArePlans bytes d number b → a ≡ b
plans_same bytes d number a b h k = plans_by d number (record_at (records_of bytes)) a b h.count k.count h.rows k.rows (h.cols ∙ sym k.cols) h.each k.each

pub plans_one : (bytes : List ℕ) (d : Design) (number : ℕ) (e f : TextFault) → IsPlansFault bytes d number e → IsPlansFault bytes d number f → e ≡ f
plans_one bytes d number e f (inl h) (inl k) = same_first_fault policy_rule (record_length d) (records_of bytes) e f h k
plans_one bytes d number e f (inl h) (inr k) = absurd (held_or_wrong policy_rule (record_length d) (length (records_of bytes)) (records_of bytes) e (omega arith) k.each h)
plans_one bytes d number e f (inr h) (inl k) = absurd (held_or_wrong policy_rule (record_length d) (length (records_of bytes)) (records_of bytes) f (omega arith) h.each k)
plans_one bytes d number e f (inr h) (inr k) = h.told ∙ sym k.told

pub plans_told : (bytes : List ℕ) (d : Design) (number : ℕ) (r : Result Policy TextFault) → IfOk r (λ p. ArePlans bytes d number (plans_of p)) → IfErr r (λ e. (e ≡ Memory) ⊎ IsPlansFault bytes d number e) →
    ((a : Plans) → ArePlans bytes d number a → MatchResult r (λ p. plans_of p ≡ a) (λ e. e ≡ Memory)) ×
    ((e : TextFault) → IsPlansFault bytes d number e → MatchResult r (λ _. ⊥) (λ f. (f ≡ e) ⊎ (f ≡ Memory)))
plans_told bytes d number r found fault =
    both_ways plans_of r (ArePlans bytes d number) (IsPlansFault bytes d number) found fault (plans_not bytes d number) (plans_same bytes d number) (plans_one bytes d number)

-- the text of a policy has its sizes and ranges
field_range : (field : List ℕ) (z : ℤ) → IsNumberField field z → IsPlanNumerator z
field_range field z r = rw r.value (sized r.minus r.size (omega (arith, r.digits.small)))
  where
    sized : (m : Bool) (n : ℕ) → n ≤ 2 ^ 63 - 1 → IsPlanNumerator (if m then neg_ℤ (pos n) else pos n)
    sized true n l = omega (arith, ints)
    sized false n l = l

-- a plan for each corner, each in the fields of a record
pub sized_by : (d : Design) (p : Plans) (fields : ℕ → List (List ℕ)) → length p.denominators ≡ 2 ^ d.states → length p.numerators.rows ≡ 2 ^ d.states → p.numerators.cols ≡ entries d →
    ((e : ℕ) → e < 2 ^ d.states → HoldsNumbers policy_rule (record_length d) (fields e) (at p.denominators e ∷ row_of p.numerators e)) → IsPolicyFor d p
sized_by d p fields count rows cols each = record {
  count = count;
  denominators = λ e z l. (let m : e < 2 ^ d.states = omega (arith, count) in rw (get_or_default p.denominators e z (pos 0) l) (((each e m).each 0 (omega arith)).1 refl));
  rows = rows;
  cols = cols;
  regular = λ e row l. (let m : e < 2 ^ d.states = omega (arith, rows) in rw (get_or_default p.numerators.rows e row [] l) (omega (arith, (each e m).numbers)));
  numerators = λ e row l i z k. (
      let m : e < 2 ^ d.states = omega (arith, rows) in
      let r : get_or p.numerators.rows e row ≡ row_of p.numerators e = get_or_default p.numerators.rows e row [] l in
      let o : i < length (row_of p.numerators e) = rw (← r) k in
      rw (r, get_or_default (row_of p.numerators e) i z (pos 0) o)
      (field_range _ _ ((each e m).each (suc i) (omega (arith, o, (each e m).numbers))).0)
      );
}

policy_sized : (bytes : List ℕ) (d : Design) (p : Plans) → IsPolicyText bytes d p → IsPolicyFor d p
policy_sized bytes d p h = sized_by d p (record_at (records_of bytes)) h.count h.rows h.cols h.each

pub policy_all_sized : (bytes : List ℕ) (d : Design) (r : Result Policy TextFault) → IfOk r (λ p. IsPolicyText bytes d (plans_of p)) → IfOk r (λ p. IsPolicyFor d (plans_of p))
policy_all_sized bytes d (Ok p) h = policy_sized bytes d (plans_of p) h
policy_all_sized bytes d (Err e) h = tt
