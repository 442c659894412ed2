-- The fields of a record, one by one.
use Rattle.std.proofs.Common.{◌≡◌, ℕ, zero, suc, ◌+◌, ◌*◌, ◌<◌, ◌≤◌, ◌^◌, Bool, true, false, ℤ, pos, List, [], ◌∷◌, ◌++◌, length, Some, if◌then◌else◌, refl, ap, subst, ◌∙◌, arith, below_more, length-append}
use Rattle.std.proofs.lemmas.List.Sums.{sum_by-cons}
use Rattle.std.proofs.lemmas.List.{length_push, get_or_append_left, get_or_push}
use Rattle.integer_algebra.specs.Sums.{at}
use Rattle.csv.specs.Records.{field_at}
use Rattle.policy_file.specs.NumberField.{IsNumberField}
use Rattle.policy_file.specs.Records.{RecordRule, IsFirstWrong, field_of, field_room}
use Rattle.policy_file.specs.Layout.{rule_of}
use Rattle.policy_file.specs.declared.record.Layout.{Layout}
use Rattle.policy_file.proofs.RuleFacts.{rule_number}

-- a field that is there
pub field_is : (fs : List (List ℕ)) (i : ℕ) → i < length fs → field_at fs i ≡ Some (field_of fs i)
unfolding field_at
field_is [] i l = absurd (omega arith)
field_is (f ∷ fs) zero l = refl
field_is (f ∷ fs) (suc i) l = field_is fs i (omega arith)

pub number_some : (field : List ℕ) (z : ℤ) → IsNumberField field z → 1 ≤ length field
number_some field z r = by r.minus r.split
  where
    long : 1 ≤ length r.text
    long = let e = ap length r.digits.split in omega (arith, r.digits.some, length-append r.digits.digits r.digits.after, e)

    by : (m : Bool) → field ≡ r.before ++ (if m then 45 ∷ r.text else r.text) → 1 ≤ length field
    by true e = let n = ap length e in omega (arith, n, length-append r.before (45 ∷ r.text))
    by false e = let n = ap length e in omega (arith, n, long, length-append r.before r.text)

-- fields that hold something leave room for their number only
place_room : (fs : List (List ℕ)) (i : ℕ) → i < length fs → ((j : ℕ) → j < i → 1 ≤ length (field_of fs j)) → 2 * i + 1 ≤ field_room fs
place_room [] i l h = absurd (omega arith)
place_room (f ∷ fs) zero l h = omega (arith, sum_by-cons (λ (g : List ℕ). length g + 1) f fs)
place_room (f ∷ fs) (suc i) l h = omega (arith, sum_by-cons (λ (g : List ℕ). length g + 1) f fs, place_room fs i (omega arith) (λ j m. h (suc j) (omega arith)), h 0 (omega arith))

pub place_small : (layout : Layout) (fs : List (List ℕ)) (zs : List ℤ) (i : ℕ) → i < length fs → field_room fs ≤ 2 ^ 32 →
    ((j : ℕ) → j < i → rule_of layout j (field_of fs j) (at zs j)) → i + 1 < 2 ^ 32
place_small layout fs zs i l room h =
    omega (arith, place_room fs i l (λ j m. number_some (field_of fs j) (at zs j) (rule_number layout j (field_of fs j) (at zs j) (h j m))))

-- the first wrong field
pub first_wrong : (rule : RecordRule) (count i : ℕ) (fs : List (List ℕ)) (field : List ℕ) (zs : List ℤ) → i < count → Some field ≡ field_at fs i → length fs ≡ count →
    ((j : ℕ) → j < i → rule j (field_of fs j) (at zs j)) → ((z : ℤ) → rule i field z → ⊥) → IsFirstWrong rule count fs (i + 1)
first_wrong rule count i fs field zs l e n h wrong = record {
  low = omega arith;
  high = omega arith;
  before = λ j m. (at zs j, h j (omega arith));
  here = subst (λ (k : ℕ). (z : ℤ) → rule k (field_of fs k) z → ⊥) (omega arith) (subst (λ (f : List ℕ). (z : ℤ) → rule i f z → ⊥) same wrong);
}
  where
    both : Some field ≡ Some (field_of fs i)
    both = e ∙ field_is fs i (omega arith)

    same : field ≡ field_of fs i
    same = cc both

-- one more number
pub record Known (rule : RecordRule) (fs : List (List ℕ)) (zs : List ℤ) (i : ℕ) : Type 0 where
  pub long : length zs ≡ i
  pub each : (j : ℕ) → j < i → rule j (field_of fs j) (at zs j)

pub known_more : (rule : RecordRule) (fs : List (List ℕ)) (field : List ℕ) (zs new : List ℤ) (z : ℤ) (i : ℕ) → new ≡ zs ++ z ∷ [] → i < length fs → Some field ≡ field_at fs i → rule i field z →
    length zs ≡ i → ((j : ℕ) → j < i → rule j (field_of fs j) (at zs j)) → Known rule fs new (i + 1)
known_more rule fs field zs new z i e l f r long each = rw e (record {
  long = length_push zs z ∙ ap (λ (n : ℕ). n + 1) long;
  each = below_more _ _ (λ j m. rw (get_or_append_left zs (z ∷ []) (pos 0) j (omega (arith, long))) (each j m))
      (rw (get_or_push zs z (pos 0) i long, ← same) r);
})
  where
    both : Some field ≡ Some (field_of fs i)
    both = f ∙ field_is fs i l

    same : field ≡ field_of fs i
    same = cc both
