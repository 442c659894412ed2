-- The numbers of a controller's listing are a listing's.
use Rattle.std.proofs.Common.{◌≡◌, ℕ, zero, suc, ◌+◌, ◌-◌, ◌*◌, ◌^◌, ◌<◌, ◌≤◌, ℤ, pos, negsuc, neg_ℤ, List, [], ◌∷◌, ◌++◌, length, unsigned_abs, refl, arith}
use Rattle.std.specs.Prelude.{All}
use Rattle.std.proofs.lemmas.Int.{ints}
use Rattle.std.proofs.lemmas.Nat.{pow_pos, pow_below, mul-le}
use Rattle.std.proofs.lemmas.List.{length-append}
use Rattle.std.proofs.lemmas.List.Elements.{All-nil, All-cons, All-append}
use Rattle.integer_algebra.specs.Sums.{at}
use Rattle.mat_int.specs.Matrix.{Matrix, row_of}
use Rattle.qp_model.specs.machine.Controller.{Numbers, plan_length, IsSized, HasShape}
use Rattle.qp_model.specs.machine.Machine.{lowering_of, top_of, average_denominator}
use Rattle.qp_model.specs.machine.AbsoluteSums.{IsController}
use Rattle.mac_listing.specs.declared.instruction.Op.{Op}
use Rattle.mac_listing.specs.declared.instruction.Op.TheVariants.{Clear, Load, Store, Mac, Con, AddM, Shl, Shr, Neg, Low, Cap}
use Rattle.mac_listing.specs.Body.{multiplier_address, plan_address, sum_address, groups, product_op, row_ops, unshifted, entry_ops, multiplier_ops, sum_ops, body_of}
use Rattle.mac_listing.specs.Listing.{IsOp, IsListing, listing_of}
use Rattle.mac_listing.proofs.Groups.{groups_all, groups_length}
use Rattle.mac_listing.proofs.Lengths.{length_law, nothing}
use Rattle.qp_model.proofs.AbsoluteLaws.{le_times_pow}
use Rattle.overflow_check.proofs.SumLaws.{sums_fit}
use Rattle.overflow_check.proofs.Sizes.{entries_le, rows_le}
use Rattle.qp_model.proofs.VersionLaws.{states_le, limits_le}

-- ---- instructions
-- each keeps within so many words
pub record AreOps (words : ℕ) (ops : List Op) : Type 0 where
  pub each : All (IsOp words) ops

op_then : (words : ℕ) (op : Op) (ops : List Op) → IsOp words op → AreOps words ops → AreOps words (op ∷ ops)
op_then words op ops a b = record { each = All-cons (IsOp words) op ops a b.each }

no_ops : (words : ℕ) → AreOps words []
no_ops words = record { each = All-nil (IsOp words) }

then_ops : (words : ℕ) (xs ys : List Op) → AreOps words xs → AreOps words ys → AreOps words (xs ++ ys)
then_ops words xs ys a b = record { each = All-append (IsOp words) xs ys a.each b.each }

groups_are : (words : ℕ) (f : ℕ → List Op) (n : ℕ) → ((j : ℕ) → j < n → AreOps words (f j)) → AreOps words (groups f n)
groups_are words f n h = record { each = groups_all (IsOp words) f n (λ j l. (h j l).each) }

product_is : (words a k : ℕ) (c : ℤ) → a < words → k ≤ 126 → AreOps words (product_op a c k)
product_is words a k (pos zero) h l = no_ops words
product_is words a k (pos (suc n)) h l = op_then words (Mac a (pos (suc n)) k) [] (h, l) (no_ops words)
product_is words a k (negsuc n) h l = op_then words (Mac a (negsuc n) k) [] (h, l) (no_ops words)

row_is : (words first : ℕ) (row : List ℤ) (shift : ℕ → ℕ) → first + length row ≤ words → ((i : ℕ) → shift i ≤ 126) → AreOps words (row_ops first row shift)
row_is words first row shift h l =
    groups_are words (λ i. product_op (first + i) (at row i) (shift i)) (length row) (λ i m. product_is words (first + i) (shift i) (at row i) (omega (arith, h, m)) (l i))

row_long : (a : Matrix) (height breadth i : ℕ) → HasShape a height breadth → i < height → length (row_of a i) ≡ breadth
row_long a height breadth i h l = h.each i [] (omega (arith, h.rows, l))

entry_is : (c : Numbers) (j : ℕ) → IsSized c → j < length c.offsets → AreOps c.words (entry_ops c j)
entry_is c j s l =
    let inside : j < plan_length c = omega (arith, l, s.shaped.offsets) in
    let own = row_is c.words 0 (row_of c.state_gains j) unshifted (omega (arith, row_long c.state_gains (plan_length c) c.states j s.shaped.state_gains inside, s.words)) (λ i. omega arith) in
    let dual = row_is c.words c.states (row_of c.dual_gains j) (lowering_of c) (omega (arith, row_long c.dual_gains (plan_length c) c.rows j s.shaped.dual_gains inside, s.words)) (λ i. omega (arith, s.step_exponent)) in
    then_ops c.words _ _ (then_ops c.words _ _
    (op_then c.words Clear _ tt own)
    (op_then c.words (Con (at c.offsets j) c.fraction_bits) _ (omega (arith, s.fraction_bits)) (op_then c.words (Shl c.step_exponent) _ (omega (arith, s.step_exponent)) dual)))
    (op_then c.words (Shr (c.fraction_bits + c.step_exponent)) _ (omega (arith, s.fraction_bits, s.step_exponent))
    (op_then c.words Neg _ tt (op_then c.words (Store (plan_address c j)) _ (omega (arith, inside, s.words)) (no_ops c.words))))

multiplier_is : (c : Numbers) (i : ℕ) → IsSized c → i < length c.bounds → AreOps c.words (multiplier_ops c i)
multiplier_is c i s l =
    let inside : i < c.rows = omega (arith, l, s.shaped.bounds) in
    let planned = row_is c.words (c.states + c.rows) (row_of c.plan_rows i) unshifted (omega (arith, row_long c.plan_rows c.rows (plan_length c) i s.shaped.plan_rows inside, s.words)) (λ j. omega arith) in
    let own = row_is c.words 0 (row_of c.state_rows i) unshifted (omega (arith, row_long c.state_rows c.rows c.states i s.shaped.state_rows inside, s.words)) (λ j. omega arith) in
    let here : multiplier_address c i < c.words = omega (arith, inside, s.words) in
    then_ops c.words _ _ (then_ops c.words _ _ (op_then c.words Clear _ tt planned) own)
    (op_then c.words (Con (neg_ℤ (at c.bounds i)) c.fraction_bits) _ (omega (arith, s.fraction_bits)) (op_then c.words (Shr c.fraction_bits) _ (omega (arith, s.fraction_bits))
    (op_then c.words (AddM (multiplier_address c i)) _ here (op_then c.words Low _ tt (op_then c.words (Cap (top_of c i)) _ tt
    (op_then c.words (Store (multiplier_address c i)) _ here (no_ops c.words)))))))

sum_is : (c : Numbers) (j : ℕ) → IsSized c → j < length c.offsets → AreOps c.words (sum_ops c j)
sum_is c j s l =
    let inside : j < plan_length c = omega (arith, l, s.shaped.offsets) in
    let here : sum_address c j < c.words = omega (arith, inside, s.words) in
    op_then c.words (Load (sum_address c j)) _ here (op_then c.words (AddM (plan_address c j)) _ (omega (arith, inside, s.words)) (op_then c.words (Store (sum_address c j)) _ here (no_ops c.words)))

body_is : (c : Numbers) → IsSized c → AreOps c.words (body_of c)
body_is c s =
    then_ops c.words _ _ (then_ops c.words _ _
    (groups_are c.words (entry_ops c) (length c.offsets) (λ j l. entry_is c j s l))
    (groups_are c.words (multiplier_ops c) (length c.bounds) (λ i l. multiplier_is c i s l)))
    (groups_are c.words (sum_ops c) (length c.offsets) (λ j l. sum_is c j s l))

-- ---- the count
-- there is a plan entry
entry_there : (c : Numbers) → IsSized c → 1 ≤ length c.offsets
entry_there c s = omega (arith, s.shaped.offsets, mul-le 1 1 c.inputs c.stages s.inputs.0 s.stages.0)

-- with the products that are left out there are at most these
full_le : (n m p : ℕ) → n ≤ 6 → m ≤ 372 → p ≤ 90 → p * (n + 2 * m + 9) + m * (n + 7) ≤ 73146
full_le n m p a b d = omega (arith, mul-le p (n + 2 * m + 9) 90 759 d (omega (arith, a, b)), mul-le m (n + 7) 372 13 b (omega (arith, a)))

pub body_short : (c : Numbers) → IsController c → length (body_of c) ≤ 73146
body_short c sound =
    let s = sound.form.sized in
    omega (arith, length_law c sound, full_le c.states c.rows (plan_length c) (states_le c s) (limits_le c s) (omega (arith, entries_le c s, s.shaped.offsets)))

-- a step has instructions, since there is a row
body_there : (c : Numbers) → IsController c → 1 ≤ length (body_of c)
body_there c sound =
    let s = sound.form.sized in
    let first = groups (entry_ops c) (length c.offsets) in
    let second = groups (multiplier_ops c) (length c.bounds) in
    let third = groups (sum_ops c) (length c.offsets) in
    let one : 3 * length c.offsets ≤ length third = omega (arith, groups_length (sum_ops c) (λ j. 0) 3 (length c.offsets) (λ j l. refl), nothing (length c.offsets)) in
    omega (arith, one, entry_there c s, length-append (first ++ second) third)

pub denominator_le : (k f : ℕ) → k ≤ 4194304 → f ≤ 48 → k * 2 ^ f ≤ 2 ^ 126
denominator_le k f a b = omega (arith, mul-le k (2 ^ f) 4194304 (2 ^ 49) a (omega (arith, pow_below f 49 (omega (arith, b)))))

denominator_there : (k f : ℕ) → 1 ≤ k → 1 ≤ k * 2 ^ f
denominator_there k f a = omega (arith, mul-le 1 1 k (2 ^ f) a (pow_pos f))

-- ---- a controller's numbers
-- a bound is at most 2^126
pub bound_below : (c : Numbers) (i : ℕ) → IsController c → i < length c.bounds → unsigned_abs (at c.bounds i) ≤ 2 ^ 126
bound_below c i sound l = omega (arith, (sums_fit c (2 ^ 126) sound.room).rows i l, le_times_pow (unsigned_abs (at c.bounds i)) c.fraction_bits)

-- ---- a controller's listing
pub listing_from : (c : Numbers) (low high : List ℤ) (outputs : ℕ) (denominator : ℤ) (body : List Op) → low ≡ c.low → high ≡ c.high → outputs ≡ plan_length c →
    denominator ≡ pos (average_denominator c) → body ≡ body_of c →
    record {
      width = c.width;
      states = c.states;
      shift = c.fraction_bits - c.grid_bits;
      low = low;
      high = high;
      words = c.words;
      first = c.states + c.rows + outputs;
      outputs = outputs;
      denominator = denominator;
      repetitions = c.steps;
      body = body;
    } ≡ listing_of c
listing_from c low high outputs denominator body a b d e f = rw (a, b, d, e, f) refl

pub listing_is : (c : Numbers) → IsController c → IsListing (listing_of c)
listing_is c sound =
    let s = sound.form.sized in
    record {
      width = sound.form.width;
      states = (s.states.0, states_le c s);
      shift = omega (arith, s.fraction_bits);
      low_long = s.shaped.low;
      high_long = s.shaped.high;
      low = s.low;
      high = s.high;
      box = s.box;
      words = (omega (arith, s.words), omega (arith, s.words, states_le c s, rows_le c s, s.shaped.bounds, entries_le c s, s.shaped.offsets));
      outputs = omega (arith, entry_there c s, s.shaped.offsets);
      inside = omega (arith, s.words);
      denominator_low = omega (arith, ints, denominator_there c.steps c.fraction_bits s.steps.0);
      denominator_high = omega (arith, ints, denominator_le c.steps c.fraction_bits s.steps.1 s.fraction_bits.1);
      repetitions = s.steps;
      instructions = (body_there c sound, omega (arith, body_short c sound));
      ops = (body_is c s).each;
    }
