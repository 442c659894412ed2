-- One packed number is read back.
use Rattle.std.proofs.Common.{◌≡◌, ℕ, zero, suc, ◌+◌, ◌-◌, ◌*◌, ◌/◌, ◌%◌, ◌^◌, ◌<◌, ◌≤◌, ℤ, pos, negsuc, List, [], ◌∷◌, ◌++◌, length, Bool, true, false, nat_lt, if◌then◌else◌, refl, arith}
use Rattle.std.specs.Prelude.{◌==◌, FitsSigned}
use Rattle.std.specs.Int.{w128}
use Rattle.std.proofs.lemmas.Bool.{ltb-true, lt-ltb, le-ltb}
use Rattle.std.proofs.lemmas.Int.{ints}
use Rattle.std.proofs.Math.Nat.{div-add-mod}
use Rattle.packed_rows.specs.Packing.{zigzag, digits_128}
use Rattle.packed_rows.specs.Unpacking.{first_number, after_number, unzigzag}

-- ---- the digits of a number
-- below this a number has so many digits more than one at most
abbrev pub limit : ℕ → ℕ
limit zero = 128
limit (suc more) = 128 * limit more

-- what begins with a number, and what stands behind it
pub record BeginsWith (n : ℕ) (rest bytes : List ℕ) : Type 0 where
  pub first : first_number bytes ≡ n
  pub after : after_number bytes ≡ rest

quotient_small : (n m : ℕ) → n < 128 * m → n / 128 < m
quotient_small n m h = omega (arith, div-add-mod n 128, h)

last_digit : (n : ℕ) (rest : List ℕ) → n < 128 → BeginsWith n rest (n ∷ rest)
unfolding first_number after_number
last_digit n rest h = let low = lt-ltb n 128 h in record { first = rw low refl; after = rw low refl }

digit_more : (n : ℕ) (rest bytes : List ℕ) → BeginsWith (n / 128) rest bytes → BeginsWith n rest ((128 + n % 128) ∷ bytes)
unfolding first_number after_number
digit_more n rest bytes b =
    let high = le-ltb (128 + n % 128) 128 (omega arith) in
    record { first = rw (high, b.first) (omega (arith, div-add-mod n 128)); after = rw high b.after }

pub digits_back : (more n : ℕ) (rest : List ℕ) → n < limit more → BeginsWith n rest (digits_128 more n ++ rest)
unfolding digits_128
digits_back zero n rest h = last_digit n rest h
digits_back (suc more) n rest h = by (digits_back more (n / 128) rest) (nat_lt n 128) refl
  where
    by : (n / 128 < limit more → BeginsWith (n / 128) rest (digits_128 more (n / 128) ++ rest)) → (b : Bool) → nat_lt n 128 ≡ b →
        BeginsWith n rest ((if b then n ∷ [] else (128 + n % 128) ∷ digits_128 more (n / 128)) ++ rest)
    by less true e = last_digit n rest (ltb-true n 128 e)
    by less false e = digit_more n rest (digits_128 more (n / 128) ++ rest) (less (quotient_small n (limit more) h))

-- ---- the sign
pub zigzag_small : (z : ℤ) → FitsSigned w128 z → zigzag z < 2 ^ 128
zigzag_small (pos n) f = omega (arith, ints, f)
zigzag_small (negsuc n) f = omega (arith, ints, f)

pub zigzag_back : (z : ℤ) → unzigzag (zigzag z) ≡ z
zigzag_back (pos n) = even n ((2 * n) % 2) ((2 * n) / 2) (omega arith) (omega arith)
  where
    even : (n r q : ℕ) → r ≡ 0 → q ≡ n → (if r == 0 then pos q else negsuc q) ≡ pos n
    even n r q e f = rw (e, f) refl
zigzag_back (negsuc n) = odd n ((2 * n + 1) % 2) ((2 * n + 1) / 2) (omega arith) (omega arith)
  where
    odd : (n r q : ℕ) → r ≡ 1 → q ≡ n → (if r == 0 then pos q else negsuc q) ≡ negsuc n
    odd n r q e f = rw (e, f) refl

pub number_back : (z : ℤ) (rest : List ℕ) → FitsSigned w128 z → BeginsWith (zigzag z) rest (digits_128 18 (zigzag z) ++ rest)
number_back z rest f = digits_back 18 (zigzag z) rest (omega (arith, zigzag_small z f))

-- ---- digit by digit
pub record Digit (more n : ℕ) : Type 0 where
  pub less : ℕ
  pub small : n / 128 < limit less
  pub split : digits_128 more n ≡ (128 + n % 128) ∷ digits_128 less (n / 128)

pub one_digit : (more n : ℕ) → 128 ≤ n → n < limit more → Digit more n
unfolding digits_128
one_digit zero n h k = absurd (omega (arith, h, k))
one_digit (suc more) n h k = record { less = more; small = quotient_small n (limit more) k; split = rw (le-ltb n 128 h) refl }

pub end_digit : (more n : ℕ) → n < 128 → digits_128 more n ≡ n ∷ []
unfolding digits_128
end_digit zero n h = refl
end_digit (suc more) n h = rw (lt-ltb n 128 h) refl

-- from the first byte on
pub none_there : (bytes : List ℕ) → length bytes ≡ 0 → BeginsWith 0 bytes bytes
unfolding first_number after_number
none_there [] h = record { first = refl; after = refl }
none_there (b ∷ bytes) h = absurd (omega (arith, h))

pub last_there : (bytes rest : List ℕ) (b : ℕ) → bytes ≡ b ∷ rest → b < 128 → BeginsWith b rest bytes
last_there bytes rest b e h = rw e (last_digit b rest h)

pub more_there : (bytes rest : List ℕ) (b : ℕ) → bytes ≡ b ∷ rest → 128 ≤ b → BeginsWith ((b - 128) + 128 * first_number rest) (after_number rest) bytes
unfolding first_number after_number
more_there bytes rest b e h = let high = le-ltb b 128 h in rw e (record { first = rw high refl; after = rw high refl })
