-- A certificate's text: a record for each of its boxes, of the turns from it, the least number of each coordinate and then the greatest.
use Rattle.std.specs.Prelude.{◌≡◌, ◌⊎◌, ℕ, ◌+◌, ◌*◌, ◌≤◌, ◌<◌, ℤ, pos, ◌≤ℤ◌, List, ◌∷◌, ◌++◌, length, take, drop}
use Rattle.integer_algebra.specs.Sums.{at}
use Rattle.mat_int.specs.Matrix.{Matrix, entry_of}
use Rattle.number_text.specs.declared.text_fault.TextFault.{TextFault}
use Rattle.number_text.specs.declared.text_fault.TextFault.TheVariants.{Range}
use Rattle.policy_file.specs.Records.{HoldsNumbers, records_of, record_at}
use Rattle.policy_file.specs.StatesText.{state_rule}
use Rattle.policy_file.specs.HeadedText.{IsHeadedText, IsHeadedFault}
use Rattle.settle_check.specs.Still.{Box, box_of, IsPartOf}
use Rattle.settle_check.specs.Settling.{Certificate}
use Rattle.settle_check.specs.declared.certificate.StateBox.{StateBox}
use Rattle.settle_check.specs.declared.certificate.CertificateParts.{CertificateParts}

-- ---- the numbers of a certificate
-- a box of states: the least number of each coordinate, and the greatest
pub record BoxNumbers : Type 0 where
  pub low : List ℤ
  pub high : List ℤ

pub record CertificateNumbers : Type 0 where
  pub turns : ℕ
  pub after : ℕ
  pub back : ℕ
  pub start : BoxNumbers
  pub still : BoxNumbers
  pub rest : BoxNumbers

abbrev pub box_numbers : StateBox → BoxNumbers
box_numbers b = record { low = b.low.items; high = b.high.items }

abbrev pub certificate_numbers : CertificateParts → CertificateNumbers
certificate_numbers p = record {
  turns = p.turns;
  after = p.after;
  back = p.back;
  start = box_numbers p.start;
  still = box_numbers p.still;
  rest = box_numbers p.rest;
}

-- what they are the certificate of
abbrev pub box_in : BoxNumbers → Box
box_in b = box_of b.low b.high

abbrev pub certificate_in : CertificateNumbers → Certificate
certificate_in f = record { start = box_in f.start; still = box_in f.still; rest = box_in f.rest; turns = f.turns; after = f.after; back = f.back }

-- ---- their text
-- the most turns from a box to the box of rest
abbrev pub most_settling_turns : ℕ
most_settling_turns = 4096

-- record e, from 0, is of so many turns and a box of n coordinates
pub record HoldsBox (bytes : List ℕ) (n e turns : ℕ) (b : BoxNumbers) : Type 0 where
  pub low : length b.low ≡ n
  pub high : length b.high ≡ n
  pub numbers : HoldsNumbers state_rule (2 * n + 1) (record_at (records_of bytes) e) (pos turns ∷ b.low ++ b.high)

-- a box of n coordinates holds a state
abbrev pub HasState : ℕ → Box → Type 0
HasState n b = (i : ℕ) → i < n → b.low i ≤ℤ b.high i

-- The bytes are the text of this certificate: the turns from the start box and that box, which holds a state; the turns from the box where no multiplier moves
-- to the rows of the cost, or 0, and that box, which is part of an outer one; the turns from the box of rest, some, and that box.
pub record IsCertificateText (bytes : List ℕ) (n : ℕ) (outer : Box) (f : CertificateNumbers) : Type 0 where
  pub records : length (records_of bytes) ≡ 3
  pub start : HoldsBox bytes n 0 f.turns f.start
  pub still : HoldsBox bytes n 1 f.after f.still
  pub rest : HoldsBox bytes n 2 f.back f.rest
  pub turns : f.turns ≤ most_settling_turns
  pub starts : HasState n (box_in f.start)
  pub after : f.after ≤ most_settling_turns
  pub inside : IsPartOf n outer (box_in f.still)
  pub some : 1 ≤ f.back
  pub back : f.back ≤ most_settling_turns

-- a box of the numbers of a row
pub record IsBoxOfRow (n : ℕ) (row : List ℤ) (b : StateBox) : Type 0 where
  pub low : b.low.items ≡ take n row
  pub high : b.high.items ≡ drop n row

-- ---- their first fault
-- a number of turns from a least one on
pub record IsTurnCount (least z : ℤ) : Type 0 where
  pub low : least ≤ℤ z
  pub high : z ≤ℤ pos most_settling_turns

-- the box of row e
abbrev pub box_at : (n : ℕ) → Matrix → ℕ → Box
box_at n boxes e = record { low = λ i. entry_of boxes e i; high = λ i. entry_of boxes e (n + i) }

-- the first record is of turns in their range and a box that holds a state
abbrev pub IsStartRecord : (n : ℕ) → (heads : List ℤ) → (boxes : Matrix) → Type 0
IsStartRecord n heads boxes = IsTurnCount (pos 0) (at heads 0) × HasState n (box_at n boxes 0)

-- the second of turns in their range and a part of an outer box
abbrev pub IsStillRecord : (n : ℕ) → (outer : Box) → (heads : List ℤ) → (boxes : Matrix) → Type 0
IsStillRecord n outer heads boxes = IsTurnCount (pos 0) (at heads 1) × IsPartOf n outer (box_at n boxes 1)

-- record by record the numbers are in their ranges
pub record AreBoxesInRange (n : ℕ) (outer : Box) (heads : List ℤ) (boxes : Matrix) : Type 0 where
  pub start : IsStartRecord n heads boxes
  pub still : IsStillRecord n outer heads boxes
  pub back : IsTurnCount (pos 1) (at heads 2)

-- the first record, from 1, with one that isn't
abbrev pub IsFirstOutOfRange : (n : ℕ) → (outer : Box) → (heads : List ℤ) → (boxes : Matrix) → (place : ℕ) → Type 0
IsFirstOutOfRange n outer heads boxes place =
    ((place ≡ 1) × ¬ IsStartRecord n heads boxes) ⊎
    (((place ≡ 2) × IsStartRecord n heads boxes × ¬ IsStillRecord n outer heads boxes) ⊎
    ((place ≡ 3) × IsStartRecord n heads boxes × IsStillRecord n outer heads boxes × ¬ IsTurnCount (pos 1) (at heads 2)))

-- there are three records of so many numbers, of which that one has one out of its range
pub record IsBoxRangeFault (bytes : List ℕ) (n : ℕ) (outer : Box) (fault : TextFault) : Type 0 where
  pub heads : List ℤ
  pub boxes : Matrix
  pub holds : IsHeadedText state_rule bytes (2 * n) 3 heads boxes
  pub place : ℕ
  pub first : IsFirstOutOfRange n outer heads boxes place
  pub told : fault ≡ Range place

-- the bytes are no such text, and this is their first fault: that of the first record that isn't of so many numbers, or else the count of records, or else a range
abbrev pub IsCertificateFault : List ℕ → (n : ℕ) → (outer : Box) → TextFault → Type 0
IsCertificateFault bytes n outer fault = IsHeadedFault state_rule bytes (2 * n) 3 fault ⊎ IsBoxRangeFault bytes n outer fault
