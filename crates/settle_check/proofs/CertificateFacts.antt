-- A text of a certificate: what it holds, and that it is right in one way.
use Rattle.std.proofs.Common.{◌≡◌, ◌⊎◌, inl, inr, ℕ, zero, suc, ◌+◌, ◌*◌, ◌<◌, ℤ, pos, List, ◌∷◌, ◌++◌, length, take, drop, Result, Ok, Err, refl, sym, ap, subst, ◌∙◌, arith}
use Rattle.std.specs.Prelude.{IfOk, IfErr, MatchResult}
use Rattle.std.proofs.lemmas.Int.{ints}
use Rattle.std.proofs.lemmas.List.{ext_get_or, get_or-take, get_or-drop, take_at, drop_at, take-append-drop, length-take-le, length-drop}
use Rattle.integer_algebra.specs.Sums.{at}
use Rattle.mat_int.specs.Matrix.{Matrix, row_of}
use Rattle.number_text.specs.declared.text_fault.TextFault.{TextFault}
use Rattle.number_text.specs.declared.text_fault.TextFault.TheVariants.{Memory, Range}
use Rattle.policy_file.specs.Records.{HoldsNumbers, records_of, record_at}
use Rattle.policy_file.specs.StatesText.{state_rule}
use Rattle.policy_file.specs.HeadedText.{IsHeadedText, IsHeadedFault}
use Rattle.policy_file.proofs.MatrixFacts.{same_matrix}
use Rattle.policy_file.proofs.UniqueFacts.{IsFunctional, same_number, same_numbers, held_or_wrong, same_first_fault, both_ways}
use Rattle.settle_check.specs.Still.{Box, box_of, IsPartOf}
use Rattle.settle_check.specs.Certificates.{IsCertificateFor}
use Rattle.settle_check.specs.CertificateText.{BoxNumbers, CertificateNumbers, box_numbers, certificate_numbers, HoldsBox, IsTurnCount, box_at, HasState, IsStartRecord, IsStillRecord, IsBoxOfRow, AreBoxesInRange, IsFirstOutOfRange, IsCertificateText, IsCertificateFault}
use Rattle.settle_check.specs.declared.certificate.StateBox.{StateBox}
use Rattle.settle_check.specs.declared.certificate.CertificateParts.{CertificateParts}

functional : IsFunctional state_rule
unfolding IsFunctional
functional i field z w h k = same_number field z w h k

-- ---- one record
module _ (n : ℕ) (fields : List (List ℕ)) where
  row_long : (z : ℤ) (row : List ℤ) → HoldsNumbers state_rule (2 * n + 1) fields (z ∷ row) → length row ≡ 2 * n
  row_long z row h = omega (arith, h.numbers)

-- of a first number and a row behind it
pub box_held : (bytes : List ℕ) (n e turns : ℕ) (b : StateBox) (head : ℤ) (row : List ℤ) → HoldsNumbers state_rule (2 * n + 1) (record_at (records_of bytes) e) (head ∷ row) →
    pos turns ≡ head → IsBoxOfRow n row b → HoldsBox bytes n e turns (box_numbers b)
box_held bytes n e turns b head row h t is =
    let long = row_long n (record_at (records_of bytes) e) head row h in
    record {
      low = rw is.low (length-take-le n row (omega (arith, long)));
      high = rw is.high (omega (arith, length-drop n row, long));
      numbers = rw (t, is.low, is.high, take-append-drop n row) h;
    }

-- its numbers are those of the record
abbrev row_box : (n : ℕ) → List ℤ → BoxNumbers
row_box n row = record { low = take n row; high = drop n row }

module _ (bytes : List ℕ) (n e turns : ℕ) (b : BoxNumbers) (h : HoldsBox bytes n e turns b) (head : ℤ) (row : List ℤ)
    (k : HoldsNumbers state_rule (2 * n + 1) (record_at (records_of bytes) e) (head ∷ row)) where
  all_same : pos turns ∷ b.low ++ b.high ≡ head ∷ row
  all_same = same_numbers state_rule (2 * n + 1) (record_at (records_of bytes) e) _ _ functional h.numbers k

  turns_same : pos turns ≡ head
  turns_same = ap (λ (zs : List ℤ). at zs 0) all_same

  row_same : b.low ++ b.high ≡ row
  row_same = ap (drop 1) all_same

  low_same : take n row ≡ b.low
  low_same = ap (take n) (sym row_same) ∙ take_at b.low b.high n h.low

  high_same : drop n row ≡ b.high
  high_same = ap (drop n) (sym row_same) ∙ drop_at b.low b.high n h.low

  box_same : row_box n row ≡ b
  box_same = (λ i. record { low = low_same i; high = high_same i })

-- the box of a row is that of its numbers
part_by_row : (n : ℕ) (outer : Box) (m : Matrix) (e : ℕ) (low high : List ℤ) → low ≡ take n (row_of m e) → high ≡ drop n (row_of m e) → IsPartOf n outer (box_at n m e) → IsPartOf n outer (box_of low high)
part_by_row n outer m e low high l h part i lt =
    (rw (l, get_or-take n (row_of m e) i (pos 0) lt) (part i lt).0, rw (h, get_or-drop n (row_of m e) i (pos 0)) (part i lt).1)

part_of_row : (n : ℕ) (outer : Box) (m : Matrix) (e : ℕ) (low high : List ℤ) → low ≡ take n (row_of m e) → high ≡ drop n (row_of m e) → IsPartOf n outer (box_of low high) → IsPartOf n outer (box_at n m e)
part_of_row n outer m e low high l h part i lt =
    let p = part i lt in
    (rw (l, get_or-take n (row_of m e) i (pos 0) lt) at p.0, rw (h, get_or-drop n (row_of m e) i (pos 0)) at p.1)

state_by_row : (n : ℕ) (m : Matrix) (e : ℕ) (low high : List ℤ) → low ≡ take n (row_of m e) → high ≡ drop n (row_of m e) → HasState n (box_at n m e) → HasState n (box_of low high)
state_by_row n m e low high l h state i lt = rw (l, get_or-take n (row_of m e) i (pos 0) lt, h, get_or-drop n (row_of m e) i (pos 0)) (state i lt)

state_of_row : (n : ℕ) (m : Matrix) (e : ℕ) (low high : List ℤ) → low ≡ take n (row_of m e) → high ≡ drop n (row_of m e) → HasState n (box_of low high) → HasState n (box_at n m e)
state_of_row n m e low high l h state i lt =
    let p = state i lt in
    rw (l, get_or-take n (row_of m e) i (pos 0) lt, h, get_or-drop n (row_of m e) i (pos 0)) at p

-- two that hold the same record
natural_same : (t u : ℕ) → pos t ≡ pos u → t ≡ u
natural_same t u is = (let same : t ≡ u = cc in same)

boxes_same : (bytes : List ℕ) (n e t u : ℕ) (a b : BoxNumbers) → HoldsBox bytes n e t a → HoldsBox bytes n e u b → (t ≡ u) × (a ≡ b)
boxes_same bytes n e t u a b h k =
    let other = box_same bytes n e u b k (pos u) (b.low ++ b.high) k.numbers in
    (natural_same t u (turns_same bytes n e t a h (pos u) (b.low ++ b.high) k.numbers), sym (box_same bytes n e t a h (pos u) (b.low ++ b.high) k.numbers) ∙ other)

-- ---- the text
module _ (bytes : List ℕ) (n : ℕ) (outer : Box) where
  abbrev Right : CertificateNumbers → Type 0
  Right f = IsCertificateText bytes n outer f

  abbrev Wrong : TextFault → Type 0
  Wrong fault = IsCertificateFault bytes n outer fault

  abbrev Headed : List ℤ → Matrix → Type 0
  Headed heads m = IsHeadedText state_rule bytes (2 * n) 3 heads m

  -- what was read
  pub certificate_read : (p : CertificateParts) (heads : List ℤ) (m : Matrix) → Headed heads m → AreBoxesInRange n outer heads m → pos p.turns ≡ at heads 0 →
      pos p.after ≡ at heads 1 → pos p.back ≡ at heads 2 → IsBoxOfRow n (row_of m 0) p.start →
      IsBoxOfRow n (row_of m 1) p.still → IsBoxOfRow n (row_of m 2) p.rest → Right (certificate_numbers p)
  certificate_read p heads m h range turns after back start still rest =
      record {
        records = h.records;
        start = box_held bytes n 0 p.turns p.start (at heads 0) (row_of m 0) (h.each 0 (omega arith)) turns start;
        still = box_held bytes n 1 p.after p.still (at heads 1) (row_of m 1) (h.each 1 (omega arith)) after still;
        rest = box_held bytes n 2 p.back p.rest (at heads 2) (row_of m 2) (h.each 2 (omega arith)) back rest;
        turns = omega (arith, ints, turns, range.start.0.high);
        after = omega (arith, ints, after, range.still.0.high);
        starts = state_by_row n m 0 p.start.low.items p.start.high.items start.low start.high range.start.1;
        inside = part_by_row n outer m 1 p.still.low.items p.still.high.items still.low still.high range.still.1;
        some = omega (arith, ints, back, range.back.low);
        back = omega (arith, ints, back, range.back.high);
      }

  -- and the fault of a text that isn't one
  pub certificate_fault : (fault : TextFault) → (fault ≡ Memory) ⊎ IsHeadedFault state_rule bytes (2 * n) 3 fault → (fault ≡ Memory) ⊎ Wrong fault
  certificate_fault fault (inl memory) = inl memory
  certificate_fault fault (inr wrong) = inr (inl wrong)

  pub range_fault : (place : ℕ) (heads : List ℤ) (m : Matrix) → Headed heads m → IsFirstOutOfRange n outer heads m place → Wrong (Range place)
  range_fault place heads m h first = inr (record { heads = heads; boxes = m; holds = h; place = place; first = first; told = refl })

  -- ---- one way
  -- of a certificate
  headed_of : (f : CertificateNumbers) → Right f → (e : ℕ) → e < 3 → (zs : List ℤ) × HoldsNumbers state_rule (2 * n + 1) (record_at (records_of bytes) e) zs
  headed_of f h zero lt = (pos f.turns ∷ f.start.low ++ f.start.high, h.start.numbers)
  headed_of f h (suc zero) lt = (pos f.after ∷ f.still.low ++ f.still.high, h.still.numbers)
  headed_of f h (suc (suc zero)) lt = (pos f.back ∷ f.rest.low ++ f.rest.high, h.rest.numbers)
  headed_of f h (suc (suc (suc e))) lt = absurd (omega (arith, lt))

  first_in : (f : CertificateNumbers) (h : Right f) (heads : List ℤ) (m : Matrix) → Headed heads m → IsStartRecord n heads m
  first_in f h heads m k =
      let held = k.each 0 (omega arith) in
      let same = turns_same bytes n 0 f.turns f.start h.start (at heads 0) (row_of m 0) held in (
        record { low = omega (arith, ints, same); high = omega (arith, ints, same, h.turns) },
        state_of_row n m 0 f.start.low f.start.high (sym (low_same bytes n 0 f.turns f.start h.start (at heads 0) (row_of m 0) held)) (sym (high_same bytes n 0 f.turns f.start h.start (at heads 0) (row_of m 0) held)) h.starts,
      )

  second_in : (f : CertificateNumbers) (h : Right f) (heads : List ℤ) (m : Matrix) → Headed heads m → IsStillRecord n outer heads m
  second_in f h heads m k =
      let held = k.each 1 (omega arith) in
      let same = turns_same bytes n 1 f.after f.still h.still (at heads 1) (row_of m 1) held in (
        record { low = omega (arith, ints, same); high = omega (arith, ints, same, h.after) },
        part_of_row n outer m 1 f.still.low f.still.high (sym (low_same bytes n 1 f.after f.still h.still (at heads 1) (row_of m 1) held))
            (sym (high_same bytes n 1 f.after f.still h.still (at heads 1) (row_of m 1) held)) h.inside,
      )

  third_in : (f : CertificateNumbers) (h : Right f) (heads : List ℤ) (m : Matrix) → Headed heads m → IsTurnCount (pos 1) (at heads 2)
  third_in f h heads m k =
      let same = turns_same bytes n 2 f.back f.rest h.rest (at heads 2) (row_of m 2) (k.each 2 (omega arith)) in
      record { low = omega (arith, ints, same, h.some); high = omega (arith, ints, same, h.back) }

  never_out : (f : CertificateNumbers) (h : Right f) (heads : List ℤ) (m : Matrix) (place : ℕ) → Headed heads m → IsFirstOutOfRange n outer heads m place → ⊥
  never_out f h heads m place k (inl first) = first.1 (first_in f h heads m k)
  never_out f h heads m place k (inr (inl second)) = second.2 (second_in f h heads m k)
  never_out f h heads m place k (inr (inr third)) = third.3 (third_in f h heads m k)

  not_both : (f : CertificateNumbers) (fault : TextFault) → Right f → Wrong fault → ⊥
  not_both f fault h (inl (inl w)) = held_or_wrong state_rule (2 * n + 1) 3 (records_of bytes) fault (omega (arith, h.records)) (headed_of f h) w
  not_both f fault h (inl (inr w)) = w.here h.records
  not_both f fault h (inr w) = never_out f h w.heads w.boxes w.place w.holds w.first

  same_certificate : (a b : CertificateNumbers) → a.turns ≡ b.turns → a.after ≡ b.after → a.back ≡ b.back → a.start ≡ b.start → a.still ≡ b.still → a.rest ≡ b.rest → a ≡ b
  same_certificate a b t u k s z r = (λ i. record { turns = t i; after = u i; back = k i; start = s i; still = z i; rest = r i })

  one_certificate : (a b : CertificateNumbers) → Right a → Right b → a ≡ b
  one_certificate a b h k =
      let first = boxes_same bytes n 0 a.turns b.turns a.start b.start h.start k.start in
      let second = boxes_same bytes n 1 a.after b.after a.still b.still h.still k.still in
      let last = boxes_same bytes n 2 a.back b.back a.rest b.rest h.rest k.rest in
      same_certificate a b first.0 second.0 last.0 first.1 second.1 last.1

  -- of a fault
  headed_not : (heads : List ℤ) (m : Matrix) (fault : TextFault) → Headed heads m → IsHeadedFault state_rule bytes (2 * n) 3 fault → ⊥
  headed_not heads m fault h (inl w) = held_or_wrong state_rule (2 * n + 1) 3 (records_of bytes) fault (omega (arith, h.records)) (λ e l. (at heads e ∷ row_of m e, h.each e l)) w
  headed_not heads m fault h (inr w) = w.here h.records

  headed_one : (e f : TextFault) → IsHeadedFault state_rule bytes (2 * n) 3 e → IsHeadedFault state_rule bytes (2 * n) 3 f → e ≡ f
  headed_one e f (inl h) (inl k) = same_first_fault state_rule (2 * n + 1) (records_of bytes) e f h k
  headed_one e f (inl h) (inr k) = absurd (held_or_wrong state_rule (2 * n + 1) (length (records_of bytes)) (records_of bytes) e (omega arith) k.each h)
  headed_one e f (inr h) (inl k) = absurd (held_or_wrong state_rule (2 * n + 1) (length (records_of bytes)) (records_of bytes) f (omega arith) h.each k)
  headed_one e f (inr h) (inr k) = h.told ∙ sym k.told

  -- two readings of the records' numbers are one
  headed_same : (xs ys : List ℤ) (l m : Matrix) → Headed xs l → Headed ys m → (xs ≡ ys) × (l ≡ m)
  headed_same xs ys l m h k = (
    ext_get_or (pos 0) xs ys (h.count ∙ sym k.count) (λ e lt. ap (λ (zs : List ℤ). at zs 0) (both e (rw (← h.count) lt))),
    same_matrix l m (h.cols ∙ sym k.cols) (h.rows ∙ sym k.rows) (λ e lt. ap (drop 1) (both e (rw (← h.rows) lt))),
  )
    where
      both : (e : ℕ) → e < 3 → at xs e ∷ row_of l e ≡ at ys e ∷ row_of m e
      both e lt = same_numbers state_rule (2 * n + 1) (record_at (records_of bytes) e) _ _ functional (h.each e lt) (k.each e lt)

  -- and have one first record out of its range
  one_place : (heads : List ℤ) (m : Matrix) (a b : ℕ) → IsFirstOutOfRange n outer heads m a → IsFirstOutOfRange n outer heads m b → a ≡ b
  one_place heads m a b (inl h) (inl k) = h.0 ∙ sym k.0
  one_place heads m a b (inl h) (inr (inl k)) = absurd (h.1 k.1)
  one_place heads m a b (inl h) (inr (inr k)) = absurd (h.1 k.1)
  one_place heads m a b (inr (inl h)) (inl k) = absurd (k.1 h.1)
  one_place heads m a b (inr (inl h)) (inr (inl k)) = h.0 ∙ sym k.0
  one_place heads m a b (inr (inl h)) (inr (inr k)) = absurd (h.2 k.2)
  one_place heads m a b (inr (inr h)) (inl k) = absurd (k.1 h.1)
  one_place heads m a b (inr (inr h)) (inr (inl k)) = absurd (k.2 h.2)
  one_place heads m a b (inr (inr h)) (inr (inr k)) = h.0 ∙ sym k.0

  same_place : (xs ys : List ℤ) (l m : Matrix) (a b : ℕ) → xs ≡ ys → l ≡ m → IsFirstOutOfRange n outer xs l a → IsFirstOutOfRange n outer ys m b → a ≡ b
  same_place xs ys l m a b heads boxes h k =
      one_place ys m a b (subst (λ (x : Matrix). IsFirstOutOfRange n outer ys x a) boxes (subst (λ (x : List ℤ). IsFirstOutOfRange n outer x l a) heads h)) k

  one_fault : (e f : TextFault) → Wrong e → Wrong f → e ≡ f
  one_fault e f (inl h) (inl k) = headed_one e f h k
  one_fault e f (inl h) (inr k) = absurd (headed_not k.heads k.boxes e k.holds h)
  one_fault e f (inr h) (inl k) = absurd (headed_not h.heads h.boxes f h.holds k)
  one_fault e f (inr h) (inr k) =
      let same = headed_same h.heads k.heads h.boxes k.boxes h.holds k.holds in
      h.told ∙ ap Range (same_place h.heads k.heads h.boxes k.boxes h.place k.place same.0 same.1 h.first k.first) ∙ sym k.told

  pub certificate_told : (r : Result CertificateParts TextFault) → IfOk r (λ p. Right (certificate_numbers p)) → IfErr r (λ e. (e ≡ Memory) ⊎ Wrong e) →
      ((f : CertificateNumbers) → Right f → MatchResult r (λ p. certificate_numbers p ≡ f) (λ e. e ≡ Memory)) ×
      ((e : TextFault) → Wrong e → MatchResult r (λ _. ⊥) (λ f. (f ≡ e) ⊎ (f ≡ Memory)))
  certificate_told r found fault = both_ways certificate_numbers r Right Wrong found fault not_both one_certificate one_fault

  -- ---- sizes
  pub certificate_sized : (r : Result CertificateParts TextFault) → IfOk r (λ p. Right (certificate_numbers p)) → IfOk r (IsCertificateFor n)
  certificate_sized (Ok p) h = record {
    start = record { low = h.start.low; high = h.start.high };
    still = record { low = h.still.low; high = h.still.high };
    rest = record { low = h.rest.low; high = h.rest.high };
    some = h.some;
  }
  certificate_sized (Err e) h = tt
