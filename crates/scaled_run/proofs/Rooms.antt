-- How far the numbers of a run in enclosures reach: no further than the quantities say.
use Rattle.std.proofs.Common.{◌≡◌, inl, inr, ℕ, zero, suc, ◌+◌, ◌-◌, ◌*◌, ◌/◌, ◌^◌, ◌<◌, ◌≤◌, [], ◌∷◌, ℤ, pos, negsuc, ◌+ℤ◌, ◌-ℤ◌, ◌*ℤ◌, ◌≤ℤ◌, ◌<ℤ◌, unsigned_abs, lit<, Fits, FitsSigned, to_z, of_z, add-one, arith, ap, ap₂, ◌∙◌, refl}
use Rattle.std.specs.Int.{w128}
use Rattle.std.proofs.lemmas.Int.{ints, unsigned_abs-mul, to_z-of_z}
use Rattle.std.proofs.lemmas.Bool.{cases_lt, lt-ltb, le-ltb}
use Rattle.std.proofs.Math.Nat.{mul-le-mul_left, mul-le-mul_right, pow-le-pow_left, div-le_self}
use Rattle.integer_algebra.specs.Bounds.{absolute}
use Rattle.integer_algebra.specs.Division.{ceil_div, ceil_of, round_of}
use Rattle.integer_algebra.specs.Sums.{total}
use Rattle.integer_algebra.specs.Sizes.{size}
use Rattle.integer_algebra.proofs.DivisionLaws.{le-mul-ceil_div, ceil_of_is, round_of_bounds}
use Rattle.integer_algebra.proofs.OrderLaws.{mul-le-mul_left_z, cancel-le_z, le_by}
use Rattle.integer_algebra.proofs.SizeLaws.{size_same}
use Rattle.integer_algebra.proofs.Quoting.{by_ring, quotes}
use Rattle.frac_scaled.specs.Enclosures.{Enclosure, magnitude, inexact, divided, sum_of}
use Rattle.mat_int.specs.Enclosures.{combination, combination_magnitude, combined}
use Rattle.enclosure.proofs.RoomLaws.{same_pair, ceil_small, inexact_small}
use Rattle.qp_model.specs.problem.Design.{Design, entries}
use Rattle.qp_model.specs.form.Quantities.{growth}
use Rattle.qp_model.specs.form.FineForm.{followed, fine_run}
use Rattle.qp_model.specs.problem.Runs.{run}
use Rattle.qp_model.proofs.RunLaws.{run_law}
use Rattle.qp_model.proofs.RowLaws.{lift_power}
use Rattle.scaled_run.specs.ScaledForm.{whole, wholes_over, exact_unit}
use Rattle.scaled_run.specs.ScaledSizes.{scaled_reach_from}
use Rattle.scaled_run.proofs.RunLaws.{exact_run_law}
use Rattle.qp_model.proofs.SizeFacts.{size_append}
use Rattle.qp_model.proofs.QuantityLaws.{growth_bound}
use Rattle.scaled_run.specs.Lists.{Reaches}

same : (n : ℕ) → n ≤ n
same n = omega arith

before : {a b : ℕ} → a < b → a ≤ b
before h = omega arith

under : {z : ℤ} {m n : ℕ} → z ≤ℤ pos m → m ≤ n → z ≤ℤ pos n
under h k = omega (arith, ints, h, k)

scaled : (a b r s : ℕ) → a ≤ b → r ≤ s → a * r ≤ b * s
scaled a b r s h k = omega (arith, mul-le-mul_left r h, mul-le-mul_left b k)

pub reaches_more : {e : Enclosure} {b c : ℕ} → Reaches e b → b ≤ c → Reaches e c
reaches_more h l = record { radius = h.radius; within = more h.within l }
  where
    more : {z : ℤ} {b c : ℕ} → z ≤ℤ pos b → b ≤ c → z ≤ℤ pos c
    more h l = omega (arith, ints, h, l)

-- a whole number over a unit
pub whole_reaches : (m : ℕ) (z : ℤ) (n : ℕ) → m * unsigned_abs z ≤ n → Reaches (whole m z) n
whole_reaches m z n h = record { radius = omega (arith, ints); within = rw (unsigned_abs-mul (pos m) z) (under (m * unsigned_abs z) h) }
  where
    under : (m : ℕ) → m ≤ n → (pos m +ℤ pos 0) ≤ℤ pos n
    under m h = omega (arith, ints)

-- a sum of two
pub sum_reaches : (a b : Enclosure) (m n : ℕ) → Reaches a m → Reaches b n → Reaches (sum_of a b) (m + n)
sum_reaches a b m n h k = record { radius = omega (arith, ints, h.radius, k.radius); within = both a.mid b.mid a.rad b.rad h.within k.within }
  where
    both : (x y r s : ℤ) → (absolute x +ℤ r) ≤ℤ pos m → (absolute y +ℤ s) ≤ℤ pos n → (absolute (x +ℤ y) +ℤ (r +ℤ s)) ≤ℤ pos (m + n)
    both x y r s h k = omega (arith, ints)

-- ---- sums of multiples
-- one term
term_reaches : (c x r : ℤ) (b : ℕ) → pos 0 ≤ℤ r → (absolute x +ℤ r) ≤ℤ pos b →
    (pos 0 ≤ℤ (absolute c *ℤ r)) × ((absolute (c *ℤ x) +ℤ absolute c *ℤ r) ≤ℤ pos (unsigned_abs c * b)) × ((absolute c *ℤ (absolute x +ℤ r)) ≤ℤ pos (unsigned_abs c * b))
term_reaches c x (pos r) b h k = (omega (arith, ints), rw (unsigned_abs-mul c x) (whole (unsigned_abs c) (unsigned_abs x) r b (under (unsigned_abs x) r k)), part (unsigned_abs c) (unsigned_abs x + r) b (under (unsigned_abs x) r k))
  where
    under : (x r : ℕ) → pos (x + r) ≤ℤ pos b → x + r ≤ b
    under x r h = omega (arith, ints, h)

    part : (c n b : ℕ) → n ≤ b → pos (c * n) ≤ℤ pos (c * b)
    part c n b h = omega (arith, ints, mul-le-mul_left c h)

    whole : (c x r b : ℕ) → x + r ≤ b → pos (c * x + c * r) ≤ℤ pos (c * b)
    whole c x r b h = omega (arith, ints, mul-le-mul_left c h)
term_reaches c x (negsuc r) b h k = absurd h.le

pub combination_reaches : (n : ℕ) (c : ℕ → ℤ) (x : ℕ → Enclosure) (b : ℕ) → ((i : ℕ) → i < n → Reaches (x i) b) → Reaches (combination n c x) (size n c * b)
combination_reaches zero c x b h = record { radius = omega (arith, ints); within = omega (arith, ints) }
combination_reaches (suc n) c x b h =
    let before = combination_reaches n c x b (λ i l. h i (omega arith)) in
    let last = term_reaches (c n) (x n).mid (x n).rad b (h n (omega arith)).radius (h n (omega arith)).within in
    record {
      radius = omega (arith, ints, before.radius, last.0);
      within = both (total n (λ i. c i *ℤ (x i).mid)) (c n *ℤ (x n).mid) (total n (λ i. absolute (c i) *ℤ (x i).rad)) (absolute (c n) *ℤ (x n).rad) (size n c * b) (unsigned_abs (c n) * b) _
          before.within last.1 (split (size n c) (unsigned_abs (c n)) b);
    }
  where
    split : (s c b : ℕ) → (s + c) * b ≡ s * b + c * b
    split s c b = omega arith

    both : (x y r s : ℤ) (m n t : ℕ) → (absolute x +ℤ r) ≤ℤ pos m → (absolute y +ℤ s) ≤ℤ pos n → t ≡ m + n → (absolute (x +ℤ y) +ℤ (r +ℤ s)) ≤ℤ pos t
    both x y r s m n t h k e = omega (arith, ints)

pub combination_room : (n : ℕ) (c : ℕ → ℤ) (x : ℕ → Enclosure) (b : ℕ) → ((i : ℕ) → i < n → Reaches (x i) b) → combination_magnitude n c x ≤ℤ pos (size n c * b)
combination_room zero c x b h = omega (arith, ints)
combination_room (suc n) c x b h =
    both (combination_magnitude n c x) (absolute (c n) *ℤ magnitude (x n)) (size n c) (unsigned_abs (c n)) b (combination_room n c x b (λ i l. h i (omega arith)))
    (term_reaches (c n) (x n).mid (x n).rad b (h n (omega arith)).radius (h n (omega arith)).within).2
  where
    both : (p q : ℤ) (s c b : ℕ) → p ≤ℤ pos (s * b) → q ≤ℤ pos (c * b) → (p +ℤ q) ≤ℤ pos ((s + c) * b)
    both p q s c b h k = omega (arith, ints)

-- ---- quotients
-- rounded to the nearest, and the radius up and one more
pub divided_reaches : (e : Enclosure) (d b : ℕ) → 0 < d → Reaches e b → Reaches (divided e d) (ceil_div b d + 3)
divided_reaches e d b p h = record {
  radius = omega (arith, ints, (ceil_small e.rad d h.radius p).0, (inexact_small e.mid d).0);
  within = cancel-le_z (pos d) _ _ (positive d p) (le_by
      (near e.mid e.rad (round_of e.mid d *ℤ pos d) (ceil_of e.rad d *ℤ pos d) (inexact e.mid d *ℤ pos d) (pos d) (pos b) (pos (d * ceil_div b d))
      (round_of_bounds e.mid d p).0 (round_of_bounds e.mid d p).1 (less (ceil_of e.rad d) (pos d) e.rad (ceil_of_is e.rad d p).least)
      (one (inexact e.mid d) (inexact_small e.mid d).1) h.within (naturals (le-mul-ceil_div b d p)))
      (rw (sides (round_of e.mid d)) (whole (absolute (round_of e.mid d)) (ceil_of e.rad d) (inexact e.mid d) (pos (ceil_div b d)) (pos d))));
}
  where
    positive : (d : ℕ) → 0 < d → pos 0 <ℤ pos d
    positive d p = omega (arith, ints)

    naturals : {m n : ℕ} → m ≤ n → pos m ≤ℤ pos n
    naturals h = omega (arith, ints, h)

    sides : (k : ℤ) → absolute (k *ℤ pos d) ≡ absolute k *ℤ pos d
    sides k = ap pos (unsigned_abs-mul k (pos d))

    less : (c e r : ℤ) → ((c -ℤ pos 1) *ℤ e) <ℤ r → (c *ℤ e) ≤ℤ (r +ℤ e)
    less c e r h =
        let split : (c -ℤ pos 1) *ℤ e ≡ c *ℤ e -ℤ e = by_ring (c ∷ e ∷ []) (search quotes depth 60 fits 20000) refl in
        omega (arith, ints, split, h)

    whole : (k c i q e : ℤ) → e *ℤ (q +ℤ pos 3) +ℤ (k *ℤ e +ℤ (c *ℤ e +ℤ i *ℤ e)) ≡ e *ℤ (k +ℤ (c +ℤ i)) +ℤ (e *ℤ q +ℤ pos 3 *ℤ e)
    whole k c i q e = by_ring (k ∷ c ∷ i ∷ q ∷ e ∷ []) (search quotes depth 60 fits 20000) refl

    one : (i : ℤ) → i ≤ℤ pos 1 → (i *ℤ pos d) ≤ℤ pos d
    one i h = le_by (mul-le-mul_left_z (pos d) (omega (arith, ints)) h) (by_ring (i ∷ pos d ∷ []) (search quotes depth 60 fits 20000) refl)

    near : (z r m n o e b q : ℤ) → (pos 2 *ℤ m) ≤ℤ (pos 2 *ℤ z +ℤ e) → (pos 2 *ℤ z +ℤ e) <ℤ (pos 2 *ℤ m +ℤ pos 2 *ℤ e) → n ≤ℤ (r +ℤ e) → o ≤ℤ e →
        (absolute z +ℤ r) ≤ℤ b → b ≤ℤ q → (absolute m +ℤ (n +ℤ o)) ≤ℤ (q +ℤ pos 3 *ℤ e)
    near z r m n o e b q h k l i w u = omega (arith, ints)

-- by 1, nothing is rounded
pub divided_by_one : (e : Enclosure) → divided e 1 ≡ e
divided_by_one e = same_pair (mid e.mid (round_of_bounds e.mid 1 (lit< tt))) (rad (ceil_of_is e.rad 1 (lit< tt)).greatest (ceil_of_is e.rad 1 (lit< tt)).least)
  where
    mid : (z : ℤ) → ((pos 2 *ℤ (round_of z 1 *ℤ pos 1)) ≤ℤ (pos 2 *ℤ z +ℤ pos 1)) × ((pos 2 *ℤ z +ℤ pos 1) <ℤ (pos 2 *ℤ (round_of z 1 *ℤ pos 1) +ℤ pos 2 *ℤ pos 1)) → round_of z 1 ≡ z
    mid z h = near (round_of z 1) z h.0 h.1
      where
        near : (k z : ℤ) → (pos 2 *ℤ (k *ℤ pos 1)) ≤ℤ (pos 2 *ℤ z +ℤ pos 1) → (pos 2 *ℤ z +ℤ pos 1) <ℤ (pos 2 *ℤ (k *ℤ pos 1) +ℤ pos 2 *ℤ pos 1) → k ≡ z
        near k z h l = omega (arith, ints)

    none : (z : ℤ) → inexact z 1 ≡ pos 0
    none z = grind (arith, ints)

    rad : {r : ℤ} → r ≤ℤ (ceil_of r 1 *ℤ pos 1) → ((ceil_of r 1 -ℤ pos 1) *ℤ pos 1) <ℤ r → ceil_of r 1 +ℤ inexact e.mid 1 ≡ r
    rad {r} h k = rw (none e.mid) (near (ceil_of r 1) r h k)
      where
        near : (c r : ℤ) → r ≤ℤ (c *ℤ pos 1) → ((c -ℤ pos 1) *ℤ pos 1) <ℤ r → c +ℤ pos 0 ≡ r
        near c r h k = omega (arith, ints)

-- ---- numbers over the inputs and states
-- what one list after another reaches
pub followed_reaches : (n m : ℕ) (e f : ℕ → Enclosure) (b : ℕ) → ((j : ℕ) → j < n → Reaches (e j) b) → ((j : ℕ) → j < m → Reaches (f j) b) →
    (j : ℕ) → j < n + m → Reaches (followed n e f j) b
followed_reaches n m e f b h k j l = elim (cases_lt j n) [
  | inl o ↦ rw (lt-ltb j n o) (h j o)
  | inr o ↦ rw (le-ltb j n o) (k (j - n) (omega arith))
]

followed_size : (n m : ℕ) (a b : ℕ → ℤ) → size (n + m) (followed n a b) ≡ size n a + size m b
followed_size n m a b = size_append n m (followed n a b) ∙ ap₂ (λ (x y : ℕ). x + y) (size_same n _ _ (λ i l. first i l)) (size_same m _ _ (λ i l. second i))
  where
    first : (i : ℕ) → i < n → followed n a b i ≡ a i
    first i l = rw (lt-ltb i n l) refl

    past : (n i : ℕ) → n + i - n ≡ i
    past n i = omega arith

    second : (i : ℕ) → followed n a b (n + i) ≡ b i
    second i = rw (le-ltb (n + i) n (omega arith), past n i) refl

-- ---- a run
-- what responses reach grows
grown : (m a r : ℕ) → 1 ≤ a → a ≤ m → r ≤ ceil_div (m * r) a
grown m a r h k = last (le-mul-ceil_div (m * r) a h)
  where
    last : m * r ≤ a * ceil_div (m * r) a → r ≤ ceil_div (m * r) a
    last l = elim (cases_lt (ceil_div (m * r) a) r) [
      | inl o ↦ absurd (clash (mul-le-mul_left a o) (mul-le-mul_left r k))
      | inr o ↦ o
    ]
      where
        clash : a * suc (ceil_div (m * r) a) ≤ a * r → r * a ≤ r * m → ⊥
        clash x y = omega (arith, l, x, y)

module _ (d : Design) (x v : ℕ → Enclosure) (r : ℕ) (hs : (k i : ℕ) → k ≤ d.stages → i < d.states → Reaches (fine_run d x v k i) r)
    (hv : (j : ℕ) → j < entries d → Reaches (v j) r) where
  -- the input at a stage
  pub input_reaches : (k l : ℕ) → k < d.stages → l < d.inputs → Reaches (v (k * d.inputs + l)) r
  input_reaches k l h m = hv (k * d.inputs + l) (inside k l d.stages d.inputs h m)
    where
      inside : (k l n p : ℕ) → k < n → l < p → k * p + l < n * p
      inside k l n p h m = omega (arith, mul-le-mul_left p h, m)

  -- the state at a stage, and then the input
  numbers_reach : (k : ℕ) → k < d.stages → (j : ℕ) → j < d.states + d.inputs → Reaches (followed d.states (fine_run d x v k) (λ l. v (k * d.inputs + l)) j) r
  numbers_reach k h j l = followed_reaches d.states d.inputs (fine_run d x v k) _ r (λ i m. hs k i (before h) m) (λ i m. input_reaches k i h m) j l

  -- before a state is divided
  pub run_room : (k i : ℕ) → k < d.stages → i < d.states →
      combination_magnitude (d.states + d.inputs) (followed d.states (d.plant_a i) (d.plant_b i)) (followed d.states (fine_run d x v k) (λ l. v (k * d.inputs + l))) ≤ℤ
      pos (growth d * r)
  run_room k i l m = under
      (combination_room (d.states + d.inputs) (followed d.states (d.plant_a i) (d.plant_b i)) _ r (numbers_reach k l))
      (rw (followed_size d.states d.inputs (d.plant_a i) (d.plant_b i)) (scaled _ _ _ _ ((growth_bound d).plant i m) (same r)))

  -- a row of at most `width` with the state at a stage
  pub row_reaches : (c : ℕ → ℤ) (width k : ℕ) → size d.states c ≤ width → k ≤ d.stages → Reaches (combined d.states c (fine_run d x v k) 1) (width * r)
  row_reaches c width k h l = rw (divided_by_one (combination d.states c (fine_run d x v k)))
      (reaches_more (combination_reaches d.states c (fine_run d x v k) r (λ i o. hs k i l o)) (scaled _ _ _ _ h (same r)))

  pub row_room : (c : ℕ → ℤ) (width k : ℕ) → size d.states c ≤ width → k ≤ d.stages → combination_magnitude d.states c (fine_run d x v k) ≤ℤ pos (width * r)
  row_room c width k h l = under (combination_room d.states c (fine_run d x v k) r (λ i o. hs k i l o)) (scaled _ _ _ _ h (same r))

  -- and with the input there
  pub input_row_reaches : (c : ℕ → ℤ) (width k : ℕ) → size d.inputs c ≤ width → k < d.stages →
      Reaches (combined d.inputs c (λ l. v (k * d.inputs + l)) 1) (width * r)
  input_row_reaches c width k h l = rw (divided_by_one (combination d.inputs c (λ l. v (k * d.inputs + l))))
      (reaches_more (combination_reaches d.inputs c (λ l. v (k * d.inputs + l)) r (λ i o. input_reaches k i l o)) (scaled _ _ _ _ h (same r)))

  pub input_row_room : (c : ℕ → ℤ) (width k : ℕ) → size d.inputs c ≤ width → k < d.stages →
      combination_magnitude d.inputs c (λ l. v (k * d.inputs + l)) ≤ℤ pos (width * r)
  input_row_room c width k h l =
      under (combination_room d.inputs c (λ l. v (k * d.inputs + l)) r (λ i o. input_reaches k i l o)) (scaled _ _ _ _ h (same r))

-- ---- the recursion
module _ (slack : ℕ) (d : Design) (one : 1 ≤ d.plant_denominator) (first : ℕ) where
  reach_more : (k : ℕ) → scaled_reach_from slack d first k ≤ scaled_reach_from slack d first (suc k)
  reach_more k = over _ _ (grown (growth d) d.plant_denominator (scaled_reach_from slack d first k) one (growth_bound d).denominator)
    where
      over : (a b : ℕ) → a ≤ b → a ≤ b + slack
      over a b h = omega arith

  pub reach_last : (k n : ℕ) → k ≤ n → scaled_reach_from slack d first k ≤ scaled_reach_from slack d first n
  reach_last k zero l = let e : k ≡ 0 = omega arith in rw e (same first)
  reach_last k (suc n) l = elim (cases_lt k (suc n)) [
    | inl m ↦ chained _ _ _ (reach_last k n (omega arith)) (reach_more n)
    | inr m ↦ (let e : k ≡ suc n = omega arith in rw e (same (scaled_reach_from slack d first (suc n))))
  ]
    where
      chained : (a b c : ℕ) → a ≤ b → b ≤ c → a ≤ c
      chained a b c h l = omega arith

  pub reach_first : (k : ℕ) → first ≤ scaled_reach_from slack d first k
  reach_first k = reach_last 0 k (omega arith)

  -- what is within the limit at the last stage is within it at each
  pub growth_from : (k n : ℕ) → k < d.stages → growth d * scaled_reach_from slack d first d.stages ≤ n → growth d * scaled_reach_from slack d first k ≤ n
  growth_from k n l h = last (growth d) (reach_last k d.stages (before l)) h
    where
      last : (m : ℕ) {r s : ℕ} → r ≤ s → m * s ≤ n → m * r ≤ n
      last m h k = omega (arith, mul-le-mul_left m h, k)

-- ---- the two classes
-- the states of a run in enclosures: rounding adds 3 at most
module _ (d : Design) (one : 1 ≤ d.plant_denominator) (first : ℕ) (x v : ℕ → Enclosure) (hx : (i : ℕ) → i < d.states → Reaches (x i) first)
    (hv : (j : ℕ) → j < entries d → Reaches (v j) first) where
  inputs_reach : (k l : ℕ) → k < d.stages → l < d.inputs → Reaches (v (k * d.inputs + l)) (scaled_reach_from 3 d first k)
  inputs_reach k l h m = reaches_more (hv (k * d.inputs + l) (inside k l d.stages d.inputs h m)) (reach_first 3 d one first k)
    where
      inside : (k l n p : ℕ) → k < n → l < p → k * p + l < n * p
      inside k l n p h m = omega (arith, mul-le-mul_left p h, m)

  states_reach : (k i : ℕ) → k ≤ d.stages → i < d.states → Reaches (fine_run d x v k i) (scaled_reach_from 3 d first k)
  states_reach zero i h l = hx i l
  states_reach (suc k) i h l =
      reaches_more (divided_reaches _ d.plant_denominator _ one (reaches_more
      (combination_reaches (d.states + d.inputs) (followed d.states (d.plant_a i) (d.plant_b i)) _ (scaled_reach_from 3 d first k)
      (λ j o. followed_reaches d.states d.inputs (fine_run d x v k) _ (scaled_reach_from 3 d first k) (λ i m. states_reach k i (before h) m) (λ i m. inputs_reach k i h m) j o))
      (rw (followed_size d.states d.inputs (d.plant_a i) (d.plant_b i)) (scaled _ _ _ _ ((growth_bound d).plant i l) (same (scaled_reach_from 3 d first k))))))
      (same (ceil_div (growth d * scaled_reach_from 3 d first k) d.plant_denominator + 3))

  pub enclosed_states_reach : (k i : ℕ) → k ≤ d.stages → i < d.states → Reaches (fine_run d x v k i) (scaled_reach_from 3 d first d.stages)
  enclosed_states_reach k i h l = reaches_more (states_reach k i h l) (reach_last 3 d one first k d.stages h)

-- those of an exact run: nothing is rounded
module _ (d : Design) (one : 1 ≤ d.plant_denominator) (z : ℕ) (x v : ℕ → ℤ) (hx : (i : ℕ) → i < d.states → unsigned_abs (x i) ≤ z)
    (hv : (j : ℕ) → j < entries d → unsigned_abs (v j) ≤ z) where
  pub exact_states_reach : (k i : ℕ) → k ≤ d.stages → i < d.states →
      Reaches (fine_run d (wholes_over (exact_unit d) x) (wholes_over (exact_unit d) v) k i) (z * growth d ^ d.stages)
  exact_states_reach k i h l = rw (exact_run_law d x v k i one h) (whole_reaches (d.plant_denominator ^ (d.stages - k)) (run d x v k i) (z * growth d ^ d.stages)
      (brought d.plant_denominator (growth d) k d.stages (unsigned_abs (run d x v k i)) h one (growth_bound d).denominator ((run_law d).within (growth d) z x v (growth_bound d) hx hv k i h l)))
    where
      brought : (a g k n r : ℕ) → k ≤ n → 1 ≤ a → a ≤ g → r ≤ z * g ^ k → a ^ (n - k) * r ≤ z * g ^ n
      brought a g k n r h o l m = last _ _ _ _ (mul-le-mul_left (a ^ (n - k)) m) (mul-le-mul_right (z * g ^ k) (pow-le-pow_left l (n - k))) (lift_power g n k h)
        where
          last : (b c p q : ℕ) → b * r ≤ b * (z * p) → b * (z * p) ≤ c * (z * p) → c * p ≡ q → b * r ≤ z * q
          last b c p q h k e = rw (← e) (omega (arith, h, k))

-- ---- the reach as code makes it
pub denominator_is : (z : ℤ) (den : ℕ) → pos 1 ≤ℤ z → z ≤ℤ pos (2 ^ 20) → den ≡ unsigned_abs (to_z w128 (of_z w128 z)) → den ≡ unsigned_abs z
denominator_is z den low high e = rw (to_z-of_z w128 z (fits z low high)) at e
  where
    fits : (z : ℤ) → pos 1 ≤ℤ z → z ≤ℤ pos (2 ^ 20) → FitsSigned w128 z
    fits z low high = omega (arith, ints)

module _ (z : ℤ) (x y den slack : ℕ) (few : slack ≤ 3) (e : den ≡ unsigned_abs z) (low : pos 1 ≤ℤ z) (high : z ≤ℤ pos (2 ^ 20)) where
  pub den_positive : 1 ≤ den
  den_positive = omega (arith, ints)

  den_small : den ≤ 2 ^ 20
  den_small = omega (arith, ints)

  brought_small : x ≡ y → y ≤ 2 ^ 126 → x + (den - 1) ≤ 2 ^ 127
  brought_small f h = small x y den f h den_small
    where
      small : (x y den : ℕ) → x ≡ y → y ≤ 2 ^ 126 → den ≤ 2 ^ 20 → x + (den - 1) ≤ 2 ^ 127
      small x y den f h k = omega arith

  pub brought_fits : x ≡ y → y ≤ 2 ^ 126 → Fits w128 (x + (den - 1))
  brought_fits f h = record { fits = under (brought_small f h) }
    where
      under : {n : ℕ} → n ≤ 2 ^ 127 → n < 2 ^ 128
      under h = omega (arith, h)

  pub reach_fits : x ≡ y → y ≤ 2 ^ 126 → Fits w128 ((x + (den - 1)) / den + slack)
  reach_fits f h = record { fits = under (div-le_self (x + (den - 1)) den) (brought_small f h) }
    where
      under : {m n : ℕ} → m ≤ n → n ≤ 2 ^ 127 → m + slack < 2 ^ 128
      under h k = omega (arith, h, k, few)

module _ (slack : ℕ) (d : Design) (first g r k : ℕ) (e : g ≡ growth d) (f : r ≡ scaled_reach_from slack d first k) where
  pub next_reach : (x den : ℕ) → x ≡ g * r → den ≡ d.plant_denominator → (x + (den - 1)) / den + slack ≡ scaled_reach_from slack d first (k + 1)
  next_reach x den h i = rw (h, e, f, i, add-one) refl

  module _ (l : k ≤ d.stages) (m : d.stages ≤ k) where
    pub last_is : r ≡ scaled_reach_from slack d first d.stages
    last_is = f ∙ ap (scaled_reach_from slack d first) (at_end k d.stages l m)
      where
        at_end : (k n : ℕ) → k ≤ n → n ≤ k → k ≡ n
        at_end k n l m = omega arith

    pub last_room : (n : ℕ) → growth d * scaled_reach_from slack d first d.stages ≤ n → g * r ≤ n
    last_room n h = rw (e, last_is) h

    pub last_small : (n : ℕ) → g * r ≤ n → growth d * scaled_reach_from slack d first d.stages ≤ n
    last_small n h = rw (e, last_is) at h
