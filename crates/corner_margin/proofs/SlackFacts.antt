-- What code makes of a corner's rows are what its slacks are at least.
use Rattle.std.proofs.Common.{◌≡◌, ℕ, ◌+◌, ◌-◌, ◌*◌, ◌^◌, ◌<◌, ◌≤◌, ℤ, pos, ◌+ℤ◌, ◌-ℤ◌, ◌*ℤ◌, ◌≤ℤ◌, ◌<ℤ◌, unsigned_abs, FitsSigned, arith, ap}
use Rattle.std.specs.Int.{w128}
use Rattle.std.proofs.Math.IntN.{*ℤ_comm}
use Rattle.std.proofs.Math.Nat.{pow-le-pow_right}
use Rattle.std.proofs.lemmas.Int.{ints, unsigned_abs-mul, by_lt_z}
use Rattle.integer_algebra.specs.Bounds.{absolute}
use Rattle.integer_algebra.specs.Division.{floor_of, IsFloor}
use Rattle.integer_algebra.proofs.DivisionLaws.{floor_of_is}
use Rattle.integer_algebra.proofs.OrderLaws.{le_trans_z, mul-le-mul_left_z, mul-le-mul_right_z}
use Rattle.frac_scaled.specs.Enclosures.{Enclosure, magnitude}
use Rattle.frac_scaled.specs.declared.fraction.Frac.{Frac}
use Rattle.qp_model.specs.declared.design_parts.DesignParts.{DesignParts}
use Rattle.qp_model.specs.problem.Design.{rows}
use Rattle.qp_model.specs.problem.Parts.{design_of}
use Rattle.qp_model.specs.problem.Policy.{Plans}
use Rattle.qp_model.specs.problem.Runs.{bound_at}
use Rattle.qp_model.specs.form.Quantities.{limit_width}
use Rattle.qp_model.specs.bounds.Margin.{Shown}
use Rattle.qp_model.proofs.CornerFacts.{product_small}
use Rattle.qp_model.proofs.QuantityLaws.{bound_width}
use Rattle.condensed_form.proofs.Rooms.{narrow}
use Rattle.condensed_form.proofs.DenominatorFacts.{natural}
use Rattle.scaled_run.specs.ScaledCorners.{scaled_corner_limit, scaled_least_slack}
use Rattle.scaled_run.specs.Lists.{Reaches}
use Rattle.corner_margin.specs.Corner.{IsCornerScale}
use Rattle.corner_margin.specs.Simulation.{HasUnits, IsShortRow}
use Rattle.corner_margin.proofs.RoomFacts.{under, brought_size, limit_within, limit_room}

pub one_is : (z : ℤ) → pos 1 *ℤ z ≡ z
one_is z = omega (arith, ints)

pub one-le-mul_z : {a b : ℤ} → pos 1 ≤ℤ a → pos 1 ≤ℤ b → pos 1 ≤ℤ (a *ℤ b)
one-le-mul_z {a} {b} h k = last a (a *ℤ b) h (mul-le-mul_left_z a (omega (arith, ints, h)) k)
  where
    last : (a y : ℤ) → pos 1 ≤ℤ a → (a *ℤ pos 1) ≤ℤ y → pos 1 ≤ℤ y
    last a y h k = omega (arith, ints, h, k)

-- a grid of at most 2^24
pub grid_fits : (grid : ℕ) → grid ≤ 24 → FitsSigned w128 (pos 1 *ℤ pos (2 ^ grid))
grid_fits grid h = rw (one_is (pos (2 ^ grid))) (narrow _ (small (pow-le-pow_right {n = 2} (omega arith) {i = grid} {j = 24} h)))
  where
    small : {n : ℕ} → n ≤ 2 ^ 24 → n ≤ 2 ^ 126
    small h = omega (arith, h)

-- a bound and a value that reach so far
both_room : (b : ℤ) (e : Enclosure) (t : ℕ) → unsigned_abs b ≤ t → Reaches e t → 2 ^ 17 * t ≤ 2 ^ 126 → (absolute b +ℤ magnitude e) ≤ℤ pos (2 ^ 126)
both_room b e t h r k = omega (arith, ints, h, r.within, k)

slack_size : (b : ℤ) (e : Enclosure) (t : ℕ) → unsigned_abs b ≤ t → Reaches e t → 2 ^ 17 * t ≤ 2 ^ 126 → 2 ^ 16 * unsigned_abs (b -ℤ e.mid -ℤ e.rad) ≤ 2 ^ 126
slack_size b e t h r k = small (unsigned_abs (b -ℤ e.mid -ℤ e.rad)) (near b e.mid e.rad h r.radius r.within)
  where
    near : (b m r : ℤ) → unsigned_abs b ≤ t → pos 0 ≤ℤ r → (absolute m +ℤ r) ≤ℤ pos t → unsigned_abs (b -ℤ m -ℤ r) ≤ 2 * t
    near b m r h l o = omega (arith, ints)

    small : (n : ℕ) → n ≤ 2 * t → 2 ^ 16 * n ≤ 2 ^ 126
    small n h = omega (arith, k)

module _ {p : DesignParts} {s : Plans} {unit reach c : ℕ} (k : IsCornerScale p s unit reach c) where
  bound_size : (i : ℕ) → i < rows (design_of p) → unit * unsigned_abs (bound_at (design_of p) i) ≤ limit_width (design_of p) * reach
  bound_size i l = brought_size k _ _ (bound_width (design_of p) i l)

  pub bound_fits : (i : ℕ) → i < rows (design_of p) → unit * unsigned_abs (bound_at (design_of p) i) ≤ 2 ^ 126
  bound_fits i l = under (bound_size i l) (limit_room k)

  brought_bound : (i : ℕ) → i < rows (design_of p) → unsigned_abs (pos unit *ℤ bound_at (design_of p) i) ≤ limit_width (design_of p) * reach
  brought_bound i l = rw (unsigned_abs-mul (pos unit) (bound_at (design_of p) i)) (bound_size i l)

  pub value_fits : (i : ℕ) → i < rows (design_of p) → (absolute (pos unit *ℤ bound_at (design_of p) i) +ℤ magnitude (scaled_corner_limit unit (design_of p) s (c + 1) i)) ≤ℤ pos (2 ^ 126)
  value_fits i l = both_room (pos unit *ℤ bound_at (design_of p) i) (scaled_corner_limit unit (design_of p) s (c + 1) i) _ (brought_bound i l) (limit_within k i l) k.slack

  pub slack_within : (i : ℕ) → i < rows (design_of p) → 2 ^ 16 * unsigned_abs (scaled_least_slack unit (design_of p) s (c + 1) i) ≤ 2 ^ 126
  slack_within i l = slack_size (pos unit *ℤ bound_at (design_of p) i) (scaled_corner_limit unit (design_of p) s (c + 1) i) _ (brought_bound i l) (limit_within k i l) k.slack

  -- ---- what slacks are over
  pub den_size : unit * unsigned_abs p.limit_den ≤ 2 ^ 126
  den_size = last _ _ _ _ k.covers width k.slack
    where
      width : unsigned_abs p.limit_den ≤ limit_width (design_of p)
      width = omega arith

      last : (u a t w : ℕ) → u ≤ t → a ≤ w → 2 ^ 17 * (w * t) ≤ 2 ^ 126 → u * a ≤ 2 ^ 126
      last u a t w h k m = omega (arith, product_small u a t w h k, m)

  pub den_is : pos unit *ℤ p.limit_den ≡ pos (unsigned_abs p.limit_den * unit)
  den_is = closed unit (unsigned_abs p.limit_den) p.limit_den (natural p.limit_den k.design.limit_den.low)
    where
      closed : (u n : ℕ) (z : ℤ) → z ≡ pos n → pos u *ℤ z ≡ pos (n * u)
      closed u n z e = rw e (ap pos (turn u n))
        where
          turn : (a b : ℕ) → a * b ≡ b * a
          turn a b = omega arith

  pub den_some : pos 1 ≤ℤ (pos unit *ℤ p.limit_den)
  den_some = one-le-mul_z (some unit k.some) k.design.limit_den.low
    where
      some : (n : ℕ) → 1 ≤ n → pos 1 ≤ℤ pos n
      some n h = omega (arith, ints)

-- ---- the first slack that is too small
pub short_row : (k : Shown) (rows c i r : ℕ) (slack : Frac) → i + 1 ≡ r → i < rows →
    ((j : ℕ) → j < i → k.slack_scale c ≤ℤ (pos (2 ^ 16) *ℤ k.slack c j)) → (pos (2 ^ 16) *ℤ k.slack c i) <ℤ k.slack_scale c →
    slack.num ≡ k.slack c i → slack.den ≡ k.slack_scale c → IsShortRow k rows c r slack
short_row k rows c i r slack e l b h n m =
    let f : r - 1 ≡ i = omega (arith, e) in
    record {
      first = omega (arith, e);
      last = omega (arith, e, l);
      before = rw f (λ j o. rw (one_is (k.slack_scale c)) (b j o));
      short = rw f h;
      numerator = rw f n;
      denominator = m;
    }

-- ---- the least slack
-- its quotient, rounded down
floor_some : (q den z : ℤ) → pos 1 ≤ℤ den → den ≤ℤ z → z <ℤ ((q +ℤ pos 1) *ℤ den) → pos 1 ≤ℤ q
floor_some q den z h k l = by_lt_z q (pos 1) (λ m. absurd (last q den z k l (mul-le-mul_right_z den (omega (arith, ints, h)) (below q m)))) (λ m. m)
  where
    below : (q : ℤ) → q <ℤ pos 1 → (q +ℤ pos 1) ≤ℤ pos 1
    below q m = omega (arith, ints, m)

    last : (q den z : ℤ) → den ≤ℤ z → z <ℤ ((q +ℤ pos 1) *ℤ den) → ((q +ℤ pos 1) *ℤ den) ≤ℤ (pos 1 *ℤ den) → ⊥
    last q den z k l m = omega (arith, ints, k, l, m)

pub units_of : (k : Shown) (rows c : ℕ) (least den units : ℤ) → den ≡ k.slack_scale c → pos 1 ≤ℤ den →
    ((i : ℕ) → i < rows → den ≤ℤ (pos (2 ^ 16) *ℤ k.slack c i)) →
    ((i : ℕ) → i < rows → least ≤ℤ k.slack c i) → (j : ℕ) → j < rows → least ≡ k.slack c j →
    units ≡ floor_of (least *ℤ pos (2 ^ 16)) (unsigned_abs den) → HasUnits k rows c units
units_of k rows c least den units e h all below j l met u = record {
  some = floor_some units den (pos (2 ^ 16) *ℤ k.slack c j) h (all j l) short;
  slacks = λ i o. rw (← e) (le_trans_z low (mul-le-mul_left_z (pos (2 ^ 16)) (omega (arith, ints)) (below i o)));
  row = j;
  inside = l;
  short = rw (← e) short;
}
  where
    floor : IsFloor (least *ℤ pos (2 ^ 16)) (unsigned_abs den) units
    floor = rw u (floor_of_is (least *ℤ pos (2 ^ 16)) (unsigned_abs den) (omega (arith, ints, h)))

    low : (units *ℤ den) ≤ℤ (pos (2 ^ 16) *ℤ least)
    low = turn least units den (unsigned_abs den) (natural den h) floor.least
      where
        turn : (x u d : ℤ) (n : ℕ) → d ≡ pos n → (u *ℤ pos n) ≤ℤ (x *ℤ pos (2 ^ 16)) → (u *ℤ d) ≤ℤ (pos (2 ^ 16) *ℤ x)
        turn x u d n e h = rw (e, *ℤ_comm (pos (2 ^ 16)) x) h

    short : (pos (2 ^ 16) *ℤ k.slack c j) <ℤ ((units +ℤ pos 1) *ℤ den)
    short = turn least units den (unsigned_abs den) (k.slack c j) (natural den h) met floor.greatest
      where
        turn : (x u d : ℤ) (n : ℕ) (y : ℤ) → d ≡ pos n → x ≡ y → (x *ℤ pos (2 ^ 16)) <ℤ ((u +ℤ pos 1) *ℤ pos n) → (pos (2 ^ 16) *ℤ y) <ℤ ((u +ℤ pos 1) *ℤ d)
        turn x u d n y e f h = rw (e, ← f, *ℤ_comm (pos (2 ^ 16)) x) h

-- the least slack, times 2^16
pub least_fits : (x y : ℤ) → x ≡ y → 2 ^ 16 * unsigned_abs y ≤ 2 ^ 126 → FitsSigned w128 (x *ℤ pos (2 ^ 16))
least_fits x y e h = rw e (narrow (y *ℤ pos (2 ^ 16)) (omega (arith, h, unsigned_abs-mul y (pos (2 ^ 16)))))
