-- The first coordinate of a state that lies outside the box.
use Rattle.std.specs.Prelude.{◌≡◌, ℕ, ◌+◌, ◌^◌, ◌≤◌, ◌<◌, ℤ, List, length}
use Rattle.qp_model.specs.machine.Controller.{Numbers}
use Rattle.qp_model.specs.machine.Machine.{IsInside}

-- the numbers have a box: bounds for each coordinate, which are not too many for a word
pub record HasBox (c : Numbers) : Type 0 where
  pub low : length c.low ≡ c.states
  pub high : length c.high ≡ c.states
  pub few : c.states < 2 ^ 31

-- coordinate number k, from 1, lies outside, and each before it inside
pub record IsFirstOutside (c : Numbers) (xi : List ℤ) (k : ℕ) : Type 0 where
  pub low : 1 ≤ k
  pub high : k ≤ c.states
  pub outside : (i : ℕ) → i + 1 ≡ k → ¬ IsInside c xi i
  pub before : (i : ℕ) → i + 1 < k → IsInside c xi i
