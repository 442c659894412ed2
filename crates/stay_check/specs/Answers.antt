-- What a check of faces answers.
use Rattle.std.specs.Prelude.{◌≡◌, ◌≢◌, ◌⊎◌, ℕ, ◌+◌, ◌-◌, ◌*◌, ◌^◌, ◌<◌, ◌≤◌, ℤ}
use Rattle.qp_model.specs.problem.Design.{Design}
use Rattle.qp_model.specs.declared.quantity.Quantity.TheVariants.{Stay}
use Rattle.stay_check.specs.FaceForms.{Face, FaceNumbers, face_of, input_of_rows, input_of_coordinate, HasEqualInputs, farthest_next, IsOnSide, FaceHolds}
use Rattle.stay_check.specs.Staying.{FacesHold}
use Rattle.stay_check.specs.StaySize.{stay_size}
use Rattle.stay_check.specs.declared.fault.StayFault.{StayFault}
use Rattle.stay_check.specs.declared.fault.StayFault.TheVariants.{TooWide, Unequal, NoStay}

-- of this input, counted from 1, a face has unequal sums, and of none before it
pub record IsFirstUnequal (d : Design) (f : Face) (input : ℕ) (left right : ℤ) : Type 0 where
  pub low : 1 ≤ input
  pub high : input ≤ d.inputs
  pub before : (l : ℕ) → l + 1 < input → input_of_rows d f l ≡ input_of_coordinate d f l
  pub left_is : left ≡ input_of_rows d f (input - 1)
  pub right_is : right ≡ input_of_coordinate d f (input - 1)
  pub differ : left ≢ right

-- as the fault of a face, which is entry number e, from 1
abbrev pub IsUnequalFault : Design → Face → ℕ → StayFault → Type 0
IsUnequalFault d f e (TooWide quantity) = ⊥
IsUnequalFault d f e (Unequal entry input left right) = (entry ≡ e) × IsFirstUnequal d f input left right
IsUnequalFault d f e (NoStay entry bound) = ⊥

-- the farthest coordinate is beyond the face
pub record IsBeyond (d : Design) (excess low high : ℕ → ℤ) (f : Face) (bound : ℤ) : Type 0 where
  pub inputs : HasEqualInputs d f
  pub is : bound ≡ farthest_next d excess low high f
  pub beyond : IsOnSide f.upper (d.low f.coordinate) (d.high f.coordinate) bound → ⊥

-- the fault of a face
abbrev pub IsFaceFault : Design → (excess low high : ℕ → ℤ) → Face → ℕ → StayFault → Type 0
IsFaceFault d excess low high f e (TooWide quantity) = ⊥
IsFaceFault d excess low high f e (Unequal entry input left right) = (entry ≡ e) × IsFirstUnequal d f input left right
IsFaceFault d excess low high f e (NoStay entry bound) = (entry ≡ e) × IsBeyond d excess low high f bound

-- the fault of the first face that has one
pub record IsFacesFault (d : Design) (excess low high : ℕ → ℤ) (faces : FaceNumbers) (fault : StayFault) : Type 0 where
  pub index : ℕ
  pub inside : index < 2 * d.states
  pub before : (e : ℕ) → e < index → FaceHolds d excess low high (face_of faces e)
  pub here : IsFaceFault d excess low high (face_of faces index) (index + 1) fault

-- no face is tested where `stay` passes its limit
abbrev pub IsStayFault : Design → (excess low high : ℕ → ℤ) → FaceNumbers → StayFault → Type 0
IsStayFault d excess low high faces fault =
    ((2 ^ 126 < stay_size d excess faces) × (fault ≡ TooWide Stay)) ⊎
    ((stay_size d excess faces ≤ 2 ^ 126) × IsFacesFault d excess low high faces fault)

-- `stay` is within its limit, and every face holds
abbrev pub Stays : Design → (excess low high : ℕ → ℤ) → FaceNumbers → Type 0
Stays d excess low high faces = (stay_size d excess faces ≤ 2 ^ 126) × FacesHold d excess low high faces
