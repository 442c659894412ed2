-- What a `?` hands on, and what is known of values that are there.
use Rattle.std.proofs.Common.{◌≡◌, Option, Some, None, Result, Ok, Err, ap}
use Rattle.std.specs.Prelude.{IfSome, IsSomeAnd, IsErrAnd}

-- an error that is known
pub err_same : {Y E : Type 0} (r : Result Y E) (d : E) → IsErrAnd r (λ e. e ≡ d) → r ≡ Err d
err_same (Ok y) d h = absurd h
err_same (Err e) d h = ap Err h

-- what is known of two values, where both are there
pub both_some : {A B : Type 0} (P Q : A → B → Type 0) → ((a : A) (b : B) → P a b → Q a b) → (x : Option A) (y : Option B) → IfSome x (λ a. IsSomeAnd y (P a)) → IfSome x (λ a. IsSomeAnd y (Q a))
both_some P Q h (Some a) (Some b) is = h a b is
both_some P Q h (Some a) None is = is
both_some P Q h None y is = tt
