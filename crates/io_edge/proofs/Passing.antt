-- Bytes that go to a writer piece by piece.
use Rattle.std.proofs.Common.{◌≡◌, ℕ, List, ◌++◌, take, Option, sym, ap, ◌∙◌, append_assoc}
use Rattle.std.proofs.KnownBytes.{Appends-trans}
use Rattle.std.specs.Io.KnownBytes.{Appends}

-- a writer got a front of these bytes, and these are the others
pub record IsPartWritten (old new : Option (List ℕ)) (bytes rest : List ℕ) : Type 0 where
  pub part : List ℕ
  pub is : bytes ≡ part ++ rest
  pub grown : Appends old new part

pub written_more : (old mid new : Option (List ℕ)) (bytes rest next : List ℕ) (count : ℕ) → IsPartWritten old mid bytes rest → Appends mid new (take count rest) →
    rest ≡ take count rest ++ next → IsPartWritten old new bytes next
written_more old mid new bytes rest next count w g e = record {
  part = w.part ++ take count rest;
  is = w.is ∙ ap (λ (t : List ℕ). w.part ++ t) e ∙ sym (append_assoc w.part (take count rest) next);
  grown = Appends-trans old mid new w.part (take count rest) w.grown g;
}
