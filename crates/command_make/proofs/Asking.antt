-- The names of the files of each command.
use Rattle.std.proofs.Common.{◌≡◌, ℕ, suc, ◌<◌, ◌≤◌, Bool, true, false, if◌then◌else◌, List, length, sym, arith}
use Rattle.command_line.specs.Words.{IsGenerate, IsStay, IsLean, IsLeanStay}
use Rattle.command_make.specs.Make.{IsAsked, generate_asked, stay_asked, lean_asked}

-- as many words, or one more with disturbances
least : (with : Bool) (n low : ℕ) → n ≡ (if with then suc low else low) → low ≤ n
least true n low is = omega (arith, is)
least false n low is = omega (arith, is)

more : (with : Bool) (n low : ℕ) → n ≡ (if with then suc low else low) → with ≡ true → low < n
more true n low is that = omega (arith, is)
more false n low is that = absurd (let never : ⊥ = cc in never)

pub generate_is : (words : List (List ℕ)) → IsGenerate words → IsAsked words generate_asked
generate_is words is = record {
  inputs = omega (arith, is.count);
  controller = omega (arith, is.count);
  report = omega (arith, is.count);
  apart = λ e. is.report 3 (omega arith) (omega (arith, is.count)) (λ k. omega (arith, k)) (sym e);
  faces = λ never. absurd (let no : ⊥ = cc in no);
  range = λ never. absurd (let no : ⊥ = cc in no);
  faces_order = omega arith;
  range_order = omega arith;
}

pub stay_is : (words : List (List ℕ)) (disturbed : Bool) → IsStay words disturbed → IsAsked words (stay_asked disturbed)
stay_is words disturbed is = record {
  inputs = omega (arith, here);
  controller = omega (arith, here);
  report = omega (arith, here);
  apart = λ e. is.report 3 (omega arith) (omega (arith, here)) (λ k. omega (arith, k)) (sym e);
  faces = λ faced. omega (arith, here);
  range = more disturbed (length words) 6 is.count;
  faces_order = omega arith;
  range_order = omega arith;
}
  where
    here : 6 ≤ length words
    here = least disturbed (length words) 6 is.count

pub lean_is : (words : List (List ℕ)) → IsLean words → IsAsked words (lean_asked false false)
lean_is words is = record {
  inputs = omega (arith, is.count);
  controller = omega (arith, is.count);
  report = omega (arith, is.count);
  apart = λ e. is.report 4 (omega arith) (omega (arith, is.count)) (λ k. omega (arith, k)) (sym e);
  faces = λ never. absurd (let no : ⊥ = cc in no);
  range = λ never. absurd (let no : ⊥ = cc in no);
  faces_order = omega arith;
  range_order = omega arith;
}

pub lean_stay_is : (words : List (List ℕ)) (disturbed : Bool) → IsLeanStay words disturbed → IsAsked words (lean_asked true disturbed)
lean_stay_is words disturbed is = record {
  inputs = omega (arith, here);
  controller = omega (arith, here);
  report = omega (arith, here);
  apart = λ e. is.report 4 (omega arith) (omega (arith, here)) (λ k. omega (arith, k)) (sym e);
  faces = λ faced. omega (arith, here);
  range = more disturbed (length words) 7 is.count;
  faces_order = omega arith;
  range_order = omega arith;
}
  where
    here : 7 ≤ length words
    here = least disturbed (length words) 7 is.count
