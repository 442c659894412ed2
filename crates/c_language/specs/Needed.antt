-- The part of a program that is needed: statements of other variables are left out.
use Rattle.std.specs.Prelude.{Bool, if◌then◌else◌, List, [], ◌∷◌}
use Rattle.c_language.specs.Syntax.{Variable, Statement, CProgram}
use Rattle.c_language.specs.Meaning.{variable_of}

abbrev pub left_in : (Variable → Bool) → List Statement → List Statement
left_in needed [] = []
left_in needed (s ∷ ss) = if needed (variable_of s) then s ∷ left_in needed ss else left_in needed ss

abbrev pub needed_part : (Variable → Bool) → CProgram → CProgram
needed_part needed p = record {
  low = p.low;
  high = p.high;
  kind = p.kind;
  before = left_in needed p.before;
  body = left_in needed p.body;
  repetitions = p.repetitions;
  outputs = p.outputs;
  averages = p.averages;
}
