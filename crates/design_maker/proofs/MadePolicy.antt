-- A made policy's text is read as coasting plans.
use Rattle.std.proofs.Common.{◌≡◌, ◌∙◌, ℕ, zero, suc, ◌+◌, ◌-◌, ◌*◌, ◌^◌, ◌<◌, ◌≤◌, pos, List, [], ◌∷◌, ◌++◌, length, length-append, codes, get_or, replicate, Some, refl, sym, ap, arith, append_assoc}
use Rattle.std.proofs.lemmas.List.{get_or-replicate, length-replicate}
use Rattle.csv.specs.Machine.{next_record}
use Rattle.csv.specs.Reading.{default_config, strip_bom, records_from}
use Rattle.csv.specs.declared.parser.State.TheVariants as st
use Rattle.integer_algebra.specs.Sums.{at}
use Rattle.qp_model.specs.problem.Design.{Design}
use Rattle.qp_model.specs.problem.Policy.{IsPlanDenominator}
use Rattle.policy_file.specs.Records.{HoldsNumbers, records_of, record_at, field_of}
use Rattle.policy_file.specs.PolicyText.{IsPolicyText, policy_rule, record_length}
use Rattle.design_maker.specs.Texts.{policy_text, policy_line}
use Rattle.design_maker.specs.MadeParts.{coasting_plans}
use Rattle.design_maker.proofs.PolicyLines.{zeros, policy_line_is, four_written}
use Rattle.design_maker.proofs.MadeFields.{zero_field, one_field}

-- ---- the records
abbrev fields : ℕ → List (List ℕ)
fields n = codes "1" ∷ replicate n (codes "0")

zeros_read : (n : ℕ) (found : List (List ℕ)) (field rest : List ℕ) → next_record default_config st.InField found field (zeros n ++ 10 ∷ rest) ≡ Some (found ++ field ∷ replicate n (codes "0"), st.StartRecord, rest)
unfolding next_record
zeros_read zero found field rest = refl
zeros_read (suc n) found field rest = rw (← (append_assoc found (field ∷ []) (codes "0" ∷ replicate n (codes "0")))) (zeros_read n (found ++ field ∷ []) (codes "0") rest)

line_read : (n : ℕ) (rest : List ℕ) → next_record default_config st.StartRecord [] [] (49 ∷ (zeros n ++ 10 ∷ rest)) ≡ Some (fields n, st.StartRecord, rest)
unfolding next_record
line_read n rest = zeros_read n [] (codes "1") rest

more_read : (n turns : ℕ) (rest : List ℕ) → records_from default_config (suc turns) st.StartRecord (49 ∷ (zeros n ++ 10 ∷ rest)) ≡ fields n ∷ records_from default_config turns st.StartRecord rest
unfolding records_from
more_read n turns rest = rw (line_read n rest) refl

end_read : (turns : ℕ) → records_from default_config turns st.StartRecord [] ≡ []
unfolding records_from next_record
end_read zero = refl
end_read (suc turns) = refl

-- four lines
abbrev four : ℕ → List ℕ
four n = 49 ∷ (zeros n ++ (10 ∷ (49 ∷ (zeros n ++ (10 ∷ (49 ∷ (zeros n ++ (10 ∷ (49 ∷ (zeros n ++ (10 ∷ [])))))))))))

four_read : (n turns : ℕ) → records_from default_config (suc (suc (suc (suc turns)))) st.StartRecord (four n) ≡ replicate 4 (fields n)
four_read n turns = rw (more_read n (suc (suc (suc turns))) _, more_read n (suc (suc turns)) _, more_read n (suc turns) _, more_read n turns [], end_read turns) refl

no_mark : (n : ℕ) → strip_bom (four n) ≡ four n
unfolding strip_bom
no_mark zero = refl
no_mark (suc n) = refl

text_is : (stages : ℕ) → policy_text stages ≡ four (2 * stages)
unfolding policy_text
text_is stages = four_written (policy_line stages) ∙ rw (policy_line_is stages) refl

zeros_length : (n : ℕ) → length (zeros n) ≡ 2 * n
zeros_length zero = refl
zeros_length (suc n) = omega (arith, zeros_length n)

four_length : (n : ℕ) → length (four n) ≡ 8 * n + 8
four_length n = omega (
  arith,
  zeros_length n,
  length-append (zeros n) (10 ∷ (49 ∷ (zeros n ++ (10 ∷ (49 ∷ (zeros n ++ (10 ∷ (49 ∷ (zeros n ++ (10 ∷ [])))))))))),
  length-append (zeros n) (10 ∷ (49 ∷ (zeros n ++ (10 ∷ (49 ∷ (zeros n ++ (10 ∷ []))))))),
  length-append (zeros n) (10 ∷ (49 ∷ (zeros n ++ (10 ∷ [])))),
  length-append (zeros n) (10 ∷ []),
)

pub policy_short : (stages : ℕ) → stages ≤ 20 → length (policy_text stages) < 2 ^ 32
policy_short stages h = rw (text_is stages, four_length (2 * stages)) (omega (arith, h))

pub policy_records : (stages : ℕ) → records_of (policy_text stages) ≡ replicate 4 (fields (2 * stages))
policy_records stages =
    let n = 2 * stages in
    let turns : length (four n) + 1 ≡ suc (suc (suc (suc (length (four n) - 3)))) = omega (arith, four_length n) in
    rw (text_is stages, no_mark n, turns) (four_read n (length (four n) - 3))

-- ---- the numbers
one_plan : IsPlanDenominator (pos 1)
one_plan = record { low = omega arith; high = omega arith }

plan_fields : (n i : ℕ) → i < suc n → policy_rule i (field_of (fields n) i) (at (pos 1 ∷ replicate n (pos 0)) i)
plan_fields n zero l = (one_field, λ e. one_plan)
plan_fields n (suc i) l = rw (get_or-replicate n i (codes "0") [] (omega arith), get_or-replicate n i (pos 0) (pos 0) (omega arith)) (zero_field, λ e. absurd (omega (arith, e)))

plan_held : (n count : ℕ) → count ≡ suc n → HoldsNumbers policy_rule count (fields n) (pos 1 ∷ replicate n (pos 0))
plan_held n count e = rw e (record { width = ap suc (length-replicate n (codes "0")); numbers = ap suc (length-replicate n (pos 0)); each = plan_fields n })

each_plan : (n count e : ℕ) → count ≡ suc n → e < 4 → HoldsNumbers policy_rule count (record_at (replicate 4 (fields n)) e) (at (replicate 4 (pos 1)) e ∷ get_or (replicate 4 (replicate n (pos 0))) e [])
each_plan n count zero c l = plan_held n count c
each_plan n count (suc zero) c l = plan_held n count c
each_plan n count (suc (suc zero)) c l = plan_held n count c
each_plan n count (suc (suc (suc zero))) c l = plan_held n count c
each_plan n count (suc (suc (suc (suc e)))) c l = absurd (omega arith)

pub is_policy_text : (stages : ℕ) (d : Design) → d.states ≡ 2 → d.inputs ≡ 2 → d.stages ≡ stages → IsPolicyText (policy_text stages) d (coasting_plans stages)
is_policy_text stages d states inputs horizon =
    let size : d.stages * d.inputs ≡ 2 * stages = rw (inputs, horizon) (omega arith) in
    let width : record_length d ≡ suc (2 * stages) = omega (arith, size) in
    record {
      records = rw (policy_records stages, states) refl;
      count = rw states refl;
      rows = rw states refl;
      cols = sym size;
      each = rw (policy_records stages, states) (λ e l. each_plan (2 * stages) (record_length d) e width l);
    }
