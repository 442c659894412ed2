-- A text of faces record by record: what it holds, and that it is right in one way.
use Rattle.std.proofs.Common.{◌≡◌, ◌⊎◌, ℕ, suc, ◌*◌, ◌<◌, ◌==◌, ℤ, pos, List, ◌∷◌, length, drop, Result, Ok, Err, sym, ap, subst, ◌∙◌, arith, inl, inr, false}
use Rattle.std.specs.Prelude.{IfOk, IfErr, MatchResult}
use Rattle.std.proofs.lemmas.List.{get_or_default, ext_get_or}
use Rattle.std.proofs.lemmas.Bool.{ne_eqb}
use Rattle.integer_algebra.specs.Sums.{at}
use Rattle.mat_int.specs.Matrix.{row_of}
use Rattle.number_text.specs.declared.text_fault.TextFault.{TextFault}
use Rattle.number_text.specs.declared.text_fault.TextFault.TheVariants.{Memory}
use Rattle.qp_model.specs.problem.Design.{Design}
use Rattle.policy_file.specs.Records.{records_of, record_at}
use Rattle.policy_file.specs.FaceRule.{face_rule}
use Rattle.policy_file.specs.HeadedText.{IsHeadedText, IsHeadedFault}
use Rattle.policy_file.proofs.MatrixFacts.{same_matrix}
use Rattle.policy_file.proofs.UniqueFacts.{IsFunctional, same_number, same_numbers, held_or_wrong, same_first_fault, both_ways}
use Rattle.stay_check.specs.FirstRows.{first_row_count}
use Rattle.stay_check.specs.FaceForms.{FaceNumbers, faces_of, AreFacesFor}
use Rattle.stay_check.specs.FacesText.{face_length, IsFacesText, IsFacesTextFault}
use Rattle.stay_check.specs.declared.faces.Faces.{Faces}

-- factors and weights that were read
pub faces_read : (text : List ℕ) (d : Design) (f : FaceNumbers) (n : ℕ) → n ≡ first_row_count d → IsHeadedText face_rule text n (2 * d.states) f.factors f.weights → IsFacesText text d f
faces_read text d f n e h =
    let r = subst (λ k. IsHeadedText face_rule text k (2 * d.states) f.factors f.weights) e h in
    record { records = r.records; count = r.count; rows = r.rows; cols = r.cols; each = r.each }

-- and the fault of a text that has none
pub faces_fault : (text : List ℕ) (d : Design) (n : ℕ) (fault : TextFault) → n ≡ first_row_count d → (fault ≡ Memory) ⊎ IsHeadedFault face_rule text n (2 * d.states) fault → (fault ≡ Memory) ⊎ IsFacesTextFault text d fault
faces_fault text d n fault e (inl memory) = inl memory
faces_fault text d n fault e (inr told) = inr (by (subst (λ k. IsHeadedFault face_rule text k (2 * d.states) fault) e told))
  where
    by : IsHeadedFault face_rule text (first_row_count d) (2 * d.states) fault → IsFacesTextFault text d fault
    by (inl f) = inl f
    by (inr f) = inr (record { each = f.each; here = f.here; told = f.told })

-- ---- one way
face_functional : IsFunctional face_rule
unfolding IsFunctional
face_functional i field z w h k = same_number field z w h.0 k.0

faces_not : (bytes : List ℕ) (d : Design) (f : FaceNumbers) (e : TextFault) → IsFacesText bytes d f → IsFacesTextFault bytes d e → ⊥
faces_not bytes d f e h (inl w) = held_or_wrong face_rule (face_length d) (2 * d.states) (records_of bytes) e (omega (arith, h.records)) (λ i l. (at f.factors i ∷ row_of f.weights i, h.each i l)) w
faces_not bytes d f e h (inr w) = w.here h.records

same_faces : (a b : FaceNumbers) → a.factors ≡ b.factors → a.weights ≡ b.weights → a ≡ b
same_faces a b d n = (λ i. record { factors = d i; weights = n i })

faces_same : (bytes : List ℕ) (d : Design) (a b : FaceNumbers) → IsFacesText bytes d a → IsFacesText bytes d b → a ≡ b
faces_same bytes d a b h k = same_faces a b
    (ext_get_or (pos 0) a.factors b.factors (h.count ∙ sym k.count) (λ e l. ap (λ (zs : List ℤ). at zs 0) (both e (rw (← h.count) l))))
    (same_matrix a.weights b.weights (h.cols ∙ sym k.cols) (h.rows ∙ sym k.rows) (λ e l. ap (drop 1) (both e (rw (← h.rows) l))))
  where
    both : (e : ℕ) → e < 2 * d.states → at a.factors e ∷ row_of a.weights e ≡ at b.factors e ∷ row_of b.weights e
    both e m = same_numbers face_rule (face_length d) (record_at (records_of bytes) e) _ _ face_functional (h.each e m) (k.each e m)

faces_one : (bytes : List ℕ) (d : Design) (e f : TextFault) → IsFacesTextFault bytes d e → IsFacesTextFault bytes d f → e ≡ f
faces_one bytes d e f (inl h) (inl k) = same_first_fault face_rule (face_length d) (records_of bytes) e f h k
faces_one bytes d e f (inl h) (inr k) = absurd (held_or_wrong face_rule (face_length d) (length (records_of bytes)) (records_of bytes) e (omega arith) k.each h)
faces_one bytes d e f (inr h) (inl k) = absurd (held_or_wrong face_rule (face_length d) (length (records_of bytes)) (records_of bytes) f (omega arith) h.each k)
faces_one bytes d e f (inr h) (inr k) = h.told ∙ sym k.told

pub faces_told : (bytes : List ℕ) (d : Design) (r : Result Faces TextFault) → IfOk r (λ f. IsFacesText bytes d (faces_of f)) → IfErr r (λ e. (e ≡ Memory) ⊎ IsFacesTextFault bytes d e) →
    ((a : FaceNumbers) → IsFacesText bytes d a → MatchResult r (λ f. faces_of f ≡ a) (λ e. e ≡ Memory)) ×
    ((e : TextFault) → IsFacesTextFault bytes d e → MatchResult r (λ _. ⊥) (λ f. (f ≡ e) ⊎ (f ≡ Memory)))
faces_told bytes d r found fault =
    both_ways faces_of r (IsFacesText bytes d) (IsFacesTextFault bytes d) found fault (faces_not bytes d) (faces_same bytes d) (faces_one bytes d)

-- ---- sizes and ranges
faces_sized : (bytes : List ℕ) (d : Design) (f : FaceNumbers) → IsFacesText bytes d f → AreFacesFor d f
faces_sized bytes d f h = record {
  count = h.count;
  factors = λ e z l. (
      let m : e < 2 * d.states = omega (arith, h.count, l) in
      let n = ((h.each e m).each 0 (omega arith)).1 in
      rw (get_or_default f.factors e z (pos 0) l) (record { low = n.low; high = n.high })
      );
  rows = h.rows;
  cols = h.cols;
  weights = λ e r l m. (
      let n = ((h.each e l).each (suc r) (omega (arith, m))).1 in
      let other : (suc r == 0) ≡ false = ne_eqb (suc r) 0 (λ q. omega (arith, q)) in
      record { low = rw other at n.low; high = n.high }
      );
}

pub faces_all_sized : (bytes : List ℕ) (d : Design) (r : Result Faces TextFault) → IfOk r (λ f. IsFacesText bytes d (faces_of f)) → IfOk r (λ f. AreFacesFor d (faces_of f))
faces_all_sized bytes d (Ok f) h = faces_sized bytes d (faces_of f) h
faces_all_sized bytes d (Err e) h = tt
