-- Lines that are printed one after the other.
use Rattle.std.proofs.Common.{◌≡◌, ◌⊎◌, inl, inr, ℕ, suc, ◌+◌, ◌<◌, ℤ, List, [], ◌∷◌, ◌++◌, length, Option, Some, None, option_map, Result, Ok, Err, refl, sym, ap, subst, ◌∙◌, arith, append_assoc, append-nil, length-append, true, false}
use Rattle.std.specs.Prelude.{IfOk, IfSome, IsSomeAnd}
use Rattle.std.specs.Result.{is_err, OnErr, OnOk}
use Rattle.io_edge.specs.Faults.{GrowsByPart}
use Rattle.mat_int.specs.Matrix.{Matrix, row_of}
use Rattle.io_edge.specs.declared.sink.Sink.{Ghosts as Screen}
use Rattle.command_line.specs.declared.status.Status.{Status}
use Rattle.command_line.specs.declared.status.Status.TheVariants.{Memory}
use Rattle.plan_lines.specs.Lines.{AreLinesOf}
use Rattle.plan_lines.specs.Making.{Making, Ending, short, stopped}

-- a call that failed, and one that didn't
pub told_err : {T E P : Type 0} (r : Result T E) → is_err r ≡ true → OnErr r P → P
told_err (Ok x) is h = absurd (let never : ⊥ = cc in never)
told_err (Err e) is h = h

pub told_ok : {T E P : Type 0} (r : Result T E) → is_err r ≡ false → OnOk r P → P
told_ok (Ok x) is h = h
told_ok (Err e) is h = absurd (let never : ⊥ = cc in never)

-- what is said of a value, where there is one, of which two things are known
pub ok_both : {T E : Type 0} (r : Result T E) (P Q R : T → Type 0) → ((x : T) → P x → Q x → R x) → IfOk r P → IfOk r Q → IfOk r R
ok_both (Ok x) P Q R f p q = f x p q
ok_both (Err e) P Q R f p q = tt

-- what is said of a machine, a state and a line that are these
pub said_of : {S : Type 0} (P : S → List ℤ → List ℕ → Type 0) (a b : S) (row xi : List ℤ) (line sent : List ℕ) → a ≡ b → row ≡ xi → sent ≡ line → P a row line → P b xi sent
said_of P a b row xi line sent same there is h =
    subst (λ s. P s xi sent) same (subst (λ (x : List ℤ). P a x sent) there (subst (λ (l : List ℕ). P a row l) (sym is) h))

-- what is true of each old text and what it grows to
pub mapped : (P : List ℕ → List ℕ → Type 0) (f : List ℕ → List ℕ) (first last : Option (List ℕ)) → last ≡ option_map f first → ((old : List ℕ) → P old (f old)) → IfSome first (λ old. IsSomeAnd last (P old))
mapped P f (Some old) last e h = subst (λ (o : Option (List ℕ)). IsSomeAnd o (P old)) (sym e) (h old)
mapped P f None last e h = tt

-- bytes of which a proper part was printed, and others after them
pub longer : (bytes tail old new : List ℕ) → GrowsByPart old new bytes → GrowsByPart old new (bytes ++ tail)
longer bytes tail old new p = record {
  part = p.part;
  rest = p.rest ++ tail;
  is = ap (λ (x : List ℕ). x ++ tail) p.is ∙ append_assoc p.part p.rest tail;
  grown = p.grown;
  proper = go tail p.proper;
}
  where
    go : (xs : List ℕ) → (length bytes ≡ 0) ⊎ (0 < length p.rest) → (length (bytes ++ xs) ≡ 0) ⊎ (0 < length (p.rest ++ xs))
    go xs (inr some) = inr (omega (arith, some, length-append p.rest xs))
    go [] (inl none) = inl (omega (arith, none, length-append bytes []))
    go (x ∷ xs) (inl none) = inr (omega (arith, length-append p.rest (x ∷ xs)))

-- what was printed so far: the lines of the first states
pub record PrintedUpTo (IsLine : List ℤ → List ℕ → Type 0) (states : Matrix) (n : ℕ) (first now : Option (List ℕ)) : Type 0 where
  pub text : List ℕ
  pub lines : AreLinesOf IsLine states n text
  pub got : now ≡ option_map (λ old. old ++ text) first

module _ (IsLine : List ℤ → List ℕ → Type 0) (states : Matrix) where
  pub none_yet : (first : Option (List ℕ)) → PrintedUpTo IsLine states 0 first first
  none_yet first = record { text = []; lines = refl; got = same first }
    where
      same : (o : Option (List ℕ)) → o ≡ option_map (λ old. old ++ []) o
      same (Some old) = ap Some (sym (append-nil old))
      same None = refl

  pub one_more : (n : ℕ) (text line : List ℕ) → AreLinesOf IsLine states n text → IsLine (row_of states n) line → AreLinesOf IsLine states (n + 1) (text ++ line)
  one_more n text line lines last =
      subst (λ (k : ℕ). AreLinesOf IsLine states k (text ++ line)) (let next : suc n ≡ n + 1 = omega arith in next) (record { before = text; line = line; those = lines; last = last; is = refl })

  pub line_more : (n : ℕ) (line : List ℕ) (first mid now : Option (List ℕ)) → PrintedUpTo IsLine states n first mid → IsLine (row_of states n) line → now ≡ option_map (λ old. old ++ line) mid →
      PrintedUpTo IsLine states (n + 1) first now
  line_more n line first mid now printed last put = record {
    text = printed.text ++ line;
    lines = one_more n printed.text line printed.lines last;
    got = put ∙ ap (option_map (λ old. old ++ line)) printed.got ∙ joined first;
  }
    where
      joined : (o : Option (List ℕ)) → option_map (λ old. old ++ line) (option_map (λ old. old ++ printed.text) o) ≡ option_map (λ old. old ++ (printed.text ++ line)) o
      joined (Some old) = ap Some (append_assoc old printed.text line)
      joined None = refl

-- a part of a line, after a text
pub after : (text line old new : List ℕ) → 0 < length line → GrowsByPart (old ++ text) new line → GrowsByPart old new (text ++ line)
after text line old new some p = record {
  part = text ++ p.part;
  rest = p.rest;
  is = ap (λ (x : List ℕ). text ++ x) p.is ∙ sym (append_assoc text p.part p.rest);
  grown = p.grown ∙ append_assoc old text p.part;
  proper = elim p.proper [ inl none ↦ absurd (omega (arith, none, some)) | inr left ↦ inr left ];
}

-- a print of one more line that failed
pub line_cut : {T E : Type 0} (r : Result T E) (text line : List ℕ) (first mid last : Option (List ℕ)) → is_err r ≡ true → OnErr r (IfSome mid (λ old. IsSomeAnd last (λ new. GrowsByPart old new line))) →
    mid ≡ option_map (λ old. old ++ text) first → 0 < length line → IfSome first (λ old. IsSomeAnd last (λ new. GrowsByPart old new (text ++ line)))
line_cut r text line first mid last failed err before some =
    go first last (subst (λ (o : Option (List ℕ)). IfSome o (λ old. IsSomeAnd last (λ new. GrowsByPart old new line))) before (told_err r failed err))
  where
    go : (first last : Option (List ℕ)) → IfSome (option_map (λ old. old ++ text) first) (λ old. IsSomeAnd last (λ new. GrowsByPart old new line)) →
        IfSome first (λ old. IsSomeAnd last (λ new. GrowsByPart old new (text ++ line)))
    go (Some old) (Some new) p = after text line old new some p
    go (Some old) None p = p
    go None last p = tt

-- a record that has no line, or memory that ran out
pub no_line : {O : Type 0} (screen : Screen O) (p : Making) (m : Matrix) (out now : O) (s : Status) (k : ℕ) (text : List ℕ) → k < length m.rows →
    screen.got now ≡ option_map (λ old. old ++ text) (screen.got out) → (k ≡ 0 → now ≡ out) → (s ≡ Memory) ⊎ p.stops (k + 1) (row_of m k) s → Ending screen p m out now k text s
no_line screen p m out now s k text lt got first (inl is) = subst (Ending screen p m out now k text) (sym is) (short got)
no_line screen p m out now s k text lt got first (inr stops) = stopped lt stops got first
