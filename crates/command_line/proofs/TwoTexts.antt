-- Two texts that a command makes and writes: what their writes leave, and what the command does once its files are read.
use Rattle.std.proofs.Common.{◌≡◌, ◌≢◌, ◌⊎◌, inl, inr, true, false, ℕ, List, Option, Some, None, Result, Ok, Err, refl, sym, ap, ◌∙◌, subst, le_refl}
use Rattle.std.specs.Prelude.{IfOk, IfErr, IfSome, IsSomeAnd, is_err}
use Rattle.std.specs.Result.{OnOk, OnErr}
use Rattle.io_edge.specs.Faults.{Files, Rose, IsWritten, IsCutShort}
use Rattle.io_edge.specs.declared.store.Store.{Ghosts as Disk}
use Rattle.command_line.specs.Words.{word_of}
use Rattle.command_line.specs.Answers.{IsAnswer}
use Rattle.command_line.specs.Deeds.{Deeds}
use Rattle.command_line.specs.Does.{ActsInStore}
use Rattle.command_line.specs.TwoTexts.{BothStand, FirstStands, Two, two_texts, IsUnmade, WritesTwo}
use Rattle.command_line.proofs.Doing.{IsRefusal}
use Rattle.command_line.proofs.Results.{both_some}
use Rattle.command_line.proofs.Following.{nothing_done}
use Rattle.command_line.specs.declared.status.Status.{Status}
use Rattle.command_line.specs.declared.status.Status.TheVariants.{Done, Memory, WriteFault}

-- ---- two writes, one after the other
-- what a call tells where it failed, and where it didn't
pub write_failed : {T E : Type 0} (r : Result T E) (P : Type 0) → is_err r ≡ true → OnErr r P → P
write_failed (Ok x) P is h = absurd (let never : ⊥ = cc in never)
write_failed (Err e) P is h = h

pub write_went : {T E : Type 0} (r : Result T E) (P : Type 0) → is_err r ≡ false → OnOk r P → P
write_went (Ok x) P is h = h
write_went (Err e) P is h = absurd (let never : ⊥ = cc in never)

-- no two of these statuses are one
pub done_no_fault : (A : Type 0) (file : ℕ) → Done ≡ WriteFault file → A
done_no_fault A file is = absurd (let never : ⊥ = cc in never)

pub fault_not_done : (A : Type 0) (file : ℕ) → WriteFault file ≡ Done → A
fault_not_done A file is = absurd (let never : ⊥ = cc in never)

pub faults_apart : (A : Type 0) (words : List (List ℕ)) (one two : ℕ) → word_of words two ≢ word_of words one → WriteFault one ≡ WriteFault two → A
faults_apart A words one two apart is = absurd (apart (ap (word_of words) (let same : two ≡ one = cc in same)))

pub in_turn : (one two three : Option Files) (P Q R : Files → Files → Type 0) → ((old mid new : Files) → P old mid → Q mid new → R old new) → IfSome one (λ old. IsSomeAnd two (P old)) →
    IfSome two (λ mid. IsSomeAnd three (Q mid)) → IfSome one (λ old. IsSomeAnd three (R old))
in_turn (Some old) (Some mid) (Some new) P Q R joined p q = joined old mid new p q
in_turn (Some old) (Some mid) None P Q R joined p q = q
in_turn (Some old) None three P Q R joined p q = absurd p
in_turn None two three P Q R joined p q = tt

module _ (one two text report : List ℕ) (apart : two ≢ one) (old mid new : Files) (first : IsWritten old mid one text) where
  pub both_stand : IsWritten mid new two report → BothStand old new one two text report
  both_stand second = record {
    first = second.others one (λ e. apart (sym e)) ∙ first.here;
    second = second.here;
    others = λ q other last. second.others q last ∙ first.others q other;
  }

  pub first_stands : IsCutShort mid new two report → FirstStands old new one two text report
  first_stands cut = record {
    first = cut.others one (λ e. apart (sym e)) ∙ first.here;
    second = elim cut.here [ inl same ↦ inl (same ∙ first.others two apart) | inr front ↦ inr front ];
    others = λ q other last. cut.others q last ∙ first.others q other;
  }

-- ---- what no texts are made for, and what is known of those that are
pub both_ok : {T E : Type 0} (r : Result T E) {A B C : T → Type 0} → IfOk r A → IfOk r B → ((x : T) → A x → B x → C x) → IfOk r C
both_ok (Ok x) a b f = f x a b
both_ok (Err e) a b f = tt

pub unmade_memory : (Calls : Status → Type 0) (s : Status) → s ≡ Memory → IsUnmade Calls s
unmade_memory Calls s is = record { called = λ caused. absurd (caused.memory is); done = λ e. cc; read = λ file e. cc; write = λ file e. cc }

pub unmade : (Calls : Status → Type 0) (s : Status) → IsAnswer Calls s → IsRefusal s → IsUnmade Calls s
unmade Calls s answer refusal = record { called = λ caused. answer; done = refusal.done; read = refusal.read; write = refusal.write }

-- what is true of a thing that is there
pub some_weaker : {A : Type 0} (o : Option A) (P Q : A → Type 0) → ((a : A) → P a → Q a) → IsSomeAnd o P → IsSomeAnd o Q
some_weaker (Some a) P Q h p = h a p
some_weaker None P Q h p = p

-- ---- what a command does once its files are read
module _ {S : Type 0} {disk : Disk S} {words : List (List ℕ)} {deeds : Deeds} {before now : S} {s : Status} {Calls : Status → Type 0} {Texts : List (List ℕ) → (text report : List ℕ) → Type 0} {first second : ℕ}
    (writes : (file : ℕ) → (file ≡ first) ⊎ (file ≡ second) → deeds.writes file) where
  written : (text report : List ℕ) → Texts words text report → IsAnswer Calls Done → WritesTwo disk words first second text report before now s →
      ActsInStore disk words deeds before now s (two_texts Calls Texts first second)
  written text report are answer w = record {
    called = λ caused. subst (λ (t : Status). IsAnswer Calls t) (sym (elim w.only [ inl is ↦ is | inr (inl cut) ↦ absurd (caused.write first cut) | inr (inr cut) ↦ absurd (caused.write second cut) ])) answer;
    read_fault = λ file is. elim w.only [ inl e ↦ cc | inr (inl e) ↦ cc | inr (inr e) ↦ cc ];
    write_fault = λ file is. (answer.called, inr (failed file is));
    shows = tt;
    quiet = λ unprinted. refl;
    leaves = record {
      both = λ is. made (λ files new. BothStand files new (word_of words first) (word_of words second)) (w.both is);
      first_cut = λ is. made (λ files new one two. IsCutShort files new (word_of words first) one) (w.first_cut is);
      second_cut = λ is. made (λ files new. FirstStands files new (word_of words first) (word_of words second)) (w.second_cut is);
    };
    held = λ unwritten. elim unwritten [
      | inl never ↦ absurd (never first (writes first (inl refl)))
      | inr none ↦ absurd (elim w.only [ inl e ↦ none.0 e | inr (inl e) ↦ none.1 first e | inr (inr e) ↦ none.1 second e ])
    ];
    reads = w.reads;
    writes = w.writes;
    no_fewer = le_refl 0;
  }
    where
      made : (P : (files new : Files) → (text report : List ℕ) → Type 0) → IfSome (disk.held before) (λ files. IsSomeAnd (disk.held now) (λ new. P files new text report)) →
          IfSome (disk.held before) (λ files. IsSomeAnd (disk.held now) (λ new. Two (Texts words) (P files new)))
      made P = both_some (λ files new. P files new text report) (λ files new. Two (Texts words) (P files new)) (λ files new h. record { text = text; report = report; are = are; true_of = h }) (disk.held before) (disk.held now)

      at : (file position : ℕ) → file ≡ position → ((file ≡ first) ⊎ (file ≡ second)) → Rose (disk.write_faults before (word_of words position)) (disk.write_faults now (word_of words position)) →
          deeds.writes file × Rose (disk.write_faults before (word_of words file)) (disk.write_faults now (word_of words file))
      at file position same one rose = (writes file one, subst (λ (i : ℕ). Rose (disk.write_faults before (word_of words i)) (disk.write_faults now (word_of words i))) (sym same) rose)

      failed : (file : ℕ) → s ≡ WriteFault file → deeds.writes file × Rose (disk.write_faults before (word_of words file)) (disk.write_faults now (word_of words file))
      failed file is = by w.only
        where
          by : (s ≡ Done) ⊎ ((s ≡ WriteFault first) ⊎ (s ≡ WriteFault second)) → deeds.writes file × Rose (disk.write_faults before (word_of words file)) (disk.write_faults now (word_of words file))
          by (inl done) = absurd (let never : ⊥ = cc in never)
          by (inr (inl cut)) = let same : file ≡ first = cc in at file first same (inl same) (w.first_failed cut)
          by (inr (inr cut)) = let same : file ≡ second = cc in at file second same (inr same) (w.second_failed cut)

  unwritten : IsUnmade Calls s → now ≡ before → ActsInStore disk words deeds before now s (two_texts Calls Texts first second)
  unwritten none same = subst (λ (last : S). ActsInStore disk words deeds before last s (two_texts Calls Texts first second)) (sym same)
      (nothing_done none.called none.read none.write (λ old. refl)
      (record { both = λ e. absurd (none.done e); first_cut = λ e. absurd (none.write first e); second_cut = λ e. absurd (none.write second e) }))

  -- by what was made of them, or why nothing was
  pub two_done : {T : Type 0} (r : Result T Status) (text report : T → List ℕ) → IfOk r (λ t. Texts words (text t) (report t)) → IfOk r (λ t. IsAnswer Calls Done) → IfErr r (IsUnmade Calls) →
      IfOk r (λ t. WritesTwo disk words first second (text t) (report t) before now s) → IfErr r (λ e. (s ≡ e) × (now ≡ before)) → ActsInStore disk words deeds before now s (two_texts Calls Texts first second)
  two_done (Ok t) text report are answer none wrote kept = written (text t) (report t) are answer wrote
  two_done (Err e) text report are answer none wrote kept = unwritten (subst (IsUnmade Calls) (sym kept.0) none) kept.1
