-- What a store tells, and the contents of files.
use Rattle.std.proofs.Common.{ℕ, zero, suc, List, Option, Some, None, refl}
use Rattle.io_edge.specs.Faults.{Files}
use Rattle.command_line.specs.Words.{word_of}
use Rattle.command_line.specs.Answers.{Contents, IsTold, AreTold, ForContents}

-- ---- what the store tells
-- what a store tells of a name; nothing where it tells nothing
abbrev pub told_at : Option Files → (name : List ℕ) → Option (List ℕ)
told_at (Some files) name = files name
told_at None name = None

pub told : (held : Option Files) (name : List ℕ) → IsTold held name (told_at held name)
told (Some files) name = refl
told None name = tt

-- ---- contents
-- what the store tells at every position
abbrev pub told_contents : List (List ℕ) → Option Files → Contents
told_contents words held position = told_at held (word_of words position)

pub all_told : (words : List (List ℕ)) (held : Option Files) → AreTold words held (told_contents words held)
all_told words held position = told held (word_of words position)

-- these contents with another at one position
abbrev pub replace : ℕ → Option (List ℕ) → Contents → Contents
replace zero content contents zero = content
replace zero content contents (suc position) = contents (suc position)
replace (suc at) content contents zero = contents zero
replace (suc at) content contents (suc position) = replace at content (λ i. contents (suc i)) position

each_replaced : (P : ℕ → Option (List ℕ) → Type 0) (at : ℕ) (content : Option (List ℕ)) (contents : Contents) → P at content → ((i : ℕ) → P i (contents i)) → (i : ℕ) → P i (replace at content contents i)
each_replaced P zero content contents here others zero = here
each_replaced P zero content contents here others (suc i) = others (suc i)
each_replaced P (suc at) content contents here others zero = others zero
each_replaced P (suc at) content contents here others (suc i) = each_replaced (λ k. P (suc k)) at content (λ k. contents (suc k)) here (λ k. others (suc k)) i

pub replaced_told : (words : List (List ℕ)) (held : Option Files) (at : ℕ) (content : Option (List ℕ)) (contents : Contents) → IsTold held (word_of words at) content → AreTold words held contents →
    AreTold words held (replace at content contents)
replaced_told words held at content contents here others = each_replaced (λ i o. IsTold held (word_of words i) o) at content contents here others

-- there are contents that the store tells
pub some_contents : (words : List (List ℕ)) (held : Option Files) (P : Contents → Type 0) → ((contents : Contents) → P contents) → ForContents words held P
some_contents words held P h = record { contents = told_contents words held; told = all_told words held; true_of = h (told_contents words held) }

-- what is true of some contents by which P goes to Q
pub weaker : (words : List (List ℕ)) (held : Option Files) (P Q : Contents → Type 0) → ((contents : Contents) → P contents → Q contents) → ForContents words held P → ForContents words held Q
weaker words held P Q h f = record { contents = f.contents; told = f.told; true_of = h f.contents f.true_of }
