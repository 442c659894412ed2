-- A line can follow where it has its place and its numbers are in range.
use Rattle.std.proofs.Common.{◌≡◌, ◌≢◌, inl, inr, ℕ, zero, suc, ◌+◌, ◌-◌, ◌<◌, Bool, ℤ, pos, List, [], ◌∷◌, ◌++◌, length, get_or, map, Option, Some, None, refl, sym, ap, subst, ◌∙◌, arith}
use Rattle.std.specs.Prelude.{◌↔◌, All, codes, slice_get, ◌==◌, ◌&&◌, if◌then◌else◌}
use Rattle.std.proofs.lemmas.Bool.{lt-ltb, ne_eqb}
use Rattle.std.proofs.lemmas.List.{append-nil, get_or_at}
use Rattle.std.proofs.lemmas.List.Elements.{All-map}
use Rattle.integer_algebra.specs.Sums.{at}
use Rattle.qp_model.specs.problem.Limits.{most_states, most_stages, most_rows}
use Rattle.controller_text.specs.declared.layout.Sizes.{Sizes}
use Rattle.text_lines.specs.Lines.{Keyed, keyed_line, no_line, Fits, line_in, small, Place, place, place_of}
use Rattle.controller_text.specs.Table.{places, sizes_of, Says}
use Rattle.text_lines.specs.Grammar.{IsBeginning}
use Rattle.controller_file.specs.Following.{IsAnyWhole, IsFrom, AreSizes, AreUpper, word_count, head_blocks, head_block, InRange}
use Rattle.controller_text.specs.declared.block.Block.{Block}
use Rattle.controller_text.specs.declared.block.Block.TheVariants.{Version, Size, Bits, Steps, Clamp, Words, Exponents, Low, High}
use Rattle.controller_text.specs.TextForm.{most_steps, exponent_rows}
use Rattle.controller_text.proofs.Forms.{versions}
use Rattle.controller_text.proofs.Blocks.{sizes_small}
use Rattle.controller_file.proofs.Blank.{most_plain}
use Rattle.controller_file.proofs.Again.{small_is}
use Rattle.controller_file.proofs.Beginnings.{fewer, line_is, last_is, parted, next_is}
use Rattle.controller_file.proofs.HeadLines.{from_natural, exponent_line, first_lines, list_lines, tail_lines, first_count, up_to, split_at, count_to, version_follows, size_follows, bits_follow}
use Rattle.controller_file.proofs.HeadLines.{steps_follow, clamp_follows, words_follow, exponents_follow, low_follows, high_follows}
use Rattle.controller_file.proofs.ListLines.{version_is, sizes_are, places_are, list_follows, at_line}

abbrev versioned : Sizes → ℕ → Sizes
versioned z v = record z { version = v }

versioned_is : (z : Sizes) (v : ℕ) → z.version ≡ v → z ≡ versioned z v
versioned_is z v e = (λ i. record { version = e i; n = z.n; p = z.p; stages = z.stages; m = z.m })

-- its place and its range, where n lines are before it
pub record HasPlace (z : Sizes) (ls : List Keyed) (l : Keyed) (n : ℕ) : Type 0 where
  pub place : slice_get (places z) n ≡ Some (place_of l)
  pub range : InRange (head_block z n) ls z l.numbers

place_is : {x y : Place} → Some x ≡ Some y → y ≡ x
place_is e = cc (sym e)

-- ---- the block of a line by the version

first_block : (z : Sizes) (n : ℕ) → 5 < n → head_block (versioned z 1) n ≡ slice_get head_blocks (n + 1)
first_block z n lt = ap (λ (b : Bool). slice_get head_blocks (if b && (1 == 1) then n + 1 else n)) (lt-ltb 5 n lt)

later_block : (z : Sizes) (v n : ℕ) → v ≢ 1 → 5 < n → head_block (versioned z v) n ≡ slice_get head_blocks n
later_block z v n later lt = (λ i. slice_get head_blocks (if lt-ltb 5 n lt i && ne_eqb v 1 later i then n + 1 else n))

-- the line of the lower bounds
lower_is : (ls : List Keyed) (b : IsBeginning IsAnyWhole ls) → length ls ≡ 7 + exponent_rows b.whole.numbers.version → line_in ls (length ls - 1) ≡ b.whole.numbers.low
lower_is ls b len =
    let c = b.whole.numbers in
    let k = 6 + exponent_rows c.version in
    let count = first_count c b.whole.form in
    let index : length ls - 1 ≡ k = omega (arith, len) in
    let same = (parted ls b (up_to 1 c) (keyed_line (codes "hi") c.high ∷ tail_lines c) (split_at 1 c) (omega (arith, len, count_to 1 c b.whole.form (omega arith)))).0 in
    ap (line_in ls) index ∙ ap (λ (ms : List Keyed). line_in ms k) (sym same) ∙ ap (λ (l : Keyed). l.numbers) (get_or_at (first_lines c) (keyed_line (codes "lo") c.low) [] no_line k count)

-- ---- what is in its place and in range can follow

low_on : (ls : List Keyed) (l : Keyed) (z : Sizes) (b : IsBeginning IsAnyWhole ls) → sizes_of b.whole.numbers ≡ z → length ls ≡ 6 + exponent_rows b.whole.numbers.version → place_of l ≡ place (codes "lo") z.n →
    InRange (Some Low) ls z l.numbers → IsBeginning IsAnyWhole (ls ++ l ∷ [])
low_on ls l z b e len p h = low_follows ls l b len (p ∙ ap (λ (y : Sizes). place (codes "lo") y.n) (sym e)) h

high_on : (ls : List Keyed) (l : Keyed) (z : Sizes) (b : IsBeginning IsAnyWhole ls) → sizes_of b.whole.numbers ≡ z → length ls ≡ 7 + exponent_rows b.whole.numbers.version → place_of l ≡ place (codes "hi") z.n →
    InRange (Some High) ls z l.numbers → IsBeginning IsAnyWhole (ls ++ l ∷ [])
high_on ls l z b e len p h = high_follows ls l b len (p ∙ ap (λ (y : Sizes). place (codes "hi") y.n) (sym e)) (subst (λ (low : List ℤ). AreUpper l.numbers low) (lower_is ls b len) h)

exponents_on : (ls : List Keyed) (l : Keyed) (z : Sizes) (b : IsBeginning IsAnyWhole ls) → sizes_of b.whole.numbers ≡ z → b.whole.numbers.version ≢ 1 → length ls ≡ 6 → place_of l ≡
    place (codes "exps") z.m → InRange (Some Exponents) ls z l.numbers → IsBeginning IsAnyWhole (ls ++ l ∷ [])
exponents_on ls l z b e later len p h =
    let greatest : at (line_in ls 2) 2 ≡ pos b.whole.numbers.step_exponent = ap (λ (k : Keyed). at k.numbers 2) (sym (line_is ls b 2 (omega (arith, len)))) in
    exponents_follow ls l b later len (p ∙ ap (λ (y : Sizes). place (codes "exps") y.m) (sym e)) (subst (λ (s : ℤ). All (IsFrom (pos 0) s) l.numbers) greatest h)

first_on : (ls : List Keyed) (l : Keyed) (z : Sizes) (b : IsBeginning IsAnyWhole ls) (n : ℕ) → length ls ≡ suc (suc (suc (suc (suc (suc n))))) → sizes_of b.whole.numbers ≡ z → exponent_rows b.whole.numbers.version ≡ 0 →
    Says ls z → Fits l → HasPlace z ls l (suc (suc (suc (suc (suc (suc n)))))) → HasPlace (versioned z 1) ls l (suc (suc (suc (suc (suc (suc n)))))) → IsBeginning IsAnyWhole (ls ++ l ∷ [])
first_on ls l z b zero len e rows says fits h k = low_on ls l z b e (omega (arith, len, rows)) (place_is k.place) k.range
first_on ls l z b (suc zero) len e rows says fits h k = high_on ls l z b e (omega (arith, len, rows)) (place_is k.place) k.range
first_on ls l z b (suc (suc n)) len e rows says fits h k = list_follows ls l z b (omega (arith, len, rows)) says fits (ap (slice_get (places z)) len ∙ h.place)

-- in a later version, the sizes of which are y
later_on : (ls : List Keyed) (l : Keyed) (z y : Sizes) (b : IsBeginning IsAnyWhole ls) (n : ℕ) → length ls ≡ suc (suc (suc (suc (suc (suc n))))) → sizes_of b.whole.numbers ≡ z → b.whole.numbers.version ≢ 1 →
    exponent_rows b.whole.numbers.version ≡ 1 → Says ls z → Fits l → HasPlace z ls l (suc (suc (suc (suc (suc (suc n)))))) → slice_get (places (versioned z 2)) (suc (suc (suc (suc (suc (suc n)))))) ≡ Some (place_of l) →
    InRange (slice_get head_blocks (suc (suc (suc (suc (suc (suc n))))))) ls y l.numbers → IsBeginning IsAnyWhole (ls ++ l ∷ [])
later_on ls l z y b zero len e later rows says fits h place range = exponents_on ls l z b e later len (place_is place) range
later_on ls l z y b (suc zero) len e later rows says fits h place range = low_on ls l z b e (omega (arith, len, rows)) (place_is place) range
later_on ls l z y b (suc (suc zero)) len e later rows says fits h place range = high_on ls l z b e (omega (arith, len, rows)) (place_is place) range
later_on ls l z y b (suc (suc (suc n))) len e later rows says fits h place range = list_follows ls l z b (omega (arith, len, rows)) says fits (ap (slice_get (places z)) len ∙ h.place)

follows_on : (ls : List Keyed) (l : Keyed) (z : Sizes) (b : IsBeginning IsAnyWhole ls) (n : ℕ) → length ls ≡ n → Says ls z → Fits l → HasPlace z ls l n → IsBeginning IsAnyWhole (ls ++ l ∷ [])
follows_on ls l z b zero len says fits h = version_follows ls l b len (place_is h.place) h.range
follows_on ls l z b (suc zero) len says fits h = size_follows ls l z b (version_is ls b z (omega (arith, len)) says) len (place_is h.place) h.range
follows_on ls l z b (suc (suc zero)) len says fits h = bits_follow ls l b len (place_is h.place) h.range
follows_on ls l z b (suc (suc (suc zero))) len says fits h =
    steps_follow ls l b len (place_is h.place) (subst (λ (v : ℕ). IsFrom (pos 1) (pos (most_steps v)) (at l.numbers 0)) (sym (version_is ls b z (omega (arith, len)) says)) h.range)
follows_on ls l z b (suc (suc (suc (suc zero)))) len says fits h = clamp_follows ls l b len (place_is h.place) h.range
follows_on ls l z b (suc (suc (suc (suc (suc zero))))) len says fits h =
    words_follow ls l b len (place_is h.place) (h.range ∙ ap pos (sym (b.whole.form.words ∙ ap word_count (sizes_are ls b z (omega (arith, len)) says))))
follows_on ls l z b (suc (suc (suc (suc (suc (suc n)))))) len says fits h =
    let e = sizes_are ls b z (omega (arith, len)) says in
    let v = b.whole.numbers.version in
    let k = suc (suc (suc (suc (suc (suc n))))) in
    let said : z.version ≡ v = sym (ap (λ (y : Sizes). y.version) e) in
    let by : (w : ℕ) → v ≡ w → HasPlace (versioned z w) ls l k = λ w is. subst (λ (y : Sizes). HasPlace y ls l k) (versioned_is z w (said ∙ is)) h in
    let later : (w : ℕ) → v ≡ w → w ≢ 1 → InRange (slice_get head_blocks k) ls (versioned z w) l.numbers
    = λ w is late. subst (λ (b : Option Block). InRange b ls (versioned z w) l.numbers) (later_block z w k late (omega arith)) (by w is).range in
    elim (versions v b.whole.form.version) [
      | inl one ↦ first_on ls l z b n len e (ap exponent_rows one) says fits h (by 1 one)
      | inr (inl two) ↦ later_on ls l z (versioned z 2) b n len e (λ first. omega (arith, first, two)) (ap exponent_rows two) says fits h (by 2 two).place (later 2 two (λ first. omega (arith, first)))
      | inr (inr three) ↦ later_on ls l z (versioned z 3) b n len e (λ first. omega (arith, first, three)) (ap exponent_rows three) says fits h (by 3 three).place (later 3 three (λ first. omega (arith, first)))
    ]

-- ---- what follows is in range

low_in : (ls : List Keyed) (l : Keyed) (z : Sizes) (more : IsBeginning IsAnyWhole (ls ++ l ∷ [])) → length ls ≡ 6 + exponent_rows more.whole.numbers.version → InRange (Some Low) ls z l.numbers
low_in ls l z more len =
    let c = more.whole.numbers in
    subst (λ (k : Keyed). InRange (Some Low) ls z k.numbers)
    (next_is ls l more (first_lines c) (keyed_line (codes "lo") c.low) (keyed_line (codes "hi") c.high ∷ tail_lines c) refl (len ∙ sym (first_count c more.whole.form))) more.whole.form.sized.low

high_in : (ls : List Keyed) (l : Keyed) (z : Sizes) (more : IsBeginning IsAnyWhole (ls ++ l ∷ [])) → length ls ≡ 7 + exponent_rows more.whole.numbers.version → InRange (Some High) ls z l.numbers
high_in ls l z more len =
    let c = more.whole.numbers in
    let sized = more.whole.form.sized in
    let upper : AreUpper c.high c.low = (sized.shaped.high ∙ sym sized.shaped.low, record { numbers = sized.high; box = λ i lt. sized.box i (omega (arith, lt, sized.shaped.low)) }) in
    let last = next_is ls l more (up_to 1 c) (keyed_line (codes "hi") c.high) (tail_lines c) (split_at 1 c) (omega (arith, len, count_to 1 c more.whole.form (omega arith))) in
    subst (λ (low : List ℤ). AreUpper l.numbers low) (sym (lower_is ls (fewer ls (l ∷ []) more) len)) (subst (λ (k : Keyed). AreUpper k.numbers c.low) last upper)

exponents_in : (ls : List Keyed) (l : Keyed) (z : Sizes) (more : IsBeginning IsAnyWhole (ls ++ l ∷ [])) → more.whole.numbers.version ≢ 1 → length ls ≡ 6 → InRange (Some Exponents) ls z l.numbers
exponents_in ls l z more later len =
    let c = more.whole.numbers in
    let most = c.step_exponent in
    let each : All (λ e. IsFrom (pos 0) (pos most) (pos e)) c.exponents = λ i d lt. from_natural 0 most (get_or c.exponents i d) (omega arith, more.whole.form.sized.exponents i d lt) in
    let exps = All-map (IsFrom (pos 0) (pos most)) pos c.exponents each in
    let greatest : at (line_in ls 2) 2 ≡ pos c.step_exponent = ap (λ (k : Keyed). at k.numbers 2) (sym (line_is ls (fewer ls (l ∷ []) more) 2 (omega (arith, len)))) in
    let last : keyed_line (codes "exps") (map pos c.exponents) ≡ l = ap (λ (ms : List Keyed). get_or (ms ++ list_lines c) 0 no_line) (sym (exponent_line c later)) ∙ last_is ls l more 6 len in
    subst (λ (s : ℤ). All (IsFrom (pos 0) s) l.numbers) (sym greatest) (subst (λ (k : Keyed). All (IsFrom (pos 0) (pos c.step_exponent)) k.numbers) last exps)

first_in : (ls : List Keyed) (l : Keyed) (z : Sizes) (more : IsBeginning IsAnyWhole (ls ++ l ∷ [])) (n : ℕ) → length ls ≡ suc (suc (suc (suc (suc (suc n))))) → exponent_rows more.whole.numbers.version ≡ 0 →
    InRange (head_block (versioned z 1) (suc (suc (suc (suc (suc (suc n))))))) ls (versioned z 1) l.numbers
first_in ls l z more zero len rows = low_in ls l (versioned z 1) more (omega (arith, len, rows))
first_in ls l z more (suc zero) len rows = high_in ls l (versioned z 1) more (omega (arith, len, rows))
first_in ls l z more (suc (suc n)) len rows =
    let k = suc (suc (suc (suc (suc (suc (suc (suc n))))))) in
    let more_one : k + 1 ≡ suc k = omega arith in
    let block : head_block (versioned z 1) k ≡ slice_get head_blocks (suc k) = first_block z k (omega arith) ∙ ap (slice_get head_blocks) more_one in
    subst (λ (b : Option Block). InRange b ls (versioned z 1) l.numbers) (sym block) tt

later_in : (ls : List Keyed) (l : Keyed) (y : Sizes) (more : IsBeginning IsAnyWhole (ls ++ l ∷ [])) (n : ℕ) → length ls ≡ suc (suc (suc (suc (suc (suc n))))) → more.whole.numbers.version ≢ 1 →
    exponent_rows more.whole.numbers.version ≡ 1 → InRange (slice_get head_blocks (suc (suc (suc (suc (suc (suc n))))))) ls y l.numbers
later_in ls l y more zero len later rows = exponents_in ls l y more later len
later_in ls l y more (suc zero) len later rows = low_in ls l y more (omega (arith, len, rows))
later_in ls l y more (suc (suc zero)) len later rows = high_in ls l y more (omega (arith, len, rows))
later_in ls l y more (suc (suc (suc n))) len later rows = tt

range_in : (ls : List Keyed) (l : Keyed) (z : Sizes) (more : IsBeginning IsAnyWhole (ls ++ l ∷ [])) (n : ℕ) → length ls ≡ n → Says ls z → InRange (head_block z n) ls z l.numbers
range_in ls l z more zero len says = subst (λ (k : Keyed). InRange (Some Version) ls z k.numbers) (last_is ls l more 0 len) (from_natural 1 3 more.whole.numbers.version more.whole.form.version)
range_in ls l z more (suc zero) len says =
    let c = more.whole.numbers in
    let sized = more.whole.form.sized in
    let most = most_plain c.version in
    let size : AreSizes c.version (pos c.states) (pos c.inputs) (pos c.stages) (pos c.rows) = (
      from_natural 1 (most_states c.version) c.states (sized.states.0, omega (arith, sized.states.1, most.0)),
      from_natural 1 3 c.inputs sized.inputs,
      from_natural 1 (most_stages c.version) c.stages (sized.stages.0, omega (arith, sized.stages.1, most.1)),
      from_natural 1 (most_rows c.version) c.rows (sized.rows.0, omega (arith, sized.rows.1, most.1)),
    ) in
    subst (λ (k : Keyed). InRange (Some Size) ls z k.numbers) (last_is ls l more 1 len)
    (subst (λ (v : ℕ). AreSizes v (pos c.states) (pos c.inputs) (pos c.stages) (pos c.rows)) (version_is ls (fewer ls (l ∷ []) more) z (omega (arith, len)) says) size)
range_in ls l z more (suc (suc zero)) len says =
    let c = more.whole.numbers in
    let sized = more.whole.form.sized in
    subst (λ (k : Keyed). InRange (Some Bits) ls z k.numbers) (last_is ls l more 2 len) (
      from_natural 0 24 c.grid_bits (omega arith, sized.grid_bits),
      from_natural c.grid_bits 48 c.fraction_bits sized.fraction_bits,
      from_natural 0 40 c.step_exponent (omega arith, sized.step_exponent),
      from_natural 2 128 c.width more.whole.form.width,
    )
range_in ls l z more (suc (suc (suc zero))) len says =
    let c = more.whole.numbers in
    let same = version_is ls (fewer ls (l ∷ []) more) z (omega (arith, len)) says in
    subst (λ (k : Keyed). InRange (Some Steps) ls z k.numbers) (last_is ls l more 3 len)
    (subst (λ (v : ℕ). IsFrom (pos 1) (pos (most_steps v)) (pos c.steps)) same (from_natural 1 (most_steps c.version) c.steps more.whole.form.steps))
range_in ls l z more (suc (suc (suc (suc zero)))) len says = subst (λ (k : Keyed). InRange (Some Clamp) ls z k.numbers) (last_is ls l more 4 len) (record { least = more.whole.form.sized.clamp_low; greatest = more.whole.form.sized.clamp_high })
range_in ls l z more (suc (suc (suc (suc (suc zero))))) len says =
    subst (λ (k : Keyed). InRange (Some Words) ls z k.numbers) (last_is ls l more 5 len) (ap pos (more.whole.form.words ∙ ap word_count (sizes_are ls (fewer ls (l ∷ []) more) z (omega (arith, len)) says)))
range_in ls l z more (suc (suc (suc (suc (suc (suc n)))))) len says =
    let v = more.whole.numbers.version in
    let k = suc (suc (suc (suc (suc (suc n))))) in
    let said : z.version ≡ v = sym (ap (λ (y : Sizes). y.version) (sizes_are ls (fewer ls (l ∷ []) more) z (omega (arith, len)) says)) in
    let by : (w : ℕ) → v ≡ w → InRange (head_block (versioned z w) k) ls (versioned z w) l.numbers → InRange (head_block z k) ls z l.numbers
    = λ w is range. subst (λ (y : Sizes). InRange (head_block y k) ls y l.numbers) (sym (versioned_is z w (said ∙ is))) range in
    let later : (w : ℕ) → v ≡ w → w ≢ 1 → exponent_rows w ≡ 1 → InRange (head_block z k) ls z l.numbers
    = λ w is late rows. by w is (subst (λ (b : Option Block). InRange b ls (versioned z w) l.numbers) (sym (later_block z w k late (omega arith)))
    (later_in ls l (versioned z w) more n len (λ first. late (sym is ∙ first)) (ap exponent_rows is ∙ rows))) in
    elim (versions v more.whole.form.version) [
      | inl one ↦ by 1 one (first_in ls l z more n len (ap exponent_rows one))
      | inr (inl two) ↦ later 2 two (λ first. omega (arith, first)) refl
      | inr (inr three) ↦ later 3 three (λ first. omega (arith, first)) refl
    ]

place_in : (ls : List Keyed) (l : Keyed) (z : Sizes) (more : IsBeginning IsAnyWhole (ls ++ l ∷ [])) (n : ℕ) → length ls ≡ n → Says ls z → slice_get (places z) n ≡ Some (place_of l)
place_in ls l z more zero len says = ap (λ (k : Keyed). Some (place_of k)) (last_is ls l more 0 len)
place_in ls l z more (suc zero) len says = ap (λ (k : Keyed). Some (place_of k)) (last_is ls l more 1 len)
place_in ls l z more (suc (suc n)) len says = ap (λ (ps : List Place). slice_get ps (suc (suc n))) (sym (places_are ls (fewer ls (l ∷ []) more) z (omega (arith, len)) says)) ∙ at_line ls more.more l (suc (suc n)) len

pub follows : (ls : List Keyed) (l : Keyed) (z : Sizes) (n : ℕ) → length ls ≡ n → IsBeginning IsAnyWhole ls → Says ls z → Fits l → HasPlace z ls l n ↔ IsBeginning IsAnyWhole (ls ++ l ∷ [])
follows ls l z n len b says fits = (λ h. follows_on ls l z b n len says fits h, λ more. record { place = place_in ls l z more n len says; range = range_in ls l z more n len says })

-- ---- all lines

none_after : (front more : List Keyed) → slice_get (map place_of (front ++ more)) (length front) ≡ None → more ≡ []
none_after [] [] e = refl
none_after [] (m ∷ more) e = absurd (cc e)
none_after (f ∷ front) more e = none_after front more e

past : (front : List Keyed) → slice_get (map place_of (front ++ [])) (length front) ≡ None
past [] = refl
past (f ∷ front) = past front

pub whole_if : (ls : List Keyed) (z : Sizes) → IsBeginning IsAnyWhole ls → Says ls z → slice_get (places z) (length ls) ≡ None → IsAnyWhole ls
whole_if [] z b says e = absurd (cc e)
whole_if (k ∷ []) z b says e = absurd (cc e)
whole_if (k ∷ l ∷ ls) z b says e =
    let over = none_after (k ∷ l ∷ ls) b.more (ap (λ (ps : List Place). slice_get ps (length (k ∷ l ∷ ls))) (places_are (k ∷ l ∷ ls) b z (omega arith) says) ∙ e) in
    record { numbers = b.whole.numbers; form = b.whole.form; word = b.whole.word; lines = b.whole.lines ∙ ap (λ (ms : List Keyed). (k ∷ l ∷ ls) ++ ms) over ∙ append-nil (k ∷ l ∷ ls) }

pub whole_only : (ls : List Keyed) (z : Sizes) → Says ls z → IsAnyWhole ls → slice_get (places z) (length ls) ≡ None
whole_only ls z says w =
    let b : IsBeginning IsAnyWhole ls = record { more = []; whole = record { numbers = w.numbers; form = w.form; word = w.word; lines = w.lines ∙ sym (append-nil ls) } } in
    ap (λ (ps : List Place). slice_get ps (length ls)) (sym (places_are ls b z (omega (arith, ap length w.lines)) says)) ∙ past ls

-- ---- the sizes that lines say

-- as they are read
abbrev pub read_sizes : List Keyed → Sizes
read_sizes ls = record { version = small (at (line_in ls 0) 0); n = small (at (line_in ls 1) 0); p = small (at (line_in ls 1) 1); stages = small (at (line_in ls 1) 2); m = small (at (line_in ls 1) 3) }

pub sizes_read : (ls : List Keyed) → IsBeginning IsAnyWhole ls → Says ls (read_sizes ls)
sizes_read [] b = record { small = record { version = omega arith; n = omega arith; p = omega arith; stages = omega arith; m = omega arith }; version = λ lt. absurd (omega (arith, lt)); sizes = λ lt. absurd (omega (arith, lt)) }
sizes_read (k ∷ []) b =
    let c = b.whole.numbers in
    let z = sizes_small c b.whole.form in
    let version = small_is c.version (omega (arith, z.version)) in
    let first : keyed_line (codes "mpc-controller") (pos c.version ∷ []) ≡ k = line_is (k ∷ []) b 0 (omega arith) in
    let made : Says (keyed_line (codes "mpc-controller") (pos c.version ∷ []) ∷ []) (read_sizes (keyed_line (codes "mpc-controller") (pos c.version ∷ []) ∷ [])) = record {
      small = record { version = omega (arith, version, z.version); n = omega arith; p = omega arith; stages = omega arith; m = omega arith };
      version = λ lt. ap (λ (a : ℕ). pos a ∷ []) (sym version);
      sizes = λ lt. absurd (omega (arith, lt));
    } in
    subst (λ (l : Keyed). Says (l ∷ []) (read_sizes (l ∷ []))) first made
sizes_read (k ∷ l ∷ ls) b =
    let c = b.whole.numbers in
    let z = sizes_small c b.whole.form in
    let version = small_is c.version (omega (arith, z.version)) in
    let n = small_is c.states (omega (arith, z.n)) in
    let p = small_is c.inputs (omega (arith, z.p)) in
    let stages = small_is c.stages (omega (arith, z.stages)) in
    let m = small_is c.rows (omega (arith, z.m)) in
    let first = keyed_line (codes "mpc-controller") (pos c.version ∷ []) in
    let second = keyed_line (codes "size") (pos c.states ∷ pos c.inputs ∷ pos c.stages ∷ pos c.rows ∷ []) in
    let one : first ≡ k = line_is (k ∷ l ∷ ls) b 0 (omega arith) in
    let two : second ≡ l = line_is (k ∷ l ∷ ls) b 1 (omega arith) in
    let made : Says (first ∷ second ∷ ls) (read_sizes (first ∷ second ∷ ls)) = record {
      small = record { version = omega (arith, version, z.version); n = omega (arith, n, z.n); p = omega (arith, p, z.p); stages = omega (arith, stages, z.stages); m = omega (arith, m, z.m) };
      version = λ lt. ap (λ (a : ℕ). pos a ∷ []) (sym version);
      sizes = λ lt. sym (λ i. pos (n i) ∷ pos (p i) ∷ pos (stages i) ∷ pos (m i) ∷ []);
    } in
    subst (λ (x : Keyed). Says (k ∷ x ∷ ls) (read_sizes (k ∷ x ∷ ls))) two (subst (λ (x : Keyed). Says (x ∷ second ∷ ls) (read_sizes (x ∷ second ∷ ls))) one made)
