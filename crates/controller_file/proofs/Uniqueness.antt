-- A text has one controller, and no text goes on where another ends.
use Rattle.std.proofs.Common.{◌≡◌, inl, inr, ℕ, pos, List, [], ◌∷◌, ◌++◌, length, get_or, drop, map, eqb, refl, sym, ap, ◌∙◌, arith}
use Rattle.std.specs.Prelude.{codes}
use Rattle.std.specs.List.{slice_split, join_with_byte}
use Rattle.std.proofs.lemmas.List.{drop_at, length-map}
use Rattle.std.proofs.lemmas.List.Splits.{join_with_byte-slice_split}
use Rattle.number_text.specs.Lines.{text_of}
use Rattle.qp_model.specs.machine.Controller.{Numbers, FitsWord}
use Rattle.controller_text.specs.TextForm.{IsTextForm}
use Rattle.number_text.proofs.Pieces.{ArePieces, split_text}
use Rattle.controller_file.specs.FirstLine.{IsTextIn}
use Rattle.controller_file.specs.Laws.{IsSomeControllerText, HasOneController, HasNoPrefix}
use Rattle.controller_text.specs.declared.layout.Sizes.{Sizes}
use Rattle.text_lines.specs.Lines.{Keyed, keyed_line, no_line, spelled, place_of}
use Rattle.controller_text.specs.Lines.{line_blocks, keyed_lines}
use Rattle.controller_text.specs.Table.{text_table, places, sizes_of}
use Rattle.controller_file.specs.Reading.{numbers_in}
use Rattle.text_lines.proofs.Cuts.{line_pieces}
use Rattle.text_lines.proofs.OneText.{one_line, one_text, split_more}
use Rattle.text_lines.proofs.Chained.{one_chain}
use Rattle.controller_text.proofs.Blocks.{same_sizes, block_lengths, lines_placed}
use Rattle.controller_text.proofs.Forms.{plain_form, fast_form}
use Rattle.controller_text.proofs.Texts.{keyed_text, good_lines}
use Rattle.controller_file.proofs.Again.{numbers_again}

pub pieces_of : (c : Numbers) → IsTextForm c → FitsWord c → ArePieces 10 (map spelled (keyed_lines c))
pieces_of c form fits = line_pieces (keyed_lines c) (good_lines c form fits)

-- ---- the sizes

abbrev version_line : Numbers → Keyed
version_line c = keyed_line (codes "mpc-controller") (pos c.version ∷ [])

abbrev size_line : Numbers → Keyed
size_line c = keyed_line (codes "size") (pos c.states ∷ pos c.inputs ∷ pos c.stages ∷ pos c.rows ∷ [])

sizes_same : (c d : Numbers) → version_line c ≡ version_line d → size_line c ≡ size_line d → sizes_of c ≡ sizes_of d
sizes_same c d first second =
    let one : pos c.version ∷ [] ≡ pos d.version ∷ [] = ap (λ (k : Keyed). k.numbers) first in
    same_sizes c (sizes_of d) (cc one) (ap (λ (k : Keyed). k.numbers) second)

-- ---- one controller

-- lines in form are those of one choice of numbers
pub one_choice : (c d : Numbers) → IsTextForm c → IsTextForm d → keyed_lines c ≡ keyed_lines d → c ≡ d
one_choice c d form other e =
    let sizes = sizes_same c d (ap (λ (ls : List Keyed). get_or ls 0 no_line) e) (ap (λ (ls : List Keyed). get_or ls 1 no_line) e) in
    let long : map length (line_blocks c) ≡ map length (line_blocks d) = block_lengths c form ∙ ap (λ (z : Sizes). map (λ t. t.1) (text_table z)) sizes ∙ sym (block_lengths d other) in
    sym (numbers_again c form) ∙ ap numbers_in (one_chain (line_blocks c) (line_blocks d) long e) ∙ numbers_again d other

-- a text in form is the text of one
pub one_form : (bytes : List ℕ) (c d : Numbers) → IsTextIn IsTextForm bytes c → IsTextIn IsTextForm bytes d → c ≡ d
one_form bytes c d p q =
    let texts : text_of (map spelled (keyed_lines c)) ≡ text_of (map spelled (keyed_lines d)) = keyed_text c ∙ sym p.text ∙ q.text ∙ sym (keyed_text d) in
    one_choice c d p.form q.form (one_text (keyed_lines c) (keyed_lines d) (good_lines c p.form p.word) (good_lines d q.form q.word) texts)

-- a controller's text is one in form
pub in_form : (bytes : List ℕ) (c : Numbers) → IsSomeControllerText bytes c → IsTextIn IsTextForm bytes c
in_form bytes c (inl p) = record { form = plain_form c p.controller.form; word = p.word; text = p.text }
in_form bytes c (inr p) = record { form = fast_form c p.controller.form; word = p.word; text = p.text }

pub one_any_controller : HasOneController
one_any_controller bytes c d p q = one_form bytes c d (in_form bytes c p) (in_form bytes d q)

-- ---- no prefix

pub no_prefix : HasNoPrefix
no_prefix bytes more c d one two =
    let p = in_form bytes c one in
    let q = in_form (bytes ++ more) d two in
    let form = p.form in
    let other = q.form in
    let kc = keyed_lines c in
    let kd = keyed_lines d in
    let texts : text_of (map spelled kc) ++ more ≡ text_of (map spelled kd) = ap (λ (t : List ℕ). t ++ more) (keyed_text c ∙ sym p.text) ∙ q.text ∙ sym (keyed_text d) in
    let cut : map spelled kc ++ slice_split (λ b. eqb b 10) more ≡ map spelled kd ++ [] ∷ [] =
    sym (split_more (map spelled kc) more (pieces_of c form p.word)) ∙ ap (slice_split (λ b. eqb b 10)) texts ∙ split_text (map spelled kd) (pieces_of d other q.word) in
    let first : spelled (version_line c) ≡ spelled (version_line d) = ap (λ (l : List (List ℕ)). get_or l 0 []) cut in
    let second : spelled (size_line c) ≡ spelled (size_line d) = ap (λ (l : List (List ℕ)). get_or l 1 []) cut in
    let good = good_lines c form p.word in
    let others = good_lines d other q.word in
    let sizes = sizes_same c d (one_line (version_line c) (version_line d) (good 0 (version_line c) (omega arith)) (others 0 (version_line d) (omega arith)) first)
    (one_line (size_line c) (size_line d) (good 1 (size_line c) (omega arith)) (others 1 (size_line d) (omega arith)) second) in
    let placed : length (map place_of kc) ≡ length (map place_of kd) = ap length (lines_placed c form ∙ ap places sizes ∙ sym (lines_placed d other)) in
    let count : length (map spelled kc) ≡ length (map spelled kd) = omega (arith, length-map kc spelled, length-map kd spelled, length-map kc place_of, length-map kd place_of, placed) in
    let rest : slice_split (λ b. eqb b 10) more ≡ [] ∷ [] =
    sym (drop_at (map spelled kc) (slice_split (λ b. eqb b 10) more) (length (map spelled kd)) count) ∙ ap (drop (length (map spelled kd))) cut ∙ drop_at (map spelled kd) ([] ∷ []) (length (map spelled kd)) refl in
    sym (join_with_byte-slice_split 10 more) ∙ ap (join_with_byte 10) rest
