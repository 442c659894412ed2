-- The controllers of a text of cells, read one behind the other.
use Rattle.std.proofs.Common.{◌≡◌, inl, inr, ℕ, ◌+◌, ◌-◌, ◌<◌, ◌≤◌, pos, List, [], ◌∷◌, ◌++◌, length, get_or, take, drop, map, Option, Some, None, Result, Ok, Err, refl, sym, ap, subst, ◌∙◌, append_assoc, arith, below_more}
use Rattle.std.specs.Prelude.{All, codes, IfErr, IsErrAnd}
use Rattle.std.specs.List.{flat_map}
use Rattle.std.proofs.lemmas.List.{take_at, take_more, length-map, append-nil, take-map, drop-map, get_or-map, map-append, get_or_append_left, get_or_push, get_or_default, length_push}
use Rattle.integer_algebra.specs.Sums.{at}
use Rattle.qp_model.specs.machine.Controller.{Numbers, FitsWord}
use Rattle.controller_text.specs.TextForm.{IsTextForm}
use Rattle.controller_file.specs.AnyText.{any_numbers, IsSafe}
use Rattle.controller_file.specs.declared.any_controller.AnyController.{AnyController}
use Rattle.text_lines.specs.Lines.{view, views, line_in, small}
use Rattle.text_lines.specs.declared.line.Line.{Line}
use Rattle.controller_text.specs.Lines.{keyed_lines}
use Rattle.controller_file.specs.Following.{IsAnyWhole}
use Rattle.controller_text.specs.declared.bad_controller.BadController.{BadController}
use Rattle.cell_file.specs.declared.place.Place.{Place}
use Rattle.cell_file.specs.Begins.{BeginsCell, EndsAt}
use Rattle.cell_file.specs.Cells.{AreCells, AreAlike}
use Rattle.cell_file.specs.Text.{IsCellsText}
use Rattle.number_text.specs.Lines.{line_of, text_of}
use Rattle.qp_model.specs.text.ControllerText.{controller_text}
use Rattle.cell_file.specs.Lines.{rest_lines, cells_lines}
use Rattle.cell_file.specs.Reading.{IsOf, IsNoneOf, AreNoneOf}
use Rattle.controller_file.proofs.AnyText.{either_form, either}
use Rattle.cell_file.proofs.Texts.{all_numbers}
use Rattle.cell_file.proofs.Places.{blank_one, Told, IsPlaceOf, tail_is, begins_cell, cell_inside, cell_after, cell_stops}
use Rattle.cell_file.proofs.Follows.{whole_before}

-- ---- so far
-- all lines of these cells, of which so many are read
pub record IsReadTo (cells : List Numbers) (lines : List Line) (items : List AnyController) (counter start : ℕ) : Type 0 where
  pub place : IsPlaceOf cells (length (views lines)) (record { cells = counter; start = start })
  pub read : map any_numbers items ≡ take counter cells

abbrev pub AreReadTo : List Line → List AnyController → (counter start : ℕ) → Type 0
AreReadTo lines items counter start = (cells : List Numbers) → AreCells cells → cells_lines cells ≡ views lines → IsReadTo cells lines items counter start

all_of : (cells : List Numbers) (lines : List Line) → cells_lines cells ≡ views lines → cells_lines cells ≡ views lines ++ []
all_of cells lines e = e ∙ sym (append-nil (views lines))

module _ (cells : List Numbers) (lines : List Line) (are : AreCells cells) (e : cells_lines cells ≡ views lines) where
  some_lines : 0 < length lines
  some_lines = omega (arith, ap length e, length-map lines view)

  pub there : (counter end : ℕ) → end ≡ small (at (line_in (views lines) 0) 0) → counter < end → counter < length cells
  there counter end is lt = cell_inside cells lines [] (record { cells = counter; start = 0 }) counter end some_lines are (all_of cells lines e) refl is lt

  module _ (items : List AnyController) (counter start : ℕ) (so_far : IsReadTo cells lines items counter start) (lt : counter < length cells) where
    p : Place
    p = record { cells = counter; start = start }

    pub cell_begins : BeginsCell (drop start (views lines))
    unfolding p
    cell_begins = begins_cell cells (views lines) [] p are (all_of cells lines e) so_far.place lt

    module _ (found : Option ℕ) (told : Told lines (record { cells = counter; start = start }) found) where
      pub never_none : found ≡ None → ⊥
      unfolding p
      never_none is =
          let place = cell_stops cells lines [] p found are (all_of cells lines e) so_far.place lt told is in
          omega (arith, place.next lt, whole_before cells (counter + 1), ap length e)

      pub next_place : (end : ℕ) → found ≡ Some end → IsPlaceOf cells (length (views lines)) (record { cells = counter + 1; start = end })
      unfolding p
      next_place end is = cell_after cells lines [] p found end are (all_of cells lines e) so_far.place lt told is

      -- the lines between are those of a controller
      ends : (end : ℕ) → found ≡ Some end → end ≡ start + length (keyed_lines (get_or cells counter blank_one))
      unfolding p
      ends end is =
          let here = told (get_or cells counter blank_one) [] (rest_lines (drop (counter + 1) cells)) (are.form counter blank_one lt) (tail_is cells (views lines) [] p blank_one (all_of cells lines e) so_far.place lt) in
          let both : (end ≡ start + length (keyed_lines (get_or cells counter blank_one))) × (start + length (keyed_lines (get_or cells counter blank_one)) ≤ length lines) =
          subst (EndsAt (length lines) (start + length (keyed_lines (get_or cells counter blank_one)))) is here in
          both.0

      pub order : (end : ℕ) → found ≡ Some end → (start ≤ end) × (end ≤ length lines)
      order end is = (omega (arith, ends end is), omega (arith, (next_place end is).within, length-map lines view))

      pub slice_is : (end : ℕ) → found ≡ Some end → keyed_lines (get_or cells counter blank_one) ≡ views (take (end - start) (drop start lines))
      unfolding p
      slice_is end is =
          let this = keyed_lines (get_or cells counter blank_one) in
          let long : length this ≡ end - start = omega (arith, ends end is) in
          let tail : drop start (views lines) ≡ this ++ rest_lines (drop (counter + 1) cells) =
          sym (append-nil (drop start (views lines))) ∙ tail_is cells (views lines) [] p blank_one (all_of cells lines e) so_far.place lt in
          sym (take_at this (rest_lines (drop (counter + 1) cells)) (end - start) long) ∙ ap (take (end - start)) (sym tail) ∙ ap (take (end - start)) (drop-map view start lines) ∙ take-map view (end - start) (drop start lines)

      pub slice_whole : (end : ℕ) → found ≡ Some end → IsAnyWhole (views (take (end - start) (drop start lines)))
      slice_whole end is = record { numbers = get_or cells counter blank_one; form = are.form counter blank_one lt; word = are.word counter blank_one lt; lines = slice_is end is }

      pub one_more : (end : ℕ) (k : AnyController) (more : List AnyController) → found ≡ Some end → IsOf (views (take (end - start) (drop start lines))) k → more ≡ items ++ k ∷ [] →
          IsReadTo cells lines more (counter + 1) end
      one_more end k more is of pushed = record {
        place = next_place end is;
        read = ap (map any_numbers) pushed ∙ map-append any_numbers items (k ∷ []) ∙ ap (λ (xs : List Numbers). xs ++ any_numbers k ∷ []) so_far.read
            ∙ ap (λ (c : Numbers). take counter cells ++ c ∷ []) (of.one (get_or cells counter blank_one) (are.form counter blank_one lt) (slice_is end is))
            ∙ sym (take_more cells counter blank_one lt);
      }

-- ---- the answer
pub none_of_each : (lines : List Line) (items : List AnyController) (counter start bound : ℕ) (found : Option ℕ) (end : ℕ) (e : BadController) → AreReadTo lines items counter start →
    bound ≡ small (at (line_in (views lines) 0) 0) → counter < bound → Told lines (record { cells = counter; start = start }) found → found ≡ Some end →
    IsNoneOf (views (take (end - start) (drop start lines))) e → AreNoneOf (views lines) e
none_of_each lines items counter start bound found end e so_far is lt told some (inl memory) = inl memory
none_of_each lines items counter start bound found end e so_far is lt told some (inr wide) = inr (
  wide.0,
  λ cells are same all.
      let inside = there cells lines are same counter bound is lt in
      wide.1 (get_or cells counter blank_one) (are.form counter blank_one inside) (slice_is cells lines are same items counter start (so_far cells are same) inside found told end some) (all counter blank_one inside),
)

pub all_pushed : {X : Type 0} (P : X → Type 0) (items more : List X) (k : X) → more ≡ items ++ k ∷ [] → All P items → P k → All P more
all_pushed P items more k is all here = subst (All P) (sym is) (λ i d lt. below_more (λ j. P (get_or (items ++ k ∷ []) j d)) (length items)
    (λ j l. subst P (sym (get_or_append_left items (k ∷ []) d j l)) (all j d l)) (subst P (sym (get_or_push items k d (length items) refl)) here) i (omega (arith, lt, length_push items k)))

-- ---- the texts of controllers
pub texts_more : {X : Type 0} (f : X → List ℕ) (cells : List X) (i : ℕ) (d : X) → i < length cells → flat_map f (take (i + 1) cells) ≡ flat_map f (take i cells) ++ f (get_or cells i d)
texts_more f cells i d lt = ap (flat_map f) (take_more cells i d lt) ∙ behind (take i cells) (get_or cells i d)
  where
    behind : (xs : List _) (x : _) → flat_map f (xs ++ x ∷ []) ≡ flat_map f xs ++ f x
    behind [] x = append-nil (f x)
    behind (y ∷ xs) x = ap (λ (t : List ℕ). f y ++ t) (behind xs x) ∙ sym (append_assoc (f y) (flat_map f xs) (f x))

pub each_more : {X : Type 0} (P : X → Type 0) (cells : List X) (i : ℕ) (cell : X) → i < length cells → cell ≡ get_or cells i cell → ((k : ℕ) (d : X) → k < i → P (get_or cells k d)) → P cell →
    (k : ℕ) (d : X) → k < i + 1 → P (get_or cells k d)
each_more P cells i cell lt is all here k d l = below_more (λ j. P (get_or cells j d)) i (λ j m. all j d m) (subst P (is ∙ sym (get_or_default cells i d cell lt)) here) k l

-- ---- controllers by their numbers
texts_of : (cells : List AnyController) → flat_map (λ k. controller_text (any_numbers k)) cells ≡ flat_map controller_text (map any_numbers cells)
texts_of [] = refl
texts_of (k ∷ cells) = ap (λ (t : List ℕ). controller_text (any_numbers k) ++ t) (texts_of cells)

alike_numbers : (cells : List AnyController) → ((i : ℕ) (c : AnyController) → i < length cells → AreAlike (any_numbers (get_or cells 0 c)) (any_numbers (get_or cells i c))) →
    (i : ℕ) (c : Numbers) → i < length (map any_numbers cells) → AreAlike (get_or (map any_numbers cells) 0 c) (get_or (map any_numbers cells) i c)
alike_numbers [] alike i c lt = absurd (omega (arith, lt))
alike_numbers (k ∷ cells) alike i c lt =
    let inside : i < length (k ∷ cells) = omega (arith, lt, length-map (k ∷ cells) any_numbers) in
    subst (AreAlike (any_numbers k)) (sym (get_or-map any_numbers (k ∷ cells) i k c inside)) (alike i k inside)

pub written : (cells : List AnyController) (all some head : List ℕ) → 1 ≤ length cells → length cells ≤ 64 → ((i : ℕ) (c : AnyController) → i < length cells → AreAlike (any_numbers (get_or cells 0 c)) (any_numbers (get_or cells i c))) →
    all ≡ some ++ text_of (codes "end" ∷ []) → some ≡ head ++ flat_map (λ k. controller_text (any_numbers k)) cells → head ≡ text_of (line_of (codes "mpc-cells") (pos (length cells) ∷ []) ∷ []) →
    All IsSafe cells → All (λ k. FitsWord (any_numbers k)) cells → IsCellsText all cells
written cells all some head least most alike last middle first safe word =
    let texts = flat_map controller_text (map any_numbers cells) in
    let long = length-map cells any_numbers in
    let counted = ap (λ (n : ℕ). text_of (line_of (codes "mpc-cells") (pos n ∷ []) ∷ [])) (sym long) in
    record {
      form = record {
        are = record {
          some = omega (arith, least, long);
          few = omega (arith, most, long);
          form = all_numbers IsTextForm cells (λ i k lt. either_form (any_numbers (get_or cells i k)) (either (get_or cells i k) (safe i k lt)));
          word = all_numbers FitsWord cells word;
          alike = alike_numbers cells alike;
        };
        text = last ∙ ap (λ (t : List ℕ). t ++ text_of (codes "end" ∷ [])) (middle ∙ (λ i. (first ∙ counted) i ++ texts_of cells i))
            ∙ append_assoc (text_of (line_of (codes "mpc-cells") (pos (length (map any_numbers cells)) ∷ []) ∷ [])) texts (text_of (codes "end" ∷ []));
      };
      safe = safe;
    }

-- an error that a `?` hands on
pub handed_on : {X : Type 0} (r : Result X BadController) (P : BadController → Type 0) (fault : BadController) → IsErrAnd r (λ e. e ≡ fault) → P fault → IfErr r P
handed_on (Ok x) P fault h p = absurd h
handed_on (Err e) P fault h p = subst P (sym h) p
