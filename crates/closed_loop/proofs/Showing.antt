-- What the turns of a loop put and show.
use Rattle.std.proofs.Common.{◌^◌, length, map, get_or, pos, ◌+ℤ◌, ◌≡◌, ◌⊎◌, inl, inr, ℕ, ◌+◌, ◌-◌, ◌<◌, ◌≤◌, ℤ, List, [], ◌++◌, Bool, true, false, Option, Some, None, option_map, Result, Ok, ◌∷◌}
use Rattle.std.proofs.Common.{Err, IfErr, IsErrAnd, IsOk, OnOk, IfSome, IsSomeAnd, arith, ap, sym, subst, refl, zero-le, ◌∙◌, add-one, append_assoc}
use Rattle.std.specs.Prelude.{◌↔◌, is_some, not}
use Rattle.std.specs.Option.{SomeIff}
use Rattle.std.proofs.lemmas.Bool.{cases_lt}
use Rattle.std.proofs.lemmas.List.{append-nil, ext_get_or, get_or_past, length-append}
use Rattle.std.specs.List.{range_with_len}
use Rattle.std.proofs.lemmas.List.FromFn.{length-map-range_with_len, get_or-map-range_with_len}
use Rattle.std.proofs.lemmas.Int.{ints}
use Rattle.integer_algebra.specs.Sums.{at, none}
use Rattle.io_edge.specs.Faults.{Rose, GrowsByPart}
use Rattle.qp_model.specs.problem.Design.{Design}
use Rattle.qp_model.specs.machine.Controller.{Numbers}
use Rattle.qp_model.specs.machine.Machine.{IsAdmissible}
use Rattle.qp_model.specs.declared.quantity.Quantity.{Quantity}
use Rattle.qp_model.specs.declared.quantity.Quantity.TheVariants.{Turn}
use Rattle.fixed_kernel.specs.Outside.{IsFirstOutside}
use Rattle.mat_int.specs.Matrix.{Matrix, entry_of, zero_matrix}
use Rattle.closed_loop.specs.Looping.{Looping, successor_by, shifted_by, state_by, line_by, lines_of}
use Rattle.closed_loop.specs.Under.{states_by, lines_by, unshifted_by, unshifted_lines_by}
use Rattle.closed_loop.specs.Answers.{LieInside, LeavesAmong, MayBegin, GrowsByLines, GrowsByFront}
use Rattle.closed_loop.specs.Shows.{TurnShows, LoopShows, LoopEnds}
use Rattle.closed_loop.specs.declared.fault.LoopFault.{LoopFault}
use Rattle.closed_loop.specs.declared.fault.LoopFault.TheVariants.{Memory, TooWide, OutsideBox, WriteFault}

-- ---- a row that is added to a state
-- number by number
pub added : (old new : List ℤ) (f : ℕ → ℤ) → length new ≡ length old → ((j : ℕ) → j < length old → at new j ≡ at old j +ℤ f j) →
    new ≡ map (λ i. at old i +ℤ f i) (range_with_len 0 (length old))
added old new f long each =
    ext_get_or (pos 0) new (map (λ i. at old i +ℤ f i) (range_with_len 0 (length old))) (long ∙ sym (length-map-range_with_len (λ i. at old i +ℤ f i) 0 (length old)))
    (λ j l. (let m : j < length old = omega (arith, l, long) in each j m ∙ sym (get_or-map-range_with_len (λ i. at old i +ℤ f i) 0 (length old) j j (pos 0) m (omega arith))))

-- behind the last row there is nothing
pub past_entry : (m : Matrix) (k i : ℕ) → length m.rows ≤ k → entry_of m k i ≡ pos 0
past_entry m k i l = ap (λ (xs : List ℤ). get_or xs i (pos 0)) (get_or_past m.rows k [] l) ∙ get_or_past [] i (pos 0) (omega arith)

pub zero_entry : (n k i : ℕ) → entry_of (zero_matrix 0 n) k i ≡ pos 0
zero_entry n k i = past_entry (zero_matrix 0 n) k i (omega arith)

pub unadded : (z s : ℤ) → s ≡ pos 0 → z ≡ z +ℤ s
unadded z s is = rw is (omega (arith, ints))

-- ---- states and lines, one turn more
pub state_zero : (d : Design) (c : Looping) (start : List ℤ) (shifts : ℕ → ℕ → ℤ) → state_by d c start shifts 0 ≡ start
unfolding state_by
state_zero d c start shifts = refl

pub state_more : (d : Design) (c : Looping) (start : List ℤ) (shifts : ℕ → ℕ → ℤ) (k : ℕ) →
    state_by d c start shifts (k + 1) ≡ shifted_by d c (state_by d c start shifts k) (shifts k)
unfolding state_by
state_more d c start shifts k = rw add-one refl

-- in the words of what adds a row to a state
pub shifted_more : (d : Design) (c : Looping) (start : List ℤ) (shifts : Matrix) (k : ℕ) (next new : List ℤ) → next ≡ successor_by d c (state_by d c start (entry_of shifts) k) →
    new ≡ map (λ i. at next i +ℤ entry_of shifts k i) (range_with_len 0 (length next)) → new ≡ state_by d c start (entry_of shifts) (k + 1)
shifted_more d c start shifts k next new came is =
    is ∙ ap (λ (xs : List ℤ). map (λ i. at xs i +ℤ entry_of shifts k i) (range_with_len 0 (length xs))) came ∙
    ap (λ (n : ℕ). map (λ i. at (successor_by d c (state_by d c start (entry_of shifts) k)) i +ℤ entry_of shifts k i) (range_with_len 0 n)) (length-map-range_with_len _ 0 d.states) ∙
    sym (state_more d c start (entry_of shifts) k)

pub shifted_long : (d : Design) (c : Looping) (start : List ℤ) (shifts : Matrix) (k : ℕ) → length (state_by d c start (entry_of shifts) (k + 1)) ≡ d.states
shifted_long d c start shifts k = ap (λ (xs : List ℤ). length xs) (state_more d c start (entry_of shifts) k) ∙ length-map-range_with_len _ 0 d.states

text_zero : (c : Looping) (entry : ℕ) (states : ℕ → List ℤ) → lines_of c entry states 0 ≡ []
unfolding lines_of
text_zero c entry states = refl

text_more : (c : Looping) (entry : ℕ) (states : ℕ → List ℤ) (k : ℕ) → lines_of c entry states (k + 1) ≡ lines_of c entry states k ++ line_by c entry (k + 1) (states k)
unfolding lines_of
text_more c entry states k = rw add-one refl

-- a loop whose shifts have no row is the loop without
pub unshifted_matrix : (d : Design) (c : Looping) (entry : ℕ) (start : List ℤ) (m : Matrix) (n : ℕ) → m ≡ zero_matrix 0 n → (P : (ℕ → List ℤ) → (ℕ → List ℕ) → Type 0) →
    P (states_by d c start m) (lines_by d c entry start m) → P (unshifted_by d c start) (unshifted_lines_by d c entry start)
unshifted_matrix d c entry start m n is P h =
    subst (λ (f : ℕ → ℕ → ℤ). P (state_by d c start f) (lines_of c entry (state_by d c start f))) zeros
    (subst (λ (m : Matrix). P (states_by d c start m) (lines_by d c entry start m)) is h)
  where
    zeros : entry_of (zero_matrix 0 n) ≡ (λ k. none)
    zeros = λ t k i. zero_entry n k i t

-- ---- the states so far
pub inside_none : (c : Numbers) (states : ℕ → List ℤ) → LieInside c states 0
inside_none c states = record { each = λ k h. absurd (omega (arith, h)) }

pub inside_more : (c : Numbers) (states : ℕ → List ℤ) (k : ℕ) → LieInside c states k → IsAdmissible c (states k) → LieInside c states (k + 1)
inside_more c states k s g = record {
  each = λ j h. elim (cases_lt j k) [
    | inl lt ↦ s.each j lt
    | inr le ↦ (let e : k ≡ j = omega (arith, h) in subst (λ (i : ℕ). IsAdmissible c (states i)) e g)
  ];
}

-- ---- what was put so far
pub put_none : (c : Looping) (entry : ℕ) (states : ℕ → List ℤ) (first : Option (List ℕ)) → first ≡ option_map (λ o. o ++ lines_of c entry states 0) first
put_none c entry states None = refl
put_none c entry states (Some o) = rw (text_zero, append-nil) refl

pub put_more : (c : Looping) (entry : ℕ) (states : ℕ → List ℤ) (k : ℕ) (first mid new : Option (List ℕ)) → mid ≡ option_map (λ o. o ++ lines_of c entry states k) first →
    new ≡ option_map (λ o. o ++ line_by c entry (k + 1) (states k)) mid → new ≡ option_map (λ o. o ++ lines_of c entry states (k + 1)) first
put_more c entry states k None mid new e h = h ∙ ap (option_map (λ o. o ++ line_by c entry (k + 1) (states k))) e
put_more c entry states k (Some o) mid new e h =
    h ∙ ap (option_map (λ o. o ++ line_by c entry (k + 1) (states k))) e
    ∙ ap Some (append_assoc o (lines_of c entry states k) (line_by c entry (k + 1) (states k)) ∙ ap (λ (t : List ℕ). o ++ t) (sym (text_more c entry states k)))

-- ---- refusals
pub given : (r : Result (Unit {0}) LoopFault) (p : LoopFault → Type 0) (fault : LoopFault) → IsErrAnd r (λ e. e ≡ fault) → p fault → IfErr r p
given (Ok done) p fault e h = absurd e
given (Err x) p fault e h = subst p (sym e) h

-- what an error doesn't meet, it needn't
pub unmet : (r : Result (Unit {0}) LoopFault) (p : LoopFault → Type 0) (P : Type 0) → IsErrAnd r p → OnOk r P
unmet (Ok done) p P e = absurd e
unmet (Err x) p P e = tt

-- what is said of an error that is known
told : (r : Result (Unit {0}) LoopFault) (p : LoopFault → Type 0) (fault : LoopFault) → IfErr r p → r ≡ Err fault → p fault
told r p fault h is = subst (λ (x : Result (Unit {0}) LoopFault). IfErr x p) is h

-- an error that is known is no other
pub known : (r : Result (Unit {0}) LoopFault) (fault that : LoopFault) → IsErrAnd r (λ e. e ≡ fault) → r ≡ Err that → fault ≡ that
known (Ok done) fault that e is = absurd e
known (Err x) fault that e is = sym e ∙ (let same : x ≡ that = cc in same)

pub other : (r : Result (Unit {0}) LoopFault) (fault : LoopFault) (turn coordinate : ℕ) → IsErrAnd r (λ e. e ≡ fault) → (fault ≡ OutsideBox turn coordinate → ⊥) → r ≡ Err (OutsideBox turn coordinate) → ⊥
other r fault turn coordinate e differs is = differs (known r fault (OutsideBox turn coordinate) e is)

rose_from : (first mid new : ℕ) → first ≤ mid → mid ≤ new → Rose mid new → Rose first new
rose_from first mid new h l r = elim r.rise [
  | inl lt ↦ record { rise = inl (omega (arith, h, lt)) }
  | inr top ↦ elim (cases_lt first mid) [
    | inl lt ↦ record { rise = inl (omega (arith, lt, l)) }
    | inr le ↦ record { rise = inr (omega (arith, h, le, top)) }
  ]
]

pub grows_by_turns : (c : Looping) (entry : ℕ) (states : ℕ → List ℤ) (turns k : ℕ) (first new : Option (List ℕ)) → k ≤ turns → LieInside c.controller states k →
    new ≡ option_map (λ o. o ++ lines_of c entry states k) first → IfSome first (λ o. IsSomeAnd new (GrowsByLines c.controller states (lines_of c entry states) turns o))
grows_by_turns c entry states turns k None new h s e = tt
grows_by_turns c entry states turns k (Some o) new h s e =
    subst (λ (n : Option (List ℕ)). IsSomeAnd n (GrowsByLines c.controller states (lines_of c entry states) turns o)) (sym e) (record { done = k; within = h; inside = s; grown = refl })

-- memory that runs out before the first turn
pub out_before : (c : Looping) (entry : ℕ) (states : ℕ → List ℤ) (turns : ℕ) (got : Option (List ℕ)) (faults : ℕ) (r : Result (Unit {0}) LoopFault) → IsErrAnd r (λ e. e ≡ Memory) →
    IfErr r (LoopShows c.controller states (lines_of c entry states) turns got got faults faults)
out_before c entry states turns got faults r is = given r (LoopShows c.controller states (lines_of c entry states) turns got got faults faults) Memory is
    (grows_by_turns c entry states turns 0 got got zero-le (inside_none c.controller states) (put_none c entry states got))

-- a line has its line feed
line_there : (c : Looping) (entry turn : ℕ) (xi : List ℤ) → 0 < length (line_by c entry turn xi)
line_there c entry turn xi = ended _
  where
    ended : (xs : List ℕ) → 0 < length (xs ++ 10 ∷ [])
    ended xs = omega (arith, length-append xs (10 ∷ []))

-- so that a failed call leaves some of it
left_over : (bytes rest : List ℕ) → 0 < length bytes → (length bytes ≡ 0) ⊎ (0 < length rest) → 0 < length rest
left_over bytes rest some (inl none) = absurd (omega (arith, some, none))
left_over bytes rest some (inr left) = left

front_of : (c : Looping) (entry : ℕ) (states : ℕ → List ℤ) (turns k : ℕ) (o : List ℕ) (new : Option (List ℕ)) → k < turns → LieInside c.controller states (k + 1) →
    IsSomeAnd new (λ n. GrowsByPart (o ++ lines_of c entry states k) n (line_by c entry (k + 1) (states k))) → IsSomeAnd new (GrowsByFront c.controller states (lines_of c entry states) turns o)
front_of c entry states turns k o None h s g = absurd g
front_of c entry states turns k o (Some n) h s g = record {
  done = k + 1;
  within = omega (arith, h);
  inside = s;
  part = lines_of c entry states k ++ g.part;
  proper = record {
    rest = g.rest;
    is = text_more c entry states k ∙ ap (λ (t : List ℕ). lines_of c entry states k ++ t) g.is ∙ sym (append_assoc (lines_of c entry states k) g.part g.rest);
    proper = left_over (line_by c entry (k + 1) (states k)) g.rest (line_there c entry (k + 1) (states k)) g.proper;
  };
  grown = g.grown ∙ append_assoc o (lines_of c entry states k) g.part;
}

grows_by_front : (c : Looping) (entry : ℕ) (states : ℕ → List ℤ) (turns k : ℕ) (first mid new : Option (List ℕ)) → k < turns → LieInside c.controller states (k + 1) →
    mid ≡ option_map (λ o. o ++ lines_of c entry states k) first → IfSome mid (λ o. IsSomeAnd new (λ n. GrowsByPart o n (line_by c entry (k + 1) (states k)))) →
    IfSome first (λ o. IsSomeAnd new (GrowsByFront c.controller states (lines_of c entry states) turns o))
grows_by_front c entry states turns k None mid new h s e g = tt
grows_by_front c entry states turns k (Some o) mid new h s e g =
    front_of c entry states turns k o new h s (subst (λ (m : Option (List ℕ)). IfSome m (λ o. IsSomeAnd new (λ n. GrowsByPart o n (line_by c entry (k + 1) (states k))))) e g)

-- a turn that was made is one, and the first was made too
begun_by : (c : Numbers) (states : ℕ → List ℤ) (turns k : ℕ) → k < turns → LieInside c states (k + 1) → MayBegin c states turns
begun_by c states turns k h s = record { some = omega (arith, h); inside = record { each = λ j l. s.each j (omega (arith, l)) } }

-- what a turn shows, a loop shows that came to it
pub turn_shows : (c : Looping) (entry : ℕ) (states : ℕ → List ℤ) (turns k : ℕ) (first mid new : Option (List ℕ)) (before between now : ℕ) (fault : LoopFault) → k < turns →
    LieInside c.controller states k → mid ≡ option_map (λ o. o ++ lines_of c entry states k) first → before ≤ between → between ≤ now →
    TurnShows c entry (k + 1) (states k) mid new between now fault → LoopShows c.controller states (lines_of c entry states) turns first new before now fault
turn_shows c entry states turns k first mid new before between now Memory h s e l m t = grows_by_turns c entry states turns k first new (omega (arith, h)) s (t.1 ∙ e)
turn_shows c entry states turns k first mid new before between now (TooWide quantity) h s e l m t = absurd t
turn_shows c entry states turns k first mid new before between now (OutsideBox turn coordinate) h s e l m t =
    let gone : k ≡ turn - 1 = omega (arith, t.0) in (
      record { gone = k; is = t.0; within = omega (arith, t.0, h); before = s; outside = t.1 },
      t.2 ∙ e ∙ ap (λ (j : ℕ). option_map (λ o. o ++ lines_of c entry states j) first) gone,
    )
turn_shows c entry states turns k first mid new before between now WriteFault h s e l m t =
    let inside = inside_more c.controller states k s t.0 in
    (grows_by_front c entry states turns k first mid new h inside e t.1, rose_from before between now l m t.2, begun_by c.controller states turns k h inside)

-- ---- the first state outside the box is one
not_inside : (c : Numbers) (xi : List ℤ) (k : ℕ) → IsFirstOutside c xi k → IsAdmissible c xi → ⊥
not_inside c xi k o g = o.outside (k - 1) (omega (arith, o.low)) (g.each (k - 1) (omega (arith, o.low, o.high)))

coordinate_before : (c : Numbers) (xi : List ℤ) (j k : ℕ) → IsFirstOutside c xi j → IsFirstOutside c xi k → j < k → ⊥
coordinate_before c xi j k o p h = o.outside (j - 1) (omega (arith, o.low)) (p.before (j - 1) (omega (arith, o.low, h)))

coordinate_one : (c : Numbers) (xi : List ℤ) (j k : ℕ) → IsFirstOutside c xi j → IsFirstOutside c xi k → j ≡ k
coordinate_one c xi j k o p = elim (cases_lt j k) [
  | inl lt ↦ absurd (coordinate_before c xi j k o p lt)
  | inr le ↦ elim (cases_lt k j) [
    | inl lt ↦ absurd (coordinate_before c xi k j p o lt)
    | inr ge ↦ omega (arith, le, ge)
  ]
]

gone_one : (c : Numbers) (states : ℕ → List ℤ) (turns t i u j : ℕ) (a : LeavesAmong c states turns t i) (b : LeavesAmong c states turns u j) → a.gone ≡ b.gone
gone_one c states turns t i u j a b = elim (cases_lt a.gone b.gone) [
  | inl lt ↦ absurd (not_inside c (states a.gone) i a.outside (b.before.each a.gone lt))
  | inr le ↦ elim (cases_lt b.gone a.gone) [
    | inl lt ↦ absurd (not_inside c (states b.gone) j b.outside (a.before.each b.gone lt))
    | inr ge ↦ omega (arith, le, ge)
  ]
]

turn_one : (c : Numbers) (states : ℕ → List ℤ) (turns t i u j : ℕ) → LeavesAmong c states turns t i → LeavesAmong c states turns u j → t ≡ u
turn_one c states turns t i u j a b = omega (arith, a.is, b.is, gone_one c states turns t i u j a b)

first_one : (c : Numbers) (states : ℕ → List ℤ) (turns t i u j : ℕ) → LeavesAmong c states turns t i → LeavesAmong c states turns u j → i ≡ j
first_one c states turns t i u j a b =
    coordinate_one c (states b.gone) i j (subst (λ (k : ℕ). IsFirstOutside c (states k) i) (gone_one c states turns t i u j a b) a.outside) b.outside

-- ---- the quantity `turn`
pub none_wide : (o : Option ℕ) (none : Bool) (m n : ℕ) → is_some o ≡ not none → none ≡ true → SomeIff o (n ≤ m) n → m < n
none_wide None none m n is one h = elim (cases_lt m n) [ inl lt ↦ lt | inr le ↦ absurd (h le) ]
none_wide (Some x) none m n is one h = absurd (let flip = ap not one in let never : ⊥ = cc in never)

pub some_narrow : (o : Option ℕ) (none : Bool) (m n : ℕ) → is_some o ≡ not none → none ≡ false → SomeIff o (n ≤ m) n → n ≤ m
some_narrow None none m n is one h = absurd (let flip = ap not one in let never : ⊥ = cc in never)
some_narrow (Some x) none m n is one h = h.0

wide_or_narrow : (A : Type 0) (m n : ℕ) → m < n → n ≤ m → A
wide_or_narrow A m n lt le = absurd (let never : ⊥ = omega (arith, lt, le) in never)

module _ (r : Result (Unit {0}) LoopFault) (is : r ≡ Err (TooWide Turn)) where
  wide_is : (W : Type 0) → W → (q : Quantity) → (r ≡ Err (TooWide q)) ↔ ((q ≡ Turn) × W)
  wide_is W wide q = (λ e. (let same : q ≡ Turn = cc in same, wide), λ h. let e = h.0 in cc)

  wide_not_outside : (A : Type 0) (turn coordinate : ℕ) → r ≡ Err (OutsideBox turn coordinate) → A
  wide_not_outside A turn coordinate e = absurd (let never : ⊥ = cc in never)

  wide_not_failed : (A : Type 0) → r ≡ Err WriteFault → A
  wide_not_failed A e = absurd (let never : ⊥ = cc in never)

  wide_not_memory : (A : Type 0) → r ≡ Err Memory → A
  wide_not_memory A e = absurd (let never : ⊥ = cc in never)

not_wide : (r : Result (Unit {0}) LoopFault) (p : LoopFault → Type 0) (W : Type 0) → IfErr r p → ((q : Quantity) → p (TooWide q) → ⊥) → (W → ⊥) → (q : Quantity) →
    (r ≡ Err (TooWide q)) ↔ ((q ≡ Turn) × W)
not_wide r p W h never narrow q = (λ e. absurd (never q (told r p (TooWide q) h e)), λ w. absurd (narrow w.1))

-- what a loop that came to its limit or went on answers where some state leaves the box
pub leaves : (c : Numbers) (lines : ℕ → List ℕ) (states : ℕ → List ℤ) (turns : ℕ) (first new : Option (List ℕ)) (before now : ℕ) (r : Result (Unit {0}) LoopFault) →
    OnOk r (LieInside c states turns) → IfErr r (LoopShows c states lines turns first new before now) → (turn coordinate : ℕ) → LeavesAmong c states turns turn coordinate →
    (r ≡ Err (OutsideBox turn coordinate)) ⊎ ((r ≡ Err Memory) ⊎ (r ≡ Err WriteFault))
leaves c lines states turns first new before now (Ok done) s e turn coordinate l =
    absurd (not_inside c (states l.gone) coordinate l.outside (s.each l.gone (omega (arith, l.is, l.within))))
leaves c lines states turns first new before now (Err Memory) s e turn coordinate l = inr (inl refl)
leaves c lines states turns first new before now (Err (TooWide quantity)) s e turn coordinate l = absurd e
leaves c lines states turns first new before now (Err (OutsideBox t i)) s e turn coordinate l =
    inl (rw (turn_one c states turns t i turn coordinate e.0 l, first_one c states turns t i turn coordinate e.0 l) refl)
leaves c lines states turns first new before now (Err WriteFault) s e turn coordinate l = inr (inr refl)

-- and where none does and the sink's count didn't rise
stays : (c : Numbers) (lines : ℕ → List ℕ) (states : ℕ → List ℤ) (turns : ℕ) (first new : Option (List ℕ)) (before now : ℕ) (r : Result (Unit {0}) LoopFault) →
    IfErr r (LoopShows c states lines turns first new before now) → LieInside c states turns → (Rose before now → ⊥) → IsOk r ⊎ (r ≡ Err Memory)
stays c lines states turns first new before now (Ok done) e s none = inl refl
stays c lines states turns first new before now (Err Memory) e s none = inr refl
stays c lines states turns first new before now (Err (TooWide quantity)) e s none = absurd e
stays c lines states turns first new before now (Err (OutsideBox t i)) e s none =
    absurd (not_inside c (states e.0.gone) i e.0.outside (s.each e.0.gone (omega (arith, e.0.is, e.0.within))))
stays c lines states turns first new before now (Err WriteFault) e s none = absurd (none e.1)

-- ---- a loop ends
module _ (c : Numbers) (states : ℕ → List ℤ) (lines : ℕ → List ℕ) (turns size : ℕ) (first new : Option (List ℕ)) (before now : ℕ) (Untouched : Type 0) where
  -- before its first turn, where a number may be too wide
  pub ends_wide : 2 ^ 126 < size → Untouched → LoopEnds c states lines turns size first new before now Untouched (Err (TooWide Turn))
  ends_wide wide untouched = record {
    inside = tt;
    put = tt;
    wide = wide_is _ refl _ wide;
    wide_put = λ h. untouched;
    outside = λ turn coordinate e. wide_not_outside _ refl _ turn coordinate e;
    outside_put = λ turn coordinate e. wide_not_outside _ refl _ turn coordinate e;
    quiet = λ coordinate e. untouched;
    leaves = λ turn coordinate l narrow. wide_or_narrow _ (2 ^ 126) size wide narrow;
    stays = λ inside narrow. wide_or_narrow _ (2 ^ 126) size wide narrow;
    failed = λ e. wide_not_failed _ refl _ e;
    begun = λ e. wide_not_failed _ refl _ e;
    cut = λ e. wide_not_failed _ refl _ e;
    memory = λ e. wide_not_memory _ refl _ e;
  }

  -- with all turns, or with what a turn showed
  pub ends_so : (r : Result (Unit {0}) LoopFault) → size ≤ 2 ^ 126 → OnOk r (LieInside c states turns) → OnOk r (new ≡ option_map (λ o. o ++ lines turns) first) →
      IfErr r (LoopShows c states lines turns first new before now) → ((coordinate : ℕ) → r ≡ Err (OutsideBox 1 coordinate) → Untouched) →
      LoopEnds c states lines turns size first new before now Untouched r
  ends_so r narrow inside put refused quiet = record {
    inside = inside;
    put = put;
    wide = not_wide r (LoopShows c states lines turns first new before now) _ refused (λ q h. h) (λ w. wide_or_narrow _ (2 ^ 126) size w narrow);
    wide_put = λ w. wide_or_narrow _ (2 ^ 126) size w narrow;
    outside = λ turn coordinate e. (shown (OutsideBox turn coordinate) e).0;
    outside_put = λ turn coordinate e. (shown (OutsideBox turn coordinate) e).1;
    quiet = quiet;
    leaves = λ turn coordinate l h. leaves c lines states turns first new before now r inside refused turn coordinate l;
    stays = λ stay h none. stays c lines states turns first new before now r refused stay none;
    failed = λ e. (shown WriteFault e).1;
    begun = λ e. (shown WriteFault e).2;
    cut = λ e. (shown WriteFault e).0;
    memory = λ e. shown Memory e;
  }
    where
      shown : (fault : LoopFault) → r ≡ Err fault → LoopShows c states lines turns first new before now fault
      shown fault e = told r (LoopShows c states lines turns first new before now) fault refused e
