-- What a kernel's words are, by its rule.
use Rattle.std.proofs.Common.{◌≡◌, ℕ, ◌+◌, ◌*◌, ◌≤◌, ◌<◌, ◌^◌, List, ℤ, pos, ◌*ℤ◌, length, get_or, unsigned_abs, ap, sym, subst, ◌∙◌, arith, refl, IsTrue, Some}
use Rattle.std.proofs.lemmas.Nat.{mul-le}
use Rattle.std.proofs.lemmas.List.{length-map}
use Rattle.integer_algebra.specs.Sums.{at}
use Rattle.qp_model.specs.machine.Controller.{Numbers, plan_length}
use Rattle.qp_model.specs.machine.Machine.{Iterate, IsAdmissible, loaded, lowering_of, raised, start_of, after}
use Rattle.qp_model.specs.machine.AbsoluteSums.{state_magnitudes, plan_magnitudes, IsController}
use Rattle.qp_model.specs.machine.Within.{AreWithin}
use Rattle.qp_model.proofs.MagnitudeLaws.{state_within, after_multipliers}
use Rattle.overflow_check.proofs.Runs.{after_plan_length, after_multipliers_length, after_sums_length, after_sums_le, after_suc, after_zero}
use Rattle.std.specs.Prelude.{slice_range, IfSome}
use Rattle.word_region.specs.Words.{RegionWords}
use Rattle.word_region.specs.Lending.{written_over}
use Rattle.word_region.specs.declared.Span.{Span}
use Rattle.fixed_kernel.specs.declared.kernel.Kernel.TheInside.{Inside}
use Rattle.fixed_kernel.specs.declared.word_machine.WordMachine.{WordMachine}
use Rattle.fixed_kernel.specs.Factors.{HasNarrowFactors}
use Rattle.fixed_kernel.specs.Raised.{with_raised, raised_step}
use Rattle.fixed_kernel.specs.Spans.{words_of, spans_of, state_in, made_in}
use Rattle.fixed_kernel.specs.Ready.{IsReadyToStep}
use Rattle.fixed_kernel.specs.WordMachine.{IsMachineOf}
use Rattle.fixed_kernel.specs.Progress.{Progress, iterate_of, region_of, unloaded, progress_of, IsReached}
use Rattle.fixed_kernel.proofs.Rooms.{fit}
use Rattle.fixed_kernel.proofs.Raised.{raised_at, raised_long, start_with_raised, step_with_raised}
use Rattle.fixed_kernel.proofs.States.{unloaded-loaded}
use Rattle.fixed_kernel.proofs.Words.{at_multipliers, state_back, made_back, words_long, written_whole, lent_whole}

-- ---- the machine's values after some steps from a state
-- a controller, a state of its box, and steps that it has
pub record Goes (p : Progress) : Type 0 where
  pub sound : IsController p.controller
  pub grid : IsAdmissible p.controller p.state
  pub steps : p.made ≤ p.controller.steps

pub loaded_long : (p : Progress) → Goes p → length (loaded p.controller p.state) ≡ p.controller.states
loaded_long p g = length-map p.state _ ∙ g.grid.long

-- the raised multipliers, among the words
pub words_multipliers_long : (p : Progress) → Goes p → length (raised p.controller (iterate_of p).multipliers) ≡ p.controller.rows
words_multipliers_long p g = raised_long p.controller (iterate_of p).multipliers ∙ g.sound.form.sized.shaped.bounds

pub plan_long : (p : Progress) → length (iterate_of p).plan ≡ length p.controller.offsets
plan_long p = after_plan_length p.controller (loaded p.controller p.state) p.made

pub plan_entries : (p : Progress) → Goes p → length (iterate_of p).plan ≡ plan_length p.controller
plan_entries p g = plan_long p ∙ g.sound.form.sized.shaped.offsets

pub sums_entries : (p : Progress) → Goes p → length (iterate_of p).sums ≡ plan_length p.controller
sums_entries p g = after_sums_length p.controller (loaded p.controller p.state) p.made ∙ g.sound.form.sized.shaped.offsets

-- the region has as many words as the controller says
pub region_long : (p : Progress) → Goes p → length (region_of p).words ≡ p.controller.words
region_long p g =
    words_long p.controller.states p.controller.rows (plan_length p.controller) p.controller.words (loaded p.controller p.state) (with_raised p.controller (iterate_of p)) g.sound.form.sized.words
    (loaded_long p g) (words_multipliers_long p g) (plan_entries p g) (sums_entries p g)

state_reached : (p : Progress) → Goes p → AreWithin (loaded p.controller p.state) (state_magnitudes p.controller)
state_reached p g = state_within p.controller p.state g.sound.form.sized.shaped.low g.sound.form.sized.shaped.high g.grid

sums_room : (p : Progress) → Goes p → p.made < p.controller.steps → (j : ℕ) → j < length p.controller.offsets → unsigned_abs (at (iterate_of p).sums j) + get_or (plan_magnitudes p.controller) j 0 ≤ 2 ^ 126
sums_room p g lt j h =
    let c = p.controller in
    let u = get_or (plan_magnitudes c) j 0 in
    let sum = after_sums_le c (loaded c p.state) p.made j g.sound.form.sized.clamp_low (state_reached p g) h in
    let all : (p.made + 1) * u ≤ c.steps * u = mul-le (p.made + 1) u c.steps u (omega (arith, lt)) (omega arith) in
    omega (arith, sum, all, (fit c g.sound).sums j h)

-- one more step may be made
ready : (p : Progress) → Goes p → p.made < p.controller.steps → IsReadyToStep p.controller (with_raised p.controller (iterate_of p))
ready p g lt = record {
  multipliers_within = after_multipliers p.controller (loaded p.controller p.state) p.made g.sound.form.sized.clamp_low;
  plan_long = plan_long p;
  sums_long = after_sums_length p.controller (loaded p.controller p.state) p.made;
  room = sums_room p g lt;
}

-- what the region's words hold
pub state_held : (p : Progress) → Goes p → state_in p.controller (region_of p).words ≡ loaded p.controller p.state
state_held p g = state_back p.controller (loaded p.controller p.state) (with_raised p.controller (iterate_of p)) (loaded_long p g)

pub made_held : (p : Progress) → Goes p → made_in p.controller (region_of p).words ≡ with_raised p.controller (iterate_of p)
made_held p g = made_back p.controller (loaded p.controller p.state) (with_raised p.controller (iterate_of p)) (loaded_long p g) (words_multipliers_long p g) (plan_long p)

ready_held : (p : Progress) → Goes p → p.made < p.controller.steps → IsReadyToStep p.controller (made_in p.controller (region_of p).words)
ready_held p g lt = subst (IsReadyToStep p.controller) (sym (made_held p g)) (ready p g lt)

-- the words after one more step
pub words_after : (p : Progress) → Goes p →
    words_of (state_in p.controller (region_of p).words) (raised_step p.controller (state_in p.controller (region_of p).words) (made_in p.controller (region_of p).words)) ≡ (region_of (record p { made = p.made + 1 })).words
words_after p g =
    ap (λ (s : List ℤ). words_of s (raised_step p.controller s (made_in p.controller (region_of p).words))) (state_held p g) ∙
    ap (λ (m : Iterate). words_of (loaded p.controller p.state) (raised_step p.controller (loaded p.controller p.state) m)) (made_held p g) ∙
    ap (words_of (loaded p.controller p.state))
    (step_with_raised p.controller (loaded p.controller p.state) (iterate_of p) (after_multipliers_length p.controller (loaded p.controller p.state) p.made) ∙
    ap (with_raised p.controller) (sym (after_suc p.controller (loaded p.controller p.state) p.made)))

-- the words at the start
pub words_first : (c : Numbers) (xi : List ℤ) → words_of (loaded c xi) (start_of c) ≡ (region_of (record { controller = c; state = xi; made = 0 })).words
words_first c xi = ap (words_of (loaded c xi)) (sym (start_with_raised c) ∙ ap (with_raised c) (sym (after_zero c (loaded c xi))))

-- ---- a kernel that stands there
pub record Stands (k : Inside) (p : Progress) : Type 0 where
  pub controller : k.controller.now ≡ p.controller
  pub made : k.made ≡ p.made
  pub goes : Goes p
  pub region : k.region ≡ region_of p
  pub spans : k.spans ≡ spans_of p.controller
  pub narrow : IsTrue k.narrow → HasNarrowFactors p.controller
  pub words : IfSome k.words (IsMachineOf p.controller)

pub seen : (k : Inside) (p : Progress) → Stands k p → progress_of k ≡ p
seen k p s =
    let state : (progress_of k).state ≡ p.state =
    ap (λ (m : Numbers). unloaded m (state_in m k.region.words)) s.controller ∙ ap (λ (w : RegionWords). unloaded p.controller (state_in p.controller w.words)) s.region ∙
    ap (unloaded p.controller) (state_held p s.goes) ∙ unloaded-loaded p.controller p.state in
    rw (state, s.controller, s.made) refl

pub reached : (k : Inside) (p : Progress) → Stands k p → IsReached k
reached k p s =
    let e = seen k p s in
    record {
      sound = subst IsController (sym s.controller) s.goes.sound;
      made = subst (λ (q : Progress). q.made ≤ q.controller.steps) (sym e) s.goes.steps;
      grid = subst (λ (q : Progress). IsAdmissible q.controller q.state) (sym e) s.goes.grid;
      region = s.region ∙ ap region_of (sym e);
      spans = s.spans ∙ ap spans_of (sym s.controller);
      narrow = λ t. subst HasNarrowFactors (sym s.controller) (s.narrow t);
      words = subst (λ (n : Numbers). IfSome k.words (IsMachineOf n)) (sym s.controller) s.words;
    }

-- a kernel by its rule
pub goes : (k : Inside) → IsReached k → Goes (progress_of k)
goes k r = record { sound = r.sound; grid = r.grid; steps = r.made }

-- a region whose words are all written
pub written_region : (old : RegionWords) (start : ℕ) (ws : List ℤ) (p : Progress) → start ≡ 0 → length old.words ≡ p.controller.words → Goes p → old.used ≡ p.controller.words → ws ≡ (region_of p).words →
    record { words = written_over old.words start ws; used = old.used } ≡ region_of p
written_region old start ws p e l g u h =
    let long : length ws ≡ length old.words = ap length h ∙ region_long p g ∙ sym l in
    rw (e, written_whole old.words ws long, h, u) refl

-- a kernel with words written, and so many steps made
abbrev pub kernel_with : Inside → ℕ → List ℤ → ℕ → Inside
kernel_with k start ws made = record k { region = record { words = written_over k.region.words start ws; used = k.region.used }; made = made }

held_long : (k : Inside) → IsReached k → length k.region.words ≡ k.controller.now.words
held_long k r = ap (λ (w : RegionWords). length w.words) r.region ∙ region_long (progress_of k) (goes k r)

-- a state is loaded
pub loaded_stands : (k : Inside) → IsReached k → (n : Numbers) (xi : List ℤ) (start : ℕ) (ws : List ℤ) → start ≡ 0 → n ≡ k.controller.now → IsAdmissible n xi → ws ≡ words_of (loaded n xi) (start_of n) →
    Stands (kernel_with k start ws 0) (record { controller = k.controller.now; state = xi; made = 0 })
loaded_stands k r n xi start ws e same grid h =
    let c = k.controller.now in
    let p : Progress = record { controller = c; state = xi; made = 0 } in
    let g : Goes p = record { sound = r.sound; grid = subst (λ (m : Numbers). IsAdmissible m xi) same grid; steps = omega arith } in
    record {
      controller = refl;
      made = refl;
      goes = g;
      region = written_region k.region start ws p e (held_long k r) g (ap (λ (w : RegionWords). w.used) r.region) (h ∙ ap (λ (m : Numbers). words_of (loaded m xi) (start_of m)) same ∙ words_first c xi);
      spans = r.spans;
      narrow = r.narrow;
      words = r.words;
    }

-- a step is made
pub stepped_stands : (k : Inside) → IsReached k → k.made < k.controller.now.steps → (n : Numbers) (start : ℕ) (lent ws : List ℤ) → start ≡ 0 → n ≡ k.controller.now → lent ≡ k.region.words →
    ws ≡ words_of (state_in n lent) (raised_step n (state_in n lent) (made_in n lent)) →
    Stands (kernel_with k start ws (k.made + 1)) (record (progress_of k) { made = k.made + 1 })
stepped_stands k r lt n start lent ws e same taken h =
    let c = k.controller.now in
    let p : Progress = record (progress_of k) { made = k.made + 1 } in
    let g : Goes p = record { sound = r.sound; grid = r.grid; steps = omega (arith, lt) } in
    let was : lent ≡ (region_of (progress_of k)).words = taken ∙ ap (λ (w : RegionWords). w.words) r.region in
    record {
      controller = refl;
      made = refl;
      goes = g;
      region = written_region k.region start ws p e (held_long k r) g (ap (λ (w : RegionWords). w.used) r.region)
          (h ∙ ap (λ (m : Numbers). words_of (state_in m lent) (raised_step m (state_in m lent) (made_in m lent))) same ∙
          ap (λ (w : List ℤ). words_of (state_in c w) (raised_step c (state_in c w) (made_in c w))) was ∙ words_after (progress_of k) (goes k r));
      spans = r.spans;
      narrow = r.narrow;
      words = r.words;
    }

-- all words are lent
pub lent_held : (k : Inside) → IsReached k → (s : Span) (lent : List ℤ) (n : Numbers) → n ≡ k.controller.now →
    s ≡ record { start = 0; len = n.words } → lent ≡ slice_range k.region.words s.start (s.start + s.len) → lent ≡ k.region.words
lent_held k r s lent n same e h =
    h ∙ ap (λ (t : Span). slice_range k.region.words t.start (t.start + t.len)) e ∙ lent_whole k.region.words n.words (held_long k r ∙ ap (λ (m : Numbers). m.words) (sym same))

pub ready_lent : (k : Inside) → IsReached k → k.made < k.controller.now.steps → (n : Numbers) (lent : List ℤ) → n ≡ k.controller.now → lent ≡ k.region.words → IsReadyToStep n (made_in n lent)
ready_lent k r lt n lent same h =
    subst (λ (m : Numbers). IsReadyToStep m (made_in m lent)) (sym same)
    (subst (λ (w : List ℤ). IsReadyToStep k.controller.now (made_in k.controller.now w)) (sym (h ∙ ap (λ (w : RegionWords). w.words) r.region)) (ready_held (progress_of k) (goes k r) lt))

-- ---- a run in words of 64 bits
was_lent : (k : Inside) → IsReached k → (lent : List ℤ) → lent ≡ k.region.words → state_in k.controller.now lent ≡ loaded k.controller.now (progress_of k).state
was_lent k r lent h = ap (state_in k.controller.now) (h ∙ ap (λ (w : RegionWords). w.words) r.region) ∙ state_held (progress_of k) (goes k r)

pub state_lent : (k : Inside) → IsReached k → (n : Numbers) (lent : List ℤ) → n ≡ k.controller.now → lent ≡ k.region.words → AreWithin (state_in n lent) (state_magnitudes n)
state_lent k r n lent same h =
    subst (λ (m : Numbers). AreWithin (state_in m lent) (state_magnitudes m)) (sym same)
    (subst (λ (s : List ℤ). AreWithin s (state_magnitudes k.controller.now)) (sym (was_lent k r lent h)) (state_reached (progress_of k) (goes k r)))

pub made_lent : (k : Inside) → IsReached k → (n : Numbers) (lent : List ℤ) → n ≡ k.controller.now → lent ≡ k.region.words → made_in n lent ≡ with_raised n (after n (state_in n lent) k.made)
made_lent k r n lent same h =
    let c = k.controller.now in
    let p = progress_of k in
    subst (λ (m : Numbers). made_in m lent ≡ with_raised m (after m (state_in m lent) k.made)) (sym same)
    (ap (made_in c) (h ∙ ap (λ (w : RegionWords). w.words) r.region) ∙ made_held p (goes k r) ∙ ap (λ (s : List ℤ). with_raised c (after c s k.made)) (sym (was_lent k r lent h)))

-- a kernel with words written, all steps made, and other room
abbrev pub kernel_after : Inside → ℕ → List ℤ → ℕ → WordMachine → Inside
kernel_after k start ws made machine = record k { region = record { words = written_over k.region.words start ws; used = k.region.used }; made = made; words = Some machine }

-- all steps are made
pub finished_stands : (k : Inside) → IsReached k → (n : Numbers) (machine : WordMachine) (start : ℕ) (lent ws : List ℤ) → start ≡ 0 → n ≡ k.controller.now → lent ≡ k.region.words → IsMachineOf n machine →
    ws ≡ words_of (state_in n lent) (with_raised n (after n (state_in n lent) n.steps)) →
    Stands (kernel_after k start ws n.steps machine) (record (progress_of k) { made = k.controller.now.steps })
finished_stands k r n machine start lent ws e same taken own h =
    let c = k.controller.now in
    let p : Progress = record (progress_of k) { made = c.steps } in
    let g : Goes p = record { sound = r.sound; grid = r.grid; steps = omega arith } in
    record {
      controller = refl;
      made = ap (λ (m : Numbers). m.steps) same;
      goes = g;
      region = written_region k.region start ws p e (held_long k r) g (ap (λ (w : RegionWords). w.used) r.region)
          (h ∙ ap (λ (m : Numbers). words_of (state_in m lent) (with_raised m (after m (state_in m lent) m.steps))) same ∙
          ap (λ (s : List ℤ). words_of s (with_raised c (after c s c.steps))) (was_lent k r lent taken));
      spans = r.spans;
      narrow = r.narrow;
      words = subst (λ (m : Numbers). IsMachineOf m machine) same own;
    }

-- ---- single words
-- word i of the region, where the machine's values have it
pub word_held : (k : Inside) → IsReached k → (i : ℕ) → at k.region.words i ≡ at (region_of (progress_of k)).words i
word_held k r i = ap (λ (w : RegionWords). at w.words i) r.region

-- the word of a multiplier
pub raised_word : (p : Progress) → Goes p → (i : ℕ) → i < p.controller.rows →
    at (region_of p).words (p.controller.states + i) ≡ at (iterate_of p).multipliers i *ℤ pos (2 ^ lowering_of p.controller i)
raised_word p g i lt =
    at_multipliers p.controller.states p.controller.rows i (loaded p.controller p.state) (with_raised p.controller (iterate_of p)) (loaded_long p g) (words_multipliers_long p g) lt ∙
    raised_at p.controller (iterate_of p).multipliers i (omega (arith, lt, g.sound.form.sized.shaped.bounds))
