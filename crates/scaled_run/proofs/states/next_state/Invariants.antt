use Rattle.std.proofs.Common.{◌+◌, unsigned_abs}
use Rattle.mat_int.specs.Enclosures.{combined}
use Rattle.mat_int.specs.Matrix.{entry_of}
use Rattle.enclosure.specs.Values.{pair_at}
use Rattle.qp_model.specs.form.FineForm.{followed}
use Rattle.scaled_run.specs.Lists.{HoldsEnclosures}
use Rattle.scaled_run.proofs.states.next_state.Given as goal

abbrev pub invariant-loop-i : goal.invariant-loop-i
invariant-loop-i l = HoldsEnclosures l.out.items l.i (λ i. combined (l.parts.states + l.parts.inputs)
    (followed l.parts.states (entry_of l.parts.a i) (entry_of l.parts.b i)) (followed l.parts.states (pair_at l.state) (pair_at l.input)) (unsigned_abs l.parts.plant_den))
