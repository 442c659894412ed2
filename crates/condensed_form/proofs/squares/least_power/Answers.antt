use Rattle.condensed_form.proofs.SquareLaws.{power_small}
use Rattle.condensed_form.proofs.squares.least_power.Goals as goal

pub overflow_mul-s : goal.overflow_mul-s
overflow_mul-s c = let p = power_small c.loop-s.s c.args.unit c.loop-s-test.true c.requires in rw p.0 p.1
