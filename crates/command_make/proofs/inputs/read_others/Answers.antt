use Rattle.std.proofs.Common.{◌≡◌, Option, Some, None, option_map, refl, subst}
use Rattle.qp_model.specs.problem.Policy.{plans_of}
use Rattle.mat_int.specs.Matrix.{Matrix}
use Rattle.stay_check.specs.FaceForms.{faces_of}
use Rattle.command_line.specs.Script.{ends}
use Rattle.command_line.specs.Running.{RunsInStore}
use Rattle.command_line.proofs.Results.{err_same}
use Rattle.command_line.proofs.Following.{went_where, stopped_where}
use Rattle.command_make.specs.Make.{make_deeds}
use Rattle.command_make.specs.Inputs.{act_of}
use Rattle.command_make.proofs.inputs.read_others.Goals as goal

unseen : (o : Option Matrix) → o ≡ option_map (λ m. m) o
unseen (Some m) = refl
unseen None = refl

pub returns-in_err-reference : goal.returns-in_err-reference
returns-in_err-reference g c =
    let a = c.args.asked.now in
    rw (err_same c.from_residual.result _ c.from_residual.ensures.1)
    (record { along = record { went = tt; ended = stopped_where a.lean _ _ _ plans_of c.in_err-reference.ensures.read }; inputs = tt })

pub returns-in_err-faces : goal.returns-in_err-faces
returns-in_err-faces g c =
    let a = c.args.asked.now in
    let end = stopped_where a.faced _ _ _ faces_of c.in_err-faces.ensures.read in
    rw (err_same c.from_residual-in_err-faces.result _ c.from_residual-in_err-faces.ensures.1)
    (record { along = record { went = tt; ended = went_where a.lean _ _ _ plans_of c.in_ok-reference.reference c.in_ok-reference.ensures.read end }; inputs = tt })

pub returns-in_err-range : goal.returns-in_err-range
returns-in_err-range g c =
    let a = c.args.asked.now in
    let end = went_where a.faced _ _ _ faces_of c.in_ok-faces.faces c.in_ok-faces.ensures.read (stopped_where a.disturbed _ _ _ (λ m. m) c.in_err-range.ensures.read) in
    rw (err_same c.from_residual-in_err-range.result _ c.from_residual-in_err-range.ensures.1)
    (record { along = record { went = tt; ended = went_where a.lean _ _ _ plans_of c.in_ok-reference.reference c.in_ok-reference.ensures.read end }; inputs = tt })

pub returns : goal.returns
returns g c =
    let a = c.args.asked.now in
    let reference = c.in_ok-reference.ensures in
    let faces = c.in_ok-faces.ensures in
    let range = c.in_ok-range.ensures in
    record {
      along = record {
        went = λ now s rest.
            went_where a.lean _ _ _ plans_of c.in_ok-reference.reference reference.read
            (went_where a.faced _ _ _ faces_of c.in_ok-faces.faces faces.read
            (went_where a.disturbed _ _ _ (λ m. m) c.in_ok-range.range range.read
            (subst (λ (r : Option Matrix). RunsInStore g.S.Store c.args.words.now (make_deeds a) c.read_range.new.store now s
            (ends (act_of a (record { fast = c.args.wanted.fast; design = c.args.wanted.design; policy = c.args.policy; reference = c.in_ok-reference.reference; faces = c.in_ok-faces.faces; range = r })))) (unseen c.in_ok-range.range) rest)));
        ended = tt;
      };
      inputs = record { plans = c.requires.plans; references = reference.sized; faces = faces.sized; range = range.sized };
    }
