use Rattle.activity_step.proofs.EndLeft.{none_more}
use Rattle.activity_step.proofs.ended.end_by_fault.Goals as goal

pub returns : goal.returns
returns c =
    let e = c.drop_caller-effect.ensures in
    record {
      parts = e.parts;
      asked = λ pending. none_more _ pending _ _ _ e.marks (e.asked pending);
      moves = record {
        took = e.acknowledged;
        latches = e.latches;
        booted = e.booted;
        paired = e.kept;
        agrees = e.agrees;
        lines = c.look.ensures;
        guest = e.guest;
        version = e.version;
      };
    }
