-- What is written for an accepted run is the output of the one solution.
use Rattle.std.proofs.Common.{◌≡◌, ℕ, List, Option, Some, None, ap, ◌∙◌}
use Rattle.std.specs.Prelude.{IfSome, Ok, Err}
use Rattle.outside_io.specs.Store.{Files}
use Rattle.outside_io.specs.Sink.{appended}
use Rattle.run_files.specs.Verdict.{Verdict}
use Rattle.run_report.specs.Report.{text_by}
use Rattle.run_stream.specs.Ran.{guest_shown, real_shown}
use Rattle.rtlinux_top.specs.Answers.{AnswersBy, AnswersTo}
use Rattle.rtlinux_top.specs.Solution.{WritesSolution}
use Rattle.rtlinux_top.specs.Verdict.{known, verdict_of, verdict_output}
use Rattle.rtlinux_top.specs.Words.{Asked}
use Rattle.rtlinux_top.specs.declared.status.Status.{Status}
use Rattle.rtlinux_top.proofs.Shown.{halves, shows, shows_output}

writes : (verdict : Verdict) (old new : Option (List ℕ)) → new ≡ appended old (verdict_output verdict) → WritesSolution verdict old new
writes (Ok run) old new told = (
  guest_shown run,
  (
    real_shown run,
    record {
      solution = shows run;
      halves = halves run.shown run (guest_shown run) (real_shown run) (shows run);
      text = told ∙ ap (λ lines. appended old (text_by run.report run.ticks lines)) (shows_output run.shown run);
    },
  ),
)
writes (Err about) old new told = tt

pub headline : (held : Option Files) (asked : Asked) (result : Status) (old new : Option (List ℕ)) → AnswersTo asked held result old new
    → IfSome (known asked held) (λ files. WritesSolution (verdict_of asked files) old new)
headline held asked result old new told = where_known (known asked held) told
  where
    where_known : (held : Option Files) → IfSome held (λ files. AnswersBy (verdict_of asked files) result old new) → IfSome held (λ files. WritesSolution (verdict_of asked files) old new)
    where_known None told = tt
    where_known (Some files) told = writes (verdict_of asked files) old new told.1
