-- What a call comes to, as far as its answer tells: the private call below the public one has these as one fact.
use Rattle.std.specs.Prelude.{◌≡◌, ◌<◌, ◌⊎◌, ℕ, List, Option}
use Rattle.outside_io.specs.Causes.{Rose}
use Rattle.outside_io.specs.Sink.{appended}
use Rattle.outside_io.specs.Store.{Files}
use Rattle.run_files.specs.declared.cause.Cause.TheVariants as cause
use Rattle.run_files.specs.Line.{refusal_text}
use Rattle.rtlinux_top.specs.declared.last.Last.{Last}
use Rattle.rtlinux_top.specs.declared.last.Last.TheVariants.{Nothing}
use Rattle.rtlinux_top.specs.declared.status.Device.TheVariants.{Read, Write}
use Rattle.rtlinux_top.specs.declared.status.Status.{Status}
use Rattle.rtlinux_top.specs.declared.status.Status.TheVariants.{Outside, Usage, NoMemory}
use Rattle.rtlinux_top.specs.Answers.{AnswersTo, AnswersWords, RefusesTicks, ReadFailed}
use Rattle.rtlinux_top.specs.Status.{IsDetermined, HasRun}
use Rattle.rtlinux_top.specs.Verdict.{refused_by}
use Rattle.rtlinux_top.specs.Words.{Asked, Unknown}

-- of the words, of what the store holds with its count of faults before and after and the name that failed last, of what the sink was told
-- to write with its count, and of what is kept
pub record IsCourse (asked : Asked) (held : Option Files) (fetches_failed fetches_failed_now : ℕ) (unread : List ℕ) (old new : Option (List ℕ)) (puts_failed puts_failed_now : ℕ) (last : Last) (status : Status) : Type 0 where
  pub told : IsDetermined status → AnswersTo asked held status old new
  pub early : IsDetermined status → AnswersWords asked status old new
  pub usage : status ≡ Usage → asked ≡ Unknown
  pub ticks : status ≡ refused_by 40 0 → RefusesTicks asked
  pub read : status ≡ Outside Read → ReadFailed asked held fetches_failed fetches_failed_now unread
  pub read_text : status ≡ Outside Read → new ≡ appended old (refusal_text cause.Read unread)
  pub write : status ≡ Outside Write → Rose puts_failed puts_failed_now
  pub sink_fault : puts_failed < puts_failed_now → status ≡ Outside Write
  pub store_fault : fetches_failed < fetches_failed_now → (status ≡ Outside Read) ⊎ (status ≡ Outside Write)
  pub memory : status ≡ NoMemory → new ≡ old
  pub dropped : ¬ HasRun status → last ≡ Nothing
