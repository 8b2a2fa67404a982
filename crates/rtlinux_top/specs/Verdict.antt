-- What is to be answered and written, from the words and from what each name holds.
use Rattle.std.specs.Prelude.{ℕ, Bool, List, [], length, nat_lt, if◌then◌else◌, Option, Some, None, Result, Ok, Err}
use Rattle.outside_io.specs.Store.{Files}
use Rattle.run_files.specs.declared.cause.Cause.{Cause}
use Rattle.run_files.specs.declared.cause.Cause.TheVariants as cause
use Rattle.run_files.specs.declared.run.AcceptedRun.{AcceptedRun}
use Rattle.run_files.specs.Line.{refusal_text}
use Rattle.run_files.specs.Verdict.{About, Verdict, ◌>>=◌, made_of_file, ticks_in, run_ticks, run_verdict}
use Rattle.make_request.specs.Made.{make_ticks, make_verdict}
use Rattle.run_report.specs.Report.{report_text}
use Rattle.rtlinux_top.specs.declared.status.Status.{Status}
use Rattle.rtlinux_top.specs.declared.status.Status.TheVariants.{Done, Refused, Outside, Breach, RtFault, Usage}
use Rattle.rtlinux_top.specs.declared.status.Device.TheVariants.{Read}
use Rattle.run_stream.specs.Lines.{run_shown, has_breach, has_fault}
use Rattle.rtlinux_top.specs.Run.{flat_run}
use Rattle.rtlinux_top.specs.Words.{Asked, Unknown, Flat, System, Made}

-- a flat image has at most 65,536 bytes
abbrev pub flat_in : ℕ → List ℕ → Result AcceptedRun Cause
flat_in ticks bytes = if nat_lt 65536 (length bytes) then Err cause.Outside else Ok (flat_run bytes ticks)

-- what the words alone come to: the ticks, or the first refusal
abbrev pub asked_ticks : Asked → Result ℕ About
asked_ticks Unknown = Err (cause.Words, [])
asked_ticks (Flat image word) = ticks_in word
asked_ticks (System run) = run_ticks (Some run)
asked_ticks (Made make) = make_ticks (Some make)

-- the run that is accepted, or the first refusal in the order of the words, the ticks and the files
unfoldable pub verdict_of : Asked → Files → Verdict
verdict_of Unknown files = Err (cause.Words, [])
verdict_of (Flat image word) files = ticks_in word >>= λ ticks. made_of_file (flat_in ticks) files image
verdict_of (System run) files = run_verdict (Some run) files
verdict_of (Made make) files = make_verdict (Some make)

-- what is known of the files of a command: what the store tells of them; a system that is made has none
abbrev pub known : Asked → Option Files → Option Files
known Unknown held = held
known (Flat image word) held = held
known (System run) held = held
known (Made make) held = Some (λ name. None)

abbrev pub refused_by : ℕ → ℕ → Status
refused_by number part = Refused (record { number = number; part = part })

-- the answer to a refusal
abbrev pub status_by : Cause → Status
status_by cause.Words = Usage
status_by cause.Ticks = refused_by 40 0
status_by cause.Read = Outside Read
status_by cause.TooLarge = refused_by 12 0
status_by cause.Document = refused_by 10 0
status_by cause.Field = refused_by 11 0
status_by (cause.Image rule) = refused_by 20 rule
status_by cause.Outside = refused_by 21 0
status_by cause.Overlap = refused_by 22 0
status_by (cause.Line line) = refused_by 30 0

-- the answer after all ticks: whether a breach is among the lines that are shown, or else a fault
abbrev pub status_after : Bool → Bool → Status
status_after breach fault = if breach then Breach else if fault then RtFault else Done

-- the answer to a verdict
abbrev pub status_of : Verdict → Status
status_of (Err about) = status_by about.0
status_of (Ok run) = status_after (has_breach (run_shown run)) (has_fault (run_shown run))

-- what is written for a verdict
abbrev pub verdict_output : Verdict → List ℕ
verdict_output (Err about) = refusal_text about.0 about.1
verdict_output (Ok run) = report_text run
