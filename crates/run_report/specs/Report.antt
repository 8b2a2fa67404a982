-- What is written of a run: its lines, or three that sum them up.
use Rattle.std.specs.Prelude.{ℕ, List, [], ◌∷◌, ◌++◌, length, codes, decimal, Option}
use Rattle.line_text.specs.LineText.{bytes_text}
use Rattle.sha2.specs.Sha256.{sha256}
use Rattle.line_kinds.specs.declared.kinds.Line.{Line}
use Rattle.run_output.specs.Halves.{found, guest_in, real_time_in}
use Rattle.run_files.specs.declared.run.AcceptedRun.{AcceptedRun}
use Rattle.run_files.specs.declared.run.Report.{Report}
use Rattle.run_files.specs.declared.run.Report.TheVariants.{Lines, Summary}
use Rattle.run_stream.specs.Lines.{run_shown, text_of}

-- how many of the lines are of one letter
abbrev pub count : {A : Type 0} → (Line → Option A) → List (ℕ × Line) → ℕ
count letter lines = length (found letter lines)

-- the SHA-256 digest of the bytes that are printed for the lines
abbrev pub digest_of : List (ℕ × Line) → List ℕ
digest_of lines = sha256 (text_of lines)

-- `M NUMBER N`: the number that the system was made of, and the ticks
abbrev pub run_line : ℕ → ℕ → List ℕ
run_line number ticks = codes "M " ++ (decimal number ++ (codes " " ++ (decimal ticks ++ 10 ∷ [])))

-- `M lines A B`: how many real-time lines there are, and how many of the guest's
abbrev pub counts_line : ℕ → ℕ → List ℕ
counts_line real_time guest = codes "M lines " ++ (decimal real_time ++ (codes " " ++ (decimal guest ++ 10 ∷ [])))

-- `M digest D`, two digits a byte
abbrev pub digest_line : List ℕ → List ℕ
digest_line digest = codes "M digest " ++ (bytes_text digest ++ 10 ∷ [])

-- the three lines, which sum up all lines that a run shows, its end lines among them
abbrev pub summary_text : ℕ → ℕ → List (ℕ × Line) → List ℕ
summary_text number ticks lines =
    run_line number ticks ++ (counts_line (count real_time_in lines) (count guest_in lines) ++ digest_line (digest_of lines))

-- what is written of the lines that are shown: their text, or the three lines
abbrev pub text_by : Report → ℕ → List (ℕ × Line) → List ℕ
text_by Lines ticks lines = text_of lines
text_by (Summary number) ticks lines = summary_text number ticks lines

-- what is written of a run
abbrev pub report_text : AcceptedRun → List ℕ
report_text run = text_by run.report run.ticks (run_shown run)
