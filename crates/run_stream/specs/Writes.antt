-- A run that streams its lines: what it answers.
use Rattle.std.specs.Prelude.{◌≡◌, ◌≤◌, ℕ, List, Option, Result, Ok, Err, length, take}
use Rattle.outside_io.specs.Causes.{Rose}
use Rattle.outside_io.specs.Sink.{appended}
use Rattle.run_stream.specs.declared.stream.RunFault.{RunFault}
use Rattle.run_stream.specs.declared.stream.RunFault.TheVariants.{NoMemory, Sink}

-- a first part of a text was written
abbrev pub AppendsPart : Option (List ℕ) → Option (List ℕ) → List ℕ → Type 0
AppendsPart old new text = (k : ℕ) × (k ≤ length text) × (new ≡ appended old (take k text))

-- all of a text was written; or a first part of it, and the sink's count of faults rose; or nothing, for want of memory
abbrev pub Writes : {A : Type 0} → Option (List ℕ) → Option (List ℕ) → ℕ → ℕ → List ℕ → Result A RunFault → Type 0
Writes old new before now text (Ok done) = (new ≡ appended old text) × (now ≡ before)
Writes old new before now text (Err Sink) = (before ≤ now) × Rose before now × AppendsPart old new text
Writes old new before now text (Err NoMemory) = (new ≡ old) × (now ≡ before)
