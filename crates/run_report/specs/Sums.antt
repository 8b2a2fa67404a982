-- How lines are summed up as they come.
use Rattle.std.specs.Prelude.{◌≡◌, ℕ, ◌+◌, List, ◌++◌, length, take}
use Rattle.sha2.specs.declared.Sha256.{Sha256}
use Rattle.sha2.specs.Hashers.{Holds256}
use Rattle.line_kinds.specs.declared.kinds.GLine.{GLine}
use Rattle.line_kinds.specs.declared.kinds.Line.{Line}
use Rattle.line_kinds.specs.declared.kinds.RLine.{RLine}
use Rattle.run_lines.specs.Ticks.{stamped}
use Rattle.run_output.specs.Halves.{guest_in, real_time_in}
use Rattle.run_files.specs.declared.run.Shown.{Shown}
use Rattle.run_files.specs.declared.run.Shown.TheVariants.{Guest, Both, WithHardware}
use Rattle.run_stream.specs.Lines.{text_of, tick_text}
use Rattle.run_report.specs.Report.{count}
use Rattle.run_report.specs.declared.sum.Sum.{Sum}

-- a text was added to a digest
abbrev pub Absorbs : Sha256 → Sha256 → List ℕ → Type 0
Absorbs old new text = (said : List ℕ) → Holds256 old said → Holds256 new (said ++ text)

-- how many real-time lines of a tick are shown, and how many of the guest's end lines
abbrev pub real_time_shown : Shown → List RLine → ℕ
real_time_shown Guest r = 0
real_time_shown Both r = length r
real_time_shown WithHardware r = length r

abbrev pub guest_ends : Shown → List GLine → ℕ
guest_ends Guest g = length (take 1 g)
guest_ends Both g = length g
guest_ends WithHardware g = length g

-- the lines of a tick were added to a sum
pub record Adds (old new : Sum) (tick : ℕ) (lines : List Line) : Type 0 where
  pub real_time : new.real_time ≡ old.real_time + count real_time_in (stamped tick lines)
  pub guest : new.guest ≡ old.guest + count guest_in (stamped tick lines)
  pub digest : Absorbs old.digest new.digest (tick_text tick lines)

-- a sum is that of these lines
pub record Sums (sum : Sum) (lines : List (ℕ × Line)) : Type 0 where
  pub real_time : sum.real_time ≡ count real_time_in lines
  pub guest : sum.guest ≡ count guest_in lines
  pub digest : Holds256 sum.digest (text_of lines)
