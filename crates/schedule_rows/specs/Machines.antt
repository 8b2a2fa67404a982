-- Small machines, written in hexadecimal digits, and the lines of their runs.
use Rattle.std.specs.Prelude.{ℕ, ◌+◌, ◌-◌, ◌*◌, ◌==◌, nat_lt, true, List, [], ◌∷◌, ◌++◌, length, take, drop, replicate, if◌then◌else◌, Option}
use Rattle.device_script.specs.declared.event.Event.{Event}
use Rattle.line_kinds.specs.declared.kinds.GLine.{GLine}
use Rattle.line_kinds.specs.declared.kinds.HLine.{HLine}
use Rattle.line_kinds.specs.declared.kinds.Line.{Line}
use Rattle.line_kinds.specs.declared.kinds.RLine.{RLine}
use Rattle.run_lines.specs.Calls.{calls_of, first_of}
use Rattle.run_lines.specs.Ticks.{lines_to}
use Rattle.bare_machine.specs.Run.{end_line}
use Rattle.bare_machine.specs.State.{GuestStart}
use Rattle.priority_schedule.specs.Run.{real_end}
use Rattle.priority_schedule.specs.State.{RealTimeStart}
use Rattle.hardware_lines.specs.Hardware.{hardware}
use Rattle.hardware_lines.specs.RunStart.{RunStart}
use Rattle.schedule_laws.specs.Output.{run_lines}
use Rattle.schedule_laws.specs.Both.{both_after, both_r, both_g, all_g, all_r}

-- Bytes from text: two lower-case digits each, with spaces between them as one likes

abbrev pub digit : ℕ → ℕ
digit c = if nat_lt c 58 then c - 48 else c - 87

abbrev pub bytes_in : List ℕ → List ℕ
bytes_in [] = []
bytes_in (c ∷ []) = []
bytes_in (c ∷ (d ∷ cs)) = if c == 32 then bytes_in (d ∷ cs) else (digit c * 16 + digit d) ∷ bytes_in cs

-- a segment: where it begins, from the first address of its side on, and its bytes
abbrev pub placed : List (ℕ × List ℕ) → List ℕ → List ℕ
placed [] bytes = bytes
placed (s ∷ segments) bytes = placed segments (take s.0 bytes ++ (s.1 ++ drop (s.0 + length s.1) bytes))

-- a guest of so many bytes, which begins at address 0
unfoldable pub guest_of : ℕ → List (ℕ × List ℕ) → GuestStart
guest_of size segments = record { bytes = placed segments (replicate size 0); entry = 0; size = size }

-- a real-time side of 512 bytes from 10FF0h on, with the stub and one module, whose init begins at 11000h
unfoldable pub module_of : ℕ → List ℕ → RealTimeStart
module_of version bytes = record {
  version = version;
  side = record { first = 0x10ff0; bytes = placed ((0, 0xcd ∷ 0xf9 ∷ []) ∷ (16, bytes) ∷ []) (replicate 512 0) };
  inits = 0x11000 ∷ [];
}

-- one of 64 bytes without a module
unfoldable pub no_module : RealTimeStart
no_module = record { version = 1; side = record { first = 0x10ff0; bytes = placed ((0, 0xcd ∷ 0xf9 ∷ []) ∷ []) (replicate 64 0) }; inits = [] }

-- both of them beside a script
abbrev pub run_of : GuestStart → RealTimeStart → List (ℕ × Event) → RunStart
run_of guest real script = record { guest = guest; real = real; script = script }

-- the lines of n ticks without end lines

abbrev pub r_of : GuestStart → RealTimeStart → List (ℕ × Event) → ℕ → List (ℕ × RLine)
r_of guest real script n = lines_to (both_r (run_of guest real script)) n

abbrev pub g_of : GuestStart → RealTimeStart → List (ℕ × Event) → ℕ → List (ℕ × GLine)
g_of guest real script n = lines_to (both_g (run_of guest real script)) n

abbrev pub h_of : GuestStart → RealTimeStart → List (ℕ × Event) → ℕ → List (ℕ × HLine)
h_of guest real script n = hardware (run_of guest real script) n (all_r (run_of guest real script) n) (calls_of (all_g (run_of guest real script) n))

-- all of them in one order
abbrev pub output_of : GuestStart → RealTimeStart → List (ℕ × Event) → ℕ → List (ℕ × Line)
output_of guest real script n = run_lines true (run_of guest real script) (all_r (run_of guest real script) n) (calls_of (all_g (run_of guest real script) n)) n

-- the guest's first end line after n ticks
abbrev pub guest_end : GuestStart → RealTimeStart → List (ℕ × Event) → ℕ → GLine
guest_end guest real script n = end_line (both_after (run_of guest real script) n).bare

-- and the real-time side's: how many threads are live and how many ready
abbrev pub real_time_end : GuestStart → RealTimeStart → List (ℕ × Event) → ℕ → Option RLine
real_time_end guest real script n = first_of (real_end (both_after (run_of guest real script) n).real)
