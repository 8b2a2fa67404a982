-- A run of the bare machine beside given real-time lines.
use Rattle.std.specs.Prelude.{ℕ, suc, zero, List, [], ◌∷◌, ◌++◌}
use Rattle.device_script.specs.declared.event.Event.{Event}
use Rattle.line_kinds.specs.declared.kinds.GLine.{GLine}
use Rattle.line_kinds.specs.declared.kinds.GLine.TheVariants.{End, Memory}
use Rattle.line_kinds.specs.declared.kinds.RLine.{RLine}
use Rattle.side_digest.specs.Digest.{digest}
use Rattle.soft_entry.specs.Entry.{flags_word}
use Rattle.run_lines.specs.Says.{sight}
use Rattle.run_lines.specs.Ticks.{at_tick, stamped, lines_to}
use Rattle.bare_machine.specs.State.{Bare, GuestStart, first_state}
use Rattle.bare_machine.specs.Tick.{bare_tick, bare_tick_lines}

-- the state after n ticks
unfoldable pub bare_after : GuestStart → List (ℕ × Event) → List (ℕ × RLine) → ℕ → Bare
bare_after start script r zero = first_state start
bare_after start script r (suc n) = bare_tick (suc n) (at_tick (suc n) script) (sight n r) (bare_after start script r n)

-- the lines of the tick after n ticks
unfoldable pub bare_lines : GuestStart → List (ℕ × Event) → List (ℕ × RLine) → ℕ → List GLine
bare_lines start script r n = bare_tick_lines (suc n) (at_tick (suc n) script) (sight n r) (bare_after start script r n)

-- the first end line: the mode, then EIP, EFLAGS with bit 9 equal to the flag, and the general registers
abbrev pub end_line : Bare → GLine
end_line b = End b.mode (b.registers.eip ∷ flags_word b.soft.flag b.registers.eflags ∷ b.registers.general)

-- both end lines: the second is the digest of the side
abbrev pub bare_end : Bare → List GLine
bare_end b = end_line b ∷ Memory (digest b.side.bytes) ∷ []

-- the lines of ticks 1 to n
abbrev pub bare_run : GuestStart → List (ℕ × Event) → List (ℕ × RLine) → ℕ → List (ℕ × GLine)
bare_run start script r n = lines_to (bare_lines start script r) n

-- and the end lines
abbrev pub bare : GuestStart → List (ℕ × Event) → ℕ → List (ℕ × RLine) → List (ℕ × GLine)
bare start script n r = bare_run start script r n ++ stamped n (bare_end (bare_after start script r n))
