-- One unit of the processor: the instruction at EIP, or one iteration of a string instruction, performed, or what stands in its
-- way.
use Rattle.std.specs.Prelude.{ℕ, ◌+◌, ◌%◌, ◌^◌, List, length, if◌then◌else◌}
use Rattle.memory_model.specs.Side.{Side, bytes_from}
use Rattle.cpu_state.specs.Bus.{State, Ports}
use Rattle.cpu_state.specs.declared.registers.Access.TheVariants.{Fetch}
use Rattle.cpu_state.specs.declared.registers.Registers.{Registers}
use Rattle.i386_decode.specs.Reading.{decode_of}
use Rattle.i386_decode.specs.WellFormed.{is_string}
use Rattle.i386_decode.specs.declared.form.Decoded.{Decoded}
use Rattle.i386_decode.specs.declared.form.Decoded.TheVariants.{Form as Spelled, Undefined, Short}
use Rattle.i386_decode.specs.declared.form.Form.{Form}
use Rattle.i386_effects.specs.Change.{Change}
use Rattle.i386_effects.specs.Effect.{Effect, changed, effect_of, unchanged}
use Rattle.i386_effects.specs.declared.accesses.Touch.{Touch}
use Rattle.i386_effects.specs.declared.stepped.Stepped.{Stepped}
use Rattle.i386_effects.specs.declared.stepped.Stepped.TheVariants.{Next, Trap, Outside}
use Rattle.i386_strings.specs.Iteration.{IterationEffect, iteration}
use Rattle.i386_strings.specs.declared.iteration.Iteration.{Iteration}
use Rattle.i386_strings.specs.declared.iteration.Iteration.TheVariants.{More, Finished, Outside as OutsideAccess}
use Rattle.i386_execute.specs.Changes.{change}
use Rattle.i386_execute.specs.Loads.{loads}

-- the address so many bytes on
abbrev pub onward : ℕ → ℕ → ℕ
onward eip count = (eip + count) % 2 ^ 32

-- ---- an instruction that isn't a string instruction

-- the registers with EIP behind an instruction of n bytes
abbrev pub moved_on : ℕ → Registers → Registers
moved_on n regs = record regs { eip = onward regs.eip n }

-- its effect: its loads, and the change that their words give
unfoldable pub performed : {D : Type 0} → Ports D → Form → ℕ → Registers → State D → Effect D
performed ports form n regs st =
    effect_of ports (loads form.op form (moved_on n regs)) (change form.op form n (moved_on n regs)) regs st

-- the effect of one row of the tables, for an instruction of n bytes: its loads and its change are of the registers behind it
abbrev pub row : {D : Type 0} → Ports D → (Registers → List Touch) → (Registers → List ℕ → Change) → ℕ → Registers → State D → Effect D
row ports touches change_by n regs st = effect_of ports (touches (moved_on n regs)) (change_by (moved_on n regs)) regs st

-- and of one that loads nothing
abbrev pub plain_row : {D : Type 0} → Ports D → (Registers → Change) → ℕ → Registers → State D → Effect D
plain_row ports change_by n regs st = changed ports regs st (change_by (moved_on n regs))

-- ---- a string instruction

-- EIP moves behind it with its last iteration, and stays till then
abbrev pub stepped_on : Iteration → Stepped
stepped_on More = Next
stepped_on Finished = Next
stepped_on (OutsideAccess kind at) = Outside kind at

abbrev pub registers_on : Iteration → ℕ → Registers → Registers
registers_on More n regs = regs
registers_on Finished n regs = moved_on n regs
registers_on (OutsideAccess kind at) n regs = regs

abbrev pub string_unit : {D : Type 0} → ℕ → IterationEffect D → Effect D
string_unit n e = record { answer = stepped_on e.answer; registers = registers_on e.answer n e.registers; bus = e.bus }

-- ---- the unit at EIP

-- what bytes at EIP that spell this come to. Where they are the beginning of an instruction, the byte behind them is
-- the first that lies outside
abbrev pub unit_by : {D : Type 0} → ℕ → Ports D → Registers → State D → Decoded → Effect D
unit_by fetched ports regs st (Spelled form n) =
    if is_string form.op then string_unit n (iteration form regs st) else performed ports form n regs st
unit_by fetched ports regs st Undefined = unchanged (Trap 6) regs st
unit_by fetched ports regs st Short = unchanged (Outside Fetch (onward regs.eip fetched)) regs st

-- the bytes at EIP that are on the side, at most fifteen
abbrev pub fetched_at : ℕ → Side → List ℕ
fetched_at eip side = bytes_from side eip 15

-- What bytes spell is computed here. That this is what the relation of spellings says, a form, Short or Undefined exactly where
-- each is due, is the law `decided` of i386_decode.
unfoldable pub unit : {D : Type 0} → Ports D → Registers → State D → Effect D
unit ports regs st = unit_by (length (fetched_at regs.eip st.side)) ports regs st (decode_of (fetched_at regs.eip st.side))

-- the address behind what bytes at EIP spell
abbrev pub behind : ℕ → Decoded → ℕ
behind eip (Spelled form count) = onward eip count
behind eip Undefined = eip
behind eip Short = eip

unfoldable pub address_behind : Registers → Side → ℕ
address_behind regs side = behind regs.eip (decode_of (fetched_at regs.eip side))
