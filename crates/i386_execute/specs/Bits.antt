-- Bit tests and bit scans (Intel 80386 manual, sections 3.4.2 and 3.4.3, and BT, BTS, BTR, BTC, BSF and BSR in chapter 17).
use Rattle.std.specs.Prelude.{ℕ, ◌+◌, ◌-◌, ◌*◌, ◌/◌, ◌%◌, ◌^◌, List, [], ◌∷◌, Option, Some, None, Result, Ok, Err, if◌then◌else◌}
use Rattle.memory_model.specs.Side.{Side, inside, word_at}
use Rattle.cpu_state.specs.Width.{size, bits, modulus, top}
use Rattle.cpu_state.specs.declared.registers.Registers.{Registers}
use Rattle.cpu_state.specs.declared.width.Width.{Width}
use Rattle.i386_alu.specs.Bit.{bit_of}
use Rattle.i386_alu.specs.Computed.{Computed}
use Rattle.i386_alu.specs.Scan.{scan_of}
use Rattle.i386_decode.specs.declared.form.Form.{Form}
use Rattle.i386_decode.specs.declared.form.Operand.{Operand}
use Rattle.i386_decode.specs.declared.form.Operand.TheVariants.{Memory, Register}
use Rattle.i386_effects.specs.Operands.{part, effective_address, value_of, with_operand}
use Rattle.i386_effects.specs.Change.{Change, Done}
use Rattle.i386_effects.specs.declared.accesses.Touch.{Touch}
use Rattle.i386_effects.specs.declared.accesses.Write.{Write}
use Rattle.i386_execute.specs.Results.{first, second, computed, flagged}

-- how many bytes away the operand stands that holds bit n, a signed number of the width, modulo 2^32: n divided by the bits of
-- an operand and rounded down, in bytes. A number below 0 is its word less the modulus, of which each operand's bits are a part
abbrev pub bytes_away : Width → ℕ → ℕ
bytes_away w n = n / bits w * size w + (if top w n then 2 ^ 32 - modulus w / 8 else 0)

-- where the tested operand stands, if in memory: a register names a bit far or near, an immediate one of the operand itself
abbrev pub tested_at : Width → Operand → Operand → List ℕ → Option ℕ
tested_at w (Memory a) (Register r) g = Some ((effective_address a g + bytes_away w (part w r g)) % 2 ^ 32)
tested_at w (Memory a) _ g = Some (effective_address a g)
tested_at w _ _ g = None

abbrev pub touch_at : Width → Option ℕ → List Touch
touch_at w (Some at) = record { at = at; width = w } ∷ []
touch_at w None = []

abbrev pub write_at : Width → ℕ → Option ℕ → List Write
write_at w x (Some at) = record { at = at; width = w; value = x } ∷ []
write_at w x None = []

unfoldable pub tested_touches : Form → Registers → List Touch
tested_touches f r = touch_at f.width (tested_at f.width f.first f.second r.general)

-- the tested operand, read where it stands, or the address where it lies outside
abbrev pub tested_read : Side → Width → Operand → Option ℕ → List ℕ → Result ℕ ℕ
tested_read side w o (Some at) g = if inside side at (size w) then Ok (value_of w o g (word_at side at (size w))) else Err at
tested_read side w o None g = Ok (value_of w o g 0)

-- the bit of the operand, by its number modulo the width
abbrev pub bit_tested : Form → Registers → List ℕ → Computed
bit_tested f r ws = bit_of f.op f.width (first f r ws) (value_of f.width f.second r.general 0 % bits f.width) r.eflags

-- BT keeps the flags alone
unfoldable pub tested : Form → Registers → List ℕ → Change
tested f r ws = flagged r (bit_tested f r ws).flags

-- BTS, BTR and BTC change the operand
unfoldable pub bit_changed : Form → Registers → List ℕ → Change
bit_changed f r ws =
    Done (record r { general = with_operand f.width f.first (bit_tested f r ws).value r.general; eflags = (bit_tested f r ws).flags })
    (write_at f.width (bit_tested f r ws).value (tested_at f.width f.first f.second r.general))

-- BSF and BSR scan the second operand
unfoldable pub scanned : Form → Registers → List ℕ → Change
scanned f r ws = computed f r (scan_of f.op (second f r ws) (first f r ws) r.eflags)
