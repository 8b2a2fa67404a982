-- Ports and interrupts (Intel 80386 manual, sections 3.5.3 and 8.2).
use Rattle.std.specs.Prelude.{Bool, true, false, []}
use Rattle.cpu_state.specs.declared.registers.Registers.{Registers}
use Rattle.cpu_state.specs.declared.width.Width.TheVariants.{W8, W16}
use Rattle.i386_decode.specs.declared.form.Form.{Form}
use Rattle.i386_effects.specs.Operands.{value_of}
use Rattle.i386_effects.specs.Change.{Change, Done, In, Out, Interrupt}

-- IN: the port is the second operand
unfoldable pub port_read : Form → Registers → Change
port_read f r = In r (value_of W16 f.second r.general 0) f.width

-- OUT: the port is the first operand, the value the second
unfoldable pub port_written : Form → Registers → Change
port_written f r = Out r (value_of W16 f.first r.general 0) f.width (value_of f.width f.second r.general 0)

-- INT
unfoldable pub interrupted : Form → Registers → Change
interrupted f r = Interrupt (value_of W8 f.first r.general 0)

-- INTO: interrupt 4 with OF set, else nothing
abbrev pub interrupted_where : Bool → Registers → Change
interrupted_where true r = Interrupt 4
interrupted_where false r = Done r []

unfoldable pub interrupted_on_overflow : Registers → Change
interrupted_on_overflow r = interrupted_where r.eflags.overflow r
