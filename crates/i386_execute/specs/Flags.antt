-- Instructions on flags (Intel 80386 manual, section 3.8).
use Rattle.std.specs.Prelude.{ℕ, ◌%◌, true, false, not}
use Rattle.cpu_state.specs.Eflags.{bit, word_of}
use Rattle.cpu_state.specs.declared.eflags.Eflags.{Eflags}
use Rattle.cpu_state.specs.declared.op.Op.{Op}
use Rattle.cpu_state.specs.declared.op.Op.TheVariants.{Clc, Stc, Cmc, Cld, Std}
use Rattle.cpu_state.specs.declared.registers.Registers.{Registers}
use Rattle.cpu_state.specs.declared.width.Width.TheVariants.{W8}
use Rattle.i386_decode.specs.declared.form.Form.{Form}
use Rattle.i386_effects.specs.Operands.{part, with_part}
use Rattle.i386_effects.specs.Change.{Change}
use Rattle.i386_execute.specs.Results.{flagged, with_general}

-- row by row; any other operation leaves all as it is
unfoldable pub flags_by : Op → Eflags → Eflags
flags_by Clc f = record f { carry = false }
flags_by Stc f = record f { carry = true }
flags_by Cmc f = record f { carry = not f.carry }
flags_by Cld f = record f { direction = false }
flags_by Std f = record f { direction = true }
flags_by op f = f

unfoldable pub flag_changed : Form → Registers → Change
flag_changed f r = flagged r (flags_by f.op r.eflags)

-- SF, ZF, AF, PF and CF of a byte; the other flags stay
abbrev pub sahf_of : ℕ → Eflags → Eflags
sahf_of byte f = record f {
  carry = bit byte 0;
  parity = bit byte 2;
  adjust = bit byte 4;
  zero = bit byte 6;
  sign = bit byte 7;
}

-- SAHF: from AH, which is register 4 of the byte registers
unfoldable pub sahf : Registers → Change
sahf r = flagged r (sahf_of (part W8 4 r.general) r.eflags)

-- LAHF: the low byte of EFLAGS to AH
unfoldable pub lahf : Registers → Change
lahf r = with_general r (with_part W8 4 (word_of r.eflags % 256) r.general)
