-- What each mnemonic loads, in order: its operand in memory, else from the stack (Intel 80386 manual, chapter 17). An operand
-- is loaded also where nothing changes, as by a shift of 0 places (this machine's own rule).
use Rattle.std.specs.Prelude.{List, [], ◌++◌}
use Rattle.cpu_state.specs.declared.op.Op.{Op}
use Rattle.cpu_state.specs.declared.op.Op.TheVariants as op
use Rattle.cpu_state.specs.declared.registers.Registers.{Registers}
use Rattle.cpu_state.specs.declared.width.Width.TheVariants.{W32}
use Rattle.i386_decode.specs.declared.form.Form.{Form}
use Rattle.i386_effects.specs.Operands.{touches_of}
use Rattle.i386_effects.specs.declared.accesses.Touch.{Touch}
use Rattle.i386_execute.specs.Bits.{tested_touches}
use Rattle.i386_execute.specs.Moves.{extended_touches, table_touches}
use Rattle.i386_execute.specs.Stack.{top_touches, all_touches, frame_touches}

-- the first operand, the second, and both
unfoldable pub first_touches : Form → Registers → List Touch
first_touches f r = touches_of f.width f.first r.general

unfoldable pub second_touches : Form → Registers → List Touch
second_touches f r = touches_of f.width f.second r.general

unfoldable pub both_touches : Form → Registers → List Touch
both_touches f r = touches_of f.width f.first r.general ++ touches_of f.width f.second r.general

unfoldable pub loads : Op → Form → Registers → List Touch
-- data movement
loads op.Mov f r = second_touches f r
loads op.Movzx f r = extended_touches f r
loads op.Movsx f r = extended_touches f r
loads op.Xchg f r = first_touches f r
loads op.Xlat f r = table_touches r
loads op.Push f r = first_touches f r
loads op.Pop f r = top_touches f.width r
loads op.Popa f r = all_touches r
-- arithmetic and logic
loads op.Add f r = both_touches f r
loads op.Or f r = both_touches f r
loads op.Adc f r = both_touches f r
loads op.Sbb f r = both_touches f r
loads op.And f r = both_touches f r
loads op.Sub f r = both_touches f r
loads op.Xor f r = both_touches f r
loads op.Cmp f r = both_touches f r
loads op.Test f r = both_touches f r
loads op.Inc f r = first_touches f r
loads op.Dec f r = first_touches f r
loads op.Not f r = first_touches f r
loads op.Neg f r = first_touches f r
loads op.Mul f r = first_touches f r
loads op.Imul f r = both_touches f r
loads op.Div f r = first_touches f r
loads op.Idiv f r = first_touches f r
-- shifts and rotations
loads op.Rol f r = first_touches f r
loads op.Ror f r = first_touches f r
loads op.Rcl f r = first_touches f r
loads op.Rcr f r = first_touches f r
loads op.Shl f r = first_touches f r
loads op.Shr f r = first_touches f r
loads op.Sar f r = first_touches f r
loads op.Shld f r = first_touches f r
loads op.Shrd f r = first_touches f r
-- bits
loads op.Bt f r = tested_touches f r
loads op.Bts f r = tested_touches f r
loads op.Btr f r = tested_touches f r
loads op.Btc f r = tested_touches f r
loads op.Bsf f r = second_touches f r
loads op.Bsr f r = second_touches f r
-- transfer of control
loads op.Jmp f r = first_touches f r
loads op.Call f r = first_touches f r
loads op.Ret f r = top_touches W32 r
loads op.Leave f r = frame_touches r
-- All others load nothing. MOVS, CMPS, STOS, LODS and SCAS have no row here: their unit is one iteration, so that this row
-- never comes for them.
loads o f r = []
