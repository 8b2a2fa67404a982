-- What each mnemonic changes, once the words that it loads are known (Intel 80386 manual, chapter 17). The registers have their
-- EIP behind the instruction already, which has n bytes.
use Rattle.std.specs.Prelude.{ℕ, List, true, false}
use Rattle.cpu_state.specs.declared.op.Op.{Op}
use Rattle.cpu_state.specs.declared.op.Op.TheVariants as op
use Rattle.cpu_state.specs.declared.registers.Privileged.TheVariants.{Cli, Sti, Iret, Pushf, Popf, Hlt}
use Rattle.cpu_state.specs.declared.registers.Registers.{Registers}
use Rattle.i386_decode.specs.declared.form.Form.{Form}
use Rattle.i386_effects.specs.Change.{Change, Trap, Interrupt, Privileged}
use Rattle.i386_execute.specs.Arithmetic.{combined, compared, altered, shifted, double_shifted}
use Rattle.i386_execute.specs.Bits.{tested, bit_changed, scanned}
use Rattle.i386_execute.specs.Flags.{flag_changed, sahf, lahf}
use Rattle.i386_execute.specs.Interrupts.{port_read, port_written, interrupted, interrupted_on_overflow}
use Rattle.i386_execute.specs.Jumps.{branched, looped, jumped_at_zero}
use Rattle.i386_execute.specs.Moves.{copied, exchanged, zero_extended, sign_extended, widened, sign_spread, addressed, translated, set_where}
use Rattle.i386_execute.specs.Products.{multiplied, signed_multiplied, divided}
use Rattle.i386_execute.specs.Stack.{pushed, all_pushed, popped, all_popped, leave, called, returned, jumped}

unfoldable pub change : Op → Form → ℕ → Registers → List ℕ → Change
-- data movement
change op.Mov f n r ws = copied f r ws
change op.Movzx f n r ws = zero_extended f r ws
change op.Movsx f n r ws = sign_extended f r ws
change op.Xchg f n r ws = exchanged f r ws
change op.Lea f n r ws = addressed f r
change op.Xlat f n r ws = translated r ws
change op.Push f n r ws = pushed f r ws
change op.Pusha f n r ws = all_pushed r
change op.Pop f n r ws = popped f r ws
change op.Popa f n r ws = all_popped r ws
-- arithmetic and logic
change op.Add f n r ws = combined f r ws
change op.Or f n r ws = combined f r ws
change op.Adc f n r ws = combined f r ws
change op.Sbb f n r ws = combined f r ws
change op.And f n r ws = combined f r ws
change op.Sub f n r ws = combined f r ws
change op.Xor f n r ws = combined f r ws
change op.Cmp f n r ws = compared f r ws
change op.Test f n r ws = compared f r ws
change op.Inc f n r ws = altered f r ws
change op.Dec f n r ws = altered f r ws
change op.Not f n r ws = altered f r ws
change op.Neg f n r ws = altered f r ws
change op.Mul f n r ws = multiplied false f r ws
change op.Imul f n r ws = signed_multiplied f r ws
change op.Div f n r ws = divided false f r ws
change op.Idiv f n r ws = divided true f r ws
change op.Cbw f n r ws = widened f r
change op.Cwd f n r ws = sign_spread f r
-- shifts and rotations
change op.Rol f n r ws = shifted f r ws
change op.Ror f n r ws = shifted f r ws
change op.Rcl f n r ws = shifted f r ws
change op.Rcr f n r ws = shifted f r ws
change op.Shl f n r ws = shifted f r ws
change op.Shr f n r ws = shifted f r ws
change op.Sar f n r ws = shifted f r ws
change op.Shld f n r ws = double_shifted f r ws
change op.Shrd f n r ws = double_shifted f r ws
-- bits
change op.Bt f n r ws = tested f r ws
change op.Bts f n r ws = bit_changed f r ws
change op.Btr f n r ws = bit_changed f r ws
change op.Btc f n r ws = bit_changed f r ws
change op.Bsf f n r ws = scanned f r ws
change op.Bsr f n r ws = scanned f r ws
change op.Setcc f n r ws = set_where f r
-- transfer of control
change op.Jcc f n r ws = branched f r
change op.Jmp f n r ws = jumped f r ws
change op.Call f n r ws = called f r ws
change op.Ret f n r ws = returned f r ws
change op.Leave f n r ws = leave r ws
change op.Loop f n r ws = looped f r
change op.Loope f n r ws = looped f r
change op.Loopne f n r ws = looped f r
change op.Jecxz f n r ws = jumped_at_zero f r
change op.Int3 f n r ws = Interrupt 3
change op.Int f n r ws = interrupted f r
change op.Into f n r ws = interrupted_on_overflow r
change op.Iret f n r ws = Privileged Iret n
-- flags
change op.Clc f n r ws = flag_changed f r
change op.Stc f n r ws = flag_changed f r
change op.Cmc f n r ws = flag_changed f r
change op.Cld f n r ws = flag_changed f r
change op.Std f n r ws = flag_changed f r
change op.Cli f n r ws = Privileged Cli n
change op.Sti f n r ws = Privileged Sti n
change op.Sahf f n r ws = sahf r
change op.Lahf f n r ws = lahf r
change op.Pushf f n r ws = Privileged Pushf n
change op.Popf f n r ws = Privileged Popf n
-- ports and the processor
change op.In f n r ws = port_read f r
change op.Out f n r ws = port_written f r
change op.Hlt f n r ws = Privileged Hlt n
-- MOVS, CMPS, STOS, LODS and SCAS have no row here: their unit is one iteration, so that this row never comes
change o f n r ws = Trap 6
