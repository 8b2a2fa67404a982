use Rattle.std.proofs.Common.{rules}
use Rattle.i386_decode.proofs.fields.address.Goals as goal

pub returns-then-mode_of-eq-BYTE_DISPLACEMENT : goal.returns-then-mode_of-eq-BYTE_DISPLACEMENT
returns-then-mode_of-eq-BYTE_DISPLACEMENT c = search rules
