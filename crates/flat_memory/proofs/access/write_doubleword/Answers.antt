use Rattle.std.proofs.Common.{refl}
use Rattle.byteorder.specs.Endian.{little_bytes}
use Rattle.flat_memory.proofs.Written.{written}
use Rattle.flat_memory.proofs.access.write_doubleword.Goals as goal

pub returns : goal.returns
returns c = written c.args.place 4 _ c.args.bytes.now (little_bytes 4 c.args.value) _ c.requires refl c.write_u32.ensures
