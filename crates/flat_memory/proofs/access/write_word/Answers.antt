use Rattle.std.proofs.Common.{refl}
use Rattle.flat_memory.proofs.Written.{word_written}
use Rattle.flat_memory.proofs.access.write_word.Goals as goal

pub returns : goal.returns
returns c = word_written c.args.place _ c.args.value c.args.bytes.now _ c.requires refl c.write_u16.ensures
