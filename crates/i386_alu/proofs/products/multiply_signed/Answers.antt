use Rattle.std.proofs.Common.{rules}
use Rattle.i386_alu.specs.Product.{multiply_of}
use Rattle.i386_alu.proofs.products.multiply_signed.Goals as goal

pub returns-clause-flags : goal.returns-clause-flags
unfolding multiply_of
returns-clause-flags c = search rules
