use Rattle.std.proofs.Common.{◌≡◌, ◌/◌, arith}
use Rattle.cpu_state.proofs.SetBits.{made_from}
use Rattle.cpu_state.proofs.eflags.EflagsFlags.from_bits_retain.Goals as goal

pub returns-clause-bits : goal.returns-clause-bits
returns-clause-bits c =
    let whole : c.args.bits / 1 ≡ c.args.bits = omega arith in
    rw whole at (made_from c.args.bits c.ranges.bits.fits)
