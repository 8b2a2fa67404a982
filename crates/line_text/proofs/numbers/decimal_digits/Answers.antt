use Rattle.std.proofs.Common.{arith, rules, refl, ◌+◌, ◌*◌, ◌-◌, get_or}
use Rattle.line_text.proofs.Digits.{stops_at}
use Rattle.line_text.proofs.numbers.decimal_digits.Goals as goal

pub returns-then-next-from : goal.returns-then-next-from
returns-then-next-from c = stops_at c.args.text.now c.loop-c.c-index c.loop-c.n (c.loop-c.n * 10 + (get_or c.args.text.now c.loop-c.c-index 0 - 48)) (omega arith) c.loop-c.invariant.told (search rules) refl (omega arith)
