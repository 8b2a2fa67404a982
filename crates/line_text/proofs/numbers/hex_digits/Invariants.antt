use Rattle.std.proofs.Common.{◌≡◌, ◌<◌, ◌^◌, drop}
use Rattle.line_text.specs.Numbers.{hex_after}
use Rattle.line_text.proofs.numbers.hex_digits.Given as goal

-- the rest of the digits goes on from the number so far
abbrev pub invariant-loop-c : goal.invariant-loop-c
invariant-loop-c l = record {
  told : hex_after l.n (drop l.c-index l.text) ≡ hex_after 0 l.text;
  small : l.n < 16 ^ l.c-index;
}
