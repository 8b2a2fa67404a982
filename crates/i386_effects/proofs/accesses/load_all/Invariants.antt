use Rattle.std.proofs.Common.{◌≡◌, ◌++◌, length, drop}
use Rattle.i386_effects.specs.Accesses.{first_outside, words_at}
use Rattle.i386_effects.proofs.accesses.load_all.Given as goal

-- the words so far, and those that are left, are all
abbrev pub invariant-loop-touch : goal.invariant-loop-touch
invariant-loop-touch g l = record {
  inside : first_outside (g.B.Bus.state l.bus).side (drop l.touch-index l.touches) ≡ first_outside (g.B.Bus.state l.bus).side l.touches;
  words : l.words ++ words_at (g.B.Bus.state l.bus).side (drop l.touch-index l.touches) ≡ words_at (g.B.Bus.state l.bus).side l.touches;
  count : length l.words ≡ l.touch-index;
}
