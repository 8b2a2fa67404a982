use Rattle.std.proofs.Common.{◌≡◌, ◌-◌, length, take}
use Rattle.trace_lines.specs.Words.{words_in}
use Rattle.trace_lines.proofs.Filling.{onto}
use Rattle.trace_lines.proofs.words.fill.Given as goal

-- the words so far and those that are left are all
abbrev pub invariant-loop-word : goal.invariant-loop-word
invariant-loop-word l = record {
  told : onto (take l.word-index l.words) (words_in (length l.words - l.word-index) l.rest) ≡ words_in (length l.fn.words) l.text;
  long : length l.words ≡ length l.fn.words;
}
