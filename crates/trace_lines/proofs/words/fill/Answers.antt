use Rattle.std.proofs.Common.{arith, ◌≡◌, ◌<◌, ◌-◌, ◌+◌, length, take, Some, None, refl, sym, ◌∙◌}
use Rattle.std.proofs.Math.ListN.{set, length-set}
use Rattle.std.proofs.lemmas.List.{take_more_set}
use Rattle.trace_lines.specs.Words.{front_word, doubleword_in, words_in}
use Rattle.trace_lines.proofs.Filling.{one_more, no_more}
use Rattle.trace_lines.proofs.words.fill.Goals as goal

pub returns-in-None : goal.returns-in-None
returns-in-None c =
    let words = c.loop-word.words in
    let i = c.loop-word.word-index in
    let rest = c.loop-word.rest.now in
    let read : doubleword_in (front_word rest) ≡ None = cc in
    let none = no_more (length words - i) (length words - (i + 1)) (take i words) rest (omega arith) read in
    let all : words_in (length c.args.words.now) c.args.text.now ≡ None = sym c.loop-word.invariant.told ∙ none in
    rw all refl

pub loop-word-preserved : goal.loop-word-preserved
loop-word-preserved c =
    let words = c.loop-word.words in
    let i = c.loop-word.word-index in
    let n = c.in-Some.n in
    let rest = c.loop-word.rest.now in
    let inside : i < length words = omega arith in
    let read : doubleword_in (front_word rest) ≡ Some n = cc in
    let left : length (set words i n) - (i + 1) ≡ length words - (i + 1) = omega (arith, length-set words i n) in
    let more = one_more (length words - i) (length words - (i + 1)) (take i words) rest n (omega arith) read in
    record {
      told = rw (take_more_set words i n inside, left, c.cut.ensures.rest) (more ∙ c.loop-word.invariant.told);
      long = length-set words i n ∙ c.loop-word.invariant.long;
    }
