use Rattle.trace_lines.proofs.Own.{is_own, line_again, texts_law}
use Rattle.trace_lines.proofs.read.one_line_a_text.Goals as goal

pub returns-clause-differ : goal.returns-clause-differ
returns-clause-differ c = texts_law

pub returns-clause-own : goal.returns-clause-own
returns-clause-own c = is_own

pub returns-clause-read : goal.returns-clause-read
returns-clause-read c = line_again
