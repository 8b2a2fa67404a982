use Rattle.std.proofs.Common.{sym}
use Rattle.clap.specs.Words.{found_of}
use Rattle.command_words.proofs.Taken.{given}
use Rattle.command_words.proofs.make.given_words.Goals as goal

pub returns : goal.returns
returns c =
    let got = c.in_ok-matches.ensures in (
      got.0,
      given (found_of c.in_ok-matches.matches) _ _ _ got.1 (sym (rw c.in-Some.is at c.get_str.ensures)) (sym (rw c.in-Some-get_str.is at c.get_str-2.ensures)),
    )
