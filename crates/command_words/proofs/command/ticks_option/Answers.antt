use Rattle.std.proofs.Common.{rules}
use Rattle.command_words.proofs.command.ticks_option.Goals as goal

pub returns : goal.returns
returns c = search rules
