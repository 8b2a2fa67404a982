use Rattle.command_words.proofs.Taken.{by_command}
use Rattle.command_words.proofs.run.parse.Goals as goal

pub returns-in-Ok : goal.returns-in-Ok
returns-in-Ok c = by_command _ _ _ _ _ c.in-Ok.ensures c.parse_words.ensures
