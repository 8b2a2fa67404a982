use Rattle.std.proofs.Common.{◌∙◌, ap₂, refl}
use Rattle.clap.specs.Words.{with_rule}
use Rattle.command_words.proofs.command.needing_command.Goals as goal

pub returns : goal.returns
returns c =
    let bare = c.bare_command.ensures in
    let positional = c.positional-positional.ensures in
    let ticks = c.ticks_option-ticks.ensures in
    let first_added = c.in_ok-arg.ensures in
    let second_added = c.in_ok-command.ensures in
    record {
      start = c.bare_command.result;
      bare = bare;
      first = c.positional-positional.result;
      positional = positional;
      second = c.ticks_option-ticks.result;
      ticks = ticks;
      chain = (_, first_added, (_, second_added, refl));
      shape = second_added.shape ticks.local
          ∙ ap₂ with_rule (first_added.shape positional.local ∙ ap₂ with_rule bare.shape positional.shape) ticks.shape;
    }
