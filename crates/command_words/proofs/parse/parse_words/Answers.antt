use Rattle.std.proofs.Common.{◌∙◌, sym}
use Rattle.std.proofs.lemmas.Bool.{false≢true}
use Rattle.clap.specs.Words.{app_of}
use Rattle.command_words.proofs.Taken.{taken, refused, rows, plain}
use Rattle.command_words.proofs.parse.parse_words.Goals as goal

pub returns-in-Ok : goal.returns-in-Ok
returns-in-Ok c =
    let free = c.requires in
    let said = c.in-Ok.ensures in (
      taken _ _ (said.kinds free),
      rows _ _ _ (said.matches (plain (app_of c.args.command) free)).0,
      said.parsed,
    )

pub returns : goal.returns
returns c =
    refused _ _ c.in-Err.fault (λ h. let told = rw (c.kind.ensures ∙ h) at c.eq.ensures in false≢true (sym c.if-eq.false ∙ told))
    (c.in-Err.ensures.kinds c.requires)
